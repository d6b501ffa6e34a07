-- The steps as those of a star: the machine is the hub, and the device of a port is a leaf.
use Rattle.process_network.specs.Star.{StarStep}
use Rattle.process_network.specs.Star.StarStep.{HubTurn, LeafTurn, DeliverOut, DeliverBack}
use Rattle.cos_schedules.specs.declared.step.Step.{Step}
use Rattle.cos_schedules.specs.declared.step.Step.TheVariants.{Machine, Device, Deliver}
use Rattle.cos_schedules.specs.declared.step.Way.TheVariants.{Out, Back}

abbrev pub star_step : Step → StarStep
star_step Machine = HubTurn
star_step (Device port) = LeafTurn port
star_step (Deliver port Out count) = DeliverOut port count
star_step (Deliver port Back count) = DeliverBack port count
