-- The plan of a configuration's run: how often its devices are served, and how much its master does.
use Rattle.cos_config.specs.declared.config.Config.{Config}
use Rattle.cosim_model.specs.declared.values.Plan.{Plan}

abbrev pub plan_of : Config → Plan
plan_of c = record { quantum = c.quantum; units = c.units }
