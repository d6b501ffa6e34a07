use Rattle.cosim_ends.proofs.FittingParts.{fits}
use Rattle.cosim_ends.proofs.fitting.parts_fit.Goals as goal

pub returns : goal.returns
returns c =
    fits c.args.config.now c.args.machine.now.master c.args.machine.now.devices.items c.requires.limits c.requires.kinds
    c.requires.fresh c.requires.reach c.requires.issued
