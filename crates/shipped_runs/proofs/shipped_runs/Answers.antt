use Rattle.cosim_inputs.specs.Fresh.{master_of}
use Rattle.cos_config.specs.Plans.{plan_of}
use Rattle.shipped_runs.specs.Ports.{ports_of}
use Rattle.shipped_runs.proofs.Fitting.{judged-fits}
use Rattle.shipped_runs.proofs.shipped_runs.Goals as goal

pub returns-clause-schedules : goal.returns-clause-schedules
returns-clause-schedules c sockets text k files is =
    c.every_schedule.ensures.schedules (plan_of k) (master_of files k) (ports_of files k.ports) (judged-fits sockets text k files is)

pub returns-clause-room : goal.returns-clause-room
returns-clause-room c sockets text k files is =
    c.every_schedule.ensures.room (plan_of k) (master_of files k) (ports_of files k.ports) (judged-fits sockets text k files is)

pub returns-clause-bounded : goal.returns-clause-bounded
returns-clause-bounded c sockets text k files is =
    c.every_schedule.ensures.bounded (plan_of k) (master_of files k) (ports_of files k.ports) (judged-fits sockets text k files is)

pub returns-clause-over_links : goal.returns-clause-over_links
returns-clause-over_links c sockets text k files is =
    c.every_schedule.ensures.over_links (plan_of k) (master_of files k) (ports_of files k.ports) (judged-fits sockets text k files is)
