use Rattle.std.proofs.Common.{◌≡◌}
use Rattle.std.specs.declared.option.Option.TheVariants.{None}
use Rattle.sys_bus.specs.Units.{bus_awaited}
use Rattle.bench_bus.proofs.run.Given as goal

abbrev pub invariant-units : goal.invariant-units
invariant-units l = bus_awaited l.master.waiting ≡ None
