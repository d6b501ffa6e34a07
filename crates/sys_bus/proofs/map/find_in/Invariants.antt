use Rattle.std.proofs.Common.{◌≡◌, drop}
use Rattle.sys_bus.specs.Maps.{window_from}
use Rattle.sys_bus.proofs.map.find_in.Given as goal

abbrev pub invariant-windows : goal.invariant-windows
invariant-windows l = window_from 0 l.windows l.addr l.size ≡ window_from l.port (drop l.port l.windows) l.addr l.size
