use Rattle.std.proofs.Common.{◌≡◌, drop}
use Rattle.sys_bus.specs.Maps.{misaligned_found}
use Rattle.sys_bus.proofs.map.misaligned_window.Given as goal

abbrev pub invariant-windows : goal.invariant-windows
invariant-windows l = misaligned_found 0 l.windows ≡ misaligned_found l.number (drop l.number l.windows)
