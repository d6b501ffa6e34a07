use Rattle.std.proofs.Common.{◌≡◌, ◌++◌, drop}
use Rattle.sys_bus.specs.Maps.{parts_of, window_parts}
use Rattle.sys_bus.proofs.map.parts.Given as goal

abbrev pub invariant-windows : goal.invariant-windows
invariant-windows l = parts_of l.fn.windows l.fn.ram ≡ l.all.items ++ window_parts (drop l.window-index l.windows)
