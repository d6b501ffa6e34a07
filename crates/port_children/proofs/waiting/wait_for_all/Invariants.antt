use Rattle.std.proofs.Common.{◌≤◌, take, drop, IfSome}
use Rattle.outcomes.specs.Seen.{seen}
use Rattle.port_children.specs.Waited.{AllRun, IsWaited, NotSpawner}
use Rattle.port_children.proofs.waiting.wait_for_all.Given as goal

abbrev pub invariant-children : goal.invariant-children
invariant-children g l = record {
  waited : IsWaited (take l.port l.numbers) (seen g.S.Spawner.count g.S.Spawner.told l.fn.children l.children) l.first;
  grew : g.S.Spawner.count l.fn.children ≤ g.S.Spawner.count l.children;
  is_sound : g.S.Spawner.sound l.fn.children → g.S.Spawner.sound l.children
      × (IfSome (g.S.Spawner.told l.fn.children) (AllRun l.numbers)
      → IfSome (g.S.Spawner.told l.children) (AllRun (drop l.port l.numbers)) × NotSpawner l.first);
}
