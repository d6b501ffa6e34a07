use Rattle.std.proofs.Common.{◌≡◌, All, List, None, length, map}
use Rattle.std.specs.Prelude.{Option}
use Rattle.cos_base.specs.Links.{Wire}
use Rattle.ends_model.specs.World.{machine_start}
use Rattle.rp_packet.specs.declared.fault.Cause.{Cause}
use Rattle.machine_turns.specs.Ends.{core_of}
use Rattle.end_machine.specs.Wires.{AllTell, said_on}
use Rattle.end_machine.specs.Going.{Going, InRun}
use Rattle.end_machine.proofs.Measures.{Holds}
use Rattle.end_machine.proofs.StepLaws.{remaining}
use Rattle.end_machine.proofs.driving.run.Given as goal

abbrev pub invariant-turns : goal.invariant-turns
invariant-turns g l = record {
  kept : l.end.kept ≡ None;
  ports : length l.links ≡ length l.end.ports;
  size : length l.links ≡ length l.fn.links;
  holds : Holds g.M.Master.model l.fn.end.clear.plan (length l.fn.links) (core_of l.end);
  counts : map g.L.Link.count l.links ≡ map g.L.Link.count l.fn.links;
  is_sound : All g.L.Link.sound l.fn.links → All g.L.Link.sound l.links;
  runs :
      InRun g.M.Master.model (machine_start Cause l.fn.end.clear.master (length l.fn.links) l.fn.end.clear.plan)
      (length l.fn.links) l.end;
  goes :
      (ws : List Wire) → AllTell (map g.L.Link.told l.fn.links) ws
      → Going g.M.Master.model (machine_start Cause l.fn.end.clear.master (length l.fn.links) l.fn.end.clear.plan)
      (said_on ws) l.end
      (map g.L.Link.told l.links);
}

abbrev pub decreases-turns : goal.decreases-turns
decreases-turns g l = remaining g.M.Master.model l.fn.end.clear.plan (length l.fn.links) l.end
