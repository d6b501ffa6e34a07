-- The theorem on every schedule, whole.
use Rattle.std.proofs.Common.{ℕ, List}
use Rattle.process_network.specs.Network.{Network, IsMonotone, start, Step, after_all, IsQuiescent, IsOneResult, IsSmall, turns}
use Rattle.process_network.proofs.QuiescentWorlds.{schedule_run, script_final, sent_prefix, run_prefix, quiescent_same}
use Rattle.process_network.proofs.StepBound.{effective_bound}
use Rattle.process_network.proofs.Progress.{progress}

pub every_schedule : {S : Type 0} (net : Network S) (monotone : IsMonotone net) (script : List Step) (nodes : ℕ) → IsQuiescent net (after_all net (start net) script) → IsSmall nodes (after_all net (start net) script) (turns net script) → IsOneResult net script nodes
every_schedule net monotone script nodes quiescent small =
    let f = after_all net (start net) script in
    let m = turns net script in
    let fin = script_final net monotone script quiescent in
    record {
      prefix = λ ss i j. sent_prefix net monotone script quiescent ss i j;
      on_the_way = λ ss i. let r = run_prefix net monotone script quiescent ss i in (turns net ss i, r.0, r.1);
      same = λ ss here. quiescent_same net monotone script quiescent ss here;
      progress = λ ss. progress net monotone nodes (after_all net (start net) ss) f (turns net ss) m small (schedule_run net monotone ss) fin (sent_prefix net monotone script quiescent ss);
      bound = λ ss. effective_bound net monotone nodes f m small fin ss;
    }
