-- A world in which no step is effective is the one world that the given schedule ends in.
use Rattle.std.proofs.Common.{◌≡◌, ℕ, ◌≤◌, false, List, length, Option, Some, None, is_some, refl, sym, ap, ◌∙◌, subst, arith, ltb-false, le_antisymm}
use Rattle.process_network.specs.Network.{handed_over, Streams, Network, IsMonotone, World, received, start, Step, delivered_after, after_all, IsQuiescent, IsRun, IsClosed, IsSame, turns}
use Rattle.process_network.specs.Network.Step.{Turn, Deliver}
use Rattle.process_network.proofs.Prefixes.{prefix_length, prefix_antisym}
use Rattle.process_network.proofs.ProcessRuns.{runs_same}
use Rattle.process_network.proofs.ReachableWorlds.{IsOnRun, IsFinal, run_start, all_run, Under, all_under, under_start, final_closed, on_the_way}

none_of : {A : Type 0} (r : Option A) → is_some r ≡ false → r ≡ None
none_of None e = refl
none_of (Some x) e = absurd (grind arith)

pub quiescent_final : {S : Type 0} (net : Network S) (w : World S) (k : ℕ → ℕ) → IsOnRun net w k → IsQuiescent net w → IsFinal net w k
quiescent_final net w k h quiescent = record {
  run = h;
  stop = λ i. none_of (net.turn i (w.state i) (received w i)) (quiescent (Turn i));
  all = λ i j.
      let l : w.delivered i j ≤ length (w.sent i j) = h.within i j in
      let m : handed_over (w.delivered i j) (w.sent i j) (length (w.sent i j)) ≤ w.delivered i j = ltb-false (w.delivered i j) (delivered_after w i j (length (w.sent i j))) (quiescent (Deliver i j (length (w.sent i j)))) in
      omega arith;
}

pub agree : {S : Type 0} (net : Network S) → IsMonotone net → (w f : World S) (k n : ℕ → ℕ) → IsFinal net w k → IsFinal net f n → Under w f.sent → Under f w.sent → IsSame w f
agree net monotone w f k n hw hf u v =
    let sent : (i j : ℕ) → w.sent i j ≡ f.sent i j = λ i j. prefix_antisym (w.sent i j) (f.sent i j) (u i j) (prefix_length (f.sent i j) (w.sent i j) (v i j)) in
    record {
      state = λ i.
          let there = on_the_way net monotone w f k n hw.run hf u i in
          let e : k i ≡ n i = le_antisymm there.0 (on_the_way net monotone f w n k hf.run hw v i).0 in
          (runs_same net i (received f i) (n i) (w.state i) (f.state i) (w.sent i) (f.sent i) (subst (λ c. IsRun net i (received f i) c (w.state i) (w.sent i)) e there.1) (hf.run.runs i)).0;
      sent = sent;
      delivered = λ i j. hw.all i j ∙ ap length (sent i j) ∙ sym (hf.all i j);
    }

module _ {S : Type 0} (net : Network S) (monotone : IsMonotone net) where
  pub schedule_run : (ss : List Step) → IsOnRun net (after_all net (start net) ss) (turns net ss)
  schedule_run ss = all_run net monotone (start net) (λ i. 0) ss (run_start net)

  pub schedule_under : (ss : List Step) (z : ℕ → Streams) → IsClosed net z → Under (after_all net (start net) ss) z
  schedule_under ss z closed = all_under net monotone (start net) z (λ i. 0) ss (run_start net) closed (under_start net z)

  -- `script` is a schedule after which no step is effective
  module _ (script : List Step) (quiescent : IsQuiescent net (after_all net (start net) script)) where
    pub script_final : IsFinal net (after_all net (start net) script) (turns net script)
    script_final = quiescent_final net (after_all net (start net) script) (turns net script) (schedule_run script) quiescent

    pub sent_prefix : (ss : List Step) → Under (after_all net (start net) ss) (after_all net (start net) script).sent
    sent_prefix ss = schedule_under ss (after_all net (start net) script).sent (final_closed net (after_all net (start net) script) (turns net script) script_final)

    pub run_prefix : (ss : List Step) (i : ℕ) → (turns net ss i ≤ turns net script i) × IsRun net i (received (after_all net (start net) script) i) (turns net ss i) ((after_all net (start net) ss).state i) ((after_all net (start net) ss).sent i)
    run_prefix ss i = on_the_way net monotone (after_all net (start net) ss) (after_all net (start net) script) (turns net ss) (turns net script) (schedule_run ss) script_final (sent_prefix ss) i

    pub quiescent_same : (ss : List Step) → IsQuiescent net (after_all net (start net) ss) → IsSame (after_all net (start net) ss) (after_all net (start net) script)
    quiescent_same ss here =
        let fin = quiescent_final net (after_all net (start net) ss) (turns net ss) (schedule_run ss) here in
        agree net monotone (after_all net (start net) ss) (after_all net (start net) script) (turns net ss) (turns net script) fin script_final (sent_prefix ss)
        (schedule_under script (after_all net (start net) ss).sent (final_closed net (after_all net (start net) ss) (turns net ss) fin))
