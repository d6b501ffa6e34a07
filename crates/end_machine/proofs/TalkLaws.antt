-- An end that rests over all that its links give for what it sent, and that received no more than Talk gives, is where
-- Talk ends.
use Rattle.std.proofs.Common.{◌≡◌, ℕ, zero, suc, List, [], Option, Some, None, refl, sym, ap, ◌∙◌, subst}
use Rattle.std.proofs.lemmas.Option.{same_Some, none-some}
use Rattle.process_network.specs.Network.{Below, IsMonotone, IsPrefix, IsRun as IsNodeRun, IsMaximalRun, Streams}
use Rattle.process_network.specs.PacketStar.{LeafEnd, fresh_hub, star_of}
use Rattle.process_network.specs.Star.{IsStarMonotone, Star, to_leaf}
use Rattle.process_network.specs.StarTalk.{StarTalk}
use Rattle.process_network.specs.TellingLinks.{IsFixed, IsTelling, by_port, hub_alone}
use Rattle.process_network.proofs.HubTalk.{alone_run, packet_talk_ends, run_alone}
use Rattle.process_network.proofs.PacketRuns.{ends_monotone}
use Rattle.process_network.proofs.ProcessRuns.{run_below, runs_more}
use Rattle.process_network.proofs.TellingTalk.{maximal_same}
use Rattle.cosim_model.specs.declared.values.Plan.{Plan}
use Rattle.cosim_model.specs.Parts.{MasterModel}
use Rattle.ends_model.specs.MachineTurn.{MachineEnd}
use Rattle.ends_model.specs.World.{machine_start}
use Rattle.rp_packet.specs.declared.fault.Cause.{Cause}
use Rattle.rp_packet.specs.CodecLaws.{codec-laws}
use Rattle.rp_packet.specs.Streams.{packet_codec}
use Rattle.machine_turns.specs.Runs.{IsRun, Rests, Taking, machine_alone}
use Rattle.end_machine.specs.Wires.{Said}
use Rattle.end_machine.specs.Driving.{IsInTime}
use Rattle.end_machine.proofs.Measures.{work-bounded}

pub steady : {M : Type 0} (k : MasterModel M) → IsStarMonotone (star_of (machine_alone k packet_codec))
steady k = ends_monotone (machine_alone k packet_codec) codec-laws.decided

-- The hub alone, as a network of one process.

turn-is : {H : Type 0} (n : ℕ) (t : Option (H × Option (ℕ × List ℕ))) (s : H) (more : Streams)
    → by_port n t ≡ Some (s, more)
    → (m : Option (ℕ × List ℕ)) × (t ≡ Some (s, m)) × ((λ p. to_leaf n m (suc p)) ≡ more)
turn-is n None s more e = absurd (none-some (s, more) e)
turn-is {H} n (Some r) s more e =
    let same = same_Some {A = H × Streams} (r.0, λ p. to_leaf n r.1 (suc p)) (s, more) e in
    (r.1, ap (λ (v : H × Streams). Some (v.0, r.1)) same, ap (λ (v : H × Streams). v.1) same)

alone-steady : {H L : Type 0} (star : Star H L) (n : ℕ) (hub : H) → IsStarMonotone star
    → IsMonotone (hub_alone star n hub)
alone-steady star n hub monotone i s x y r b e =
    let t = turn-is n (star.hub_turn s x) r.0 r.1 e in
    ap (by_port n) (monotone.0 s x y (r.0, t.0) b t.1) ∙ ap (λ o. Some (r.0, o)) t.2

-- A turn that can't be taken over more bytes can't be taken over fewer.
pub rests-below : {M : Type 0} (k : MasterModel M) (h : Taking M) (x y : Streams) → Below x y → Rests k h y
    → Rests k h x
rests-below {M} k h x y below rests = by ((star_of (machine_alone k packet_codec)).hub_turn h x) refl
  where
    by : (o : Option (Taking M × Option (ℕ × List ℕ))) → (star_of (machine_alone k packet_codec)).hub_turn h x ≡ o
        → Rests k h x
    by None is = is
    by (Some r) is = absurd (none-some r (sym rests ∙ (steady k).0 h x y r below is))

module _ {M : Type 0} (k : MasterModel M) (plan : Plan) (n : ℕ) (m : M) where
  abbrev start : MachineEnd M Cause
  start = machine_start Cause m n plan

  abbrev alone : Star (Taking M) (LeafEnd (Unit {0}))
  alone = star_of (machine_alone k packet_codec)

  pub run-longer : (x y : Streams) (turns : ℕ) (h : Taking M) (sent : Streams) → Below x y
      → IsRun k start n x turns h sent
      → IsRun k start n y turns h sent
  run-longer x y turns h sent below run =
      alone_run alone n (fresh_hub start n) y turns h sent
      (runs_more (hub_alone alone n (fresh_hub start n)) (alone-steady alone n (fresh_hub start n) (steady k)) 0 x y
      below turns h sent
      (run_alone alone n (fresh_hub start n) x turns h sent run))

  -- a run sends no more than one over more bytes that no turn is left to
  pub sends-less : (x y : Streams) (turns more : ℕ) (h g : Taking M) (sent all : Streams) → Below x y
      → IsRun k start n x turns h sent → IsRun k start n y more g all → Rests k g y → Below sent all
  sends-less x y turns more h g sent all below run whole rests =
      (run_below (hub_alone alone n (fresh_hub start n)) (alone-steady alone n (fresh_hub start n) (steady k)) 0 x y
      below turns more h g
      sent all (run_alone alone n (fresh_hub start n) x turns h sent run)
      (run_alone alone n (fresh_hub start n) y more g all whole) (ap (by_port n) rests)).1

  -- two whole runs over the same bytes send the same
  sends-same : (x : Streams) (turns more : ℕ) (h g : Taking M) (sent all : Streams) → IsRun k start n x turns h sent
      → Rests k h x
      → IsRun k start n x more g all → Rests k g x → (p : ℕ) → sent p ≡ all p
  sends-same x turns more h g sent all run rests whole stops =
      (maximal_same (hub_alone alone n (fresh_hub start n)) 0 x x (λ p. refl) turns more h g sent all
      (run_alone alone n (fresh_hub start n) x turns h sent run, ap (by_port n) rests)
      (run_alone alone n (fresh_hub start n) x more g all whole, ap (by_port n) stops)).2

  module _ (said : Said) (telling : IsTelling said) where
    -- No round of Talk gives more than the links give for what an end sent that rests over that.
    rounds-below : (turns : ℕ) (h : Taking M) (sent : Streams) → IsRun k start n (λ p. said p (sent p)) turns h sent
        → Rests k h (λ p. said p (sent p)) → (rounds : ℕ) (z : Streams)
        → StarTalk alone n (fresh_hub start n) said rounds z → Below z (λ p. said p (sent p))
    rounds-below turns h sent run rests zero z talk p =
        subst (λ a. IsPrefix a (said p (sent p))) (sym (talk p)) (telling p [] (sent p) (sent p, refl))
    rounds-below turns h sent run rests (suc r) z talk p =
        let before = rounds-below turns h sent run rests r talk.0 talk.4 in
        let less = sends-less talk.0 (λ p. said p (sent p)) talk.1 turns talk.2 h talk.3 sent before talk.5 run rests in
        subst (λ a. IsPrefix a (said p (sent p))) (sym (talk.7 p)) (telling p (talk.3 p) (sent p) (less p))

    -- Where Talk ends.
    pub record Settled (turns : ℕ) (h : Taking M) (sent : Streams) : Type 0 where
      pub rounds : ℕ
      pub given : Streams
      pub talk : StarTalk alone n (fresh_hub start n) said rounds given
      pub run : IsRun k start n given turns h sent
      pub rests : Rests k h given
      pub fixed : IsFixed said given sent

    pub settles : (x : Streams) (turns : ℕ) (h : Taking M) (sent : Streams) → IsRun k start n x turns h sent
        → Below x (λ p. said p (sent p)) → Rests k h (λ p. said p (sent p)) → IsInTime k start n said x
        → Settled turns h sent
    settles x turns h sent run within rests in_time =
        let ends = packet_talk_ends (machine_alone k packet_codec) n start (steady k) (work-bounded k plan n m) said
        telling in
        let given = ends.1 in
        let first = ends.5 in
        let longer = run-longer x (λ p. said p (sent p)) turns h sent within run in
        let most = rounds-below turns h sent longer rests ends.0 given first.talk in
        let there = in_time given ends.2 ends.3 ends.4 first.run first.stop first.fixed in
        let here = run-longer x given turns h sent there run in
        let stops = rests-below k h given (λ p. said p (sent p)) most rests in
        let same = sends-same given ends.2 turns ends.3 h ends.4 sent first.run first.stop here stops in
        record {
          rounds = ends.0;
          given = given;
          talk = first.talk;
          run = here;
          rests = stops;
          fixed = λ p. first.fixed p ∙ ap (said p) (same p);
        }
