-- What holds of the ends of a world wherever some steps led.
use Rattle.std.proofs.Common.{◌≡◌, ◌⊎◌, ℕ, zero, suc, ◌+◌, ◌<◌, ◌≤◌, Bool, true, false, List, [], ◌∷◌, ◌++◌, length, map, set, refl, sym, ap, ◌∙◌, subst, arith}
use Rattle.std.specs.Prelude.{All, Option, Some, None, IsSome, if◌then◌else◌, slice_get}
use Rattle.std.proofs.lemmas.List.{length-map, length-replicate}
use Rattle.std.proofs.lemmas.Option.{none-some}
use Rattle.process_network.specs.Network.{IsPrefix}
use Rattle.process_network.specs.PacketStar.{fresh_hub, fresh_leaf}
use Rattle.process_network.specs.Star.{StarStep, hub_received, leaf_received, leaf_turn_of, link, star_after, star_all}
use Rattle.process_network.specs.Star.{after_hub_turn, after_leaf_turn, star_effective, star_effective_steps, star_start}
use Rattle.process_network.specs.Star.StarStep.{HubTurn, LeafTurn}
use Rattle.process_network.specs.StarTalk.{IsHubRun}
use Rattle.process_network.proofs.CalmRuns.{all_append}
use Rattle.process_network.proofs.EndRuns.{star_hub_runs}
use Rattle.process_network.proofs.PacketRuns.{ends_monotone}
use Rattle.process_network.proofs.StarTheorem.{all_kept}
use Rattle.cosim_model.specs.declared.values.Plan.{Plan}
use Rattle.cosim_model.specs.Parts.{DeviceModel, IsDevice, IsMaster, MasterModel}
use Rattle.ends_model.specs.declared.ends.Phase.TheVariants.{Done}
use Rattle.ends_model.specs.DeviceTurn.{DeviceEnd}
use Rattle.ends_model.specs.Answers.{machine_answer}
use Rattle.ends_model.specs.World.{Fit, Side, device_start, device_starts, ends, machine_start}
use Rattle.every_schedule.specs.Schedules as all
use Rattle.every_schedule.proofs.Bounded.{bounded}
use Rattle.every_schedule.proofs.Finished.{every_schedule}
use Rattle.every_schedule.proofs.Found.{run_answers}
use Rattle.every_schedule.proofs.Room.{has_room}
use Rattle.rp_framing.specs.Framing.{counted}
use Rattle.rp_packet.specs.CodecLaws.{codec-laws}
use Rattle.rp_packet.specs.declared.fault.Cause.{Cause}
use Rattle.rp_packet.specs.Streams.{packet_codec}
use Rattle.device_turns.specs.Ends.{End as DeviceTurns, core_of as device_core}
use Rattle.machine_turns.specs.Ends.{End, core_of, fresh as fresh_machine}
use Rattle.world.specs.Seats.{IsFresh}
use Rattle.world.specs.Stars.{Ends, HasAnswer, Hub, IsMoved, IsSound, Leaf, star, unsent}
use Rattle.world.specs.Worlds.{HasRoom, IsOnItsWay, IsOver, IsReached, IsStart, IsStepped, Start, WorldValue}
use Rattle.world.specs.Worlds.{after_steps, begun, fresh_world, side_of}

-- a place of a list that is as long as another one is a place of that one
pub place-there : {A B : Type 0} (xs : List A) (ys : List B) (p : ℕ) (x : A) → length xs ≡ length ys
    → slice_get xs p ≡ Some x → (y : B) × (slice_get ys p ≡ Some y)
place-there [] ys p x long at = absurd (none-some x at)
place-there (a ∷ xs) [] p x long at = absurd (let e : suc (length xs) ≡ 0 = long in omega arith)
place-there (a ∷ xs) (b ∷ ys) zero x long at = (b, refl)
place-there (a ∷ xs) (b ∷ ys) (suc p) x long at =
    place-there xs ys p x (let e : suc (length xs) ≡ suc (length ys) = long in omega arith) at

set-there : {A : Type 0} (xs : List A) (p : ℕ) (x y : A) → slice_get xs p ≡ Some x → slice_get (set xs p y) p ≡ Some y
set-there [] p x y at = absurd (none-some x at)
set-there (a ∷ xs) zero x y at = refl
set-there (a ∷ xs) (suc p) x y at = set-there xs p x y at

pub steps-append : {M S : Type 0} (k : MasterModel M) (d : DeviceModel S) (w : Ends M S) (xs ys : List StarStep)
    → star_effective_steps (star k d) w (xs ++ ys)
    ≡ star_effective_steps (star k d) w xs + star_effective_steps (star k d) (star_all (star k d) w xs) ys
steps-append k d w [] ys = omega arith
steps-append k d w (x ∷ xs) ys =
    let rest = steps-append k d (star_after (star k d) w x) xs ys in
    omega (arith, rest)

counted-step : (a n one : ℕ) → a ≡ counted n → counted (a + one) ≡ counted (n + (one + 0))
counted-step a n one is = omega (arith, is)

module _ {M S : Type 0} (k : MasterModel M) (d : DeviceModel S) where
  -- The ends at the start have a port each.
  starts-long : (s : Start M S) → length (map fresh_leaf (device_starts k d packet_codec s.plan s.master s.ports)) ≡ length s.ports
  starts-long s =
      length-map (device_starts k d packet_codec s.plan s.master s.ports) fresh_leaf
      ∙ length-map s.ports (λ (x : Side × S). device_start Cause x.0 x.1)

  pub leaves-long : (s : Start M S) (steps : List StarStep) → length (after_steps k d s steps).leaves ≡ length s.ports
  leaves-long s steps = (all_kept (star k d) (begun k d s) steps).1 ∙ starts-long s

  pub links-long : (s : Start M S) (steps : List StarStep) → length (after_steps k d s steps).links ≡ length s.ports
  links-long s steps = (all_kept (star k d) (begun k d s) steps).0 ∙ length-replicate _ _ ∙ starts-long s

  -- Leaves and links are as many as the ports.
  pub ports-there : (w : WorldValue M S) → IsReached k d w
      → (length w.now.leaves ≡ length w.start.ports) × (length w.now.links ≡ length w.start.ports)
  ports-there w is = (
    ap (λ (v : Ends M S). length v.leaves) is.now ∙ leaves-long w.start is.steps,
    ap (λ (v : Ends M S). length v.links) is.now ∙ links-long w.start is.steps,
  )

  -- One step more.
  one-more : (s : Start M S) (steps : List StarStep) (step : StarStep)
      → after_steps k d s (steps ++ step ∷ []) ≡ star_after (star k d) (after_steps k d s steps) step
  one-more s steps step = all_append (star k d) (begun k d s) steps (step ∷ [])

  pub next-reached : (old new : WorldValue M S) (step : StarStep) (moved : Bool) → IsReached k d old
      → IsStepped k d old new step moved → IsReached k d new
  next-reached old new step moved was is =
      let now : new.now ≡ star_after (star k d) (after_steps k d old.start was.steps) step =
      is.now ∙ ap (λ w. star_after (star k d) w step) was.now in
      let one : (if moved then 1 else 0)
      ≡ (if star_effective (star k d) (after_steps k d old.start was.steps) step then 1 else 0) =
      ap (λ b. if b then 1 else 0) (is.moved_is ∙ ap (λ w. star_effective (star k d) w step) was.now) in
      let here = after_steps k d old.start was.steps in
      let count : new.effective ≡ counted (star_effective_steps (star k d) (begun k d old.start) (was.steps ++ step ∷ [])) =
      is.effective
      ∙ counted-step old.effective (star_effective_steps (star k d) (begun k d old.start) was.steps) _ was.effective
      ∙ ap (λ n. counted (star_effective_steps (star k d) (begun k d old.start) was.steps + (n + 0))) one
      ∙ ap counted (sym (steps-append k d (begun k d old.start) was.steps (step ∷ []))) in
      record {
        fit = subst (λ s. Fit k d s.plan s.master s.ports) (sym is.start) was.fit;
        steps = was.steps ++ step ∷ [];
        now = subst (λ s. new.now ≡ after_steps k d s (was.steps ++ step ∷ [])) (sym is.start)
            (now ∙ sym (one-more old.start was.steps step));
        effective = subst (λ s. new.effective ≡ counted (star_effective_steps (star k d) (begun k d s) (was.steps ++ step ∷ [])))
            (sym is.start) count;
      }

  pub stepped-by : (s : Start M S) (old new : Ends M S) (before after : ℕ) (step : StarStep) (moved : Bool)
      → IsMoved k d old new step moved → after ≡ counted (before + (if moved then 1 else 0))
      → IsReached k d (record { start = s; now = old; effective = before })
      → IsReached k d (record { start = s; now = new; effective = after })
  stepped-by s old new before after step moved is counts was =
      next-reached (record { start = s; now = old; effective = before }) (record { start = s; now = new; effective = after })
      step moved was (record { now = is.new_is; moved_is = is.moved_is; effective = counts; start = refl })

  module _ (device_laws : IsDevice d) (master_laws : IsMaster k) where
    pub theorem : (s : Start M S) → Fit k d s.plan s.master s.ports
        → all.IsEverySchedule k d packet_codec s.plan s.master s.ports
    theorem s fit = every_schedule k d packet_codec s.plan device_laws master_laws codec-laws s.master s.ports fit

    hub-sound : (s : Start M S) → Fit k d s.plan s.master s.ports → (steps : List StarStep)
        → (r : Hub M × Option (ℕ × List ℕ))
        → (star k d).hub_turn (after_steps k d s steps).hub (hub_received (after_steps k d s steps)) ≡ Some r
        → r.0.core.fault ≡ None
    hub-sound s fit steps r turns =
        let now = after_steps k d s steps in
        let last : after_steps k d s (steps ++ HubTurn ∷ []) ≡ after_hub_turn now (Some r) =
        one-more s steps HubTurn ∙ ap (after_hub_turn now) turns in
        ap (λ (w : Ends M S). w.hub.core.fault) (sym last) ∙ (theorem s fit).sound (steps ++ HubTurn ∷ [])

    leaf-sound : (s : Start M S) → Fit k d s.plan s.master s.ports → (steps : List StarStep) (p : ℕ)
        → (o : Option (Leaf S)) → slice_get (after_steps k d s steps).leaves p ≡ o
        → (r : Leaf S × List ℕ) → leaf_turn_of (star k d) o (leaf_received (after_steps k d s steps) p) ≡ Some r
        → r.0.core.fault ≡ None
    leaf-sound s fit steps p None at r turns = absurd (none-some r turns)
    leaf-sound s fit steps p (Some l) at r turns =
        let now = after_steps k d s steps in
        let last : after_steps k d s (steps ++ LeafTurn p ∷ []) ≡ after_leaf_turn now p (Some r) =
        one-more s steps (LeafTurn p)
        ∙ ap (λ o. after_leaf_turn now p (leaf_turn_of (star k d) o (leaf_received now p))) at
        ∙ ap (after_leaf_turn now p) turns in
        let side = place-there now.leaves s.ports p l (leaves-long s steps) at in
        (theorem s fit).device_sound (steps ++ LeafTurn p ∷ []) p r.0 side.0
        (ap (λ (w : Ends M S). slice_get w.leaves p) last ∙ set-there now.leaves p l r.0 at) side.1

    pub reached-sound : (w : WorldValue M S) → IsReached k d w → IsSound k d w.now
    reached-sound w is = subst (IsSound k d) (sym is.now) (record {
      hub = hub-sound w.start is.fit is.steps;
      leaf = λ p r turns. leaf-sound w.start is.fit is.steps p _ refl r turns;
    })

    pub reached-over : (w : WorldValue M S) → IsReached k d w → w.now.hub.core.phase ≡ Done → IsOver k d w
    reached-over w is done =
        subst (λ v. all.IsEnd k d packet_codec w.start.plan w.start.master w.start.ports v
        × all.IsDelivered k d packet_codec w.start.plan w.start.master w.start.ports v) (sym is.now)
        ((theorem w.start is.fit).ends_there is.steps (ap (λ (v : Ends M S). v.hub.core.phase) (sym is.now) ∙ done))

    counted-most : (n : ℕ) → counted n ≤ n
    counted-most n = omega arith

    way-at : (w : WorldValue M S) (fit : Fit k d w.start.plan w.start.master w.start.ports) (steps : List StarStep)
        → w.now ≡ after_steps k d w.start steps
        → w.effective ≡ counted (star_effective_steps (star k d) (begun k d w.start) steps) → IsOnItsWay k d w
    way-at w fit steps now effective =
        let t = theorem w.start fit in
        record {
          out = λ p x at.
              subst (λ (v : Ends M S). IsPrefix (link v p).out
              (all.bytes_out k d packet_codec w.start.plan w.start.master w.start.ports p x)) (sym now) (t.out steps p x at);
          back = λ p x at.
              subst (λ (v : Ends M S). IsPrefix (link v p).back
              (all.bytes_back k d packet_codec w.start.plan w.start.master w.start.ports p x)) (sym now) (t.back steps p x at);
          calls = subst (λ (v : Ends M S). IsPrefix v.hub.core.calls
              (all.directly k d packet_codec w.start.plan w.start.master w.start.ports).calls) (sym now) (t.calls steps);
          sound = ap (λ (v : Ends M S). v.hub.core.fault) now ∙ t.sound steps;
          device_calls = λ p l at.
              let here = ap (λ (v : Ends M S). slice_get v.leaves p) (sym now) ∙ at in
              let side = place-there _ w.start.ports p l (leaves-long w.start steps) here in
              t.device_calls steps p l side.0 here side.1;
          device_sound = λ p l at.
              let here = ap (λ (v : Ends M S). slice_get v.leaves p) (sym now) ∙ at in
              let side = place-there _ w.start.ports p l (leaves-long w.start steps) here in
              t.device_sound steps p l side.0 here side.1;
          goes_on = subst (λ (v : Ends M S). all.IsEnd k d packet_codec w.start.plan w.start.master w.start.ports v
              ⊎ ((s : StarStep) × (star_effective (star k d) v s ≡ true))) (sym now) (t.goes_on steps);
          room = subst (λ (v : Ends M S). (next : Hub M) (p : ℕ) (bytes : List ℕ)
              → (star k d).hub_turn v.hub (hub_received v) ≡ Some (next, Some (p, bytes))
              → all.IsOneAtMost k d packet_codec w.start.plan w.start.master w.start.ports
              (all.untaken k d packet_codec w.start.plan w.start.master w.start.ports v p)) (sym now)
              (has_room k d packet_codec w.start.plan device_laws master_laws codec-laws w.start.master w.start.ports fit steps);
          few =
              let most = bounded k d packet_codec w.start.plan device_laws master_laws codec-laws w.start.master w.start.ports fit
              steps in
              let small = counted-most (star_effective_steps (star k d) (begun k d w.start) steps) in
              omega (arith, most, small, effective);
        }

    pub reached-way : (w : WorldValue M S) → IsReached k d w → IsOnItsWay k d w
    reached-way w is = way-at w is.fit is.steps is.now is.effective

    -- Every turn of the machine end has an answer.

    abbrev Runs : Start M S → List StarStep → ℕ → ℕ → ℕ → Type 0
    Runs s steps turns ports counts =
        IsHubRun (star k d) ports (fresh_hub (machine_start Cause s.master (length s.ports) s.plan) counts)
        (hub_received (after_steps k d s steps)) turns (after_steps k d s steps).hub
        (λ p. (link (after_steps k d s steps) p).out)

    hub-runs : (s : Start M S) (steps : List StarStep) → (turns : ℕ) × Runs s steps turns (length s.ports) (length s.ports)
    hub-runs s steps =
        let starts = device_starts k d packet_codec s.plan s.master s.ports in
        let run = star_hub_runs (star k d) (ends_monotone (ends k d packet_codec) codec-laws.decided)
        (fresh_hub (machine_start Cause s.master (length s.ports) s.plan) (length starts)) (map fresh_leaf starts) steps in
        let same : length starts ≡ length s.ports = length-map s.ports (λ (x : Side × S). device_start Cause x.0 x.1) in (
          run.0,
          subst (λ n. Runs s steps run.0 n (length s.ports)) (length-map starts fresh_leaf ∙ same)
              (subst (λ n. Runs s steps run.0 (length (map fresh_leaf starts)) n) same run.1),
        )

    pub reached-answer : (w : WorldValue M S) → IsReached k d w → HasAnswer k w.now.hub.core
    reached-answer w is whole =
        let run = hub-runs w.start is.steps in
        let there = after_steps k d w.start is.steps in
        subst (λ (v : Ends M S). IsSome (machine_answer k v.hub.core whole)) (sym is.now)
        (run_answers k master_laws d packet_codec w.start.plan (length w.start.ports) w.start.master is.fit.reach
        (hub_received there) run.0 there.hub (λ p. (link there p).out) run.1 whole)

  -- The start, as the ends are made.

  pub start-fresh : (e : DeviceTurns S) → IsStart e → IsFresh e
  start-fresh e is = record { is = is ∙ ap (λ (x : DeviceTurns S). record { clear = x.clear; kept = None; taken = 0; held = [] }) (sym is) }

  pub all-fresh : (es : List (DeviceTurns S)) → All IsStart es → All IsFresh es
  all-fresh es starts n e within = start-fresh _ (starts n e within)

  starts-are : (es : List (DeviceTurns S)) → All IsStart es
      → map (λ (x : DeviceTurns S). fresh_leaf (device_core x)) es
      ≡ map fresh_leaf (map (λ (x : Side × S). device_start Cause x.0 x.1) (map side_of es))
  starts-are [] starts = refl
  starts-are (e ∷ es) starts =
      let here : ◌≡◌ {A = Leaf S} (fresh_leaf (device_core e)) (fresh_leaf (device_start Cause (side_of e).0 (side_of e).1)) =
      ap (λ (x : DeviceTurns S). fresh_leaf (device_core x)) (starts 0 e (omega arith)) in
      let rest = starts-are es (λ n x within. starts (suc n) x (omega (arith, within))) in
      λ i. here i ∷ rest i

  module _ (plan : Plan) (m : M) (es : List (DeviceTurns S)) (starts : All IsStart es) where
    abbrev first-start : Start M S
    first-start = record { plan = plan; master = m; ports = map side_of es }

    unsent-begun : (e : End M) → e ≡ fresh_machine (machine_start Cause m (length es) plan) (length es)
        → unsent e es ≡ begun k d first-start
    unsent-begun e is =
        let long : length es ≡ length (map (side_of {S = S}) es) = sym (length-map es side_of) in
        let also : length es ≡ length (device_starts k d packet_codec plan m (map side_of es)) =
        long ∙ sym (length-map (map side_of es) (λ (x : Side × S). device_start Cause x.0 x.1)) in
        ap (λ (x : End M). unsent x es) is
        ∙ ap (λ ls. star_start (fresh_hub (machine_start Cause m (length es) plan) (length es)) ls) (starts-are es starts)
        ∙ ap (λ n. star_start (fresh_hub (machine_start Cause m n plan) (length es))
        (map fresh_leaf (device_starts k d packet_codec plan m (map side_of es)))) long
        ∙ ap (λ n. star_start (fresh_hub (machine_start Cause m (length (map (side_of {S = S}) es)) plan) n)
        (map fresh_leaf (device_starts k d packet_codec plan m (map side_of es)))) also

    pub made-world : (e first : End M) (fs : List (DeviceTurns S)) (ends : Ends M S)
        → e ≡ fresh_machine (machine_start Cause m (length es) plan) (length es) → first ≡ e → fs ≡ es → ends ≡ unsent e es
        → ◌≡◌ {A = WorldValue M S}
        (record {
          start = record { plan = first.clear.plan; master = first.clear.master; ports = map side_of fs };
          now = ends;
          effective = 0;
        })
        (fresh_world k d first-start)
    made-world e first fs ends is at same made = λ i. record {
      start = record {
        plan = ap (λ (x : End M). x.clear.plan) (at ∙ is) i;
        master = ap (λ (x : End M). x.clear.master) (at ∙ is) i;
        ports = ap (map side_of) same i;
      };
      now = (made ∙ unsent-begun e is) i;
      effective = 0;
    }

  pub fresh-reached : (s : Start M S) → Fit k d s.plan s.master s.ports → IsReached k d (fresh_world k d s)
  fresh-reached s fit = record { fit = fit; steps = []; now = refl; effective = refl }
