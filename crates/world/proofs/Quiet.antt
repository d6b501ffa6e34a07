-- A quiet world: which steps change nothing there, and which leave it quiet.
use Rattle.std.proofs.Common.{◌≡◌, ◌⊎◌, inl, inr, ⊎_elim, ℕ, zero, suc, ◌+◌, ◌-◌, ◌<◌, ◌≤◌, min, Bool, true, false, List, [], ◌∷◌, ◌++◌, length, map, get_or, slice_get, refl, sym, ap, ap₂, ◌∙◌, subst, arith, ltb-false}
use Rattle.std.specs.Prelude.{◌||◌, if◌then◌else◌, nat_lt, is_some, Option, Some, None, Result, Ok, Err}
use Rattle.std.proofs.lemmas.List.{get_or_past}
use Rattle.std.proofs.lemmas.Option.{slice_get_past}
use Rattle.cos_base.specs.declared.no_memory.NoMemory.{NoMemory}
use Rattle.process_network.specs.Network.{handed_over}
use Rattle.process_network.specs.Star.{Link, leaf_received, leaf_turn_of, link, new_link, star_after, star_all, star_effective, star_effective_steps}
use Rattle.process_network.specs.Star.StarStep.{HubTurn, LeafTurn, DeliverOut, DeliverBack}
use Rattle.process_network.proofs.CalmRuns.{all_append}
use Rattle.process_network.proofs.PacketRuns.{ends_monotone}
use Rattle.process_network.proofs.Prefixes.{le_or_lt}
use Rattle.process_network.proofs.Rounds.{IsWithin, idle_keeps, within}
use Rattle.process_network.proofs.StarTheorem.{idle}
use Rattle.cosim_model.specs.Parts.{DeviceModel, IsDevice, IsMaster, MasterModel}
use Rattle.ends_model.specs.declared.ends.Phase.TheVariants.{Done}
use Rattle.ends_model.specs.declared.ends.Turn.{Turn}
use Rattle.ends_model.specs.World.{ends}
use Rattle.rp_framing.specs.Framing.{counted}
use Rattle.rp_packet.specs.CodecLaws.{codec-laws}
use Rattle.rp_packet.specs.Streams.{packet_codec}
use Rattle.cos_schedules.specs.declared.step.Step.{Step}
use Rattle.cos_schedules.specs.declared.step.Step.TheVariants.{Machine, Device, Deliver}
use Rattle.cos_schedules.specs.declared.step.Way.TheVariants.{Out, Back}
use Rattle.cos_schedules.specs.Courses.{AreOthers, Course, Gives, GivesAll, PassesTo, PassesTurns, is_machine}
use Rattle.cos_schedules.specs.Stars.{star_step}
use Rattle.cos_schedules.proofs.Passing.{gives-both}
use Rattle.world.specs.Stars.{Advances, Ends, HasWorked, Hub, IsQuiet, IsTaken, IsUnit, Leaf, StaysSound, is_busy, is_move, is_sending, star}
use Rattle.world.specs.Worlds.{HasTaken, IsReached, IsStepped, TakesNext, WorldValue, after_steps, begun}
use Rattle.world.proofs.Reaching.{reached-sound, steps-append}
use Rattle.world.proofs.Taking.{no-end, take-both, take-none, take-one}

-- Bytes of which one can't be delivered.

still-any : (done long count : ℕ) → done ≤ long → nat_lt done (done + min 1 (long - done)) ≡ false
    → nat_lt done (done + min count (long - done)) ≡ false
still-any done long count fits still =
    let none : done + min 1 (long - done) ≤ done = ltb-false done (done + min 1 (long - done)) still in
    let all : long ≤ done = omega (arith, none, fits) in
    idle done (done + min count (long - done)) (omega (arith, all))

or-none : (a b c : Bool) → (a || b) || c ≡ false → (a ≡ false) × (b ≡ false) × (c ≡ false)
or-none true b c none = absurd (cc (none))
or-none false true c none = absurd (cc (none))
or-none false false c none = (refl, refl, none)

none-or : (a b c : Bool) → a ≡ false → b ≡ false → c ≡ false → (a || b) || c ≡ false
none-or true b c x y z = absurd (cc (x))
none-or false true c x y z = absurd (cc (y))
none-or false false c x y z = z

front-others : (front : List Step) (s : Step) (back : List Step) → AreOthers (front ++ s ∷ back) → AreOthers front
front-others [] s back others = tt
front-others (x ∷ front) s back others = (others.0, front-others front s back others.1)

counted-twice : (a b n : ℕ) → b ≡ counted (a + 1) → counted (a + suc n) ≡ counted (b + n)
counted-twice a b n is = omega (arith, is)

module _ {M S : Type 0} (k : MasterModel M) (d : DeviceModel S) where
  -- Where no port is busy, all is quiet.

  module _ (w : Ends M S) (fits : IsWithin w) (n : ℕ) (leaves : length w.leaves ≡ n) (links : length w.links ≡ n) where
    no-link : (p : ℕ) → n ≤ p → link w p ≡ new_link
    no-link p past = get_or_past w.links p new_link (omega (arith, past, links))

    still-at : (p : ℕ) → is_busy k d w p ≡ false
        → (star_effective (star k d) w (DeliverOut p 1) ≡ false) × (star_effective (star k d) w (LeafTurn p) ≡ false)
        × (star_effective (star k d) w (DeliverBack p 1) ≡ false)
    still-at p none = or-none (star_effective (star k d) w (DeliverOut p 1)) (star_effective (star k d) w (LeafTurn p))
        (star_effective (star k d) w (DeliverBack p 1)) none

    pub quiet-by : ((p : ℕ) → p < n → is_busy k d w p ≡ false) → IsQuiet k d w
    quiet-by none Machine other = absurd (cc (other))
    quiet-by none (Device p) other = ⊎_elim
        (λ (past : n ≤ p). ap (λ (o : Option (Leaf S)). is_some (leaf_turn_of (star k d) o (leaf_received w p)))
        (slice_get_past w.leaves p (omega (arith, past, leaves))))
        (λ (there : p < n). (still-at p (none p there)).1)
        (le_or_lt n p)
    quiet-by none (Deliver p Out count) other = ⊎_elim
        (λ (past : n ≤ p).
        let long : length (link w p).out ≡ 0 = ap (λ (t : Link). length t.out) (no-link p past) in
        idle (link w p).out_delivered (handed_over (link w p).out_delivered (link w p).out count) (omega (arith, long)))
        (λ (there : p < n).
        still-any (link w p).out_delivered (length (link w p).out) count (fits p).0 (still-at p (none p there)).0)
        (le_or_lt n p)
    quiet-by none (Deliver p Back count) other = ⊎_elim
        (λ (past : n ≤ p).
        let long : length (link w p).back ≡ 0 = ap (λ (t : Link). length t.back) (no-link p past) in
        idle (link w p).back_delivered (handed_over (link w p).back_delivered (link w p).back count) (omega (arith, long)))
        (λ (there : p < n).
        still-any (link w p).back_delivered (length (link w p).back) count (fits p).1 (still-at p (none p there)).2)
        (le_or_lt n p)

  pub quiet-idle : (w : Ends M S) → IsQuiet k d w → (p : ℕ) → is_busy k d w p ≡ false
  quiet-idle w quiet p =
      none-or _ _ _ (quiet (Deliver p Out 1) refl) (quiet (Device p) refl) (quiet (Deliver p Back 1) refl)

  pub reached-within : (w : WorldValue M S) → IsReached k d w → IsWithin w.now
  reached-within w is =
      subst (λ (v : Ends M S). IsWithin v) (sym is.now)
      (within (star k d) (ends_monotone (ends k d packet_codec) codec-laws.decided) _ _ is.steps)

  -- Quiet is said of device ends and links alone.

  other-hub : (w : Ends M S) (h : Hub M) (s : Step) → is_machine s ≡ false
      → star_effective (star k d) (record w { hub = h }) (star_step s) ≡ star_effective (star k d) w (star_step s)
  other-hub w h Machine other = absurd (cc (other))
  other-hub w h (Device p) other = refl
  other-hub w h (Deliver p Out count) other = refl
  other-hub w h (Deliver p Back count) other = refl

  pub quiet-same : (w v : Ends M S) → v.leaves ≡ w.leaves → v.links ≡ w.links → IsQuiet k d w → IsQuiet k d v
  quiet-same w v leaves links quiet s other =
      ap₂ (λ (ls : List (Leaf S)) (ks : List Link).
      star_effective (star k d) (record { hub = v.hub; leaves = ls; links = ks }) (star_step s)) leaves links
      ∙ other-hub w v.hub s other ∙ quiet s other

  within-same : (w v : Ends M S) → v.links ≡ w.links → IsWithin w → IsWithin v
  within-same w v links fits =
      subst (λ (ks : List Link). (p : ℕ) → ((get_or ks p new_link).out_delivered ≤ length (get_or ks p new_link).out)
      × ((get_or ks p new_link).back_delivered ≤ length (get_or ks p new_link).back)) (sym links) fits

  -- A world under way that is quiet.
  pub record IsCalm (w : WorldValue M S) : Type 0 where
    pub fits : IsWithin w.now
    pub quiet : IsQuiet k d w.now
    pub going : w.now.hub.core.phase ≡ Done → ⊥
    pub count : ℕ
    pub small : w.effective ≡ counted count

  -- Steps of others than the machine end change nothing.

  others-still : (w : Ends M S) → IsWithin w → IsQuiet k d w → (ss : List Step) → AreOthers ss
      → star_all (star k d) w (map star_step ss) ≡ w
  others-still w fits quiet [] others = refl
  others-still w fits quiet (s ∷ ss) others =
      ap (λ v. star_all (star k d) v (map star_step ss)) (idle_keeps (star k d) w fits (star_step s) (quiet s others.0))
      ∙ others-still w fits quiet ss others.1

  others-none : (w : Ends M S) → IsWithin w → IsQuiet k d w → (ss : List Step) → AreOthers ss
      → star_effective_steps (star k d) w (map star_step ss) ≡ 0
  others-none w fits quiet [] others = refl
  others-none w fits quiet (s ∷ ss) others =
      let one : ◌≡◌ {A = ℕ} (if star_effective (star k d) w (star_step s) then 1 else 0) 0 =
      ap (λ b. if b then 1 else 0) (quiet s others.0) in
      let rest : star_effective_steps (star k d) (star_after (star k d) w (star_step s)) (map star_step ss) ≡ 0 =
      ap (λ v. star_effective_steps (star k d) v (map star_step ss))
      (idle_keeps (star k d) w fits (star_step s) (quiet s others.0)) ∙ others-none w fits quiet ss others.1 in
      omega (arith, one, rest)

  take-others : (w : WorldValue M S) → IsCalm w → (ss : List Step) → AreOthers ss → HasTaken k d w w ss
  take-others w calm ss others = record {
    now = sym (others-still w.now calm.fits calm.quiet ss others);
    effective =
        let none = others-none w.now calm.fits calm.quiet ss others in
        let small = calm.small in
        omega (arith, none, small);
    start = refl;
    unfinished = λ front s back is done.
        calm.going (ap (λ (v : Ends M S). v.hub.core.phase) (sym (others-still w.now calm.fits calm.quiet front
        (front-others front s back (subst AreOthers is others)))) ∙ done);
  }

  -- A turn of the machine end behind steps of others.
  take-turn : (w new : WorldValue M S) → IsCalm w → (passed : List Step) → AreOthers passed → (moved : Bool)
      → IsStepped k d w new HubTurn moved → HasTaken k d w new (passed ++ Machine ∷ [])
  take-turn w new calm passed others moved is =
      take-both k d w w new passed (Machine ∷ []) (take-others w calm passed others)
      (take-one k d w new Machine moved calm.going is)

  -- So many local units, each behind steps of others.

  pub record Units (a b : Course) (w new : WorldValue M S) : Type 0 where
    pub steps : List Step
    pub given : GivesAll a steps b
    pub taken : HasTaken k d w new steps
    pub calm : IsCalm new

  take-units : (n : ℕ) (a b : Course) (w new : WorldValue M S) → IsCalm w → HasWorked k d n w.now new.now
      → PassesTurns n a b → new.effective ≡ counted (w.effective + n) → new.start ≡ w.start → Units a b w new
  take-units zero a b w new calm worked passes counts start = record {
    steps = [];
    given = passes;
    taken = record {
      now = worked;
      effective = counts;
      start = start;
      unfinished = λ front s back is done. no-end front s back is;
    };
    calm = record {
      fits = within-same w.now new.now (ap (λ (v : Ends M S). v.links) worked) calm.fits;
      quiet = quiet-same w.now new.now (ap (λ (v : Ends M S). v.leaves) worked) (ap (λ (v : Ends M S). v.links) worked)
          calm.quiet;
      going = λ done. calm.going (ap (λ (v : Ends M S). v.hub.core.phase) (sym worked) ∙ done);
      count = w.effective + 0;
      small = counts;
    };
  }
  take-units (suc n) a b w new calm (mid, unit, rest) (c, passed, passes, turns) counts start =
      let one : WorldValue M S = record { start = w.start; now = mid; effective = counted (w.effective + 1) } in
      let first = take-turn w one calm passed passes.0 true
      (record { now = unit.moved.new_is; moved_is = unit.moved.moved_is; effective = refl; start = refl }) in
      let calm-one : IsCalm one = record {
        fits = within-same w.now mid unit.links calm.fits;
        quiet = quiet-same w.now mid unit.leaves unit.links calm.quiet;
        going = unit.going;
        count = w.effective + 1;
        small = refl;
      } in
      let more = take-units n c b one new calm-one rest turns
      (counts ∙ counted-twice w.effective one.effective n refl) start in
      record {
        steps = (passed ++ Machine ∷ []) ++ more.steps;
        given = gives-both a c b (passed ++ Machine ∷ []) more.steps passes.1 more.given;
        taken = take-both k d w one new (passed ++ Machine ∷ []) more.steps first more.taken;
        calm = more.calm;
      }

  long-both : (xs ys : List Step) → 1 ≤ length (xs ++ (ys ++ Machine ∷ []))
  long-both [] [] = omega arith
  long-both [] (y ∷ ys) = omega arith
  long-both (x ∷ xs) ys = omega arith

  -- What a call took that takes local units, and then a turn.

  module _ (old new : WorldValue M S) (units : ℕ) (a b : Course) (is : IsReached k d old)
      (going : old.now.hub.core.phase ≡ Done → ⊥) (quiet : IsQuiet k d old.now) (passes : PassesTurns units a b)
      (start : new.start ≡ old.start) where
    calm-old : IsCalm old
    calm-old = record {
      fits = reached-within old is;
      quiet = quiet;
      going = going;
      count = star_effective_steps (star k d) (begun k d old.start) is.steps;
      small = is.effective;
    }

    worked-to : (mid : Ends M S) (count : ℕ) → HasWorked k d units old.now mid → count ≡ counted (old.effective + units)
        → Units a b old (record { start = old.start; now = mid; effective = count })
    worked-to mid count worked counts =
        take-units units a b old (record { start = old.start; now = mid; effective = count }) calm-old worked passes counts refl

    pub turns-stop : (e : NoMemory) (to : Course) → Advances k d units old.now new.now (Err e)
        → new.effective ≡ counted (old.effective + units) → TakesNext k d a to old new (Err e)
    turns-stop e to call counts =
        let done = worked-to call.mid new.effective call.worked counts in (
          done.steps,
          b,
          done.given,
          record {
            now = call.turns ∙ done.taken.now;
            effective = done.taken.effective;
            start = start;
            unfinished = done.taken.unfinished;
          },
        )

    module _ (t : Turn) (call : Advances k d units old.now new.now (Ok t)) where
      pub turns-go : (quiet : Bool) (c : Course) (between : ℕ) → between ≡ counted (old.effective + units)
          → new.effective ≡ counted (between + (if is_move t then 1 else 0))
          → (passed : List Step) × PassesTo passed b c → TakesNext k d a c old new (Ok quiet)
      turns-go quiet c between counts counted-all (passed, passes-on) =
          let mid : WorldValue M S = record { start = old.start; now = call.mid; effective = between } in
          let done = worked-to call.mid between call.worked counts in
          let last = take-turn mid new done.calm passed passes-on.0 (is_move t)
          (record {
            now = call.turns.moved.new_is;
            moved_is = call.turns.moved.moved_is;
            effective = counted-all;
            start = start;
          }) in (
            done.steps ++ (passed ++ Machine ∷ []),
            long-both done.steps passed,
            gives-both a b c done.steps (passed ++ Machine ∷ []) done.given passes-on.1,
            take-both k d old mid new done.steps (passed ++ Machine ∷ []) done.taken last,
          )

      pub turns-quiet : is_sending t ≡ false → IsQuiet k d new.now
      turns-quiet silent =
          quiet-same call.mid new.now call.turns.leaves (call.turns.links silent)
          (worked-to call.mid (counted (old.effective + units)) call.worked refl).calm.quiet

  -- Steps that were taken lead to where some steps lead from the start.

  counted-on : (a n more : ℕ) → a ≡ counted n → counted (a + more) ≡ counted (n + more)
  counted-on a n more is = omega (arith, is)

  pub taken-reached : (old new : WorldValue M S) (ss : List Step) → IsReached k d old → HasTaken k d old new ss
      → IsReached k d new
  taken-reached old new ss was taken =
      let here = after_steps k d old.start was.steps in
      let more = map star_step ss in
      let now : new.now ≡ after_steps k d old.start (was.steps ++ more) =
      taken.now ∙ ap (λ w. star_all (star k d) w more) was.now
      ∙ sym (all_append (star k d) (begun k d old.start) was.steps more) in
      let count : new.effective ≡ counted (star_effective_steps (star k d) (begun k d old.start) (was.steps ++ more)) =
      taken.effective ∙ ap (λ w. counted (old.effective + star_effective_steps (star k d) w more)) was.now
      ∙ counted-on old.effective _ (star_effective_steps (star k d) here more) was.effective
      ∙ ap counted (sym (steps-append k d (begun k d old.start) was.steps more)) in
      let values : WorldValue M S = record { start = old.start; now = new.now; effective = new.effective } in
      subst (λ s. IsReached k d (record { start = s; now = new.now; effective = new.effective })) (sym taken.start)
      (record { fit = was.fit; steps = was.steps ++ more; now = now; effective = count })

  pub takes-reached : (r : Result Bool NoMemory) (a b : Course) (old new : WorldValue M S) → IsReached k d old
      → TakesNext k d a b old new r → IsReached k d new
  takes-reached (Ok quiet) a b old new was taken = taken-reached old new taken.0 was taken.3
  takes-reached (Err e) a b old new was taken = taken-reached old new taken.0 was taken.3

  -- One step of a course.

  pub step-next : (a b : Course) (old new : WorldValue M S) (step : Step) (moved quiet : Bool)
      → (old.now.hub.core.phase ≡ Done → ⊥) → Gives a step b → IsStepped k d old new (star_step step) moved
      → TakesNext k d a b old new (Ok quiet)
  step-next a b old new step moved quiet going gives is =
      (step ∷ [], omega arith, (b, gives, refl), take-one k d old new step moved going is)

  pub stays-next : (a b : Course) (old new : WorldValue M S) (e : NoMemory) → IsReached k d old → new ≡ old
      → TakesNext k d a b old new (Err e)
  stays-next a b old new e is same =
      ([], a, refl, subst (λ w. HasTaken k d old w []) (sym same) (take-none k d old _ is.effective))

  pub stays-sound : IsDevice d → IsMaster k → (w : WorldValue M S) → IsReached k d w → StaysSound k d w.now
  stays-sound device_laws master_laws w is steps =
      reached-sound k d device_laws master_laws
      (record {
        start = w.start;
        now = star_all (star k d) w.now steps;
        effective = counted (star_effective_steps (star k d) (begun k d w.start) (is.steps ++ steps));
      })
      (record {
        fit = is.fit;
        steps = is.steps ++ steps;
        now = ap (λ v. star_all (star k d) v steps) is.now
            ∙ sym (all_append (star k d) (begun k d w.start) is.steps steps);
        effective = refl;
      })
