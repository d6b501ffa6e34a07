-- Under the rounds of a number a world comes to its end: how many steps are left.
use Rattle.std.proofs.Common.{◌≡◌, ◌⊎◌, inl, inr, ℕ, zero, suc, ◌+◌, ◌*◌, ◌<◌, ◌≤◌, Bool, true, false, List, [], ◌∷◌, ◌++◌, length, map, refl, sym, ap, ◌∙◌, subst, arith, drop, get_or}
use Rattle.std.specs.Prelude.{if◌then◌else◌}
use Rattle.process_network.specs.Star.{IsStarMonotone, IsStarQuiescent, StarStep, star_after, star_all, star_effective, star_effective_steps}
use Rattle.process_network.proofs.CalmRuns.{all_append}
use Rattle.process_network.proofs.PacketRuns.{ends_monotone}
use Rattle.process_network.proofs.Rounds.{round_quiescent, within}
use Rattle.cosim_model.specs.Parts.{DeviceModel, IsDevice, IsMaster, MasterModel}
use Rattle.ends_model.specs.declared.ends.Phase.{Phase}
use Rattle.ends_model.specs.declared.ends.Phase.TheVariants.{Greet, Meet, Run, AnswerFrom, SyncTo, Gather, Done}
use Rattle.ends_model.specs.World.{Fit, ends}
use Rattle.every_schedule.specs.Schedules as all
use Rattle.every_schedule.proofs.Bounded.{bounded}
use Rattle.rp_framing.specs.Framing.{counted}
use Rattle.rp_packet.specs.CodecLaws.{codec-laws}
use Rattle.rp_packet.specs.Streams.{packet_codec}
use Rattle.cos_schedules.specs.declared.step.Step.{Step}
use Rattle.cos_schedules.specs.declared.step.Step.TheVariants.{Machine}
use Rattle.cos_schedules.specs.Courses.{Course, Gives, GivesAll, begun, begun_at}
use Rattle.cos_schedules.specs.Schedules.{after_round, base_length, round}
use Rattle.cos_schedules.specs.Stars.{star_step}
use Rattle.cos_schedules.proofs.Courses.{begun-left, begun-same, length-round}
use Rattle.cos_schedules.proofs.StarRounds.{star-round}
use Rattle.world.specs.Stars.{Ends, star}
use Rattle.world.specs.Worlds.{IsReached, Start, WorldValue, after_steps, begun as begun_ends}
use Rattle.world.proofs.Reaching.{leaves-long, links-long, next-reached, steps-append, theorem}

-- so many rounds and one more, of n ports
abbrev pub enough : ℕ → ℕ → ℕ
enough n zero = base_length n
enough n (suc rounds) = base_length n + enough n rounds

-- The next step of a course, and the course after it.

abbrev first_of : List Step → Step
first_of [] = Machine
first_of (s ∷ ss) = s

abbrev rest_of : List Step → List Step
rest_of [] = []
rest_of (s ∷ ss) = ss

abbrev pub next_step : Course → Step
next_step c = first_of (begun c).left

abbrev pub next_course : Course → Course
next_course c = record (begun c) { left = rest_of (begun c).left }

pub gives-step : (c : Course) (step : Step) (new : Course) → Gives c step new → step ≡ next_step c
gives-step c step new is = sym (ap (λ (x : Course). first_of x.left) is)

pub gives-course : (c : Course) (step : Step) (new : Course) → Gives c step new → new ≡ next_course c
gives-course c step new is = sym (ap (λ (x : Course). record x { left = rest_of x.left }) is)

abbrev is_done_phase : Phase → Bool
is_done_phase (Greet p) = false
is_done_phase (Meet p) = false
is_done_phase Run = false
is_done_phase (AnswerFrom p a) = false
is_done_phase (SyncTo p) = false
is_done_phase Gather = false
is_done_phase Done = true

pub done-is : (phase : Phase) → phase ≡ Done → is_done_phase phase ≡ true
done-is phase is = ap is_done_phase is

pub not-done : (phase : Phase) → (phase ≡ Done → ⊥) → is_done_phase phase ≡ false
not-done (Greet p) going = refl
not-done (Meet p) going = refl
not-done Run going = refl
not-done (AnswerFrom p a) going = refl
not-done (SyncTo p) going = refl
not-done Gather going = refl
not-done Done going = absurd (going refl)

module _ {M S : Type 0} (k : MasterModel M) (d : DeviceModel S) where
  abbrev pub is_done : Ends M S → Bool
  is_done w = is_done_phase w.hub.core.phase

  abbrev after : Ends M S → Course → Ends M S
  after w c = star_after (star k d) w (star_step (next_step c))

  -- how many steps are left until the machine end is done, up to so many
  abbrev pub steps_left : ℕ → Ends M S → Course → ℕ
  steps_left zero w c = 0
  steps_left (suc most) w c = if is_done w then 0 else suc (steps_left most (after w c) (next_course c))

  abbrev pub IsWithin : ℕ → Ends M S → Course → Type 0
  IsWithin zero w c = is_done w ≡ true
  IsWithin (suc n) w c = (is_done w ≡ true) ⊎ IsWithin n (after w c) (next_course c)

  none-left : (most : ℕ) (w : Ends M S) (c : Course) → is_done w ≡ true → steps_left most w c ≡ 0
  none-left zero w c done = refl
  none-left (suc most) w c done = ap (λ b. if b then 0 else suc (steps_left most (after w c) (next_course c))) done

  pub one-less : (most : ℕ) (w : Ends M S) (c : Course) → is_done w ≡ false
      → steps_left (suc most) w c ≡ suc (steps_left most (after w c) (next_course c))
  one-less most w c going = ap (λ b. if b then 0 else suc (steps_left most (after w c) (next_course c))) going

  stable : (n : ℕ) (w : Ends M S) (c : Course) (most : ℕ) → IsWithin n w c → n ≤ most → steps_left most w c ≡ steps_left n w c
  stable zero w c most done few = none-left most w c done
  stable (suc n) w c zero is few = absurd (omega (arith, few))
  stable (suc n) w c (suc most) (inl done) few = none-left (suc most) w c done ∙ sym (none-left (suc n) w c done)
  stable (suc n) w c (suc most) (inr is) few =
      ap (λ m. if is_done w then 0 else suc m) (stable n (after w c) (next_course c) most is (omega (arith, few)))

  pub falls : (n : ℕ) (w : Ends M S) (c : Course) (most : ℕ) → IsWithin n w c → n ≤ most → is_done w ≡ false
      → steps_left most (after w c) (next_course c) < steps_left most w c
  falls zero w c most done few going = absurd (cc (done, going))
  falls (suc n) w c most (inl done) few going = absurd (cc (done, going))
  falls (suc n) w c most (inr is) few going =
      let whole = stable (suc n) w c most (inr is) few in
      let one = one-less n w c going in
      let rest = stable n (after w c) (next_course c) most is (omega (arith, few)) in
      omega (arith, whole, one, rest)

  more-within : (n m : ℕ) (w : Ends M S) (c : Course) → IsWithin n w c → n ≤ m → IsWithin m w c
  more-within zero zero w c is few = is
  more-within zero (suc m) w c is few = inl is
  more-within (suc n) zero w c is few = absurd (omega (arith, few))
  more-within (suc n) (suc m) w c (inl done) few = inl done
  more-within (suc n) (suc m) w c (inr is) few = inr (more-within n m (after w c) (next_course c) is (omega (arith, few)))

  -- Through what is left of a round.
  through : (xs : List Step) (n m : ℕ) (w : Ends M S) (c : Course) → c.left ≡ xs → m ≡ length xs + n
      → IsWithin n (star_all (star k d) w (map star_step xs)) (record c { left = [] }) → IsWithin m w c
  through [] n m w c same long is =
      let all : n ≡ m = omega (arith, long) in
      subst (λ j. IsWithin j w c) all (subst (λ l. IsWithin n w (record c { left = l })) (sym same) is)
  through (x ∷ xs) n zero w c same long is = absurd (omega (arith, long))
  through (x ∷ xs) n (suc m) w c same long is =
      let begun_is : begun c ≡ c = sym (begun-same c (let e = ap length same in omega (arith, e))) in
      let step : next_step c ≡ x = ap (λ (y : Course). first_of y.left) begun_is ∙ ap first_of same in
      let course : next_course c ≡ record c { left = xs } =
      ap (λ (y : Course). record y { left = rest_of y.left }) begun_is ∙ ap (λ l. record c { left = rest_of l }) same in
      inr (subst (λ y. IsWithin m (after w c) y) (sym course)
      (subst (λ s. IsWithin m (star_after (star k d) w (star_step s)) (record c { left = xs })) (sym step)
      (through xs n m (star_after (star k d) w (star_step x)) (record c { left = xs }) refl (omega (arith, long)) is)))

  -- A round that begins is as one that is begun.
  as-begun : (n : ℕ) (w : Ends M S) (c : Course) → IsWithin n w (begun c) → IsWithin n w c
  as-begun zero w c is = is
  as-begun (suc n) w c (inl done) = inl done
  as-begun (suc n) w c (inr is) =
      let same : begun (begun c) ≡ begun c = sym (begun-same (begun c) (begun-left c)) in
      inr (subst (λ (y : Course). IsWithin n (star_after (star k d) w (star_step (first_of y.left))) (record y { left = rest_of y.left }))
      same is)

  module _ (device_laws : IsDevice d) (master_laws : IsMaster k) (s : Start M S) (fit : Fit k d s.plan s.master s.ports) where
    abbrev pub ports : ℕ
    ports = length s.ports

    abbrev pub most : ℕ
    most = all.most_steps k d packet_codec s.plan s.master s.ports

    abbrev pub at : List StarStep → Ends M S
    at steps = after_steps k d s steps

    abbrev pub count : List StarStep → ℕ
    count steps = star_effective_steps (star k d) (begun_ends k d s) steps

    steady : IsStarMonotone (star k d)
    steady = ends_monotone (ends k d packet_codec) codec-laws.decided

    few : (steps : List StarStep) → count steps ≤ most
    few steps = bounded k d packet_codec s.plan device_laws master_laws codec-laws s.master s.ports fit steps

    at-more : (xs ys : List StarStep) → at (xs ++ ys) ≡ star_all (star k d) (at xs) ys
    at-more xs ys = all_append (star k d) (begun_ends k d s) xs ys

    count-more : (xs ys : List StarStep) → count (xs ++ ys) ≡ count xs + star_effective_steps (star k d) (at xs) ys
    count-more xs ys = steps-append k d (begun_ends k d s) xs ys

    abbrev round-of : Course → List Step
    round-of c = round c.number ports c.x

    abbrev moved-in : List StarStep → Course → ℕ
    moved-in steps c = star_effective_steps (star k d) (at steps) (map star_step (round-of c))

    -- Where a round changes nothing, the machine end is done.
    still-done : (steps : List StarStep) (c : Course) → moved-in steps c ≡ 0 → is_done (at steps) ≡ true
    still-done steps c still =
        by (round_quiescent (star k d) ports (at steps) (within (star k d) steady _ _ steps) (links-long k d s steps)
        (leaves-long k d s steps) _ (star-round c.number ports c.x) still)
        ((theorem k d device_laws master_laws s fit).goes_on steps)
      where
        by : IsStarQuiescent (star k d) (after_steps k d s steps)
            → all.IsEnd k d packet_codec s.plan s.master s.ports (after_steps k d s steps)
            ⊎ ((step : StarStep) × (star_effective (star k d) (after_steps k d s steps) step ≡ true))
            → is_done (after_steps k d s steps) ≡ true
        by quiet (inl end) = done-is _ end.phase
        by quiet (inr (step, moves)) = absurd (let e = quiet step in cc (e, moves))

    -- From the beginning of a round, with so many effective steps left at most.

    begun-is : (c : Course) → c.left ≡ [] → c.ports ≡ ports
        → begun c ≡ record c { left = round-of c; x = after_round c.number ports c.x }
    begun-is c none long =
        ap (begun_at c) none
        ∙ ap (λ n. record c { left = round c.number n c.x; x = after_round c.number n c.x }) long

    idle-round : (n : ℕ) (steps : List StarStep) (c : Course) → moved-in steps c ≡ 0 → IsWithin n (at steps) c
    idle-round n steps c still = more-within 0 n (at steps) c (still-done steps c still) (omega arith)

    after-round : (steps : List StarStep) (c : Course) (n m : ℕ) → c.left ≡ [] → c.ports ≡ ports
        → m ≡ base_length ports + n
        → IsWithin n (at (steps ++ map star_step (round-of c))) (record (begun c) { left = [] })
        → IsWithin m (at steps) c
    after-round steps c n m none long all rest =
        let size = length-round c.number ports c.x in
        as-begun m (at steps) c
        (through (round-of c) n m (at steps) (begun c) (ap (λ (y : Course). y.left) (begun-is c none long))
        (omega (arith, size, all))
        (subst (λ w. IsWithin n w (record (begun c) { left = [] })) (at-more steps (map star_step (round-of c))) rest))

    too-many : (steps : List StarStep) (c : Course) (n : ℕ) → moved-in steps c ≡ suc n → most ≤ count steps + 0 → ⊥
    too-many steps c n moves bound =
        let a = few (steps ++ map star_step (round-of c)) in
        let b = count-more steps (map star_step (round-of c)) in
        omega (arith, a, b, moves, bound)

    from-round : (left : ℕ) (steps : List StarStep) (c : Course) → c.left ≡ [] → c.ports ≡ ports
        → most ≤ count steps + left → IsWithin (enough ports left) (at steps) c
    from-round zero steps c none long bound =
        first-round steps c (λ n moves. absurd (too-many steps c n moves bound)) (moved-in steps c) refl
      where
        first-round : (steps : List StarStep) (c : Course)
            → ((n : ℕ) → moved-in steps c ≡ suc n → IsWithin (enough ports 0) (at steps) c) → (n : ℕ) → moved-in steps c ≡ n
            → IsWithin (enough ports 0) (at steps) c
        first-round steps c later zero still = idle-round (enough ports 0) steps c still
        first-round steps c later (suc n) moves = later n moves
    from-round (suc left) steps c none long bound =
        a-round left steps c
        (λ n moves.
        let b = count-more steps (map star_step (round-of c)) in
        after-round steps c (enough ports left) (enough ports (suc left)) none long refl
        (from-round left (steps ++ map star_step (round-of c)) (record (begun c) { left = [] }) refl
        (ap (λ (y : Course). y.ports) (begun-is c none long) ∙ long) (omega (arith, b, moves, bound))))
        (moved-in steps c) refl
      where
        a-round : (left : ℕ) (steps : List StarStep) (c : Course)
            → ((n : ℕ) → moved-in steps c ≡ suc n → IsWithin (enough ports (suc left)) (at steps) c)
            → (n : ℕ) → moved-in steps c ≡ n → IsWithin (enough ports (suc left)) (at steps) c
        a-round left steps c later zero still = idle-round (enough ports (suc left)) steps c still
        a-round left steps c later (suc n) moves = later n moves

    pub left-within : (steps : List StarStep) (c : Course) → c.ports ≡ ports → length c.left ≤ base_length ports
        → IsWithin (base_length ports + enough ports most) (at steps) c
    left-within steps c long short =
        let rest = from-round most (steps ++ map star_step c.left) (record c { left = [] }) refl long (omega arith) in
        more-within (length c.left + enough ports most) (base_length ports + enough ports most) (at steps) c
        (through c.left (enough ports most) (length c.left + enough ports most) (at steps) c refl refl
        (subst (λ w. IsWithin (enough ports most) w (record c { left = [] })) (at-more steps (map star_step c.left)) rest))
        (omega (arith, short))

-- what a loop over the steps of the rounds of a number is measured by
abbrev pub measure : {M S : Type 0} → MasterModel M → DeviceModel S → Start M S → Ends M S → Course → ℕ
measure k d s w c =
    steps_left k d
    (base_length (length s.ports)
    + enough (length s.ports) (all.most_steps k d packet_codec s.plan s.master s.ports)) w c

pub measure-falls : {M S : Type 0} (k : MasterModel M) (d : DeviceModel S) → IsDevice d → IsMaster k
    → (w : WorldValue M S) → IsReached k d w → (c new : Course) (step : Step) → Gives c step new
    → c.ports ≡ length w.start.ports → length c.left ≤ base_length (length w.start.ports)
    → (w.now.hub.core.phase ≡ Done → ⊥)
    → measure k d w.start (star_after (star k d) w.now (star_step step)) new < measure k d w.start w.now c
measure-falls k d device_laws master_laws w is c new step gives long short going =
    let most = base_length (length w.start.ports)
    + enough (length w.start.ports) (all.most_steps k d packet_codec w.start.plan w.start.master w.start.ports) in
    let inside = subst (λ v. IsWithin k d most v c) (sym is.now)
    (left-within k d device_laws master_laws w.start is.fit is.steps c long short) in
    let less = falls k d most w.now c most inside (omega arith) (not-done _ going) in
    subst (λ s. steps_left k d most (star_after (star k d) w.now (star_step s)) new < steps_left k d most w.now c)
    (sym (gives-step c step new gives))
    (subst (λ y. steps_left k d most (star_after (star k d) w.now (star_step (next_step c))) y < steps_left k d most w.now c)
    (sym (gives-course c step new gives)) less)

-- What stays of a course: its ports, and that at most a round is left.
pub course-keeps : (c new : Course) (step : Step) (n : ℕ) → Gives c step new → c.ports ≡ n → length c.left ≤ base_length n
    → (new.ports ≡ n) × (length new.left ≤ base_length n)
course-keeps c new step n gives long short = by c.left refl
  where
    ports-are : new.ports ≡ (begun c).ports
    ports-are = sym (ap (λ (x : Course). x.ports) gives)

    left-are : suc (length new.left) ≡ length (begun c).left
    left-are = sym (ap (λ (x : Course). length x.left) gives)

    by : (left : List Step) → c.left ≡ left → (new.ports ≡ n) × (length new.left ≤ base_length n)
    by [] none =
        let at = ap (begun_at c) none in
        let size : length (begun c).left ≡ base_length c.ports =
        ap (λ (x : Course). length x.left) at ∙ length-round c.number c.ports c.x in (
          ports-are ∙ ap (λ (x : Course). x.ports) at ∙ long,
          let all : suc (length new.left) ≡ base_length n = left-are ∙ size ∙ ap base_length long in omega (arith, all),
        )
    by (s ∷ ss) some =
        let at : begun c ≡ c = ap (begun_at c) some in
        let size : length (begun c).left ≡ length c.left = ap (λ (x : Course). length x.left) at in
        (ports-are ∙ ap (λ (x : Course). x.ports) at ∙ long, omega (arith, left-are, size, short))

-- The same of steps that a course gives one after another.

pub course-keeps-all : (c new : Course) (steps : List Step) (n : ℕ) → GivesAll c steps new → c.ports ≡ n
    → length c.left ≤ base_length n → (new.ports ≡ n) × (length new.left ≤ base_length n)
course-keeps-all c new [] n gives long short =
    (ap (λ (x : Course). x.ports) (sym gives) ∙ long, (let same = ap (λ (x : Course). length x.left) gives in omega (arith, same, short)))
course-keeps-all c new (s ∷ steps) n gives long short =
    let keeps = course-keeps c gives.0 s n gives.1 long short in
    course-keeps-all gives.0 new steps n gives.2 keeps.0 keeps.1

pub measure-falls-all : {M S : Type 0} (k : MasterModel M) (d : DeviceModel S) → IsDevice d → IsMaster k
    → (steps : List Step) (w : WorldValue M S) → IsReached k d w → (c new : Course) → GivesAll c steps new
    → c.ports ≡ length w.start.ports → length c.left ≤ base_length (length w.start.ports)
    → ((front : List Step) (step : Step) (back : List Step) → steps ≡ front ++ step ∷ back
    → (star_all (star k d) w.now (map star_step front)).hub.core.phase ≡ Done → ⊥)
    → measure k d w.start (star_all (star k d) w.now (map star_step steps)) new + length steps ≤ measure k d w.start w.now c
measure-falls-all k d device_laws master_laws [] w is c new gives long short going =
    let same = ap (measure k d w.start w.now) gives in omega (arith, same)
measure-falls-all {M} {S} k d device_laws master_laws (s ∷ steps) w is c new gives long short going =
    let moved = star_effective (star k d) w.now (star_step s) in
    let next : WorldValue M S = record {
      start = w.start;
      now = star_after (star k d) w.now (star_step s);
      effective = counted (w.effective + (if moved then 1 else 0));
    } in
    let reached = next-reached k d w next (star_step s) moved is
    (record { now = refl; moved_is = refl; effective = refl; start = refl }) in
    let keeps = course-keeps c gives.0 s (length w.start.ports) gives.1 long short in
    let one = measure-falls k d device_laws master_laws w is c gives.0 s gives.1 long short (going [] s steps refl) in
    let rest = measure-falls-all k d device_laws master_laws steps next reached gives.0 new gives.2 keeps.0 keeps.1
    (λ front step back same done. going (s ∷ front) step back (ap (λ l. s ∷ l) same) done) in
    omega (arith, one, rest)
