-- Each round has every step of the base list, with some count above 0.
use Rattle.std.proofs.Common.{◌≡◌, ℕ, zero, suc, ◌+◌, ◌-◌, ◌*◌, ◌%◌, ◌<◌, ◌≤◌, List, [], ◌∷◌, length, map, Some}
use Rattle.std.proofs.Common.{option_map, slice_get, refl, ap, ap₂, ◌∙◌, ⊎_elim, arith}
use Rattle.std.proofs.lemmas.Bool.{cases_lt}
use Rattle.std.proofs.lemmas.Option.{none-some, same_Some, slice_get-map, slice_get_within}
use Rattle.process_network.specs.Rounds.{IsRound}
use Rattle.cos_schedules.specs.declared.step.Step.{Step}
use Rattle.cos_schedules.specs.declared.step.Step.TheVariants.{Machine, Device, Deliver}
use Rattle.cos_schedules.specs.declared.step.Way.{Way}
use Rattle.cos_schedules.specs.declared.step.Way.TheVariants.{Out, Back}
use Rattle.cos_schedules.specs.Schedules.{base, base_length, turned, drawn, following, counted, round}
use Rattle.cos_schedules.specs.Stars.{star_step}
use Rattle.cos_schedules.proofs.Places.{length-base, base-at, turned-front, turned-back}

abbrev Has : List Step → Step → Type 0
Has ss s = (i : ℕ) × (slice_get ss i ≡ Some s)

-- A turned list has what the list has.

has-turned : (r : ℕ) (ss : List Step) (s : Step) → r ≤ length ss → Has ss s → Has (turned r ss) s
has-turned r ss s inside has = ⊎_elim
    (λ before. let i = length ss - r + has.0 in (i, turned-back r i has.0 ss inside (omega arith) before ∙ has.1))
    (λ behind.
    let within = slice_get_within ss has.0 s has.1 in
    let i = has.0 - r in
    (i, turned-front r i has.0 ss (omega arith) within ∙ has.1))
    (cases_lt has.0 r)

-- Counts change no turn, and are above 0.

counted-machine : (x : ℕ) (ss : List Step) (i : ℕ) → slice_get ss i ≡ Some Machine
    → slice_get (counted x ss) i ≡ Some Machine
counted-machine x [] i e = e
counted-machine x (Machine ∷ ss) zero e = e
counted-machine x (Device p ∷ ss) zero e = e
counted-machine x (Deliver p way k ∷ ss) zero e = absurd (cc)
counted-machine x (Machine ∷ ss) (suc i) e = counted-machine x ss i e
counted-machine x (Device p ∷ ss) (suc i) e = counted-machine x ss i e
counted-machine x (Deliver p way k ∷ ss) (suc i) e = counted-machine (following x) ss i e

counted-device : (x p : ℕ) (ss : List Step) (i : ℕ) → slice_get ss i ≡ Some (Device p)
    → slice_get (counted x ss) i ≡ Some (Device p)
counted-device x p [] i e = e
counted-device x p (Machine ∷ ss) zero e = e
counted-device x p (Device q ∷ ss) zero e = e
counted-device x p (Deliver q way k ∷ ss) zero e = absurd (cc)
counted-device x p (Machine ∷ ss) (suc i) e = counted-device x p ss i e
counted-device x p (Device q ∷ ss) (suc i) e = counted-device x p ss i e
counted-device x p (Deliver q way k ∷ ss) (suc i) e = counted-device (following x) p ss i e

abbrev Delivers : List Step → ℕ → Way → Type 0
Delivers ss p way = (i : ℕ) × (k : ℕ) × (slice_get ss i ≡ Some (Deliver p way (suc k)))

delivers-behind : (s : Step) (ss : List Step) (p : ℕ) (way : Way) → Delivers ss p way → Delivers (s ∷ ss) p way
delivers-behind s ss p way d = (suc d.0, d.1, d.2)

counted-first : (p q k l n : ℕ) (way other : Way) → Some (Deliver q other l) ≡ Some (Deliver p way k)
    → Some (Deliver q other (1 + n)) ≡ Some (Deliver p way (suc n))
counted-first p q k l n way other e =
    let same = same_Some (Deliver q other l) (Deliver p way k) e in
    let port : q ≡ p = cc in
    let ways : other ≡ way = cc in
    let count : 1 + n ≡ suc n = omega arith in
    ap Some (ap₂ (λ a w. Deliver a w (1 + n)) port ways ∙ ap (Deliver p way) count)

counted-delivers : (x p k : ℕ) (way : Way) (ss : List Step) (i : ℕ) → slice_get ss i ≡ Some (Deliver p way k)
    → Delivers (counted x ss) p way
counted-delivers x p k way [] i e = absurd (none-some (Deliver p way k) e)
counted-delivers x p k way (Machine ∷ ss) zero e = absurd (cc)
counted-delivers x p k way (Device q ∷ ss) zero e = absurd (cc)
counted-delivers x p k way (Deliver q other l ∷ ss) zero e =
    (0, drawn x % 64, counted-first p q k l (drawn x % 64) way other e)
counted-delivers x p k way (Machine ∷ ss) (suc i) e =
    delivers-behind Machine (counted x ss) p way (counted-delivers x p k way ss i e)
counted-delivers x p k way (Device q ∷ ss) (suc i) e =
    delivers-behind (Device q) (counted x ss) p way (counted-delivers x p k way ss i e)
counted-delivers x p k way (Deliver q other l ∷ ss) (suc i) e =
    delivers-behind (Deliver q other (1 + drawn x % 64)) (counted (following x) ss) p way
    (counted-delivers (following x) p k way ss i e)

-- The base list has each step.

base-device : (n p : ℕ) → p < n → Has (base n) (Device p)
base-device n p inside = (suc (3 * p + 1), base-at n (suc (3 * p + 1)) p 1 inside (omega arith) refl)

base-out : (n p : ℕ) → p < n → Has (base n) (Deliver p Out 65556)
base-out n p inside = (suc (3 * p + 0), base-at n (suc (3 * p + 0)) p 0 inside (omega arith) refl)

base-back : (n p : ℕ) → p < n → Has (base n) (Deliver p Back 65556)
base-back n p inside = (suc (3 * p + 2), base-at n (suc (3 * p + 2)) p 2 inside (omega arith) refl)

-- So has each round.

record IsWhole (n : ℕ) (ss : List Step) : Type 0 where
  machine : Has ss Machine
  device : (p : ℕ) → p < n → Has ss (Device p)
  out : (p : ℕ) → p < n → Delivers ss p Out
  back : (p : ℕ) → p < n → Delivers ss p Back

with-count : (ss : List Step) (p : ℕ) (way : Way) → Has ss (Deliver p way 65556) → Delivers ss p way
with-count ss p way has = (has.0, 65555, has.1)

base-whole : (n : ℕ) → IsWhole n (base n)
base-whole n = record {
  machine = (0, refl);
  device = base-device n;
  out = λ p inside. with-count (base n) p Out (base-out n p inside);
  back = λ p inside. with-count (base n) p Back (base-back n p inside);
}

counted-whole : (x r n : ℕ) → r ≤ length (base n) → IsWhole n (counted x (turned r (base n)))
counted-whole x r n inside =
    let ss = turned r (base n) in
    let moved : (s : Step) → Has (base n) s → Has ss s = λ s. has-turned r (base n) s inside in
    let machine = moved Machine (0, refl) in
    let device : (p : ℕ) → p < n → Has ss (Device p) = λ p below. moved (Device p) (base-device n p below) in
    let out : (p : ℕ) → p < n → Has ss (Deliver p Out 65556) = λ p below. moved _ (base-out n p below) in
    let back : (p : ℕ) → p < n → Has ss (Deliver p Back 65556) = λ p below. moved _ (base-back n p below) in
    record {
      machine = (machine.0, counted-machine x ss machine.0 machine.1);
      device = λ p below. ((device p below).0, counted-device x p ss (device p below).0 (device p below).1);
      out = λ p below. counted-delivers x p 65556 Out ss (out p below).0 (out p below).1;
      back = λ p below. counted-delivers x p 65556 Back ss (back p below).0 (back p below).1;
    }

whole : (number n x : ℕ) → IsWhole n (round number n x)
whole zero n x = base-whole n
whole (suc number) n x = counted-whole (following x) (drawn x % base_length n) n (omega (arith, length-base n))

starred : (ss : List Step) (i : ℕ) (s : Step) → slice_get ss i ≡ Some s
    → slice_get (map star_step ss) i ≡ Some (star_step s)
starred ss i s e = slice_get-map star_step ss i ∙ ap (option_map star_step) e

pub star-round : (number n x : ℕ) → IsRound n (map star_step (round number n x))
star-round number n x =
    let ss = round number n x in
    let is = whole number n x in
    record {
      hub = (is.machine.0, starred ss _ Machine is.machine.1);
      leaf = λ p inside. (let has = is.device p inside in (has.0, starred ss _ (Device p) has.1));
      out = λ p inside. (let has = is.out p inside in (has.0, has.1, starred ss _ (Deliver p Out _) has.2));
      back = λ p inside. (let has = is.back p inside in (has.0, has.1, starred ss _ (Deliver p Back _) has.2));
    }
