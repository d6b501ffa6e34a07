-- Multiples of the quantum.
use Rattle.std.proofs.Common.{◌≡◌, ℕ, zero, suc, ◌+◌, ◌-◌, ◌*◌, ◌/◌, ◌%◌, ◌<◌, ◌≤◌, Bool, true, false, ◌&&◌, nat_lt, nat_eq, refl, ap, ◌∙◌, arith}
use Rattle.std.proofs.Math.Nat.{mod_self, mod-eq_of_lt, add-mod_right, mod-add-div'}
use Rattle.std.proofs.lemmas.Nat.{mod-mul-add}
use Rattle.std.proofs.lemmas.Bool.{ne_eqb, eq-eqb, lt-ltb}
use Rattle.direct_machine.specs.Quanta.{at_multiple, IsNext}

no_multiple : (quantum t r : ℕ) → t % quantum ≡ r → 0 < r → at_multiple quantum t ≡ false
no_multiple quantum t r e some = ap (λ b. nat_lt 0 t && b) (ne_eqb (t % quantum) 0 (λ none. let f : t % quantum ≡ 0 = none in absurd (omega arith))) ∙ last (nat_lt 0 t)
  where
    last : (b : Bool) → (b && false) ≡ false
    last true = refl
    last false = refl

pub is-multiple : (quantum t : ℕ) → 0 < t → t % quantum ≡ 0 → at_multiple quantum t ≡ true
is-multiple quantum t some e = ap (λ b. b && nat_eq (t % quantum) 0) (lt-ltb 0 t some) ∙ eq-eqb (t % quantum) 0 e

pub first-next : (quantum : ℕ) → 0 < quantum → IsNext quantum 0 quantum
first-next quantum some = record {
  ahead = omega arith;
  far = omega arith;
  some = some;
  multiple = mod_self quantum;
  between = none;
}
  where
    none : (t : ℕ) → 0 ≤ t → t < quantum → at_multiple quantum t ≡ false
    none zero low high = refl
    none (suc t) low high = no_multiple quantum (suc t) (suc t) (mod-eq_of_lt high) (omega arith)

-- a tick on, where the tick was no multiple
pub later-next : (quantum tick next : ℕ) → (tick ≡ next → ⊥) → IsNext quantum tick next → IsNext quantum (tick + 1) next
later-next quantum tick next not_there is = record {
  ahead = (let a = is.ahead in omega arith);
  far = is.far;
  some = is.some;
  multiple = is.multiple;
  between = λ t low high. is.between t (omega arith) high;
}

-- a tick on, where it was one
pub after-next : (quantum tick next : ℕ) → tick ≡ next → IsNext quantum tick next → IsNext quantum (tick + 1) (next + quantum)
after-next quantum tick next there is = record {
  ahead = (let a = is.some in omega arith);
  far = omega arith;
  some = is.some;
  multiple = add-mod_right next quantum ∙ is.multiple;
  between = none;
}
  where
    whole : next / quantum * quantum ≡ next
    whole = (let a = mod-add-div' next quantum in let b = is.multiple in omega arith)

    none : (t : ℕ) → tick + 1 ≤ t → t < next + quantum → at_multiple quantum t ≡ false
    none t low high = no_multiple quantum t (t - next) (ap (λ m. m % quantum) back ∙ mod-mul-add (next / quantum) quantum (t - next) (omega arith)) (omega arith)
      where
        back : t ≡ next / quantum * quantum + (t - next)
        back = (let e = whole in omega arith)
