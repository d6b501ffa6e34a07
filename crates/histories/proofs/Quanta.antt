-- The boundaries from one multiple of the quantum to the next.
use Rattle.std.proofs.Common.{◌≡◌, ℕ, zero, suc, ◌+◌, ◌-◌, ◌%◌, ◌<◌, ◌≤◌, min, false, List, [], ◌∷◌, refl, sym, ap, ◌∙◌, arith}
use Rattle.cosim_model.specs.declared.values.Plan.{Plan}
use Rattle.cosim_model.specs.Order.{at_quantum}
use Rattle.direct_machine.specs.Quanta.{IsNext}
use Rattle.direct_machine.proofs.Nexts.{is-multiple, first-next, after-next}
use Rattle.histories.specs.Histories.{boundary_ticks}
use Rattle.histories.proofs.Boundaries.{boundaries_from, one-here, none-here}

-- those of a run that ends there, from a tick on
abbrev pub boundaries_left : Plan → ℕ → ℕ → List ℕ
boundaries_left plan tick end = boundaries_from plan tick (end - tick) end

-- ticks without one are passed over
past : (plan : Plan) (n s u end : ℕ) → s + n ≡ u → u ≤ end → ((t : ℕ) → s ≤ t → t < u → at_quantum plan t ≡ false) → boundaries_left plan s end ≡ boundaries_left plan u end
past plan zero s u end e within none = (let same : s ≡ u = omega arith in ap (λ t. boundaries_left plan t end) same)
past plan (suc n) s u end e within none =
    ap (λ m. boundaries_from plan s m end) one ∙ none-here plan s (end - (s + 1)) end (none s (omega arith) (omega arith))
    ∙ past plan n (s + 1) u end (omega arith) within (λ t low high. none t (omega arith) high)
  where
    one : end - s ≡ suc (end - (s + 1))
    one = omega arith

-- The first one of a run is a quantum behind tick 0, or at the end.
pub first-left : (plan : Plan) (end : ℕ) → 0 < plan.quantum → boundary_ticks plan end ≡ boundaries_left plan (min (0 + plan.quantum) end) end
first-left plan end some =
    ap (λ n. boundaries_from plan 0 n end) (let whole : end ≡ end - 0 = omega arith in whole)
    ∙ past plan (min (0 + plan.quantum) end) 0 (min (0 + plan.quantum) end) end (omega arith) (omega arith)
    (λ t low high. (first-next plan.quantum some).between t low (omega arith))

-- behind a multiple of the quantum
after-multiple : (quantum tick : ℕ) → 0 < quantum → quantum ≤ tick → tick % quantum ≡ 0 → IsNext quantum (tick + 1) (tick + quantum)
after-multiple quantum tick some far whole = after-next quantum tick tick refl (record {
  ahead = omega arith;
  far = far;
  some = some;
  multiple = whole;
  between = λ t low high. absurd (omega arith);
})

pub next-left : (plan : Plan) (tick end : ℕ) → 0 < plan.quantum → tick < end → plan.quantum ≤ tick → tick % plan.quantum ≡ 0 → boundaries_left plan tick end ≡ tick ∷ boundaries_left plan (min (tick + plan.quantum) end) end
next-left plan tick end some before far whole =
    ap (λ m. boundaries_from plan tick m end) one
    ∙ one-here plan tick (end - (tick + 1)) end (is-multiple plan.quantum tick (omega arith) whole)
    ∙ ap (λ ts. tick ∷ ts) (past plan (min (tick + plan.quantum) end - (tick + 1)) (tick + 1) (min (tick + plan.quantum) end) end (omega arith) (omega arith)
    (λ t low high. (after-multiple plan.quantum tick some far whole).between t low (omega arith)))
  where
    one : end - tick ≡ suc (end - (tick + 1))
    one = omega arith

-- The last one is at the end.
pub last-left : (plan : Plan) (tick end : ℕ) → tick ≡ end → boundaries_left plan tick end ≡ tick ∷ []
last-left plan tick end there = ap (λ n. boundaries_from plan tick n end) none ∙ ap (λ t. t ∷ []) (sym there)
  where
    none : end - tick ≡ 0
    none = omega arith
