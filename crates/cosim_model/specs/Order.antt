-- When boundaries are, and what is served first.
use Rattle.std.specs.Prelude.{ℕ, suc, ◌%◌, Bool, ◌&&◌, if◌then◌else◌, nat_eq, nat_lt, nat_le, List, [], ◌∷◌, Option, Some, None}
use Rattle.cosim_model.specs.declared.values.Plan.{Plan}

abbrev pub at_quantum : Plan → ℕ → Bool
at_quantum plan tick = nat_lt 0 tick && nat_eq (tick % plan.quantum) 0

-- The place of the least number with that number, the first one among equals.

abbrev pub later : Option (ℕ × ℕ) → Option (ℕ × ℕ)
later None = None
later (Some r) = Some (suc r.0, r.1)

abbrev pub lower : ℕ → Option (ℕ × ℕ) → Option (ℕ × ℕ)
lower t None = Some (0, t)
lower t (Some r) = if nat_le t r.1 then Some (0, t) else Some (suc r.0, r.1)

abbrev pub least : List (Option ℕ) → Option (ℕ × ℕ)
least [] = None
least (None ∷ os) = later (least os)
least (Some t ∷ os) = lower t (least os)
