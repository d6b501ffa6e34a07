-- The boundaries of a run from a tick on.
use Rattle.std.proofs.Common.{◌≡◌, ℕ, zero, suc, ◌+◌, ◌<◌, Bool, true, false, cond, List, [], ◌∷◌, ◌++◌, map, refl, sym, ap, subst, arith}
use Rattle.std.specs.List.{filter, range_with_len}
use Rattle.cosim_model.specs.declared.values.Call.{Call}
use Rattle.cosim_model.specs.declared.values.Plan.{Plan}
use Rattle.cosim_model.specs.Order.{at_quantum}
use Rattle.cosim_model.specs.Direct.Moment.{Called}
use Rattle.histories.specs.Histories.{tick_of, merged}
use Rattle.histories.proofs.Merges.{Each, each-weaker, calls-first}

-- With so many ticks left before the end.
abbrev pub boundaries_from : Plan → ℕ → ℕ → ℕ → List ℕ
boundaries_from plan t left end = filter (at_quantum plan) (range_with_len t left) ++ end ∷ []

pub one-here : (plan : Plan) (t left end : ℕ) → at_quantum plan t ≡ true → boundaries_from plan t (suc left) end ≡ t ∷ boundaries_from plan (t + 1) left end
one-here plan t left end e =
    ap (λ b. cond b (t ∷ filter (at_quantum plan) (range_with_len (t + 1) left)) (filter (at_quantum plan) (range_with_len (t + 1) left)) ++ end ∷ []) e

pub none-here : (plan : Plan) (t left end : ℕ) → at_quantum plan t ≡ false → boundaries_from plan t (suc left) end ≡ boundaries_from plan (t + 1) left end
none-here plan t left end e =
    ap (λ b. cond b (t ∷ filter (at_quantum plan) (range_with_len (t + 1) left)) (filter (at_quantum plan) (range_with_len (t + 1) left)) ++ end ∷ []) e

-- Ticks of which the first is later than one.
pub record BeginsAfter (t : ℕ) (ts : List ℕ) : Type 0 where
  pub first : ℕ
  pub others : List ℕ
  pub is : ts ≡ first ∷ others
  pub after : t < first

more-begin : (plan : Plan) (t s left end : ℕ) → t < s → BeginsAfter t (boundaries_from plan (s + 1) left end) → (b : Bool) → at_quantum plan s ≡ b → BeginsAfter t (boundaries_from plan s (suc left) end)
more-begin plan t s left end later more true e = record {
  first = s;
  others = boundaries_from plan (s + 1) left end;
  is = one-here plan s left end e;
  after = later;
}
more-begin plan t s left end later more false e = subst (BeginsAfter t) (sym (none-here plan s left end e)) more

-- those from later ticks on
pub later-begin : (plan : Plan) (t s left end : ℕ) → t < s → t < end → BeginsAfter t (boundaries_from plan s left end)
later-begin plan t s zero end later past = record { first = end; others = []; is = refl; after = past }
later-begin plan t s (suc left) end later past =
    more-begin plan t s left end later (later-begin plan t (s + 1) left end (omega arith) past) (at_quantum plan s) refl

-- Calls of a tick stand before boundaries of later ones.
pub calls-before : (t : ℕ) (ts : List ℕ) (cs ds : List Call) → BeginsAfter t ts → Each (λ c. tick_of c ≡ t) cs → merged ts (cs ++ ds) ≡ map Called cs ++ merged ts ds
calls-before t ts cs ds begins at =
    subst (λ us. merged us (cs ++ ds) ≡ map Called cs ++ merged us ds) (sym begins.is)
    (calls-first begins.first begins.others cs ds (each-weaker (λ c. tick_of c ≡ t) (λ c. tick_of c < begins.first) earlier cs at))
  where
    earlier : (c : Call) → tick_of c ≡ t → tick_of c < begins.first
    earlier c e = (let later = begins.after in omega arith)
