-- What may stand behind the configuration of a local run, read from the front.
use Rattle.std.proofs.Common.{ℕ, ◌≡◌, List, [], ◌∷◌, codes, refl, sym, subst, inl, inr}
use Rattle.cosim_words.specs.Forms.{Word, Exact, Any, Number, BeginsSome, FaultyIn, orders}
use Rattle.cosim_words.proofs.Reading.{faulty-more}

-- where something stands there
abbrev pub order-forms : List (List Word)
order-forms = (Exact (codes "schedule") ∷ Number 4294967295 ∷ []) ∷ (Exact (codes "steps") ∷ Any ∷ []) ∷ []

pub begins-order : BeginsSome order-forms []
begins-order = (codes "steps" ∷ [] ∷ [], inr (inl (refl, (tt, tt))))

pub faulty-order : (w : List ℕ) (ws rest : List (List ℕ)) (i : ℕ) → ws ≡ w ∷ rest → FaultyIn order-forms ws i
    → FaultyIn orders ws i
faulty-order w ws rest i is faulty =
    subst (λ x. FaultyIn orders x i) (sym is)
    (faulty-more order-forms w rest i (subst (λ x. FaultyIn order-forms x i) is faulty))
