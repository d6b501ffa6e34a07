-- What a word decodes to is the function's value.
use Rattle.std.proofs.Common.{◌≡◌, ℕ, ◌<◌, suc, zero, true, false, List, [], ◌∷◌, length, Option, Some, None, bit_and, nat_eq, refl, ◌∙◌, sym, ap, arith}
use Rattle.rv_table.specs.declared.instr.Instr.{Instr}
use Rattle.rv_table.specs.declared.row.Row.{Row}
use Rattle.rv_table.specs.declared.table.TheConstants.{TABLE}
use Rattle.rv_table.specs.Rows.{Matches, NoneIn, row_in, all_apart}
use Rattle.rv_table.specs.Coding.{number_of, Decodes}
use Rattle.rv_table.specs.Decoded.{makers, maker, first_made, decoded}
use Rattle.rv_table.proofs.Apart.{at_most_one, table_apart, same_is_true, both_true}
use Rattle.rv_table.proofs.Back.{number_below, made_back}

not_same : (a b : ℕ) → (a ≡ b → ⊥) → nat_eq a b ≡ false
not_same a b h = grind arith

-- a word that no row matches gives nothing
first_none : (rows : List Row) (ms : List (ℕ → Instr)) (w : ℕ) → NoneIn rows w → first_made rows ms w ≡ None
first_none [] ms w h = refl
first_none (r ∷ rest) [] w h = refl
first_none (r ∷ rest) (m ∷ ms) w h =
    let e : nat_eq (bit_and w r.mask) r.matched ≡ false = not_same _ _ h.0 in
    rw e (first_none rest ms w h.1)

-- a word that a row matches gives what the row makes of it
first_at : (rows : List Row) (ms : List (ℕ → Instr)) (w k : ℕ) → all_apart rows ≡ true → k < length rows → k < length ms → Matches (row_in rows k) w → first_made rows ms w ≡ Some (maker ms k w)
first_at [] ms w k apart below has p = absurd (omega arith)
first_at (r ∷ rest) [] w k apart below has p = absurd (omega arith)
first_at (r ∷ rest) (m ∷ ms) w zero apart below has p =
    let e : nat_eq (bit_and w r.mask) r.matched ≡ true = same_is_true _ _ p in rw e
first_at (r ∷ rest) (m ∷ ms) w (suc k) apart below has p =
    let e : nat_eq (bit_and w r.mask) r.matched ≡ false = not_same _ _ (λ (q : Matches r w). at_most_one (r ∷ rest) w zero (suc k) apart (omega arith) below q p) in
    rw e (first_at rest ms w k (both_true _ _ apart).1 (omega arith) (omega arith) p)

pub decoded_is : (w : ℕ) (o : Option Instr) → Decodes w o → o ≡ decoded w
unfolding decoded
decoded_is w None d = sym (first_none TABLE.rows makers w d)
decoded_is w (Some i) d =
    let found : first_made TABLE.rows makers w ≡ Some (maker makers (number_of i) w) = first_at TABLE.rows makers w (number_of i) table_apart (number_below i) (number_below i) d.0 in
    let made : maker makers (number_of i) w ≡ i = ap (λ (n : ℕ). maker makers (number_of i) n) (sym d.2) ∙ made_back i d.1 in
    sym (found ∙ ap (λ (x : Instr). Some x) made)
