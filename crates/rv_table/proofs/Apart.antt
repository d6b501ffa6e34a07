use Rattle.std.proofs.Common.{◌≡◌, ℕ, ◌<◌, suc, zero, Bool, true, false, List, [], ◌∷◌, length, bit_and, cond, nat_eq, refl, sym, ◌∙◌, ap, arith}
use Rattle.std.proofs.lemmas.Nat.{and_comm, and_assoc}
use Rattle.rv_table.specs.declared.row.Row.{Row}
use Rattle.rv_table.specs.declared.table.TheConstants.{TABLE}
use Rattle.rv_table.specs.Rows.{Matches, row_in, apart, apart_from, all_apart}

-- computed: each pair of the table
pub table_apart : all_apart TABLE.rows ≡ true
table_apart = refl

-- a word that matches two rows gives both the same bits under the two masks
pub same_bits : (a b : Row) (w : ℕ) → Matches a w → Matches b w → bit_and a.matched b.mask ≡ bit_and b.matched a.mask
same_bits a b w p q =
    let one : bit_and a.matched b.mask ≡ bit_and (bit_and w a.mask) b.mask = ap (λ n. bit_and n b.mask) (sym p) in
    let two : bit_and (bit_and w a.mask) b.mask ≡ bit_and w (bit_and a.mask b.mask) = and_assoc b.mask w a.mask in
    let swapped : bit_and w (bit_and a.mask b.mask) ≡ bit_and w (bit_and b.mask a.mask) = ap (λ n. bit_and w n) (and_comm a.mask b.mask) in
    let three : bit_and (bit_and w b.mask) a.mask ≡ bit_and w (bit_and b.mask a.mask) = and_assoc a.mask w b.mask in
    let four : bit_and (bit_and w b.mask) a.mask ≡ bit_and b.matched a.mask = ap (λ n. bit_and n a.mask) q in
    one ∙ two ∙ swapped ∙ sym three ∙ four

pub same_is_true : (a b : ℕ) → a ≡ b → nat_eq a b ≡ true
same_is_true a b e = grind arith

not_both : (a b : Row) (w : ℕ) → apart a b ≡ true → Matches a w → Matches b w → ⊥
not_both a b w h p q = let e : nat_eq (bit_and a.matched b.mask) (bit_and b.matched a.mask) ≡ true = same_is_true _ _ (same_bits a b w p q) in let h2 = rw e at h in cc

pub both_true : (a b : Bool) → cond a b false ≡ true → (a ≡ true) × (b ≡ true)
both_true true b h = (refl, h)
both_true false b h = cc

one_of : (a : Row) (rest : List Row) (w j : ℕ) → apart_from a rest ≡ true → j < length rest → Matches a w → Matches (row_in rest j) w → ⊥
one_of a [] w j h within p q = absurd (omega arith)
one_of a (b ∷ rest) w zero h within p q = not_both a b w (both_true _ _ h).0 p q
one_of a (b ∷ rest) w (suc j) h within p q = one_of a rest w j (both_true _ _ h).1 (omega arith) p q

-- the test on the table, as a rule for all words
pub at_most_one : (rows : List Row) (w i j : ℕ) → all_apart rows ≡ true → i < j → j < length rows → Matches (row_in rows i) w → Matches (row_in rows j) w → ⊥
at_most_one [] w i j h order within p q = absurd (omega arith)
at_most_one (a ∷ rest) w i zero h order within p q = absurd (omega arith)
at_most_one (a ∷ rest) w zero (suc j) h order within p q = one_of a rest w j (both_true _ _ h).0 (omega arith) p q
at_most_one (a ∷ rest) w (suc i) (suc j) h order within p q = at_most_one rest w i j (both_true _ _ h).1 (omega arith) (omega arith) p q
