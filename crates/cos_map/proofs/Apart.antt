-- Where no overlap is found no address is in two parts.
use Rattle.std.proofs.Common.{◌≡◌, ℕ, zero, suc, ◌+◌, ◌<◌, Bool, true, false, ◌&&◌, if◌then◌else◌, List, [], ◌∷◌, length, refl, ◌∙◌, ap, arith}
use Rattle.std.specs.declared.option.Option.{Option}
use Rattle.std.specs.declared.option.Option.TheVariants.{Some, None}
use Rattle.std.proofs.lemmas.Bool.{lt-ltb}
use Rattle.cos_map.specs.declared.parts.Part.{Part}
use Rattle.cos_map.specs.Parts.{or_else, passes_end, share_an_address, shared_found, overlap_found, part_at, IsIn, AreApart}

none-else : (x y : Option (ℕ × ℕ)) → or_else x y ≡ None → (x ≡ None) × (y ≡ None)
none-else None y e = (refl, e)
none-else (Some found) y e = absurd (cc)

both-hold : (a b : Bool) → a ≡ true → b ≡ true → (a && b) ≡ true
both-hold a b e f = ap (λ x. x && b) e ∙ f

shared-address : (x y : Part) (addr : ℕ) → IsIn x addr → IsIn y addr → share_an_address x y ≡ true
shared-address x y addr one other =
    both-hold _ _ (lt-ltb x.base (y.base + y.size) (let a = one.0 in let b = other.1 in omega arith)) (lt-ltb y.base (x.base + x.size) (let a = other.0 in let b = one.1 in omega arith))

not-found : (b : Bool) (found : ℕ × ℕ) (later : Option (ℕ × ℕ)) → (if b then Some found else later) ≡ None → (b ≡ false) × (later ≡ None)
not-found true found later e = absurd (cc)
not-found false found later e = (refl, e)

none-shares : (a : ℕ) (x : Part) (b : ℕ) (ys : List Part) → shared_found a x b ys ≡ None → (j : ℕ) → j < length ys → share_an_address x (part_at ys j) ≡ false
none-shares a x b [] e j less = absurd (omega (arith, less))
none-shares a x b (y ∷ ys) e zero less = (not-found (share_an_address x y) (a, b) (shared_found a x (b + 1) ys) e).0
none-shares a x b (y ∷ ys) e (suc j) less = none-shares a x (b + 1) ys (not-found (share_an_address x y) (a, b) (shared_found a x (b + 1) ys) e).1 j (omega (arith, less))

true-false : (b : Bool) → b ≡ true → b ≡ false → ⊥
true-false true e f = absurd (cc)
true-false false e f = absurd (cc)

pub parts-apart : (a : ℕ) (ps : List Part) → overlap_found a ps ≡ None → AreApart ps
parts-apart a [] e i j before less addr one other = absurd (omega (arith, less))
parts-apart a (x ∷ xs) e i zero before less addr one other = absurd (omega (arith, before))
parts-apart a (x ∷ xs) e zero (suc j) before less addr one other =
    let rest = (none-else (if passes_end x then Some (a, a) else None) (or_else (shared_found a x (a + 1) xs) (overlap_found (a + 1) xs)) e).1 in
    let none = (none-else (shared_found a x (a + 1) xs) (overlap_found (a + 1) xs) rest).0 in
    true-false (share_an_address x (part_at xs j)) (shared-address x (part_at xs j) addr one other) (none-shares a x (a + 1) xs none j (omega (arith, less)))
parts-apart a (x ∷ xs) e (suc i) (suc j) before less addr one other =
    let rest = (none-else (if passes_end x then Some (a, a) else None) (or_else (shared_found a x (a + 1) xs) (overlap_found (a + 1) xs)) e).1 in
    let later = (none-else (shared_found a x (a + 1) xs) (overlap_found (a + 1) xs) rest).1 in
    parts-apart (a + 1) xs later i j (omega (arith, before)) (omega (arith, less)) addr one other
