-- Chunks: up to 64 bytes that a want carries, in an array of 64.
use Rattle.std.specs.Prelude.{◌≡◌, ℕ, suc, ◌+◌, ◌-◌, ◌<◌, ◌≤◌, min, List, [], ◌∷◌, ◌++◌, length, take, map, get_or, replicate, All, refl}
use Rattle.std.proofs.Common.{arith, ap, sym, ◌∙◌, append_assoc, length-append, length-take}
use Rattle.std.proofs.lemmas.List.{length-map, length-replicate, replicate-append-replicate, take-replicate, take_all, take-append-le}
use Rattle.std.proofs.lemmas.List.Elements.{All-take, All-append, All-map, All-replicate}
use Rattle.std.proofs.Math.Seq.{take-append-add}
use Rattle.cosim_model.specs.Parts.{IsByte}
use Rattle.cosim_model.specs.Values.{padded}

-- The bytes, then zeros, 64 in all. A law speaks of lists of any numbers too, so each is cut to a byte.
unfoldable pub chunk_of : List ℕ → List ℕ
chunk_of bytes = padded (map (λ b. min b 255) bytes)

map-byte : (bytes : List ℕ) → ((i : ℕ) → get_or bytes i 0 < 256) → map (λ b. min b 255) bytes ≡ bytes
map-byte [] h = refl
map-byte (b ∷ bs) h =
    let small : b < 256 = h 0 in
    let first : min b 255 ≡ b = omega arith in
    ap (λ x. x ∷ map (λ y. min y 255) bs) first ∙ ap (λ xs. b ∷ xs) (map-byte bs (λ i. h (suc i)))

All-map-byte : (bytes : List ℕ) → All IsByte (map (λ b. min b 255) bytes)
All-map-byte bytes = All-map IsByte (λ b. min b 255) bytes (λ k d within. omega arith)

All-zeros : (n : ℕ) → All IsByte (replicate n 0)
All-zeros n = All-replicate IsByte n 0 (omega arith)

take-past : (n : ℕ) (xs ys : List ℕ) → length xs ≤ n → take n (xs ++ ys) ≡ xs ++ take (n - length xs) ys
take-past n xs ys few =
    let long : n ≡ length xs + (n - length xs) = omega arith in
    ap (λ k. take k (xs ++ ys)) long ∙ take-append-add xs ys (n - length xs)

pub padded-is : (xs : List ℕ) → length xs ≤ 64 → padded xs ≡ xs ++ replicate (64 - length xs) 0
padded-is xs few = take-past 64 xs (replicate 64 0) few
    ∙ ap (λ ys. xs ++ ys) (take-replicate (64 - length xs) 64 0 (omega arith))

pub length-padded : (xs : List ℕ) → length (padded xs) ≡ 64
length-padded xs =
    let long = length-append xs (replicate 64 0) in
    let zeros : length (replicate {A = ℕ} 64 0) ≡ 64 = refl in
    length-take 64 (xs ++ replicate 64 0) ∙ (omega arith)

pub padded-take : (xs : List ℕ) (n : ℕ) → length xs ≤ n → n ≤ 64 → padded (take n (padded xs)) ≡ padded xs
padded-take xs n few most =
    let zeros : ℕ → List ℕ = λ k. replicate k 0 in
    let front : take n (padded xs) ≡ xs ++ zeros (n - length xs) =
    (ap (take n) (padded-is xs (omega arith)) ∙ take-past n xs _ few
    ∙ ap (λ ys. xs ++ ys) (take-replicate (n - length xs) (64 - length xs) 0 (omega arith))) in
    let long : length (xs ++ zeros (n - length xs))
    ≡ n =
    (length-append xs (zeros (n - length xs)) ∙ ap (λ k. length xs + k) (length-replicate (n - length xs) 0)
    ∙ (omega arith)) in
    ap padded front
    ∙ padded-is (xs ++ zeros (n - length xs)) (omega arith)
    ∙ ap (λ k. (xs ++ zeros (n - length xs)) ++ zeros (64 - k)) long
    ∙ append_assoc xs (zeros (n - length xs)) (zeros (64 - n))
    ∙ ap (λ ys. xs ++ ys) (replicate-append-replicate (n - length xs) (64 - n) 0 ∙ ap zeros (omega arith))
    ∙ sym (padded-is xs (omega arith))

pub chunk_of-is : (bytes : List ℕ) → length bytes ≤ 64 → ((i : ℕ) → get_or bytes i 0 < 256) → chunk_of bytes ≡ bytes
    ++ replicate (64 - length bytes) 0
unfolding chunk_of
chunk_of-is bytes few all = ap padded (map-byte bytes all) ∙ padded-is bytes few

pub length-chunk_of : (bytes : List ℕ) → length (chunk_of bytes) ≡ 64
unfolding chunk_of
length-chunk_of bytes = length-padded (map (λ b. min b 255) bytes)

pub chunk_of-take : (bytes : List ℕ) (n : ℕ) → length bytes ≤ n → n ≤ 64 → chunk_of bytes
    ≡ padded (take n (chunk_of bytes))
unfolding chunk_of
chunk_of-take bytes n few most =
    let same = length-map bytes (λ b. min b 255) in
    sym (padded-take (map (λ b. min b 255) bytes) n (omega arith) most)

pub All-chunk_of : (bytes : List ℕ) → All IsByte (chunk_of bytes)
unfolding chunk_of
All-chunk_of bytes = All-take IsByte 64 _ (All-append IsByte _ _ (All-map-byte bytes) (All-zeros 64))
