-- Bytes that are padded, and bytes that say which lanes are enabled.
use Rattle.std.proofs.Common.{◌≡◌, ℕ, zero, suc, ◌+◌, ◌-◌, ◌*◌, ◌/◌, ◌%◌, ◌^◌, ◌<◌, ◌≤◌, Bool, not, nat_eq, List, [], ◌∷◌, ◌++◌, length, take, drop, map, set, get_or, replicate, refl, sym, ap, ◌∙◌, subst, arith, append_assoc, add-one}
use Rattle.std.proofs.lemmas.List.{take_more_set, drop-replicate, take-replicate, length-set, append-nil, length-append, get_or_at, length-take-le, length-replicate}
use Rattle.std.proofs.Math.Seq.{take-append-add}
use Rattle.std.proofs.Math.Nat.{mod-eq_of_lt}
use Rattle.cosim_model.specs.Values.{bits_of, padded, no_bytes}
use Rattle.cosim_model.specs.Packets.{is_enabled, count_from}
use Rattle.cos_api.specs.Enables.{enabled_by}
use Rattle.cos_api.specs.Lanes.{bit_bytes}

-- so many bytes at the front of as many zeros
filled : (bs : List ℕ) (n m : ℕ) → length bs ≡ n → n ≤ m → bs ++ drop n (replicate m 0) ≡ take m (bs ++ replicate m 0)
filled bs n m e few = ap (λ xs. bs ++ xs) (drop-replicate n m 0) ∙ sym (subst (λ k. take k (bs ++ replicate m 0) ≡ bs ++ replicate (m - n) 0) same back)
  where
    same : length bs + (m - n) ≡ m
    same = omega arith

    back : take (length bs + (m - n)) (bs ++ replicate m 0) ≡ bs ++ replicate (m - n) 0
    back = take-append-add bs (replicate m 0) (m - n) ∙ ap (λ xs. bs ++ xs) (take-replicate (m - n) m 0 (omega arith))

pub filled-padded : (bs zs : List ℕ) (n : ℕ) → zs ≡ no_bytes → length bs ≡ n → n ≤ 64 → bs ++ drop n zs ≡ padded bs
filled-padded bs zs n z e few = ap (λ xs. bs ++ drop n xs) z ∙ filled bs n 64 e few

-- The bytes of a mask are put one by one.

pub bits-start : (mask : ℕ) (out : List ℕ) → take 0 out ++ bit_bytes mask (length out - 0) ≡ bit_bytes mask (length out)
bits-start mask out = ap (bit_bytes mask) (omega arith)

pub bits-more : (whole out : List ℕ) (left at y : ℕ) → at < length out → y ≡ left % 2 → take at out ++ bit_bytes left (length out - at) ≡ whole → take (at + 1) (set out at y) ++ bit_bytes (left / 2) (length (set out at y) - (at + 1)) ≡ whole
bits-more whole out left at y within is e =
    ap (λ xs. xs ++ bit_bytes (left / 2) (length (set out at y) - (at + 1))) (take_more_set out at y within)
    ∙ ap (λ n. (take at out ++ y ∷ []) ++ bit_bytes (left / 2) (n - (at + 1))) (length-set out at y)
    ∙ append_assoc (take at out) (y ∷ []) (bit_bytes (left / 2) (length out - (at + 1)))
    ∙ ap (λ b. take at out ++ b ∷ bit_bytes (left / 2) (length out - (at + 1))) is
    ∙ ap (λ n. take at out ++ bit_bytes left n) one
    ∙ e
  where
    one : suc (length out - (at + 1)) ≡ length out - at
    one = omega arith

pub bits-all : (whole out : List ℕ) (left n : ℕ) → length out ≤ n → take n out ++ bit_bytes left (length out - n) ≡ whole → length out ≡ n → out ≡ whole
bits-all whole out left n all e same = sym (append-nil out) ∙ ap (λ xs. xs ++ []) (sym (take-whole out n all)) ∙ ap (λ m. take n out ++ bit_bytes left m) (sym none) ∙ e
  where
    none : length out - n ≡ 0
    none = omega arith

    take-whole : (xs : List ℕ) (k : ℕ) → length xs ≤ k → take k xs ≡ xs
    take-whole [] zero h = refl
    take-whole [] (suc k) h = refl
    take-whole (x ∷ xs) zero h = absurd (omega arith)
    take-whole (x ∷ xs) (suc k) h = ap (λ ys. x ∷ ys) (take-whole xs k (omega arith))

pub length-bit_bytes : (mask n : ℕ) → length (bit_bytes mask n) ≡ n
length-bit_bytes mask zero = refl
length-bit_bytes mask (suc n) = ap suc (length-bit_bytes (mask / 2) n)

-- A byte for each bit enables what the bits enable.

bit_test : (mask : ℕ) → not (nat_eq (mask % 2) 0) ≡ nat_eq (mask % 2) 1
bit_test mask = by (mask % 2) (omega arith)
  where
    by : (b : ℕ) → b < 2 → not (nat_eq b 0) ≡ nat_eq b 1
    by zero h = refl
    by (suc zero) h = refl
    by (suc (suc b)) h = absurd (omega arith)

-- data byte i has enable byte i, where there are as many
abbrev at_place : List ℕ → ℕ → Bool
at_place es i = not (nat_eq (get_or es i 0) 0)

places : (front : List ℕ) (mask n k : ℕ) → length front ≡ k → map (at_place (front ++ bit_bytes mask n)) (count_from k n) ≡ bits_of mask n
places front mask zero k e = refl
places front mask (suc n) k e = ap (λ b. not (nat_eq b 0) ∷ map (at_place (front ++ bit_bytes mask (suc n))) (count_from (suc k) n)) (get_or_at front (mask % 2) (bit_bytes (mask / 2) n) 0 k e)
    ∙ ap (λ b. b ∷ map (at_place (front ++ bit_bytes mask (suc n))) (count_from (suc k) n)) (bit_test mask)
    ∙ ap (λ xs. nat_eq (mask % 2) 1 ∷ map (at_place xs) (count_from (suc k) n)) (sym (append_assoc front (mask % 2 ∷ []) (bit_bytes (mask / 2) n)))
    ∙ ap (λ bs. nat_eq (mask % 2) 1 ∷ bs) (places (front ++ mask % 2 ∷ []) (mask / 2) n (suc k) (length-append front (mask % 2 ∷ []) ∙ ap (λ m. m + 1) e ∙ add-one k))

map-count : (f g : ℕ → Bool) (k n m : ℕ) → k + n ≡ m → ((i : ℕ) → i < m → f i ≡ g i) → map f (count_from k n) ≡ map g (count_from k n)
map-count f g k zero m e same = refl
map-count f g k (suc n) m e same = ap (λ b. b ∷ map f (count_from (suc k) n)) (same k (omega arith)) ∙ ap (λ bs. g k ∷ bs) (map-count f g (suc k) n m (omega arith) same)

pub enabled-bits : (mask n : ℕ) → enabled_by (bit_bytes mask n) n ≡ bits_of mask n
enabled-bits mask zero = refl
enabled-bits mask (suc n) = map-count (is_enabled (bit_bytes mask (suc n))) (at_place (bit_bytes mask (suc n))) 0 (suc n) (suc n) (omega arith) same ∙ places [] mask (suc n) 0 refl
  where
    same : (i : ℕ) → i < suc n → is_enabled (bit_bytes mask (suc n)) i ≡ at_place (bit_bytes mask (suc n)) i
    same i h = ap (λ j. not (nat_eq (get_or (bit_bytes mask (suc n)) j 0) 0)) (ap (λ m. i % m) (length-bit_bytes mask (suc n)) ∙ mod-eq_of_lt h)

-- the enables of a store
pub enabled-mask : (es front : List ℕ) (mask n : ℕ) → es ≡ bit_bytes mask (length (take n front)) → front ≡ no_bytes → n ≤ 64 → enabled_by es n ≡ bits_of mask n
enabled-mask es front mask n e z few = ap (λ xs. enabled_by xs n) (e ∙ ap (bit_bytes mask) (length-take-le n front long)) ∙ enabled-bits mask n
  where
    long : n ≤ length front
    long = (let a : length front ≡ 64 = ap length z ∙ length-replicate {A = ℕ} 64 0 in omega arith)

-- what was read is as long as its place
pub read-long : (front : List ℕ) (n m : ℕ) → front ≡ no_bytes → n ≡ m → m ≤ 64 → length (take n front) ≡ m
read-long front n m z e few = length-take-le n front (let a : length front ≡ 64 = ap length z ∙ length-replicate {A = ℕ} 64 0 in omega arith) ∙ e

-- the bytes of a fetch
pub fetched : (read : ℕ → ℕ × List ℕ) (front bs : List ℕ) (code n m : ℕ) → ((k : ℕ) → length (read k).1 ≡ k) → front ≡ no_bytes → n ≡ m → m ≤ 64 → read (length (take n front)) ≡ (code, bs) → bs ++ drop n front ≡ padded (read m).1
fetched read front bs code n m long z e few is = filled-padded bs front n z (ap length same ∙ long m ∙ sym e) (omega arith) ∙ ap padded same
  where
    same : bs ≡ (read m).1
    same = ap (λ p. p.1) (sym is) ∙ ap (λ k. (read k).1) (read-long front n m z e few)
