-- Numbers as bytes and bits, and bytes behind enables.
use Rattle.std.proofs.Common.{◌≡◌, ℕ, zero, suc, ◌+◌, ◌*◌, ◌/◌, ◌%◌, ◌^◌, ◌<◌, ◌≤◌, ◌⊎◌, inl, inr, Bool, true, false, not, ◌&&◌, List, [], ◌∷◌, ◌++◌, length, take, map, replicate, get_or, refl, sym, ap, ap₂, ◌∙◌, subst, arith}
use Rattle.std.specs.Prelude.{nat_eq, if◌then◌else◌, All}
use Rattle.std.proofs.Math.Nat.{mod-eq_of_lt, pow-suc}
use Rattle.std.proofs.lemmas.List.{append_assoc, length-append}
use Rattle.cosim_model.specs.declared.values.Caps.{Caps}
use Rattle.cosim_model.specs.Values.{bytes_of, le, bits_of, from_bits, all_on, masked, padded, no_bytes}
use Rattle.cosim_model.specs.Packets.{is_enabled, count_from, enables_of, enable_byte, enables_if}
use Rattle.every_schedule.proofs.Lists.{Each}

true_false : true ≡ false → ⊥
true_false e = cc

pub le_bytes : (n v : ℕ) → v < 256 ^ n → le (bytes_of v n) ≡ v
le_bytes zero v l = omega arith
le_bytes (suc n) v l = let p : 256 ^ suc n ≡ 256 ^ n * 256 = pow-suc 256 n in let ih = le_bytes n (v / 256) (omega arith) in omega arith

one_bit : (r : ℕ) → r < 2 → ◌≡◌ {A = ℕ} (if nat_eq r 1 then 1 else 0) r
one_bit zero l = refl
one_bit (suc zero) l = refl
one_bit (suc (suc r)) l = absurd (omega arith)

pub bits_flags : (n v : ℕ) → v < 2 ^ n → from_bits (bits_of v n) ≡ v
bits_flags zero v l = omega arith
bits_flags (suc n) v l =
    let p : 2 ^ suc n ≡ 2 ^ n * 2 = pow-suc 2 n in
    let ih = bits_flags n (v / 2) (omega arith) in
    let b = one_bit (v % 2) (omega arith) in
    ap₂ (λ (x y : ℕ). x + 2 * y) b ih ∙ omega arith

pub length_flags : (n v : ℕ) → length (bits_of v n) ≡ n
length_flags zero v = refl
length_flags (suc n) v = ap suc (length_flags n (v / 2))

pub length_bytes : (n v : ℕ) → length (bytes_of v n) ≡ n
length_bytes zero v = refl
length_bytes (suc n) v = ap suc (length_bytes n (v / 256))

pub each_byte : (n v : ℕ) → Each (λ b. b < 256) (bytes_of v n)
each_byte zero v = tt
each_byte (suc n) v = ((omega arith), each_byte n (v / 256))

pub bytes_le : (bs : List ℕ) → Each (λ b. b < 256) bs → bytes_of (le bs) (length bs) ≡ bs
bytes_le [] a = refl
bytes_le (b ∷ bs) a = let l = a.0 in ap₂ ◌∷◌ (omega arith) (ap (λ (v : ℕ). bytes_of v (length bs)) (omega arith) ∙ bytes_le bs a.1)

pub length_kept : (ons : List Bool) (bs : List ℕ) → length ons ≡ length bs → length (masked ons bs) ≡ length bs
length_kept [] [] e = refl
length_kept [] (b ∷ bs) e = absurd (omega arith)
length_kept (o ∷ ons) [] e = absurd (omega arith)
length_kept (o ∷ ons) (b ∷ bs) e = ap suc (length_kept ons bs (omega arith))

pub each_kept : (ons : List Bool) (bs : List ℕ) → Each (λ b. b < 256) bs → Each (λ b. b < 256) (masked ons bs)
each_kept [] bs a = tt
each_kept (o ∷ ons) [] a = tt
each_kept (true ∷ ons) (b ∷ bs) a = (a.0, each_kept ons bs a.1)
each_kept (false ∷ ons) (b ∷ bs) a = ((omega arith), each_kept ons bs a.1)

pub kept_twice : (ons : List Bool) (bs : List ℕ) → masked ons (masked ons bs) ≡ masked ons bs
kept_twice [] bs = refl
kept_twice (o ∷ ons) [] = refl
kept_twice (true ∷ ons) (b ∷ bs) = ap (λ t. b ∷ t) (kept_twice ons bs)
kept_twice (false ∷ ons) (b ∷ bs) = ap (λ t. 0 ∷ t) (kept_twice ons bs)

-- Enables that are written say what is enabled.

is_on : (es : List ℕ) (i : ℕ) → i < length es → is_enabled es i ≡ not (nat_eq (get_or es i 0) 0)
is_on [] i l = absurd (omega arith)
is_on (e ∷ es) i l = ap (λ j. not (nat_eq (get_or (e ∷ es) j 0) 0)) (mod-eq_of_lt l)

on_at : (pre : List Bool) (b : Bool) (rest : List Bool) → not (nat_eq (get_or (map enable_byte (pre ++ b ∷ rest)) (length pre) 0) 0) ≡ b
on_at [] true rest = refl
on_at [] false rest = refl
on_at (p ∷ pre) b rest = on_at pre b rest

len_spelled : (pre : List Bool) (b : Bool) (rest : List Bool) → length pre < length (map enable_byte (pre ++ b ∷ rest))
len_spelled [] b rest = omega arith
len_spelled (p ∷ pre) b rest = let l = len_spelled pre b rest in omega arith

on_all : (pre rest : List Bool) (k : ℕ) → length pre ≡ k → map (is_enabled (map enable_byte (pre ++ rest))) (count_from k (length rest)) ≡ rest
on_all pre [] k e = refl
on_all pre (b ∷ rest) k e = ap₂ ◌∷◌
    (ap (is_enabled (map enable_byte (pre ++ b ∷ rest))) (sym e) ∙ is_on (map enable_byte (pre ++ b ∷ rest)) (length pre) (len_spelled pre b rest) ∙ on_at pre b rest)
    (subst (λ (os : List Bool). map (is_enabled (map enable_byte os)) (count_from (suc k) (length rest)) ≡ rest) (append_assoc pre (b ∷ []) rest) (on_all (pre ++ b ∷ []) rest (suc k) (let l = length-append pre (b ∷ []) in omega arith)))

pub all_true : (ons : List Bool) (k : ℕ) → all_on ons ≡ true → map (is_enabled []) (count_from k (length ons)) ≡ ons
all_true [] k e = refl
all_true (true ∷ ons) k e = ap (λ t. true ∷ t) (all_true ons (suc k) e)
all_true (false ∷ ons) k e = absurd (true_false (sym e))

pub enabled_same : (common : Caps) (ons : List Bool) → ((all_on ons ≡ true) ⊎ (common.base && common.enables ≡ true)) → map (is_enabled (enables_of common ons (all_on ons))) (count_from 0 (length ons)) ≡ ons
enabled_same common ons c = go (all_on ons) refl c
  where
    go : (b : Bool) → all_on ons ≡ b → ((all_on ons ≡ true) ⊎ (common.base && common.enables ≡ true)) → map (is_enabled (enables_of common ons (all_on ons))) (count_from 0 (length ons)) ≡ ons
    go true e c = ap (λ b. map (is_enabled (enables_of common ons b)) (count_from 0 (length ons))) e ∙ all_true ons 0 e
    go false e (inl f) = absurd (true_false (sym f ∙ e))
    go false e (inr f) = ap (λ b. map (is_enabled (enables_of common ons b)) (count_from 0 (length ons))) e ∙ ap (λ b. map (is_enabled (enables_if ons b)) (count_from 0 (length ons))) f ∙ on_all [] ons 0 refl

-- Bytes in front of zeros.

take_front : (bs zs : List ℕ) (n : ℕ) → length bs ≡ n → (k : ℕ) → n ≤ k → take n (take k (bs ++ zs)) ≡ bs
take_front [] zs zero e k l = refl
take_front [] zs (suc n) e k l = absurd (omega arith)
take_front (b ∷ bs) zs zero e k l = absurd (omega arith)
take_front (b ∷ bs) zs (suc n) e zero l = absurd (omega arith)
take_front (b ∷ bs) zs (suc n) e (suc k) l = ap (λ t. b ∷ t) (take_front bs zs n (omega arith) k (omega arith))

pub take_padded : (bs : List ℕ) (n : ℕ) → length bs ≡ n → n ≤ 64 → take n (padded bs) ≡ bs
take_padded bs n e l = take_front bs (replicate 64 0) n e 64 l

pub kept_all : (bs : List ℕ) (k : ℕ) → masked (map (is_enabled []) (count_from k (length bs))) bs ≡ bs
kept_all [] k = refl
kept_all (b ∷ bs) k = ap (λ t. b ∷ t) (kept_all bs (suc k))

pub all_enabled : (n k : ℕ) → all_on (map (is_enabled []) (count_from k n)) ≡ true
all_enabled zero k = refl
all_enabled (suc n) k = all_enabled n (suc k)

take_zeros : (k m : ℕ) → k ≤ m → ◌≡◌ {A = List ℕ} (take k (replicate m 0)) (replicate k 0)
take_zeros zero m l = refl
take_zeros (suc k) zero l = absurd (omega arith)
take_zeros (suc k) (suc m) l = ap (λ t. 0 ∷ t) (take_zeros k m (omega arith))

zeros_more : (n k m : ℕ) → n ≤ k → k ≤ n + m → ◌≡◌ {A = List ℕ} (take k (replicate n 0 ++ replicate m 0)) (replicate k 0)
zeros_more zero k m l l' = take_zeros k m (omega arith)
zeros_more (suc n) zero m l l' = absurd (omega arith)
zeros_more (suc n) (suc k) m l l' = ap (λ t. 0 ∷ t) (zeros_more n k m (omega arith) (omega arith))

zero_list : (bs : List ℕ) → All (λ b. b ≡ 0) bs → bs ≡ replicate (length bs) 0
zero_list [] a = refl
zero_list (b ∷ bs) a = ap₂ ◌∷◌ (a 0 0 (omega arith)) (zero_list bs (λ k d l. a (suc k) d (omega arith)))

pub padded_zeros : (bs : List ℕ) → length bs ≤ 64 → All (λ b. b ≡ 0) bs → padded bs ≡ no_bytes
padded_zeros bs l a = ap (λ (t : List ℕ). take 64 (t ++ replicate 64 0)) (zero_list bs a) ∙ zeros_more (length bs) 64 64 l (omega arith)
