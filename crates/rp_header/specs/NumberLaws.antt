-- The bytes of a number give the number, and bytes give back the number that they spell.
use Rattle.std.proofs.Common.{◌≡◌, ℕ, zero, suc, ◌+◌, ◌*◌, ◌/◌, ◌^◌, ◌<◌, ◌≤◌, List, [], ◌∷◌, ◌++◌, length, take, drop, refl, sym, ap, ◌∙◌, arith, length-take, length-drop, slice_index, add-zero, ◌%◌}
use Rattle.std.proofs.Math.Seq.{take-append_seam, drop-length}
use Rattle.std.proofs.lemmas.Nat.{div-mul-add}
use Rattle.std.proofs.lemmas.List.{get_or-drop, take-append-drop, take-take, drop-take, append_cancel_left, length-append, drop-drop, drop-append-le}
use Rattle.std.specs.Int.{byte_at}
use Rattle.byteorder.specs.Endian.{big_from, big_bytes}
use Rattle.byteorder.specs.Numbers.{big_from-cons, big_from-take, big_from-append, big_from-lt, big_number-reads_back, length-bytes_high_first}
use Rattle.rp_header.specs.Numbers.{be, number, IsNumberAt, AreBytes}

same-rest : (a m n : ℕ) → a + m ≡ a + n → m ≡ n
same-rest a m n e = omega arith

-- Lists of k bytes that spell one number are one list.
same-bytes : (k : ℕ) (a b : List ℕ) → length a ≡ k → length b ≡ k → ((i : ℕ) → slice_index a i < 256) → ((i : ℕ) → slice_index b i < 256) → big_from 0 k a ≡ big_from 0 k b → a ≡ b
same-bytes zero [] [] la lb fa fb e = refl
same-bytes zero [] (y ∷ ys) la lb fa fb e = absurd (omega (arith, lb))
same-bytes zero (x ∷ xs) b la lb fa fb e = absurd (omega (arith, la))
same-bytes (suc k) [] b la lb fa fb e = absurd (omega (arith, la))
same-bytes (suc k) (x ∷ xs) [] la lb fa fb e = absurd (omega (arith, lb))
same-bytes (suc k) (x ∷ xs) (y ∷ ys) la lb fa fb e =
    let low_x = big_from-lt 0 k xs (λ i. fa (suc i)) in
    let low_y = big_from-lt 0 k ys (λ i. fb (suc i)) in
    let joined : x * 256 ^ k + big_from 0 k xs ≡ y * 256 ^ k + big_from 0 k ys =
    ap (λ n. x * 256 ^ k + n) (sym (big_from-cons 0 k x xs)) ∙ e ∙ ap (λ n. y * 256 ^ k + n) (big_from-cons 0 k y ys) in
    let first : x ≡ y = sym (div-mul-add x (256 ^ k) (big_from 0 k xs) low_x) ∙ ap (λ n. n / 256 ^ k) joined ∙ div-mul-add y (256 ^ k) (big_from 0 k ys) low_y in
    let lower = same-rest (y * 256 ^ k) (big_from 0 k xs) (big_from 0 k ys) (ap (λ a. a * 256 ^ k + big_from 0 k xs) (sym first) ∙ joined) in
    let rest = same-bytes k xs ys (omega (arith, la)) (omega (arith, lb)) (λ i. fa (suc i)) (λ i. fb (suc i)) lower in
    ap (λ a. a ∷ xs) first ∙ ap (λ tail. y ∷ tail) rest

byte_at-below : (k n : ℕ) → byte_at k n < 256
byte_at-below zero n = omega arith
byte_at-below (suc k) n = omega arith

byte-below : (k n i : ℕ) → slice_index (big_bytes k n) i < 256
byte-below zero n i = omega arith
byte-below (suc k) n zero = byte_at-below k n
byte-below (suc k) n (suc i) = byte-below k n i

-- There are k bytes.
pub length-be : (n k : ℕ) → length (be n k) ≡ k
unfolding be
length-be n k = length-bytes_high_first k n

pub AreBytes-be : (n k : ℕ) → AreBytes (be n k)
unfolding be
AreBytes-be n k = record { each = byte-below k n }

pub AreBytes-drop : (place : ℕ) (b : List ℕ) → AreBytes b → AreBytes (drop place b)
AreBytes-drop place b bytes = record { each = λ i. let e = get_or-drop place b i 0 in omega (arith, e, bytes.each (place + i)) }

at-take : (n : ℕ) (b : List ℕ) (i : ℕ) → ((j : ℕ) → slice_index b j < 256) → slice_index (take n b) i < 256
at-take zero b i fits = omega arith
at-take (suc n) [] i fits = omega arith
at-take (suc n) (x ∷ xs) zero fits = fits zero
at-take (suc n) (x ∷ xs) (suc i) fits = at-take n xs i (λ j. fits (suc j))

pub AreBytes-take : (n : ℕ) (b : List ℕ) → AreBytes b → AreBytes (take n b)
AreBytes-take n b bytes = record { each = λ i. at-take n b i bytes.each }

-- From the bytes of a number to the number.
pub number-be : (n k : ℕ) (rest : List ℕ) → n < 256 ^ k → number k (be n k ++ rest) ≡ n
unfolding be number
number-be n k rest fits = big_number-reads_back k n rest fits

-- A number reads its own bytes alone.
pub number-take : (k m : ℕ) (b : List ℕ) → k ≤ m → number k (take m b) ≡ number k b
unfolding number
number-take k m b within = big_from-take 0 k m b (omega arith)

pub number-append : (k : ℕ) (b rest : List ℕ) → k ≤ length b → number k (b ++ rest) ≡ number k b
unfolding number
number-append k b rest within = big_from-append k b rest within

pub number-lt : (k : ℕ) (b : List ℕ) → AreBytes b → number k b < 256 ^ k
unfolding number
number-lt k b bytes = big_from-lt 0 k b bytes.each

-- From bytes to their number and back.
pub be-number : (k : ℕ) (b : List ℕ) → AreBytes b → k ≤ length b → be (number k b) k ≡ take k b
unfolding be number
be-number k b bytes within =
    let size : length (take k b) ≡ k = omega (arith, length-take k b) in
    let fits = big_from-lt 0 k b bytes.each in
    let own : big_from 0 k (be (number k b) k) ≡ big_from 0 k b =
    sym (big_from-append k (be (number k b) k) [] (omega (arith, length-be (number k b) k))) ∙ number-be (number k b) k [] fits in
    same-bytes k (be (number k b) k) (take k b) (length-be (number k b) k) size (byte-below k (number k b)) (AreBytes-take k b bytes).each
    (own ∙ sym (big_from-take 0 k k b (omega arith)))

-- What stands at a place is read there.
pub number_at : (place k n : ℕ) (b : List ℕ) → IsNumberAt place k n b → number k (drop place b) ≡ n
number_at place k n b is =
    sym (number-take k k (drop place b) (omega arith)) ∙ ap (number k) is.bytes
    ∙ sym (number-append k (be n k) [] (omega (arith, length-be n k))) ∙ number-be n k [] is.fits

-- Bytes that are there spell their number.
pub IsNumberAt-number : (place k : ℕ) (b : List ℕ) → AreBytes b → place + k ≤ length b → IsNumberAt place k (number k (drop place b)) b
IsNumberAt-number place k b bytes within = record {
  fits = number-lt k (drop place b) (AreBytes-drop place b bytes);
  bytes = sym (be-number k (drop place b) (AreBytes-drop place b bytes) (omega (arith, length-drop place b)));
}

-- The bytes up to the end of a number that stands there.
pub take-number : (place k : ℕ) (b : List ℕ) → AreBytes b → place + k ≤ length b → take (place + k) b ≡ take place b ++ be (number k (drop place b)) k
take-number place k b bytes within =
    sym (take-append-drop place (take (place + k) b))
    ∙ ap (λ front. front ++ drop place (take (place + k) b)) (take-take place (place + k) b (omega arith))
    ∙ ap (λ rest. take place b ++ rest) (drop-take place k b ∙ sym (be-number k (drop place b) (AreBytes-drop place b bytes) (omega (arith, length-drop place b))))

-- Lists that end in lists of one length are equal part by part.
pub parts : (front1 front2 end1 end2 : List ℕ) → length end1 ≡ length end2 → front1 ++ end1 ≡ front2 ++ end2 → (front1 ≡ front2) × (end1 ≡ end2)
parts front1 front2 end1 end2 same e =
    let size : length front1 ≡ length front2 = omega (arith, ap length e, length-append front1 end1, length-append front2 end2) in
    let fronts : front1 ≡ front2 = sym (take-append_seam front1 end1) ∙ ap (take (length front1)) e ∙ ap (λ n. take n (front2 ++ end2)) size ∙ take-append_seam front2 end2 in
    (fronts, append_cancel_left front2 end1 end2 (ap (λ f. f ++ end1) (sym fronts) ∙ e))

-- Equal bytes are those of equal numbers.
pub be-same : (k m n : ℕ) → m < 256 ^ k → n < 256 ^ k → be m k ≡ be n k → m ≡ n
be-same k m n fits_m fits_n e = sym (number-be m k [] fits_m) ∙ ap (λ b. number k (b ++ [])) e ∙ number-be n k [] fits_n

pub parts-be : (front1 front2 : List ℕ) (k m n : ℕ) → m < 256 ^ k → n < 256 ^ k → front1 ++ be m k ≡ front2 ++ be n k → (front1 ≡ front2) × (m ≡ n)
parts-be front1 front2 k m n fits_m fits_n e =
    let both = parts front1 front2 (be m k) (be n k) (length-be m k ∙ sym (length-be n k)) e in
    (both.0, be-same k m n fits_m fits_n both.1)

pub drop-behind : (front : List ℕ) (size place : ℕ) (rest : List ℕ) → length front ≡ size → drop (size + place) (front ++ rest) ≡ drop place rest
drop-behind front size place rest is =
    sym (drop-drop place size (front ++ rest)) ∙ ap (drop place) (ap (λ n. drop n (front ++ rest)) (sym is) ∙ drop-append-le (length front) front rest (omega arith) ∙ ap (λ e. e ++ rest) (drop-length front))

-- A number stands where its bytes were put,
pub IsNumberAt-front : (k n : ℕ) (rest : List ℕ) → n < 256 ^ k → IsNumberAt 0 k n (be n k ++ rest)
IsNumberAt-front k n rest fits = record { fits = fits; bytes = ap (λ size. take size (be n k ++ rest)) (sym (length-be n k)) ∙ take-append_seam (be n k) rest }

-- and stays there behind other bytes.
pub IsNumberAt-behind : (front : List ℕ) (size place k n : ℕ) (rest : List ℕ) → length front ≡ size → IsNumberAt place k n rest → IsNumberAt (size + place) k n (front ++ rest)
IsNumberAt-behind front size place k n rest is at = record {
  fits = at.fits;
  bytes = ap (take k) (drop-behind front size place rest is) ∙ at.bytes;
}

-- A number of one byte is that byte.
pub number_byte : (place : ℕ) (b : List ℕ) → number 1 (drop place b) ≡ slice_index b place
unfolding number
number_byte place b =
    let e : slice_index (drop place b) 0 ≡ slice_index b place = get_or-drop place b 0 0 ∙ ap (λ i. slice_index b i) (add-zero place) in
    omega (arith, e)

pub be-byte : (n : ℕ) → n < 256 → be n 1 ≡ n ∷ []
unfolding be
be-byte n fits = let e : n % 256 ≡ n = omega arith in ap (λ b. b ∷ []) e

-- Parts that follow each other are one part.
pub take-add : (j k : ℕ) (b : List ℕ) → take j b ++ take k (drop j b) ≡ take (j + k) b
take-add j k b =
    ap (λ rest. take j b ++ rest) (sym (drop-take j k b))
    ∙ ap (λ front. front ++ drop j (take (j + k) b)) (sym (take-take j (j + k) b (omega arith)))
    ∙ take-append-drop j (take (j + k) b)
