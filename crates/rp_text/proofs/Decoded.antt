-- Bytes and the digits that they are written with.
use Rattle.std.proofs.Common.{◌≡◌, ℕ, zero, suc, ◌*◌, ◌/◌, ◌%◌, ◌<◌, true, List, [], ◌∷◌, ◌++◌, length, take, drop, refl, sym, ap, ◌∙◌, subst, arith, Ok, append_assoc}
use Rattle.std.specs.Prelude.{min, slice_index}
use Rattle.std.proofs.Math.Seq.{take-append_seam, drop-append_seam}
use Rattle.std.proofs.lemmas.List.{append-nil, take-append-drop, length-take}
use Rattle.hex.specs.Hex.{encode_with, encode_lower, lower_digits, decode_pairs, decode_sized, hex_digit_value}
use Rattle.hex.proofs.HexLemmas.{length-encode_with, decode_pairs-encode_with, IsDigits-lower_digits}
use Rattle.hex.proofs.Pairs.{decode_sized-pairs}
use Rattle.rp_header.specs.Numbers.{AreBytes}
use Rattle.rp_text.specs.Texts.{bytes_text}
use Rattle.rp_text.specs.Words.{no_blank}
use Rattle.rp_text.proofs.Digits.{no_blank-cons}
use Rattle.cos_text.proofs.Puts.{encode-append}

length-digits : (bs : List ℕ) → length (encode_lower bs) ≡ 2 * length bs
length-digits bs = length-encode_with lower_digits bs

-- the text of bytes is decoded into them
pub decoded : (digits bs : List ℕ) (n : ℕ) → AreBytes bs → digits ≡ encode_lower bs → n ≡ length digits / 2 → decode_sized digits n ≡ Ok bs
decoded digits bs n bytes is half =
    let len : length digits ≡ 2 * length bs = ap length is ∙ length-digits bs in
    decode_sized-pairs digits n (omega arith) (omega arith) ∙ ap (decode_pairs 0) is ∙ decode_pairs-encode_with lower_digits IsDigits-lower_digits 0 bs bytes.each

-- Digits that are left behind others: where all are the text of some bytes, they are that of the bytes left.
pub record Left (all done rest : List ℕ) : Type 0 where
  pub left : List ℕ
  pub front : all ≡ done ++ left
  pub text : rest ≡ encode_lower left
  pub bytes : AreBytes left

pub all-left : (all digits : List ℕ) → AreBytes all → digits ≡ encode_lower all → Left all [] digits
all-left all digits bytes is = record { left = all; front = refl; text = is; bytes = bytes }

-- the digits of the next bytes
pub chunk-left : (left rest : List ℕ) (m : ℕ) → rest ≡ encode_lower left → m ≡ min (length rest) 128 → (take m rest ≡ encode_lower (take 64 left)) × (drop m rest ≡ encode_lower (drop 64 left))
chunk-left left rest m is size =
    let front : List ℕ = encode_lower (take 64 left) in
    let back : List ℕ = encode_lower (drop 64 left) in
    let parts : rest ≡ front ++ back = is ∙ ap encode_lower (sym (take-append-drop 64 left)) ∙ encode-append (take 64 left) (drop 64 left) in
    let all_size : length rest ≡ 2 * length left = ap length is ∙ length-digits left in
    let front_size : length front ≡ 2 * min 64 (length left) = length-digits (take 64 left) ∙ ap (λ (n : ℕ). 2 * n) (length-take 64 left) in
    let same : m ≡ length front = omega arith in (
      ap (λ (n : ℕ). take n rest) same ∙ ap (take (length front)) parts ∙ take-append_seam front back,
      ap (λ (n : ℕ). drop n rest) same ∙ ap (drop (length front)) parts ∙ drop-append_seam front back,
    )

bytes-nil : AreBytes []
bytes-nil = record { each = λ i. omega arith }

bytes-cons : (b : ℕ) (bs : List ℕ) → b < 256 → AreBytes bs → AreBytes (b ∷ bs)
bytes-cons b bs small rest = record { each = each-cons b bs small rest.each }
  where
    each-cons : (b : ℕ) (bs : List ℕ) → b < 256 → ((i : ℕ) → slice_index bs i < 256) → (i : ℕ) → slice_index (b ∷ bs) i < 256
    each-cons b bs small rest zero = small
    each-cons b bs small rest (suc i) = rest i

bytes-tail : (b : ℕ) (bs : List ℕ) → AreBytes (b ∷ bs) → AreBytes bs
bytes-tail b bs bytes = record { each = λ i. bytes.each (suc i) }

pub bytes-take : (n : ℕ) (bs : List ℕ) → AreBytes bs → AreBytes (take n bs)
bytes-take zero bs bytes = bytes-nil
bytes-take (suc n) [] bytes = bytes-nil
bytes-take (suc n) (b ∷ bs) bytes = bytes-cons b (take n bs) (bytes.each 0) (bytes-take n bs (bytes-tail b bs bytes))

pub bytes-drop : (n : ℕ) (bs : List ℕ) → AreBytes bs → AreBytes (drop n bs)
bytes-drop zero bs bytes = bytes
bytes-drop (suc n) [] bytes = bytes-nil
bytes-drop (suc n) (b ∷ bs) bytes = bytes-drop n bs (bytes-tail b bs bytes)

pub bytes-append : (xs ys : List ℕ) → AreBytes xs → AreBytes ys → AreBytes (xs ++ ys)
bytes-append [] ys left right = right
bytes-append (x ∷ xs) ys left right = bytes-cons x (xs ++ ys) (left.each 0) (bytes-append xs ys (bytes-tail x xs left) right)

-- the loop's steps
pub read-first : (out digits : List ℕ) → out ≡ [] → encode_lower out ++ digits ≡ digits
unfolding encode_with
read-first out digits none = ap (λ (x : List ℕ). encode_lower x ++ digits) none

pub read-more : (out bytes next chunk more rest digits : List ℕ) → next ≡ out ++ bytes → chunk ≡ encode_lower bytes → chunk ++ more ≡ rest → encode_lower out ++ rest ≡ digits → encode_lower next ++ more ≡ digits
read-more out bytes next chunk more rest digits next_is chunk_is whole read =
    ap (λ (x : List ℕ). encode_lower x ++ more) next_is ∙ ap (λ (x : List ℕ). x ++ more) (encode-append out bytes)
    ∙ append_assoc (encode_lower out) (encode_lower bytes) more
    ∙ ap (λ (x : List ℕ). encode_lower out ++ (x ++ more)) (sym chunk_is)
    ∙ ap (λ (x : List ℕ). encode_lower out ++ x) whole ∙ read

pub left-first : (all out digits : List ℕ) → out ≡ [] → AreBytes all → digits ≡ encode_lower all → Left all out digits
left-first all out digits none bytes is = subst (λ (x : List ℕ). Left all x digits) (sym none) (all-left all digits bytes is)

pub left-chunk : (all out rest chunk : List ℕ) (m : ℕ) → Left all out rest → m ≡ min (length rest) 128 → chunk ≡ take m rest → (bs : List ℕ) × AreBytes bs × (chunk ≡ encode_lower bs)
left-chunk all out rest chunk m left size chunk_is =
    (take 64 left.left, bytes-take 64 left.left left.bytes, chunk_is ∙ (chunk-left left.left rest m left.text size).0)

pub left-more : (all out rest chunk more bytes next : List ℕ) (m : ℕ) → Left all out rest → m ≡ min (length rest) 128 → chunk ≡ take m rest → more ≡ drop m rest → ((bs : List ℕ) → AreBytes bs → chunk ≡ encode_lower bs → bytes ≡ bs) → next ≡ out ++ bytes → Left all next more
left-more all out rest chunk more bytes next m left size chunk_is more_is only next_is =
    let parts = chunk-left left.left rest m left.text size in
    let same : bytes ≡ take 64 left.left = only (take 64 left.left) (bytes-take 64 left.left left.bytes) (chunk_is ∙ parts.0) in
    record {
      left = drop 64 left.left;
      front = left.front ∙ ap (λ (x : List ℕ). out ++ x) (sym (take-append-drop 64 left.left)) ∙ sym (append_assoc out (take 64 left.left) (drop 64 left.left))
          ∙ ap (λ (x : List ℕ). (out ++ x) ++ drop 64 left.left) (sym same) ∙ ap (λ (x : List ℕ). x ++ drop 64 left.left) (sym next_is);
      text = more_is ∙ parts.1;
      bytes = bytes-drop 64 left.left left.bytes;
    }

empty-of : (xs : List ℕ) → length xs ≡ 0 → xs ≡ []
empty-of [] none = refl
empty-of (x ∷ xs) none = absurd (omega (arith, none))

pub read-all : (out rest digits : List ℕ) → length rest ≡ 0 → encode_lower out ++ rest ≡ digits → digits ≡ encode_lower out
read-all out rest digits none read = sym (sym (append-nil (encode_lower out)) ∙ ap (λ (x : List ℕ). encode_lower out ++ x) (sym (empty-of rest none)) ∙ read)

pub left-all : (all out rest : List ℕ) → length rest ≡ 0 → Left all out rest → out ≡ all
left-all all out rest none left =
    let size : 2 * length left.left ≡ 0 = sym (length-digits left.left) ∙ ap length (sym left.text) ∙ none in
    sym (left.front ∙ ap (λ (x : List ℕ). out ++ x) (empty-of left.left (omega arith)) ∙ append-nil out)

-- bytes and their words
pub bytes-of-digits : (word bs : List ℕ) → word ≡ encode_lower bs → 0 < length word → word ≡ bytes_text bs
unfolding encode_with
bytes-of-digits word [] is some = absurd (let none = ap length is in omega (arith, none))
bytes-of-digits word (b ∷ bs) is some = is

pub digits-of-bytes : (word bs : List ℕ) → word ≡ bytes_text bs → (word ≡ 45 ∷ [] → ⊥) → word ≡ encode_lower bs
digits-of-bytes word [] is other = absurd (other is)
digits-of-bytes word (b ∷ bs) is other = is

pub no-bytes : (word bs : List ℕ) → word ≡ bytes_text bs → word ≡ 45 ∷ [] → bs ≡ []
unfolding encode_with
no-bytes word [] is minus = refl
no-bytes word (b ∷ bs) is minus =
    let size : length (encode_lower (b ∷ bs)) ≡ 1 = ap length (sym is ∙ minus) in absurd (omega (arith, size, length-digits (b ∷ bs)))

pub some-digits : (word bs : List ℕ) → word ≡ bytes_text bs → length word ≡ 0 → ⊥
some-digits word [] is none = let size = ap length is in omega (arith, size)
some-digits word (b ∷ bs) is none = let size = ap length is in omega (arith, size, length-digits (b ∷ bs))

pub bytes-first : (out : List ℕ) → out ≡ [] → AreBytes out
bytes-first out none = subst (λ (x : List ℕ). AreBytes x) (sym none) bytes-nil

pub bytes-more : (out bytes next : List ℕ) → next ≡ out ++ bytes → AreBytes out → AreBytes bytes → AreBytes next
bytes-more out bytes next is left right = subst (λ (x : List ℕ). AreBytes x) (sym is) (bytes-append out bytes left right)

pub joined-again : (chunk more rest : List ℕ) (m : ℕ) → chunk ≡ take m rest → more ≡ drop m rest → chunk ++ more ≡ rest
joined-again chunk more rest m front back =
    ap (λ (x : List ℕ). x ++ more) front ∙ ap (λ (x : List ℕ). take m rest ++ x) back ∙ take-append-drop m rest

-- no digit is a blank
digit-no-blank : (d : ℕ) → d < 16 → slice_index lower_digits d ≡ 32 → ⊥
digit-no-blank d small is = cc (sym (ap hex_digit_value is) ∙ IsDigits-lower_digits d small)

no_blank-encoded : (bs : List ℕ) → AreBytes bs → no_blank (encode_lower bs) ≡ true
unfolding encode_with
no_blank-encoded [] bytes = refl
no_blank-encoded (b ∷ bs) bytes =
    let small = bytes.each 0 in
    no_blank-cons (slice_index lower_digits (b / 16)) (slice_index lower_digits (b % 16) ∷ encode_lower bs) (digit-no-blank (b / 16) (omega arith))
    (no_blank-cons (slice_index lower_digits (b % 16)) (encode_lower bs) (digit-no-blank (b % 16) (omega arith)) (no_blank-encoded bs (bytes-tail b bs bytes)))

pub no_blank-bytes : (bs : List ℕ) → AreBytes bs → no_blank (bytes_text bs) ≡ true
no_blank-bytes [] bytes = refl
no_blank-bytes (b ∷ bs) bytes = no_blank-encoded (b ∷ bs) bytes
