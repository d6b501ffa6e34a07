-- Bytes and then zeros, 64 in all; and zeros that a refused read is answered with.
use Rattle.std.proofs.Common.{◌≡◌, inl, inr, ℕ, ◌-◌, ◌≤◌, Bool, true, false, if◌then◌else◌, List, [], ◌++◌, length}
use Rattle.std.proofs.Common.{take, refl, sym, ap, ◌∙◌, arith}
use Rattle.std.specs.Prelude.{min, nat_le, replicate}
use Rattle.std.proofs.lemmas.Bool.Decides.{nat_tests, leb_tells}
use Rattle.std.proofs.lemmas.List.{append-nil, length-replicate, length-take, take_all, take-append-le}
use Rattle.cosim_model.specs.Packets.{BusFields}
use Rattle.cosim_model.specs.Packets.Body.{Read}
use Rattle.cosim_model.specs.Values.{padded}
use Rattle.dev_line.specs.Chunks.{padded-is}
use Rattle.ends_model.specs.DeviceTurn.{answer_fields, refused_read}

filled : (xs : List ℕ) (n : ℕ) → length xs ≡ n → n ≤ 64 → xs ++ replicate (64 - length xs) 0 ≡ padded xs
filled xs n long few = sym (padded-is xs (omega arith))

pub front-padded : (xs : List ℕ) → take 64 xs ++ replicate (64 - length (take 64 xs)) 0 ≡ padded xs
front-padded xs =
    elim (leb_tells (length xs) 64) as (λ _. take 64 xs ++ replicate (64 - length (take 64 xs)) 0 ≡ padded xs) [
      | inl few ↦ ap (λ (ys : List ℕ). ys ++ replicate (64 - length ys) 0) (take_all 64 xs few.1)
          ∙ sym (padded-is xs few.1)
      | inr many ↦
          let long : length (take 64 xs) ≡ 64 = omega (arith, length-take 64 xs, many.1) in
          ap (λ (n : ℕ). take 64 xs ++ replicate (64 - n) 0) long ∙ append-nil (take 64 xs)
          ∙ sym (take-append-le 64 xs (replicate 64 0) (omega (arith, many.1)))
    ]

pub take-min : (xs : List ℕ) → take (min (length xs) 64) xs ≡ take 64 xs
take-min xs =
    elim (leb_tells (length xs) 64) as (λ _. take (min (length xs) 64) xs ≡ take 64 xs) [
      | inl few ↦
          let least : min (length xs) 64 ≡ length xs = omega (arith, few.1) in
          ap (λ n. take n xs) least ∙ take_all (length xs) xs (omega arith) ∙ sym (take_all 64 xs few.1)
      | inr many ↦
          let least : min (length xs) 64 ≡ 64 = omega (arith, many.1) in
          ap (λ n. take n xs) least
    ]

-- zeros that are sent
pub zeros-sent : (f : BusFields) (bytes : List ℕ) → bytes ≡ replicate f.len 0
    → Read (answer_fields f 1 (length bytes) bytes) ≡ Read (answer_fields f 1 f.len (replicate f.len 0))
zeros-sent f bytes is =
    ap (λ (bs : List ℕ). Read (answer_fields f 1 (length bs) bs)) is
    ∙ ap (λ n. Read (answer_fields f 1 n (replicate f.len 0))) (length-replicate f.len 0)

refused-at : (t : Bool) (f : BusFields) → t ≡ true → Read (answer_fields f 1 f.len (replicate f.len 0))
    ≡ (if t then Read (answer_fields f 1 f.len (replicate f.len 0)) else Read (answer_fields f 1 0 []))
refused-at true f is = refl
refused-at false f is = absurd (cc (is))

pub refused-zeros : (f : BusFields) → f.len ≤ 4096
    → Read (answer_fields f 1 f.len (replicate f.len 0)) ≡ refused_read f
refused-zeros f few = refused-at (nat_le f.len 4096) f (grind (arith, nat_tests))
