-- The bits of enabled bytes, and disabled bytes that are cleared one by one.
use Rattle.std.proofs.Common.{◌≡◌, ℕ, suc, ◌+◌, ◌-◌, ◌*◌, ◌^◌, ◌<◌, ◌≤◌, Bool, true, false, if◌then◌else◌, List, [], ◌∷◌, ◌++◌, length, take, drop, set, get_or, map, sym, ap, ◌∙◌, arith, append_assoc, drop-cons, add-one}
use Rattle.std.proofs.lemmas.List.{take_more_set, length-set, drop-set-lt}
use Rattle.std.proofs.Math.Nat.{pow-le-pow_right}
use Rattle.cosim_model.specs.Packets.{is_enabled, count_from}
use Rattle.cosim_model.specs.Values.{masked}
use Rattle.end_packets.proofs.Values.{bits-small}

-- the first of some bytes are cleared
pub record IsCleared (enables : List ℕ) (size : ℕ) (whole : List ℕ) (at : ℕ) (bytes : List ℕ) : Type 0 where
  pub long : length bytes ≡ size
  pub rest : take at bytes ++ masked (map (is_enabled enables) (count_from at (size - at))) (drop at bytes)
      ≡ masked (map (is_enabled enables) (count_from 0 size)) whole

power-most : (n : ℕ) → n ≤ 64 → 2 ^ n ≤ 18446744073709551616
power-most n few = pow-le-pow_right {n = 2} (omega arith) few

pub bits-fit : (n x : ℕ) → 0 < n → n ≤ 64 → x < 2 ^ (n - 1) → 2 * x < 18446744073709551616
bits-fit n x some few less =
    let bound = bits-small n x 0 some (omega arith) less in
    let most = power-most n few in
    omega arith

pub bits-few : (n x b : ℕ) → 0 < n → b ≤ 1 → n ≤ 64 → x < 2 ^ (n - 1) → b + 2 * x < 18446744073709551616
bits-few n x b some low few less =
    let bound = bits-small n x b some low less in
    let most = power-most n few in
    omega arith

pub byte-kept : (on test : Bool) (had byte : ℕ) → test ≡ on → test ≡ true → byte ≡ had → byte ≡ (if on then had else 0)
byte-kept true test had byte e was is = is
byte-kept false test had byte e was is = absurd (cc (e))

pub byte-cleared : (on test : Bool) (had byte : ℕ) → test ≡ on → test ≡ false → byte ≡ 0 → byte ≡ (if on then had else 0)
byte-cleared true test had byte e was is = absurd (cc (e))
byte-cleared false test had byte e was is = is

pub cleared-more : (enables whole bytes : List ℕ) (size at y : ℕ) → at < size
    → y ≡ (if is_enabled enables at then get_or bytes at 0 else 0) → IsCleared enables size whole at bytes
    → IsCleared enables size whole (at + 1) (set bytes at y)
cleared-more enables whole bytes size at y within is inv =
    let long = inv.long in
    let here : at < length bytes = omega arith in
    let en = is_enabled enables in
    let left = size - (at + 1) in
    let one : suc left ≡ size - at = omega arith in
    record {
      long = length-set bytes at y ∙ long;
      rest = ap (λ xs. xs ++ masked (map en (count_from (at + 1) left)) (drop (at + 1) (set bytes at y))) (take_more_set bytes at y here)
          ∙ ap (λ ds. (take at bytes ++ y ∷ []) ++ masked (map en (count_from (at + 1) left)) ds) (drop-set-lt (at + 1) bytes at y (omega arith))
          ∙ append_assoc (take at bytes) (y ∷ []) (masked (map en (count_from (at + 1) left)) (drop (at + 1) bytes))
          ∙ ap (λ b. take at bytes ++ b ∷ masked (map en (count_from (at + 1) left)) (drop (at + 1) bytes)) is
          ∙ ap (λ k. take at bytes ++ (if en at then get_or bytes at 0 else 0) ∷ masked (map en (count_from k left)) (drop k bytes)) (add-one at)
          ∙ ap (λ ds. take at bytes ++ masked (map en (count_from at (suc left))) ds) (sym (drop-cons bytes at 0 here))
          ∙ ap (λ n. take at bytes ++ masked (map en (count_from at n)) (drop at bytes)) one
          ∙ inv.rest;
    }
