-- Numbers as bytes and bits.
use Rattle.std.proofs.Common.{◌≡◌, ℕ, zero, suc, ◌+◌, ◌-◌, ◌*◌, ◌/◌, ◌%◌, ◌^◌, ◌<◌, ◌≤◌, List, [], ◌∷◌, ◌++◌, length, take, set, get_or, refl, sym, ap, ◌∙◌, subst, arith, append_assoc}
use Rattle.std.proofs.lemmas.List.{take_more_set, length-set}
use Rattle.std.proofs.Math.Nat.{pow-suc}
use Rattle.cosim_model.specs.Values.{bytes_of}
use Rattle.cos_api.proofs.Digits.{digits-fit, digits-small}

-- one more bit
pub bits-small : (n x b : ℕ) → 0 < n → b ≤ 1 → x < 2 ^ (n - 1) → b + 2 * x < 2 ^ n
bits-small zero x b some low h = absurd (omega arith)
bits-small (suc n) x b some low h =
    let e : suc n - 1 ≡ n = omega arith in
    let less : x < 2 ^ n = subst (λ m. x < 2 ^ m) e h in
    let up : 2 ^ suc n ≡ 2 ^ n * 2 = pow-suc 2 n in
    omega arith

-- The low bytes are put one by one.
pub bytes-more : (whole out : List ℕ) (left at y : ℕ) → at < length out → y ≡ left % 256 → take at out ++ bytes_of left (length out - at) ≡ whole
    → take (at + 1) (set out at y) ++ bytes_of (left / 256) (length (set out at y) - (at + 1)) ≡ whole
bytes-more whole out left at y within is e =
    ap (λ xs. xs ++ bytes_of (left / 256) (length (set out at y) - (at + 1))) (take_more_set out at y within)
    ∙ ap (λ n. (take at out ++ y ∷ []) ++ bytes_of (left / 256) (n - (at + 1))) (length-set out at y)
    ∙ append_assoc (take at out) (y ∷ []) (bytes_of (left / 256) (length out - (at + 1)))
    ∙ ap (λ b. take at out ++ b ∷ bytes_of (left / 256) (length out - (at + 1))) is
    ∙ ap (λ n. take at out ++ bytes_of left n) one
    ∙ e
  where
    one : suc (length out - (at + 1)) ≡ length out - at
    one = omega arith

-- One more byte before the others.

pub record Leads (bs rest : List ℕ) (b v : ℕ) : Type 0 where
  pub fewer : length rest < length bs
  pub fits : b + 256 * v < 256 ^ length bs
  pub small : 256 ^ length bs ≤ 18446744073709551616

first-byte : (bs rest : List ℕ) (b : ℕ) → bs ≡ b ∷ rest → get_or bs 0 0 < 256 → b < 256
first-byte bs rest b is low = let e = ap (λ xs. get_or xs 0 0) is in omega (arith, e, low)

pub leads : (bs rest : List ℕ) (first b v : ℕ) → bs ≡ first ∷ rest → b ≡ first → length bs ≤ 8 → get_or bs 0 0 < 256 → v < 256 ^ length rest → Leads bs rest b v
leads bs rest first b v is same few low less =
    let size : length bs ≡ suc (length rest) = ap length is in
    let byte = first-byte bs rest first is low in
    let one : length bs - 1 ≡ length rest = omega arith in
    record {
      fewer = omega arith;
      fits = digits-fit (length bs) v b few (omega arith) (subst (λ n. v < 256 ^ n) (sym one) less) (omega arith);
      small = digits-small (length bs) few;
    }
