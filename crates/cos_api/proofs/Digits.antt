-- Numbers of few base 256 digits.
use Rattle.std.proofs.Common.{◌≡◌, ℕ, zero, suc, ◌+◌, ◌-◌, ◌*◌, ◌^◌, ◌<◌, ◌≤◌, subst, arith}
use Rattle.std.proofs.Math.Nat.{pow-le-pow_right, pow-suc}

-- one more digit
pub digits-fit : (n x b : ℕ) → n ≤ 8 → 0 < n → x < 256 ^ (n - 1) → b < 256 → b + 256 * x < 256 ^ n
digits-fit zero x b few some h low = absurd (omega arith)
digits-fit (suc n) x b few some h low = (let e : suc n - 1 ≡ n = omega arith in let less : x < 256 ^ n = subst (λ m. x < 256 ^ m) e h in let up : 256 ^ suc n ≡ 256 ^ n * 256 = pow-suc 256 n in omega arith)

pub digits-small : (n : ℕ) → n ≤ 8 → 256 ^ n ≤ 18446744073709551616
digits-small n few = pow-le-pow_right {n = 256} (omega arith) few
