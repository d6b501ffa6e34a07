use Rattle.std.proofs.Common.{◌≡◌, ◌∷◌, ◌++◌, ◌≤◌, ◌<◌, List, [], ℕ, length, drop, slice_set, ap, sym, arith}
use Rattle.rp_header.specs.Numbers.{be}
use Rattle.rp_header.specs.NumberLaws.{be-byte}
use Rattle.rp_control.proofs.byte.write_u8.Goals as goal

front : (n : ℕ) (b : List ℕ) → n < 256 → 1 ≤ length b → slice_set b 0 n ≡ be n 1 ++ drop 1 b
front n [] fits long = absurd (omega arith)
front n (x ∷ xs) fits long = ap (λ one. one ++ xs) (sym (be-byte n fits))

pub returns : goal.returns
returns c = front c.args.number c.args.bytes.now (omega arith) (omega arith)
