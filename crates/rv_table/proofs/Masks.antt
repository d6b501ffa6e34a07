-- What the masks read of a word.
use Rattle.std.proofs.Common.{◌≡◌, ℕ, ◌+◌, ◌*◌, ◌/◌, ◌%◌, ◌^◌, bit_and, ap, arith}
use Rattle.std.proofs.lemmas.Nat.{and_block, and_mask}
use Rattle.rv_table.specs.Fields.{field}

pub mask_opcode : (w : ℕ) → bit_and w 0x7f ≡ w % 2 ^ 7
mask_opcode w = and_mask w 7

pub mask_funct3 : (w : ℕ) → bit_and w 0x707f ≡ w % 2 ^ 7 + field w 12 3 * 2 ^ 12
mask_funct3 w =
    let cut : w ≡ w / 2 ^ 12 * 2 ^ 12 + w % 2 ^ 12 = omega arith in
    let block : bit_and (w / 2 ^ 12 * 2 ^ 12 + w % 2 ^ 12) 0x707f ≡ bit_and (w / 2 ^ 12) 7 * 2 ^ 12 + bit_and (w % 2 ^ 12) 0x7f = and_block 12 (w / 2 ^ 12) 7 (w % 2 ^ 12) 0x7f (omega arith) (omega arith) in
    let high : bit_and (w / 2 ^ 12) 7 ≡ w / 2 ^ 12 % 2 ^ 3 = and_mask (w / 2 ^ 12) 3 in
    let low : bit_and (w % 2 ^ 12) 0x7f ≡ w % 2 ^ 12 % 2 ^ 7 = and_mask (w % 2 ^ 12) 7 in
    let joined : bit_and w 0x707f ≡ bit_and (w / 2 ^ 12 * 2 ^ 12 + w % 2 ^ 12) 0x707f = ap (λ n. bit_and n 0x707f) cut in
    omega (arith, joined, block, high, low)

pub mask_funct7 : (w : ℕ) → bit_and w 0xfe00707f ≡ w % 2 ^ 7 + field w 12 3 * 2 ^ 12 + w / 2 ^ 25 % 2 ^ 7 * 2 ^ 25
mask_funct7 w =
    let cut : w ≡ w / 2 ^ 25 * 2 ^ 25 + w % 2 ^ 25 = omega arith in
    let block : bit_and (w / 2 ^ 25 * 2 ^ 25 + w % 2 ^ 25) 0xfe00707f ≡ bit_and (w / 2 ^ 25) 0x7f * 2 ^ 25 + bit_and (w % 2 ^ 25) 0x707f = and_block 25 (w / 2 ^ 25) 0x7f (w % 2 ^ 25) 0x707f (omega arith) (omega arith) in
    let high : bit_and (w / 2 ^ 25) 0x7f ≡ w / 2 ^ 25 % 2 ^ 7 = and_mask (w / 2 ^ 25) 7 in
    let joined : bit_and w 0xfe00707f ≡ bit_and (w / 2 ^ 25 * 2 ^ 25 + w % 2 ^ 25) 0xfe00707f = ap (λ n. bit_and n 0xfe00707f) cut in
    omega (arith, joined, block, high, mask_funct3 (w % 2 ^ 25))
