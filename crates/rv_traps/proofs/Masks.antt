-- The masks of the registers, as the bits that they keep.
use Rattle.std.proofs.Common.{◌≡◌, ℕ, ◌+◌, ◌*◌, ◌/◌, ◌%◌, ◌^◌, ◌<◌, bit_and, ap, arith}
use Rattle.std.proofs.lemmas.Nat.{and_block, and_mask}
use Rattle.std.proofs.lemmas.Nat.Bits.{and_pow}
use Rattle.std.specs.Int.{bit_at}

-- one bit
pub mask_bit3 : (v : ℕ) → bit_and v 0x8 ≡ bit_at v 3 * 2 ^ 3
mask_bit3 v = and_pow v 3

pub mask_bit7 : (v : ℕ) → bit_and v 0x80 ≡ bit_at v 7 * 2 ^ 7
mask_bit7 v = and_pow v 7

pub mask_bit11 : (v : ℕ) → bit_and v 0x800 ≡ bit_at v 11 * 2 ^ 11
mask_bit11 v = and_pow v 11

-- MPIE and MIE of mstatus
pub mask_status : (v : ℕ) → bit_and v 0x88 ≡ bit_at v 7 * 2 ^ 7 + bit_at v 3 * 2 ^ 3
mask_status v =
    let cut : v ≡ v / 2 ^ 7 * 2 ^ 7 + v % 2 ^ 7 = omega arith in
    let block : bit_and (v / 2 ^ 7 * 2 ^ 7 + v % 2 ^ 7) 0x88 ≡ bit_and (v / 2 ^ 7) 1 * 2 ^ 7 + bit_and (v % 2 ^ 7) 8 = and_block 7 (v / 2 ^ 7) 1 (v % 2 ^ 7) 8 (omega arith) (omega arith) in
    let high : bit_and (v / 2 ^ 7) 1 ≡ v / 2 ^ 7 % 2 = and_mask (v / 2 ^ 7) 1 in
    let low : bit_and (v % 2 ^ 7) 8 ≡ bit_at (v % 2 ^ 7) 3 * 2 ^ 3 = and_pow (v % 2 ^ 7) 3 in
    let joined : bit_and v 0x88 ≡ bit_and (v / 2 ^ 7 * 2 ^ 7 + v % 2 ^ 7) 0x88 = ap (λ n. bit_and n 0x88) cut in
    omega (arith, joined, block, high, low)

-- the external and the timer interrupt
pub mask_enabled : (v : ℕ) → bit_and v 0x880 ≡ bit_at v 11 * 2 ^ 11 + bit_at v 7 * 2 ^ 7
mask_enabled v =
    let cut : v ≡ v / 2 ^ 11 * 2 ^ 11 + v % 2 ^ 11 = omega arith in
    let block : bit_and (v / 2 ^ 11 * 2 ^ 11 + v % 2 ^ 11) 0x880 ≡ bit_and (v / 2 ^ 11) 1 * 2 ^ 11 + bit_and (v % 2 ^ 11) 0x80 = and_block 11 (v / 2 ^ 11) 1 (v % 2 ^ 11) 0x80 (omega arith) (omega arith) in
    let high : bit_and (v / 2 ^ 11) 1 ≡ v / 2 ^ 11 % 2 = and_mask (v / 2 ^ 11) 1 in
    let low : bit_and (v % 2 ^ 11) 0x80 ≡ bit_at (v % 2 ^ 11) 7 * 2 ^ 7 = and_pow (v % 2 ^ 11) 7 in
    let joined : bit_and v 0x880 ≡ bit_and (v / 2 ^ 11 * 2 ^ 11 + v % 2 ^ 11) 0x880 = ap (λ n. bit_and n 0x880) cut in
    omega (arith, joined, block, high, low)

-- base and mode of mtvec
pub mask_vector : (v : ℕ) → v < 2 ^ 32 → bit_and v 0xfffffffd ≡ v / 2 ^ 2 * 2 ^ 2 + v % 2
mask_vector v small =
    let cut : v ≡ v / 2 ^ 2 * 2 ^ 2 + v % 2 ^ 2 = omega arith in
    let block : bit_and (v / 2 ^ 2 * 2 ^ 2 + v % 2 ^ 2) 0xfffffffd ≡ bit_and (v / 2 ^ 2) 0x3fffffff * 2 ^ 2 + bit_and (v % 2 ^ 2) 1 = and_block 2 (v / 2 ^ 2) 0x3fffffff (v % 2 ^ 2) 1 (omega arith) (omega arith) in
    let high : bit_and (v / 2 ^ 2) 0x3fffffff ≡ v / 2 ^ 2 % 2 ^ 30 = and_mask (v / 2 ^ 2) 30 in
    let low : bit_and (v % 2 ^ 2) 1 ≡ v % 2 ^ 2 % 2 = and_mask (v % 2 ^ 2) 1 in
    let joined : bit_and v 0xfffffffd ≡ bit_and (v / 2 ^ 2 * 2 ^ 2 + v % 2 ^ 2) 0xfffffffd = ap (λ n. bit_and n 0xfffffffd) cut in
    omega (arith, joined, block, high, low)

-- a multiple of 4
pub mask_word : (v : ℕ) → v < 2 ^ 32 → bit_and v 0xfffffffc ≡ v / 2 ^ 2 * 2 ^ 2
mask_word v small =
    let cut : v ≡ v / 2 ^ 2 * 2 ^ 2 + v % 2 ^ 2 = omega arith in
    let block : bit_and (v / 2 ^ 2 * 2 ^ 2 + v % 2 ^ 2) 0xfffffffc ≡ bit_and (v / 2 ^ 2) 0x3fffffff * 2 ^ 2 + bit_and (v % 2 ^ 2) 0 = and_block 2 (v / 2 ^ 2) 0x3fffffff (v % 2 ^ 2) 0 (omega arith) (omega arith) in
    let high : bit_and (v / 2 ^ 2) 0x3fffffff ≡ v / 2 ^ 2 % 2 ^ 30 = and_mask (v / 2 ^ 2) 30 in
    let low : bit_and (v % 2 ^ 2) 0 ≡ v % 2 ^ 2 % 2 ^ 0 = and_mask (v % 2 ^ 2) 0 in
    let joined : bit_and v 0xfffffffc ≡ bit_and (v / 2 ^ 2 * 2 ^ 2 + v % 2 ^ 2) 0xfffffffc = ap (λ n. bit_and n 0xfffffffc) cut in
    omega (arith, joined, block, high, low)

-- all 32 bits
pub mask_all : (v : ℕ) → v < 2 ^ 32 → bit_and v 0xffffffff ≡ v
mask_all v small = let masked : bit_and v 0xffffffff ≡ v % 2 ^ 32 = and_mask v 32 in omega (arith, masked)

-- a value made of MPIE and MIE is kept whole
pub status_kept : (mpie mie : ℕ) → mpie < 2 → mie < 2 → bit_and (mpie * 2 ^ 7 + mie * 2 ^ 3 + 0x1800) 0x88 ≡ mpie * 2 ^ 7 + mie * 2 ^ 3
status_kept mpie mie one two = omega (arith, mask_status (mpie * 2 ^ 7 + mie * 2 ^ 3 + 0x1800))

pub status_made : (mpie mie : ℕ) → mpie < 2 → mie < 2 → bit_and (mpie * 2 ^ 7 + mie * 2 ^ 3) 0x88 ≡ mpie * 2 ^ 7 + mie * 2 ^ 3
status_made mpie mie one two = omega (arith, mask_status (mpie * 2 ^ 7 + mie * 2 ^ 3))
