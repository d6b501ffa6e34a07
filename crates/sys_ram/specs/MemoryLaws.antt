-- Reads and writes of RAM keep the laws of masters.
use Rattle.std.specs.Prelude.{◌≡◌, ℕ, suc, ◌+◌, ◌-◌, ◌≤◌, ◌⊎◌, Bool, true, false, ◌&&◌, nat_le, if◌then◌else◌, List, [], ◌∷◌, ◌++◌, length, take, drop, map, All, Option, Some, None, refl}
use Rattle.std.proofs.Common.{arith, ap, ◌∙◌, inl, inr}
use Rattle.std.proofs.lemmas.List.{length-replicate, length-map, length-take, length-drop, length-append}
use Rattle.std.proofs.lemmas.List.Elements.{All-replicate, All-map}
use Rattle.std.proofs.lemmas.Bool.{leb-true}
use Rattle.cosim_model.specs.Parts.{IsByte}
use Rattle.cos_base.specs.Octets.{overwritten}
use Rattle.sys_ram.specs.Memory.{ram_base, place_of, part_of, as_byte, read_at, read_of, merged, write_at, write_of}

place-tests : (low high : Bool) (x at : ℕ) → (if low && high then Some x else None) ≡ Some at → (low ≡ true) × (high ≡ true) × (x ≡ at)
place-tests true true x at e = (refl, refl, (cc))
place-tests true false x at e = absurd (cc)
place-tests false high x at e = absurd (cc)

-- A range that has a place is within RAM.
pub place_of-within : (size addr n at : ℕ) → place_of size addr n ≡ Some at → (at + n ≤ size) × (addr ≡ ram_base + at)
place_of-within size addr n at e =
    let tests = place-tests (nat_le ram_base addr) (nat_le (addr + n) (ram_base + size)) (addr - ram_base) at e in
    let low = leb-true ram_base addr tests.0 in
    let high = leb-true (addr + n) (ram_base + size) tests.1 in
    (omega (arith, low, high, tests.2), omega (arith, low, tests.2))

pub length-part_of : (bytes : List ℕ) (at n : ℕ) → at + n ≤ length bytes → length (part_of bytes at n) ≡ n
length-part_of bytes at n within = omega (arith, length-take n (drop at bytes), length-drop at bytes)

-- A read gives as many bytes as it asks for and code 0, or as many zeros and code 2.
abbrev pub IsRead : ℕ → ℕ × List ℕ → Type 0
IsRead n r = (length r.1 ≡ n) × All IsByte r.1 × ((r.0 ≡ 0) ⊎ ((r.0 ≡ 2) × All (λ b. b ≡ 0) r.1))

are-bytes : (bs : List ℕ) → All IsByte (map as_byte bs)
are-bytes bs = All-map IsByte as_byte bs (λ k d less. omega arith)

read_at-is : (bytes : List ℕ) (addr n : ℕ) (place : Option ℕ) → place_of (length bytes) addr n ≡ place → IsRead n (read_at bytes n place)
read_at-is bytes addr n None e = (length-replicate n 0, All-replicate IsByte n 0 (omega arith), inr (refl, All-replicate (λ b. b ≡ 0) n 0 refl))
read_at-is bytes addr n (Some at) e =
    (length-map (part_of bytes at n) as_byte ∙ length-part_of bytes at n (place_of-within (length bytes) addr n at e).0, are-bytes (part_of bytes at n), inl refl)

pub read_of-is : (bytes : List ℕ) (addr n : ℕ) → IsRead n (read_of bytes addr n)
read_of-is bytes addr n = read_at-is bytes addr n (place_of (length bytes) addr n) refl

write_at-code : (bytes new : List ℕ) (ons : List Bool) (place : Option ℕ) → ((write_at bytes new ons place).1 ≡ 0) ⊎ ((write_at bytes new ons place).1 ≡ 2)
write_at-code bytes new ons None = inr refl
write_at-code bytes new ons (Some at) = inl refl

-- A write has code 0 or 2.
pub write_of-code : (bytes : List ℕ) (addr : ℕ) (new : List ℕ) (ons : List Bool) → ((write_of bytes addr new ons).1 ≡ 0) ⊎ ((write_of bytes addr new ons).1 ≡ 2)
write_of-code bytes addr new ons = write_at-code bytes new ons (place_of (length bytes) addr (length new))

pub length-merged : (ons : List Bool) (new old : List ℕ) → length (merged ons new old) ≡ length old
length-merged [] new old = refl
length-merged (on ∷ ons) [] old = refl
length-merged (on ∷ ons) (b ∷ new) [] = refl
length-merged (on ∷ ons) (b ∷ new) (o ∷ old) = ap suc (length-merged ons new old)

pub length-overwritten : (bytes : List ℕ) (at : ℕ) (others : List ℕ) → at + length others ≤ length bytes → length (overwritten bytes at others) ≡ length bytes
length-overwritten bytes at others within =
    omega (arith, length-append (take at bytes ++ others) (drop (at + length others) bytes), length-append (take at bytes) others, length-take at bytes, length-drop (at + length others) bytes)

write_at-length : (bytes : List ℕ) (addr : ℕ) (new : List ℕ) (ons : List Bool) (place : Option ℕ) → place_of (length bytes) addr (length new) ≡ place → length (write_at bytes new ons place).0 ≡ length bytes
write_at-length bytes addr new ons None e = refl
write_at-length bytes addr new ons (Some at) e =
    let within = (place_of-within (length bytes) addr (length new) at e).0 in
    let long : length (merged ons new (part_of bytes at (length new))) ≡ length new = length-merged ons new (part_of bytes at (length new)) ∙ length-part_of bytes at (length new) within in
    length-overwritten bytes at (merged ons new (part_of bytes at (length new))) (omega (arith, within, long))

-- A write keeps the size.
pub write_of-length : (bytes : List ℕ) (addr : ℕ) (new : List ℕ) (ons : List Bool) → length (write_of bytes addr new ons).0 ≡ length bytes
write_of-length bytes addr new ons = write_at-length bytes addr new ons (place_of (length bytes) addr (length new)) refl
