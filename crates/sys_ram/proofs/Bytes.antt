-- What the bytes of a machine give.
use Rattle.std.proofs.Common.{◌≡◌, ℕ, List, [], ◌∷◌, map, get_or, refl, ap, ◌∙◌, arith, suc, Fits, w8}
use Rattle.sys_ram.specs.Memory.{as_byte}

-- Bytes are read as themselves.
pub as_byte-map : (bytes : List ℕ) → ((i : ℕ) → Fits w8 (get_or bytes i 0)) → map as_byte bytes ≡ bytes
as_byte-map [] fits = refl
as_byte-map (b ∷ bytes) fits =
    let small : as_byte b ≡ b = omega (arith, fits 0) in
    ap (λ x. x ∷ map as_byte bytes) small ∙ ap (λ xs. b ∷ xs) (as_byte-map bytes (λ i. fits (suc i)))
