-- A label that was found is the target that its line gives.
use Rattle.std.proofs.Common.{◌≡◌, ℕ, ◌^◌, ◌<◌, true, List, Option, Some, None, Err, cond, ap, sym, ◌∙◌}
use Rattle.rv_asm.specs.declared.fault.Cause.TheVariants.{Syntax}
use Rattle.rv_asm.specs.declared.labels.Place.{Place}
use Rattle.rv_asm.specs.Numbers.{kept_one, kept_number, number}
use Rattle.rv_asm.specs.Texts.{is_name}
use Rattle.rv_asm.specs.Programs.{Placed, first_with}
use Rattle.rv_asm.specs.Places.{place_of}
use Rattle.rv_asm.specs.Readings.{distance, reached, to_line, target}
use Rattle.rv_asm.proofs.Capped.{reached-kept, target-read}

to_line-found : (source low high : ℕ) (o : Option Placed) (place : Place) → low < 2 ^ 32 → high < 2 ^ 32 → Some place ≡ place_of o → reached low high (kept_one (distance source place.address)) ≡ to_line source low high o
to_line-found source low high None place h k e = cc
to_line-found source low high (Some line) place h k e =
    let same : place ≡ record { number = line.number; address = line.address } = cc in
    reached-kept low high (distance source place.address) h k ∙ ap (λ (p : Place). reached low high (distance source p.address)) same

pub target-found : (lines : List Placed) (source low high : ℕ) (text : List ℕ) (place : Place) → low < 2 ^ 32 → high < 2 ^ 32 → None ≡ kept_number (number text) → is_name text ≡ true → Some place ≡ place_of (first_with text lines) → reached low high (kept_one (distance source place.address)) ≡ target lines source low high text
target-found lines source low high text place h k e named found =
    to_line-found source low high (first_with text lines) place h k found
    ∙ sym (ap (λ b. cond b (to_line source low high (first_with text lines)) (Err Syntax)) named)
    ∙ target-read lines source low high text None h k e
