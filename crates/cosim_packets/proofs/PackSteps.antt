-- How the steps of `pack` make up its promise.
use Rattle.std.proofs.Common.{ℕ, ◌≡◌, List, [], ◌∷◌, length, refl, arith}
use Rattle.std.specs.Prelude.{Result, Ok, Err}
use Rattle.std.specs.Str.{IsUtf8}
use Rattle.cos_text.specs.Lines.{lines}
use Rattle.outcomes.specs.declared.failures.JudgeFault.{JudgeFault}
use Rattle.outcomes.specs.declared.failures.JudgeFault.TheVariants.{Refused, NoMemory}
use Rattle.cosim_packets.specs.declared.refusals.PackRefusal.{PackRefusal}
use Rattle.cosim_packets.specs.declared.refusals.PackRefusal.TheVariants.{Line}
use Rattle.cosim_packets.specs.Packed.{AllLines, FirstRefused}
use Rattle.cosim_packets.specs.Packing.{PacksLines, PacksText}

pub packs-text : (text new : List ℕ) (r : Result Unit (JudgeFault PackRefusal)) → IsUtf8 text → PacksLines (lines text) new r → PacksText text new r
packs-text text new (Ok u) utf8 packs = AllLines utf8 packs
packs-text text new (Err (Refused (Line number))) utf8 refused = FirstRefused utf8 refused
packs-text text new (Err NoMemory) utf8 none = tt

pub no-lines : (text : List ℕ) → length text ≡ 0 → lines text ≡ []
no-lines [] none = refl
no-lines (c ∷ cs) none = absurd (omega (arith, none))
