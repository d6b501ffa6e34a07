use Rattle.std.proofs.Common.{◌≡◌, ◌-◌, ◌∷◌, List, ℕ, length, take, drop, ap, sym, ◌∙◌, arith}
use Rattle.std.proofs.lemmas.List.{take_all, length-drop}
use Rattle.cosim_assembly.specs.Images.{words_of}
use Rattle.cosim_assembly.proofs.Words.{words-first}
use Rattle.cosim_assembly.proofs.listing.first_word.Goals as goal

pub returns-clause-words : goal.returns-clause-words
returns-clause-words c =
    let bytes : List ℕ = c.args.bytes.now in
    let rest : drop 4 bytes ≡ take (length bytes - 4) (drop 4 bytes) = grind (arith, take_all, length-drop) in
    words-first bytes c.requires
    ∙ ap (λ word. word ∷ words_of (drop 4 bytes)) (sym c.from_le_bytes-word.ensures)
    ∙ ap (λ after. c.from_le_bytes-word.result ∷ words_of after) rest
