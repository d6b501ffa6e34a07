use Rattle.std.proofs.Common.{◌≡◌, ◌++◌, take, drop}
use Rattle.rv_asm.specs.Texts.{first_word, rest_of_words}
use Rattle.rv_asm.proofs.texts.cut_word.Given as goal

abbrev pub invariant-loop-i : goal.invariant-loop-i
invariant-loop-i l =
    (first_word l.text ≡ take l.i l.text ++ first_word (drop l.i l.text)) × (rest_of_words l.text ≡ rest_of_words (drop l.i l.text))
