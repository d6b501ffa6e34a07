use Rattle.std.proofs.Common.{◌≡◌, ◌++◌, take, drop}
use Rattle.rp_text.specs.Words.{first_word, rest_of_words}
use Rattle.rp_text.proofs.words_in.cut_word.Given as goal

abbrev pub invariant-loop-i : goal.invariant-loop-i
invariant-loop-i l =
    (first_word l.text ≡ take l.i l.text ++ first_word (drop l.i l.text)) × (rest_of_words l.text ≡ rest_of_words (drop l.i l.text))
