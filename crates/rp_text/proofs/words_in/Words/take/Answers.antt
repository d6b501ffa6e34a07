use Rattle.std.proofs.Common.{Some, sym, ap, ◌∙◌}
use Rattle.std.specs.Option.{option_copied}
use Rattle.rp_text.proofs.Takes.{takes-word}
use Rattle.rp_text.proofs.words_in.Words.take.Goals as goal

pub returns-in-Some : goal.returns-in-Some
returns-in-Some c =
    takes-word c.args.self.now c.in-Some.after.now c.cut_word.result.0.now c.cut_word.result.1.now
    (sym c.self.view_is ∙ ap option_copied c.in_ok-rest.was ∙ ap Some c.in-Some.ensures)
    c.cut_word.ensures.front c.cut_word.ensures.back
