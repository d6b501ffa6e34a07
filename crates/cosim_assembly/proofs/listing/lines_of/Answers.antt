use Rattle.std.proofs.Common.{◌++◌, ap, sym, ◌∙◌, arith}
use Rattle.cosim_assembly.specs.Listings.{lines_of}
use Rattle.cosim_assembly.proofs.Words.{lines-more, lines-all}
use Rattle.cosim_assembly.proofs.listing.lines_of.Goals as goal

pub words-preserved : goal.words-preserved
words-preserved c =
    lines-more _ _ _ c.in_ok-disassemble.ensures.line.0 _ c.in_ok-disassemble.ensures.line.1 c.in_ok-disassemble.ensures.line.2
    ∙ ap (λ ws. c.words.text.bytes ++ lines_of ws) (sym c.first_word-word.ensures.words) ∙ c.words.invariant

pub returns : goal.returns
returns c = sym (lines-all c.words.text.bytes c.words.rest.now (omega arith)) ∙ c.words.invariant
