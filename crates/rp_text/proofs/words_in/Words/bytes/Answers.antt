use Rattle.rp_text.proofs.Takes.{takes-bytes, refused-bytes, absent-bytes}
use Rattle.rp_text.proofs.words_in.Words.bytes.Goals as goal

pub returns-in_default : goal.returns-in_default
returns-in_default c = absent-bytes c.args.self.now c.take.new.self c.make.result.bytes c.make.ensures.bytes c.in_default.ensures

pub returns-in-Ok : goal.returns-in-Ok
returns-in-Ok c =
    takes-bytes c.args.self.now c.take.new.self c.in-Some.word.now c.in-Ok.bytes.bytes c.in-Some.ensures c.in-Ok.ensures.ok.1 c.in-Ok.ensures.ok.0
    (λ bs each e. c.in-Ok.ensures.exact bs each e)

pub returns-in-Err-Line : goal.returns-in-Err-Line
returns-in-Err-Line c =
    refused-bytes c.args.self.now c.take.new.self c.in-Some.word.now c.make-in-Err-Line.result.bytes c.make-in-Err-Line.ensures.bytes c.in-Some.ensures
    (λ bs each e. cc (c.in-Err-Line.ensures.exact bs each e))
