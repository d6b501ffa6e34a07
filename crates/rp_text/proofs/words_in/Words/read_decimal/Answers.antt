use Rattle.std.proofs.Common.{arith}
use Rattle.rp_text.proofs.Takes.{takes-number, refused-number, absent-number, number-same}
use Rattle.rp_text.proofs.words_in.Words.read_decimal.Goals as goal

pub returns-in_default : goal.returns-in_default
returns-in_default c = absent-number c.args.most c.args.self.now c.take.new.self (omega arith) c.in_default.ensures

pub returns-in-Some-read_decimal : goal.returns-in-Some-read_decimal
returns-in-Some-read_decimal c = takes-number c.args.most c.args.self.now c.take.new.self c.in-Some.word.now c.in-Some-read_decimal.number (omega arith) c.in-Some.ensures c.in-Some-read_decimal.ensures.some.0 c.in-Some-read_decimal.ensures.some.1
    (λ n le e. number-same _ _ (c.in-Some-read_decimal.ensures.exact n le e))

pub returns-in-None : goal.returns-in-None
returns-in-None c = refused-number c.args.most c.args.self.now c.take.new.self c.in-Some.word.now (omega arith) c.in-Some.ensures (λ n le e. cc (c.in-None.ensures.exact n le e))
