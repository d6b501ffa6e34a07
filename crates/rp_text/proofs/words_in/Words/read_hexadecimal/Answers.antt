use Rattle.rp_text.proofs.Takes.{takes-hex, refused-hex, absent-hex, number-same}
use Rattle.rp_text.proofs.words_in.Words.read_hexadecimal.Goals as goal

pub returns-in_default : goal.returns-in_default
returns-in_default c = absent-hex c.args.self.now c.take.new.self c.in_default.ensures

pub returns-in-Some-read_hexadecimal : goal.returns-in-Some-read_hexadecimal
returns-in-Some-read_hexadecimal c = takes-hex c.args.self.now c.take.new.self c.in-Some.word.now c.in-Some-read_hexadecimal.number c.in-Some.ensures c.in-Some-read_hexadecimal.ensures.some.0 c.in-Some-read_hexadecimal.ensures.some.1
    (λ n le e. number-same _ _ (c.in-Some-read_hexadecimal.ensures.exact n le e))

pub returns-in-None : goal.returns-in-None
returns-in-None c = refused-hex c.args.self.now c.take.new.self c.in-Some.word.now c.in-Some.ensures (λ n le e. cc (c.in-None.ensures.exact n le e))
