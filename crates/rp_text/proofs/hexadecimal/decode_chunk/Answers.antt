use Rattle.std.proofs.Common.{sym, ap, ◌∙◌, length}
use Rattle.std.proofs.lemmas.Slice.Eq.{bytes_eq-Decides}
use Rattle.hex.specs.Hex.{encode_lower}
use Rattle.rp_text.proofs.Decoded.{decoded}
use Rattle.rp_text.proofs.hexadecimal.decode_chunk.Goals as goal

pub returns-in-Ok-clause-exact : goal.returns-in-Ok-clause-exact
returns-in-Ok-clause-exact c = λ bs bytes is.
    let is_decoded = decoded c.args.digits.now bs (length c.args.bytes.now) bytes is c.requires.half in
    let both = rw is_decoded at c.decode_to_slice.ensures.value in
    (c.is_text_of.ensures ∙ (bytes_eq-Decides _ _).1 (ap encode_lower both.1 ∙ sym is), both.1)

pub returns-in-Err-clause-exact : goal.returns-in-Err-clause-exact
returns-in-Err-clause-exact c = λ bs bytes is.
    let is_decoded = decoded c.args.digits.now bs (length c.args.bytes.now) bytes is c.requires.half in
    let both = rw is_decoded at c.decode_to_slice.ensures.value in
    absurd (cc (both.0))
