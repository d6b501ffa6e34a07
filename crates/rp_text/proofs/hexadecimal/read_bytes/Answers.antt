use Rattle.std.proofs.Common.{◌≡◌, ◌<◌, ◌∙◌, sym, length, arith}
use Rattle.std.proofs.lemmas.Bool.Decides.{nat_tests, Decides-eqb}
use Rattle.std.proofs.lemmas.Slice.Eq.{slice_eq-Decides}
use Rattle.rp_text.proofs.Decoded.{no-bytes, some-digits, bytes-of-digits}
use Rattle.rp_text.proofs.hexadecimal.read_bytes.Goals as goal

pub returns-then-eq-clause-exact : goal.returns-then-eq-clause-exact
returns-then-eq-clause-exact c = λ bs bytes is.
    c.make-bytes.ensures.bytes ∙ sym (no-bytes c.args.word.now bs is ((slice_eq-Decides Decides-eqb _ _ _ c.eq.ensures).0 c.if-eq.true ∙ c.as_slice.ensures))

pub returns-then-is_empty-clause-exact : goal.returns-then-is_empty-clause-exact
returns-then-is_empty-clause-exact c = λ bs bytes is.
    let none : length c.args.word.now ≡ 0 = grind (arith, nat_tests) in absurd (some-digits c.args.word.now bs is none)

pub returns-then-decode-clause-ok : goal.returns-then-decode-clause-ok
returns-then-decode-clause-ok c =
    let ok = c.decode.ensures.ok (cc) in
    let some : 0 < length c.args.word.now = grind (arith, nat_tests) in
    (bytes-of-digits c.args.word.now _ ok.0 some, ok.1)
