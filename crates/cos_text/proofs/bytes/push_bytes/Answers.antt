use Rattle.std.proofs.Common.{◌≡◌, ◌*◌, ◌++◌, length, drop, ◌∙◌, ap, arith, length-append, length-drop}
use Rattle.std.proofs.lemmas.Bool.Decides.{nat_tests}
use Rattle.hex.specs.Hex.{lower_digits, encode_lower}
use Rattle.hex.proofs.HexLemmas.{length-encode_with}
use Rattle.cos_text.proofs.Puts.{put-chunk, put-done}
use Rattle.cos_text.proofs.bytes.push_bytes.Goals as goal

pub loop-rest-preserved : goal.loop-rest-preserved
loop-rest-preserved c =
    let l = c.loop-rest in
    let two : length c.encode.new.digits ≡ 2 * length c.split_at.result.0.now = ap length c.encode.ensures ∙ length-encode_with lower_digits c.split_at.result.0.now in
    record {
      put = put-chunk l.out.bytes c.push_spare.new.self.bytes c.split_at.result.0.now c.split_at.result.1.now l.rest.now c.min.result c.split_at.ensures.front c.split_at.ensures.back (c.push_spare.ensures.bytes ∙ ap (λ x. l.out.bytes ++ x) c.encode.ensures) ∙ l.invariant.put;
      room = omega arith;
      less = omega arith;
      text = omega (arith, length-append c.encode.new.digits (drop (2 * length c.split_at.result.0.now) l.text), length-drop (2 * length c.split_at.result.0.now) l.text);
    }

pub returns-clause-bytes : goal.returns-clause-bytes
returns-clause-bytes c =
    let none : length c.loop-rest.rest.now ≡ 0 = grind (arith, nat_tests) in
    put-done _ c.loop-rest.rest.now _ none c.loop-rest.invariant.put

pub returns-clause-room : goal.returns-clause-room
returns-clause-room c =
    let none : length c.loop-rest.rest.now ≡ 0 = grind (arith, nat_tests) in
    let all = ap length (returns-clause-bytes c) in
    omega (arith, all, length-append c.args.out.now.bytes (encode_lower c.args.bytes.now), length-encode_with lower_digits c.args.bytes.now)
