use Rattle.std.proofs.Common.{◌≡◌, ◌/◌, length, drop, refl, arith, length-append, length-drop, length-take}
use Rattle.std.proofs.lemmas.Bool.Decides.{nat_tests}
use Rattle.rp_text.proofs.Decoded.{read-first, bytes-first, left-first, left-chunk, read-more, bytes-more, left-more, left-all, joined-again}
use Rattle.rp_text.proofs.hexadecimal.decode.Goals as goal

pub loop-rest-init : goal.loop-rest-init
loop-rest-init c = record {
  read = read-first _ _ c.requires.empty;
  room = c.requires.room;
  each = bytes-first _ c.requires.empty;
  left = λ bs bytes is. left-first bs _ _ c.requires.empty bytes is;
  buffer = refl;
}

pub returns-then-not-decode_chunk-clause-exact : goal.returns-then-not-decode_chunk-clause-exact
returns-then-not-decode_chunk-clause-exact c = λ bs bytes is.
    let l = c.loop-rest in
    let chunk = left-chunk bs l.out.bytes l.rest.now c.split_at.result.0.now c.min.result (l.invariant.left bs bytes is) c.min.ensures c.split_at.ensures.front in
    absurd (cc ((c.decode_chunk.ensures.exact chunk.0 chunk.1 chunk.2).0))

pub loop-rest-preserved : goal.loop-rest-preserved
loop-rest-preserved c =
    let l = c.loop-rest in
    let ok = c.decode_chunk.ensures.ok (cc) in
    let half = c.decode_chunk.auto.bytes in
    let size : length c.decode_chunk.new.bytes ≡ length c.split_at.result.0.now / 2 = omega (arith, length-take (length c.split_at.result.0.now / 2) l.buffer) in
    record {
      read = read-more l.out.bytes c.decode_chunk.new.bytes c.push_spare.new.self.bytes c.split_at.result.0.now c.split_at.result.1.now l.rest.now c.args.digits.now c.push_spare.ensures.bytes ok.0
          (joined-again _ _ _ _ c.split_at.ensures.front c.split_at.ensures.back) l.invariant.read;
      room = omega arith;
      each = bytes-more _ _ _ c.push_spare.ensures.bytes l.invariant.each ok.1;
      left = λ bs bytes is. left-more bs l.out.bytes l.rest.now c.split_at.result.0.now c.split_at.result.1.now c.decode_chunk.new.bytes c.push_spare.new.self.bytes c.min.result (l.invariant.left bs bytes is)
          c.min.ensures c.split_at.ensures.front c.split_at.ensures.back (λ xs each text. (c.decode_chunk.ensures.exact xs each text).1) c.push_spare.ensures.bytes;
      buffer = omega (arith, length-append c.decode_chunk.new.bytes (drop (length c.split_at.result.0.now / 2) l.buffer), length-drop (length c.split_at.result.0.now / 2) l.buffer);
    }

pub returns-clause-exact : goal.returns-clause-exact
returns-clause-exact c = λ bs bytes is.
    let none : length c.loop-rest.rest.now ≡ 0 = grind (arith, nat_tests) in
    (refl, left-all bs c.loop-rest.out.bytes c.loop-rest.rest.now none (c.loop-rest.invariant.left bs bytes is))
