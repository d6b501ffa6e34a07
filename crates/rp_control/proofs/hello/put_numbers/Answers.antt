use Rattle.std.proofs.Common.{◌≡◌, ◌∙◌, ◌++◌, ap, sym, List, [], ℕ, take, length, arith, append_assoc, append-nil, slice_index}
use Rattle.rp_header.specs.Numbers.{be}
use Rattle.rp_control.specs.Controls.{caps_bytes}
use Rattle.rp_control.specs.ControlLaws.{caps_bytes-more}
use Rattle.rp_control.proofs.hello.put_numbers.Goals as goal

appended : (new front old rest buf : List ℕ) (n : ℕ) → new ≡ front ++ buf → buf ≡ be n 4 ++ [] → front ≡ old ++ rest → new ≡ old ++ (rest ++ be n 4)
appended new front old rest buf n is wrote was =
    is ∙ ap (λ b. front ++ b) (wrote ∙ append-nil (be n 4)) ∙ ap (λ f. f ++ be n 4) was ∙ append_assoc old rest (be n 4)

pub loop-number-preserved : goal.loop-number-preserved
unfolding be
loop-number-preserved c =
    let i = c.loop-number.number-index in
    let numbers = c.args.numbers.now in
    let size : length c.write_u32.new.buf ≡ 4 = ap length c.write_u32.ensures in (
      appended c.push_spare.new.self.bytes c.loop-number.out.bytes c.args.out.now.bytes (caps_bytes (take i numbers)) c.write_u32.new.buf (slice_index numbers i)
          c.push_spare.ensures.bytes c.write_u32.ensures c.loop-number.invariant.0
          ∙ ap (λ b. c.args.out.now.bytes ++ b) (sym (caps_bytes-more numbers i c.loop-number-test.true)),
      omega (arith, size, c.push_spare.ensures.spare),
    )
