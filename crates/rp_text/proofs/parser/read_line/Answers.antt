use Rattle.std.proofs.Common.{sym, subst}
use Rattle.cosim_model.specs.Packets.{Packet, command_of}
use Rattle.rp_packet.specs.Spelling.{Writable}
use Rattle.rp_packet.specs.Values.{value_of}
use Rattle.rp_text.proofs.Named.{front-named, line-read, line-exact, is-packable, same-command}
use Rattle.rp_text.proofs.parser.read_line.Goals as goal
use Rattle.rp_text.proofs.parser.read_line.Goals.{else-is_end-via-then-is_end+else-can_be_written, else-is_end-via-else-is_end}

pub returns-then-can_be_written-clause-ok : goal.returns-then-can_be_written-clause-ok
returns-then-can_be_written-clause-ok c =
    let p = c.in_ok-packet in (
      line-read (value_of p.packet) c.args.line.now c.cut_word.result.0.now c.cut_word.result.1.now c.in-Some.command c.read_tag-tag.result c.of-words.result c.read_tag-tag.new.words c.read_body.new.words c.of-words.ensures p.ensures.tagged
          c.cut_word.ensures.front c.cut_word.ensures.back c.in-Some.ensures.some c.read_tag-tag.ensures p.ensures.body (c.is_end.ensures.0 c.if-is_end.true),
      is-packable (value_of p.packet) c.in-Some.command c.read_tag-tag.result c.of-words.result c.read_tag-tag.new.words c.read_body.new.words p.ensures.tagged c.read_tag-tag.ensures p.ensures.body
          (c.can_be_written.ensures.0 c.if-can_be_written.true),
    )

pub returns-then-can_be_written-clause-exact : goal.returns-then-can_be_written-clause-exact
returns-then-can_be_written-clause-exact c = λ v packable is.
    let p = c.in_ok-packet in
    let named = same-command c.in-Some.command (command_of v.body) (c.in-Some.ensures.exact (command_of v.body) (front-named v c.args.line.now c.cut_word.result.0.now is c.cut_word.ensures.front)) in
    (line-exact (value_of p.packet) v c.args.line.now c.cut_word.result.0.now c.cut_word.result.1.now c.in-Some.command c.read_tag-tag.result c.of-words.result c.read_tag-tag.new.words c.read_body.new.words c.of-words.ensures packable is
    c.cut_word.ensures.front c.cut_word.ensures.back named p.ensures.tagged c.read_tag-tag.ensures p.ensures.body).0

pub returns-else-is_end-clause-exact : goal.returns-else-is_end-clause-exact
returns-else-is_end-clause-exact c = λ v packable is.
    let p = c.in_ok-packet in
    let named = same-command c.in-Some.command (command_of v.body) (c.in-Some.ensures.exact (command_of v.body) (front-named v c.args.line.now c.cut_word.result.0.now is c.cut_word.ensures.front)) in
    let both = line-exact (value_of p.packet) v c.args.line.now c.cut_word.result.0.now c.cut_word.result.1.now c.in-Some.command c.read_tag-tag.result c.of-words.result c.read_tag-tag.new.words c.read_body.new.words c.of-words.ensures packable is
    c.cut_word.ensures.front c.cut_word.ensures.back named p.ensures.tagged c.read_tag-tag.ensures p.ensures.body in
    let writable : Writable (value_of p.packet) = subst (λ (x : Packet). Writable x) (sym both.0) packable.writable in
    elim c.else-is_end.branch [
      | else-is_end-via-then-is_end+else-can_be_written w ↦ cc (w.can_be_written.ensures.1 writable)
      | else-is_end-via-else-is_end w ↦ cc (c.is_end.ensures.1 both.1)
    ]
