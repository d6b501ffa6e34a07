use Rattle.rp_text.proofs.Caps.{caps-smaller, caps-more, caps-read-more, caps-left-more, caps-all, none-left}
use Rattle.rp_text.proofs.words_in.Words.read_capabilities.Goals as goal

pub words-smaller : goal.words-smaller
words-smaller c = caps-smaller c.words.self c.read_u32-cap.new.self 4294967295 c.read_u32-cap.result c.read_u32-cap.ensures (c.has_more.ensures.0 c.words-test.true)

pub words-preserved : goal.words-preserved
words-preserved c =
    let l = c.words in
    let takes = c.read_u32-cap.ensures in
    record {
      each = caps-more l.self c.read_u32-cap.new.self l.caps c.push.new.self c.read_u32-cap.result takes c.in_ok-push.ensures.ok l.invariant.each;
      read = caps-read-more c.args.self.now l.self c.read_u32-cap.new.self l.caps c.push.new.self c.read_u32-cap.result takes c.in_ok-push.ensures.ok l.invariant.read;
      left = λ ns words is. caps-left-more ns l.caps c.push.new.self l.self c.read_u32-cap.new.self c.read_u32-cap.result takes c.in_ok-push.ensures.ok (c.has_more.ensures.0 c.words-test.true) (l.invariant.left ns words is);
    }

pub returns : goal.returns
returns c =
    let l = c.words in
    caps-all c.args.self.now l.self l.caps l.invariant.each l.invariant.read l.invariant.left (none-left _ c.has_more.result c.has_more.ensures.1 c.words-test.false)
