use Rattle.std.proofs.Common.{refl}
use Rattle.statuses.proofs.Taking.{put-line}
use Rattle.statuses.proofs.lines.put_config.Goals as goal

pub returns-in-Text : goal.returns-in-Text
returns-in-Text g c = put-line _ _ _ _ _ _ _ _ (rw (c.in-Text.is) refl) c.put_all.ensures

pub returns-in-Unknown : goal.returns-in-Unknown
returns-in-Unknown g c = put-line _ _ _ _ _ _ _ _ (rw (c.in-Unknown.is, c.as_str.ensures) refl) c.put_key.ensures

pub returns-in-Missing : goal.returns-in-Missing
returns-in-Missing g c = put-line _ _ _ _ _ _ _ _ (rw (c.in-Missing.is, c.as_str-in-Missing.ensures) refl) c.put_key-in-Missing.ensures

pub returns-in-Kind : goal.returns-in-Kind
returns-in-Kind g c = put-line _ _ _ _ _ _ _ _ (rw (c.in-Kind.is, c.as_str-in-Kind.ensures) refl) c.put_key-in-Kind.ensures

pub returns-in-TooMany : goal.returns-in-TooMany
returns-in-TooMany g c = put-line _ _ _ _ _ _ _ _ (rw (c.in-TooMany.is) refl) c.put_one.ensures

pub returns-in-Word : goal.returns-in-Word
returns-in-Word g c = put-line _ _ _ _ _ _ _ _ (rw (c.in-Word.is, c.as_str-in-Word.ensures) refl) c.put_key-in-Word.ensures

pub returns-in-Range : goal.returns-in-Range
returns-in-Range g c = put-line _ _ _ _ _ _ _ _ (rw (c.in-Range.is, c.as_str-in-Range.ensures) refl) c.put_range.ensures

pub returns-in-Overlap : goal.returns-in-Overlap
returns-in-Overlap g c = put-line _ _ _ _ _ _ _ _ (rw (c.in-Overlap.is) refl) c.put_two.ensures

pub returns-in-LineTwice : goal.returns-in-LineTwice
returns-in-LineTwice g c = put-line _ _ _ _ _ _ _ _ (rw (c.in-LineTwice.is) refl) c.put_two-in-LineTwice.ensures

pub returns-in-Needs : goal.returns-in-Needs
returns-in-Needs g c = put-line _ _ _ _ _ _ _ _ (rw (c.in-Needs.is) refl) c.put_two-in-Needs.ensures

pub returns-in-NoMemory : goal.returns-in-NoMemory
returns-in-NoMemory g c = put-line _ _ _ _ _ _ _ _ (rw (c.in-NoMemory.is) refl) c.put_all-in-NoMemory.ensures
