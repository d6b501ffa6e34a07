use Rattle.std.proofs.Common.{refl}
use Rattle.statuses.proofs.Taking.{put-line}
use Rattle.statuses.proofs.lines.put_cause.Goals as goal

pub returns-in-Command : goal.returns-in-Command
returns-in-Command g c = put-line _ _ _ _ _ _ _ _ (rw (c.in-Command.is) refl) c.put_one.ensures

pub returns-in-Translation : goal.returns-in-Translation
returns-in-Translation g c = put-line _ _ _ _ _ _ _ _ (rw (c.in-Translation.is) refl) c.put_one-in-Translation.ensures

pub returns-in-TooLong : goal.returns-in-TooLong
returns-in-TooLong g c = put-line _ _ _ _ _ _ _ _ (rw (c.in-TooLong.is) refl) c.put_one-in-TooLong.ensures

pub returns-in-Length : goal.returns-in-Length
returns-in-Length g c = put-line _ _ _ _ _ _ _ _ (rw (c.in-Length.is) refl) c.put_two.ensures

pub returns-in-CapsRange : goal.returns-in-CapsRange
returns-in-CapsRange g c = put-line _ _ _ _ _ _ _ _ (rw (c.in-CapsRange.is) refl) c.put_two-in-CapsRange.ensures

pub returns-in-DataRange : goal.returns-in-DataRange
returns-in-DataRange g c = put-line _ _ _ _ _ _ _ _ (rw (c.in-DataRange.is) refl) c.put_two-in-DataRange.ensures

pub returns-in-EnableRange : goal.returns-in-EnableRange
returns-in-EnableRange g c = put-line _ _ _ _ _ _ _ _ (rw (c.in-EnableRange.is) refl) c.put_two-in-EnableRange.ensures
