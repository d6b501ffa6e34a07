use Rattle.std.proofs.Common.{refl}
use Rattle.statuses.proofs.Taking.{put-line}
use Rattle.statuses.proofs.lines.put_session.Goals as goal

pub returns-in-Flood : goal.returns-in-Flood
returns-in-Flood g c = put-line _ _ _ _ _ _ _ _ (rw (c.in-Flood.is) refl) c.put_one.ensures

pub returns-in-HelloMissing : goal.returns-in-HelloMissing
returns-in-HelloMissing g c = put-line _ _ _ _ _ _ _ _ (rw (c.in-HelloMissing.is) refl) c.put_one-in-HelloMissing.ensures

pub returns-in-HelloAgain : goal.returns-in-HelloAgain
returns-in-HelloAgain g c = put-line _ _ _ _ _ _ _ _ (rw (c.in-HelloAgain.is) refl) c.put_all.ensures

pub returns-in-Version : goal.returns-in-Version
returns-in-Version g c = put-line _ _ _ _ _ _ _ _ (rw (c.in-Version.is) refl) c.put_one-in-Version.ensures

pub returns-in-CapMissing : goal.returns-in-CapMissing
returns-in-CapMissing g c = put-line _ _ _ _ _ _ _ _ (rw (c.in-CapMissing.is) refl) c.put_one-in-CapMissing.ensures

pub returns-in-Unsupported : goal.returns-in-Unsupported
returns-in-Unsupported g c = put-line _ _ _ _ _ _ _ _ (rw (c.in-Unsupported.is) refl) c.put_one-in-Unsupported.ensures

pub returns-in-StrayAnswer : goal.returns-in-StrayAnswer
returns-in-StrayAnswer g c = put-line _ _ _ _ _ _ _ _ (rw (c.in-StrayAnswer.is) refl) c.put_two.ensures

pub returns-in-WrongAnswer : goal.returns-in-WrongAnswer
returns-in-WrongAnswer g c = put-line _ _ _ _ _ _ _ _ (rw (c.in-WrongAnswer.is) refl) c.put_three.ensures

pub returns-in-TimeBackwards : goal.returns-in-TimeBackwards
returns-in-TimeBackwards g c = put-line _ _ _ _ _ _ _ _ (rw (c.in-TimeBackwards.is) refl) c.put_two-in-TimeBackwards.ensures

pub returns-in-EarlyPosted : goal.returns-in-EarlyPosted
returns-in-EarlyPosted g c = put-line _ _ _ _ _ _ _ _ (rw (c.in-EarlyPosted.is) refl) c.put_one-in-EarlyPosted.ensures

pub returns-in-SecondRequest : goal.returns-in-SecondRequest
returns-in-SecondRequest g c = put-line _ _ _ _ _ _ _ _ (rw (c.in-SecondRequest.is) refl) c.put_one-in-SecondRequest.ensures
