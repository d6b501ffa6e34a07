use Rattle.std.proofs.Common.{refl}
use Rattle.statuses.proofs.Taking.{put-line}
use Rattle.statuses.proofs.lines.put_end.Goals as goal

pub returns-in-Malformed : goal.returns-in-Malformed
returns-in-Malformed g c = put-line _ _ _ _ _ _ _ _ (rw (c.in-Malformed.is) refl) c.put_malformed.ensures

pub returns-in-Truncated : goal.returns-in-Truncated
returns-in-Truncated g c = put-line _ _ _ _ _ _ _ _ (rw (c.in-Truncated.is) refl) c.put_two.ensures

pub returns-in-Session : goal.returns-in-Session
returns-in-Session g c = put-line _ _ _ _ _ _ _ _ (rw (c.in-Session.is) refl) c.put_session.ensures

pub returns-in-Ended : goal.returns-in-Ended
returns-in-Ended g c = put-line _ _ _ _ _ _ _ _ (rw (c.in-Ended.is) refl) c.put_one.ensures

pub returns-in-TooMuch : goal.returns-in-TooMuch
returns-in-TooMuch g c = put-line _ _ _ _ _ _ _ _ (rw (c.in-TooMuch.is) refl) c.put_one-in-TooMuch.ensures

pub returns-in-Link : goal.returns-in-Link
returns-in-Link g c = put-line _ _ _ _ _ _ _ _ (rw (c.in-Link.is) refl) c.put_one-in-Link.ensures

pub returns-in-LateWant : goal.returns-in-LateWant
returns-in-LateWant g c = put-line _ _ _ _ _ _ _ _ (rw (c.in-LateWant.is) refl) c.put_two-in-LateWant.ensures

pub returns-in-Astray : goal.returns-in-Astray
returns-in-Astray g c = put-line _ _ _ _ _ _ _ _ (rw (c.in-Astray.is) refl) c.put_one-in-Astray.ensures

pub returns-in-NoMemory : goal.returns-in-NoMemory
returns-in-NoMemory g c = put-line _ _ _ _ _ _ _ _ (rw (c.in-NoMemory.is) refl) c.put_all.ensures
