use Rattle.rp_framing.specs.FrontLaws.{early-ready, whole-ready}
use Rattle.rp_framing.proofs.front.is_whole.Goals as goal

pub returns-in-Ok : goal.returns-in-Ok
returns-in-Ok c = whole-ready c.args.held.now c.in-Ok.size c.if-held-lt20.false c.in-Ok.ensures.lawful c.in-Ok.ensures.len

pub returns-in-Err : goal.returns-in-Err
returns-in-Err c = early-ready c.args.held.now c.in-Err.field-0 c.if-held-lt20.false c.in-Err.ensures.refused
