use Rattle.std.proofs.Common.{ap, sym, ◌∙◌}
use Rattle.std.specs.Prelude.{is_some}
use Rattle.rp_packet.specs.Refusals.{first}
use Rattle.machine_turns.specs.Ends.{answer_of, held_at, moves}
use Rattle.machine_turns.proofs.Turning.{made, moves-awaiting, none-of}
use Rattle.machine_turns.proofs.machine.MachineEnd.ready.Goals as goal

pub returns-in-Some : goal.returns-in-Some
returns-in-Some g c =
    let i = c.self.inside in
    let k = g.M.Master.model in
    let p = c.in-Some.port in
    let e = made i.core.end i.fault i.framers.items in
    let kept = none-of i.fault (cc (c.is_some.ensures, c.if-is_some.false)) in
    let awaits = sym c.awaits.ensures.is ∙ c.in-Some.is in
    c.is_whole.ensures ∙ ap (λ e. is_some (first (held_at e p))) (sym c.self.view_is)
    ∙ sym (moves-awaiting k e p kept c.self.invariant.1 awaits) ∙ ap (λ e. moves (answer_of k e)) c.self.view_is
