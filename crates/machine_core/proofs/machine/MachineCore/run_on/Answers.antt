use Rattle.std.proofs.Common.{ap, ◌∙◌, refl, Ok}
use Rattle.std.proofs.lemmas.Result.{err_from_is_err_and}
use Rattle.machine_core.proofs.Few.{few-send}
use Rattle.machine_core.proofs.Locals.{issued-access, issued-advances, issued-free, issued-machine, quiet-advances}
use Rattle.machine_core.proofs.Locals.{quiet-machine, stopped-advances, stopped-machine}
use Rattle.machine_core.proofs.Working.{few-bytes}
use Rattle.machine_core.proofs.machine.MachineCore.run_on.Goals as goal

pub invariant_of-self-in-None : goal.invariant_of-self-in-None
invariant_of-self-in-None g c =
    let phase = ap (λ e. e.end.phase) c.self.view_is ∙ c.requires.phase in (
      c.self.invariant.0,
      quiet-machine g.M.Master.model g.met.M.Master.lawful _ phase refl c.self.invariant.1 _ _
          c.units_ahead-ahead.ensures _ _ c.take_units-issued.ensures
          (c.in_ok-bus.was ∙ ap (λ o. Ok o) c.in-None.is),
    )

pub invariant_of-self-in-Some : goal.invariant_of-self-in-Some
invariant_of-self-in-Some g c =
    let phase = ap (λ e. e.end.phase) c.self.view_is ∙ c.requires.phase in (
      c.self.invariant.0,
      issued-machine g.M.Master.model g.met.M.Master.lawful _ phase refl c.self.invariant.1 _ _
          c.units_ahead-ahead.ensures _ _ c.in-Some.bus c.take_units-issued.ensures
          (c.in_ok-bus.was ∙ ap (λ o. Ok o) c.in-Some.is),
    )

pub send-requires-clause-access : goal.send-requires-clause-access
send-requires-clause-access g c =
    let phase = ap (λ e. e.end.phase) c.self.view_is ∙ c.requires.phase in
    issued-access g.M.Master.model g.met.M.Master.lawful _ phase refl c.self.invariant.1 _ _
    c.units_ahead-ahead.ensures _ _ c.in-Some.bus c.take_units-issued.ensures
    (c.in_ok-bus.was ∙ ap (λ o. Ok o) c.in-Some.is)

pub send-requires-clause-free : goal.send-requires-clause-free
send-requires-clause-free g c =
    let phase = ap (λ e. e.end.phase) c.self.view_is ∙ c.requires.phase in
    issued-free g.M.Master.model g.met.M.Master.lawful _ phase refl c.self.invariant.1 _ _
    c.units_ahead-ahead.ensures _ _ c.in-Some.bus c.take_units-issued.ensures
    (c.in_ok-bus.was ∙ ap (λ o. Ok o) c.in-Some.is)

pub invariant_of-self : goal.invariant_of-self
invariant_of-self g c =
    let phase = ap (λ e. e.end.phase) c.self.view_is ∙ c.requires.phase in (
      c.self.invariant.0,
      stopped-machine g.M.Master.model g.met.M.Master.lawful _ phase refl c.self.invariant.1 _ _
          c.units_ahead-ahead.ensures _ _ _ c.take_units-issued.ensures c.in_err-bus.was,
    )

pub returns-in-None-clause-advances : goal.returns-in-None-clause-advances
returns-in-None-clause-advances g c =
    let phase = ap (λ e. e.end.phase) c.self.view_is ∙ c.requires.phase in
    quiet-advances g.M.Master.model g.met.M.Master.lawful _ phase refl c.self.invariant.1 _ _
    c.units_ahead-ahead.ensures _ _ c.take_units-issued.ensures
    (c.in_ok-bus.was ∙ ap (λ o. Ok o) c.in-None.is) _ _ _ _ _ _ c.self.view_is
    c.act.ensures.acts

pub returns-in-Some-clause-advances : goal.returns-in-Some-clause-advances
returns-in-Some-clause-advances g c =
    let phase = ap (λ e. e.end.phase) c.self.view_is ∙ c.requires.phase in
    issued-advances g.M.Master.model g.met.M.Master.lawful _ phase refl c.self.invariant.1 _ _
    c.units_ahead-ahead.ensures _ _ c.in-Some.bus c.take_units-issued.ensures
    (c.in_ok-bus.was ∙ ap (λ o. Ok o) c.in-Some.is) _ _ _ _ _ _
    c.self.view_is c.send.ensures

pub returns-in-Some-clause-few : goal.returns-in-Some-clause-few
returns-in-Some-clause-few g c =
    let phase = ap (λ e. e.end.phase) c.self.view_is ∙ c.requires.phase in
    let access = issued-access g.M.Master.model g.met.M.Master.lawful _ phase refl c.self.invariant.1 _ _
    c.units_ahead-ahead.ensures _ _ c.in-Some.bus c.take_units-issued.ensures
    (c.in_ok-bus.was ∙ ap (λ o. Ok o) c.in-Some.is) in
    few-send g.M.Master.model _ c.send.new.self _ _ _ c.in-Some.bus.port c.in-Some.bus.access
    c.in-Some.bus.access.posted c.send.result (few-bytes c.in-Some.bus.access.size access.size) c.send.ensures

pub returns-in_err-bus-clause-advances : goal.returns-in_err-bus-clause-advances
returns-in_err-bus-clause-advances g c =
    let phase = ap (λ e. e.end.phase) c.self.view_is ∙ c.requires.phase in
    let p = err_from_is_err_and c.from_residual.result c.from_residual.ensures.1 in
    rw p.1
    (stopped-advances g.M.Master.model g.met.M.Master.lawful _ phase refl c.self.invariant.1 _ _
    c.units_ahead-ahead.ensures _ _ _ c.take_units-issued.ensures c.in_err-bus.was _ _ _ c.self.view_is)
