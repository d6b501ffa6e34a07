use Rattle.std.specs.Prelude.{IfSome}
use Rattle.std.proofs.Common.{Ok, Err, refl, subst, sym}
use Rattle.std.proofs.lemmas.Result.{err_from_is_err_and}
use Rattle.cosim_serve.specs.Serves.{NetView}
use Rattle.outcomes.specs.Seen.{seen}
use Rattle.port_children.specs.Waited.{AllRun, IsWaited}
use Rattle.cosim_run.proofs.Running.{children-run, ends-soundly, few-numbers, with-children}
use Rattle.cosim_run.proofs.command.run_parts.Goals as goal

pub wait_for_all-waited-requires : goal.wait_for_all-waited-requires
wait_for_all-waited-requires g c =
    let view : NetView g.row.N-Link.Denot =
    record { told = g.N.Link.Link.told; count = g.N.Link.Link.count; is_sound = g.N.Network.sound c.args.net.now } in
    let net = seen g.N.Network.count g.N.Network.told c.args.net.now c.converse-driven.new.net in
    let first = seen g.S.Spawner.count g.S.Spawner.told c.args.children.now c.converse-driven.new.children in
    rw c.as_slice.ensures.value
    (few-numbers c.args.program.now c.args.config.now view c.args.parts net first c.converse-driven.new.numbers.items
    c.converse-driven.result c.requires.may_run c.converse-driven.ensures.ok c.converse-driven.ensures.err)

pub returns-in_err-driven-clause-err : goal.returns-in_err-driven-clause-err
returns-in_err-driven-clause-err g c =
    let view : NetView g.row.N-Link.Denot =
    record { told = g.N.Link.Link.told; count = g.N.Link.Link.count; is_sound = g.N.Network.sound c.args.net.now } in
    let net = seen g.N.Network.count g.N.Network.told c.args.net.now c.converse-driven.new.net in
    let first = seen g.S.Spawner.count g.S.Spawner.told c.args.children.now c.converse-driven.new.children in
    let second = seen g.S.Spawner.count g.S.Spawner.told c.converse-driven.new.children
    c.wait_for_all-waited.new.children in
    let numbers = c.converse-driven.new.numbers.items in
    let were = g.met.S.Spawner.are_children c.args.children.now in
    let are = g.met.S.Spawner.are_children c.converse-driven.new.children in
    let waits = subst (λ ns. IsWaited ns second c.wait_for_all-waited.result) c.as_slice.ensures.value
    c.wait_for_all-waited.ensures.waits in
    let err = c.in_err-driven.ensures.err in
    let p = err_from_is_err_and c.from_residual.result c.from_residual.ensures.1 in
    rw (p.1, p.2) (record {
      left = err.left;
      driven = Err c.in_err-driven.field-0.0;
      waited = c.wait_for_all-waited.result;
      peers = with-children c.args.program.now c.args.config.now view c.args.parts net first second numbers err.left
          (Err c.in_err-driven.field-0.0) c.wait_for_all-waited.result c.requires.may_run refl refl were are err.talks
          waits;
      stops = refl;
    })

pub returns-in-Ok-clause-ok : goal.returns-in-Ok-clause-ok
returns-in-Ok-clause-ok g c =
    let view : NetView g.row.N-Link.Denot =
    record { told = g.N.Link.Link.told; count = g.N.Link.Link.count; is_sound = g.N.Network.sound c.args.net.now } in
    let net = seen g.N.Network.count g.N.Network.told c.args.net.now c.converse-driven.new.net in
    let first = seen g.S.Spawner.count g.S.Spawner.told c.args.children.now c.converse-driven.new.children in
    let second = seen g.S.Spawner.count g.S.Spawner.told c.converse-driven.new.children
    c.wait_for_all-waited.new.children in
    let numbers = c.converse-driven.new.numbers.items in
    let were = g.met.S.Spawner.are_children c.args.children.now in
    let are = g.met.S.Spawner.are_children c.converse-driven.new.children in
    let waits = subst (λ ns. IsWaited ns second (Ok tt)) c.as_slice.ensures.value c.in-Ok.ensures.waits in
    let ok = c.in_ok-driven.ensures.ok in
    record {
      settings = ok.settings;
      peers = with-children c.args.program.now c.args.config.now view c.args.parts net first second numbers
          c.in_ok-driven.driven.end.clear (Ok tt) (Ok tt) c.requires.may_run refl refl were are ok.talks waits;
    }

pub returns-clause-err : goal.returns-clause-err
returns-clause-err g c =
    let view : NetView g.row.N-Link.Denot =
    record { told = g.N.Link.Link.told; count = g.N.Link.Link.count; is_sound = g.N.Network.sound c.args.net.now } in
    let net = seen g.N.Network.count g.N.Network.told c.args.net.now c.converse-driven.new.net in
    let first = seen g.S.Spawner.count g.S.Spawner.told c.args.children.now c.converse-driven.new.children in
    let second = seen g.S.Spawner.count g.S.Spawner.told c.converse-driven.new.children
    c.wait_for_all-waited.new.children in
    let numbers = c.converse-driven.new.numbers.items in
    let were = g.met.S.Spawner.are_children c.args.children.now in
    let are = g.met.S.Spawner.are_children c.converse-driven.new.children in
    let waits = subst (λ ns. IsWaited ns second (Err c.in-Err.fault)) c.as_slice.ensures.value c.in-Err.ensures.waits in
    rw c.unended.ensures (record {
      left = c.in_ok-driven.driven.end.clear;
      driven = Ok tt;
      waited = Err c.in-Err.fault;
      peers = with-children c.args.program.now c.args.config.now view c.args.parts net first second numbers
          c.in_ok-driven.driven.end.clear (Ok tt) (Err c.in-Err.fault) c.requires.may_run refl refl were are
          c.in_ok-driven.ensures.ok.talks waits;
      stops = refl;
    })

pub returns-clause-soundly : goal.returns-clause-soundly
returns-clause-soundly g c = λ of_net of_children.
    let view : NetView g.row.N-Link.Denot =
    record { told = g.N.Link.Link.told; count = g.N.Link.Link.count; is_sound = g.N.Network.sound c.args.net.now } in
    let net = seen g.N.Network.count g.N.Network.told c.args.net.now c.converse-driven.new.net in
    let first = seen g.S.Spawner.count g.S.Spawner.told c.args.children.now c.converse-driven.new.children in
    let are = g.met.S.Spawner.are_children c.converse-driven.new.children in
    let run = children-run c.args.program.now c.args.config.now view c.args.parts net first
    (g.S.Spawner.told c.converse-driven.new.children) c.converse-driven.new.numbers.items
    c.in_ok-driven.driven.end.clear (Ok tt) refl are (g.met.S.Spawner.sound_tells c.args.children.now of_children)
    c.in_ok-driven.ensures.ok.talks in
    let there = subst (λ ns. IfSome (g.S.Spawner.told c.converse-driven.new.children) (AllRun ns))
    (sym c.as_slice.ensures.value) run in
    rw c.unended.ensures
    (ends-soundly c.args.parts net c.in-Err.fault
    ((c.in-Err.ensures.is_sound (c.in_ok-driven.ensures.sound_children of_children)).1 there))
