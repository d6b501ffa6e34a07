use Rattle.std.proofs.Common.{refl, sym, ◌≡◌, ◌<◌, subst, arith, length, map, set, None}
use Rattle.std.proofs.lemmas.Option.{slice_get_read}
use Rattle.rp_framing.specs.Framing.{Frames}
use Rattle.machine_turns.specs.Ends.{End, fed_at, received}
use Rattle.machine_turns.proofs.Turning.{fed-end, none-of, on-ok}
use Rattle.machine_turns.proofs.machine.MachineEnd.hold.Goals as goal

pub returns-clause-ok : goal.returns-clause-ok
returns-clause-ok g c =
    let i = c.self.inside in
    let fs = i.framers.items in
    let p = c.args.port in
    let kept = none-of i.fault (cc (c.is_some.ensures, c.if-is_some.false)) in
    let within : p < length fs = omega (arith, i.framers.ok.0) in
    let at = slice_get_read fs (length fs) p c.index_mut.result.now refl within c.index_mut.ensures.value in
    let f_kept = subst (λ (f : Frames). f.kept ≡ None) (sym c.index_mut.ensures.value) (c.self.invariant.0 p c.index_mut.result.now within).0 in
    on-ok c.feed.result
    (λ feeds. subst (λ e. ◌≡◌ {A = End _} (record {
      clear = i.core.end;
      kept = i.fault;
      ports = map received (set fs p c.feed.new.self);
    }) (fed_at e.kept p c.args.bytes.now e)) c.self.view_is
    (fed-end i.core.end i.fault fs p c.index_mut.result.now c.feed.new.self c.args.bytes.now kept at f_kept feeds))
    c.feed.ensures.ok
