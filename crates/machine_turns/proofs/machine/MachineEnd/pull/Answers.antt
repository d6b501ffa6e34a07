use Rattle.std.proofs.Common.{refl, sym, ap, ◌≡◌, ◌<◌, ◌∙◌, arith, length, set, subst, None}
use Rattle.std.proofs.lemmas.List.{length-map}
use Rattle.std.proofs.lemmas.Option.{slice_get_read}
use Rattle.rp_framing.specs.Framing.{Frames}
use Rattle.machine_turns.specs.Ends.{Pulls, received}
use Rattle.machine_turns.specs.EndLaws.{waits-clear}
use Rattle.machine_turns.proofs.Pulling.{pulls-end, waits-unready}
use Rattle.machine_turns.proofs.Turning.{made}
use Rattle.machine_turns.proofs.machine.MachineEnd.pull.Goals as goal

pub pull-requires : goal.pull-requires
pull-requires g c =
    let i = c.self.inside in
    let fs = i.framers.items in
    let p = c.args.port in
    let f = c.index_mut.result.now in
    let size = ap (λ e. length e.ports) c.self.view_is in
    let same = length-map fs received in
    let there = c.requires.there in
    let within : p < length fs = omega (arith, size, same, there) in
    let at = slice_get_read fs (length fs) p f refl within c.index_mut.ensures.value in
    let open_is = subst (λ (f : Frames). f.kept ≡ None) (sym c.index_mut.ensures.value)
    (c.self.invariant.0 p f within).0 in
    waits-unready g.M.Master.model i.core.end i.fault fs c.args.self.now p f c.self.view_is at open_is c.requires.waits

pub returns-clause-pulls : goal.returns-clause-pulls
returns-clause-pulls g c =
    let i = c.self.inside in
    let fs = i.framers.items in
    let p = c.args.port in
    let f = c.index_mut.result.now in
    let size = ap (λ e. length e.ports) c.self.view_is in
    let same = length-map fs received in
    let there = c.requires.there in
    let within : p < length fs = omega (arith, size, same, there) in
    let at = slice_get_read fs (length fs) p f refl within c.index_mut.ensures.value in
    let open_is = subst (λ (f : Frames). f.kept ≡ None) (sym c.index_mut.ensures.value)
    (c.self.invariant.0 p f within).0 in
    let kept = ap (λ e. e.kept) c.self.view_is ∙ waits-clear g.M.Master.model p c.args.self.now c.requires.waits in
    subst (λ e. Pulls (g.L.Link.told c.args.link.now) (g.L.Link.told c.pull.new.link) p e
    (made i.core.end i.fault (set fs p c.pull.new.framer)) c.pull.result) c.self.view_is
    (pulls-end i.core.end i.fault fs p f c.pull.new.framer kept at open_is (g.L.Link.told c.args.link.now)
    (g.L.Link.told c.pull.new.link) c.pull.result c.pull.ensures.pulls)
