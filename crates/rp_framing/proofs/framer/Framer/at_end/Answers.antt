use Rattle.std.proofs.Common.{length, ap, arith, length-drop}
use Rattle.rp_framing.specs.CutLaws.{ends-with}
use Rattle.rp_framing.proofs.framer.Framer.at_end.Goals as goal

pub returns-then-held-eq0-clause-any_cut : goal.returns-then-held-eq0-clause-any_cut
returns-then-held-eq0-clause-any_cut c = λ given b are.
    let held = ap (λ f. length f.held) c.self.view_is in
    ends-with given b c.args.self.now _ c.requires (omega (arith, held, length-drop c.self.inside.begin c.self.inside.bytes.bytes)) are

pub returns-clause-any_cut : goal.returns-clause-any_cut
returns-clause-any_cut c = λ given b are.
    let held = ap (λ f. length f.held) c.self.view_is in
    let drops = length-drop c.self.inside.begin c.self.inside.bytes.bytes in
    let taken = ap (λ f. f.taken) c.self.view_is in
    let size = c.len.ensures in
    ends-with given b c.args.self.now _ c.requires (taken, omega (arith, held, drops, size), omega (arith, c.if-held-eq0.false)) are
