use Rattle.std.proofs.Common.{◌∙◌, ap}
use Rattle.cos_schedules.proofs.Passing.{passes-whole}
use Rattle.cos_schedules.proofs.rounds.Rounds.pass_whole.Goals as goal

pub returns : goal.returns
returns c =
    let f = c.self.inside in
    let none = ap (λ s. s.number) c.self.view_is ∙ c.requires in
    passes-whole f.number f.ports f.draws.x f.first f.given c.args.self.now none (c.self.invariant.2 none) c.self.view_is
