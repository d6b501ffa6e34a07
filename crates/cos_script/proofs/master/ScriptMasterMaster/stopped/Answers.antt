use Rattle.std.proofs.Common.{◌<◌, length, sym, ap, ◌∙◌, arith}
use Rattle.cos_script.specs.Masters.{stopped_of}
use Rattle.cos_script.proofs.Stops.{stopped-left}
use Rattle.cos_script.proofs.master.ScriptMasterMaster.stopped.Goals as goal

pub returns-then-self-len : goal.returns-then-self-len
returns-then-self-len c =
    let within : c.self.inside.begun < length c.self.inside.steps.items = omega (arith, c.self.inside.steps.ok.0) in
    sym (ap (λ m. stopped_of m.wait m.left m.issued) (sym c.self.view_is) ∙ stopped-left c.self.inside.steps.items c.self.inside.begun c.self.inside.wait c.self.inside.issued within)
