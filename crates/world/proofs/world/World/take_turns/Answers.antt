use Rattle.std.proofs.Common.{◌≡◌, ◌+◌, Bool, true, false, map, refl, sym, ap, ◌∙◌, subst, arith, Ok, Err}
use Rattle.std.specs.Prelude.{not, if◌then◌else◌}
use Rattle.ends_model.specs.declared.ends.Phase.TheVariants.{Done}
use Rattle.rp_framing.specs.Framing.{counted}
use Rattle.world.specs.Stars.{IsQuiet}
use Rattle.world.specs.Worlds.{TakesNext, WorldValue, side_of}
use Rattle.world.proofs.Quiet.{stays-sound, takes-reached, turns-go, turns-quiet, turns-stop}
use Rattle.world.proofs.world.World.take_turns.Goals as goal

not-true : (b : Bool) → not b ≡ true → b ≡ false
not-true true is = absurd (cc (is))
not-true false is = refl

pub advance-answer-requires : goal.advance-answer-requires
advance-answer-requires g c =
    stays-sound g.M.Master.model g.D.Device.model g.met.D.Device.lawful g.met.M.Master.lawful _ c.self.invariant

pub invariant_of-self : goal.invariant_of-self
invariant_of-self g c =
    let k = g.M.Master.model in
    let d = g.D.Device.model in
    let going = subst (λ (w : WorldValue _ _). w.now.hub.core.phase ≡ Done → ⊥) (sym c.self.view_is) c.requires.going in
    let quiet = subst (λ (w : WorldValue _ _). IsQuiet k d w.now) (sym c.self.view_is) c.requires.quiet in
    let sum = c.saturating_add-self-inside.ensures in
    takes-reached k d (Err c.in-Err.field-0) c.args.rounds.now c.pass_turns.new.self _ _ c.self.invariant
    (turns-stop k d _ _ c.advance-answer.new.units c.args.rounds.now c.pass_turns.new.self c.self.invariant going quiet
    c.pass_turns.ensures refl c.in-Err.field-0 c.pass_turns.new.self c.in-Err.ensures (omega (arith, sum)))

pub returns-in-Err-clause-takes : goal.returns-in-Err-clause-takes
returns-in-Err-clause-takes g c =
    let k = g.M.Master.model in
    let d = g.D.Device.model in
    let going = subst (λ (w : WorldValue _ _). w.now.hub.core.phase ≡ Done → ⊥) (sym c.self.view_is) c.requires.going in
    let quiet = subst (λ (w : WorldValue _ _). IsQuiet k d w.now) (sym c.self.view_is) c.requires.quiet in
    let sum = c.saturating_add-self-inside.ensures in
    let new : WorldValue g.row.M.Denot g.row.D.Denot = record {
      start = record {
        plan = c.self.inside.first_machine.value.clear.plan;
        master = c.self.inside.first_machine.value.clear.master;
        ports = map side_of c.self.inside.first_devices.value.items;
      };
      now = c.advance-answer.new.self;
      effective = c.saturating_add-self-inside.result;
    } in
    subst (λ w. TakesNext k d c.args.rounds.now c.pass_turns.new.self w new (Err c.in-Err.field-0)) c.self.view_is
    (turns-stop k d _ new c.advance-answer.new.units c.args.rounds.now c.pass_turns.new.self c.self.invariant going quiet
    c.pass_turns.ensures refl c.in-Err.field-0 c.pass_turns.new.self c.in-Err.ensures (omega (arith, sum)))

pub invariant_of-self-2 : goal.invariant_of-self-2
invariant_of-self-2 g c =
    let k = g.M.Master.model in
    let d = g.D.Device.model in
    let going = subst (λ (w : WorldValue _ _). w.now.hub.core.phase ≡ Done → ⊥) (sym c.self.view_is) c.requires.going in
    let quiet = subst (λ (w : WorldValue _ _). IsQuiet k d w.now) (sym c.self.view_is) c.requires.quiet in
    let sum = c.saturating_add-self-inside.ensures in
    let between = c.saturating_add-self-inside.result in
    takes-reached k d (Ok true) c.args.rounds.now c.pass_to_machine.new.self _ _ c.self.invariant
    (turns-go k d _ _ c.advance-answer.new.units c.args.rounds.now c.pass_turns.new.self c.self.invariant going quiet
    c.pass_turns.ensures refl c.in-Ok.turn c.in-Ok.ensures true c.pass_to_machine.new.self between (omega (arith, sum))
    (c.count_if-self-inside.ensures ∙ ap (λ b. counted (between + (if b then 1 else 0))) c.is_move.ensures)
    c.pass_to_machine.ensures)

pub returns-clause-takes : goal.returns-clause-takes
returns-clause-takes g c =
    let k = g.M.Master.model in
    let d = g.D.Device.model in
    let going = subst (λ (w : WorldValue _ _). w.now.hub.core.phase ≡ Done → ⊥) (sym c.self.view_is) c.requires.going in
    let quiet = subst (λ (w : WorldValue _ _). IsQuiet k d w.now) (sym c.self.view_is) c.requires.quiet in
    let sum = c.saturating_add-self-inside.ensures in
    let between = c.saturating_add-self-inside.result in
    let new : WorldValue g.row.M.Denot g.row.D.Denot = record {
      start = record {
        plan = c.self.inside.first_machine.value.clear.plan;
        master = c.self.inside.first_machine.value.clear.master;
        ports = map side_of c.self.inside.first_devices.value.items;
      };
      now = c.advance-answer.new.self;
      effective = c.count_if-self-inside.result;
    } in
    subst (λ w. TakesNext k d c.args.rounds.now c.pass_to_machine.new.self w new (Ok true)) c.self.view_is
    (turns-go k d _ new c.advance-answer.new.units c.args.rounds.now c.pass_turns.new.self c.self.invariant going quiet
    c.pass_turns.ensures refl c.in-Ok.turn c.in-Ok.ensures true c.pass_to_machine.new.self between (omega (arith, sum))
    (c.count_if-self-inside.ensures ∙ ap (λ b. counted (between + (if b then 1 else 0))) c.is_move.ensures)
    c.pass_to_machine.ensures)

pub returns-clause-quiet : goal.returns-clause-quiet
returns-clause-quiet g c = λ silent.
    let k = g.M.Master.model in
    let d = g.D.Device.model in
    let going = subst (λ (w : WorldValue _ _). w.now.hub.core.phase ≡ Done → ⊥) (sym c.self.view_is) c.requires.going in
    let quiet = subst (λ (w : WorldValue _ _). IsQuiet k d w.now) (sym c.self.view_is) c.requires.quiet in
    let new : WorldValue g.row.M.Denot g.row.D.Denot = record {
      start = record {
        plan = c.self.inside.first_machine.value.clear.plan;
        master = c.self.inside.first_machine.value.clear.master;
        ports = map side_of c.self.inside.first_devices.value.items;
      };
      now = c.advance-answer.new.self;
      effective = c.count_if-self-inside.result;
    } in
    turns-quiet k d _ new c.advance-answer.new.units c.args.rounds.now c.pass_turns.new.self c.self.invariant going quiet
    c.pass_turns.ensures refl c.in-Ok.turn c.in-Ok.ensures
    (sym c.is_sending.ensures ∙ not-true c.is_sending.result silent)
