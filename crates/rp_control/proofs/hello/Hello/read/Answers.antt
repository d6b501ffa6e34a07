use Rattle.std.proofs.Common.{◌≡◌, ◌∙◌, ◌/◌, ap, length, arith, List, ℕ}
use Rattle.rp_control.specs.Refusals.{numbers_in}
use Rattle.rp_control.specs.ControlLaws.{IsHello-there, IsHello-read}
use Rattle.rp_control.proofs.hello.Hello.read.Goals as goal

caps_are : (caps part wanted : List ℕ) → caps ≡ numbers_in (length part / 4) part → part ≡ wanted → caps ≡ numbers_in (length wanted / 4) wanted
caps_are caps part wanted is same = is ∙ ap (λ p. numbers_in (length p / 4) p) same

pub returns-in_ok-numbers_of-in-Ok-clause-ok : goal.returns-in_ok-numbers_of-in-Ok-clause-ok
returns-in_ok-numbers_of-in-Ok-clause-ok c =
    let caps = caps_are _ _ _ c.in_ok-numbers_of-in-Ok.ensures c.in-Ok.ensures.part in
    rw (c.u16_at.ensures, c.u16_at-in-Ok.ensures, caps)
    (IsHello-there c.args.body.now (record { each = λ i. omega (arith, c.type_inv.body i) }) c.in-Ok.ensures.lawful)

pub returns-in_ok-numbers_of-in-Ok-clause-exact : goal.returns-in_ok-numbers_of-in-Ok-clause-exact
returns-in_ok-numbers_of-in-Ok-clause-exact c = λ major minor caps is.
    let read = IsHello-read major minor caps c.args.body.now is in (
      c.u16_at.ensures ∙ read.major_is,
      c.u16_at-in-Ok.ensures ∙ read.minor_is,
      caps_are _ _ _ c.in_ok-numbers_of-in-Ok.ensures c.in-Ok.ensures.part ∙ read.caps_are,
    )

pub returns-in-Err-clause-exact : goal.returns-in-Err-clause-exact
returns-in-Err-clause-exact c = λ major minor caps is.
    let none = (IsHello-read major minor caps c.args.body.now is).lawful in
    let some = c.in-Err.ensures.refused in
    absurd (cc (none, some))
