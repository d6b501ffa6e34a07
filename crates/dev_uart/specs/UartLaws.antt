-- The UART keeps the laws of devices.
use Rattle.std.specs.Prelude.{◌≡◌, ℕ, ◌<◌, ◌≤◌, Bool, true, false, None, refl}
use Rattle.std.proofs.Common.{arith, ap, sym, subst, ◌∙◌}
use Rattle.cosim_model.specs.declared.values.Access.{Access}
use Rattle.cosim_model.specs.Parts.{IsDevice}
use Rattle.cosim_model.specs.Values.{no_caps}
use Rattle.dev_line.specs.declared.request.Request.{Request}
use Rattle.dev_line.specs.declared.request.Request.TheVariants.{Read, Write, Refused}
use Rattle.dev_line.specs.Wires.{ruled, answered, is_high, levels_left}
use Rattle.dev_line.specs.WireLaws.{Follows, Follows-both, Follows-passed, Follows-ruled, KeepsWant-levels, KeepsWant-same, passed-seen, ruled-seen, answered-left, answered-seen, answered-due, levels_left-most, levels_left-zero, quiet-levels_left, wanted_before-quiet, wanted_before-none, wanted_before-level, wanted_before-is}
use Rattle.dev_uart.specs.declared.register.Register.{Register}
use Rattle.dev_uart.specs.declared.register.Register.TheVariants.{Data, Status, Control}
use Rattle.dev_uart.specs.Uarts.{UartRegisters, rises, level, has_byte, advanced, taken_if, register_read, register_written, acted, requested, uart_model}

taken-wire : (s : UartRegisters) (ready : Bool) → (taken_if s ready).0.wire ≡ s.wire
taken-wire s true = refl
taken-wire s false = refl

read-wire : (s : UartRegisters) (register : Register) → (register_read s register).0.wire ≡ s.wire
read-wire s Data = taken-wire s (has_byte s)
read-wire s Status = refl
read-wire s Control = refl

written-wire : (s : UartRegisters) (register : Register) (value : ℕ) → (register_written s register value).0.wire ≡ s.wire
written-wire s Data value = refl
written-wire s Status value = refl
written-wire s Control value = refl

-- An access of a register leaves the line to the line rule.
acted-wire : (s : UartRegisters) (request : Request Register) → (acted s request).0.wire ≡ s.wire
acted-wire s (Read register) = read-wire s register
acted-wire s (Write register value) = written-wire s register value
acted-wire s (Refused code) = refl

access-follows : (s : UartRegisters) (tick : ℕ) (a : Access) → s.wire.seen ≤ tick → Follows s.wire (uart_model.access s tick a).0.wire
access-follows s tick a later =
    let after = (acted (advanced s tick) (requested a)).0 in
    Follows-both _ _ _ (Follows-passed s.wire (rises s) tick later)
    (subst (λ w. Follows w (ruled after.wire false (level after) false)) (acted-wire (advanced s tick) (requested a)) (Follows-ruled after.wire false (level after) false))

access-seen : (s : UartRegisters) (tick : ℕ) (a : Access) → (uart_model.access s tick a).0.wire.seen ≡ tick
access-seen s tick a =
    let after = (acted (advanced s tick) (requested a)).0 in
    ruled-seen after.wire false (level after) false ∙ ap (λ w. w.seen) (acted-wire (advanced s tick) (requested a)) ∙ passed-seen s.wire (rises s) tick

feed-left : (s : UartRegisters) → s.wire.pending ≡ true → levels_left (answered s.wire (level s) false) (is_high (rises s) (answered s.wire (level s) false).seen) < levels_left s.wire (level s)
feed-left s p =
    subst (λ seen. levels_left (answered s.wire (level s) false) (is_high (rises s) seen) < levels_left s.wire (level s)) (sym (answered-seen s.wire (level s) false)) (answered-left s.wire (level s) false p)

pub uart_lawful : IsDevice uart_model
uart_lawful = record {
  access_keeps = λ s tick a x later e. KeepsWant-same s.wire _ None None x (KeepsWant-levels s.wire _ None (access-follows s tick a later)) e;
  advance_keeps = λ s tick x later e. KeepsWant-same s.wire _ None None x (KeepsWant-levels s.wire _ None (Follows-passed s.wire (rises s) tick later)) e;
  feed_left = λ s r x e. feed-left s (wanted_before-level s.wire x e);
  left_none = λ s e. wanted_before-quiet s.wire None (levels_left-zero s.wire (level s) e);
  none_left = λ s e. quiet-levels_left s.wire (level s) (wanted_before-none s.wire None e).0;
  left_most = λ s. (let few = levels_left-most s.wire (level s) in omega arith);
  access_seen = λ s tick a later. access-seen s tick a;
  advance_seen = λ s tick later. passed-seen s.wire (rises s) tick;
  feed_seen = λ s r. answered-seen s.wire (level s) false;
  due_seen = λ s. omega arith;
  access_due = λ s tick a later. (access-follows s tick a later).due;
  advance_due = λ s tick later. (Follows-passed s.wire (rises s) tick later).due;
  feed_due = λ s r. answered-due s.wire (level s) false;
  access_needs = λ s tick a. refl;
  advance_needs = λ s tick. refl;
  feed_needs = λ s r. refl;
  want_is = λ s x e. wanted_before-is s.wire no_caps None x (λ y f. absurd (cc)) e;
}
