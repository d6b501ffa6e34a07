-- Parts of the rows join to all rows, and what an event is doesn't depend on the count of a wait.
use Rattle.std.proofs.Common.{◌≡◌, ℕ, Bool, true, false, refl, ap, ◌∙◌}
use Rattle.std.specs.declared.option.Option.{Option}
use Rattle.std.specs.declared.option.Option.TheVariants.{Some, None}
use Rattle.cosim_model.specs.declared.session.SessionFault.{SessionFault}
use Rattle.cosim_model.specs.Packets.{Body, Packet}
use Rattle.cosim_model.specs.Packets.Body.{Nop, Hello, Cfg, Read, Write, Interrupt, Sync}
use Rattle.cosim_model.specs.Sessions.{Session, or_else, flood, fault_of, is_posted, asked_at, event_of, hello_missing, hello_again, wrong_version, hello_lacks, unsupported, stray_answer, wrong_answer}
use Rattle.cosim_model.specs.Packets.{is_response}
use Rattle.rp_session.specs.Rows.{hello_rows, answer_rows, request_rows}

or_else-assoc : (a b c : Option SessionFault) → or_else (or_else a b) c ≡ or_else a (or_else b c)
or_else-assoc None b c = refl
or_else-assoc (Some f) b c = refl

three-rows : (a b c d : Option SessionFault) → or_else (or_else a (or_else b c)) d ≡ or_else a (or_else b (or_else c d))
three-rows a b c d = or_else-assoc a (or_else b c) d ∙ ap (or_else a) (or_else-assoc b c d)

four-rows : (a b c d e : Option SessionFault) → or_else (or_else a (or_else b (or_else c d))) e ≡ or_else a (or_else b (or_else c (or_else d e)))
four-rows a b c d e = or_else-assoc a (or_else b (or_else c d)) e ∙ ap (or_else a) (three-rows b c d e)

pub rows-joined : (s : Session) (p : Packet) → or_else (flood s) (or_else (hello_rows s p) (or_else (answer_rows s p) (request_rows s p))) ≡ fault_of s p
rows-joined s p =
    ap (or_else (flood s))
    (four-rows (hello_missing s.hello_came p.body) (hello_again s.hello_came p.body) (wrong_version p.body) (hello_lacks s.needs p.body) (or_else (answer_rows s p) (request_rows s p))
    ∙ ap (λ rest. or_else (hello_missing s.hello_came p.body) (or_else (hello_again s.hello_came p.body) (or_else (wrong_version p.body) (or_else (hello_lacks s.needs p.body) rest))))
    (three-rows (unsupported s.role (is_response p) p.body) (stray_answer (is_response p) s p.id p.body) (wrong_answer (is_response p) s p.id p.body) (request_rows s p)))

or_else-none : (a b : Option SessionFault) → or_else a b ≡ None → a ≡ None
or_else-none None b none = refl
or_else-none (Some f) b none = absurd (cc)

-- a packet that is no fault is no flood
pub no-flood : (s : Session) (p : Packet) → fault_of s p ≡ None → flood s ≡ None
no-flood s p none =
    or_else-none (flood s) (or_else (hello_rows s p) (or_else (answer_rows s p) (request_rows s p))) (rows-joined s p ∙ none)

asked-count : (s : Session) (n : ℕ) (p : Packet) (posted : Bool) (time : ℕ) → (asked_at (record s { count = n }) p posted time).1 ≡ (asked_at s p posted time).1
asked-count s n p true time = refl
asked-count s n p false time = refl

pub event-count : (s : Session) (n : ℕ) (p : Packet) (response : Bool) (b : Body) → (event_of (record s { count = n }) p response b).1 ≡ (event_of s p response b).1
event-count s n p response Nop = refl
event-count s n p response (Cfg opt set) = refl
event-count s n p response (Hello major minor caps) = refl
event-count s n p true (Sync time) = refl
event-count s n p false (Sync time) = refl
event-count s n p true (Read f) = refl
event-count s n p false (Read f) = asked-count s n p (is_posted s.common p) f.time
event-count s n p true (Write f) = refl
event-count s n p false (Write f) = asked-count s n p (is_posted s.common p) f.time
event-count s n p true (Interrupt time vector line val) = refl
event-count s n p false (Interrupt time vector line val) = asked-count s n p (is_posted s.common p) time
