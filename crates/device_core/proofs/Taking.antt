-- What a session holds once it took a packet, and what it keeps.
use Rattle.std.proofs.Common.{◌≡◌, ℕ, ◌≤◌, Bool, true, false, refl, sym, ap, subst, arith, Result, Ok, Err}
use Rattle.std.specs.Prelude.{nat_lt, IfOk, Option, Some, None}
use Rattle.std.proofs.lemmas.Bool.Decides.{nat_tests}
use Rattle.cosim_model.specs.declared.session.Event.{Event}
use Rattle.cosim_model.specs.declared.session.SessionFault.{SessionFault}
use Rattle.cosim_model.specs.declared.session.Ticket.{Ticket}
use Rattle.cosim_model.specs.Packets.{Body, Packet, is_response, command_of}
use Rattle.cosim_model.specs.Packets.Body.{Nop, Hello, Cfg, Read, Write, Interrupt, Sync}
use Rattle.cosim_model.specs.Values.{bit}
use Rattle.cosim_model.specs.Sessions.{Session, or_else, fault_if, fault_of, flood, hello_missing, hello_again, wrong_version, hello_lacks, unsupported, stray_answer, wrong_answer, not_in_common, time_backwards, early_posted, second_request, is_posted, is_posted_body, is_taken, asked_at, event_of, ticket_of, counted, judged, take_kept, take_packet}
use Rattle.rp_session.specs.Tags.{peer_of_kind}
use Rattle.device_core.specs.Cores.{IsTaken, time_of}

-- What a session keeps as it takes a packet.
pub record Keeps (s r : Session) : Type 0 where
  pub time : s.peer_time ≤ r.peer_time
  pub own : s.own_other ≡ None → r.own_other ≡ None
  pub sync : (t : Ticket) → s.peer_sync ≡ Some t → r.peer_sync ≡ Some t
  pub greeted : r.hello_went ≡ s.hello_went

-- Rows that find nothing.

later : (a b : Option SessionFault) → or_else a b ≡ None → b ≡ None
later None b none = none
later (Some f) b none = absurd (cc)

sooner : (a b : Option SessionFault) → or_else a b ≡ None → a ≡ None
sooner None b none = refl
sooner (Some f) b none = absurd (cc)

last-rows : (s : Session) (p : Packet) → fault_of s p ≡ None
    → or_else (time_backwards (is_response p) s.peer_time p.body)
    (or_else (early_posted s.role (is_response p) (is_posted s.common p) s.own_sync p.id)
    (second_request (is_response p) (is_posted s.common p) s p.id p.body)) ≡ None
last-rows s p none =
    later (not_in_common (is_response p) s.common p.body) _ (
    later (wrong_answer (is_response p) s p.id p.body) _ (
    later (stray_answer (is_response p) s p.id p.body) _ (
    later (unsupported s.role (is_response p) p.body) _ (
    later (hello_lacks s.needs p.body) _ (
    later (wrong_version p.body) _ (
    later (hello_again s.hello_came p.body) _ (
    later (hello_missing s.hello_came p.body) _ (
    later (flood s) _ none))))))))

in-time : (s : Session) (p : Packet) → fault_of s p ≡ None → time_backwards (is_response p) s.peer_time p.body ≡ None
in-time s p none = sooner (time_backwards (is_response p) s.peer_time p.body) _ (last-rows s p none)

no-second : (s : Session) (p : Packet) → fault_of s p ≡ None
    → second_request (is_response p) (is_posted s.common p) s p.id p.body ≡ None
no-second s p none =
    later (early_posted s.role (is_response p) (is_posted s.common p) s.own_sync p.id) _
    (later (time_backwards (is_response p) s.peer_time p.body) _ (last-rows s p none))

unfaulted : (t : Bool) (f : SessionFault) → fault_if t f ≡ None → t ≡ false
unfaulted false f none = refl
unfaulted true f none = absurd (cc)

not-less : (m n : ℕ) → nat_lt m n ≡ false → n ≤ m
not-less m n test = grind (arith, nat_tests)

untaken : (t : Option Ticket) (id : ℕ) → is_taken t id ≡ None → t ≡ None
untaken None id none = refl
untaken (Some t) id none = absurd (cc)

neither : (o : Option Ticket) (t : Ticket) → o ≡ None → o ≡ Some t → ⊥
neither None t none some = absurd (cc)
neither (Some o) t none some = absurd (cc)

-- What an event keeps.

same : (s : Session) (n : ℕ) → Keeps s (record s { count = n })
same s n = record { time = omega arith; own = λ e. e; sync = λ t e. e; greeted = refl }

other-keeps : (s : Session) (n : ℕ) (p : Packet) (posted : Bool) (time : ℕ) → s.peer_time ≤ time
    → Keeps s (asked_at (record s { count = n }) p posted time).0
other-keeps s n p true time late = record { time = late; own = λ e. e; sync = λ t e. e; greeted = refl }
other-keeps s n p false time late = record { time = late; own = λ e. e; sync = λ t e. e; greeted = refl }

answered-keeps : (s : Session) (n : ℕ) → Keeps s (record s { count = n; own_other = None })
answered-keeps s n = record { time = omega arith; own = λ e. refl; sync = λ t e. e; greeted = refl }

event-keeps : (s : Session) (n : ℕ) (p : Packet) (response : Bool) (b : Body) → time_backwards response s.peer_time b ≡ None
    → second_request response (is_posted_body s.common (bit p.flags 2) b) s p.id b ≡ None
    → Keeps s (event_of (record s { count = n }) p response b).0
event-keeps s n p response Nop late second = same s n
event-keeps s n p response (Cfg opt set) late second = same s n
event-keeps s n p response (Hello major minor caps) late second =
    record { time = omega arith; own = λ e. e; sync = λ t e. e; greeted = refl }
event-keeps s n p true (Sync time) late second =
    record { time = omega arith; own = λ e. e; sync = λ t e. e; greeted = refl }
event-keeps s n p false (Sync time) late second = record {
  time = not-less time s.peer_time (unfaulted _ _ late);
  own = λ e. e;
  sync = λ t e. absurd (neither s.peer_sync t (untaken s.peer_sync p.id second) e);
  greeted = refl;
}
event-keeps s n p true (Read f) late second = answered-keeps s n
event-keeps s n p true (Write f) late second = answered-keeps s n
event-keeps s n p true (Interrupt time vector line val) late second = answered-keeps s n
event-keeps s n p false (Read f) late second =
    other-keeps s n p (is_posted s.common p) f.time (not-less f.time s.peer_time (unfaulted _ _ late))
event-keeps s n p false (Write f) late second =
    other-keeps s n p (is_posted s.common p) f.time (not-less f.time s.peer_time (unfaulted _ _ late))
event-keeps s n p false (Interrupt time vector line val) late second =
    other-keeps s n p (is_posted s.common p) time (not-less time s.peer_time (unfaulted _ _ late))

judged-keeps : (s : Session) (p : Packet) (r : Option SessionFault) → fault_of s p ≡ r → Keeps s (judged s p r).0
judged-keeps s p (Some f) is = record { time = omega arith; own = λ e. e; sync = λ t e. e; greeted = refl }
judged-keeps s p None is =
    event-keeps s (counted s.role s.count) p (is_response p) p.body (in-time s p is) (no-second s p is)

kept-keeps : (s : Session) (p : Packet) (k : Option SessionFault) → Keeps s (take_kept s p k).0
kept-keeps s p (Some f) = record { time = omega arith; own = λ e. e; sync = λ t e. e; greeted = refl }
kept-keeps s p None = judged-keeps s p (fault_of s p) refl

pub take-keeps : (s : Session) (p : Packet) → Keeps s (take_packet s p).0
take-keeps s p = kept-keeps s p s.fault

-- What is known of a packet by what it is to the session.

other-taken : (s : Session) (n : ℕ) (p : Packet) (posted : Bool) (time : ℕ) → is_response p ≡ false → time ≡ time_of p.body
    → peer_of_kind (record s { count = n; peer_time = time; peer_other = Some (ticket_of p) }) (command_of p.body)
    ≡ Some (ticket_of p)
    → IsTaken (asked_at (record s { count = n }) p posted time).0 p (asked_at s p posted time).1
other-taken s n p true time asks at peer = (asks, at)
other-taken s n p false time asks at peer = (asks, at, refl, peer)

event-taken : (s : Session) (n : ℕ) (p : Packet) (response : Bool) (b : Body) → is_response p ≡ response → p.body ≡ b
    → IsTaken (event_of (record s { count = n }) p response b).0 p (event_of s p response b).1
event-taken s n p response Nop asks is = tt
event-taken s n p response (Cfg opt set) asks is = tt
event-taken s n p response (Hello major minor caps) asks is = tt
event-taken s n p true (Sync time) asks is = tt
event-taken s n p false (Sync time) asks is = (
  asks,
  ap time_of (sym is),
  refl,
  ap (λ b. peer_of_kind (record s { count = n; peer_time = time; peer_sync = Some (ticket_of p) }) (command_of b)) is,
)
event-taken s n p true (Read f) asks is = refl
event-taken s n p true (Write f) asks is = refl
event-taken s n p true (Interrupt time vector line val) asks is = refl
event-taken s n p false (Read f) asks is =
    other-taken s n p (is_posted s.common p) f.time asks (ap time_of (sym is))
    (ap (λ b. peer_of_kind (record s { count = n; peer_time = f.time; peer_other = Some (ticket_of p) }) (command_of b)) is)
event-taken s n p false (Write f) asks is =
    other-taken s n p (is_posted s.common p) f.time asks (ap time_of (sym is))
    (ap (λ b. peer_of_kind (record s { count = n; peer_time = f.time; peer_other = Some (ticket_of p) }) (command_of b)) is)
event-taken s n p false (Interrupt time vector line val) asks is =
    other-taken s n p (is_posted s.common p) time asks (ap time_of (sym is))
    (ap (λ b. peer_of_kind (record s { count = n; peer_time = time; peer_other = Some (ticket_of p) }) (command_of b)) is)

abbrev IsTakenIf : Session → Packet → Result Event SessionFault → Type 0
IsTakenIf s p (Ok v) = IsTaken s p v
IsTakenIf s p (Err f) = Unit {0}

judged-taken : (s : Session) (p : Packet) (r : Option SessionFault) → IsTakenIf (judged s p r).0 p (judged s p r).1
judged-taken s p (Some f) = tt
judged-taken s p None = event-taken s (counted s.role s.count) p (is_response p) p.body refl refl

kept-taken : (s : Session) (p : Packet) (k : Option SessionFault) → IsTakenIf (take_kept s p k).0 p (take_kept s p k).1
kept-taken s p (Some f) = tt
kept-taken s p None = judged-taken s p (fault_of s p)

pub taken : (s : Session) (p : Packet) (v : Event) → (take_packet s p).1 ≡ Ok v → IsTaken (take_packet s p).0 p v
taken s p v is = subst (λ r. IsTakenIf (take_packet s p).0 p r) is (kept-taken s p s.fault)

pub taken-if : (s : Session) (p : Packet) (r : Session) (v : Result Event SessionFault) → r ≡ (take_packet s p).0
    → v ≡ (take_packet s p).1 → IfOk v (IsTaken r p)
taken-if s p r (Ok v) now event = subst (λ t. IsTaken t p v) (sym now) (taken s p v (sym event))
taken-if s p r (Err f) now event = tt
