-- What a session keeps as it takes a packet, and which requests are held.
use Rattle.std.proofs.Common.{◌≡◌, ℕ, Bool, true, false, List, refl, sym, ap, ◌∙◌, subst, arith, Result, Ok, Err}
use Rattle.std.specs.Prelude.{not, ◌&&◌, nat_eq, Option, Some, None}
use Rattle.std.proofs.lemmas.Bool.Decides.{nat_tests}
use Rattle.cosim_model.specs.declared.session.Event.{Event}
use Rattle.cosim_model.specs.declared.session.Event.TheVariants.{Nothing, Answered}
use Rattle.cosim_model.specs.declared.session.OwnRequest.{OwnRequest}
use Rattle.cosim_model.specs.declared.session.Role.{Role}
use Rattle.cosim_model.specs.declared.session.Role.TheVariants.{Machine, Device}
use Rattle.cosim_model.specs.declared.session.SessionFault.{SessionFault}
use Rattle.cosim_model.specs.declared.session.Ticket.{Ticket}
use Rattle.cosim_model.specs.declared.values.Caps.{Caps}
use Rattle.cosim_model.specs.Packets.{Body, Packet, BusFields, code_of, is_response}
use Rattle.cosim_model.specs.Packets.Body.{Nop, Hello, Cfg, Read, Write, Interrupt, Sync}
use Rattle.cosim_model.specs.Sessions.{Session, or_else, fault_if, fault_of, flood, hello_missing, hello_again, wrong_version, hello_lacks, unsupported, stray_answer, wrong_answer, wrong_len, is_answer_of, not_in_common, time_backwards, early_posted, second_request, is_posted, is_posted_body, is_taken, asked_at, event_of, counted, judged, take_kept, take_packet, hello_sent, begin_wait, request_sent, unless_posted, awaiting}
use Rattle.ends_model.specs.MachineTurn.{PortEnd}
use Rattle.end_answers.specs.Packets.{IsRead}
use Rattle.machine_core.specs.Ports.{IsHeld, IsPort, IsServed, IsTakenOr, Keeps, Fits}

-- What a step of the own side leaves as it is.
pub record Stays (s r : Session) : Type 0 where
  pub role : r.role ≡ s.role
  pub came : r.hello_came ≡ s.hello_came
  pub common : r.common ≡ s.common
  pub other : r.peer_other ≡ s.peer_other

pub held-stays : (s r : Session) (m : Packet) → Stays s r → IsHeld s m → IsHeld r m
held-stays s r m stays held = record {
  came = stays.came ∙ held.came;
  asks = held.asks;
  kind = held.kind;
  read = held.read;
  awaits = λ answered. stays.other ∙ held.awaits (ap (λ (c : Caps). is_posted c m) (sym stays.common) ∙ answered);
}

pub port-stays : (q : PortEnd) (r : Session) (last : ℕ) → Stays q.session r → IsPort q
    → IsPort (record { session = r; held = q.held; last = last })
port-stays q r last stays is = record {
  role = stays.role ∙ is.role;
  held = λ m here. held-stays q.session r m stays (is.held m here);
}

same-stays : (s : Session) → Stays s s
same-stays s = record { role = refl; came = refl; common = refl; other = refl }

pub wait-stays : (s : Session) → Stays s (begin_wait s)
wait-stays s = record { role = refl; came = refl; common = refl; other = refl }

pub hello-stays : (s : Session) → Stays s (hello_sent s)
hello-stays s = record { role = refl; came = refl; common = refl; other = refl }

awaiting-stays : (s : Session) (b : Body) (len : ℕ) → Stays s (awaiting s b len)
awaiting-stays s (Sync time) len = record { role = refl; came = refl; common = refl; other = refl }
awaiting-stays s Nop len = record { role = refl; came = refl; common = refl; other = refl }
awaiting-stays s (Hello major minor caps) len = record { role = refl; came = refl; common = refl; other = refl }
awaiting-stays s (Cfg opt set) len = record { role = refl; came = refl; common = refl; other = refl }
awaiting-stays s (Read f) len = record { role = refl; came = refl; common = refl; other = refl }
awaiting-stays s (Write f) len = record { role = refl; came = refl; common = refl; other = refl }
awaiting-stays s (Interrupt time vector line val) len =
    record { role = refl; came = refl; common = refl; other = refl }

sent-stays : (s : Session) (posted : Bool) (b : Body) (len : ℕ) → Stays s (unless_posted posted s b len)
sent-stays s true b len = record { role = refl; came = refl; common = refl; other = refl }
sent-stays s false b len = awaiting-stays s b len

pub request-stays : (s : Session) (posted : Bool) (b : Body) (len : ℕ) → Stays s (request_sent s posted b len)
request-stays s posted b len = sent-stays s (is_posted_body s.common posted b) b len

pub stays-as : (s r t : Session) → r ≡ t → Stays s t → Stays s r
stays-as s r t is stays = subst (λ x. Stays s x) (sym is) stays

-- Rows that find nothing.

later : (a b : Option SessionFault) → or_else a b ≡ None → b ≡ None
later None b none = none
later (Some f) b none = absurd (cc)

sooner : (a b : Option SessionFault) → or_else a b ≡ None → a ≡ None
sooner None b none = refl
sooner (Some f) b none = absurd (cc)

record Rows (s : Session) (p : Packet) (response : Bool) (b : Body) : Type 0 where
  missing : hello_missing s.hello_came b ≡ None
  again : hello_again s.hello_came b ≡ None
  unsupported : unsupported s.role response b ≡ None
  stray : stray_answer response s p.id b ≡ None
  wrong : wrong_answer response s p.id b ≡ None
  second : second_request response (is_posted s.common p) s p.id b ≡ None

rows-of : (s : Session) (p : Packet) → fault_of s p ≡ None → Rows s p (is_response p) p.body
rows-of s p none =
    let from_missing = later (flood s) _ none in
    let from_again = later (hello_missing s.hello_came p.body) _ from_missing in
    let from_version = later (hello_again s.hello_came p.body) _ from_again in
    let from_lacks = later (wrong_version p.body) _ from_version in
    let from_unsupported = later (hello_lacks s.needs p.body) _ from_lacks in
    let from_stray = later (unsupported s.role (is_response p) p.body) _ from_unsupported in
    let from_wrong = later (stray_answer (is_response p) s p.id p.body) _ from_stray in
    let from_common = later (wrong_answer (is_response p) s p.id p.body) _ from_wrong in
    let from_time = later (not_in_common (is_response p) s.common p.body) _ from_common in
    let from_early = later (time_backwards (is_response p) s.peer_time p.body) _ from_time in
    record {
      missing = sooner (hello_missing s.hello_came p.body) _ from_missing;
      again = sooner (hello_again s.hello_came p.body) _ from_again;
      unsupported = sooner (unsupported s.role (is_response p) p.body) _ from_unsupported;
      stray = sooner (stray_answer (is_response p) s p.id p.body) _ from_stray;
      wrong = sooner (wrong_answer (is_response p) s p.id p.body) _ from_wrong;
      second = later (early_posted s.role (is_response p) (is_posted s.common p) s.own_sync p.id) _ from_early;
    }

unfaulted : (t : Bool) (f : SessionFault) → fault_if t f ≡ None → t ≡ false
unfaulted false f none = refl
unfaulted true f none = absurd (cc)

untaken : (t : Option Ticket) (id : ℕ) → is_taken t id ≡ None → t ≡ None
untaken None id none = refl
untaken (Some t) id none = absurd (cc)

-- What is known once a packet was taken.
record Takes (s r : Session) (p : Packet) (v : Result Event SessionFault) : Type 0 where
  role : r.role ≡ s.role
  keeps : Keeps s r
  held : (m : Packet) → IsHeld s m → IsHeld r m
  taken : IsTakenOr s r p v

same-keeps : (s : Session) (n : ℕ) → Keeps s (record s { count = n })
same-keeps s n = record { greeted = refl; other = λ o is. is }

counted-stays : (s : Session) (n : ℕ) → Stays s (record s { count = n })
counted-stays s n = record { role = refl; came = refl; common = refl; other = refl }

-- a request that the machine may serve
met : (s : Session) (b : Body) → hello_missing s.hello_came b ≡ None → IsServed b → s.hello_came ≡ true
met s b none kind = by s.hello_came b none kind
  where
    by : (came : Bool) (b : Body) → hello_missing came b ≡ None → IsServed b → came ≡ true
    by true b none kind = refl
    by false (Read f) none kind = absurd (cc)
    by false (Write f) none kind = absurd (cc)
    by false (Interrupt time vector line val) none kind = absurd (cc)
    by false Nop none kind = absurd kind
    by false (Hello major minor caps) none kind = absurd kind
    by false (Cfg opt set) none kind = absurd kind
    by false (Sync time) none kind = absurd kind

asked-takes : (s : Session) (n : ℕ) (p : Packet) (posted : Bool) (time : ℕ) → is_posted s.common p ≡ posted
    → s.hello_came ≡ true → is_response p ≡ false → IsServed p.body → IsRead p
    → (posted ≡ false → s.peer_other ≡ None)
    → Takes s (asked_at (record s { count = n }) p posted time).0 p (Ok (asked_at s p posted time).1)
asked-takes s n p true time posted came asks kind read free = record {
  role = refl;
  keeps = record { greeted = refl; other = λ o is. is };
  held = λ m held. held-stays s _ m (record { role = refl; came = refl; common = refl; other = refl }) held;
  taken = (refl, record { came = came; asks = asks; kind = kind; read = read; awaits = λ no. absurd (cc (posted, no)) });
}
asked-takes s n p false time posted came asks kind read free = record {
  role = refl;
  keeps = record { greeted = refl; other = λ o is. is };
  held = λ m held. record {
    came = held.came;
    asks = held.asks;
    kind = held.kind;
    read = held.read;
    awaits = λ no. absurd (cc (held.awaits no, free refl));
  };
  taken = (refl, record { came = came; asks = asks; kind = kind; read = read; awaits = λ no. refl });
}

len-at : (t : Bool) (f : BusFields) (o : OwnRequest) → nat_eq f.len o.len ≡ t → code_of f ≡ 0
    → (nat_eq (code_of f) 0 && not t) ≡ false → f.len ≡ o.len
len-at true f o is ok none = grind (arith, nat_tests)
len-at false f o is ok none = absurd (grind (arith, nat_tests))

fits-read : (own : Option OwnRequest) (id : ℕ) (f : BusFields) (fault : SessionFault)
    → fault_if (not (is_answer_of own id (Read f))) fault ≡ None → wrong_len own id f ≡ None → Fits own (Read f)
fits-read None id f fault stray wrong = absurd (cc)
fits-read (Some o) id f fault stray wrong =
    λ ok. (o, refl, len-at (nat_eq f.len o.len) f o refl ok (unfaulted _ _ wrong))

answered-takes : (s : Session) (n : ℕ) (p : Packet) → is_response p ≡ true → Fits s.own_other p.body
    → Takes s (record s { count = n; own_other = None }) p (Ok Answered)
answered-takes s n p answers fits = record {
  role = refl;
  keeps = record { greeted = refl; other = λ o is. absurd (cc (is)) };
  held = λ m held. held-stays s _ m (record { role = refl; came = refl; common = refl; other = refl }) held;
  taken = (refl, answers, refl, fits);
}

no-sync : (role : Role) (time : ℕ) → role ≡ Machine → unsupported role false (Sync time) ≡ None → ⊥
no-sync Machine time is none = absurd (cc)
no-sync Device time is none = absurd (cc)

not-again : (came : Bool) (major minor : ℕ) (caps : List ℕ) → hello_again came (Hello major minor caps) ≡ None → came ≡ true → ⊥
not-again true major minor caps none is = absurd (cc)
not-again false major minor caps none is = absurd (cc)

nothing-takes : (s : Session) (n : ℕ) (p : Packet) → Takes s (record s { count = n }) p (Ok Nothing)
nothing-takes s n p = record {
  role = refl;
  keeps = same-keeps s n;
  held = λ m held. held-stays s _ m (counted-stays s n) held;
  taken = refl;
}

event-takes : (s : Session) (n : ℕ) (p : Packet) (response : Bool) (b : Body) → s.role ≡ Machine → IsRead p
    → is_response p ≡ response → p.body ≡ b → Rows s p response b
    → Takes s (event_of (record s { count = n }) p response b).0 p (Ok (event_of s p response b).1)
event-takes s n p response Nop role read asks is rows = nothing-takes s n p
event-takes s n p response (Cfg opt set) role read asks is rows = nothing-takes s n p
event-takes s n p response (Hello major minor caps) role read asks is rows = record {
  role = refl;
  keeps = record { greeted = refl; other = λ o is. is };
  held = λ m held. absurd (not-again s.hello_came major minor caps rows.again held.came);
  taken = refl;
}
event-takes s n p true (Sync time) role read asks is rows = record {
  role = refl;
  keeps = record { greeted = refl; other = λ o is. is };
  held = λ m held. held-stays s _ m (record { role = refl; came = refl; common = refl; other = refl }) held;
  taken = refl;
}
event-takes s n p false (Sync time) role read asks is rows = absurd (no-sync s.role time role rows.unsupported)
event-takes s n p true (Read f) role read asks is rows =
    answered-takes s n p asks
    (subst (λ b. Fits s.own_other b) (sym is) (fits-read s.own_other p.id f _ rows.stray rows.wrong))
event-takes s n p true (Write f) role read asks is rows =
    answered-takes s n p asks (subst (λ b. Fits s.own_other b) (sym is) tt)
event-takes s n p true (Interrupt time vector line val) role read asks is rows =
    answered-takes s n p asks (subst (λ b. Fits s.own_other b) (sym is) tt)
event-takes s n p false (Read f) role read asks is rows =
    asked-takes s n p (is_posted s.common p) f.time refl (met s (Read f) rows.missing tt) asks
    (subst (λ b. IsServed b) (sym is) tt) read
    (λ no. untaken s.peer_other p.id (ap (λ x. second_request false x s p.id (Read f)) (sym no) ∙ rows.second))
event-takes s n p false (Write f) role read asks is rows =
    asked-takes s n p (is_posted s.common p) f.time refl (met s (Write f) rows.missing tt) asks
    (subst (λ b. IsServed b) (sym is) tt) read
    (λ no. untaken s.peer_other p.id (ap (λ x. second_request false x s p.id (Write f)) (sym no) ∙ rows.second))
event-takes s n p false (Interrupt time vector line val) role read asks is rows =
    asked-takes s n p (is_posted s.common p) time refl (met s (Interrupt time vector line val) rows.missing tt) asks
    (subst (λ b. IsServed b) (sym is) tt) read
    (λ no. untaken s.peer_other p.id
    (ap (λ x. second_request false x s p.id (Interrupt time vector line val)) (sym no) ∙ rows.second))

same-takes : (s r : Session) (p : Packet) (f : SessionFault) → Stays s r → Keeps s r → r.own_sync ≡ s.own_sync
    → Takes s r p (Err f)
same-takes s r p f stays keeps sync =
    record { role = stays.role; keeps = keeps; held = λ m held. held-stays s r m stays held; taken = sync }

judged-takes : (s : Session) (p : Packet) (r : Option SessionFault) → s.role ≡ Machine → IsRead p → fault_of s p ≡ r
    → Takes s (judged s p r).0 p (judged s p r).1
judged-takes s p (Some f) role read is =
    same-takes s _ p f (record { role = refl; came = refl; common = refl; other = refl })
    (record { greeted = refl; other = λ o is. is }) refl
judged-takes s p None role read is =
    event-takes s (counted s.role s.count) p (is_response p) p.body role read refl refl (rows-of s p is)

kept-takes : (s : Session) (p : Packet) (k : Option SessionFault) → s.role ≡ Machine → IsRead p
    → Takes s (take_kept s p k).0 p (take_kept s p k).1
kept-takes s p (Some f) role read =
    same-takes s s p f (same-stays s) (record { greeted = refl; other = λ o is. is }) refl
kept-takes s p None role read = judged-takes s p (fault_of s p) role read refl

takes : (s : Session) (p : Packet) → s.role ≡ Machine → IsRead p → Takes s (take_packet s p).0 p (take_packet s p).1
takes s p role read = kept-takes s p s.fault role read

pub take-port : (q : PortEnd) (p : Packet) (r : Session) → r ≡ (take_packet q.session p).0 → IsRead p → IsPort q
    → IsPort (record { session = r; held = q.held; last = q.last })
take-port q p r is read port =
    let t = takes q.session p port.role read in
    subst (λ x. IsPort (record { session = x; held = q.held; last = q.last })) (sym is)
    (record { role = t.role ∙ port.role; held = λ m here. t.held m (port.held m here) })

pub take-keeps : (s : Session) (p : Packet) (r : Session) → r ≡ (take_packet s p).0 → s.role ≡ Machine → IsRead p
    → Keeps s r
take-keeps s p r is role read = subst (λ x. Keeps s x) (sym is) (takes s p role read).keeps

pub taken : (s : Session) (p : Packet) (r : Session) (v : Result Event SessionFault) → r ≡ (take_packet s p).0
    → v ≡ (take_packet s p).1 → s.role ≡ Machine → IsRead p → IsTakenOr s r p v
taken s p r v is event role read =
    subst (λ x. IsTakenOr s x p v) (sym is)
    (subst (λ y. IsTakenOr s (take_packet s p).0 p y) (sym event) (takes s p role read).taken)
