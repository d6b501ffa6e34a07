-- A machine end takes a bounded number of turns over any received bytes, so its talk over links that only tell has a last round.
use Rattle.std.proofs.Common.{◌≡◌, ℕ, zero, suc, ◌+◌, ◌-◌, ◌*◌, ◌<◌, ◌≤◌, Bool, true, false, not, ◌&&◌, ◌||◌, List, [], ◌∷◌, length, set, map, replicate, Option, Some, None, slice_get, Result, Ok, Err, refl, sym, ap, ◌∙◌, subst, arith}
use Rattle.std.specs.Prelude.{nat_eq, nat_lt, nat_le, if◌then◌else◌}
use Rattle.std.proofs.lemmas.Bool.Decides.{nat_tests}
use Rattle.std.proofs.lemmas.Option.{none-some, same_Some, slice_get_within}
use Rattle.std.proofs.lemmas.List.{length-set, length-map, length-replicate}
use Rattle.process_network.specs.Network.{Streams}
use Rattle.process_network.specs.StarTalk.{IsHubRun}
use Rattle.process_network.specs.TellingLinks.{IsTelling, IsFirstFixedHub, HubWorkBounded}
use Rattle.process_network.specs.PacketStar.{HubOutlook, HubEnd, star_of, fresh_hub, hub_turn_by, hub_after_take}
use Rattle.process_network.specs.PacketStar.HubOutlook.{HubActs, HubWaits, HubHalts}
use Rattle.process_network.proofs.HubHalted.{none_past}
use Rattle.process_network.proofs.HubTalk.{packet_talk_ends}
use Rattle.process_network.proofs.PacketRuns.{ends_monotone}
use Rattle.cosim_model.specs.declared.values.Plan.{Plan}
use Rattle.cosim_model.specs.declared.values.Bus.{Bus}
use Rattle.cosim_model.specs.Values.{all_on}
use Rattle.cosim_model.specs.Parts.{DeviceModel, MasterModel}
use Rattle.cosim_model.specs.Packets.{Body, Packet, Decoded, Codec, IsCodec, is_response}
use Rattle.cosim_model.specs.Packets.Body.{Nop, Hello, Cfg, Read, Write, Interrupt, Sync}
use Rattle.cosim_model.specs.Packets.Decoded.{Valid, Malformed}
use Rattle.cosim_model.specs.declared.session.Role.TheVariants.{Machine}
use Rattle.cosim_model.specs.declared.session.SessionFault.{SessionFault}
use Rattle.cosim_model.specs.declared.session.SessionFault.TheVariants as session_fault
use Rattle.cosim_model.specs.declared.session.Event.{Event}
use Rattle.cosim_model.specs.declared.session.Event.TheVariants.{Nothing, Met, Asked, Told, Answered, SyncDone}
use Rattle.cosim_model.specs.declared.session.EndFault.{EndFault}
use Rattle.cosim_model.specs.declared.session.EndFault.TheVariants as end_fault
use Rattle.cosim_model.specs.Sessions.{Session, take_packet, take_kept, judged, event_of, asked_at, fault_of, flood, or_else, fault_if, at_machine, counted, is_posted, is_posted_body, unless_posted, other_answered}
use Rattle.ends_model.specs.declared.ends.Phase.{Phase}
use Rattle.ends_model.specs.declared.ends.Phase.TheVariants.{Greet, Meet, Run, AnswerFrom, SyncTo, Gather, Done}
use Rattle.ends_model.specs.MachineTurn.{MachineEnd, PortEnd, Service, greeted, requested, with_wait, access_body, machine_outlook, after_greet, to_meet, after_sync, after_boundary, after_service, unit_done, at_quantum, is_last, is_due, first_true, or_first, is_unknown, is_clear, least, held_time, machine_takes, machine_hears_at, machine_judges, on_event, hold_request, met, answered, gathered, put_port, time_of, waits_at, serve_body, start_phase}
use Rattle.ends_model.specs.World.{ends, machine_start}
use Rattle.every_schedule.proofs.Outlooks.{greet_outlook, sync_outlook, access_outlook, unit_outlook, run_outlook, serve_packet, serve_held, serve_port, serve_outlook, gather_outlook, phase_outlook, machine_looks}

-- Numbers.

abbrev times : ℕ → ℕ → ℕ
times zero k = 0
times (suc n) k = k + times n k

times_less : (k m n : ℕ) → m < n → times m k + k ≤ times n k
times_less k m zero l = absurd (omega arith)
times_less k zero (suc n) l = omega arith
times_less k (suc m) (suc n) l = let rest = times_less k m n (omega arith) in omega arith

below : (m n : ℕ) → nat_lt m n ≡ true → m < n
below m n e = grind (arith, nat_tests)

not_at : (m n : ℕ) → nat_eq m n ≡ false → m ≤ n → m < n
not_at m n e l = grind (arith, nat_tests)

under : (n : ℕ) → nat_le 8191 n ≡ false → n < 8191
under n e = grind (arith, nat_tests)

or_false : (a b : Bool) → (a || b) ≡ false → b ≡ false
or_false true b e = absurd (cc e)
or_false false b e = e

left_of_or : (a b : Bool) → (a || b) ≡ false → a ≡ false
left_of_or true b e = e
left_of_or false b e = refl

-- Sessions: a request and an event keep the role, and a packet that is taken is counted.

unless_role : (posted : Bool) (s : Session) (x : Body) (n : ℕ) → (unless_posted posted s x n).role ≡ s.role
unless_role true s x n = refl
unless_role false s (Sync t) n = refl
unless_role false s Nop n = refl
unless_role false s (Hello a b c) n = refl
unless_role false s (Cfg a b) n = refl
unless_role false s (Read f) n = refl
unless_role false s (Write f) n = refl
unless_role false s (Interrupt a b c x) n = refl

abbrev Same : Session → Session → Type 0
Same a b = (a.role ≡ b.role) × (a.count ≡ b.count)

asked_same : (s : Session) (p : Packet) (b : Bool) (t : ℕ) → Same (asked_at s p b t).0 s
asked_same s p true t = (refl, refl)
asked_same s p false t = (refl, refl)

event_same : (s : Session) (p : Packet) (r : Bool) (b : Body) → Same (event_of s p r b).0 s
event_same s p r Nop = (refl, refl)
event_same s p r (Cfg o t) = (refl, refl)
event_same s p r (Hello a b c) = (refl, refl)
event_same s p true (Sync t) = (refl, refl)
event_same s p false (Sync t) = (refl, refl)
event_same s p true (Read f) = (refl, refl)
event_same s p false (Read f) = asked_same s p (is_posted s.common p) f.time
event_same s p true (Write f) = (refl, refl)
event_same s p false (Write f) = asked_same s p (is_posted s.common p) f.time
event_same s p true (Interrupt t v l x) = (refl, refl)
event_same s p false (Interrupt t v l x) = asked_same s p (is_posted s.common p) t

take_role : (s : Session) (p : Packet) → (take_packet s p).0.role ≡ s.role
take_role s p = kept s.fault
  where
    judges : (o : Option SessionFault) → (judged s p o).0.role ≡ s.role
    judges (Some f) = refl
    judges None = (event_same (record s { count = counted s.role s.count }) p (is_response p) p.body).0

    kept : (o : Option SessionFault) → (take_kept s p o).0.role ≡ s.role
    kept (Some f) = refl
    kept None = judges (fault_of s p)

first_none : (a b : Option SessionFault) → or_else a b ≡ None → a ≡ None
first_none None b e = refl
first_none (Some f) b e = absurd (cc e)

few : (n : ℕ) (b : Bool) → nat_le 8191 n ≡ b → fault_if b (session_fault.Flood (suc n)) ≡ None → n < 8191
few n true f g = absurd (cc g)
few n false f g = under n f

take_counts : (s : Session) (p : Packet) (v : Event) → s.role ≡ Machine → (take_packet s p).1 ≡ Ok v → (s.count < 8191) × ((take_packet s p).0.count ≡ suc s.count)
take_counts s p v machine ok = kept s.fault ok
  where
    no_flood : flood s ≡ None → s.count < 8191
    no_flood e = few s.count (nat_le 8191 s.count) refl (sym (ap (λ r. fault_if (at_machine r && nat_le 8191 s.count) (session_fault.Flood (suc s.count))) machine) ∙ e)

    judges : (o : Option SessionFault) → fault_of s p ≡ o → (judged s p o).1 ≡ Ok v → (s.count < 8191) × ((judged s p o).0.count ≡ suc s.count)
    judges (Some f) e g = absurd (cc g)
    judges None e g = (no_flood (first_none (flood s) _ e), (event_same (record s { count = counted s.role s.count }) p (is_response p) p.body).1 ∙ ap (λ r. counted r s.count) machine)

    kept : (o : Option SessionFault) → (take_kept s p o).1 ≡ Ok v → (s.count < 8191) × ((take_kept s p o).0.count ≡ suc s.count)
    kept (Some f) g = absurd (cc g)
    kept None g = judges (fault_of s p) refl g

-- Ports: how many packets may still be taken in this wait, twice, and the requests that are held.

abbrev held_one : Option Packet → ℕ
held_one None = 0
held_one (Some m) = 1

abbrev worth : PortEnd → ℕ
worth q = 2 * (8191 - q.session.count) + held_one q.held

abbrev credit : List PortEnd → ℕ
credit [] = 0
credit (q ∷ qs) = worth q + credit qs

held_most : (o : Option Packet) → held_one o ≤ 1
held_most None = omega arith
held_most (Some m) = omega arith

credit_most : (qs : List PortEnd) → credit qs ≤ 16383 * length qs
credit_most [] = omega arith
credit_most (q ∷ qs) = let a = held_most q.held in let b = credit_most qs in omega arith

credit_set : (qs : List PortEnd) (p : ℕ) (q q' : PortEnd) → slice_get qs p ≡ Some q → credit (set qs p q') + worth q ≡ credit qs + worth q'
credit_set [] p q q' e = absurd (none-some q e)
credit_set (x ∷ qs) zero q q' e = let f : worth x ≡ worth q = ap worth (same_Some x q e) in omega arith
credit_set (x ∷ qs) (suc p) q q' e = let f = credit_set qs p q q' e in omega arith

abbrev pub AllMachine : List PortEnd → Type 0
AllMachine [] = Unit {0}
AllMachine (q ∷ qs) = (q.session.role ≡ Machine) × AllMachine qs

role_at : (qs : List PortEnd) (p : ℕ) (q : PortEnd) → AllMachine qs → slice_get qs p ≡ Some q → q.session.role ≡ Machine
role_at [] p q are e = absurd (none-some q e)
role_at (x ∷ qs) zero q are e = ap (λ (q : PortEnd). q.session.role) (sym (same_Some x q e)) ∙ are.0
role_at (x ∷ qs) (suc p) q are e = role_at qs p q are.1 e

role_set : (qs : List PortEnd) (p : ℕ) (q : PortEnd) → AllMachine qs → q.session.role ≡ Machine → AllMachine (set qs p q)
role_set [] p q are e = tt
role_set (x ∷ qs) zero q are e = (e, are.1)
role_set (x ∷ qs) (suc p) q are e = (are.0, role_set qs p q are.1 e)

role_waits : (qs : List PortEnd) (p : ℕ) (o : Option PortEnd) → AllMachine qs → slice_get qs p ≡ o → AllMachine (waits_at qs p o)
role_waits qs p None are e = are
role_waits qs p (Some q) are e = role_set qs p (with_wait q) are (role_at qs p q are e)

role_map : (qs : List PortEnd) → AllMachine qs → AllMachine (map with_wait qs)
role_map [] are = tt
role_map (q ∷ qs) are = (are.0, role_map qs are.1)

role_fresh : (n : ℕ) (q : PortEnd) → q.session.role ≡ Machine → AllMachine (replicate n q)
role_fresh zero q e = tt
role_fresh (suc n) q e = (e, role_fresh n q e)

waits_size : (qs : List PortEnd) (p : ℕ) (o : Option PortEnd) → length (waits_at qs p o) ≡ length qs
waits_size qs p None = refl
waits_size qs p (Some q) = length-set qs p _

first_within : (bs : List Bool) (p : ℕ) → first_true bs ≡ Some p → p < length bs
first_within [] p e = absurd (none-some p e)
first_within (b ∷ bs) p e = by b (first_true bs) refl e (λ i f. first_within bs i f)
  where
    by : (b : Bool) (o : Option ℕ) → first_true bs ≡ o → or_first b o ≡ Some p → ((i : ℕ) → first_true bs ≡ Some i → i < length bs) → p < suc (length bs)
    by true o f g rest = let h : 0 ≡ p = same_Some 0 p g in omega arith
    by false None f g rest = absurd (none-some p g)
    by false (Some i) f g rest = let h : suc i ≡ p = same_Some (suc i) p g in let l = rest i f in omega arith

module _ {M S F : Type 0} (k : MasterModel M) (d : DeviceModel S) (codec : Codec F) (plan : Plan) (n : ℕ) where
  abbrev pub H : Type 0
  H = MachineEnd M F

  -- What is left to do: the phases of each tick that is left, and of this one; and the packets that may come in this wait.

  abbrev run_rank : Bool → ℕ
  run_rank true = 2
  run_rank false = n + 4

  abbrev rank_in : Bool → Phase → ℕ
  rank_in b (Greet p) = (n + 5) + (n + (n - p))
  rank_in b (Meet p) = (n + 4) + (n - p)
  rank_in b Run = run_rank b
  rank_in b (SyncTo p) = (n + 3) - p
  rank_in b Gather = 3
  rank_in b (AnswerFrom p a) = 1
  rank_in b Done = 0

  abbrev rank : H → ℕ
  rank h = times (plan.units - h.tick) (n + 4) + rank_in h.marked h.phase

  abbrev left_by : Option (ℕ × EndFault F) → ℕ → ℕ
  left_by (Some f) l = 0
  left_by None l = l

  abbrev pub left : H → ℕ
  left h = left_by h.fault (suc (times (rank h) (suc (16383 * n)) + credit h.ports))

  -- What holds in each state that a run comes to.
  abbrev pub Place : ℕ → Bool → Phase → Type 0
  Place tick marked (Greet p) = (p < n) × (marked ≡ false)
  Place tick marked (Meet p) = (p < n) × (marked ≡ false)
  Place tick marked Run = marked ≡ true → tick < plan.units
  Place tick marked (SyncTo p) = p < n
  Place tick marked Gather = Unit {0}
  Place tick marked (AnswerFrom p a) = (p < n) × (tick < plan.units)
  Place tick marked Done = Unit {0}

  pub record Holds (h : H) : Type 0 where
    pub size : length h.ports ≡ n
    pub roles : AllMachine h.ports
    pub plan_is : h.plan ≡ plan
    pub tick_is : h.tick ≤ plan.units
    pub place : Place h.tick h.marked h.phase

  abbrev pub Onward : H → H → Type 0
  Onward h next = Holds next × (left next < left h)

  most : (next : H) → Holds next → credit next.ports ≤ 16383 * n
  most next holds = let e = holds.size in let c = credit_most next.ports in subst (λ i. credit next.ports ≤ 16383 * i) e c

  moves : (h next : H) → h.fault ≡ None → next.fault ≡ None → Holds next → rank next < rank h → Onward h next
  moves h next ok ok' holds less = (
    holds,
    subst (λ o. left next < left_by o (suc (times (rank h) (suc (16383 * n)) + credit h.ports))) (sym ok)
        (subst (λ o. left_by o (suc (times (rank next) (suc (16383 * n)) + credit next.ports)) < suc (times (rank h) (suc (16383 * n)) + credit h.ports)) (sym ok')
        (let a = times_less (suc (16383 * n)) (rank next) (rank h) less in let b = most next holds in omega arith)),
  )

  spends : (h next : H) → h.fault ≡ None → next.fault ≡ None → Holds next → rank next ≡ rank h → credit next.ports < credit h.ports → Onward h next
  spends h next ok ok' holds same less = (
    holds,
    subst (λ o. left next < left_by o (suc (times (rank h) (suc (16383 * n)) + credit h.ports))) (sym ok)
        (subst (λ o. left_by o (suc (times (rank next) (suc (16383 * n)) + credit next.ports)) < suc (times (rank h) (suc (16383 * n)) + credit h.ports)) (sym ok')
        (subst (λ r. suc (times r (suc (16383 * n)) + credit next.ports) < suc (times (rank h) (suc (16383 * n)) + credit h.ports)) (sym same) (omega arith))),
  )

  fails : (h next : H) (f : ℕ × EndFault F) → h.fault ≡ None → next.fault ≡ Some f → Holds next → Onward h next
  fails h next f ok bad holds = (
    holds,
    subst (λ o. left next < left_by o (suc (times (rank h) (suc (16383 * n)) + credit h.ports))) (sym ok)
        (subst (λ o. left_by o (suc (times (rank next) (suc (16383 * n)) + credit next.ports)) < suc (times (rank h) (suc (16383 * n)) + credit h.ports)) (sym bad) (omega arith)),
  )

  abbrev pub Goes : H → HubOutlook H (Decoded F) → Type 0
  Goes h (HubActs next sends) = Onward h next
  Goes h (HubWaits p) = p < n
  Goes h HubHalts = Unit {0}

  -- A tick that ends.
  tick_falls : (t : ℕ) → t < plan.units → times (plan.units - suc t) (n + 4) + (n + 4) ≤ times (plan.units - t) (n + 4)
  tick_falls t l = times_less (n + 4) (plan.units - suc t) (plan.units - t) (omega arith)

  not_last : (h : H) → Holds h → is_last k h ≡ false → h.tick < plan.units
  not_last h holds e = let l = holds.tick_is in not_at h.tick plan.units (ap (λ (q : Plan). nat_eq h.tick q.units) (sym holds.plan_is) ∙ or_false _ (nat_eq h.tick h.plan.units) e) l

  -- where no boundary is due
  not_due : (h : H) → Holds h → h.phase ≡ Run → is_due k h ≡ false → h.tick < plan.units
  not_due h holds e due = by h.marked refl
    where
      by : (b : Bool) → h.marked ≡ b → h.tick < plan.units
      by true f = subst (λ p. Place h.tick h.marked p) e holds.place f
      by false f = not_last h holds (left_of_or (is_last k h) (at_quantum h.plan h.tick) (ap (λ b. not b && (is_last k h || at_quantum h.plan h.tick)) (sym f) ∙ due))

  due_unmarked : (marked x : Bool) → (not marked && x) ≡ true → marked ≡ false
  due_unmarked true x e = absurd (cc e)
  due_unmarked false x e = refl

  -- A boundary that ends, in phase Run or Gather.
  boundary : (h : H) → Holds h → h.fault ≡ None → times (plan.units - h.tick) (n + 4) + 2 < rank h → Onward h (after_boundary k h)
  boundary h holds ok less = by (is_last k h) refl
    where
      by : (b : Bool) → is_last k h ≡ b → Onward h (record h { phase = if b then Done else Run; marked = true })
      by true e = moves h (record h { phase = Done; marked = true }) ok ok (record { size = holds.size; roles = holds.roles; plan_is = holds.plan_is; tick_is = holds.tick_is; place = tt }) (omega arith)
      by false e = moves h (record h { phase = Run; marked = true }) ok ok (record { size = holds.size; roles = holds.roles; plan_is = holds.plan_is; tick_is = holds.tick_is; place = λ m. not_last h holds e }) less

  meets : (h h' : H) (p : ℕ) (b : Bool) → Holds h' → h.fault ≡ None → h'.fault ≡ None → h'.marked ≡ false → (b ≡ true → p < n) → times (plan.units - h'.tick) (n + 4) + ((n + 4) + (n - p)) < rank h → Onward h (to_meet k h' p b)
  meets h h' p true holds ok ok' m inside less =
      moves h (to_meet k h' p true) ok ok'
      (record { size = waits_size h'.ports p (slice_get h'.ports p) ∙ holds.size; roles = role_waits h'.ports p (slice_get h'.ports p) holds.roles refl; plan_is = holds.plan_is; tick_is = holds.tick_is; place = (inside refl, m) })
      less
  meets h h' p false holds ok ok' m inside less =
      moves h (to_meet k h' p false) ok ok'
      (record { size = holds.size; roles = holds.roles; plan_is = holds.plan_is; tick_is = holds.tick_is; place = λ t. absurd (cc (sym m ∙ t)) })
      (subst (λ b. times (plan.units - h'.tick) (n + 4) + run_rank b < rank h) (sym m) (omega arith))

  -- One port in another state.
  puts : (h : H) (p : ℕ) (q : PortEnd) → Holds h → q.session.role ≡ Machine → Holds (put_port k h p q)
  puts h p q holds role = record { size = length-set h.ports p q ∙ holds.size; roles = role_set h.ports p q holds.roles role; plan_is = holds.plan_is; tick_is = holds.tick_is; place = holds.place }

  -- A fault is kept.
  faulty : (h : H) (f : ℕ × EndFault F) → Holds h → Holds (record h { fault = Some f })
  faulty h f holds = record { size = holds.size; roles = holds.roles; plan_is = holds.plan_is; tick_is = holds.tick_is; place = holds.place }

  greet_goes : (h : H) → Holds h → h.fault ≡ None → (p : ℕ) → h.phase ≡ Greet p → (o : Option PortEnd) → slice_get h.ports p ≡ o → Goes h (greet_outlook k h p o)
  greet_goes h holds ok p e None f = tt
  greet_goes h holds ok p e (Some q) f = by (nat_lt (suc p) (length h.ports)) refl
    where
      place : (p < n) × (h.marked ≡ false)
      place = subst (λ i. Place h.tick h.marked i) e holds.place

      there : H
      there = put_port k h p (greeted q)

      held : Holds (put_port k h p (greeted q))
      held = puts h p (greeted q) holds (role_at h.ports p q holds.roles f)

      was : rank h ≡ times (plan.units - h.tick) (n + 4) + ((n + 5) + (n + (n - p)))
      was = ap (λ i. times (plan.units - h.tick) (n + 4) + rank_in h.marked i) e

      by : (b : Bool) → nat_lt (suc p) (length h.ports) ≡ b → Onward h (after_greet k (put_port k h p (greeted q)) p b)
      by true g =
          let l : suc p < n = subst (λ i. suc p < i) holds.size (below (suc p) (length h.ports) g) in
          moves h (after_greet k (put_port k h p (greeted q)) p true) ok ok (record { size = held.size; roles = held.roles; plan_is = held.plan_is; tick_is = held.tick_is; place = (l, place.1) })
          (let r = was in omega arith)
      by false g = meets h (put_port k h p (greeted q)) 0 true held ok ok place.1 (λ t. let l = place.0 in omega arith) (let r = was in let l = place.0 in omega arith)

  sync_goes : (h : H) → Holds h → h.fault ≡ None → (p : ℕ) → p < n → times (plan.units - h.tick) (n + 4) + ((n + 3) - p) ≤ rank h → (o : Option PortEnd) → slice_get h.ports p ≡ o → Goes h (sync_outlook k h p o)
  sync_goes h holds ok p inside less None f = tt
  sync_goes h holds ok p inside less (Some q) f = by (nat_lt (suc p) (length h.ports)) refl
    where
      asked : PortEnd
      asked = requested q false (Sync h.tick) 0 h.tick

      held : Holds (put_port k h p (requested q false (Sync h.tick) 0 h.tick))
      held = puts h p (requested q false (Sync h.tick) 0 h.tick) holds (role_at h.ports p q holds.roles f)

      by : (b : Bool) → nat_lt (suc p) (length h.ports) ≡ b → Onward h (after_sync k (put_port k h p (requested q false (Sync h.tick) 0 h.tick)) p b)
      by true g =
          let l : suc p < n = subst (λ i. suc p < i) holds.size (below (suc p) (length h.ports) g) in
          moves h (after_sync k (put_port k h p (requested q false (Sync h.tick) 0 h.tick)) p true) ok ok (record { size = held.size; roles = held.roles; plan_is = held.plan_is; tick_is = held.tick_is; place = l }) (omega arith)
      by false g = moves h (after_sync k (put_port k h p (requested q false (Sync h.tick) 0 h.tick)) p false) ok ok (record { size = length-map _ _ ∙ held.size; roles = role_map (set h.ports p (requested q false (Sync h.tick) 0 h.tick)) held.roles; plan_is = held.plan_is; tick_is = held.tick_is; place = tt }) (omega arith)

  -- A unit that ends.
  unit_goes : (h next : H) → Holds h → h.fault ≡ None → h.tick < plan.units → next.fault ≡ None → length next.ports ≡ n → AllMachine next.ports → next.plan ≡ h.plan → next.tick ≡ suc h.tick → next.marked ≡ false → next.phase ≡ Run → times (plan.units - h.tick) (n + 4) < rank h → Onward h next
  unit_goes h next holds ok l ok' size roles plan_is tick marked phase less =
      moves h next ok ok' (record {
        size = size;
        roles = roles;
        plan_is = plan_is ∙ holds.plan_is;
        tick_is = (let t : next.tick ≡ suc h.tick = tick in omega arith);
        place = subst (λ i. Place next.tick next.marked i) (sym phase) (λ m. absurd (cc (sym marked ∙ m)));
      })
      (
      let f = tick_falls h.tick l in
      let r : rank next ≡ times (plan.units - suc h.tick) (n + 4) + (n + 4) = ap (λ i. times (plan.units - i) (n + 4) + rank_in next.marked next.phase) tick ∙ ap (λ i. times (plan.units - suc h.tick) (n + 4) + rank_in next.marked i) phase ∙ ap (λ b. times (plan.units - suc h.tick) (n + 4) + run_rank b) marked in
      omega arith
      )

  run_most : (b : Bool) → 2 ≤ run_rank b
  run_most true = omega arith
  run_most false = omega arith

  run_goes : (h : H) → Holds h → h.fault ≡ None → h.phase ≡ Run → (b : Bool) → is_due k h ≡ b → (ports : List PortEnd) → h.ports ≡ ports → Goes h (run_outlook k h b ports)
  run_goes h holds ok e b due ports ports_are = by b due ports ports_are
    where
      was : rank h ≡ times (plan.units - h.tick) (n + 4) + run_rank h.marked
      was = ap (λ i. times (plan.units - h.tick) (n + 4) + rank_in h.marked i) e

      some : 2 ≤ run_rank h.marked
      some = run_most h.marked

      units : is_due k h ≡ false → (o : Option Bus) → Goes h (unit_outlook k h (k.issue h.master).0 o)
      units due None =
          let l = not_due h holds e due in
          unit_goes h (unit_done k h (k.issue h.master).0) holds ok l ok holds.size holds.roles refl refl refl refl (let r = was in let s = some in omega arith)
      units due (Some b) = at_port (slice_get h.ports b.port) refl b.access.posted
        where
          l : h.tick < plan.units
          l = not_due h holds e due

          asks : (flag : Bool) (q : PortEnd) → q.session.role ≡ Machine → (requested q flag (access_body q.session.common h.tick b.access) b.access.size h.tick).session.role ≡ Machine
          asks flag q role = unless_role (is_posted_body q.session.common flag (access_body q.session.common h.tick b.access)) q.session (access_body q.session.common h.tick b.access) b.access.size ∙ role

          at_port : (o : Option PortEnd) → slice_get h.ports b.port ≡ o → (posted : Bool) → Goes h (access_outlook k h (k.issue h.master).0 b.port b.access o posted)
          at_port None f posted = tt
          at_port (Some q) f true =
              unit_goes h _ holds ok l ok (length-set h.ports b.port _ ∙ holds.size) (role_set h.ports b.port (requested q true (access_body q.session.common h.tick b.access) b.access.size h.tick) holds.roles (asks true q (role_at h.ports b.port q holds.roles f))) refl refl refl refl (let r = was in let s = some in omega arith)
          at_port (Some q) f false =
              moves h _ ok ok (record {
                size = length-set h.ports b.port _ ∙ holds.size;
                roles = role_set h.ports b.port (with_wait (requested q false (access_body q.session.common h.tick b.access) b.access.size h.tick)) holds.roles (asks false q (role_at h.ports b.port q holds.roles f));
                plan_is = holds.plan_is;
                tick_is = holds.tick_is;
                place = (subst (λ i. b.port < i) holds.size (slice_get_within h.ports b.port q f), l);
              }) (let r = was in let s = some in omega arith)

      by : (b : Bool) → is_due k h ≡ b → (ports : List PortEnd) → h.ports ≡ ports → Goes h (run_outlook k h b ports)
      by true due [] ports_are =
          let free : run_rank h.marked ≡ n + 4 = ap run_rank (due_unmarked h.marked (is_last k h || at_quantum h.plan h.tick) due) in
          boundary h holds ok (let r = was in omega arith)
      by true due (q ∷ qs) ports_are =
          let free : run_rank h.marked ≡ n + 4 = ap run_rank (due_unmarked h.marked (is_last k h || at_quantum h.plan h.tick) due) in
          let some_port : length h.ports ≡ suc (length qs) = ap length ports_are in
          let size : length h.ports ≡ n = holds.size in
          sync_goes h holds ok 0 (omega arith) (let r = was in omega arith) (Some q) (ap (λ v. slice_get v 0) ports_are)
      by false due [] ports_are = units due (k.issue h.master).1
      by false due (q ∷ qs) ports_are = units due (k.issue h.master).1

  -- A held request is served.
  serve_goes : (h : H) → Holds h → h.fault ≡ None → h.phase ≡ Gather → (r : Option (ℕ × ℕ)) → Goes h (serve_outlook k h r)
  serve_goes h holds ok e None = tt
  serve_goes h holds ok e (Some r) = at_port (slice_get h.ports r.0) refl
    where
      p : ℕ
      p = r.0

      lowers : (q q' : PortEnd) → slice_get h.ports r.0 ≡ Some q → worth q' < worth q → credit (set h.ports r.0 q') < credit h.ports
      lowers q q' f l = let c = credit_set h.ports r.0 q q' f in omega arith

      served : (q : PortEnd) (m : Packet) → slice_get h.ports r.0 ≡ Some q → q.held ≡ Some m → (q' : PortEnd) → q'.session.role ≡ q.session.role → q'.session.count ≡ q.session.count → q'.held ≡ None → (s : Service M) → Onward h (after_service k h r.0 q' s)
      served q m f held q' role count none s =
          spends h (after_service k h r.0 q' s) ok ok (record {
            size = length-set h.ports r.0 q' ∙ holds.size;
            roles = role_set h.ports r.0 q' holds.roles (role ∙ role_at h.ports r.0 q holds.roles f);
            plan_is = holds.plan_is;
            tick_is = holds.tick_is;
            place = holds.place;
          }) refl (lowers q q' f (
          let a : held_one q.held ≡ held_one (Some m) = ap held_one held in
          let b : held_one q'.held ≡ held_one None = ap held_one none in
          one_less q.session.count q'.session.count (held_one q.held) (held_one q'.held) count a b
          ))
        where
          one_less : (c c' a b : ℕ) → c' ≡ c → a ≡ held_one (Some m) → b ≡ held_one None → 2 * (8191 - c') + b < 2 * (8191 - c) + a
          one_less c c' a b e f g = let f' : a ≡ 1 = f in let g' : b ≡ 0 = g in omega arith

      packet : (q : PortEnd) (m : Packet) (b : Bool) → slice_get h.ports r.0 ≡ Some q → q.held ≡ Some m → Goes h (serve_packet k h r.0 q m b)
      packet q m true f held = served q m f held (record q { held = None }) refl refl refl (serve_body k h.master h.tick r.0 m.body)
      packet q m false f held = served q m f held (record q { held = None; session = other_answered q.session }) refl refl refl (serve_body k h.master h.tick r.0 m.body)

      holding : (q : PortEnd) (o : Option Packet) → slice_get h.ports r.0 ≡ Some q → q.held ≡ o → Goes h (serve_held k h r.0 q o)
      holding q None f held = tt
      holding q (Some m) f held = packet q m (is_posted q.session.common m) f held

      at_port : (o : Option PortEnd) → slice_get h.ports r.0 ≡ o → Goes h (serve_port k h r.0 o)
      at_port None f = tt
      at_port (Some q) f = holding q q.held f refl

  gather_goes : (h : H) → Holds h → h.fault ≡ None → h.phase ≡ Gather → (o : Option ℕ) → first_true (map is_unknown h.ports) ≡ o → Goes h (gather_outlook k h o)
  gather_goes h holds ok e (Some p) f = let l = first_within (map is_unknown h.ports) p f in subst (λ i. p < i) (length-map _ _ ∙ holds.size) l
  gather_goes h holds ok e None f = serve_goes h holds ok e (least (map held_time h.ports))

  phase_goes : (h : H) → Holds h → h.fault ≡ None → (i : Phase) → h.phase ≡ i → Goes h (phase_outlook k h i)
  phase_goes h holds ok (Greet p) e = greet_goes h holds ok p e (slice_get h.ports p) refl
  phase_goes h holds ok (Meet p) e = (subst (λ i. Place h.tick h.marked i) e holds.place).0
  phase_goes h holds ok Run e = run_goes h holds ok e (is_due k h) refl h.ports refl
  phase_goes h holds ok (AnswerFrom p a) e = (subst (λ i. Place h.tick h.marked i) e holds.place).0
  phase_goes h holds ok (SyncTo p) e = sync_goes h holds ok p (subst (λ i. Place h.tick h.marked i) e holds.place) (let r : rank h ≡ times (plan.units - h.tick) (n + 4) + ((n + 3) - p) = ap (λ i. times (plan.units - h.tick) (n + 4) + rank_in h.marked i) e in omega arith) (slice_get h.ports p) refl
  phase_goes h holds ok Gather e = gather_goes h holds ok e (first_true (map is_unknown h.ports)) refl
  phase_goes h holds ok Done e = tt

  -- A packet of port p that is taken. The port is q before and q' with the session after it.

  module _ (h : H) (holds : Holds h) (ok : h.fault ≡ None) (p : ℕ) (q q' : PortEnd) (there : slice_get h.ports p ≡ Some q) (role : q'.session.role ≡ Machine) (same : q'.held ≡ q.held) where
    abbrev put : H
    put = put_port k h p q'

    held : Holds (put_port k h p q')
    held = puts h p q' holds role

    less_worth : (c c' a b : ℕ) → c < 8191 → c' ≡ suc c → b ≡ a → 2 * (8191 - c') + b < 2 * (8191 - c) + a
    less_worth c c' a b l e f = omega arith

    less_held : (c c' a : ℕ) (m : Packet) → c < 8191 → c' ≡ suc c → 2 * (8191 - c') + held_one (Some m) < 2 * (8191 - c) + a
    less_held c c' a m l e = omega arith

    module _ (few : q.session.count < 8191) (counts : q'.session.count ≡ suc q.session.count) where
      less : credit (set h.ports p q') < credit h.ports
      less = let c = credit_set h.ports p q q' there in let l = less_worth q.session.count q'.session.count (held_one q.held) (held_one q'.held) few counts (ap held_one same) in omega arith

      still : Onward h (put_port k h p q')
      still = spends h (put_port k h p q') ok ok held refl less

      holding : (m : Packet) (b : Bool) → Onward h (hold_request k h p q' m b)
      holding m true = fails h (hold_request k h p q' m true) (p, end_fault.LateWant q'.last (time_of m.body)) ok refl (faulty (put_port k h p q') (p, end_fault.LateWant q'.last (time_of m.body)) held)
      holding m false =
          let q'' : PortEnd = record q' { held = Some m } in
          spends h (hold_request k h p q' m false) ok ok (puts h p q'' holds role) refl
          (let c = credit_set h.ports p q q'' there in let l = less_held q.session.count q'.session.count (held_one q.held) m few counts in omega arith)

      meeting : (i : Phase) → h.phase ≡ i → Onward h (met k (put_port k h p q') i)
      meeting (Meet j) e =
          let place = subst (λ i. Place h.tick h.marked i) e holds.place in
          meets h (put_port k h p q') (suc j) (nat_lt (suc j) (length (set h.ports p q'))) held ok ok place.1
          (λ t. subst (λ i. suc j < i) held.size (below (suc j) (length (set h.ports p q')) t))
          (let r : rank h ≡ times (plan.units - h.tick) (n + 4) + ((n + 4) + (n - j)) = ap (λ i. times (plan.units - h.tick) (n + 4) + rank_in h.marked i) e in let l = place.0 in omega arith)
      meeting (Greet j) e = still
      meeting Run e = still
      meeting (AnswerFrom j a) e = still
      meeting (SyncTo j) e = still
      meeting Gather e = still
      meeting Done e = still

      answering : (b : Body) (i : Phase) → h.phase ≡ i → Onward h (answered k (put_port k h p q') b i)
      answering b (AnswerFrom j a) e =
          let place = subst (λ i. Place h.tick h.marked i) e holds.place in
          unit_goes h (answered k (put_port k h p q') b (AnswerFrom j a)) holds ok place.1 ok held.size held.roles refl refl refl refl
          (let r : rank h ≡ times (plan.units - h.tick) (n + 4) + 1 = ap (λ i. times (plan.units - h.tick) (n + 4) + rank_in h.marked i) e in omega arith)
      answering b (Greet j) e = still
      answering b (Meet j) e = still
      answering b Run e = still
      answering b (SyncTo j) e = still
      answering b Gather e = still
      answering b Done e = still

      ending : (b : Bool) (i : Phase) → h.phase ≡ i → Onward h (gathered k (put_port k h p q') b i)
      ending false Gather e = still
      ending true Gather e = by (is_last k (put_port k h p q')) refl
        where
          was : rank h ≡ times (plan.units - h.tick) (n + 4) + 3
          was = ap (λ i. times (plan.units - h.tick) (n + 4) + rank_in h.marked i) e

          by : (b : Bool) → is_last k (put_port k h p q') ≡ b → Onward h (record (put_port k h p q') { phase = if b then Done else Run; marked = true })
          by true l = moves h (record (put_port k h p q') { phase = Done; marked = true }) ok ok (record { size = held.size; roles = held.roles; plan_is = held.plan_is; tick_is = held.tick_is; place = tt }) (let r = was in omega arith)
          by false l = moves h (record (put_port k h p q') { phase = Run; marked = true }) ok ok (record { size = held.size; roles = held.roles; plan_is = held.plan_is; tick_is = held.tick_is; place = λ m. not_last h holds l }) (let r = was in omega arith)
      ending b (Greet j) e = still
      ending b (Meet j) e = still
      ending b Run e = still
      ending b (AnswerFrom j a) e = still
      ending b (SyncTo j) e = still
      ending b Done e = still

      event_goes : (m : Packet) (v : Event) → Onward h (on_event k h p q' m v)
      event_goes m Nothing = still
      event_goes m Met = meeting h.phase refl
      event_goes m (Asked t) = holding m (nat_lt q'.last (time_of m.body))
      event_goes m Told = holding m (nat_lt q'.last (time_of m.body))
      event_goes m Answered = answering m.body h.phase refl
      event_goes m SyncDone = ending (all_on (map is_clear (set h.ports p q'))) h.phase refl

  takes_goes : (h : H) → Holds h → h.fault ≡ None → (p : ℕ) → p < n → (m : Decoded F) → Onward h (machine_takes k h p m)
  takes_goes h holds ok p inside m = at_port (slice_get h.ports p) refl m
    where
      judging : (q : PortEnd) → slice_get h.ports p ≡ Some q → (x : Packet) (r : Result Event SessionFault) → (take_packet q.session x).1 ≡ r → Onward h (machine_judges k h p (record q { session = (take_packet q.session x).0 }) x r)
      judging q f x (Err g) e =
          let q' : PortEnd = record q { session = (take_packet q.session x).0 } in
          fails h (record (put_port k h p q') { fault = Some (p, end_fault.Session g) }) (p, end_fault.Session g) ok refl
          (faulty (put_port k h p q') (p, end_fault.Session g) (puts h p q' holds (take_role q.session x ∙ role_at h.ports p q holds.roles f)))
      judging q f x (Ok v) e =
          let role = role_at h.ports p q holds.roles f in
          let counts = take_counts q.session x v role e in
          event_goes h holds ok p q (record q { session = (take_packet q.session x).0 }) f (take_role q.session x ∙ role) refl counts.0 counts.1 x v

      at_port : (o : Option PortEnd) → slice_get h.ports p ≡ o → (m : Decoded F) → Onward h (machine_hears_at k h p m o)
      at_port None f m = absurd (let l = none_past h.ports p f in let s : length h.ports ≡ n = holds.size in omega arith)
      at_port (Some q) f (Malformed c) = fails h (record h { fault = Some (p, end_fault.Malformed c) }) (p, end_fault.Malformed c) ok refl (faulty h (p, end_fault.Malformed c) holds)
      at_port (Some q) f (Valid x) = judging q f x (take_packet q.session x).1 refl

  -- Every turn.

  pub machine_goes : (h : H) → Holds h → Goes h (machine_outlook k h)
  machine_goes h holds = by h.fault refl
    where
      by : (o : Option (ℕ × EndFault F)) → h.fault ≡ o → Goes h (machine_looks k h o)
      by None ok = phase_goes h holds ok h.phase refl
      by (Some f) bad = tt

  pub waits_sound : (h : H) (p : ℕ) → machine_outlook k h ≡ HubWaits p → h.fault ≡ None
  waits_sound h p w = by h.fault refl
    where
      not_waits : (p : ℕ) → ◌≡◌ {A = HubOutlook H (Decoded F)} HubHalts (HubWaits p) → ⊥
      not_waits p e = cc

      by : (o : Option (ℕ × EndFault F)) → h.fault ≡ o → h.fault ≡ None
      by None ok = ok
      by (Some f) bad = absurd (not_waits p (sym (ap (machine_looks k h) bad) ∙ w))

  pub taken : (h : H) → Holds h → (p : ℕ) → machine_outlook k h ≡ HubWaits p → (m : Decoded F) → Onward h (machine_takes k h p m)
  taken h holds p w m = takes_goes h holds (waits_sound h p w) p (subst (λ v. Goes h v) w (machine_goes h holds)) m

  pub acted : (h : H) → Holds h → (next : H) (sends : Option (ℕ × Decoded F)) → machine_outlook k h ≡ HubActs next sends → Onward h next
  acted h holds next sends w = subst (λ v. Goes h v) w (machine_goes h holds)

  start_place : (i : ℕ) → i ≡ n → Place 0 false (start_phase i)
  start_place zero e = λ m. absurd (cc m)
  start_place (suc i) e = ((let f : suc i ≡ n = e in omega arith), refl)

  pub fresh_holds : (m : M) → Holds (machine_start F m n plan)
  fresh_holds m = record { size = length-replicate n _; roles = role_fresh n _ refl; plan_is = refl; tick_is = (omega arith); place = start_place n refl }

  -- What holds after any run.

  turn_holds : (x : Streams) (s : HubEnd H) (r : HubEnd H × Option (ℕ × List ℕ)) → Holds s.core → (star_of (ends k d codec)).hub_turn s x ≡ Some r → Holds r.0.core
  turn_holds x s r holds t = by (machine_outlook k s.core) refl t
    where
      took : (p : ℕ) (o : Option (Decoded F × ℕ)) → machine_outlook k s.core ≡ HubWaits p → hub_after_take (ends k d codec) s p o ≡ Some r → Holds r.0.core
      took p None w t = absurd (none-some r t)
      took p (Some m) w t = subst (λ (v : HubEnd H × Option (ℕ × List ℕ)). Holds v.0.core) (same_Some _ r t) (taken s.core holds p w m.0).0

      by : (v : HubOutlook H (Decoded F)) → machine_outlook k s.core ≡ v → hub_turn_by (ends k d codec) s x v ≡ Some r → Holds r.0.core
      by (HubActs next sends) w t = subst (λ (v : HubEnd H × Option (ℕ × List ℕ)). Holds v.0.core) (same_Some _ r t) (acted s.core holds next sends w).0
      by (HubWaits p) w t = took p _ w t
      by HubHalts w t = absurd (none-some r t)

  pub run_holds : (m : M) (x : Streams) (turns : ℕ) (h : HubEnd H) (o : Streams) → IsHubRun (star_of (ends k d codec)) n (fresh_hub (machine_start F m n plan) n) x turns h o → Holds h.core
  run_holds m x zero h o run = subst (λ (h : HubEnd H). Holds h.core) (sym run.0) (fresh_holds m)
  run_holds m x (suc turns) h o run = turn_holds x run.0 (h, run.2) (run_holds m x turns run.0 run.1 run.3) run.4

  work_bounded : (m : M) → HubWorkBounded (ends k d codec) n (machine_start F m n plan)
  work_bounded m = record {
    left = left;
    acts = λ x turns h o run next sends w. (acted h.core (run_holds m x turns h o run) next sends w).1;
    takes = λ x turns h o run p c w. (taken h.core (run_holds m x turns h o run) p w c).1;
  }

  pub talks_end : IsCodec codec → (m : M) (said : ℕ → List ℕ → List ℕ) → IsTelling said → (rounds : ℕ) × (x : Streams) × (turns : ℕ) × (h : HubEnd H) × (sent : Streams) × IsFirstFixedHub (star_of (ends k d codec)) n (fresh_hub (machine_start F m n plan) n) said rounds x turns h sent
  talks_end laws m said telling = packet_talk_ends (ends k d codec) n (machine_start F m n plan) (ends_monotone (ends k d codec) laws.decided) (work_bounded m) said telling
