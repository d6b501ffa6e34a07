-- In each state that a run of a machine end comes to, a turn has an answer: a port that is named is there, and what is to be served
-- is held.
use Rattle.std.proofs.Common.{◌≡◌, ℕ, zero, suc, ◌<◌, ◌≤◌, ◌⊎◌, inl, inr, Bool, true, false, not, ◌&&◌, List, [], ◌∷◌, length, set, map, Option, Some, None, slice_get, Result, Ok, Err, refl, sym, ap, ◌∙◌, subst, arith}
use Rattle.std.specs.Prelude.{nat_lt, nat_le, nat_eq, is_some, is_none, option_map, if◌then◌else◌, IsSome}
use Rattle.std.proofs.lemmas.Bool.Decides.{nat_tests}
use Rattle.std.proofs.lemmas.Option.{none-some, same_Some, slice_get_within}
use Rattle.std.proofs.lemmas.List.{length-set}
use Rattle.process_network.specs.Network.{Streams}
use Rattle.process_network.specs.StarTalk.{IsHubRun}
use Rattle.process_network.specs.PacketStar.{HubOutlook, HubEnd, star_of, fresh_hub, hub_turn_by, hub_after_take}
use Rattle.process_network.specs.PacketStar.HubOutlook.{HubActs, HubWaits, HubHalts}
use Rattle.process_network.proofs.HubHalted.{none_past}
use Rattle.process_network.proofs.MovesAtPort.{get_set}
use Rattle.cosim_model.specs.declared.values.Bus.{Bus}
use Rattle.cosim_model.specs.declared.values.Plan.{Plan}
use Rattle.cosim_model.specs.Values.{all_on, plain}
use Rattle.cosim_model.specs.Parts.{DeviceModel, MasterModel, IsMaster, lined}
use Rattle.cosim_model.specs.Packets.{Body, Packet, Decoded, Codec, is_response, enabled}
use Rattle.cosim_model.specs.Packets.Body.{Nop, Hello, Cfg, Read, Write, Interrupt, Sync}
use Rattle.cosim_model.specs.Packets.Decoded.{Valid, Malformed}
use Rattle.cosim_model.specs.declared.session.SessionFault.{SessionFault}
use Rattle.cosim_model.specs.declared.session.Event.{Event}
use Rattle.cosim_model.specs.declared.session.Event.TheVariants.{Nothing, Met, Asked, Told, Answered, SyncDone}
use Rattle.cosim_model.specs.declared.session.EndFault.{EndFault}
use Rattle.cosim_model.specs.declared.session.EndFault.TheVariants as end_fault
use Rattle.cosim_model.specs.declared.session.OwnRequest.{OwnRequest}
use Rattle.cosim_model.specs.Sessions.{Session, take_packet, take_kept, judged, event_of, asked_at, fault_of, counted, is_posted, other_answered}
use Rattle.cosim_model.specs.Order.{later, lower, least}
use Rattle.ends_model.specs.declared.ends.Phase.{Phase}
use Rattle.ends_model.specs.declared.ends.Phase.TheVariants.{Greet, Meet, Run, AnswerFrom, SyncTo, Gather, Done}
use Rattle.ends_model.specs.Answers.{answer_by, machine_answer}
use Rattle.ends_model.specs.MachineTurn.{MachineEnd, PortEnd, Act, greeted, requested, with_wait, answer_from, machine_outlook, after_greet, to_meet, after_sync, after_boundary, after_service, is_last, is_due, first_true, or_first, is_unknown, is_clear, held_time, is_master_size, machine_takes, machine_hears_at, machine_judges, machine_acts, acts_unless, acts_in, runs, works, accesses, serves, gathers, serves_least, serves_held, at_port, greets, syncs, on_event, hold_request, met, answered, gathered, put_port, time_of, serve_body, serve_read, serve_write, start_phase}
use Rattle.ends_model.specs.MachineTurn.Act.{Works, Sends, Awaits, Serves, Marks, Rests, Fails, Lost}
use Rattle.ends_model.specs.World.{ends, machine_start}
use Rattle.every_schedule.proofs.Lists.{unmapped, get_mapped}
use Rattle.every_schedule.proofs.Outlooks.{greet_outlook, sync_outlook, access_outlook, unit_outlook, run_outlook, serve_packet, serve_held, serve_port, serve_outlook, gather_outlook, phase_outlook, machine_looks}
use Rattle.every_schedule.proofs.Talks.{Holds, Place, run_holds, waits_sound}

-- Lists of ports.

set_cases : (ps : List PortEnd) (p : ℕ) (q' : PortEnd) (i : ℕ) (q : PortEnd) → slice_get (set ps p q') i ≡ Some q → ((i ≡ p) × (q' ≡ q)) ⊎ ((i ≡ p → ⊥) × (slice_get ps i ≡ Some q))
set_cases [] p q' i q e = absurd (none-some q e)
set_cases (x ∷ ps) zero q' zero q e = inl (refl, same_Some q' q e)
set_cases (x ∷ ps) zero q' (suc i) q e = inr ((λ f. omega arith), e)
set_cases (x ∷ ps) (suc p) q' zero q e = inr ((λ f. omega arith), e)
set_cases (x ∷ ps) (suc p) q' (suc i) q e = more (set_cases ps p q' i q e)
  where
    more : ((i ≡ p) × (q' ≡ q)) ⊎ ((i ≡ p → ⊥) × (slice_get ps i ≡ Some q)) → ((suc i ≡ suc p) × (q' ≡ q)) ⊎ ((suc i ≡ suc p → ⊥) × (slice_get ps i ≡ Some q))
    more (inl r) = inl (ap suc r.0, r.1)
    more (inr r) = inr ((λ f. r.0 (let g : suc i ≡ suc p = f in omega arith)), r.1)

and_none : (b : Bool) → (b && false) ≡ false
and_none true = refl
and_none false = refl

unclear_at : (ps : List PortEnd) (i : ℕ) (q : PortEnd) → slice_get ps i ≡ Some q → is_clear q ≡ false → all_on (map is_clear ps) ≡ false
unclear_at [] i q e c = absurd (none-some q e)
unclear_at (x ∷ ps) zero q e c = ap (λ b. b && all_on (map is_clear ps)) (ap is_clear (same_Some x q e) ∙ c)
unclear_at (x ∷ ps) (suc i) q e c = ap (λ b. is_clear x && b) (unclear_at ps i q e c) ∙ and_none (is_clear x)

-- a port whose sync is out isn't clear
unclear : (q : PortEnd) → is_some q.session.own_sync ≡ true → is_clear q ≡ false
unclear q e = by q.session.own_sync e
  where
    by : (o : Option OwnRequest) → is_some o ≡ true → (is_none q.held && is_none o) ≡ false
    by None e = absurd (cc e)
    by (Some r) e = and_none (is_none q.held)

first_is : (ps : List PortEnd) (p : ℕ) → first_true (map is_unknown ps) ≡ Some p → (q : PortEnd) × (slice_get ps p ≡ Some q) × (is_unknown q ≡ true)
first_is [] p e = absurd (none-some p e)
first_is (x ∷ ps) p e = by (is_unknown x) refl (first_true (map is_unknown ps)) refl e (λ i f. first_is ps i f)
  where
    by : (b : Bool) → is_unknown x ≡ b → (o : Option ℕ) → first_true (map is_unknown ps) ≡ o → or_first b o ≡ Some p → ((i : ℕ) → first_true (map is_unknown ps) ≡ Some i → (q : PortEnd) × (slice_get ps i ≡ Some q) × (is_unknown q ≡ true)) → (q : PortEnd) × (slice_get (x ∷ ps) p ≡ Some q) × (is_unknown q ≡ true)
    by true u o f e rest = (x, ap (slice_get (x ∷ ps)) (sym (same_Some 0 p e)), u)
    by false u None f e rest = absurd (none-some p e)
    by false u (Some i) f e rest = let r = rest i f in (r.0, ap (slice_get (x ∷ ps)) (sym (same_Some (suc i) p e)) ∙ r.1, r.2)

least_held : (ps : List PortEnd) (r : ℕ × ℕ) → least (map held_time ps) ≡ Some r → (q : PortEnd) × (m : Packet) × (slice_get ps r.0 ≡ Some q) × (q.held ≡ Some m)
least_held [] r e = absurd (none-some r e)
least_held (x ∷ ps) r e = by x.held refl (least (map held_time ps)) refl e (λ s f. least_held ps s f)
  where
    Goal : Type 0
    Goal = (q : PortEnd) × (m : Packet) × (slice_get (x ∷ ps) r.0 ≡ Some q) × (q.held ≡ Some m)

    first : (m : Packet) → x.held ≡ Some m → (t : ℕ) → ◌≡◌ {A = Option (ℕ × ℕ)} (Some (0, t)) (Some r) → (q : PortEnd) × (m : Packet) × (slice_get (x ∷ ps) r.0 ≡ Some q) × (q.held ≡ Some m)
    first m h t e = (x, m, ap (λ (s : ℕ × ℕ). slice_get (x ∷ ps) s.0) (sym (same_Some (0, t) r e)), h)

    further : (s : ℕ × ℕ) → (q : PortEnd) × (m : Packet) × (slice_get ps s.0 ≡ Some q) × (q.held ≡ Some m) → (t : ℕ) → ◌≡◌ {A = Option (ℕ × ℕ)} (Some (suc s.0, t)) (Some r) → (q : PortEnd) × (m : Packet) × (slice_get (x ∷ ps) r.0 ≡ Some q) × (q.held ≡ Some m)
    further s there t e = (there.0, there.1, ap (λ (s : ℕ × ℕ). slice_get (x ∷ ps) s.0) (sym (same_Some (suc s.0, t) r e)) ∙ there.2, there.3)

    lowest : (m : Packet) → x.held ≡ Some m → (t : ℕ) (s : ℕ × ℕ) (b : Bool) → (if b then Some (0, t) else Some (suc s.0, s.1)) ≡ Some r → (q : PortEnd) × (m : Packet) × (slice_get ps s.0 ≡ Some q) × (q.held ≡ Some m) → (q : PortEnd) × (m : Packet) × (slice_get (x ∷ ps) r.0 ≡ Some q) × (q.held ≡ Some m)
    lowest m h t s true e there = first m h t e
    lowest m h t s false e there = further s there s.1 e

    by : (h : Option Packet) → x.held ≡ h → (o : Option (ℕ × ℕ)) → least (map held_time ps) ≡ o → least (option_map (λ (m : Packet). time_of m.body) h ∷ map held_time ps) ≡ Some r → ((s : ℕ × ℕ) → least (map held_time ps) ≡ Some s → (q : PortEnd) × (m : Packet) × (slice_get ps s.0 ≡ Some q) × (q.held ≡ Some m)) → (q : PortEnd) × (m : Packet) × (slice_get (x ∷ ps) r.0 ≡ Some q) × (q.held ≡ Some m)
    by None h None f e rest = absurd (none-some r (sym (ap later f) ∙ e))
    by None h (Some s) f e rest = further s (rest s f) s.1 (sym (ap later f) ∙ e)
    by (Some m) h None f e rest = first m h (time_of m.body) (sym (ap (lower (time_of m.body)) f) ∙ e)
    by (Some m) h (Some s) f e rest = lowest m h (time_of m.body) s (nat_le (time_of m.body) s.1) (sym (ap (lower (time_of m.body)) f) ∙ e) (rest s f)

-- Where no port is awaited and nothing is held, all is clear.
all_clear : (ps : List PortEnd) → first_true (map is_unknown ps) ≡ None → least (map held_time ps) ≡ None → all_on (map is_clear ps) ≡ true
all_clear [] u h = refl
all_clear (x ∷ ps) u h = by x.held refl x.session.own_sync refl (least (map held_time ps)) refl (first_true (map is_unknown ps)) refl u h (λ a b. all_clear ps a b)
  where
    by : (o : Option Packet) → x.held ≡ o → (s : Option OwnRequest) → x.session.own_sync ≡ s → (l : Option (ℕ × ℕ)) → least (map held_time ps) ≡ l → (f : Option ℕ) → first_true (map is_unknown ps) ≡ f → first_true ((is_none o && is_some s) ∷ map is_unknown ps) ≡ None → least (option_map (λ (m : Packet). time_of m.body) o ∷ map held_time ps) ≡ None → (first_true (map is_unknown ps) ≡ None → least (map held_time ps) ≡ None → all_on (map is_clear ps) ≡ true) → all_on (map is_clear (x ∷ ps)) ≡ true
    by (Some m) eo s es None el f ef u h rest = absurd (none-some _ (sym h ∙ ap (lower (time_of m.body)) el))
    by (Some m) eo s es (Some r) el f ef u h rest = absurd (lowered (nat_le (time_of m.body) r.1) (sym (ap (lower (time_of m.body)) el) ∙ h))
      where
        lowered : (b : Bool) → ◌≡◌ {A = Option (ℕ × ℕ)} (if b then Some (0, time_of m.body) else Some (suc r.0, r.1)) None → ⊥
        lowered true e = absurd (none-some (0, time_of m.body) (sym e))
        lowered false e = absurd (none-some (suc r.0, r.1) (sym e))
    by None eo (Some s) es l el f ef u h rest = absurd (none-some 0 (sym u))
    by None eo None es (Some r) el f ef u h rest = absurd (none-some (suc r.0, r.1) (sym (sym (ap later el) ∙ h)))
    by None eo None es None el (Some i) ef u h rest = absurd (none-some (suc i) (sym (sym (ap (option_map suc) ef) ∙ u)))
    by None eo None es None el None ef u h rest = ap (λ b. b && all_on (map is_clear ps)) (ap (λ o. is_none o && is_none x.session.own_sync) eo ∙ ap is_none es) ∙ rest ef el

-- Sessions: what isn't the answer of the own sync leaves that out.

NotDone : Event → Type 0
NotDone SyncDone = ⊥
NotDone Nothing = Unit {0}
NotDone Met = Unit {0}
NotDone (Asked t) = Unit {0}
NotDone Told = Unit {0}
NotDone Answered = Unit {0}

asked_sync : (s : Session) (p : Packet) (b : Bool) (t : ℕ) → (asked_at s p b t).0.own_sync ≡ s.own_sync
asked_sync s p true t = refl
asked_sync s p false t = refl

event_sync : (s t : Session) (p : Packet) (r : Bool) (b : Body) → NotDone (event_of t p r b).1 → (event_of s p r b).0.own_sync ≡ s.own_sync
unfolding NotDone
event_sync s u p r Nop n = refl
event_sync s u p r (Cfg o t) n = refl
event_sync s u p r (Hello a b c) n = refl
event_sync s u p true (Sync t) n = absurd n
event_sync s u p false (Sync t) n = refl
event_sync s u p true (Read f) n = refl
event_sync s u p false (Read f) n = asked_sync s p (is_posted s.common p) f.time
event_sync s u p true (Write f) n = refl
event_sync s u p false (Write f) n = asked_sync s p (is_posted s.common p) f.time
event_sync s u p true (Interrupt t v l x) n = refl
event_sync s u p false (Interrupt t v l x) n = asked_sync s p (is_posted s.common p) t

take_sync : (s : Session) (p : Packet) (v : Event) → NotDone v → (take_packet s p).1 ≡ Ok v → (take_packet s p).0.own_sync ≡ s.own_sync
take_sync s p v n ok = kept s.fault ok
  where
    same_ok : (a b : Event) → ◌≡◌ {A = Result Event SessionFault} (Ok a) (Ok b) → a ≡ b
    same_ok a b e = cc

    judges : (o : Option SessionFault) → (judged s p o).1 ≡ Ok v → (judged s p o).0.own_sync ≡ s.own_sync
    judges (Some f) g = refl
    judges None g = event_sync (record s { count = counted s.role s.count }) s p (is_response p) p.body (subst NotDone (sym (same_ok _ v g)) n)

    kept : (o : Option SessionFault) → (take_kept s p o).1 ≡ Ok v → (take_kept s p o).0.own_sync ≡ s.own_sync
    kept (Some f) g = refl
    kept None g = judges (fault_of s p) g

module _ {M S F : Type 0} (k : MasterModel M) (laws : IsMaster k) (d : DeviceModel S) (codec : Codec F) (plan : Plan) (n : ℕ) where
  abbrev H : Type 0
  H = MachineEnd M F

  -- Which syncs are out: those of the ports before this one while they are sent; then each port has its sync out or is clear, and not
  -- all are clear.
  abbrev Synced : List PortEnd → Phase → Type 0
  Synced ports (SyncTo p) = (i : ℕ) (q : PortEnd) → i < p → slice_get ports i ≡ Some q → is_some q.session.own_sync ≡ true
  Synced ports Gather = ((i : ℕ) (q : PortEnd) → slice_get ports i ≡ Some q → (is_some q.session.own_sync ≡ true) ⊎ (is_clear q ≡ true)) × (all_on (map is_clear ports) ≡ false)
  Synced ports (Greet p) = Unit {0}
  Synced ports (Meet p) = Unit {0}
  Synced ports Run = Unit {0}
  Synced ports (AnswerFrom p a) = Unit {0}
  Synced ports Done = Unit {0}

  abbrev Good : H → Type 0
  Good h = (k.reach h.master ≤ n) × (h.fault ≡ None → Synced h.ports h.phase)

  -- the port that is waited on
  abbrev Waits : List PortEnd → Phase → ℕ → Type 0
  Waits ports (Meet j) p = Unit {0}
  Waits ports (AnswerFrom j a) p = Unit {0}
  Waits ports Gather p = (q : PortEnd) × (slice_get ports p ≡ Some q) × (is_unknown q ≡ true)
  Waits ports (Greet j) p = ⊥
  Waits ports Run p = ⊥
  Waits ports (SyncTo j) p = ⊥
  Waits ports Done p = ⊥

  abbrev Next : H → HubOutlook H (Decoded F) → Type 0
  Next h (HubActs next sends) = Good next
  Next h (HubWaits p) = Waits h.ports h.phase p
  Next h HubHalts = Unit {0}

  if_last : (h : H) → k.reach h.master ≤ n → Good (after_boundary k h)
  if_last h le = (le, λ ok. by (is_last k h))
    where
      by : (b : Bool) → Synced h.ports (if b then Done else Run)
      by true = tt
      by false = tt

  meets : (h : H) (p : ℕ) (b : Bool) → k.reach h.master ≤ n → Good (to_meet k h p b)
  meets h p true le = (le, λ ok. tt)
  meets h p false le = (le, λ ok. tt)

  greet_next : (h : H) (p : ℕ) → k.reach h.master ≤ n → (o : Option PortEnd) → Next h (greet_outlook k h p o)
  greet_next h p le None = tt
  greet_next h p le (Some q) = by (nat_lt (suc p) (length h.ports))
    where
      by : (b : Bool) → Good (after_greet k (put_port k h p (greeted q)) p b)
      by true = (le, λ ok. tt)
      by false = meets (put_port k h p (greeted q)) 0 true le

  at_least : (a b : ℕ) → nat_lt a b ≡ false → b ≤ a
  at_least a b e = grind (arith, nat_tests)

  sync_next : (h : H) (p : ℕ) → k.reach h.master ≤ n → p < length h.ports → ((i : ℕ) (q : PortEnd) → i < p → slice_get h.ports i ≡ Some q → is_some q.session.own_sync ≡ true) → (o : Option PortEnd) → Next h (sync_outlook k h p o)
  sync_next h p le inside before None = tt
  sync_next h p le inside before (Some q) = by (nat_lt (suc p) (length h.ports)) refl
    where
      ports : List PortEnd
      ports = set h.ports p (requested q false (Sync h.tick) 0 h.tick)

      upto : (i : ℕ) (x : PortEnd) → i < suc p → slice_get (set h.ports p (requested q false (Sync h.tick) 0 h.tick)) i ≡ Some x → is_some x.session.own_sync ≡ true
      upto i x l e = at (set_cases h.ports p (requested q false (Sync h.tick) 0 h.tick) i x e)
        where
          at : ((i ≡ p) × (requested q false (Sync h.tick) 0 h.tick ≡ x)) ⊎ ((i ≡ p → ⊥) × (slice_get h.ports i ≡ Some x)) → is_some x.session.own_sync ≡ true
          at (inl r) = subst (λ (x : PortEnd). is_some x.session.own_sync ≡ true) r.1 refl
          at (inr r) = before i x (smaller i p l r.0) r.1
            where
              smaller : (i p : ℕ) → i < suc p → (i ≡ p → ⊥) → i < p
              smaller i p l ne = by (nat_lt i p) refl
                where
                  by : (b : Bool) → nat_lt i p ≡ b → i < p
                  by true e = grind (arith, nat_tests)
                  by false e = absurd (ne (let g = at_least i p e in omega arith))

      by : (b : Bool) → nat_lt (suc p) (length h.ports) ≡ b → Good (after_sync k (put_port k h p (requested q false (Sync h.tick) 0 h.tick)) p b)
      by true e = (le, λ ok. upto)
      by false e = (le, λ ok. (each, unclear_at (map with_wait (set h.ports p (requested q false (Sync h.tick) 0 h.tick))) p (with_wait (requested q false (Sync h.tick) 0 h.tick)) (get_mapped with_wait (set h.ports p (requested q false (Sync h.tick) 0 h.tick)) p (requested q false (Sync h.tick) 0 h.tick) (get_set h.ports p (requested q false (Sync h.tick) 0 h.tick) inside)) (unclear (with_wait (requested q false (Sync h.tick) 0 h.tick)) refl)))
        where
          each : (i : ℕ) (x : PortEnd) → slice_get (map with_wait (set h.ports p (requested q false (Sync h.tick) 0 h.tick))) i ≡ Some x → (is_some x.session.own_sync ≡ true) ⊎ (is_clear x ≡ true)
          each i x g =
              let from = unmapped with_wait (set h.ports p (requested q false (Sync h.tick) 0 h.tick)) i x g in
              let within = slice_get_within (set h.ports p (requested q false (Sync h.tick) 0 h.tick)) i from.0 from.1 in
              let size = length-set h.ports p (requested q false (Sync h.tick) 0 h.tick) in
              let most = at_least (suc p) (length h.ports) e in
              inl (subst (λ (x : PortEnd). is_some x.session.own_sync ≡ true) from.2 (upto i from.0 (omega arith) from.1))

  units : (h : H) → k.reach h.master ≤ n → (o : Option Bus) → Next h (unit_outlook k h (k.issue h.master).0 o)
  units h le None = ((let a = laws.issue_reach h.master in omega arith), λ ok. tt)
  units h le (Some b) = at (slice_get h.ports b.port) b.access.posted
    where
      at : (o : Option PortEnd) (posted : Bool) → Next h (access_outlook k h (k.issue h.master).0 b.port b.access o posted)
      at None posted = tt
      at (Some q) true = ((let a = laws.issue_reach h.master in let c = laws.finish_reach (k.issue h.master).0 (plain b.access (record { code = 0; value = 0 })) in omega arith), λ ok. tt)
      at (Some q) false = ((let a = laws.issue_reach h.master in omega arith), λ ok. tt)

  run_next : (h : H) → k.reach h.master ≤ n → (b : Bool) (ports : List PortEnd) → h.ports ≡ ports → Next h (run_outlook k h b ports)
  run_next h le true [] e = if_last h le
  run_next h le true (q ∷ qs) e = sync_next h 0 le (let size : length h.ports ≡ suc (length qs) = ap length e in omega arith) (λ i x l. absurd (omega arith)) (Some q)
  run_next h le false [] e = units h le (k.issue h.master).1
  run_next h le false (q ∷ qs) e = units h le (k.issue h.master).1

  -- A request that is served names no further port.
  serve_reach : (m : M) (tick port : ℕ) (b : Body) → k.reach (serve_body k m tick port b).master ≤ k.reach m
  serve_reach m tick port (Read f) = by (is_master_size f)
    where
      by : (c : Bool) → k.reach (serve_read k m tick port f c).master ≤ k.reach m
      by true = omega arith
      by false = omega arith
  serve_reach m tick port (Write f) = by (is_master_size f)
    where
      by : (c : Bool) → k.reach (serve_write k m tick port f c).master ≤ k.reach m
      by true = (laws.write_keeps m f.addr f.payload (enabled f)).2
      by false = omega arith
  serve_reach m tick port (Interrupt time vector line val) = by (nat_le line 31)
    where
      by : (c : Bool) → k.reach (lined k m line (not (nat_eq val 0)) c) ≤ k.reach m
      by true = (laws.line_keeps m line (not (nat_eq val 0))).2
      by false = omega arith
  serve_reach m tick port Nop = omega arith
  serve_reach m tick port (Hello a b c) = omega arith
  serve_reach m tick port (Cfg a b) = omega arith
  serve_reach m tick port (Sync t) = omega arith

  -- A port of Gather that keeps its sync out, or is clear.
  keeps_synced : (ports : List PortEnd) (p : ℕ) (q' : PortEnd) → p < length ports → Synced ports Gather → is_some q'.session.own_sync ≡ true → Synced (set ports p q') Gather
  keeps_synced ports p q' inside synced out = (each, unclear_at (set ports p q') p q' (get_set ports p q' inside) (unclear q' out))
    where
      each : (i : ℕ) (x : PortEnd) → slice_get (set ports p q') i ≡ Some x → (is_some x.session.own_sync ≡ true) ⊎ (is_clear x ≡ true)
      each i x e = at (set_cases ports p q' i x e)
        where
          at : ((i ≡ p) × (q' ≡ x)) ⊎ ((i ≡ p → ⊥) × (slice_get ports i ≡ Some x)) → (is_some x.session.own_sync ≡ true) ⊎ (is_clear x ≡ true)
          at (inl r) = inl (subst (λ (x : PortEnd). is_some x.session.own_sync ≡ true) r.1 out)
          at (inr r) = synced.0 i x r.1

  held_out : (q : PortEnd) (m : Packet) → q.held ≡ Some m → (is_some q.session.own_sync ≡ true) ⊎ (is_clear q ≡ true) → is_some q.session.own_sync ≡ true
  held_out q m held (inl s) = s
  held_out q m held (inr c) = absurd (no (sym (ap (λ o. is_none o && is_none q.session.own_sync) held) ∙ c))
    where
      no : false ≡ true → ⊥
      no e = cc

  serve_next : (h : H) → k.reach h.master ≤ n → Synced h.ports Gather → h.phase ≡ Gather → (r : Option (ℕ × ℕ)) → Next h (serve_outlook k h r)
  serve_next h le synced e None = tt
  serve_next h le synced e (Some r) = at_port (slice_get h.ports r.0) refl
    where
      served : (q : PortEnd) (m : Packet) → slice_get h.ports r.0 ≡ Some q → q.held ≡ Some m → (q' : PortEnd) → q'.session.own_sync ≡ q.session.own_sync → Good (after_service k h r.0 q' (serve_body k h.master h.tick r.0 m.body))
      served q m f held q' same = (
        (let a = serve_reach h.master h.tick r.0 m.body in omega arith),
        λ ok. subst (λ i. Synced (set h.ports r.0 q') i) (sym e)
            (keeps_synced h.ports r.0 q' (slice_get_within h.ports r.0 q f) synced (ap is_some same ∙ held_out q m held (synced.0 r.0 q f))),
      )

      packet : (q : PortEnd) (m : Packet) (b : Bool) → slice_get h.ports r.0 ≡ Some q → q.held ≡ Some m → Next h (serve_packet k h r.0 q m b)
      packet q m true f held = served q m f held (record q { held = None }) refl
      packet q m false f held = served q m f held (record q { held = None; session = other_answered q.session }) refl

      holding : (q : PortEnd) (o : Option Packet) → slice_get h.ports r.0 ≡ Some q → q.held ≡ o → Next h (serve_held k h r.0 q o)
      holding q None f held = tt
      holding q (Some m) f held = packet q m (is_posted q.session.common m) f held

      at_port : (o : Option PortEnd) → slice_get h.ports r.0 ≡ o → Next h (serve_port k h r.0 o)
      at_port None f = tt
      at_port (Some q) f = holding q q.held f refl

  gather_next : (h : H) → k.reach h.master ≤ n → Synced h.ports Gather → h.phase ≡ Gather → (o : Option ℕ) → first_true (map is_unknown h.ports) ≡ o → Next h (gather_outlook k h o)
  gather_next h le synced e (Some p) f = subst (λ i. Waits h.ports i p) (sym e) (first_is h.ports p f)
  gather_next h le synced e None f = serve_next h le synced e (least (map held_time h.ports))

  phase_next : (h : H) → Holds k d codec plan n h → Good h → h.fault ≡ None → (i : Phase) → h.phase ≡ i → Next h (phase_outlook k h i)
  phase_next h holds good ok (Greet p) e = greet_next h p good.0 (slice_get h.ports p)
  phase_next h holds good ok (Meet p) e = subst (λ i. Waits h.ports i p) (sym e) tt
  phase_next h holds good ok Run e = run_next h good.0 (is_due k h) h.ports refl
  phase_next h holds good ok (AnswerFrom p a) e = subst (λ i. Waits h.ports i p) (sym e) tt
  phase_next h holds good ok (SyncTo p) e = sync_next h p good.0 (subst (λ m. p < m) (sym holds.size) (subst (λ i. Place k d codec plan n h.tick h.marked i) e holds.place)) (subst (λ i. Synced h.ports i) e (good.1 ok)) (slice_get h.ports p)
  phase_next h holds good ok Gather e = gather_next h good.0 (subst (λ i. Synced h.ports i) e (good.1 ok)) e (first_true (map is_unknown h.ports)) refl
  phase_next h holds good ok Done e = tt

  -- A packet that is taken.

  faulty : (h : H) (f : ℕ × EndFault F) → k.reach h.master ≤ n → h.fault ≡ Some f → Good h
  faulty h f le bad = (le, λ ok. absurd (none-some f (sym ok ∙ bad)))

  module _ (h : H) (le : k.reach h.master ≤ n) (ok : h.fault ≡ None) (p : ℕ) (q q' : PortEnd) (there : slice_get h.ports p ≡ Some q) (same : q'.held ≡ q.held) (synced : Synced h.ports h.phase) (waits : Waits h.ports h.phase p) where
    -- the port, where it is awaited in Gather
    awaited : h.phase ≡ Gather → (is_none q.held ≡ true) × (is_some q.session.own_sync ≡ true)
    awaited e =
        let w = subst (λ i. Waits h.ports i p) e waits in
        let is : is_unknown q ≡ true = ap is_unknown (same_Some q w.0 (sym there ∙ w.1)) ∙ w.2 in
        both (is_none q.held) (is_some q.session.own_sync) is
      where
        both : (a b : Bool) → (a && b) ≡ true → (a ≡ true) × (b ≡ true)
        both true b e = (refl, e)
        both false b e = absurd (cc e)

    -- the port is put with its sync still out
    stays : (x : PortEnd) → (h.phase ≡ Gather → is_some x.session.own_sync ≡ true) → Synced (set h.ports p x) h.phase
    stays x out = at h.phase refl
      where
        at : (i : Phase) → h.phase ≡ i → Synced (set h.ports p x) h.phase
        at (Meet j) e = subst (λ i. Synced (set h.ports p x) i) (sym e) tt
        at (AnswerFrom j a) e = subst (λ i. Synced (set h.ports p x) i) (sym e) tt
        at Gather e = subst (λ i. Synced (set h.ports p x) i) (sym e) (keeps_synced h.ports p x (slice_get_within h.ports p q there) (subst (λ i. Synced h.ports i) e synced) (out e))
        at (Greet j) e = absurd (subst (λ i. Waits h.ports i p) e waits)
        at Run e = absurd (subst (λ i. Waits h.ports i p) e waits)
        at (SyncTo j) e = absurd (subst (λ i. Waits h.ports i p) e waits)
        at Done e = absurd (subst (λ i. Waits h.ports i p) e waits)

    put_good : (x : PortEnd) → (h.phase ≡ Gather → is_some x.session.own_sync ≡ true) → Good (put_port k h p x)
    put_good x out = (le, λ o. stays x out)

    module _ (out : q'.session.own_sync ≡ q.session.own_sync) where
      out_there : h.phase ≡ Gather → is_some q'.session.own_sync ≡ true
      out_there e = ap is_some out ∙ (awaited e).1

      holding : (m : Packet) (b : Bool) → Good (hold_request k h p q' m b)
      holding m true = faulty (hold_request k h p q' m true) (p, end_fault.LateWant q'.last (time_of m.body)) le refl
      holding m false = put_good (record q' { held = Some m }) out_there

      meeting : (i : Phase) → Good (met k (put_port k h p q') i)
      meeting (Meet j) = meets (put_port k h p q') (suc j) (nat_lt (suc j) (length (set h.ports p q'))) le
      meeting (Greet j) = put_good q' out_there
      meeting Run = put_good q' out_there
      meeting (AnswerFrom j a) = put_good q' out_there
      meeting (SyncTo j) = put_good q' out_there
      meeting Gather = put_good q' out_there
      meeting Done = put_good q' out_there

      answering : (b : Body) (i : Phase) → Good (answered k (put_port k h p q') b i)
      answering b (AnswerFrom j a) = ((let c = laws.finish_reach h.master (plain a (answer_from b)) in omega arith), λ o. tt)
      answering b (Greet j) = put_good q' out_there
      answering b (Meet j) = put_good q' out_there
      answering b Run = put_good q' out_there
      answering b (SyncTo j) = put_good q' out_there
      answering b Gather = put_good q' out_there
      answering b Done = put_good q' out_there

    -- the answer of a sync
    ended : (i : Phase) → h.phase ≡ i → (b : Bool) → all_on (map is_clear (set h.ports p q')) ≡ b → Good (gathered k (put_port k h p q') b i)
    ended Gather e true f = if_last (put_port k h p q') le
    ended Gather e false f = (le, λ o. subst (λ i. Synced (set h.ports p q') i) (sym e) (each, f))
      where
        before : Synced h.ports Gather
        before = subst (λ i. Synced h.ports i) e synced

        here : (o : Option OwnRequest) → q'.session.own_sync ≡ o → (is_some q'.session.own_sync ≡ true) ⊎ (is_clear q' ≡ true)
        here (Some r) g = inl (ap is_some g)
        here None g = inr (ap (λ o. is_none q'.held && is_none o) g ∙ ap (λ o. is_none o && true) same ∙ ap (λ b. b && true) (awaited e).0)

        each : (i : ℕ) (x : PortEnd) → slice_get (set h.ports p q') i ≡ Some x → (is_some x.session.own_sync ≡ true) ⊎ (is_clear x ≡ true)
        each i x g = at (set_cases h.ports p q' i x g)
          where
            at : ((i ≡ p) × (q' ≡ x)) ⊎ ((i ≡ p → ⊥) × (slice_get h.ports i ≡ Some x)) → (is_some x.session.own_sync ≡ true) ⊎ (is_clear x ≡ true)
            at (inl r) = subst (λ (x : PortEnd). (is_some x.session.own_sync ≡ true) ⊎ (is_clear x ≡ true)) r.1 (here q'.session.own_sync refl)
            at (inr r) = before.0 i x r.1
    ended (Meet j) e b f = (le, λ o. subst (λ i. Synced (set h.ports p q') i) (sym e) tt)
    ended (AnswerFrom j a) e b f = (le, λ o. subst (λ i. Synced (set h.ports p q') i) (sym e) tt)
    ended (Greet j) e b f = absurd (subst (λ i. Waits h.ports i p) e waits)
    ended Run e b f = absurd (subst (λ i. Waits h.ports i p) e waits)
    ended (SyncTo j) e b f = absurd (subst (λ i. Waits h.ports i p) e waits)
    ended Done e b f = absurd (subst (λ i. Waits h.ports i p) e waits)

    event_good : (m : Packet) (v : Event) → (NotDone v → q'.session.own_sync ≡ q.session.own_sync) → Good (on_event k h p q' m v)
    unfolding NotDone
    event_good m Nothing out = put_good q' (out_there (out tt))
    event_good m Met out = meeting (out tt) h.phase
    event_good m (Asked t) out = holding (out tt) m (nat_lt q'.last (time_of m.body))
    event_good m Told out = holding (out tt) m (nat_lt q'.last (time_of m.body))
    event_good m Answered out = answering (out tt) m.body h.phase
    event_good m SyncDone out = ended h.phase refl (all_on (map is_clear (set h.ports p q'))) refl

  takes_good : (h : H) → Good h → h.fault ≡ None → (p : ℕ) → Waits h.ports h.phase p → (m : Decoded F) → Good (machine_takes k h p m)
  takes_good h good ok p waits m = at (slice_get h.ports p) refl m
    where
      judging : (q : PortEnd) → slice_get h.ports p ≡ Some q → (x : Packet) (r : Result Event SessionFault) → (take_packet q.session x).1 ≡ r → Good (machine_judges k h p (record q { session = (take_packet q.session x).0 }) x r)
      judging q f x (Err g) e = faulty (machine_judges k h p (record q { session = (take_packet q.session x).0 }) x (Err g)) (p, end_fault.Session g) good.0 refl
      judging q f x (Ok v) e = event_good h good.0 ok p q (record q { session = (take_packet q.session x).0 }) f refl (good.1 ok) waits x v (λ n. take_sync q.session x v n e)

      at : (o : Option PortEnd) → slice_get h.ports p ≡ o → (m : Decoded F) → Good (machine_hears_at k h p m o)
      at None f m = good
      at (Some q) f (Malformed c) = faulty (record h { fault = Some (p, end_fault.Malformed c) }) (p, end_fault.Malformed c) good.0 refl
      at (Some q) f (Valid x) = judging q f x (take_packet q.session x).1 refl

  -- After any run.

  machine_next : (h : H) → Holds k d codec plan n h → Good h → Next h (machine_outlook k h)
  machine_next h holds good = by h.fault refl
    where
      by : (o : Option (ℕ × EndFault F)) → h.fault ≡ o → Next h (machine_looks k h o)
      by None ok = phase_next h holds good ok h.phase refl
      by (Some f) bad = tt

  turn_good : (x : Streams) (s : HubEnd H) (r : HubEnd H × Option (ℕ × List ℕ)) → Holds k d codec plan n s.core → Good s.core → (star_of (ends k d codec)).hub_turn s x ≡ Some r → Good r.0.core
  turn_good x s r holds good t = by (machine_outlook k s.core) refl t
    where
      next : (v : HubOutlook H (Decoded F)) → machine_outlook k s.core ≡ v → Next s.core v
      next v w = subst (Next s.core) w (machine_next s.core holds good)

      took : (p : ℕ) (o : Option (Decoded F × ℕ)) → machine_outlook k s.core ≡ HubWaits p → hub_after_take (ends k d codec) s p o ≡ Some r → Good r.0.core
      took p None w t = absurd (none-some r t)
      took p (Some m) w t = subst (λ (v : HubEnd H × Option (ℕ × List ℕ)). Good v.0.core) (same_Some _ r t) (takes_good s.core good (waits_sound k d codec plan n s.core p w) p (next (HubWaits p) w) m.0)

      by : (v : HubOutlook H (Decoded F)) → machine_outlook k s.core ≡ v → hub_turn_by (ends k d codec) s x v ≡ Some r → Good r.0.core
      by (HubActs next' sends) w t = subst (λ (v : HubEnd H × Option (ℕ × List ℕ)). Good v.0.core) (same_Some _ r t) (next (HubActs next' sends) w)
      by (HubWaits p) w t = took p _ w t
      by HubHalts w t = absurd (none-some r t)

  run_good : (m : M) → k.reach m ≤ n → (x : Streams) (turns : ℕ) (h : HubEnd H) (o : Streams) → IsHubRun (star_of (ends k d codec)) n (fresh_hub (machine_start F m n plan) n) x turns h o → Good h.core
  run_good m le x zero h o run = subst (λ (h : HubEnd H). Good h.core) (sym run.0) (le, λ ok. start n)
    where
      start : (i : ℕ) → Synced (machine_start F m n plan).ports (start_phase i)
      start zero = tt
      start (suc i) = tt
  run_good m le x (suc turns) h o run = turn_good x run.0 (h, run.2) (run_holds k d codec plan n m x turns run.0 run.1 run.3) (run_good m le x turns run.0 run.1 run.3) run.4

  -- What a turn does is never lost.

  abbrev IsFound : Act M F → Type 0
  IsFound (Works next) = Unit {0}
  IsFound (Sends p x next) = Unit {0}
  IsFound (Awaits p) = Unit {0}
  IsFound (Serves p next) = Unit {0}
  IsFound (Marks next) = Unit {0}
  IsFound Rests = Unit {0}
  IsFound (Fails p f) = Unit {0}
  IsFound Lost = ⊥

  sends_found : (h : H) (p : ℕ) → p < length h.ports → (o : Option PortEnd) → slice_get h.ports p ≡ o → (act : PortEnd → Act M F) → ((q : PortEnd) → slice_get h.ports p ≡ Some q → IsFound (act q)) → IsFound (at_port o act)
  sends_found h p inside None e act found = absurd (let l = none_past h.ports p e in omega arith)
  sends_found h p inside (Some q) e act found = found q e

  accesses_found : (h : H) (m : M) (b : Bus) (posted : Bool) (q : PortEnd) → IsFound (accesses k h m b.port b.access posted q)
  accesses_found h m b true q = tt
  accesses_found h m b false q = tt

  works_found : (h : H) → k.reach h.master ≤ length h.ports → (o : Option Bus) → (k.issue h.master).1 ≡ o → IsFound (works k h (k.issue h.master).0 o)
  works_found h le None e = tt
  works_found h le (Some b) e = sends_found h b.port (let a = (laws.issue_access h.master b e).0 in omega arith) (slice_get h.ports b.port) refl _ (λ q f. accesses_found h (k.issue h.master).0 b b.access.posted q)

  runs_found : (h : H) → k.reach h.master ≤ length h.ports → (b : Bool) (ports : List PortEnd) → IsFound (runs k h b ports)
  runs_found h le true [] = tt
  runs_found h le true (q ∷ qs) = tt
  runs_found h le false [] = works_found h le (k.issue h.master).1 refl
  runs_found h le false (q ∷ qs) = works_found h le (k.issue h.master).1 refl

  serves_found : (h : H) (p : ℕ) (q : PortEnd) (m : Packet) → q.held ≡ Some m → IsFound (serves_held k h p q q.held)
  serves_found h p q m e = subst (λ o. IsFound (serves_held k h p q o)) (sym e) (by (is_posted q.session.common m))
    where
      by : (b : Bool) → IsFound (serves k h p q m b)
      by true = tt
      by false = tt

  gathers_found : (h : H) → all_on (map is_clear h.ports) ≡ false → (o : Option ℕ) → first_true (map is_unknown h.ports) ≡ o → IsFound (gathers k h o)
  gathers_found h open_one (Some p) f = tt
  gathers_found h open_one None f = by (least (map held_time h.ports)) refl
    where
      by : (r : Option (ℕ × ℕ)) → least (map held_time h.ports) ≡ r → IsFound (serves_least k h r)
      by None g = absurd (differ (sym open_one ∙ all_clear h.ports f g))
        where
          differ : false ≡ true → ⊥
          differ e = cc
      by (Some r) g =
          let there = least_held h.ports r g in
          sends_found h r.0 (slice_get_within h.ports r.0 there.0 there.2) (slice_get h.ports r.0) refl (λ (q : PortEnd). serves_held k h r.0 q q.held)
          (λ q e. serves_found h r.0 q there.1 (ap (λ (q : PortEnd). q.held) (same_Some q there.0 (sym e ∙ there.2)) ∙ there.3))

  phase_found : (h : H) → Holds k d codec plan n h → Good h → h.fault ≡ None → (i : Phase) → h.phase ≡ i → IsFound (acts_in k h i)
  phase_found h holds good ok (Greet p) e = sends_found h p (subst (λ m. p < m) (sym holds.size) (subst (λ i. Place k d codec plan n h.tick h.marked i) e holds.place).0) (slice_get h.ports p) refl (greets k h p) (λ q f. tt)
  phase_found h holds good ok (Meet p) e = tt
  phase_found h holds good ok Run e = runs_found h (let le = good.0 in let size : length h.ports ≡ n = holds.size in omega arith) (is_due k h) h.ports
  phase_found h holds good ok (AnswerFrom p a) e = tt
  phase_found h holds good ok (SyncTo p) e = sends_found h p (subst (λ m. p < m) (sym holds.size) (subst (λ i. Place k d codec plan n h.tick h.marked i) e holds.place)) (slice_get h.ports p) refl (syncs k h p) (λ q f. tt)
  phase_found h holds good ok Gather e = gathers_found h (subst (λ i. Synced h.ports i) e (good.1 ok)).1 (first_true (map is_unknown h.ports)) refl
  phase_found h holds good ok Done e = tt

  machine_found : (h : H) → Holds k d codec plan n h → Good h → IsFound (machine_acts k h)
  machine_found h holds good = by h.fault refl
    where
      by : (o : Option (ℕ × EndFault F)) → h.fault ≡ o → IsFound (acts_unless k h o)
      by None ok = phase_found h holds good ok h.phase refl
      by (Some f) bad = tt

  answered_by : (h : H) (whole : ℕ → Option (Decoded F)) (a : Act M F) → IsFound a → IsSome (answer_by k h whole a)
  answered_by h whole (Works next) f = refl
  answered_by h whole (Sends p x next) f = refl
  answered_by h whole (Awaits p) f = refl
  answered_by h whole (Serves p next) f = refl
  answered_by h whole (Marks next) f = refl
  answered_by h whole Rests f = refl
  answered_by h whole (Fails p g) f = refl
  answered_by h whole Lost f = absurd f

  pub run_answers : (m : M) → k.reach m ≤ n → (x : Streams) (turns : ℕ) (h : HubEnd H) (o : Streams) → IsHubRun (star_of (ends k d codec)) n (fresh_hub (machine_start F m n plan) n) x turns h o → (whole : ℕ → Option (Decoded F)) → IsSome (machine_answer k h.core whole)
  run_answers m le x turns h o run whole = answered_by h.core whole (machine_acts k h.core) (machine_found h.core (run_holds k d codec plan n m x turns h o run) (run_good m le x turns h o run))
