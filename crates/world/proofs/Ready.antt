-- Whether an end can move, by what its turn would answer.
use Rattle.std.proofs.Common.{◌≡◌, ℕ, Bool, true, false, List, [], ◌∷◌, length, drop, get_or, map, refl, sym, ap, ◌∙◌, subst, Result, Ok, Err}
use Rattle.std.specs.Prelude.{Option, Some, None, IsSome, is_some, option_map, slice_get}
use Rattle.process_network.specs.PacketStar.{fresh_hub, fresh_leaf, hub_after_take, leaf_after_take}
use Rattle.process_network.specs.Star.{Link, hub_received, star_effective}
use Rattle.process_network.specs.Star.StarStep.{HubTurn}
use Rattle.cosim_model.specs.declared.session.EndFault.{EndFault}
use Rattle.cosim_model.specs.declared.values.Bus.{Bus}
use Rattle.cosim_model.specs.Order.{least}
use Rattle.cosim_model.specs.Packets.{Decoded, Packet}
use Rattle.cosim_model.specs.Parts.{DeviceModel, MasterModel}
use Rattle.cosim_model.specs.Sessions.{is_posted}
use Rattle.ends_model.specs.declared.ends.Phase.{Phase}
use Rattle.ends_model.specs.declared.ends.Phase.TheVariants.{Greet, Meet, Run, AnswerFrom, SyncTo, Gather, Done}
use Rattle.ends_model.specs.declared.ends.DeviceTurn.TheVariants as device_turn
use Rattle.ends_model.specs.declared.ends.Turn.TheVariants as turn
use Rattle.ends_model.specs.Answers.{answer_by, answer_once, unless_faulty}
use Rattle.ends_model.specs.Traffic as traffic
use Rattle.device_turns.specs.Runs.{Taking}
use Rattle.ends_model.specs.DeviceTurn.{DeviceEnd, device_takes}
use Rattle.ends_model.specs.MachineTurn.{Act, MachineEnd, PortEnd, accesses, acts_in, acts_unless, at_port, first_true}
use Rattle.ends_model.specs.MachineTurn.{gathers, greets, held_time, is_due, is_unknown, machine_acts, machine_takes}
use Rattle.ends_model.specs.MachineTurn.{runs, serves, serves_held, serves_least, syncs, works}
use Rattle.ends_model.specs.MachineTurn.Act.{Works, Sends, Awaits, Serves, Marks, Rests, Fails, Lost}
use Rattle.rp_packet.specs.declared.fault.Cause.{Cause}
use Rattle.rp_packet.specs.Refusals.{first}
use Rattle.rp_packet.specs.Streams.{packet_codec}
use Rattle.device_turns.specs.Ends.{End as DeviceTurns, answer_of as device_answer_of, core_of as device_core, kept_cause, moves as device_moves, turn_of as device_turn_of}
use Rattle.machine_turns.specs.declared.fault.PortFault.{PortFault}
use Rattle.machine_turns.specs.Ends.{End, answer_of, core_of, held_at, moves, port_cause, turn_of}
use Rattle.machine_turns.specs.Runs.{machine_alone}
use Rattle.machine_turns.specs.StepLaws.{After, turned, zeros}
use Rattle.world.specs.Seats.{IsSeat, SeatValue, seat_turn}
use Rattle.world.specs.Stars.{Ends, HasAnswer, IsHub, ends_of, star}
use Rattle.world.proofs.Seating.{seat, shifted, turn-is, turn_by}
use Rattle.world.proofs.Turning.{lifted, turn-is as hub-turn-is}

-- A device end.

module _ {S : Type 0} (d : DeviceModel S) where
  took-moves : (f : Option (EndFault Cause)) → device_moves (unless_faulty device_turn.Took f) ≡ true
  took-moves None = refl
  took-moves (Some f) = refl

  front-moves : (c : DeviceEnd S Cause) (m : Option (Decoded Cause × ℕ))
      → device_moves (answer_once d c None true (option_map (λ r. r.0) m))
      ≡ is_some (leaf_after_take (traffic.device_alone d packet_codec) (fresh_leaf c) m)
  front-moves c None = refl
  front-moves c (Some m) = took-moves (device_takes d c m.0).0.fault

  once-moves : (c : DeviceEnd S Cause) (held : List ℕ) (kept : Option (EndFault Cause)) (greeted : Bool) → kept ≡ None
      → device_moves (answer_once d c kept greeted (option_map (λ r. r.0) (first held)))
      ≡ is_some (turn_by d (fresh_leaf c) held kept greeted)
  once-moves c held (Some f) greeted none = absurd (cc (none))
  once-moves c held None false none = refl
  once-moves c held None true none = front-moves c (first held)

  shifted-some : (n : ℕ) (o : Option (Taking S × List ℕ)) → is_some o ≡ is_some (shifted n o)
  shifted-some n None = refl
  shifted-some n (Some r) = refl

  pub seat-ready : (e : DeviceTurns S) (k : Link) (room : ℕ) → IsSeat e k → (now : SeatValue S) → seat e k room ≡ now
      → device_moves (device_answer_of d e) ≡ is_some (seat_turn d now)
  seat-ready e k room is now same =
      once-moves (device_core e) e.held (kept_cause e.kept) e.clear.session.hello_went (ap kept_cause is.clear)
      ∙ shifted-some e.taken (device_turn_of d e)
      ∙ sym (ap (λ (o : Option (Taking S × List ℕ)). is_some o) (turn-is d e e k room room [] is (device_turn_of d e) refl))
      ∙ ap (λ (s : SeatValue S). is_some (seat_turn d s)) same

-- The machine end: it neither rests nor fails, but where it is done or keeps a fault.

abbrev IsAtWork : {M : Type 0} → Act M Cause → Type 0
IsAtWork (Works next) = Unit {0}
IsAtWork (Sends p x next) = Unit {0}
IsAtWork (Awaits p) = Unit {0}
IsAtWork (Serves p next) = Unit {0}
IsAtWork (Marks next) = Unit {0}
IsAtWork Rests = ⊥
IsAtWork (Fails p f) = ⊥
IsAtWork Lost = Unit {0}

module _ {M : Type 0} (k : MasterModel M) (h : MachineEnd M Cause) where
  port-works : (o : Option PortEnd) (act : PortEnd → Act M Cause) → ((q : PortEnd) → IsAtWork (act q))
      → IsAtWork (at_port o act)
  port-works None act each = tt
  port-works (Some q) act each = each q

  access-works : (m : M) (b : Bus) (posted : Bool) (q : PortEnd) → IsAtWork (accesses k h m b.port b.access posted q)
  access-works m b true q = tt
  access-works m b false q = tt

  works-work : (m : M) (o : Option Bus) → IsAtWork (works k h m o)
  works-work m None = tt
  works-work m (Some b) = port-works (slice_get h.ports b.port) _ (access-works m b b.access.posted)

  runs-work : (due : Bool) (qs : List PortEnd) → IsAtWork (runs k h due qs)
  runs-work true [] = tt
  runs-work true (q ∷ qs) = tt
  runs-work false qs = works-work (k.issue h.master).0 (k.issue h.master).1

  serves-work : (p : ℕ) (q : PortEnd) (m : Packet) (posted : Bool) → IsAtWork (serves k h p q m posted)
  serves-work p q m true = tt
  serves-work p q m false = tt

  held-works : (p : ℕ) (q : PortEnd) (o : Option Packet) → IsAtWork (serves_held k h p q o)
  held-works p q None = tt
  held-works p q (Some m) = serves-work p q m (is_posted q.session.common m)

  least-works : (o : Option (ℕ × ℕ)) → IsAtWork (serves_least k h o)
  least-works None = tt
  least-works (Some r) = port-works (slice_get h.ports r.0) _ (λ q. held-works r.0 q q.held)

  gathers-work : (o : Option ℕ) → IsAtWork (gathers k h o)
  gathers-work None = least-works (least (map held_time h.ports))
  gathers-work (Some p) = tt

  phase-works : (phase : Phase) → (phase ≡ Done → ⊥) → IsAtWork (acts_in k h phase)
  phase-works (Greet p) going = port-works (slice_get h.ports p) (greets k h p) (λ q. tt)
  phase-works (Meet p) going = tt
  phase-works Run going = runs-work (is_due k h) h.ports
  phase-works (AnswerFrom p a) going = tt
  phase-works (SyncTo p) going = port-works (slice_get h.ports p) (syncs k h p) (λ q. tt)
  phase-works Gather going = gathers-work (first_true (map is_unknown h.ports))
  phase-works Done going = absurd (going refl)

  unless-works : (f : Option (ℕ × EndFault Cause)) → f ≡ None → (h.phase ≡ Done → ⊥) → IsAtWork (acts_unless k h f)
  unless-works (Some f) none going = absurd (cc (none))
  unless-works None none going = phase-works h.phase going

  unless-done : (f : Option (ℕ × EndFault Cause)) → f ≡ None → h.phase ≡ Done → acts_unless k h f ≡ Rests
  unless-done (Some f) none done = absurd (cc (none))
  unless-done None none done = ap (acts_in k h) done

module _ {M : Type 0} (k : MasterModel M) (e : End M) (clear : e.kept ≡ None) where
  abbrev whole : ℕ → Option (Decoded Cause)
  whole p = option_map (λ r. r.0) (first (held_at e p))

  abbrev does : Act M Cause → Option (After M)
  does a = turned k (fresh_hub (core_of e) (length e.ports)) (held_at e) a

  faultless : (core_of e).fault ≡ None
  faultless = ap (option_map port_cause) clear

  hears-moves : (p : ℕ) (f : Option (ℕ × EndFault Cause))
      → moves {E = ℕ × EndFault Cause} (Some (unless_faulty (turn.Took p) f)) ≡ true
  hears-moves p None = refl
  hears-moves p (Some f) = refl

  takes-moves : (p : ℕ) (m : Option (Decoded Cause × ℕ))
      → moves (answer_by k (core_of e) (λ q. option_map (λ r. r.0) m) (Awaits p))
      ≡ is_some (hub_after_take (machine_alone k packet_codec) (fresh_hub (core_of e) (length e.ports)) p m)
  takes-moves p None = refl
  takes-moves p (Some m) = hears-moves p (machine_takes k (core_of e) p m.0).fault

  act-moves : (a : Act M Cause) → IsAtWork a → IsSome (answer_by k (core_of e) whole a)
      → moves (answer_by k (core_of e) whole a) ≡ is_some (does a)
  act-moves (Works next) work answers = refl
  act-moves (Sends p x next) work answers = refl
  act-moves (Awaits p) work answers =
      takes-moves p (first (held_at e p))
      ∙ ap (λ n. is_some (hub_after_take (machine_alone k packet_codec) (fresh_hub (core_of e) (length e.ports)) p
      (first (drop n (held_at e p))))) (sym (zeros (length e.ports) p))
  act-moves (Serves p next) work answers = refl
  act-moves (Marks next) work answers = refl
  act-moves Rests work answers = absurd work
  act-moves (Fails p f) work answers = absurd work
  act-moves Lost work answers = absurd (cc (answers))

  pub going-moves : HasAnswer k (core_of e) → (e.clear.phase ≡ Done → ⊥) → moves (answer_of k e) ≡ is_some (turn_of k e)
  going-moves answers going =
      act-moves (machine_acts k (core_of e)) (unless-works k (core_of e) (core_of e).fault faultless going) (answers whole)

  pub done-still : e.clear.phase ≡ Done → is_some (turn_of k e) ≡ false
  done-still done =
      ap (λ a. is_some (does a)) (unless-done k (core_of e) (core_of e).fault faultless done)

lifted-some : {M : Type 0} (ts : List ℕ) (o : Option (After M)) → is_some o ≡ is_some (lifted ts o)
lifted-some ts None = refl
lifted-some ts (Some r) = refl

module _ {M S : Type 0} (k : MasterModel M) (d : DeviceModel S) (e : End M) (seats : List (SeatValue S))
    (is : IsHub e (map (λ (s : SeatValue S). s.link) seats)) (w : Ends M S) (same : ends_of e seats ≡ w) where
  turn-some : is_some (turn_of k e) ≡ star_effective (star k d) w HubTurn
  turn-some =
      lifted-some _ (turn_of k e) ∙ sym (ap (λ (o : Option (After M)). is_some o) (hub-turn-is k d e seats is))
      ∙ ap (λ w. star_effective (star k d) w HubTurn) same

  pub hub-done : e.clear.phase ≡ Done → false ≡ star_effective (star k d) w HubTurn
  hub-done done = sym (done-still k e is.clear done) ∙ turn-some

  pub hub-ready : HasAnswer k w.hub.core → (e.clear.phase ≡ Done → ⊥)
      → moves (answer_of k e) ≡ star_effective (star k d) w HubTurn
  hub-ready answers going =
      going-moves k e is.clear (subst (λ (w : Ends M S). HasAnswer k w.hub.core) (sym same) answers) going ∙ turn-some
