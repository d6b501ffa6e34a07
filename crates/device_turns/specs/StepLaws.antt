-- One turn of a device end over received bytes: it keeps the hello, moves on, and isn't changed by more bytes behind.
use Rattle.std.proofs.Common.{◌≡◌, ℕ, zero, suc, ◌+◌, ◌<◌, ◌≤◌, Bool, true, false, List, [], ◌++◌, length, drop, refl, sym, ap, ◌∙◌, arith, Result, Ok, Err}
use Rattle.std.specs.Prelude.{Option, Some, None, ◌&&◌, is_none, option_map}
use Rattle.std.proofs.lemmas.List.{drop-append-le, length-drop}
use Rattle.process_network.specs.PacketStar.{leaf_turn_by, leaf_after_take}
use Rattle.process_network.specs.PacketStar.LeafOutlook.{LeafWaits}
use Rattle.cosim_model.specs.declared.session.EndFault.{EndFault}
use Rattle.cosim_model.specs.declared.session.Event.{Event}
use Rattle.cosim_model.specs.declared.session.Event.TheVariants.{Nothing, Met, Asked, Told, Answered, SyncDone}
use Rattle.cosim_model.specs.declared.session.SessionFault.{SessionFault}
use Rattle.cosim_model.specs.declared.session.Ticket.{Ticket}
use Rattle.cosim_model.specs.declared.values.Want.{Want}
use Rattle.cosim_model.specs.Parts.{DeviceModel}
use Rattle.cosim_model.specs.Packets.{Body, BusFields, Packet, Decoded}
use Rattle.cosim_model.specs.Packets.Body.{Nop, Hello, Cfg, Read, Write, Interrupt, Sync}
use Rattle.cosim_model.specs.Packets.Decoded.{Valid, Malformed}
use Rattle.cosim_model.specs.Sessions.{Session, take_packet}
use Rattle.ends_model.specs.declared.ends.OpenSync.{OpenSync}
use Rattle.ends_model.specs.DeviceTurn.{DeviceEnd, Settling, Ends as Last, Goes_on, settle, settle_as, settle_one, with_kind, next_of, joined, acts, answer_read, answer_write, do_posted, answered_own, is_device_size, device_looks, device_hears, device_judges, device_outlook, want_body}
use Rattle.ends_model.specs.Traffic as traffic
use Rattle.rp_packet.specs.declared.fault.Cause.{Cause}
use Rattle.rp_packet.specs.CodecLaws.{codec-laws}
use Rattle.rp_packet.specs.Refusals.{first}
use Rattle.rp_packet.specs.Streams.{packet_codec}
use Rattle.device_core.proofs.Taking.{take-keeps}
use Rattle.device_core.proofs.Keeping.{request-stays}
use Rattle.device_turns.specs.Runs.{Taking}

-- How far an end has come: the bytes that it has taken, and its hello.

abbrev pub went : Bool → ℕ
went true = 1
went false = 0

abbrev pub come : {S : Type 0} → Taking S → ℕ
come l = l.taken + went l.core.session.hello_went

went-most : (b : Bool) → went b ≤ 1
went-most true = omega arith
went-most false = omega arith

pub some-is : {A : Type 0} (a b : A) → Some a ≡ Some b → a ≡ b
some-is a b e = cc (e)

-- The hello that went stays so.

module _ {S : Type 0} (d : DeviceModel S) where
  settled-one-went : (e : DeviceEnd S Cause) (b free : Bool) (want : Option (Want × Bool)) (o : Option OpenSync)
      → e.session.hello_went ≡ b → (next_of (settle_as d e free want o)).session.hello_went ≡ b
  settled-one-went e b false want o is = is
  settled-one-went e b true (Some (w, true)) o is =
      (request-stays e.session false (want_body e.session.common (d.due e.device) w)).greeted ∙ is
  settled-one-went e b true (Some (w, false)) (Some o) is =
      (request-stays e.session true (want_body e.session.common (d.due e.device) w)).greeted ∙ is
  settled-one-went e b true (Some (w, false)) None is = is
  settled-one-went e b true None (Some o) is = is
  settled-one-went e b true None None is = is

  joined-went : (b : Bool) (x : Settling S Cause) (r : DeviceEnd S Cause × List Packet) → (next_of x).session.hello_went ≡ b
      → r.0.session.hello_went ≡ b → (joined x r).0.session.hello_went ≡ b
  joined-went b (Last e sends) r one rest = one
  joined-went b (Goes_on e sends) r one rest = rest

  settle-went : (n : ℕ) (e : DeviceEnd S Cause) (b : Bool) → e.session.hello_went ≡ b
      → (settle d n e).0.session.hello_went ≡ b
  settle-went zero e b is = is
  settle-went (suc n) e b is =
      let one = settled-one-went e b (e.session.hello_came && is_none e.own) (option_map (with_kind d e) (d.want e.device)) e.open_sync is in
      joined-went b (settle_one d e) (settle d n (next_of (settle_one d e))) one
      (settle-went n (next_of (settle_one d e)) b one)

  read-went : (e : DeviceEnd S Cause) (t : Ticket) (f : BusFields) (b served : Bool) → e.session.hello_went ≡ b
      → (answer_read d e t f served).0.session.hello_went ≡ b
  read-went e t f b true is = is
  read-went e t f b false is = is

  write-went : (e : DeviceEnd S Cause) (t : Ticket) (f : BusFields) (b served : Bool) → e.session.hello_went ≡ b
      → (answer_write d e t f served).0.session.hello_went ≡ b
  write-went e t f b true is = is
  write-went e t f b false is = is

  posted-went : (e : DeviceEnd S Cause) (f : BusFields) (b served : Bool) → e.session.hello_went ≡ b
      → (do_posted d e f served).0.session.hello_went ≡ b
  posted-went e f b true is = is
  posted-went e f b false is = is

  own-went : (e : DeviceEnd S Cause) (body : Body) (b : Bool) (own : Option Want) → e.session.hello_went ≡ b
      → (answered_own d e body own).0.session.hello_went ≡ b
  own-went e body b None is = is
  own-went e body b (Some w) is = is

  acts-went : (e : DeviceEnd S Cause) (body : Body) (v : Event) (b : Bool) → e.session.hello_went ≡ b
      → (acts d e body v).0.session.hello_went ≡ b
  acts-went e (Read f) (Asked t) b is = read-went e t f b (is_device_size f) is
  acts-went e (Write f) (Asked t) b is = write-went e t f b (is_device_size f) is
  acts-went e (Write f) Told b is = posted-went e f b (is_device_size f) is
  acts-went e (Sync time) (Asked t) b is = is
  acts-went e Nop (Asked t) b is = is
  acts-went e (Hello major minor caps) (Asked t) b is = is
  acts-went e (Cfg opt set) (Asked t) b is = is
  acts-went e (Interrupt time vector line val) (Asked t) b is = is
  acts-went e Nop Told b is = is
  acts-went e (Hello major minor caps) Told b is = is
  acts-went e (Cfg opt set) Told b is = is
  acts-went e (Read f) Told b is = is
  acts-went e (Interrupt time vector line val) Told b is = is
  acts-went e (Sync time) Told b is = is
  acts-went e Nop Answered b is = own-went e Nop b e.own is
  acts-went e (Hello major minor caps) Answered b is = own-went e (Hello major minor caps) b e.own is
  acts-went e (Cfg opt set) Answered b is = own-went e (Cfg opt set) b e.own is
  acts-went e (Read f) Answered b is = own-went e (Read f) b e.own is
  acts-went e (Write f) Answered b is = own-went e (Write f) b e.own is
  acts-went e (Interrupt time vector line val) Answered b is = own-went e (Interrupt time vector line val) b e.own is
  acts-went e (Sync time) Answered b is = own-went e (Sync time) b e.own is
  acts-went e Nop Nothing b is = is
  acts-went e (Hello major minor caps) Nothing b is = is
  acts-went e (Cfg opt set) Nothing b is = is
  acts-went e (Read f) Nothing b is = is
  acts-went e (Write f) Nothing b is = is
  acts-went e (Interrupt time vector line val) Nothing b is = is
  acts-went e (Sync time) Nothing b is = is
  acts-went e Nop Met b is = is
  acts-went e (Hello major minor caps) Met b is = is
  acts-went e (Cfg opt set) Met b is = is
  acts-went e (Read f) Met b is = is
  acts-went e (Write f) Met b is = is
  acts-went e (Interrupt time vector line val) Met b is = is
  acts-went e (Sync time) Met b is = is
  acts-went e Nop SyncDone b is = is
  acts-went e (Hello major minor caps) SyncDone b is = is
  acts-went e (Cfg opt set) SyncDone b is = is
  acts-went e (Read f) SyncDone b is = is
  acts-went e (Write f) SyncDone b is = is
  acts-went e (Interrupt time vector line val) SyncDone b is = is
  acts-went e (Sync time) SyncDone b is = is

  judges-went : (e : DeviceEnd S Cause) (p : Packet) (s : Session) (v : Result Event SessionFault) (b : Bool)
      → s.hello_went ≡ b → (device_judges d e p s v).0.session.hello_went ≡ b
  judges-went e p s (Err f) b is = is
  judges-went e p s (Ok v) b is =
      let r = acts d (record e { session = s }) p.body v in
      settle-went (suc (d.left r.0.device)) r.0 b (acts-went (record e { session = s }) p.body v b is)

  pub takes-went : (e : DeviceEnd S Cause) (m : Decoded Cause) → (device_hears d e m).0.session.hello_went ≡ e.session.hello_went
  takes-went e (Malformed cause) = refl
  takes-went e (Valid p) =
      let r = take_packet e.session p in
      judges-went e p r.0 r.1 e.session.hello_went (take-keeps e.session p).greeted

  -- what a turn shows
  pub record IsStep (l : Taking S) (x : List ℕ) (r : Taking S × List ℕ) : Type 0 where
    pub moves : come l < come r.0
    pub within : l.taken ≤ length x → r.0.taken ≤ length x
    pub steady : (y : List ℕ) → l.taken ≤ length x → traffic.device_turn d packet_codec l (x ++ y) ≡ Some r

  take-step : (l : Taking S) (x : List ℕ) (r : Taking S × List ℕ) (m : Option (Decoded Cause × ℕ))
      → device_outlook l.core ≡ LeafWaits → first (drop l.taken x) ≡ m
      → leaf_after_take (traffic.device_alone d packet_codec) l m ≡ Some r → IsStep l x r
  take-step l x r None waits front is = absurd (cc (is))
  take-step l x r (Some m) waits front is =
      let decided = codec-laws.decided (drop l.taken x) in
      let here = decided [] m front in
      let same = some-is _ r is in
      let went_is = ap (λ (s : Taking S × List ℕ). went s.0.core.session.hello_went) (sym same) ∙ ap went (takes-went l.core m.0) in
      let taken_is : r.0.taken ≡ l.taken + m.1 = ap (λ (s : Taking S × List ℕ). s.0.taken) (sym same) in
      let some = here.0 in
      let few = here.1 in
      record {
        moves = omega (arith, went_is, taken_is, some);
        within = λ within. omega (arith, taken_is, few, length-drop l.taken x, within);
        steady = λ y within.
            ap (leaf_turn_by (traffic.device_alone d packet_codec) l (x ++ y)) waits
            ∙ ap (λ b. leaf_after_take (traffic.device_alone d packet_codec) l (first b)) (drop-append-le l.taken x y within)
            ∙ ap (leaf_after_take (traffic.device_alone d packet_codec) l) (decided y m front).2 ∙ is;
      }

  -- by the fault that is kept, and whether the hello went
  turn-step : (l : Taking S) (x : List ℕ) (r : Taking S × List ℕ) (k : Option (EndFault Cause)) (b : Bool)
      → l.core.fault ≡ k → l.core.session.hello_went ≡ b
      → leaf_turn_by (traffic.device_alone d packet_codec) l x (device_looks l.core k b) ≡ Some r → IsStep l x r
  turn-step l x r (Some f) b fault hello is = absurd (cc (is))
  turn-step l x r None false fault hello is =
      let same = some-is _ r is in
      let taken_is : r.0.taken ≡ l.taken = ap (λ (s : Taking S × List ℕ). s.0.taken) (sym same) in
      let new_is = ap (λ (s : Taking S × List ℕ). went s.0.core.session.hello_went) (sym same) in
      let old_is = ap went hello in
      record {
        moves = omega (arith, taken_is, new_is, old_is);
        within = λ within. omega (arith, taken_is, within);
        steady = λ y within.
            ap (λ (k : Option (EndFault Cause)). leaf_turn_by (traffic.device_alone d packet_codec) l (x ++ y) (device_looks l.core k l.core.session.hello_went)) fault
            ∙ ap (λ (h : Bool). leaf_turn_by (traffic.device_alone d packet_codec) l (x ++ y) (device_looks l.core None h)) hello ∙ is;
      }
  turn-step l x r None true fault hello is =
      take-step l x r (first (drop l.taken x))
      (ap (λ (k : Option (EndFault Cause)). device_looks l.core k l.core.session.hello_went) fault
      ∙ ap (λ (h : Bool). device_looks l.core None h) hello) refl is

  pub step-is : (l : Taking S) (x : List ℕ) (r : Taking S × List ℕ) → traffic.device_turn d packet_codec l x ≡ Some r → IsStep l x r
  step-is l x r is = turn-step l x r l.core.fault l.core.session.hello_went refl refl is

  -- An end has come no further than its bytes and its hello.
  pub come-most : (l : Taking S) (x : List ℕ) → l.taken ≤ length x → come l ≤ suc (length x)
  come-most l x within = let most = went-most l.core.session.hello_went in omega (arith, most, within)
