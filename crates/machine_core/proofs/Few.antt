-- How many bytes are sent in a turn.
use Rattle.std.proofs.Common.{◌≡◌, ℕ, zero, suc, ◌+◌, ◌/◌, ◌≤◌, Bool, true, false, List, [], ◌∷◌, ◌++◌, length}
use Rattle.std.proofs.Common.{length-append, replicate, refl, ap, ◌∙◌, arith, Result, Ok, Err}
use Rattle.std.specs.Prelude.{◌&&◌, if◌then◌else◌, nat_le, Option, Some, None, slice_get}
use Rattle.std.proofs.lemmas.Bool.Decides.{nat_tests}
use Rattle.std.proofs.lemmas.List.{length-map, length-replicate}
use Rattle.cos_base.specs.declared.no_memory.NoMemory.{NoMemory}
use Rattle.cosim_model.specs.declared.values.Access.{Access}
use Rattle.cosim_model.specs.declared.values.Bus.{Bus}
use Rattle.cosim_model.specs.declared.values.Caps.{Caps}
use Rattle.cosim_model.specs.Packets.{Body, BusFields, Packet, body_size, bus_size, enabled, enable_byte, enables_of}
use Rattle.cosim_model.specs.Packets.{enables_if, is_extended, listed, offered}
use Rattle.cosim_model.specs.Packets.Body.{Nop, Hello, Cfg, Read, Write, Interrupt, Sync}
use Rattle.cosim_model.specs.Parts.{MasterModel, IsMaster}
use Rattle.cosim_model.specs.Sessions.{answer_of, ticket_of}
use Rattle.cosim_model.specs.Values.{all_on, bits_of, bytes_of, masked}
use Rattle.ends_model.specs.declared.ends.Turn.{Turn}
use Rattle.ends_model.specs.DeviceTurn.{answer_fields, is_whole_width, refused_read}
use Rattle.ends_model.specs.MachineTurn.{Act, MachineEnd, PortEnd, access_body, access_fields, accesses, at_port}
use Rattle.ends_model.specs.MachineTurn.{bus_body, greets, is_master_size, payload_of, runs, serve_body, serve_read}
use Rattle.ends_model.specs.MachineTurn.{serve_write, syncs, works}
use Rattle.ends_model.specs.MachineTurn.Act.{Works, Sends, Awaits, Serves, Marks, Rests, Fails, Lost}
use Rattle.rp_packet.specs.declared.fault.Cause.{Cause}
use Rattle.rp_packet.specs.CodecLaws.{length-packet_bytes}
use Rattle.rp_packet.specs.Spelling.{packet_bytes}
use Rattle.machine_core.specs.Machines.{ActsBy, Core, Does}
use Rattle.machine_core.specs.Ports.{IsServed}
use Rattle.machine_core.specs.Services.{sent_for}
use Rattle.machine_core.proofs.Working.{few-bytes}

-- how long lists are

length-bytes : (v n : ℕ) → length (bytes_of v n) ≡ n
length-bytes v zero = refl
length-bytes v (suc n) = ap suc (length-bytes (v / 256) n)

length-bits : (v n : ℕ) → length (bits_of v n) ≡ n
length-bits v zero = refl
length-bits v (suc n) = ap suc (length-bits (v / 2) n)

few-masked : (ons : List Bool) (bs : List ℕ) → length (masked ons bs) ≤ length bs
few-masked [] bs = omega arith
few-masked (on ∷ ons) [] = omega arith
few-masked (on ∷ ons) (b ∷ bs) = (let rest = few-masked ons bs in omega (arith, rest))

few-listed : (b : Bool) (n : ℕ) (ns : List ℕ) → length (listed b n ns) ≤ suc (length ns)
few-listed true n ns = omega arith
few-listed false n ns = omega arith

few-offered : (c : Caps) → length (offered c) ≤ 3
few-offered c =
    let third = few-listed c.posted 3 [] in
    let second = few-listed c.enables 2 (listed c.posted 3 []) in
    let first = few-listed c.base 1 (listed c.enables 2 (listed c.posted 3 [])) in
    omega (arith, first, second, third)

few-payload : (a : Access) (write : Bool) → length (payload_of a write) ≤ a.size
few-payload a true = (let same = length-bytes a.value a.size in omega (arith, same))
few-payload a false = omega arith

few-enables : (common : Caps) (ons : List Bool) (all : Bool) → length (enables_of common ons all) ≤ length ons
few-enables common ons true = omega arith
few-enables common ons false = by (common.base && common.enables)
  where
    by : (b : Bool) → length (enables_if ons b) ≤ length ons
    by true = (let same = length-map ons enable_byte in omega (arith, same))
    by false = omega arith

-- how long packets are

few-bus : (x : Bool) (f : BusFields) → bus_size x f ≤ 80 + length f.payload + length f.enables
few-bus true f = omega arith
few-bus false f = omega arith

few-body : (write : Bool) (f : BusFields) → body_size (bus_body write f) ≤ 80 + length f.payload + length f.enables
few-body true f = few-bus (is_extended f) f
few-body false f = few-bus (is_extended f) f

few-access : (common : Caps) (time : ℕ) (a : Access) → a.size ≤ 8 → body_size (access_body common time a) ≤ 4176
few-access common time a small =
    let all = few-body a.write (access_fields common time a) in
    let bytes = few-payload a a.write in
    let lanes = few-enables common (bits_of a.lanes a.size) (all_on (bits_of a.lanes a.size)) in
    let size = length-bits a.lanes a.size in
    omega (arith, all, bytes, lanes, size, small)

few-answer : (f : BusFields) (code len : ℕ) (bytes : List ℕ) → length bytes ≤ 4096
    → bus_size (is_extended (answer_fields f code len bytes)) (answer_fields f code len bytes) ≤ 4176
few-answer f code len bytes few =
    let all = few-bus (is_extended (answer_fields f code len bytes)) (answer_fields f code len bytes) in
    omega (arith, all, few)

few-refused : (f : BusFields) → body_size (refused_read f) ≤ 4176
few-refused f = by (nat_le f.len 4096) refl
  where
    by : (b : Bool) → nat_le f.len 4096 ≡ b
        → body_size (if b then Read (answer_fields f 1 f.len (replicate f.len 0)) else Read (answer_fields f 1 0 [])) ≤ 4176
    by true is =
        let few : f.len ≤ 4096 = grind (arith, nat_tests) in
        let size = length-replicate {A = ℕ} f.len 0 in
        few-answer f 1 f.len (replicate f.len 0) (omega (arith, few, size))
    by false is = few-answer f 1 0 [] (omega arith)

master-size : (f : BusFields) → is_master_size f ≡ true → f.len ≤ 4096
master-size f is = by (nat_le 1 f.len) (nat_le f.len 4096) (is_whole_width f) refl is
  where
    by : (a b c : Bool) → nat_le f.len 4096 ≡ b → (a && b) && c ≡ true → f.len ≤ 4096
    by true true c test e = grind (arith, nat_tests)
    by true false c test e = absurd (cc (e))
    by false b c test e = absurd (cc (e))

module _ {M : Type 0} (k : MasterModel M) where
  few-read : IsMaster k → (m : M) (tick port : ℕ) (f : BusFields) (size : Bool) → is_master_size f ≡ size
      → body_size (serve_read k m tick port f size).answer ≤ 4176
  few-read law m tick port f true is =
      let most = master-size f is in
      let size = (law.read_is m f.addr f.len).0 in
      let bytes = few-masked (enabled f) (k.read m f.addr f.len).1 in
      few-answer f (k.read m f.addr f.len).0 f.len (masked (enabled f) (k.read m f.addr f.len).1)
      (omega (arith, most, size, bytes))
  few-read law m tick port f false is = few-refused f

  few-write : (m : M) (tick port : ℕ) (f : BusFields) (size : Bool)
      → body_size (serve_write k m tick port f size).answer ≤ 4176
  few-write m tick port f true = few-answer f _ f.len [] (omega arith)
  few-write m tick port f false = few-answer f 1 f.len [] (omega arith)

  few-service : IsMaster k → (m : M) (tick port : ℕ) (b : Body) → IsServed b
      → body_size (serve_body k m tick port b).answer ≤ 4176
  few-service law m tick port (Read f) is = few-read law m tick port f (is_master_size f) refl
  few-service law m tick port (Write f) is = few-write m tick port f (is_master_size f)
  few-service law m tick port (Interrupt time vector line val) is = omega arith
  few-service law m tick port Nop is = absurd is
  few-service law m tick port (Hello major minor caps) is = absurd is
  few-service law m tick port (Cfg opt set) is = absurd is
  few-service law m tick port (Sync time) is = absurd is

few-packet : (before after : List ℕ) (x : Packet) → after ≡ before ++ packet_bytes x → body_size x.body ≤ 4176
    → length after ≤ length before + 4176
few-packet before after x is few =
    let whole = ap (λ (bs : List ℕ). length bs) is ∙ length-append before (packet_bytes x) in
    let size = length-packet_bytes x in
    omega (arith, whole, size, few)

pub few-same : (before after : List ℕ) → after ≡ before → length after ≤ length before + 4176
few-same before after is = (let size = ap (λ (bs : List ℕ). length bs) is in omega (arith, size))

-- what is sent for a request that is served
pub few-served : {M : Type 0} (k : MasterModel M) → IsMaster k → (m : M) (tick port : ℕ) (x : Packet) → IsServed x.body
    → (before after : List ℕ) (answered : Bool)
    → after ≡ before ++ sent_for x (serve_body k m tick port x.body).answer answered
    → length after ≤ length before + 4176
few-served k law m tick port x served before after true is =
    few-packet before after (answer_of (ticket_of x) (serve_body k m tick port x.body).answer) is
    (few-service k law m tick port x.body served)
few-served k law m tick port x served before after false is =
    (let whole = ap (λ (bs : List ℕ). length bs) is ∙ length-append before [] in omega (arith, whole))

-- What is sent in a turn that serves no request.

abbrev Few : {M : Type 0} → Act M Cause → Type 0
Few (Works next) = Unit {0}
Few (Sends p x next) = body_size x.body ≤ 4176
Few (Awaits p) = Unit {0}
Few (Serves p next) = Unit {0}
Few (Marks next) = Unit {0}
Few Rests = Unit {0}
Few (Fails p f) = Unit {0}
Few Lost = Unit {0}

module _ {M : Type 0} where
  few-does : (a : Act M Cause) (old new : Core M) (before after : List ℕ) (t : Turn) → Few a
      → Does a old new before after t → length after ≤ length before + 4176
  few-does (Works next) old new before after t few does = few-same before after does.2
  few-does (Sends p x next) old new before after t few does = few-packet before after x does.2 few
  few-does (Awaits p) old new before after t few does = few-same before after does.2
  few-does (Serves p next) old new before after t few does = few-same before after does.2
  few-does (Marks next) old new before after t few does = few-same before after does.2
  few-does Rests old new before after t few does = few-same before after does.2
  few-does (Fails p f) old new before after t few does = absurd does
  few-does Lost old new before after t few does = absurd does

  few-acts : (a : Act M Cause) (old new : Core M) (before after : List ℕ) (r : Result Turn NoMemory) → Few a
      → ActsBy a old new before after r → length after ≤ length before + 4176
  few-acts a old new before after (Ok t) few does = few-does a old new before after t few does
  few-acts a old new before after (Err e) few does = few-same before after does.1

  few-port : (o : Option PortEnd) (act : PortEnd → Act M Cause) → ((q : PortEnd) → Few (act q)) → Few (at_port o act)
  few-port None act each = tt
  few-port (Some q) act each = each q

module _ {M : Type 0} (k : MasterModel M) (h : MachineEnd M Cause) where
  few-accesses : (m : M) (p : ℕ) (a : Access) (posted : Bool) (q : PortEnd) → a.size ≤ 8
      → Few (accesses k h m p a posted q)
  few-accesses m p a true q small = few-access q.session.common h.tick a small
  few-accesses m p a false q small = few-access q.session.common h.tick a small

  few-works : IsMaster k → (m : M) (o : Option Bus) → (k.issue h.master).1 ≡ o → Few (works k h m o)
  few-works law m None is = tt
  few-works law m (Some b) is =
      few-port (slice_get h.ports b.port) _ (λ q. few-accesses m b.port b.access b.access.posted q
      (few-bytes b.access.size (law.issue_access h.master b is).1.size))

  few-runs : IsMaster k → (due : Bool) (qs : List PortEnd) → Few (runs k h due qs)
  few-runs law true [] = tt
  few-runs law true (q ∷ qs) = omega arith
  few-runs law false qs = few-works law (k.issue h.master).0 (k.issue h.master).1 refl

-- what each phase sends

module _ {M : Type 0} (k : MasterModel M) (old new : Core M) (before after : List ℕ) where
  pub few-greet : (p : ℕ) (r : Result Turn NoMemory)
      → ActsBy (at_port (slice_get old.end.ports p) (greets k old.end p)) old new before after r
      → length after ≤ length before + 4176
  few-greet p r does =
      few-acts _ old new before after r (few-port (slice_get old.end.ports p) (greets k old.end p) (λ q.
      (let few = few-offered q.session.offers in omega (arith, few)))) does

  pub few-sync : (p : ℕ) (t : Turn) → Does (at_port (slice_get old.end.ports p) (syncs k old.end p)) old new before after t
      → length after ≤ length before + 4176
  few-sync p t does =
      few-does _ old new before after t (few-port (slice_get old.end.ports p) (syncs k old.end p) (λ q. omega arith)) does

  pub few-run : IsMaster k → (due : Bool) (r : Result Turn NoMemory)
      → ActsBy (runs k old.end due old.end.ports) old new before after r → length after ≤ length before + 4176
  few-run law due r does = few-acts _ old new before after r (few-runs k old.end law due old.end.ports) does

  pub few-send : (m : M) (p : ℕ) (a : Access) (posted : Bool) (t : Turn) → a.size ≤ 8
      → Does (at_port (slice_get old.end.ports p) (accesses k old.end m p a posted)) old new before after t
      → length after ≤ length before + 4176
  few-send m p a posted t small does =
      few-does _ old new before after t (few-port (slice_get old.end.ports p) (accesses k old.end m p a posted) (λ q.
      few-accesses k old.end m p a posted q small)) does
