-- The disk keeps the laws of devices.
use Rattle.std.specs.Prelude.{◌≡◌, ℕ, zero, suc, ◌+◌, ◌-◌, ◌*◌, ◌%◌, ◌^◌, ◌<◌, ◌≤◌, Bool, true, false, if◌then◌else◌, ◌&&◌, nat_eq, min, Option, Some, None, List, length, take, drop, refl}
use Rattle.std.proofs.Common.{arith, ap, sym, subst, inl, ◌∙◌, length-take}
use Rattle.cosim_model.specs.declared.values.Access.{Access}
use Rattle.cosim_model.specs.declared.values.Answer.{Answer}
use Rattle.cosim_model.specs.declared.values.Reply.{Reply}
use Rattle.cosim_model.specs.declared.values.Want.{Want}
use Rattle.cosim_model.specs.Parts.{IsDevice, IsWant}
use Rattle.dev_line.specs.declared.request.Request.{Request}
use Rattle.dev_line.specs.declared.request.Request.TheVariants.{Read, Write, Refused}
use Rattle.dev_line.specs.Chunks.{chunk_of, length-chunk_of, chunk_of-take, All-chunk_of}
use Rattle.dev_line.specs.Wires.{WireState, due_of, moved, ruled, answered, renewed, levels_left}
use Rattle.dev_line.specs.WireLaws.{Follows, Follows-moved, Follows-ruled, KeepsWant, KeepsWant-work, KeepsWant-same, ruled-seen, ruled-left, answered-left, answered-seen, answered-due, levels_left-most, levels_left-zero, quiet-levels_left, wanted_before-quiet, wanted_before-none, wanted_before-some, wanted_before-is}
use Rattle.cosim_model.specs.Values.{no_caps}
use Rattle.dev_disk.specs.Works.{place_of, sector_at, disk_place, is_bad, taken_in}
use Rattle.dev_disk.specs.Disks.{DiskRegisters, is_busy, level, transfer, chunk_want, engine_left, present, register_written, unless_busy, can_start, controlled, started, acted, requested, advanced, ended, continued, transferred, worked, fed, disk_model}
use Rattle.dev_disk.specs.declared.engine.Engine.{Engine}
use Rattle.dev_disk.specs.declared.engine.Engine.TheVariants.{Idle, Busy}
use Rattle.dev_disk.specs.declared.register.Register.{Register}
use Rattle.dev_disk.specs.declared.register.Register.TheVariants.{Sector, Count, Address, Control, Status, Size}

-- What an access does besides the line rule: it leaves the line, and the chunk that is there.
record Acts (s v : DiskRegisters) : Type 0 where
  wire : v.wire ≡ s.wire
  chunk : is_busy s.engine ≡ true → chunk_want v v.engine ≡ chunk_want s s.engine

Acts-same : (s : DiskRegisters) → Acts s s
Acts-same s = record { wire = refl; chunk = λ b. refl }

Acts-unless_busy : (s : DiskRegisters) (written : DiskRegisters × Answer) (busy : Bool) → is_busy s.engine ≡ busy → written.0.wire ≡ s.wire → Acts s (unless_busy s written busy).0
Acts-unless_busy s written true e w = Acts-same s
Acts-unless_busy s written false e w = record { wire = w; chunk = λ b. absurd (cc) }

present-wire : (s : DiskRegisters) (after : ℕ) (bad : Bool) → (present s after bad).wire ≡ s.wire
present-wire s after true = refl
present-wire s after false = refl

started-wire : (s : DiskRegisters) (to_disk enabled can : Bool) → (started s to_disk enabled can).0.wire ≡ s.wire
started-wire s to_disk enabled true = present-wire (record s { to_disk = to_disk; enabled = enabled; done = false; error = false }) (8 * s.count - 1) (is_bad s.bad s.sector)
started-wire s to_disk enabled false = refl

controlled-wire : (s : DiskRegisters) (starts to_disk enabled : Bool) → (controlled s starts to_disk enabled).0.wire ≡ s.wire
controlled-wire s true to_disk enabled = started-wire s to_disk enabled (can_start s)
controlled-wire s false to_disk enabled = refl

chunk-same : (s : DiskRegisters) (engine : Engine) → chunk_want (record s { done = false; error = false }) engine ≡ chunk_want s engine
chunk-same s Idle = refl
chunk-same s (Busy after) = transfer-same s.to_disk
  where
    transfer-same : (to_disk : Bool) → Some (transfer (record s { done = false; error = false }) after to_disk) ≡ Some (transfer s after to_disk)
    transfer-same true = refl
    transfer-same false = refl

Acts-written : (s : DiskRegisters) (register : Register) (value : ℕ) → Acts s (register_written s register value).0
Acts-written s Sector value = Acts-unless_busy s _ (is_busy s.engine) refl refl
Acts-written s Count value = Acts-unless_busy s _ (is_busy s.engine) refl refl
Acts-written s Address value = Acts-unless_busy s _ (is_busy s.engine) refl refl
Acts-written s Control value = Acts-unless_busy s _ (is_busy s.engine) refl (controlled-wire s _ _ _)
Acts-written s Status value = record { wire = refl; chunk = λ b. chunk-same s s.engine }
Acts-written s Size value = Acts-same s

Acts-acted : (s : DiskRegisters) (request : Request Register) → Acts s (acted s request).0
Acts-acted s (Read register) = Acts-same s
Acts-acted s (Write register value) = Acts-written s register value
Acts-acted s (Refused code) = Acts-same s

chunk_want-busy : (s : DiskRegisters) (engine : Engine) (x : Want) → chunk_want s engine ≡ Some x → is_busy engine ≡ true
chunk_want-busy s Idle x e = absurd (cc)
chunk_want-busy s (Busy after) x e = refl

access-keeps : (s : DiskRegisters) (tick : ℕ) (a : Access) → s.wire.seen ≤ tick → KeepsWant s.wire (disk_model.access s tick a).0.wire (chunk_want s s.engine) (chunk_want (disk_model.access s tick a).0 (disk_model.access s tick a).0.engine)
access-keeps s tick a later =
    let after = (acted (advanced s tick) (requested a)).0 in
    let acts = Acts-acted (advanced s tick) (requested a) in
    subst (λ w. KeepsWant s.wire (ruled w (is_busy s.engine) (level after) (is_busy after.engine)) (chunk_want s s.engine) (chunk_want after after.engine)) (sym acts.wire)
    (KeepsWant-work s.wire tick (is_busy s.engine) (level after) (is_busy after.engine) (chunk_want s s.engine) (chunk_want after after.engine) later
    (λ x e. let busy = chunk_want-busy s s.engine x e in (busy, acts.chunk busy ∙ e)))

access-seen : (s : DiskRegisters) (tick : ℕ) (a : Access) → (disk_model.access s tick a).0.wire.seen ≡ tick
access-seen s tick a =
    let after = (acted (advanced s tick) (requested a)).0 in
    ruled-seen after.wire (is_busy s.engine) (level after) (is_busy after.engine) ∙ ap (λ w. w.seen) (Acts-acted (advanced s tick) (requested a)).wire

-- A reply keeps `seen`, and due times don't fall.
record Timely (s v : DiskRegisters) : Type 0 where
  seen : v.wire.seen ≡ s.wire.seen
  due : due_of s.wire ≤ due_of v.wire

Timely-ended : (s : DiskRegisters) (error : Bool) → Timely s (ended s error)
Timely-ended s error =
    let level_now = level (record s { engine = Idle; done = true; error = error }) in
    record { seen = ruled-seen s.wire false level_now false; due = (Follows-ruled s.wire false level_now false).due }

Timely-continued : (s : DiskRegisters) (after : ℕ) (bad : Bool) → Timely s (continued s after bad)
Timely-continued s after true = Timely-ended s true
Timely-continued s after false = record { seen = refl; due = omega arith }

Timely-transferred : (s : DiskRegisters) (after : ℕ) → Timely s (transferred s after)
Timely-transferred s zero = Timely-ended s false
Timely-transferred s (suc after) = Timely-continued s after _

Timely-worked : (s : DiskRegisters) (engine : Engine) (code : ℕ) (bytes : List ℕ) → Timely s (worked s engine code bytes)
Timely-worked s Idle code bytes = record { seen = refl; due = omega arith }
Timely-worked s (Busy after) zero bytes =
    let timely = Timely-transferred (record s { sectors = taken_in s.to_disk s.sectors (disk_place s.sector s.count after) bytes }) (min after 1023) in
    record { seen = timely.seen; due = timely.due }
Timely-worked s (Busy after) (suc code) bytes = Timely-ended s true

Timely-fed : (s : DiskRegisters) (reply : Reply) (pending : Bool) → Timely s (fed s reply pending)
Timely-fed s reply true = record { seen = answered-seen s.wire (level s) (is_busy s.engine); due = answered-due s.wire (level s) (is_busy s.engine) }
Timely-fed s reply false = Timely-worked s s.engine reply.code reply.bytes

-- A reply to a want lowers what is left.
abbrev left_of : DiskRegisters → ℕ
left_of s = levels_left s.wire (level s) + engine_left s.engine

ended-left : (s : DiskRegisters) (error : Bool) → s.wire.pending ≡ false → 2 ≤ engine_left s.engine → left_of (ended s error) < left_of s
ended-left s error p busy =
    let few = ruled-left s.wire (level (record s { engine = Idle; done = true; error = error })) false p in
    omega arith

continued-left : (s : DiskRegisters) (after : ℕ) (bad : Bool) → s.wire.pending ≡ false → 2 ≤ engine_left s.engine → engine_left (Busy after) < engine_left s.engine → left_of (continued s after bad) < left_of s
continued-left s after true p busy lower = ended-left s true p busy
continued-left s after false p busy lower =
    let none = quiet-levels_left (renewed s.wire) (level (continued s after false)) p in
    omega arith

transferred-left : (s : DiskRegisters) (after : ℕ) → s.wire.pending ≡ false → engine_left s.engine ≡ after + 2 → after ≤ 1023 → left_of (transferred s after) < left_of s
transferred-left s zero p is few = ended-left s false p (omega arith)
transferred-left s (suc after) p is few = continued-left s after _ p (omega arith) (omega arith)

worked-left : (s : DiskRegisters) (engine : Engine) (code : ℕ) (bytes : List ℕ) → s.wire.pending ≡ false → engine_left s.engine ≡ engine_left engine → is_busy engine ≡ true → left_of (worked s engine code bytes) < left_of s
worked-left s Idle code bytes p is busy = absurd (cc)
worked-left s (Busy after) zero bytes p is busy = transferred-left (record s { sectors = taken_in s.to_disk s.sectors (disk_place s.sector s.count after) bytes }) (min after 1023) p is (omega arith)
worked-left s (Busy after) (suc code) bytes p is busy = ended-left s true p (omega arith)

fed-left : (s : DiskRegisters) (reply : Reply) (x : Want) → disk_model.want s ≡ Some x → left_of (fed s reply s.wire.pending) < left_of s
fed-left s reply x e = go s.wire.pending refl
  where
    go : (pending : Bool) → s.wire.pending ≡ pending → left_of (fed s reply pending) < left_of s
    go true p = (let lower = answered-left s.wire (level s) (is_busy s.engine) p in omega arith)
    go false p = worked-left s s.engine reply.code reply.bytes p refl (chunk_want-busy s s.engine x (sym (wanted_before-quiet s.wire (chunk_want s s.engine) p) ∙ e))

engine_left-most : (engine : Engine) → engine_left engine ≤ 1025
engine_left-most Idle = omega arith
engine_left-most (Busy after) = omega arith

engine_left-zero : (s : DiskRegisters) (engine : Engine) → engine_left engine ≡ 0 → chunk_want s engine ≡ None
engine_left-zero s Idle e = refl
engine_left-zero s (Busy after) e = absurd (omega arith)

chunk_want-none : (s : DiskRegisters) (engine : Engine) → chunk_want s engine ≡ None → engine_left engine ≡ 0
chunk_want-none s Idle e = refl
chunk_want-none s (Busy after) e = absurd (cc)

transfer-is : (s : DiskRegisters) (after : ℕ) (to_disk : Bool) → IsWant no_caps (transfer s after to_disk)
transfer-is s after true = (omega arith, omega arith, omega arith)
transfer-is s after false =
    let bytes = take 64 (drop (disk_place s.sector s.count after) s.sectors) in
    let few : length bytes ≤ 64 = (let n = length-take 64 (drop (disk_place s.sector s.count after) s.sectors) in omega arith) in
    (omega arith, omega arith, omega arith, omega arith, length-chunk_of bytes, chunk_of-take bytes 64 few (omega arith), All-chunk_of bytes, inl refl)

chunk_want-is : (s : DiskRegisters) (engine : Engine) (x : Want) → chunk_want s engine ≡ Some x → IsWant no_caps x
chunk_want-is s Idle x e = absurd (cc)
chunk_want-is s (Busy after) x e = subst (λ o. is_want o) e (transfer-is s after s.to_disk)
  where
    is_want : Option Want → Type 0
    is_want None = Unit {0}
    is_want (Some y) = IsWant no_caps y

pub disk_lawful : IsDevice disk_model
disk_lawful = record {
  access_keeps = λ s tick a x later e. KeepsWant-same s.wire _ (chunk_want s s.engine) _ x (access-keeps s tick a later) e;
  advance_keeps = λ s tick x later e. KeepsWant-same s.wire (moved s.wire tick) (chunk_want s s.engine) (chunk_want s s.engine) x (record { wire = Follows-moved s.wire tick later; work = λ y p f. (p, f, omega arith) }) e;
  feed_left = λ s r x e. fed-left s r x e;
  left_none = λ s e.
      let quiet = levels_left-zero s.wire (level s) (omega arith) in
      wanted_before-quiet s.wire (chunk_want s s.engine) quiet ∙ engine_left-zero s s.engine (omega arith);
  none_left = λ s e.
      let none = wanted_before-none s.wire (chunk_want s s.engine) e in
      let levels = quiet-levels_left s.wire (level s) none.0 in
      let chunks = chunk_want-none s s.engine none.1 in
      omega arith;
  left_most = λ s. (let levels = levels_left-most s.wire (level s) in let chunks = engine_left-most s.engine in omega arith);
  access_seen = λ s tick a later. access-seen s tick a;
  advance_seen = λ s tick later. refl;
  feed_seen = λ s r. (Timely-fed s r s.wire.pending).seen;
  due_seen = λ s. omega arith;
  access_due = λ s tick a later. (access-keeps s tick a later).wire.due;
  advance_due = λ s tick later. (Follows-moved s.wire tick later).due;
  feed_due = λ s r. (Timely-fed s r s.wire.pending).due;
  access_needs = λ s tick a. refl;
  advance_needs = λ s tick. refl;
  feed_needs = λ s r. refl;
  want_is = λ s x e. wanted_before-is s.wire no_caps (chunk_want s s.engine) x (λ y f. chunk_want-is s s.engine y f) e;
}
