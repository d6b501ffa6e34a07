-- The DMA keeps the laws of devices.
use Rattle.std.specs.Prelude.{◌≡◌, ℕ, zero, suc, ◌+◌, ◌*◌, ◌%◌, ◌^◌, ◌<◌, ◌≤◌, Bool, true, false, if◌then◌else◌, ◌&&◌, nat_eq, min, Option, Some, None, List, length, take, refl}
use Rattle.std.proofs.Common.{arith, ap, sym, subst, inr, ◌∙◌, length-take}
use Rattle.std.proofs.lemmas.Nat.{pow_pos}
use Rattle.cosim_model.specs.declared.values.Access.{Access}
use Rattle.cosim_model.specs.declared.values.Answer.{Answer}
use Rattle.cosim_model.specs.declared.values.Reply.{Reply}
use Rattle.cosim_model.specs.declared.values.Want.{Want}
use Rattle.cosim_model.specs.Parts.{IsDevice, IsWant}
use Rattle.dev_line.specs.declared.request.Request.{Request}
use Rattle.dev_line.specs.declared.request.Request.TheVariants.{Read, Write, Refused}
use Rattle.dev_line.specs.Chunks.{chunk_of, length-chunk_of, chunk_of-take, All-chunk_of}
use Rattle.dev_line.specs.Wires.{WireState, due_of, moved, ruled, answered, renewed, levels_left}
use Rattle.dev_line.specs.WireLaws.{Follows, Follows-moved, Follows-ruled, KeepsWant, KeepsWant-work, KeepsWant-same, ruled-seen, ruled-left, answered-left, answered-seen, answered-due, levels_left-most, levels_left-zero, quiet-levels_left, wanted_before-quiet, wanted_before-none, wanted_before-some, wanted_before-is}
use Rattle.dev_dma.specs.Copies.{place_of, size_of, mask_of}
use Rattle.dev_dma.specs.Dmas.{DmaRegisters, is_busy, level, chunk_want, engine_left, register_written, unless_busy, can_start, controlled, started, acted, requested, advanced, settled, ended, continued, stored, worked, fed, dma_needs, dma_model}
use Rattle.dev_dma.specs.declared.engine.Engine.{Engine}
use Rattle.dev_dma.specs.declared.engine.Engine.TheVariants.{Idle, Fetching, Storing}
use Rattle.dev_dma.specs.declared.register.Register.{Register}
use Rattle.dev_dma.specs.declared.register.Register.TheVariants.{Source, Destination, Length, Mask, Control, Status}

-- What an access does besides the line rule: it leaves the line, and the chunk that is there.
record Acts (s v : DmaRegisters) : Type 0 where
  wire : v.wire ≡ s.wire
  chunk : is_busy s.engine ≡ true → chunk_want v v.engine ≡ chunk_want s s.engine

Acts-same : (s : DmaRegisters) → Acts s s
Acts-same s = record { wire = refl; chunk = λ b. refl }

Acts-unless_busy : (s new : DmaRegisters) (busy : Bool) → is_busy s.engine ≡ busy → new.wire ≡ s.wire → Acts s (unless_busy s new busy).0
Acts-unless_busy s new true e w = Acts-same s
Acts-unless_busy s new false e w = record { wire = w; chunk = λ b. absurd (cc) }

can_start-idle : (busy : Bool) (len : ℕ) → can_start busy len ≡ true → busy ≡ false
can_start-idle true len e = absurd (cc)
can_start-idle false len e = refl

Acts-started : (s : DmaRegisters) (enabled can : Bool) → (can ≡ true → is_busy s.engine ≡ false) → Acts s (started s enabled can).0
Acts-started s enabled true idle = record { wire = refl; chunk = λ b. absurd (let e = idle refl in cc) }
Acts-started s enabled false idle = Acts-same s

Acts-controlled : (s : DmaRegisters) (starts enabled : Bool) → Acts s (controlled s starts enabled).0
Acts-controlled s true enabled = Acts-started s enabled _ (can_start-idle (is_busy s.engine) s.len)
Acts-controlled s false enabled = record { wire = refl; chunk = λ b. refl }

Acts-written : (s : DmaRegisters) (register : Register) (value : ℕ) → Acts s (register_written s register value).0
Acts-written s Source value = Acts-unless_busy s _ (is_busy s.engine) refl refl
Acts-written s Destination value = Acts-unless_busy s _ (is_busy s.engine) refl refl
Acts-written s Length value = Acts-unless_busy s _ (is_busy s.engine) refl refl
Acts-written s Mask value = Acts-unless_busy s _ (is_busy s.engine) refl refl
Acts-written s Control value = Acts-controlled s _ _
Acts-written s Status value = record { wire = refl; chunk = λ b. refl }

Acts-acted : (s : DmaRegisters) (request : Request Register) → Acts s (acted s request).0
Acts-acted s (Read register) = Acts-same s
Acts-acted s (Write register value) = Acts-written s register value
Acts-acted s (Refused code) = Acts-same s

chunk_want-busy : (s : DmaRegisters) (engine : Engine) (x : Want) → chunk_want s engine ≡ Some x → is_busy engine ≡ true
chunk_want-busy s Idle x e = absurd (cc)
chunk_want-busy s (Fetching after) x e = refl
chunk_want-busy s (Storing after bytes) x e = refl

access-keeps : (s : DmaRegisters) (tick : ℕ) (a : Access) → s.wire.seen ≤ tick → KeepsWant s.wire (dma_model.access s tick a).0.wire (chunk_want s s.engine) (chunk_want (dma_model.access s tick a).0 (dma_model.access s tick a).0.engine)
access-keeps s tick a later =
    let after = (acted (advanced s tick) (requested a)).0 in
    let acts = Acts-acted (advanced s tick) (requested a) in
    subst (λ w. KeepsWant s.wire (ruled w (is_busy s.engine) (level after) (is_busy after.engine)) (chunk_want s s.engine) (chunk_want after after.engine)) (sym acts.wire)
    (KeepsWant-work s.wire tick (is_busy s.engine) (level after) (is_busy after.engine) (chunk_want s s.engine) (chunk_want after after.engine) later
    (λ x e. let busy = chunk_want-busy s s.engine x e in (busy, acts.chunk busy ∙ e)))

access-seen : (s : DmaRegisters) (tick : ℕ) (a : Access) → (dma_model.access s tick a).0.wire.seen ≡ tick
access-seen s tick a =
    let after = (acted (advanced s tick) (requested a)).0 in
    ruled-seen after.wire (is_busy s.engine) (level after) (is_busy after.engine) ∙ ap (λ w. w.seen) (Acts-acted (advanced s tick) (requested a)).wire

-- A reply keeps `seen`, and due times don't fall.
record Timely (s v : DmaRegisters) : Type 0 where
  seen : v.wire.seen ≡ s.wire.seen
  due : due_of s.wire ≤ due_of v.wire

Timely-ended : (s : DmaRegisters) (error : Bool) → Timely s (ended s error)
Timely-ended s error =
    let level_now = level (record s { engine = Idle; done = true; error = error }) in
    record { seen = ruled-seen s.wire false level_now false; due = (Follows-ruled s.wire false level_now false).due }

Timely-continued : (s : DmaRegisters) (engine : Engine) → Timely s (continued s engine)
Timely-continued s engine = record { seen = refl; due = omega arith }

Timely-stored : (s : DmaRegisters) (after : ℕ) → Timely s (stored s after)
Timely-stored s zero = Timely-ended s false
Timely-stored s (suc after) = Timely-continued s (Fetching after)

Timely-worked : (s : DmaRegisters) (engine : Engine) (code : ℕ) (bytes : List ℕ) → Timely s (worked s engine code bytes)
Timely-worked s Idle code bytes = record { seen = refl; due = omega arith }
Timely-worked s (Fetching after) zero bytes = Timely-continued s (Storing after bytes)
Timely-worked s (Fetching after) (suc code) bytes = Timely-ended s true
Timely-worked s (Storing after chunk) zero bytes = Timely-stored s (min after 1023)
Timely-worked s (Storing after chunk) (suc code) bytes = Timely-ended s true

Timely-fed : (s : DmaRegisters) (reply : Reply) (pending : Bool) → Timely s (fed s reply pending)
Timely-fed s reply true = record { seen = answered-seen s.wire (level s) (is_busy s.engine); due = answered-due s.wire (level s) (is_busy s.engine) }
Timely-fed s reply false = Timely-worked s s.engine reply.code reply.bytes

-- A reply to a want lowers what is left.
abbrev left_of : DmaRegisters → ℕ
left_of s = levels_left s.wire (level s) + engine_left s.engine

ended-left : (s : DmaRegisters) (error : Bool) → s.wire.pending ≡ false → 2 ≤ engine_left s.engine → left_of (ended s error) < left_of s
ended-left s error p busy =
    let few = ruled-left s.wire (level (record s { engine = Idle; done = true; error = error })) false p in
    omega arith

continued-left : (s : DmaRegisters) (engine : Engine) → s.wire.pending ≡ false → engine_left engine < engine_left s.engine → left_of (continued s engine) < left_of s
continued-left s engine p lower =
    let none = quiet-levels_left (renewed s.wire) (level (continued s engine)) p in
    omega arith

stored-left : (s : DmaRegisters) (after : ℕ) → s.wire.pending ≡ false → engine_left s.engine ≡ 2 * (after + 1) → after ≤ 1023 → left_of (stored s after) < left_of s
stored-left s zero p is few = ended-left s false p (omega arith)
stored-left s (suc after) p is few = continued-left s (Fetching after) p (omega arith)

worked-left : (s : DmaRegisters) (engine : Engine) (code : ℕ) (bytes : List ℕ) → s.wire.pending ≡ false → engine_left s.engine ≡ engine_left engine → is_busy engine ≡ true → left_of (worked s engine code bytes) < left_of s
worked-left s Idle code bytes p is busy = absurd (cc)
worked-left s (Fetching after) zero bytes p is busy = continued-left s (Storing after bytes) p (omega arith)
worked-left s (Fetching after) (suc code) bytes p is busy = ended-left s true p (omega arith)
worked-left s (Storing after chunk) zero bytes p is busy = stored-left s (min after 1023) p is (omega arith)
worked-left s (Storing after chunk) (suc code) bytes p is busy = ended-left s true p (omega arith)

fed-left : (s : DmaRegisters) (reply : Reply) (x : Want) → dma_model.want s ≡ Some x → left_of (fed s reply s.wire.pending) < left_of s
fed-left s reply x e = go s.wire.pending refl
  where
    go : (pending : Bool) → s.wire.pending ≡ pending → left_of (fed s reply pending) < left_of s
    go true p = (let lower = answered-left s.wire (level s) (is_busy s.engine) p in omega arith)
    go false p = worked-left s s.engine reply.code reply.bytes p refl (chunk_want-busy s s.engine x (sym (wanted_before-quiet s.wire (chunk_want s s.engine) p) ∙ e))

engine_left-most : (engine : Engine) → engine_left engine ≤ 2049
engine_left-most Idle = omega arith
engine_left-most (Fetching after) = omega arith
engine_left-most (Storing after bytes) = omega arith

engine_left-zero : (s : DmaRegisters) (engine : Engine) → engine_left engine ≡ 0 → chunk_want s engine ≡ None
engine_left-zero s Idle e = refl
engine_left-zero s (Fetching after) e = absurd (omega arith)
engine_left-zero s (Storing after bytes) e = absurd (omega arith)

chunk_want-none : (s : DmaRegisters) (engine : Engine) → chunk_want s engine ≡ None → engine_left engine ≡ 0
chunk_want-none s Idle e = refl
chunk_want-none s (Fetching after) e = absurd (cc)
chunk_want-none s (Storing after bytes) e = absurd (cc)

size_of-within : (len after : ℕ) → (0 < size_of len after) × (size_of len after ≤ 64)
size_of-within len zero = (omega arith, omega arith)
size_of-within len (suc after) = (omega arith, omega arith)

place_of-most : (len after : ℕ) → place_of len after ≤ 65536
place_of-most len after = omega arith

chunk_want-is : (s : DmaRegisters) (engine : Engine) (x : Want) → chunk_want s engine ≡ Some x → IsWant dma_needs x
chunk_want-is s Idle x e = absurd (cc)
chunk_want-is s (Fetching after) x e =
    let within = size_of-within s.len after in
    let near = place_of-most s.len after in
    subst (λ o. is_want o) e (within.0, within.1, omega arith)
  where
    is_want : Option Want → Type 0
    is_want None = Unit {0}
    is_want (Some y) = IsWant dma_needs y
chunk_want-is s (Storing after bytes) x e =
    let size = size_of s.len after in
    let within = size_of-within s.len after in
    let near = place_of-most s.len after in
    let few : length (take size bytes) ≤ size = (let n = length-take size bytes in omega arith) in
    subst (λ o. is_want o) e (within.0, within.1, omega arith, (let pos = pow_pos size in omega arith), length-chunk_of (take size bytes), chunk_of-take (take size bytes) size few within.1, All-chunk_of (take size bytes), inr refl)
  where
    is_want : Option Want → Type 0
    is_want None = Unit {0}
    is_want (Some y) = IsWant dma_needs y

pub dma_lawful : IsDevice dma_model
dma_lawful = record {
  access_keeps = λ s tick a x later e. KeepsWant-same s.wire _ (chunk_want s s.engine) _ x (access-keeps s tick a later) e;
  advance_keeps = λ s tick x later e. KeepsWant-same s.wire (moved s.wire tick) (chunk_want s s.engine) (chunk_want s s.engine) x (record { wire = Follows-moved s.wire tick later; work = λ y p f. (p, f, omega arith) }) e;
  feed_left = λ s r x e. fed-left s r x e;
  left_none = λ s e.
      let quiet = levels_left-zero s.wire (level s) (omega arith) in
      wanted_before-quiet s.wire (chunk_want s s.engine) quiet ∙ engine_left-zero s s.engine (omega arith);
  none_left = λ s e.
      let none = wanted_before-none s.wire (chunk_want s s.engine) e in
      let levels = quiet-levels_left s.wire (level s) none.0 in
      let chunks = chunk_want-none s s.engine none.1 in
      omega arith;
  left_most = λ s. (let levels = levels_left-most s.wire (level s) in let chunks = engine_left-most s.engine in omega arith);
  access_seen = λ s tick a later. access-seen s tick a;
  advance_seen = λ s tick later. refl;
  feed_seen = λ s r. (Timely-fed s r s.wire.pending).seen;
  due_seen = λ s. omega arith;
  access_due = λ s tick a later. (access-keeps s tick a later).wire.due;
  advance_due = λ s tick later. (Follows-moved s.wire tick later).due;
  feed_due = λ s r. (Timely-fed s r s.wire.pending).due;
  access_needs = λ s tick a. refl;
  advance_needs = λ s tick. refl;
  feed_needs = λ s r. refl;
  want_is = λ s x e. wanted_before-is s.wire dma_needs (chunk_want s s.engine) x (λ y f. chunk_want-is s s.engine y f) e;
}
