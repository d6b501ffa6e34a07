-- The DMA as a function on its registers.
use Rattle.std.specs.Prelude.{ℕ, zero, suc, ◌+◌, ◌-◌, ◌*◌, ◌/◌, ◌%◌, Bool, true, false, not, ◌&&◌, if◌then◌else◌, nat_eq, nat_le, min, Option, Some, None, List, take}
use Rattle.cosim_model.specs.declared.values.Access.{Access}
use Rattle.cosim_model.specs.declared.values.Answer.{Answer}
use Rattle.cosim_model.specs.declared.values.Caps.{Caps}
use Rattle.cosim_model.specs.declared.values.Reply.{Reply}
use Rattle.cosim_model.specs.declared.values.Want.{Want}
use Rattle.cosim_model.specs.declared.values.Want.TheVariants as want
use Rattle.cosim_model.specs.Parts.{DeviceModel}
use Rattle.dev_line.specs.declared.request.Request.{Request}
use Rattle.dev_line.specs.declared.request.Request.TheVariants.{Read, Write, Refused}
use Rattle.dev_line.specs.Chunks.{chunk_of}
use Rattle.dev_line.specs.Requests.{request_of, given, refused, flag}
use Rattle.dev_line.specs.Wires.{WireState, fresh_wire, due_of, moved, ruled, answered, renewed, wanted_before, levels_left}
use Rattle.dev_dma.specs.Copies.{after_first, place_of, size_of, mask_of}
use Rattle.dev_dma.specs.declared.engine.Engine.{Engine}
use Rattle.dev_dma.specs.declared.engine.Engine.TheVariants.{Idle, Fetching, Storing}
use Rattle.dev_dma.specs.declared.register.Register.{Register}
use Rattle.dev_dma.specs.declared.register.Register.TheVariants.{Source, Destination, Length, Mask, Control, Status}

pub record DmaRegisters : Type 0 where
  pub source : ℕ
  pub destination : ℕ
  pub len : ℕ
  pub mask : ℕ
  -- bit 1 of CONTROL
  pub enabled : Bool
  -- bits 1 and 2 of STATUS; bit 0 says that the engine is busy
  pub done : Bool
  pub error : Bool
  pub engine : Engine
  pub wire : WireState

abbrev pub fresh_dma : ℕ → DmaRegisters
fresh_dma line =
    record {
      source = 0;
      destination = 0;
      len = 0;
      mask = 4294967295;
      enabled = false;
      done = false;
      error = false;
      engine = Idle;
      wire = fresh_wire line;
    }

abbrev pub is_busy : Engine → Bool
is_busy Idle = false
is_busy (Fetching after) = true
is_busy (Storing after bytes) = true

-- The level is high once a copy is done, where the DMA is enabled.
abbrev pub level_of : (enabled done busy : Bool) → Bool
level_of enabled done busy = enabled && done && not busy

abbrev pub level : DmaRegisters → Bool
level s = level_of s.enabled s.done (is_busy s.engine)

-- The engine's want: a chunk from the source, then the same chunk at the destination. Addresses are sums in 64 bits.
abbrev pub chunk_want : DmaRegisters → Engine → Option Want
chunk_want s Idle = None
chunk_want s (Fetching after) = Some (want.Fetch (min s.source 4294967295 + place_of s.len after) (size_of s.len after))
chunk_want s (Storing after bytes) =
    Some (want.Store (min s.destination 4294967295 + place_of s.len after) (size_of s.len after)
    (chunk_of (take (size_of s.len after) bytes)) (mask_of s.mask (size_of s.len after)))

-- Twice the unfinished chunks and 1, and 1 less where the present chunk was fetched. There are at most 1,024 chunks.
abbrev pub engine_left : Engine → ℕ
engine_left Idle = 0
engine_left (Fetching after) = 2 * (min after 1023 + 1) + 1
engine_left (Storing after bytes) = 2 * (min after 1023 + 1)

-- Registers.

abbrev pub register_at : ℕ → Option Register
register_at addr = if nat_eq addr 0 then Some Source else if nat_eq addr 4 then Some Destination else if nat_eq addr 8
    then Some Length else if nat_eq addr 12 then Some Mask else if nat_eq addr 16 then Some Control else
    if nat_eq addr 20 then Some Status else None

abbrev pub register_read : DmaRegisters → Register → Answer
register_read s Source = given s.source
register_read s Destination = given s.destination
register_read s Length = given s.len
register_read s Mask = given s.mask
register_read s Control = given (2 * flag s.enabled)
register_read s Status = given (flag (is_busy s.engine) + 2 * flag s.done + 4 * flag s.error)

-- A start, which is refused as a whole while the engine is busy or where LEN is not 1 to 65,536.
abbrev pub can_start : (busy : Bool) → ℕ → Bool
can_start busy len = not busy && nat_le 1 len && nat_le len 65536

abbrev pub started : DmaRegisters → (enabled can : Bool) → DmaRegisters × Answer
started s enabled true =
    (record s { enabled = enabled; done = false; error = false; engine = Fetching (after_first s.len) }, given 0)
started s enabled false = (s, refused 1)

abbrev pub controlled : DmaRegisters → (starts enabled : Bool) → DmaRegisters × Answer
controlled s true enabled = started s enabled (can_start (is_busy s.engine) s.len)
controlled s false enabled = (record s { enabled = enabled }, given 0)

-- A register that is refused while the engine is busy.
abbrev pub unless_busy : DmaRegisters → DmaRegisters → Bool → DmaRegisters × Answer
unless_busy s new true = (s, refused 1)
unless_busy s new false = (new, given 0)

abbrev pub register_written : DmaRegisters → Register → ℕ → DmaRegisters × Answer
register_written s Source value = unless_busy s (record s { source = value }) (is_busy s.engine)
register_written s Destination value = unless_busy s (record s { destination = value }) (is_busy s.engine)
register_written s Length value = unless_busy s (record s { len = value }) (is_busy s.engine)
register_written s Mask value = unless_busy s (record s { mask = value }) (is_busy s.engine)
register_written s Control value = controlled s (nat_eq (value % 2) 1) (nat_eq (value / 2 % 2) 1)
register_written s Status value = (record s { done = false; error = false }, given 0)

abbrev pub acted : DmaRegisters → Request Register → DmaRegisters × Answer
acted s (Read register) = (s, register_read s register)
acted s (Write register value) = register_written s register value
acted s (Refused code) = (s, refused code)

-- Time changes no level.
abbrev pub advanced : DmaRegisters → ℕ → DmaRegisters
advanced s tick = record s { wire = moved s.wire tick }

-- The line rule, after the whole effect; `wanted` says whether a chunk was there before.
abbrev pub settled : Bool → DmaRegisters → DmaRegisters
settled wanted s = record s { wire = ruled s.wire wanted (level s) (is_busy s.engine) }

abbrev pub requested : Access → Request Register
requested a = request_of a (register_at a.addr)

-- Serving a chunk.

abbrev pub ended : DmaRegisters → Bool → DmaRegisters
ended s error = settled false (record s { engine = Idle; done = true; error = error })

abbrev pub continued : DmaRegisters → Engine → DmaRegisters
continued s engine = record s { engine = engine; wire = renewed s.wire }

-- A chunk was stored, and so many come after it.
abbrev pub stored : DmaRegisters → ℕ → DmaRegisters
stored s zero = ended s false
stored s (suc after) = continued s (Fetching after)

abbrev pub worked : DmaRegisters → Engine → ℕ → List ℕ → DmaRegisters
worked s Idle code bytes = s
worked s (Fetching after) zero bytes = continued s (Storing after bytes)
worked s (Fetching after) (suc code) bytes = ended s true
worked s (Storing after chunk) zero bytes = stored s (min after 1023)
worked s (Storing after chunk) (suc code) bytes = ended s true

-- A pending level is fed before a chunk.
abbrev pub fed : DmaRegisters → Reply → Bool → DmaRegisters
fed s reply true = record s { wire = answered s.wire (level s) (is_busy s.engine) }
fed s reply false = worked s s.engine reply.code reply.bytes

abbrev pub dma_needs : Caps
dma_needs = record { base = true; enables = true; posted = false }

abbrev pub dma_model : DeviceModel DmaRegisters
dma_model = record {
  access = λ s tick a. (
    settled (is_busy s.engine) (acted (advanced s tick) (requested a)).0,
    (acted (advanced s tick) (requested a)).1,
  );
  advance = advanced;
  want = λ s. wanted_before s.wire (chunk_want s s.engine);
  feed = λ s reply. fed s reply s.wire.pending;
  seen = λ s. s.wire.seen;
  due = λ s. due_of s.wire;
  left = λ s. levels_left s.wire (level s) + engine_left s.engine;
  needs = λ s. dma_needs;
}
