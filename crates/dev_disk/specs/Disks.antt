-- The disk as a function on its registers and sectors.
use Rattle.std.specs.Prelude.{◌≡◌, ℕ, zero, suc, ◌+◌, ◌-◌, ◌*◌, ◌/◌, ◌%◌, Bool, true, false, not, ◌&&◌, ◌⊎◌, if◌then◌else◌, nat_eq, nat_le, min, Option, Some, None, List, length, take, drop}
use Rattle.cosim_model.specs.declared.values.Access.{Access}
use Rattle.cosim_model.specs.declared.values.Answer.{Answer}
use Rattle.cosim_model.specs.declared.values.Reply.{Reply}
use Rattle.cosim_model.specs.declared.values.Want.{Want}
use Rattle.cosim_model.specs.declared.values.Want.TheVariants as want
use Rattle.cosim_model.specs.Parts.{DeviceModel}
use Rattle.cosim_model.specs.Values.{no_caps}
use Rattle.cos_base.specs.Octets.{overwritten}
use Rattle.dev_line.specs.declared.request.Request.{Request}
use Rattle.dev_line.specs.declared.request.Request.TheVariants.{Read, Write, Refused}
use Rattle.dev_line.specs.Chunks.{chunk_of}
use Rattle.dev_line.specs.Requests.{request_of, given, refused, flag}
use Rattle.dev_line.specs.Wires.{WireState, fresh_wire, due_of, moved, ruled, answered, renewed, wanted_before, levels_left}
use Rattle.dev_disk.specs.Works.{place_of, sector_at, disk_place, is_bad, taken_in}
use Rattle.dev_disk.specs.declared.engine.Engine.{Engine}
use Rattle.dev_disk.specs.declared.engine.Engine.TheVariants.{Idle, Busy}
use Rattle.dev_disk.specs.declared.register.Register.{Register}
use Rattle.dev_disk.specs.declared.register.Register.TheVariants.{Sector, Count, Address, Control, Status, Size}

pub record DiskRegisters : Type 0 where
  pub sector : ℕ
  pub count : ℕ
  pub address : ℕ
  -- bits 1 and 2 of CONTROL
  pub to_disk : Bool
  pub enabled : Bool
  -- bits 1 and 2 of STATUS; bit 0 says that the engine is busy
  pub done : Bool
  pub error : Bool
  pub engine : Engine
  pub wire : WireState
  -- the bytes of all sectors, 512 each, and the numbers of the bad ones
  pub sectors : List ℕ
  pub bad : List ℕ

abbrev pub fresh_disk : ℕ → List ℕ → List ℕ → DiskRegisters
fresh_disk line image bad =
    record {
      sector = 0;
      count = 0;
      address = 0;
      to_disk = false;
      enabled = false;
      done = false;
      error = false;
      engine = Idle;
      wire = fresh_wire line;
      sectors = image;
      bad = bad;
    }

abbrev pub is_busy : Engine → Bool
is_busy Idle = false
is_busy (Busy after) = true

-- The level is high once work is done, where the disk is enabled.
abbrev pub level_of : (enabled done busy : Bool) → Bool
level_of enabled done busy = enabled && done && not busy

abbrev pub level : DiskRegisters → Bool
level s = level_of s.enabled s.done (is_busy s.engine)

-- How many sectors the disk has.
abbrev pub size : List ℕ → ℕ
size sectors = length sectors / 512

-- The engine's want: a chunk of the machine's memory to the disk, or a chunk of the disk to the memory. Addresses are
-- sums in 64 bits.
abbrev pub transfer : DiskRegisters → (after : ℕ) → (to_disk : Bool) → Want
transfer s after true = want.Fetch (min s.address 4294967295 + place_of s.count after) 64
transfer s after false =
    want.Store (min s.address 4294967295 + place_of s.count after) 64
    (chunk_of (take 64 (drop (disk_place s.sector s.count after) s.sectors))) 18446744073709551615

abbrev pub chunk_want : DiskRegisters → Engine → Option Want
chunk_want s Idle = None
chunk_want s (Busy after) = Some (transfer s after s.to_disk)

-- The unfinished chunks and 1. There are at most 1,024 chunks.
abbrev pub engine_left : Engine → ℕ
engine_left Idle = 0
engine_left (Busy after) = min after 1023 + 2

-- When a chunk of a bad sector becomes the present one, the work ends at once with an error.
abbrev pub present : DiskRegisters → (after : ℕ) → (bad : Bool) → DiskRegisters
present s after true = record s { engine = Idle; done = true; error = true }
present s after false = record s { engine = Busy after }

-- Registers.

abbrev pub register_at : ℕ → Option Register
register_at addr = if nat_eq addr 0 then Some Sector else if nat_eq addr 4 then Some Count else if nat_eq addr 8
    then Some Address else if nat_eq addr 12 then Some Control else if nat_eq addr 16 then Some Status else
    if nat_eq addr 20 then Some Size else None

abbrev pub register_read : DiskRegisters → Register → Answer
register_read s Sector = given s.sector
register_read s Count = given s.count
register_read s Address = given s.address
register_read s Control = given (2 * flag s.to_disk + 4 * flag s.enabled)
register_read s Status = given (flag (is_busy s.engine) + 2 * flag s.done + 4 * flag s.error)
register_read s Size = given (size s.sectors)

-- CONTROL is refused as a whole while the engine is busy, and a start where COUNT is not 1 to 128 or the sectors aren't
-- on the disk.
abbrev pub can_start : DiskRegisters → Bool
can_start s = nat_le 1 s.count && nat_le s.count 128 && nat_le (s.sector + s.count) (size s.sectors)

abbrev pub started : DiskRegisters → (to_disk enabled can : Bool) → DiskRegisters × Answer
started s to_disk enabled true = (
  present (record s { to_disk = to_disk; enabled = enabled; done = false; error = false }) (8 * s.count - 1)
      (is_bad s.bad s.sector),
  given 0,
)
started s to_disk enabled false = (s, refused 1)

abbrev pub controlled : DiskRegisters → (starts to_disk enabled : Bool) → DiskRegisters × Answer
controlled s true to_disk enabled = started s to_disk enabled (can_start s)
controlled s false to_disk enabled = (record s { to_disk = to_disk; enabled = enabled }, given 0)

-- A register that is refused while the engine is busy.
abbrev pub unless_busy : DiskRegisters → DiskRegisters × Answer → Bool → DiskRegisters × Answer
unless_busy s written true = (s, refused 1)
unless_busy s written false = written

abbrev pub register_written : DiskRegisters → Register → ℕ → DiskRegisters × Answer
register_written s Sector value = unless_busy s (record s { sector = value }, given 0) (is_busy s.engine)
register_written s Count value = unless_busy s (record s { count = value }, given 0) (is_busy s.engine)
register_written s Address value = unless_busy s (record s { address = value }, given 0) (is_busy s.engine)
register_written s Control value =
    unless_busy s (controlled s (nat_eq (value % 2) 1) (nat_eq (value / 2 % 2) 1) (nat_eq (value / 4 % 2) 1))
    (is_busy s.engine)
register_written s Status value = (record s { done = false; error = false }, given 0)
register_written s Size value = (s, refused 1)

abbrev pub acted : DiskRegisters → Request Register → DiskRegisters × Answer
acted s (Read register) = (s, register_read s register)
acted s (Write register value) = register_written s register value
acted s (Refused code) = (s, refused code)

-- Time changes no level.
abbrev pub advanced : DiskRegisters → ℕ → DiskRegisters
advanced s tick = record s { wire = moved s.wire tick }

-- The line rule, after the whole effect; `wanted` says whether a chunk was there before.
abbrev pub settled : Bool → DiskRegisters → DiskRegisters
settled wanted s = record s { wire = ruled s.wire wanted (level s) (is_busy s.engine) }

abbrev pub requested : Access → Request Register
requested a = request_of a (register_at a.addr)

-- Serving a chunk.

abbrev pub ended : DiskRegisters → (error : Bool) → DiskRegisters
ended s error = settled false (record s { engine = Idle; done = true; error = error })

abbrev pub continued : DiskRegisters → (after : ℕ) → (bad : Bool) → DiskRegisters
continued s after true = ended s true
continued s after false = record s { engine = Busy after; wire = renewed s.wire }

-- A chunk was transferred, and so many come after it.
abbrev pub transferred : DiskRegisters → ℕ → DiskRegisters
transferred s zero = ended s false
transferred s (suc after) = continued s after (is_bad s.bad (sector_at s.sector s.count after))

abbrev pub worked : DiskRegisters → Engine → ℕ → List ℕ → DiskRegisters
worked s Idle code bytes = s
worked s (Busy after) zero bytes =
    transferred (record s { sectors = taken_in s.to_disk s.sectors (disk_place s.sector s.count after) bytes })
    (min after 1023)
worked s (Busy after) (suc code) bytes = ended s true

-- A pending level is fed before a chunk.
abbrev pub fed : DiskRegisters → Reply → Bool → DiskRegisters
fed s reply true = record s { wire = answered s.wire (level s) (is_busy s.engine) }
fed s reply false = worked s s.engine reply.code reply.bytes

abbrev pub disk_model : DeviceModel DiskRegisters
disk_model = record {
  access = λ s tick a. (
    settled (is_busy s.engine) (acted (advanced s tick) (requested a)).0,
    (acted (advanced s tick) (requested a)).1,
  );
  advance = advanced;
  want = λ s. wanted_before s.wire (chunk_want s s.engine);
  feed = λ s reply. fed s reply s.wire.pending;
  seen = λ s. s.wire.seen;
  due = λ s. due_of s.wire;
  left = λ s. levels_left s.wire (level s) + engine_left s.engine;
  needs = λ s. no_caps;
}
