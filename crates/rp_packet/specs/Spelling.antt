-- How the bytes of a packet spell its value, as equations on the whole list; the canonical spelling; and which values
-- have one.
use Rattle.std.specs.Prelude.{◌≡◌, ℕ, ◌+◌, ◌*◌, ◌^◌, ◌<◌, ◌≤◌, Bool, nat_lt, min, if◌then◌else◌, List, [], ◌++◌, length, Option, Some, None}
use Rattle.cosim_model.specs.Packets.{Packet, Body, BusFields, cmd_of, carries, is_extended}
use Rattle.cosim_model.specs.Packets.Body.{Nop, Hello, Cfg, Read, Write, Interrupt, Sync}
use Rattle.rp_header.specs.Headers.{header_bytes}
use Rattle.rp_control.specs.Controls.{AreWords, IsHello, IsTightHello, IsCfg, IsInterrupt, IsSync, hello_bytes, cfg_bytes, interrupt_bytes, sync_bytes}
use Rattle.rp_busaccess.specs.Buses.{IsBus}
use Rattle.rp_busaccess.specs.Writing.{bus_bytes, IsTightBus, write_fault}
use Rattle.rp_busaccess.specs.declared.fault.WriteFault.{WriteFault}
use Rattle.rp_busaccess.specs.declared.fault.WriteFault.TheVariants.{TooLong}

-- what the bytes of a body mean; the Boolean says that data are carried
abbrev pub IsBodyOf : Bool → Body → List ℕ → Type 0
IsBodyOf carries Nop body = Unit {0}
IsBodyOf carries (Hello major minor caps) body = IsHello major minor caps body
IsBodyOf carries (Cfg opt set) body = IsCfg opt set body
IsBodyOf carries (Read f) body = IsBus carries f body
IsBodyOf carries (Write f) body = IsBus carries f body
IsBodyOf carries (Interrupt time vector line val) body = IsInterrupt time vector line val body
IsBodyOf carries (Sync time) body = IsSync time body

-- The list is a header and a body of as many bytes as the header says. Bytes of the body that nothing speaks of are
-- unused.
pub record Spells (v : Packet) (b : List ℕ) : Type 0 where
  pub body : List ℕ
  pub whole : b ≡ header_bytes (cmd_of v.body) (length body) v.id v.flags v.dev ++ body
  pub most : length body ≤ 65536
  pub id_fits : v.id < 2 ^ 32
  pub flags_fit : v.flags < 2 ^ 32
  pub dev_fits : v.dev < 2 ^ 32
  pub means : IsBodyOf (carries v) v.body body

-- A tight body has no unused bytes, zeros in its fields without meaning, and its parts in order right behind the
-- fields.
abbrev pub IsTight : Body → List ℕ → Type 0
IsTight Nop body = body ≡ []
IsTight (Hello major minor caps) body = IsTightHello caps body
IsTight (Cfg opt set) body = length body ≡ 5
IsTight (Read f) body = IsTightBus (is_extended f) f body
IsTight (Write f) body = IsTightBus (is_extended f) f body
IsTight (Interrupt time vector line val) body = length body ≡ 21
IsTight (Sync time) body = length body ≡ 8

pub record Canonical (v : Packet) (b : List ℕ) : Type 0 where
  pub spelled : Spells v b
  pub tight : IsTight v.body spelled.body

-- the one canonical spelling
abbrev pub body_bytes : Body → List ℕ
body_bytes Nop = []
body_bytes (Hello major minor caps) = hello_bytes major minor caps
body_bytes (Cfg opt set) = cfg_bytes opt set
body_bytes (Read f) = bus_bytes f
body_bytes (Write f) = bus_bytes f
body_bytes (Interrupt time vector line val) = interrupt_bytes time vector line val
body_bytes (Sync time) = sync_bytes time

abbrev pub packet_bytes : Packet → List ℕ
packet_bytes v = header_bytes (cmd_of v.body) (length (body_bytes v.body)) v.id v.flags v.dev ++ body_bytes v.body

-- the first reason for which a value isn't written; the length of a hello that is too long is told up to 2^64 - 1
abbrev pub body_fault : Bool → Body → Option WriteFault
body_fault carries Nop = None
body_fault carries (Hello major minor caps) = if nat_lt 16381 (length caps)
    then Some (TooLong (min (12 + 4 * length caps) 18446744073709551615)) else None
body_fault carries (Cfg opt set) = None
body_fault carries (Read f) = write_fault carries f
body_fault carries (Write f) = write_fault carries f
body_fault carries (Interrupt time vector line val) = None
body_fault carries (Sync time) = None

abbrev pub packet_fault : Packet → Option WriteFault
packet_fault v = body_fault (carries v) v.body

abbrev pub Writable : Packet → Type 0
Writable v = packet_fault v ≡ None

-- Each number of the value fits its field, as that of each packet in memory does.
abbrev pub BusFits : BusFields → Type 0
BusFits f = (f.time < 2 ^ 64) × (f.attributes < 2 ^ 64) × (f.addr < 2 ^ 64) × (f.len < 2 ^ 32) × (f.width < 2 ^ 32)
    × (f.stream_width < 2 ^ 32) × (f.master < 2 ^ 64)

abbrev pub BodyFits : Body → Type 0
BodyFits Nop = Unit {0}
BodyFits (Hello major minor caps) = (major < 2 ^ 16) × (minor < 2 ^ 16) × AreWords caps
BodyFits (Cfg opt set) = (opt < 2 ^ 32) × (set < 2 ^ 8)
BodyFits (Read f) = BusFits f
BodyFits (Write f) = BusFits f
BodyFits (Interrupt time vector line val) = (time < 2 ^ 64) × (vector < 2 ^ 64) × (line < 2 ^ 32) × (val < 2 ^ 8)
BodyFits (Sync time) = time < 2 ^ 64

abbrev pub Fits : Packet → Type 0
Fits v = (v.id < 2 ^ 32) × (v.flags < 2 ^ 32) × (v.dev < 2 ^ 32) × BodyFits v.body
