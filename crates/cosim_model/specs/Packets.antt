-- What packets mean, apart from their bytes, and a codec of which only its laws are known.
use Rattle.std.specs.Prelude.{◌≡◌, ℕ, zero, suc, ◌+◌, ◌-◌, ◌*◌, ◌/◌, ◌%◌, ◌^◌, ◌<◌, ◌≤◌, Bool, true, false, not, ◌&&◌, ◌||◌, if◌then◌else◌, nat_eq, List, [], ◌∷◌, ◌++◌, length, get_or, map, All, Option, Some}
use Rattle.byte_streams.specs.Messages.{IsDecided}
use Rattle.cosim_model.specs.declared.values.Caps.{Caps}
use Rattle.cosim_model.specs.Values.{bit}
use Rattle.cosim_model.specs.declared.session.Command.TheVariants as command
use Rattle.cosim_model.specs.declared.session.Command.{Command}

-- The fields of a read or write. No enables means that each data byte is enabled.
pub record BusFields : Type 0 where
  pub time : ℕ
  pub attributes : ℕ
  pub addr : ℕ
  pub len : ℕ
  pub width : ℕ
  pub stream_width : ℕ
  pub master : ℕ
  pub payload : List ℕ
  pub enables : List ℕ

pub data Body : Type 0 where
  Nop : Body
  Hello : (major minor : ℕ) (caps : List ℕ) → Body
  Cfg : (opt set : ℕ) → Body
  Read : (fields : BusFields) → Body
  Write : (fields : BusFields) → Body
  Interrupt : (time vector line val : ℕ) → Body
  Sync : (time : ℕ) → Body

pub record Packet : Type 0 where
  pub id : ℕ
  pub flags : ℕ
  pub dev : ℕ
  pub body : Body

-- Whole bytes of a stream as a packet, or why they are none. F is the reasons.
pub data Decoded (F : Type 0) : Type 0 where
  Valid : (packet : Packet) → Decoded F
  Malformed : (cause : F) → Decoded F

abbrev pub number_of : Command → ℕ
number_of command.Nop = 0
number_of command.Hello = 1
number_of command.Cfg = 2
number_of command.Read = 3
number_of command.Write = 4
number_of command.Interrupt = 5
number_of command.Sync = 6

abbrev pub command_of : Body → Command
command_of Nop = command.Nop
command_of (Hello major minor caps) = command.Hello
command_of (Cfg opt set) = command.Cfg
command_of (Read f) = command.Read
command_of (Write f) = command.Write
command_of (Interrupt time vector line val) = command.Interrupt
command_of (Sync time) = command.Sync

abbrev pub cmd_of : Body → ℕ
cmd_of b = number_of (command_of b)

-- Flag bit 1 marks an answer.
abbrev pub is_response : Packet → Bool
is_response p = bit p.flags 1

-- A hello lists capabilities by number. Those above 3 are kept and ignored.

abbrev pub lists : ℕ → List ℕ → Bool
lists n [] = false
lists n (m ∷ ms) = nat_eq n m || lists n ms

abbrev pub caps_of : List ℕ → Caps
caps_of ns = record { base = lists 1 ns; enables = lists 2 ns; posted = lists 3 ns }

abbrev pub listed : Bool → ℕ → List ℕ → List ℕ
listed true n ns = n ∷ ns
listed false n ns = ns

abbrev pub offered : Caps → List ℕ
offered c = listed c.base 1 (listed c.enables 2 (listed c.posted 3 []))

-- Attribute bit 2 marks the extended layout; bits 8 to 11 are the response code.

abbrev pub is_extended : BusFields → Bool
is_extended f = bit f.attributes 2

abbrev pub code_of : BusFields → ℕ
code_of f = (f.attributes / 256) % 16

-- the attributes with another response code, which takes bits 8 to 11
abbrev pub with_code : ℕ → ℕ → ℕ
with_code attributes code = attributes - 256 * (attributes / 256 % 16) + 256 * code

-- Data byte i is enabled where there are no enables, or enable byte i modulo their number is not 0.

abbrev pub is_enabled : List ℕ → ℕ → Bool
is_enabled [] i = true
is_enabled (e ∷ es) i = not (nat_eq (get_or (e ∷ es) (i % length (e ∷ es)) 0) 0)

abbrev pub count_from : ℕ → ℕ → List ℕ
count_from k zero = []
count_from k (suc n) = k ∷ count_from (suc k) n

-- Of each data byte whether it is enabled.
abbrev pub enabled : BusFields → List Bool
enabled f = map (is_enabled f.enables) (count_from 0 f.len)

-- What an end writes: the extended layout where capability 1 is common, and enables, a byte for each data byte, only
-- where some byte is disabled and capabilities 1 and 2 are common.

abbrev pub attributes_of : Caps → ℕ
attributes_of common = if common.base then 4 else 0

abbrev pub enable_byte : Bool → ℕ
enable_byte true = 255
enable_byte false = 0

abbrev pub enables_if : List Bool → Bool → List ℕ
enables_if ons true = map enable_byte ons
enables_if ons false = []

-- The Boolean says that all are enabled.
abbrev pub enables_of : Caps → List Bool → Bool → List ℕ
enables_of common ons true = []
enables_of common ons false = enables_if ons (common.base && common.enables)

-- A packet carries data where it is a write without the response flag, or a read with it.

abbrev pub carried : Bool → Body → Bool
carried response (Read f) = response
carried response (Write f) = not response
carried response _ = false

abbrev pub carries : Packet → Bool
carries p = carried (is_response p) p.body

-- What can be written: fields within their widths, data exactly where they are carried, enables only in the extended
-- layout, and a body of at most 65,536 bytes.

abbrev pub IsBytes : List ℕ → Type 0
IsBytes bs = All (λ b. b < 256) bs

abbrev pub FitsLayout : Bool → BusFields → Type 0
FitsLayout true f = 60 + length f.payload + length f.enables ≤ 65536
FitsLayout false f = (f.master < 2 ^ 16) × (f.enables ≡ []) × (38 + length f.payload ≤ 65536)

abbrev pub IsBus : Bool → BusFields → Type 0
IsBus carries f = (f.time < 2 ^ 64) × (f.attributes < 2 ^ 64) × (f.addr < 2 ^ 64) × (f.len < 2 ^ 32)
    × (f.width < 2 ^ 32) × (f.stream_width < 2 ^ 32) × (f.master < 2 ^ 64)
    × (length f.payload ≡ (if carries then f.len else 0)) × IsBytes f.payload × IsBytes f.enables
    × FitsLayout (is_extended f) f

abbrev pub IsBody : Bool → Body → Type 0
IsBody c Nop = Unit {0}
IsBody c (Hello major minor caps) = (major < 2 ^ 16) × (minor < 2 ^ 16) × All (λ n. n < 2 ^ 32) caps
    × (length caps ≤ 16381)
IsBody c (Cfg opt set) = (opt < 2 ^ 32) × (set < 2 ^ 8)
IsBody c (Read f) = IsBus c f
IsBody c (Write f) = IsBus c f
IsBody c (Interrupt time vector line val) = (time < 2 ^ 64) × (vector < 2 ^ 64) × (line < 2 ^ 32) × (val < 2 ^ 8)
IsBody c (Sync time) = time < 2 ^ 64

abbrev pub IsWritable : Packet → Type 0
IsWritable p = (p.id < 2 ^ 32) × (p.flags < 2 ^ 32) × (p.dev < 2 ^ 32) × IsBody (carries p) p.body

-- The number of bytes of a packet that is written.

abbrev pub bus_size : Bool → BusFields → ℕ
bus_size true f = 80 + length f.payload + length f.enables
bus_size false f = 58 + length f.payload

abbrev pub body_size : Body → ℕ
body_size Nop = 20
body_size (Hello major minor caps) = 32 + 4 * length caps
body_size (Cfg opt set) = 25
body_size (Read f) = bus_size (is_extended f) f
body_size (Write f) = bus_size (is_extended f) f
body_size (Interrupt time vector line val) = 41
body_size (Sync time) = 28

-- `write` gives the bytes of a packet. `first` is the packet that bytes begin with and its number of bytes, where it is
-- whole.
pub record Codec (F : Type 0) : Type 0 where
  pub write : Packet → List ℕ
  pub first : List ℕ → Option (Decoded F × ℕ)

-- A packet that was written is read back, whatever comes behind it, and has the bytes of its fields. What is whole has
-- bytes, and is decided by its own bytes.
pub record IsCodec {F : Type 0} (codec : Codec F) : Type 0 where
  pub reads_back : (p : Packet) (rest : List ℕ) → IsWritable p
      → codec.first (codec.write p ++ rest) ≡ Some (Valid p, length (codec.write p))
  pub sizes : (p : Packet) → IsWritable p → length (codec.write p) ≡ body_size p.body
  pub decided : IsDecided codec.first

-- What an end sends is always a valid packet.
abbrev pub spell : {F : Type 0} → Codec F → Decoded F → List ℕ
spell codec (Valid p) = codec.write p
spell codec (Malformed cause) = []
