-- The table of refusals: the first row that applies to a packet is its fault. And what is read in a packet that isn't
-- refused.
use Rattle.std.specs.Prelude.{ℕ, ◌+◌, Bool, not, nat_lt, if◌then◌else◌, List, length, take, drop, Option, Some, None}
use Rattle.cosim_model.specs.Values.{bit}
use Rattle.cosim_model.specs.declared.session.Command.{Command}
use Rattle.cosim_model.specs.declared.session.Command.TheVariants as command
use Rattle.cosim_model.specs.Packets.{Packet, Body, Decoded}
use Rattle.cosim_model.specs.Packets.Decoded.{Valid, Malformed}
use Rattle.cosim_model.specs.Packets.Body.{Nop as NopBody, Hello as HelloBody, Cfg as CfgBody, Read as ReadBody, Write as WriteBody, Interrupt as InterruptBody, Sync as SyncBody}
use Rattle.rp_header.specs.Numbers.{number, field}
use Rattle.rp_header.specs.Headers.{refusal, command_of}
use Rattle.rp_header.specs.declared.fault.HeaderFault.{HeaderFault}
use Rattle.rp_header.specs.declared.fault.HeaderFault.TheVariants as header_fault
use Rattle.rp_control.specs.declared.fault.BodyFault.{BodyFault}
use Rattle.rp_control.specs.declared.fault.BodyFault.TheVariants as body_fault
use Rattle.rp_control.specs.Refusals.{short_of, hello_refusal, caps_in}
use Rattle.rp_busaccess.specs.declared.fault.BusFault.{BusFault}
use Rattle.rp_busaccess.specs.declared.fault.BusFault.TheVariants as bus_fault
use Rattle.rp_busaccess.specs.Refusals.{bus_refusal, fields_in}
use Rattle.rp_packet.specs.declared.fault.Cause.{Cause}
use Rattle.rp_packet.specs.declared.fault.Cause.TheVariants as cause

-- where the field stands that a row blames, counted from the packet's first byte
abbrev pub place_of : Cause → ℕ
place_of (cause.Command number) = 0
place_of (cause.Translation number) = 0
place_of (cause.TooLong len) = 4
place_of (cause.Length wanted got) = 4
place_of (cause.CapsRange offset count) = 24
place_of (cause.DataRange offset len) = 64
place_of (cause.EnableRange offset len) = 72

abbrev pub header_cause : Option HeaderFault → Option Cause
header_cause None = None
header_cause (Some (header_fault.Command number)) = Some (cause.Command number)
header_cause (Some (header_fault.Translation number)) = Some (cause.Translation number)
header_cause (Some (header_fault.TooLong len)) = Some (cause.TooLong len)

abbrev pub control_cause : Option BodyFault → Option Cause
control_cause None = None
control_cause (Some (body_fault.Length wanted got)) = Some (cause.Length wanted got)
control_cause (Some (body_fault.CapsRange offset count)) = Some (cause.CapsRange offset count)
control_cause (Some body_fault.NoMemory) = None

abbrev pub bus_cause : Option BusFault → Option Cause
bus_cause None = None
bus_cause (Some (bus_fault.Length wanted got)) = Some (cause.Length wanted got)
bus_cause (Some (bus_fault.DataRange offset len)) = Some (cause.DataRange offset len)
bus_cause (Some (bus_fault.EnableRange offset len)) = Some (cause.EnableRange offset len)
bus_cause (Some bus_fault.NoMemory) = None

-- the rows on bodies; the Boolean is the response flag
abbrev pub body_cause : Command → Bool → List ℕ → Option Cause
body_cause command.Nop response b = None
body_cause command.Hello response b = control_cause (hello_refusal b)
body_cause command.Cfg response b = control_cause (short_of 5 b)
body_cause command.Read response b = bus_cause (bus_refusal response b)
body_cause command.Write response b = bus_cause (bus_refusal (not response) b)
body_cause command.Interrupt response b = control_cause (short_of 21 b)
body_cause command.Sync response b = control_cause (short_of 8 b)

abbrev pub body_in : Command → Bool → List ℕ → Body
body_in command.Nop response b = NopBody
body_in command.Hello response b = HelloBody (field 20 2 b) (field 22 2 b) (caps_in b)
body_in command.Cfg response b = CfgBody (field 20 4 b) (field 24 1 b)
body_in command.Read response b = ReadBody (fields_in (bit (field 28 8 b) 2) response b)
body_in command.Write response b = WriteBody (fields_in (bit (field 28 8 b) 2) (not response) b)
body_in command.Interrupt response b = InterruptBody (field 20 8 b) (field 28 8 b) (field 36 4 b) (field 40 1 b)
body_in command.Sync response b = SyncBody (field 20 8 b)

-- the five numbers of a packet's header, and its body
abbrev pub cmd_at : List ℕ → ℕ
cmd_at b = number 4 b

abbrev pub len_at : List ℕ → ℕ
len_at b = number 4 (drop 4 b)

abbrev pub id_at : List ℕ → ℕ
id_at b = number 4 (drop 8 b)

abbrev pub flags_at : List ℕ → ℕ
flags_at b = number 4 (drop 12 b)

abbrev pub dev_at : List ℕ → ℕ
dev_at b = number 4 (drop 16 b)

abbrev pub body_at : List ℕ → List ℕ
body_at b = take (len_at b) (drop 20 b)

-- the rows on the header, and those on the body
unfoldable pub early_refusal : List ℕ → Option Cause
early_refusal b = header_cause (refusal (cmd_at b) (len_at b))

unfoldable pub late_refusal : List ℕ → Option Cause
late_refusal b = body_cause (command_of (cmd_at b)) (bit (flags_at b) 1) (body_at b)

unfoldable pub value_in : List ℕ → Packet
value_in b =
    record {
      id = id_at b;
      flags = flags_at b;
      dev = dev_at b;
      body = body_in (command_of (cmd_at b)) (bit (flags_at b) 1) (body_at b);
    }

-- The packet that bytes begin with, and its number of bytes, where it is whole. A refused header is judged as soon as
-- it is there, and so are 20 bytes.
abbrev pub judged : List ℕ → Option Cause → Decoded Cause
judged b None = Valid (value_in b)
judged b (Some c) = Malformed c

abbrev pub first_at : List ℕ → Option Cause → Option (Decoded Cause × ℕ)
first_at b (Some c) = Some (Malformed c, 20)
first_at b None = if nat_lt (length b) (20 + len_at b) then None else Some (judged b (late_refusal b), 20 + len_at b)

abbrev pub first : List ℕ → Option (Decoded Cause × ℕ)
first b = if nat_lt (length b) 20 then None else first_at b (early_refusal b)
