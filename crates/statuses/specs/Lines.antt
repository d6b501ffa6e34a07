-- The line that tells a status, and what of it was put.
use Rattle.std.specs.Prelude.{ℕ, ◌≡◌, List, [], ◌∷◌, ◌++◌, map, codes, decimal}
use Rattle.std.specs.List.{concat}
use Rattle.std.specs.Fmt.{signed_decimal}
use Rattle.std.specs.Borrow.{Bor}
use Rattle.cos_config.specs.declared.fault.TableName.{TableName}
use Rattle.cos_config.specs.declared.fault.TableName.TheVariants as table
use Rattle.cos_config.specs.declared.fault.ConfigFault.{ConfigFault}
use Rattle.cos_config.specs.declared.fault.ConfigFault.TheVariants as config
use Rattle.cosim_model.specs.declared.session.EndFault.{EndFault}
use Rattle.cosim_model.specs.declared.session.EndFault.TheVariants as fault
use Rattle.cosim_model.specs.declared.session.SessionFault.{SessionFault}
use Rattle.cosim_model.specs.declared.session.SessionFault.TheVariants as session
use Rattle.rp_packet.specs.declared.fault.Cause.{Cause}
use Rattle.rp_packet.specs.declared.fault.Cause.TheVariants as cause
use Rattle.rp_packet.specs.declared.fault.PacketFault.{PacketFault}
use Rattle.rv_asm.specs.declared.fault.Cause.{Cause as AsmCause}
use Rattle.rv_asm.specs.declared.fault.Cause.TheVariants as asm
use Rattle.statuses.specs.declared.status.Status.{Status}
use Rattle.statuses.specs.declared.status.Status.TheVariants as status
use Rattle.statuses.specs.declared.status.InputFault.{InputFault}
use Rattle.statuses.specs.declared.status.InputFault.TheVariants as input
use Rattle.outcomes.specs.Seen.{Seen, IsUntouched}
use Rattle.outcomes.specs.Outcomes.{IsPut}
use Rattle.outcomes.specs.declared.object.Object.{Object}
use Rattle.outcomes.specs.declared.object.Object.TheVariants as object

-- pieces of text, one after another
abbrev pub texts : List (Bor (List ℕ)) → List ℕ
texts pieces = concat (map (λ p. p.now) pieces)

-- a line that ends in one number, in two, and in three
abbrev pub line_one : List ℕ → ℕ → List ℕ
line_one front n = concat (front ∷ decimal n ∷ codes "\n" ∷ [])

abbrev pub line_two : List ℕ → ℕ → ℕ → List ℕ
line_two front n m = concat (front ∷ decimal n ∷ codes " " ∷ decimal m ∷ codes "\n" ∷ [])

abbrev pub line_three : List ℕ → ℕ → ℕ → ℕ → List ℕ
line_three front n m k =
    concat (front ∷ decimal n ∷ codes " " ∷ decimal m ∷ codes " " ∷ decimal k ∷ codes "\n" ∷ [])

-- how a table of the configuration is called
abbrev pub table_name : TableName → List ℕ
table_name table.Top = codes "top"
table_name table.Machine = codes "machine"
table_name (table.Port p) = decimal p

-- a fault at a key of a table
abbrev pub key_line : List ℕ → TableName → List ℕ → List ℕ
key_line front t key = concat (front ∷ table_name t ∷ codes " " ∷ key ∷ codes "\n" ∷ [])

-- the line of a configuration's fault: its variant, followed by its fields
abbrev pub config_line : ConfigFault → List ℕ
config_line config.Text = codes "cosim: config: Text\n"
config_line (config.Unknown t key) = key_line (codes "cosim: config: Unknown ") t key
config_line (config.Missing t key) = key_line (codes "cosim: config: Missing ") t key
config_line (config.Kind t key) = key_line (codes "cosim: config: Kind ") t key
config_line (config.TooMany count) = line_one (codes "cosim: config: TooMany ") count
config_line (config.Word t key) = key_line (codes "cosim: config: Word ") t key
config_line (config.Range t key value) =
    concat (codes "cosim: config: Range " ∷ table_name t ∷ codes " " ∷ key ∷ codes " " ∷ signed_decimal value
    ∷ codes "\n" ∷ [])
config_line (config.Overlap a b) = line_two (codes "cosim: config: Overlap ") a b
config_line (config.LineTwice a b) = line_two (codes "cosim: config: LineTwice ") a b
config_line (config.Needs port cap) = line_two (codes "cosim: config: Needs ") port cap
config_line config.NoMemory = codes "cosim: config: NoMemory\n"

-- the cause of a malformed packet: its variant, followed by its fields
abbrev pub cause_text : Cause → List ℕ
cause_text (cause.Command n) = line_one (codes "Command ") n
cause_text (cause.Translation n) = line_one (codes "Translation ") n
cause_text (cause.TooLong n) = line_one (codes "TooLong ") n
cause_text (cause.Length n m) = line_two (codes "Length ") n m
cause_text (cause.CapsRange n m) = line_two (codes "CapsRange ") n m
cause_text (cause.DataRange n m) = line_two (codes "DataRange ") n m
cause_text (cause.EnableRange n m) = line_two (codes "EnableRange ") n m

-- a malformed packet: where it begins, the place in it that is blamed, and the cause
abbrev pub malformed_text : PacketFault → List ℕ
malformed_text f =
    concat (codes "Malformed " ∷ decimal f.start ∷ codes " " ∷ decimal f.place ∷ codes " " ∷ []) ++ cause_text f.cause

abbrev pub assembly_cause : AsmCause → List ℕ
assembly_cause asm.Syntax = codes "Syntax"
assembly_cause asm.Name = codes "Name"
assembly_cause asm.Range = codes "Range"
assembly_cause asm.Twice = codes "Twice"

-- the line of a refused file
abbrev pub input_line : InputFault → List ℕ
input_line input.ImageEmpty = codes "cosim: input: ImageEmpty\n"
input_line (input.ImageTooLarge size got) = line_two (codes "cosim: input: ImageTooLarge ") size got
input_line (input.Line n) = line_one (codes "cosim: input: Line ") n
input_line (input.Assembly n c) =
    concat (codes "cosim: input: Assembly " ∷ decimal n ∷ codes " " ∷ assembly_cause c ∷ codes "\n" ∷ [])
input_line (input.UartInput port len) = line_two (codes "cosim: input: UartInput ") port len
input_line (input.DiskImage port len) = line_two (codes "cosim: input: DiskImage ") port len
input_line (input.Malformed f) = codes "cosim: input: " ++ malformed_text f
input_line (input.Truncated start held) = line_two (codes "cosim: input: Truncated ") start held
input_line (input.Words len) = line_one (codes "cosim: input: Words ") len

-- a session's fault: its variant, followed by its fields
abbrev pub session_text : SessionFault → List ℕ
session_text (session.Flood count) = line_one (codes "Flood ") count
session_text (session.HelloMissing cmd) = line_one (codes "HelloMissing ") cmd
session_text session.HelloAgain = codes "HelloAgain\n"
session_text (session.Version major) = line_one (codes "Version ") major
session_text (session.CapMissing cap) = line_one (codes "CapMissing ") cap
session_text (session.Unsupported cmd) = line_one (codes "Unsupported ") cmd
session_text (session.StrayAnswer id cmd) = line_two (codes "StrayAnswer ") id cmd
session_text (session.WrongAnswer id wanted got) = line_three (codes "WrongAnswer ") id wanted got
session_text (session.TimeBackwards had got) = line_two (codes "TimeBackwards ") had got
session_text (session.EarlyPosted id) = line_one (codes "EarlyPosted ") id
session_text (session.SecondRequest id) = line_one (codes "SecondRequest ") id

-- why an end stopped: the variant, followed by its fields; a session's fault stands alone
abbrev pub end_text : EndFault PacketFault → List ℕ
end_text (fault.Malformed f) = malformed_text f
end_text (fault.Truncated start held) = line_two (codes "Truncated ") start held
end_text (fault.Session f) = session_text f
end_text (fault.Ended taken) = line_one (codes "Ended ") taken
end_text (fault.TooMuch taken) = line_one (codes "TooMuch ") taken
end_text (fault.Link count) = line_one (codes "Link ") count
end_text (fault.LateWant at got) = line_two (codes "LateWant ") at got
end_text (fault.Astray cmd) = line_one (codes "Astray ") cmd
end_text fault.NoMemory = codes "NoMemory\n"

-- the line of a peer's fault
abbrev pub peer_line : ℕ → EndFault PacketFault → List ℕ
peer_line port f = concat (codes "cosim: peer p" ∷ decimal port ∷ codes ": " ∷ []) ++ end_text f

-- the line of an object of the outside
abbrev pub outside_line : Object → ℕ → List ℕ
outside_line object.Files count = line_one (codes "cosim: outside: files ") count
outside_line object.Out count = line_one (codes "cosim: outside: out ") count
outside_line object.Net count = line_one (codes "cosim: outside: net ") count
outside_line (object.Link port) count = line_two (codes "cosim: outside: link p") port count
outside_line object.Spawner count = line_one (codes "cosim: outside: spawner ") count

-- the line of a child that ended with another status than 0
abbrev pub child_line : ℕ → ℕ → List ℕ
child_line port s =
    concat (codes "cosim: child p" ∷ decimal port ∷ codes " status " ∷ decimal s ∷ codes "\n" ∷ [])

-- the line of a status; where all was done there is none
abbrev pub line_of : Status → List ℕ
line_of status.Done = []
line_of (status.Usage index) = line_one (codes "cosim: usage at word ") index
line_of (status.Config f) = config_line f
line_of (status.Input f) = input_line f
line_of (status.Peer port f) = peer_line port f
line_of (status.Outside o count) = outside_line o count
line_of status.NoMemory = codes "cosim: no memory\n"
line_of (status.Child port s) = child_line port s

-- The line of the status was put; where all was done nothing was.
abbrev pub TellsStatus : Seen (List ℕ) → Status → Type 0
TellsStatus k status.Done = IsUntouched k
TellsStatus k (status.Usage index) = IsPut k (line_of (status.Usage index))
TellsStatus k (status.Config f) = IsPut k (line_of (status.Config f))
TellsStatus k (status.Input f) = IsPut k (line_of (status.Input f))
TellsStatus k (status.Peer port f) = IsPut k (line_of (status.Peer port f))
TellsStatus k (status.Outside o count) = IsPut k (line_of (status.Outside o count))
TellsStatus k status.NoMemory = IsPut k (line_of status.NoMemory)
TellsStatus k (status.Child port s) = IsPut k (line_of (status.Child port s))
