-- A command that keeps its promise: the program keeps that of its words.
use Rattle.std.proofs.Common.{ℕ, ◌≡◌, List, sym, ◌∙◌}
use Rattle.std.specs.declared.result.Result.{Result}
use Rattle.std.specs.declared.result.Result.TheVariants.{Ok, Err}
use Rattle.outcomes.specs.declared.stop.Stop.{Stop}
use Rattle.outcomes.specs.declared.stop.Stop.TheVariants.{Refused, Outside, NoMemory}
use Rattle.statuses.specs.declared.status.Status.{Status}
use Rattle.statuses.specs.declared.status.Status.TheVariants as status
use Rattle.cosim_assembly.specs.declared.refusals.AsmRefusal.TheVariants as asm
use Rattle.cosim_assembly.specs.declared.refusals.DisRefusal.TheVariants as dis
use Rattle.cosim_inputs.specs.declared.refusals.InputsRefusal.TheVariants as inputs
use Rattle.cosim_local.specs.declared.refusal.LocalRefusal.TheVariants as local
use Rattle.cosim_run.specs.declared.refusal.RunRefusal.TheVariants as run
use Rattle.cosim_packets.specs.declared.refusals.PackRefusal.TheVariants as pack
use Rattle.cosim_packets.specs.declared.refusals.ShowRefusal.TheVariants as show
use Rattle.cosim_serve.specs.declared.refusal.DeviceRefusal.TheVariants as device
use Rattle.cosim_device.specs.declared.refusal.PortRefusal.TheVariants as port
use Rattle.cosim_cli.specs.Ended.{ended_status, show_refused, pack_refused, asm_refused, dis_refused, inputs_refused, device_refused, port_refused, local_refused, never_refused, run_refused}
use Rattle.cosim_cli.specs.Promises.{Around, Keeps, Promises, none_refused}
use Rattle.cosim_cli.specs.Usage.{Uses}
use Rattle.cosim_words.specs.Words.{Command, DeviceNull, DeviceTimer, DevicePort, Show, Pack, Asm, Dis, Direct, Local, Gen, Help, IsInRange, words_of, Run}

-- No refusal is told as Usage, and so no command ends by it.
abbrev NeverUsage : {R : Type 0} → (R → Status) → Type 0
NeverUsage {R} refused = (r : R) (index : ℕ) → status.Usage index ≡ refused r → ⊥

show-never : NeverUsage show_refused
show-never (show.Malformed fault) index same = cc (same)
show-never (show.Truncated start held) index same = cc (same)

pack-never : NeverUsage pack_refused
pack-never (pack.Line number) index same = cc (same)

asm-never : NeverUsage asm_refused
asm-never (asm.Assembly number cause) index same = cc (same)

dis-never : NeverUsage dis_refused
dis-never (dis.Words len) index same = cc (same)

inputs-never : NeverUsage inputs_refused
inputs-never (inputs.Config fault) index same = cc (same)
inputs-never inputs.ImageEmpty index same = cc (same)
inputs-never (inputs.ImageTooLarge size got) index same = cc (same)
inputs-never (inputs.Line number) index same = cc (same)
inputs-never (inputs.UartInput port len) index same = cc (same)
inputs-never (inputs.DiskImage port len) index same = cc (same)

device-never : NeverUsage device_refused
device-never (device.Peer port fault) index same = cc (same)

port-never : NeverUsage port_refused
port-never (port.Inputs refusal) index same = inputs-never refusal index same
port-never (port.Peer refusal) index same = device-never refusal index same

run-never : NeverUsage run_refused
run-never (run.Inputs refusal) index same = inputs-never refusal index same
run-never (run.Peer port fault) index same = cc (same)
run-never (run.Child port s) index same = cc (same)

local-never : NeverUsage local_refused
local-never (local.Inputs refusal) index same = inputs-never refusal index same
local-never (local.Steps number) index same = cc (same)

nothing-never : NeverUsage never_refused
nothing-never r index same = elim r [ ]

none-never : NeverUsage none_refused
none-never never index same = never

ended-never : {R : Type 0} (refused : R → Status) → NeverUsage refused → (r : Result Unit (Stop R)) (index : ℕ) → status.Usage index ≡ ended_status refused r → ⊥
ended-never refused never (Ok u) index same = cc (same)
ended-never refused never (Err (Refused r)) index same = never r index same
ended-never refused never (Err (Outside object count)) index same = cc (same)
ended-never refused never (Err NoMemory) index same = cc (same)

never-usage : {L : Type 0} (c : Command) (a : Around L) (index : ℕ) → Keeps c a (status.Usage index) → ⊥
never-usage (DeviceNull socket) a index keeps = ended-never device_refused device-never keeps.result index keeps.status
never-usage (DeviceTimer socket line) a index keeps = ended-never device_refused device-never keeps.result index keeps.status
never-usage (DevicePort socket config port) a index keeps = ended-never port_refused port-never keeps.result index keeps.status
never-usage (Show file) a index keeps = ended-never show_refused show-never keeps.result index keeps.status
never-usage (Pack file) a index keeps = ended-never pack_refused pack-never keeps.result index keeps.status
never-usage (Asm file out) a index keeps = ended-never asm_refused asm-never keeps.result index keeps.status
never-usage (Dis file) a index keeps = ended-never dis_refused dis-never keeps.result index keeps.status
never-usage (Direct config) a index keeps = ended-never inputs_refused inputs-never keeps.result index keeps.status
never-usage (Local config order) a index keeps =
    ended-never local_refused local-never keeps.2.result index keeps.2.status
never-usage (Gen number) a index keeps = ended-never never_refused nothing-never keeps.result index keeps.status
never-usage (Run config program) a index keeps = ended-never run_refused run-never keeps.result index keeps.status
never-usage Help a index keeps = ended-never none_refused none-never keeps.result index keeps.status

pub kept-uses : {L : Type 0} (words : List (List ℕ)) (c : Command) (a : Around L) (s : Status) → IsInRange c → words ≡ words_of c → Keeps c a s → Uses words s
kept-uses words c a status.Done inside is keeps = (c, inside, is)
kept-uses words c a (status.Usage index) inside is keeps = absurd (never-usage c a index keeps)
kept-uses words c a (status.Config e) inside is keeps = (c, inside, is)
kept-uses words c a (status.Input e) inside is keeps = (c, inside, is)
kept-uses words c a (status.Peer port e) inside is keeps = (c, inside, is)
kept-uses words c a (status.Outside o count) inside is keeps = (c, inside, is)
kept-uses words c a status.NoMemory inside is keeps = (c, inside, is)
kept-uses words c a (status.Child port e) inside is keeps = (c, inside, is)

pub kept-promises : {L : Type 0} (words : List (List ℕ)) (c : Command) (a : Around L) (s : Status) → IsInRange c → words ≡ words_of c → Keeps c a s → Promises words a s
kept-promises words c a status.Done inside is keeps = (c, inside, is, keeps)
kept-promises words c a (status.Usage index) inside is keeps = absurd (never-usage c a index keeps)
kept-promises words c a (status.Config e) inside is keeps = (c, inside, is, keeps)
kept-promises words c a (status.Input e) inside is keeps = (c, inside, is, keeps)
kept-promises words c a (status.Peer port e) inside is keeps = (c, inside, is, keeps)
kept-promises words c a (status.Outside o count) inside is keeps = (c, inside, is, keeps)
kept-promises words c a status.NoMemory inside is keeps = (c, inside, is, keeps)
kept-promises words c a (status.Child port e) inside is keeps = (c, inside, is, keeps)
