-- The status of how a command ended: of what it refuses, each in the program's words.
use Rattle.std.specs.Prelude.{ℕ}
use Rattle.std.specs.declared.convert.Infallible.{Infallible}
use Rattle.std.specs.declared.result.Result.{Result}
use Rattle.std.specs.declared.result.Result.TheVariants.{Ok, Err}
use Rattle.outcomes.specs.declared.stop.Stop.{Stop}
use Rattle.outcomes.specs.declared.stop.Stop.TheVariants.{Refused, Outside, NoMemory}
use Rattle.statuses.specs.declared.status.Status.{Status}
use Rattle.statuses.specs.declared.status.Status.TheVariants as status
use Rattle.statuses.specs.declared.status.InputFault.TheVariants as input
use Rattle.cosim_assembly.specs.declared.refusals.AsmRefusal.{AsmRefusal}
use Rattle.cosim_assembly.specs.declared.refusals.AsmRefusal.TheVariants as asm
use Rattle.cosim_assembly.specs.declared.refusals.DisRefusal.{DisRefusal}
use Rattle.cosim_assembly.specs.declared.refusals.DisRefusal.TheVariants as dis
use Rattle.cosim_inputs.specs.declared.refusals.InputsRefusal.{InputsRefusal}
use Rattle.cosim_inputs.specs.declared.refusals.InputsRefusal.TheVariants as inputs
use Rattle.cosim_local.specs.declared.refusal.LocalRefusal.{LocalRefusal}
use Rattle.cosim_local.specs.declared.refusal.LocalRefusal.TheVariants as local
use Rattle.cosim_packets.specs.declared.refusals.PackRefusal.{PackRefusal}
use Rattle.cosim_packets.specs.declared.refusals.PackRefusal.TheVariants as pack
use Rattle.cosim_packets.specs.declared.refusals.ShowRefusal.{ShowRefusal}
use Rattle.cosim_packets.specs.declared.refusals.ShowRefusal.TheVariants as show
use Rattle.cosim_run.specs.declared.refusal.RunRefusal.{RunRefusal}
use Rattle.cosim_run.specs.declared.refusal.RunRefusal.TheVariants as run
use Rattle.cosim_serve.specs.declared.refusal.DeviceRefusal.{DeviceRefusal}
use Rattle.cosim_serve.specs.declared.refusal.DeviceRefusal.TheVariants as device
use Rattle.cosim_device.specs.declared.refusal.PortRefusal.{PortRefusal}
use Rattle.cosim_device.specs.declared.refusal.PortRefusal.TheVariants as port

abbrev pub ended_status : {R : Type 0} → (R → Status) → Result Unit (Stop R) → Status
ended_status refused (Ok u) = status.Done
ended_status refused (Err (Refused r)) = refused r
ended_status refused (Err (Outside object count)) = status.Outside object count
ended_status refused (Err NoMemory) = status.NoMemory

abbrev pub show_refused : ShowRefusal → Status
show_refused (show.Malformed fault) = status.Input (input.Malformed fault)
show_refused (show.Truncated start held) = status.Input (input.Truncated start held)

abbrev pub pack_refused : PackRefusal → Status
pack_refused (pack.Line number) = status.Input (input.Line number)

abbrev pub asm_refused : AsmRefusal → Status
asm_refused (asm.Assembly number cause) = status.Input (input.Assembly number cause)

abbrev pub dis_refused : DisRefusal → Status
dis_refused (dis.Words len) = status.Input (input.Words len)

abbrev pub inputs_refused : InputsRefusal → Status
inputs_refused (inputs.Config fault) = status.Config fault
inputs_refused inputs.ImageEmpty = status.Input input.ImageEmpty
inputs_refused (inputs.ImageTooLarge size got) = status.Input (input.ImageTooLarge size got)
inputs_refused (inputs.Line number) = status.Input (input.Line number)
inputs_refused (inputs.UartInput port len) = status.Input (input.UartInput port len)
inputs_refused (inputs.DiskImage port len) = status.Input (input.DiskImage port len)

abbrev pub device_refused : DeviceRefusal → Status
device_refused (device.Peer port fault) = status.Peer port fault

abbrev pub port_refused : PortRefusal → Status
port_refused (port.Inputs refusal) = inputs_refused refusal
port_refused (port.Peer refusal) = device_refused refusal

abbrev pub run_refused : RunRefusal → Status
run_refused (run.Inputs refusal) = inputs_refused refusal
run_refused (run.Peer port fault) = status.Peer port fault
run_refused (run.Child port s) = status.Child port s

abbrev pub local_refused : LocalRefusal → Status
local_refused (local.Inputs refusal) = inputs_refused refusal
local_refused (local.Steps number) = status.Input (input.Line number)

-- of a command that refuses nothing
abbrev pub never_refused : Infallible → Status
never_refused r = elim r [ ]
