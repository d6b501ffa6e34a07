-- What a turn answers: what the end did, or the fault that it keeps.
use Rattle.std.specs.Prelude.{ℕ, Bool, true, false, Option, Some, None, Result, Ok, Err}
use Rattle.cosim_model.specs.Parts.{DeviceModel, MasterModel}
use Rattle.cosim_model.specs.Packets.{Decoded}
use Rattle.cosim_model.specs.declared.session.EndFault.{EndFault}
use Rattle.ends_model.specs.declared.ends.Turn.{Turn}
use Rattle.ends_model.specs.declared.ends.Turn.TheVariants as turn
use Rattle.ends_model.specs.declared.ends.DeviceTurn.{DeviceTurn}
use Rattle.ends_model.specs.declared.ends.DeviceTurn.TheVariants as device_turn
use Rattle.ends_model.specs.DeviceTurn.{DeviceEnd, device_takes}
use Rattle.ends_model.specs.MachineTurn.{MachineEnd, Act, machine_acts, machine_takes}
use Rattle.ends_model.specs.MachineTurn.Act.{Works, Sends, Awaits, Serves, Marks, Rests, Fails, Lost}

abbrev pub unless_faulty : {T E : Type 0} → T → Option E → Result T E
unless_faulty answer None = Ok answer
unless_faulty answer (Some fault) = Err fault

-- The machine end. `whole p` is the message of port p that comes next, where it is whole. No answer: no run comes to
-- such an end.

abbrev pub take_answer :
    {M F : Type 0} → MasterModel M → MachineEnd M F → ℕ → Option (Decoded F) → Result Turn (ℕ × EndFault F)
take_answer k h p None = Ok (turn.NotYet p)
take_answer k h p (Some m) = unless_faulty (turn.Took p) (machine_takes k h p m).fault

abbrev pub answer_by :
    {M F : Type 0} → MasterModel M → MachineEnd M F → (ℕ → Option (Decoded F)) → Act M F
    → Option (Result Turn (ℕ × EndFault F))
answer_by k h whole (Works next) = Some (Ok turn.Unit)
answer_by k h whole (Sends p x next) = Some (Ok (turn.Sent p))
answer_by k h whole (Awaits p) = Some (take_answer k h p (whole p))
answer_by k h whole (Serves p next) = Some (Ok (turn.Served p))
answer_by k h whole (Marks next) = Some (Ok turn.Marked)
answer_by k h whole Rests = Some (Ok turn.Done)
answer_by k h whole (Fails p fault) = Some (Err (p, fault))
answer_by k h whole Lost = None

abbrev pub machine_answer :
    {M F : Type 0} → MasterModel M → MachineEnd M F → (ℕ → Option (Decoded F)) → Option (Result Turn (ℕ × EndFault F))
machine_answer k h whole = answer_by k h whole (machine_acts k h)

-- The device end, with the message that comes next, where it is whole.

abbrev pub hears_answer :
    {S F : Type 0} → DeviceModel S → DeviceEnd S F → Option (Decoded F) → Result DeviceTurn (EndFault F)
hears_answer d e None = Ok device_turn.NotYet
hears_answer d e (Some m) = unless_faulty device_turn.Took (device_takes d e m).0.fault

abbrev pub answer_once :
    {S F : Type 0} → DeviceModel S → DeviceEnd S F → Option (EndFault F) → Bool → Option (Decoded F)
    → Result DeviceTurn (EndFault F)
answer_once d e (Some fault) greeted whole = Err fault
answer_once d e None false whole = Ok device_turn.Greeted
answer_once d e None true whole = hears_answer d e whole

abbrev pub device_answer :
    {S F : Type 0} → DeviceModel S → DeviceEnd S F → Option (Decoded F) → Result DeviceTurn (EndFault F)
device_answer d e whole = answer_once d e e.fault e.session.hello_went whole
