-- The ends of devices of which no configuration speaks: they offer all capabilities, and a line is sent so that it is
-- answered.
use Rattle.std.specs.Prelude.{ℕ, true}
use Rattle.cosim_model.specs.declared.session.Role.TheVariants.{Device}
use Rattle.cosim_model.specs.Parts.{DeviceModel}
use Rattle.cosim_model.specs.Sessions.{fresh_session}
use Rattle.cosim_model.specs.Values.{all_caps}
use Rattle.ends_model.specs.DeviceTurn.{DeviceEnd, fresh_device}
use Rattle.rp_packet.specs.declared.fault.Cause.{Cause}
use Rattle.cos_parts.specs.Nulls.{null_model}
use Rattle.cos_parts.specs.declared.null.Null.{Null}
use Rattle.dev_timer.specs.Timers.{TimerRegisters, timer_model, fresh_timer}

abbrev pub plain_start : {S : Type 0} → DeviceModel S → S → DeviceEnd S Cause
plain_start d s = fresh_device s true (fresh_session Device all_caps (d.needs s))

-- a null device at tick 0
abbrev pub null_start : DeviceEnd Null Cause
null_start = plain_start null_model (record { seen = 0 })

-- a timer at tick 0, with its line
abbrev pub timer_start : ℕ → DeviceEnd TimerRegisters Cause
timer_start line = plain_start timer_model (fresh_timer line)
