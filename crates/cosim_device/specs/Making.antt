-- The steps of serving a port's device: its end is made, and serves.
use Rattle.std.specs.Prelude.{ℕ, ◌≡◌, List, [], Option, IfSome, Ok}
use Rattle.cos_base.specs.Networks.{Coming}
use Rattle.cos_base.specs.Stores.{Store}
use Rattle.cos_config.specs.declared.config.PortConfig.{PortConfig}
use Rattle.cos_parts.specs.declared.any_device.AnyDevice.{AnyDevice}
use Rattle.cos_parts.specs.AnyDevices.{any_model}
use Rattle.device_turns.specs.Ends.{fresh}
use Rattle.ends_model.specs.DeviceTurn.{DeviceEnd}
use Rattle.rp_packet.specs.declared.fault.Cause.{Cause}
use Rattle.outcomes.specs.Asked.{Asking}
use Rattle.outcomes.specs.Seen.{Seen}
use Rattle.outcomes.specs.Steps.{IsStanding}
use Rattle.cosim_inputs.specs.Fresh.{device_of}
use Rattle.cosim_serve.specs.Serves.{NetView, Serves}
use Rattle.cosim_serve.specs.Talks.{Ended}
use Rattle.cosim_device.specs.declared.port.PortEnd.{PortEnd}
use Rattle.cosim_device.specs.Ports.{found, port_start, result_of}
use Rattle.cosim_device.specs.Served.{PortEnded, Finishes}

-- The end is fresh, of the device that the files make by these settings.
pub record IsEndOf (held : Option Store) (settings : PortConfig) (p : PortEnd) : Type 0 where
  pub device : IfSome held (λ m. p.end.clear.device ≡ device_of m settings)
  pub end : p.end ≡ fresh (port_start settings p.end.clear.device)
  pub result : p.result ≡ settings.result

-- The files stand, and the end is that of the port's settings.
pub record IsMade (f : Seen Store) (config : List ℕ) (port : ℕ) (p : PortEnd) : Type 0 where
  pub stands : IsStanding f
  pub settings : PortConfig
  pub is_found : IfSome f.old (λ m. (found m config port ≡ Ok settings) × (p.end.clear.device ≡ device_of m settings))
  pub end : p.end ≡ fresh (port_start settings p.end.clear.device)
  pub result : p.result ≡ settings.result

-- That end served, and what is to be written behind was.
pub record ServesMade {L : Type 0} (p : PortEnd) (port : ℕ) (socket : List ℕ) (f : Seen Store) (names : Asking)
    (is_sound : Type 0) (view : NetView L) (net : Seen (Coming L)) (r : PortEnded) : Type 0 where
  pub left : DeviceEnd AnyDevice Cause
  pub served : Ended
  pub serves : Serves any_model p.end.clear left port view socket net served
  pub finishes : Finishes (result_of p.result left.device) (λ m. []) f names is_sound served r
