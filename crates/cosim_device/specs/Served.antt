-- How serving the device of a configuration's port ends: before its socket was connected to, or with the conversation
-- of its fresh end, behind which a disk's sectors are written where that ended well.
use Rattle.std.specs.Prelude.{ℕ, ◌≡◌, ◌⊎◌, List, [], ◌∷◌, ◌++◌, IfSome}
use Rattle.std.specs.declared.option.Option.{Option}
use Rattle.std.specs.declared.option.Option.TheVariants.{Some, None}
use Rattle.std.specs.declared.result.Result.{Result}
use Rattle.std.specs.declared.result.Result.TheVariants.{Ok, Err}
use Rattle.cos_base.specs.Networks.{Coming}
use Rattle.cos_base.specs.Stores.{Store}
use Rattle.ends_model.specs.DeviceTurn.{DeviceEnd}
use Rattle.rp_packet.specs.declared.fault.Cause.{Cause}
use Rattle.cos_config.specs.declared.config.PortConfig.{PortConfig}
use Rattle.cos_parts.specs.declared.any_device.AnyDevice.{AnyDevice}
use Rattle.cos_parts.specs.AnyDevices.{any_model}
use Rattle.outcomes.specs.declared.failures.FilesFailure.{FilesFailure}
use Rattle.outcomes.specs.declared.failures.FilesFailure.TheVariants as files
use Rattle.outcomes.specs.declared.failures.ReadFault.{ReadFault}
use Rattle.outcomes.specs.declared.failures.ReadFault.TheVariants as read
use Rattle.outcomes.specs.declared.object.Object.TheVariants as object
use Rattle.outcomes.specs.declared.stop.Stop.{Stop}
use Rattle.outcomes.specs.declared.stop.Stop.TheVariants.{Refused, Outside, NoMemory}
use Rattle.outcomes.specs.Asked.{Asking, Names, AsksAll, AsksUpTo}
use Rattle.outcomes.specs.Outcomes.{Outcome, Written}
use Rattle.outcomes.specs.Seen.{Seen, IsUntouched}
use Rattle.outcomes.specs.Steps.{IsStanding, ComesUnread, ComesLacking, IsWritten, BlamesNone}
use Rattle.cosim_inputs.specs.declared.refusals.InputsRefusal.{InputsRefusal}
use Rattle.cosim_inputs.specs.Fresh.{device_of}
use Rattle.cosim_serve.specs.declared.refusal.DeviceRefusal.{DeviceRefusal}
use Rattle.cosim_serve.specs.Serves.{NetView, Serves}
use Rattle.cosim_serve.specs.Talks.{Ended}
use Rattle.cosim_device.specs.declared.refusal.PortRefusal.{PortRefusal}
use Rattle.cosim_device.specs.declared.refusal.PortRefusal.TheVariants.{Inputs, Peer}
use Rattle.cosim_device.specs.Ports.{found, port_names, port_start, result_of}

-- how the call ends
abbrev pub PortEnded : Type 0
PortEnded = Result Unit (Stop PortRefusal)

-- what is around the call: the files before and after it, the names that they were asked for, whether they are sound
-- before it, and the network
pub record PortView (L : Type 0) : Type 1 where
  pub files : Seen Store
  pub names : Asking
  pub is_sound : Type 0
  pub net : Seen (Coming L)
  pub links : NetView L

-- How a file that couldn't be had ends it, a conversation, and a file that couldn't be written.

abbrev pub unread_end : ReadFault InputsRefusal → PortEnded
unread_end (read.Refused r) = Err (Refused (Inputs r))
unread_end (read.Failed count) = Err (Outside object.Files count)
unread_end read.NoMemory = Err NoMemory

abbrev pub peer_end : Stop DeviceRefusal → PortEnded
peer_end (Refused r) = Err (Refused (Peer r))
peer_end (Outside o count) = Err (Outside o count)
peer_end NoMemory = Err NoMemory

abbrev pub written_end : Result Unit FilesFailure → PortEnded
written_end (Ok u) = Ok tt
written_end (Err (files.Failed count)) = Err (Outside object.Files count)
written_end (Err files.NoMemory) = Err NoMemory

-- this stands against making the port's device
abbrev pub StandsAgainst : Option Store → List ℕ → ℕ → Outcome InputsRefusal → Type 0
StandsAgainst held config port o = IfSome held (λ m. found m config port ≡ Err o)

-- It ended before it connected: something stands against making the device, the files are blamed, or memory was short.
pub record IsUnmade {L : Type 0} (config : List ℕ) (port : ℕ) (a : PortView L) (r : PortEnded) : Type 0 where
  pub fault : ReadFault InputsRefusal
  pub ends : r ≡ unread_end fault
  pub unread : ComesUnread (StandsAgainst a.files.old config port) a.files fault
  pub lacks : a.is_sound → ComesLacking (StandsAgainst a.files.old config port) fault
  pub asks : AsksUpTo (port_names config port) a.names fault
  pub net : IsUntouched a.net

-- A file that may be to be written was.
abbrev pub Writes : Option Written → Seen Store → Result Unit FilesFailure → Type 0
Writes None f w = IsStanding f × (w ≡ Ok tt)
Writes (Some file) f w = IsWritten f file.name file.bytes w

-- Behind the names that were read it was asked for, unless there was no memory.
abbrev pub AsksWritten : Option Written → Names → Asking → Result Unit FilesFailure → Type 0
AsksWritten None reads a w = AsksAll a reads
AsksWritten (Some file) reads a (Ok u) = AsksAll a (λ m. reads m ++ (file.name ∷ []))
AsksWritten (Some file) reads a (Err (files.Failed count)) = AsksAll a (λ m. reads m ++ (file.name ∷ []))
AsksWritten (Some file) reads a (Err files.NoMemory) = AsksAll a reads

-- Behind a conversation that ended well the sectors of a disk are written; behind any other, nothing.

pub record IsWrittenBehind (file : Option Written) (reads : Names) (f : Seen Store) (names : Asking) (is_sound : Type 0)
    (r : PortEnded) : Type 0 where
  pub written : Result Unit FilesFailure
  pub ends : r ≡ written_end written
  pub writes : Writes file f written
  pub sound : is_sound → BlamesNone written
  pub asks : AsksWritten file reads names written

pub record IsLeft (stop : Stop DeviceRefusal) (reads : Names) (f : Seen Store) (names : Asking) (r : PortEnded) : Type 0
  where
    pub ends : r ≡ peer_end stop
    pub stands : IsStanding f
    pub asks : AsksAll names reads

abbrev pub Finishes : Option Written → Names → Seen Store → Asking → Type 0 → Ended → PortEnded → Type 0
Finishes file reads f names is_sound (Ok u) r = IsWrittenBehind file reads f names is_sound r
Finishes file reads f names is_sound (Err stop) r = IsLeft stop reads f names r

-- The device was made of what the files hold, and its end served the first link that was to come.
pub record IsServed {L : Type 0} (config : List ℕ) (port : ℕ) (socket : List ℕ) (a : PortView L) (r : PortEnded)
    : Type 0 where
  pub settings : PortConfig
  pub device : AnyDevice
  pub is_found : IfSome a.files.old (λ m. (found m config port ≡ Ok settings) × (device ≡ device_of m settings))
  pub left : DeviceEnd AnyDevice Cause
  pub served : Ended
  pub serves : Serves any_model (port_start settings device) left port a.links socket a.net served
  pub finishes :
      Finishes (result_of settings.result left.device) (port_names config port) a.files a.names a.is_sound served r

abbrev pub ServesPort : {L : Type 0} → List ℕ → ℕ → List ℕ → PortView L → PortEnded → Type 0
ServesPort config port socket a r = IsUnmade config port a r ⊎ IsServed config port socket a r
