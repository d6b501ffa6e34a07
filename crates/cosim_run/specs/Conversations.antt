-- The conversation of a machine end with its children: their links are had, and the end is driven over them.
use Rattle.std.specs.Prelude.{◌≡◌, ℕ, ◌<◌, ◌≤◌, List, [], ◌++◌, length, map, IfSome, IsSomeAnd, slice_get}
use Rattle.std.specs.declared.option.Option.{Option}
use Rattle.std.specs.declared.option.Option.TheVariants.{Some, None}
use Rattle.std.specs.declared.result.Result.{Result}
use Rattle.std.specs.declared.result.Result.TheVariants.{Ok, Err}
use Rattle.cos_base.specs.Counts.{Rose}
use Rattle.cos_base.specs.Links.{Wire}
use Rattle.cos_base.specs.Networks.{Coming}
use Rattle.cos_children.specs.Children.{Children}
use Rattle.cos_config.specs.Plans.{plan_of}
use Rattle.cos_parts.specs.declared.any_device.AnyDevice.{AnyDevice}
use Rattle.cos_parts.specs.declared.any_master.AnyMaster.{AnyMaster}
use Rattle.cos_parts.specs.AnyDevices as devices
use Rattle.cos_parts.specs.AnyMasters as masters
use Rattle.configured_machine.specs.declared.parts.Parts.{Parts}
use Rattle.cosim_model.specs.declared.session.EndFault.{EndFault}
use Rattle.cosim_model.specs.declared.session.EndFault.TheVariants as fault
use Rattle.cosim_serve.specs.Serves.{NetView}
use Rattle.cosim_serve.specs.Talks.{OfPeer}
use Rattle.end_machine.specs.Driving.{DrivesDirectly, HasFinished, WhereTold}
use Rattle.end_machine.specs.Talk.{ByTalk}
use Rattle.end_machine.specs.Wires.{said_on}
use Rattle.ends_model.specs.MachineTurn.{MachineEnd}
use Rattle.ends_model.specs.World.{machine_start}
use Rattle.machine_turns.specs.declared.fault.TurnFault.{TurnFault}
use Rattle.machine_turns.specs.declared.fault.TurnFault.TheVariants as turn_fault
use Rattle.outcomes.specs.declared.object.Object.TheVariants as object
use Rattle.outcomes.specs.declared.stop.Stop.{Stop}
use Rattle.outcomes.specs.declared.stop.Stop.TheVariants.{Refused, Outside, NoMemory}
use Rattle.outcomes.specs.Seen.{Seen, CountStands, IsBlamed}
use Rattle.port_children.specs.declared.fault.OpenFault.{OpenFault}
use Rattle.port_children.specs.declared.fault.OpenFault.TheVariants as opening
use Rattle.port_children.specs.Opened.{HasGiven, with_all}
use Rattle.port_children.specs.Peers.{sockets_of, words_from}
use Rattle.rp_packet.specs.declared.fault.Cause.{Cause}
use Rattle.rp_packet.specs.declared.fault.PacketFault.{PacketFault}
use Rattle.cosim_run.specs.declared.refusal.RunRefusal.{RunRefusal}
use Rattle.cosim_run.specs.declared.refusal.RunRefusal.TheVariants.{Inputs, Peer, Child}

-- how the command ends, or a part of it
abbrev pub RunEnded : Type 0
RunEnded = Result Unit (Stop RunRefusal)

-- the machine's end
abbrev pub Machine : Type 0
Machine = MachineEnd AnyMaster Cause

-- the end of a configuration's machine that has taken no turn
abbrev pub start_end : Parts → Machine
start_end p = machine_start Cause p.machine.master (length p.config.ports) (plan_of p.config)

-- The end was driven over these links, and left so. Where the links tell, it ended as Talk with them does, and over
-- honest links as the direct machine; and where all is done, its run is one of the definitions, whatever they tell.
pub record IsDrivenOver {L : Type 0} (told : L → Option Wire) (p : Parts) (links : List L) (left : Machine)
    (r : Result Unit TurnFault) : Type 0 where
  pub talk : WhereTold (map told links) (λ ws. ByTalk masters.any_model (start_end p) (length ws) (said_on ws) left r)
  pub honest :
      WhereTold (map told links) (DrivesDirectly masters.any_model devices.any_model (start_end p) left r)

-- How far having the links came: these sockets were listened under, these children started, and these links taken.
pub record Reach (L : Type 0) : Type 0 where
  pub links : List L
  pub named : List (List ℕ)
  pub unnamed : List (List ℕ)
  pub started : List (List (List ℕ))
  pub unstarted : List (List (List ℕ))

-- all of them
abbrev pub IsAll : {L : Type 0} → Parts → Reach L → Type 0
IsAll p to = (to.unnamed ≡ []) × (to.unstarted ≡ []) × (length to.links ≡ length p.config.ports)

module _ {L : Type 0} (view : NetView L) (p : Parts) (net : Seen (Coming L)) (children : Seen Children)
    (to : Reach L) (left : Machine) where
  -- What the conversation came to. A fault that isn't of the outside is of a peer, and Talk's; a link is blamed only
  -- where its count rose above the one with which it was handed out, and the network and the spawner only where theirs
  -- rose in this call.
  abbrev pub Converses : RunEnded → Type 0
  Converses (Ok u) =
      IsAll p to × IsDrivenOver view.told p to.links left (Ok tt) × CountStands net × CountStands children
  Converses (Err (Refused (Peer port f))) =
      IsAll p to × OfPeer f
      × IsDrivenOver view.told p to.links left (Err (turn_fault.Port (record { port = port; fault = f })))
      × CountStands net × CountStands children
  Converses (Err (Refused (Inputs r))) = ⊥
  Converses (Err (Refused (Child port status))) = ⊥
  Converses (Err (Outside object.Net n)) = IsBlamed net n × CountStands children
  Converses (Err (Outside object.Spawner n)) = CountStands net × IsBlamed children n
  Converses (Err (Outside (object.Link port) n)) =
      IsAll p to × ((l : L) → slice_get to.links port ≡ Some l → Rose (view.count l) n)
      × CountStands net × CountStands children
  Converses (Err (Outside object.Files n)) = ⊥
  Converses (Err (Outside object.Out n)) = ⊥
  Converses (Err NoMemory) = CountStands net × CountStands children

-- Over sound objects the network is blamed only where fewer links are to come than there are ports, and nothing else is.
abbrev pub StopsSoundly : {L : Type 0} → Parts → Seen (Coming L) → Stop RunRefusal → Type 0
StopsSoundly p net (Outside object.Net n) = IsSomeAnd net.old (λ t. length t.coming < length p.config.ports)
StopsSoundly p net (Outside object.Spawner n) = ⊥
StopsSoundly p net (Outside (object.Link port) n) = ⊥
StopsSoundly p net (Outside object.Files n) = ⊥
StopsSoundly p net (Outside object.Out n) = ⊥
StopsSoundly p net (Refused r) = Unit {0}
StopsSoundly p net NoMemory = Unit {0}

-- how driving ends the command
abbrev pub undriven_at : ℕ → EndFault PacketFault → Stop RunRefusal
undriven_at port (fault.Link count) = Outside (object.Link port) count
undriven_at port fault.NoMemory = NoMemory
undriven_at port (fault.Malformed f) = Refused (Peer port (fault.Malformed f))
undriven_at port (fault.Session f) = Refused (Peer port (fault.Session f))
undriven_at port (fault.Ended taken) = Refused (Peer port (fault.Ended taken))
undriven_at port (fault.Truncated start held) = Refused (Peer port (fault.Truncated start held))
undriven_at port (fault.TooMuch taken) = Refused (Peer port (fault.TooMuch taken))
undriven_at port (fault.LateWant at got) = Refused (Peer port (fault.LateWant at got))
undriven_at port (fault.Astray cmd) = Refused (Peer port (fault.Astray cmd))

abbrev pub undriven : TurnFault → Stop RunRefusal
undriven (turn_fault.Port f) = undriven_at f.port f.fault
undriven turn_fault.NoMemory = NoMemory

-- how links that weren't had end it
abbrev pub unopened : OpenFault → Stop RunRefusal
unopened (opening.Net n) = Outside object.Net n
unopened (opening.Spawner n) = Outside object.Spawner n
unopened opening.NoMemory = NoMemory

-- The conversation of a configuration's machine with children that PROGRAM starts, which have these numbers: what it
-- did to the network and to the children, how it ended, and what it left of the machine's end. No child is started
-- before all sockets are listened under, and none whose number isn't kept.
pub record IsConversation {L : Type 0} (program config : List ℕ) (view : NetView L) (p : Parts)
    (net : Seen (Coming L)) (children : Seen Children) (numbers : List ℕ) (left : Machine) (r : RunEnded) : Type 0 where
  pub to : Reach L
  pub sockets : sockets_of p.config.ports ≡ to.named ++ to.unnamed
  pub words : words_from program config 0 (sockets_of p.config.ports) ≡ to.started ++ to.unstarted
  pub each : length numbers ≡ length to.started
  pub few : length to.links ≤ length numbers
  pub gives : IfSome net.old (λ old. IfSome net.new (λ new. HasGiven to.named to.links old new))
  pub starts : IfSome children.old (λ old. IfSome children.new (λ new. new ≡ with_all old to.started numbers))
  pub converses : Converses view p net children to left r
