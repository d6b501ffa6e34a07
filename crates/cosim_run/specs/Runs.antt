-- What the command `run` promises: a configuration's machine is run with a child for each device, and the text of the
-- run is printed.
use Rattle.std.specs.Prelude.{◌≡◌, ◌⊎◌, ℕ, ◌<◌, ◌≤◌, List, [], length, map, IfSome, IsSomeAnd}
use Rattle.std.specs.declared.option.Option.{Option}
use Rattle.std.specs.declared.result.Result.{Result}
use Rattle.std.specs.declared.result.Result.TheVariants.{Ok, Err}
use Rattle.cos_base.specs.Links.{Wire}
use Rattle.cos_base.specs.Networks.{Coming}
use Rattle.cos_base.specs.Stores.{Store}
use Rattle.cos_children.specs.Children.{Children}
use Rattle.cos_config.specs.declared.config.PortConfig.{PortConfig}
use Rattle.cos_config.specs.declared.config.Sockets.TheVariants.{All}
use Rattle.cos_config.specs.Plans.{plan_of}
use Rattle.cos_parts.specs.AnyDevices as devices
use Rattle.cos_parts.specs.AnyMasters as masters
use Rattle.configured_machine.specs.declared.parts.Parts.{Parts}
use Rattle.configured_machine.specs.Configured.{AreParts, StandsAgainst, machine_names}
use Rattle.cosim_ends.specs.Sides.{sides_of}
use Rattle.cosim_inputs.specs.declared.refusals.InputsRefusal.{InputsRefusal}
use Rattle.cosim_model.specs.Direct.{direct}
use Rattle.cosim_serve.specs.Serves.{NetView}
use Rattle.end_machine.specs.Driving.{WhereTold}
use Rattle.end_machine.specs.Wires.{said_on}
use Rattle.every_schedule.specs.Schedules.{IsHonest}
use Rattle.outcomes.specs.declared.object.Object.TheVariants as object
use Rattle.outcomes.specs.declared.stop.Stop.{Stop}
use Rattle.outcomes.specs.declared.stop.Stop.TheVariants.{Refused, Outside, NoMemory}
use Rattle.outcomes.specs.Asked.{Asking, AsksAll, AsksSome}
use Rattle.outcomes.specs.Outcomes.{Lacks, PrintsAll, PrintsPart, Refuses, Stand}
use Rattle.outcomes.specs.Seen.{Seen, CountStands, IsBlamed, IsUntouched}
use Rattle.outcomes.specs.Steps.{IsStanding}
use Rattle.port_children.specs.declared.fault.WaitFault.{WaitFault}
use Rattle.port_children.specs.declared.fault.WaitFault.TheVariants as wait
use Rattle.port_children.specs.Waited.{IsWaited}
use Rattle.rp_packet.specs.Streams.{packet_codec}
use Rattle.run_texts.specs.Texts.{run_lines}
use Rattle.cosim_run.specs.declared.refusal.RunRefusal.{RunRefusal}
use Rattle.cosim_run.specs.declared.refusal.RunRefusal.TheVariants.{Inputs, Peer, Child}
use Rattle.cosim_run.specs.Conversations.{IsConversation, Machine, RunEnded}

-- What is around a call: its objects before and after it, the names that the files were asked for, what the links of
-- the network tell and count, and whether the objects are sound before the call.
pub record RunView (L : Type 0) : Type 1 where
  pub files : Seen Store
  pub names : Asking
  pub out : Seen (List ℕ)
  pub net : Seen (Coming L)
  pub children : Seen Children
  pub links : NetView L
  pub sound_files : Type 0
  pub sound_out : Type 0
  pub sound_children : Type 0
  pub room : ℕ

-- the lines of the run that left this end: of its calls, and of how it ended
abbrev pub lines_of : Machine → List PortConfig → List ℕ
lines_of e ports =
    run_lines (record { master = e.master; devices = []; calls = e.calls; tick = e.tick; history = [] }) ports

-- The configuration or a file that it names wasn't had: no other object is touched.
abbrev pub StopsUnread : {L : Type 0} → List ℕ → RunView L → RunEnded → Type 0
StopsUnread config v (Err (Refused (Inputs r))) =
    IsStanding v.files × StandsAgainst All v.files.old config (Refuses r []) × AsksAll v.names (machine_names All config)
StopsUnread config v (Err (Outside object.Files n)) =
    IsBlamed v.files n × Stand v.files × AsksSome v.names (machine_names All config)
StopsUnread config v (Err NoMemory) = CountStands v.files × Stand v.files × AsksSome v.names (machine_names All config)
StopsUnread config v (Ok u) = ⊥
StopsUnread config v (Err (Refused (Peer port f))) = ⊥
StopsUnread config v (Err (Refused (Child port status))) = ⊥
StopsUnread config v (Err (Outside object.Out n)) = ⊥
StopsUnread config v (Err (Outside object.Net n)) = ⊥
StopsUnread config v (Err (Outside (object.Link port) n)) = ⊥
StopsUnread config v (Err (Outside object.Spawner n)) = ⊥

-- Sound files are blamed only where one that is read isn't there.
abbrev pub Lacking : {L : Type 0} → List ℕ → RunView L → RunEnded → Type 0
Lacking config v (Err (Outside object.Files n)) = (name : List ℕ) × StandsAgainst All v.files.old config (Lacks name)
Lacking config v (Err (Outside object.Out n)) = Unit {0}
Lacking config v (Err (Outside object.Net n)) = Unit {0}
Lacking config v (Err (Outside (object.Link port) n)) = Unit {0}
Lacking config v (Err (Outside object.Spawner n)) = Unit {0}
Lacking config v (Err (Refused r)) = Unit {0}
Lacking config v (Err NoMemory) = Unit {0}
Lacking config v (Ok u) = Unit {0}

pub record IsUnread {L : Type 0} (config : List ℕ) (v : RunView L) (r : RunEnded) : Type 0 where
  pub stops : StopsUnread config v r
  pub soundly : v.sound_files → Lacking config v r
  pub out : IsUntouched v.out
  pub net : IsUntouched v.net
  pub children : IsUntouched v.children

-- how children that didn't all end with status 0 end the command
abbrev pub unended : WaitFault → Stop RunRefusal
unended (wait.Status port status) = Refused (Child port status)
unended (wait.Spawner n) = Outside object.Spawner n
unended wait.NoMemory = NoMemory

-- How the command ends after the conversation and the waits: by the first fault of the conversation, then by what the
-- waits came to; where neither stands against it, the text is printed.

abbrev pub Prints : Seen (List ℕ) → List ℕ → RunEnded → Type 0
Prints out text (Ok u) = CountStands out × PrintsAll out text
Prints out text (Err (Outside object.Out n)) = IsBlamed out n × PrintsPart out text
Prints out text (Err NoMemory) = IsUntouched out
Prints out text (Err (Refused r)) = ⊥
Prints out text (Err (Outside object.Files n)) = ⊥
Prints out text (Err (Outside object.Net n)) = ⊥
Prints out text (Err (Outside (object.Link port) n)) = ⊥
Prints out text (Err (Outside object.Spawner n)) = ⊥

abbrev pub EndsAfterWaits : Seen (List ℕ) → List ℕ → Result Unit WaitFault → RunEnded → Type 0
EndsAfterWaits out text (Ok u) r = Prints out text r
EndsAfterWaits out text (Err f) r = (r ≡ Err (unended f)) × IsUntouched out

abbrev pub EndsAfter : Seen (List ℕ) → List ℕ → RunEnded → Result Unit WaitFault → RunEnded → Type 0
EndsAfter out text (Ok u) waited r = EndsAfterWaits out text waited r
EndsAfter out text (Err e) waited r = (r ≡ Err e) × IsUntouched out

-- The lines are those that `direct` prints for these parts, where the links that were to come are honest for the
-- configuration's devices.
abbrev pub PrintsDirectly : {L : Type 0} → (L → Option Wire) → Parts → List L → List ℕ → Type 0
PrintsDirectly told p links text =
    WhereTold (map told links)
    (λ ws.
    IsHonest masters.any_model devices.any_model packet_codec (plan_of p.config) p.machine.master
    (sides_of p.config.ports p.machine.devices.items) (said_on ws)
    → text
    ≡ run_lines
    (direct masters.any_model devices.any_model (plan_of p.config) p.machine.master p.machine.devices.items)
    p.config.ports)

abbrev pub IfDone : RunEnded → Type 0 → Type 0
IfDone (Ok u) P = P
IfDone (Err e) P = Unit {0}

-- The machine talked with its children, and each child that was started was waited for. `mid` and `middle` are the
-- children's count and what is told of them between.
pub record WithChildren {L : Type 0} (program config : List ℕ) (view : NetView L) (p : Parts) (net : Seen (Coming L))
    (children : Seen Children) (left : Machine) (driven : RunEnded) (waited : Result Unit WaitFault) : Type 0 where
  pub mid : ℕ
  pub middle : Option Children
  pub numbers : List ℕ
  pub talks :
      IsConversation program config view p net
      (record { before = children.before; now = mid; old = children.old; new = middle }) numbers left driven
  pub waits : IsWaited numbers (record { before = mid; now = children.now; old = middle; new = children.new }) waited
  -- none of them runs any more
  pub running : IfSome children.old (λ old. IfSome children.new (λ new. new.running ≡ old.running))
  pub directly : IfDone driven (PrintsDirectly view.told p talks.to.links (lines_of left p.config.ports))

-- Over sound objects the network is blamed only where fewer links are to come than there are ports, `out` exactly where
-- the text is longer than its room, and no link and not the spawner.
abbrev pub RunsSoundly : {L : Type 0} → RunView L → Parts → List ℕ → RunEnded → Type 0
RunsSoundly v p text (Err (Outside object.Net n)) = IsSomeAnd v.net.old (λ t. length t.coming < length p.config.ports)
RunsSoundly v p text (Err (Outside object.Out n)) = v.room < length text
RunsSoundly v p text (Ok u) = length text ≤ v.room
RunsSoundly v p text (Err (Outside (object.Link port) n)) = ⊥
RunsSoundly v p text (Err (Outside object.Spawner n)) = ⊥
RunsSoundly v p text (Err (Outside object.Files n)) = ⊥
RunsSoundly v p text (Err (Refused r)) = Unit {0}
RunsSoundly v p text (Err NoMemory) = Unit {0}

-- The parts were had, the machine was run with its children, and the command ended by that.
pub record IsRun {L : Type 0} (config program : List ℕ) (v : RunView L) (r : RunEnded) : Type 0 where
  pub parts : Parts
  pub read : AreParts All v.files config parts
  pub asks : AsksAll v.names (machine_names All config)
  pub left : Machine
  pub driven : RunEnded
  pub waited : Result Unit WaitFault
  pub peers : WithChildren program config v.links parts v.net v.children left driven waited
  pub ends : EndsAfter v.out (lines_of left parts.config.ports) driven waited r
  pub soundly :
      v.sound_out → v.links.is_sound → v.sound_children → RunsSoundly v parts (lines_of left parts.config.ports) r

abbrev pub Runs : {L : Type 0} → List ℕ → List ℕ → RunView L → RunEnded → Type 0
Runs config program v r = IsUnread config v r ⊎ IsRun config program v r
