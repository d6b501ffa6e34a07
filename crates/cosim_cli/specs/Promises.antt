-- What each command promises, and so the program for its words.
use Rattle.std.specs.Prelude.{ℕ, ◌≡◌, List, [], ◌∷◌}
use Rattle.std.specs.declared.option.Option.{Option}
use Rattle.std.specs.declared.result.Result.{Result}
use Rattle.cos_base.specs.Links.{Wire}
use Rattle.cos_base.specs.Networks.{Coming}
use Rattle.cos_base.specs.Stores.{Store}
use Rattle.cos_children.specs.Children.{Children}
use Rattle.outcomes.specs.declared.stop.Stop.{Stop}
use Rattle.outcomes.specs.Asked.{Asking, Names, AsksNone, AsksFor}
use Rattle.outcomes.specs.Seen.{Seen, IsUntouched}
use Rattle.outcomes.specs.Outcomes.{Outcome, OfFile, Performs}
use Rattle.statuses.specs.declared.status.Status.{Status}
use Rattle.statuses.specs.declared.status.Status.TheVariants as status
use Rattle.cosim_assembly.specs.Assemblies.{AsmComes}
use Rattle.cosim_assembly.specs.Listings.{DisComes}
use Rattle.cosim_direct.specs.Directs.{DirectComes, direct_names}
use Rattle.cosim_packets.specs.Packed.{Packed}
use Rattle.cosim_packets.specs.Shown.{Shown}
use Rattle.cosim_model.specs.Parts.{DeviceModel}
use Rattle.ends_model.specs.DeviceTurn.{DeviceEnd}
use Rattle.rp_packet.specs.declared.fault.Cause.{Cause}
use Rattle.cos_parts.specs.Nulls.{null_model}
use Rattle.cosim_serve.specs.Serves.{NetView, ServesFresh}
use Rattle.dev_timer.specs.Timers.{timer_model}
use Rattle.cosim_device.specs.Starts.{null_start, timer_start}
use Rattle.cosim_device.specs.Served.{PortEnded, PortView, ServesPort}
use Rattle.cosim_serve.specs.Talks.{Ended}
use Rattle.cosim_cli.specs.Ended.{ended_status, show_refused, pack_refused, asm_refused, dis_refused, inputs_refused}
use Rattle.cosim_cli.specs.Ended.{device_refused, port_refused, local_refused, never_refused, run_refused}
use Rattle.cosim_cli.specs.Help.{Helps}
use Rattle.cosim_gen.specs.Generated.{GenComes}
use Rattle.cosim_local.specs.declared.order.Order.{Order as RunOrder}
use Rattle.cosim_local.specs.declared.order.Order.TheVariants as run
use Rattle.cosim_local.specs.Locals.{LocalComes, local_names, result_names}
use Rattle.cosim_run.specs.Conversations.{RunEnded}
use Rattle.cosim_run.specs.Runs.{RunView, Runs}
use Rattle.cosim_words.specs.Words.{Order, Default, Schedule, Steps}
use Rattle.cosim_words.specs.Words.{Command, DeviceNull, DeviceTimer, DevicePort, Show, Pack, Asm, Dis, Direct, Local}
use Rattle.cosim_words.specs.Words.{Gen, Run, Help}
use Rattle.cosim_words.specs.Words.{IsInRange, words_of}

-- what is around a call: its objects before and after it, the names that the files were asked for, whether the objects
-- are sound before it, the room of `out`, and what the links of the network tell and count
pub record Around (L : Type 0) : Type 1 where
  pub files : Seen Store
  pub out : Seen (List ℕ)
  pub net : Seen (Coming L)
  pub children : Seen Children
  pub names : Asking
  pub sound_files : Type 0
  pub sound_out : Type 0
  pub sound_net : Type 0
  pub sound_children : Type 0
  pub room : ℕ
  pub told : L → Option Wire
  pub count : L → ℕ

-- A command over files ended by what it comes to, asked for the names that it reads and then for those that it writes,
-- the status is that of how it ended, and the network and the children are untouched.
pub record Performed {L R : Type 0} (refused : R → Status) (Comes : Outcome R → Type 0) (reads : Names)
    (writes : Names) (a : Around L) (s : Status) : Type 0 where
  pub result : Result Unit (Stop R)
  pub performs : Performs Comes a.files a.out (a.sound_files × a.sound_out) a.room result
  pub asks : AsksFor reads writes a.names result
  pub status : s ≡ ended_status refused result
  pub net : IsUntouched a.net
  pub children : IsUntouched a.children

abbrev pub view_of : {L : Type 0} → Around L → NetView L
view_of a = record { told = a.told; count = a.count; is_sound = a.sound_net }

-- A device whose fresh end this is served the first link that was to come, the status is that of how it ended, and the
-- files, `out` and the children are untouched.
pub record Served {L S : Type 0} (d : DeviceModel S) (start : DeviceEnd S Cause) (socket : List ℕ) (a : Around L)
    (s : Status) : Type 0 where
  pub result : Ended
  pub serves : ServesFresh d start 0 (view_of a) socket a.net result
  pub status : s ≡ ended_status device_refused result
  pub files : IsUntouched a.files
  pub asks : AsksNone a.names
  pub out : IsUntouched a.out
  pub children : IsUntouched a.children

abbrev pub port_view : {L : Type 0} → Around L → PortView L
port_view a =
    record { files = a.files; names = a.names; is_sound = a.sound_files; net = a.net; links = view_of a }

-- The device of a configuration's port served that link, the status is that of how it ended, and `out` and the children
-- are untouched.
pub record ServedPort {L : Type 0} (socket config : List ℕ) (port : ℕ) (a : Around L) (s : Status) : Type 0 where
  pub result : PortEnded
  pub serves : ServesPort config port socket (port_view a) result
  pub status : s ≡ ended_status port_refused result
  pub out : IsUntouched a.out
  pub children : IsUntouched a.children

abbrev pub run_view : {L : Type 0} → Around L → RunView L
run_view a = record {
  files = a.files;
  names = a.names;
  out = a.out;
  net = a.net;
  children = a.children;
  links = view_of a;
  sound_files = a.sound_files;
  sound_out = a.sound_out;
  sound_children = a.sound_children;
  room = a.room;
}

-- The machine of a configuration was run with children that PROGRAM starts, and the status is that of how it ended.
pub record Ran {L : Type 0} (config program : List ℕ) (a : Around L) (s : Status) : Type 0 where
  pub result : RunEnded
  pub runs : Runs config program (run_view a) result
  pub status : s ≡ ended_status run_refused result

-- An order of steps is the one that the words name; where they name none, it is the schedule of number 0.
abbrev pub IsNamed : Order → RunOrder → Type 0
IsNamed Default (run.Schedule number) = number ≡ 0
IsNamed (Schedule named) (run.Schedule number) = number ≡ named
IsNamed (Steps named) (run.Steps file) = file.now ≡ named
IsNamed Default (run.Steps file) = ⊥
IsNamed (Schedule named) (run.Steps file) = ⊥
IsNamed (Steps named) (run.Schedule number) = ⊥

-- it refuses nothing
abbrev pub none_refused : ⊥ → Status
none_refused never = absurd never

-- what each command promises
abbrev pub Keeps : {L : Type 0} → Command → Around L → Status → Type 0
Keeps (DeviceNull socket) a s = Served null_model null_start socket a s
Keeps (DeviceTimer socket line) a s = Served timer_model (timer_start line) socket a s
Keeps (DevicePort socket config port) a s = ServedPort socket config port a s
Keeps (Show file) a s = Performed show_refused (OfFile file Shown a.files.old) (λ m. file ∷ []) (λ m. []) a s
Keeps (Pack file) a s = Performed pack_refused (OfFile file Packed a.files.old) (λ m. file ∷ []) (λ m. []) a s
Keeps (Asm file out) a s =
    Performed asm_refused (AsmComes file out a.files.old) (λ m. file ∷ []) (λ m. out ∷ []) a s
Keeps (Dis file) a s = Performed dis_refused (DisComes file a.files.old) (λ m. file ∷ []) (λ m. []) a s
Keeps (Direct config) a s =
    Performed inputs_refused (DirectComes a.files.old config) (direct_names config) (λ m. []) a s
Keeps (Local config order) a s =
    (o : RunOrder) × IsNamed order o
    × Performed local_refused (LocalComes a.files.old config o) (local_names config o) (result_names config) a s
Keeps (Gen number) a s = Performed never_refused (GenComes number) (λ m. []) (λ m. []) a s
Keeps (Run config program) a s = Ran config program a s
Keeps Help a s = Performed none_refused Helps (λ m. []) (λ m. []) a s

-- the words are those of a command, and it keeps its promise
abbrev pub KeepsSome : {L : Type 0} → List (List ℕ) → Around L → Status → Type 0
KeepsSome words a s = (c : Command) × IsInRange c × (words ≡ words_of c) × Keeps c a s

-- The program does nothing where its words are no command, and otherwise keeps the command's promise.
abbrev pub Promises : {L : Type 0} → List (List ℕ) → Around L → Status → Type 0
Promises words a (status.Usage index) =
    IsUntouched a.files × IsUntouched a.out × IsUntouched a.net × IsUntouched a.children × AsksNone a.names
Promises words a status.Done = KeepsSome words a status.Done
Promises words a (status.Config e) = KeepsSome words a (status.Config e)
Promises words a (status.Input e) = KeepsSome words a (status.Input e)
Promises words a (status.Peer port e) = KeepsSome words a (status.Peer port e)
Promises words a (status.Outside o count) = KeepsSome words a (status.Outside o count)
Promises words a status.NoMemory = KeepsSome words a status.NoMemory
Promises words a (status.Child port e) = KeepsSome words a (status.Child port e)
