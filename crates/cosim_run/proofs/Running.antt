-- The run of a machine with its children: what holds after the waits.
use Rattle.std.specs.Prelude.{IfErr, IfOk, IfSome, IsSome}
use Rattle.std.proofs.Common.{◌≡◌, ℕ, ◌+◌, ◌<◌, ◌≤◌, List, [], ◌∷◌, ◌++◌, length, map, refl, sym, ap, ◌∙◌, subst, arith}
use Rattle.std.proofs.Common.{Result, Ok, Err}
use Rattle.std.specs.declared.option.Option.{Option}
use Rattle.std.specs.declared.option.Option.TheVariants.{Some, None}
use Rattle.std.proofs.lemmas.List.{length-append, length-map}
use Rattle.cos_base.specs.Links.{Wire}
use Rattle.cos_base.specs.Networks.{Coming}
use Rattle.cos_children.specs.Children.{AreChildren, Children}
use Rattle.cos_config.specs.declared.config.Config.{Config as Settings}
use Rattle.cos_config.specs.declared.config.PortConfig.{PortConfig}
use Rattle.cos_config.specs.declared.config.Sockets.TheVariants.{All}
use Rattle.cos_config.specs.Plans.{plan_of}
use Rattle.cos_parts.specs.declared.any_device.AnyDevice.{AnyDevice}
use Rattle.cos_parts.specs.declared.any_master.AnyMaster.{AnyMaster}
use Rattle.cos_parts.specs.AnyDevices as devices
use Rattle.cos_parts.specs.AnyMasters as masters
use Rattle.configured_machine.specs.declared.parts.Parts.{Parts}
use Rattle.configured_machine.specs.Configured.{AreParts, MayRun, machine_names}
use Rattle.configured_machine.proofs.Sides.{sides-devices, sides-each}
use Rattle.cosim_ends.specs.Sides.{sides_of}
use Rattle.cosim_model.specs.Direct.{Direct, direct}
use Rattle.cosim_serve.specs.Serves.{NetView}
use Rattle.end_machine.specs.Driving.{IsDirect}
use Rattle.end_machine.specs.Wires.{AllTell, said_on}
use Rattle.every_schedule.specs.Schedules.{IsHonest}
use Rattle.outcomes.specs.declared.object.Object.TheVariants as object
use Rattle.outcomes.specs.declared.stop.Stop.{Stop}
use Rattle.outcomes.specs.declared.stop.Stop.TheVariants.{Refused, Outside, NoMemory}
use Rattle.outcomes.specs.declared.failures.OutFailure.{OutFailure}
use Rattle.outcomes.specs.Asked.{AsksAll}
use Rattle.outcomes.specs.Seen.{Seen, IsUntouched}
use Rattle.outcomes.specs.Steps.{IsPrinted, IsRoomFor}
use Rattle.port_children.specs.declared.fault.WaitFault.{WaitFault}
use Rattle.port_children.specs.declared.fault.WaitFault.TheVariants as wait
use Rattle.port_children.specs.ChildLaws.{all-run, as-before}
use Rattle.port_children.specs.Opened.{with_all}
use Rattle.port_children.specs.Peers.{sockets_of, words_from}
use Rattle.port_children.specs.Waited.{AllRun, Given, IsWaited, NotSpawner, with_waits}
use Rattle.rp_packet.specs.Streams.{packet_codec}
use Rattle.run_texts.specs.Texts.{run_lines}
use Rattle.transcript.specs.ClosingLines.{run_text}
use Rattle.cosim_run.specs.declared.refusal.RunRefusal.{RunRefusal}
use Rattle.cosim_run.specs.Conversations.{IsConversation, IsDrivenOver, Machine, RunEnded, StopsSoundly}
use Rattle.cosim_run.proofs.Conversing.{words-each}
use Rattle.cosim_run.specs.declared.command.Finished.{Finished}
use Rattle.cosim_run.specs.declared.conversation.Driven.{Driven}
use Rattle.cosim_run.specs.Runs.{EndsAfter, IfDone, IsRun, Prints, PrintsDirectly, RunView, RunsSoundly, WithChildren}
use Rattle.cosim_run.specs.Runs.{lines_of, unended}
use Rattle.cosim_run.specs.Steps.{ComesDriven, ComesUndriven, IsFinished, RanIll, RanWell, StopsBy}

-- The lines of an end that was left as the direct machine is.
lines-same : (left : Machine) (r : Direct AnyMaster AnyDevice) (ports : List PortConfig) → left.master ≡ r.master
    → left.calls ≡ r.calls → left.tick ≡ r.tick → lines_of left ports ≡ run_lines r ports
lines-same left r ports master calls tick =
    ap (λ m. run_lines (record { master = m; devices = []; calls = left.calls; tick = left.tick; history = [] }) ports)
    master
    ∙ ap (λ cs. run_lines (record { master = r.master; devices = []; calls = cs; tick = left.tick; history = [] }) ports)
    calls
    ∙ ap (λ n. run_lines (record { master = r.master; devices = []; calls = r.calls; tick = n; history = [] }) ports)
    tick

tell-count : {L : Type 0} (told : L → Option Wire) (links : List L) (ws : List Wire) → AllTell (map told links) ws
    → length ws ≡ length links
tell-count told links ws tell =
    sym (length-map ws _) ∙ sym (ap length tell) ∙ length-map links told

-- It prints what `direct` does over honest links.
driven-directly : {L : Type 0} (told : L → Option Wire) (p : Parts) (links : List L) (left : Machine) → MayRun p
    → length links ≡ length p.config.ports → IsDrivenOver told p links left (Ok tt)
    → PrintsDirectly told p links (lines_of left p.config.ports)
driven-directly told p links left may size driven ws tell honest =
    let xs = sides_of p.config.ports p.machine.devices.items in
    let each = sides-each p.config.ports p.machine.devices.items may.each in
    let count = tell-count told links ws tell in
    let is : IsDirect masters.any_model devices.any_model (plan_of p.config) p.machine.master xs left =
    driven.honest ws tell xs (omega (arith, each, count, size)) may.fit honest in
    lines-same left
    (direct masters.any_model devices.any_model (plan_of p.config) p.machine.master (map (λ x. x.1) xs))
    p.config.ports is.master is.calls is.tick
    ∙ ap (λ ds. run_lines (direct masters.any_model devices.any_model (plan_of p.config) p.machine.master ds) p.config.ports)
    (sides-devices p.config.ports p.machine.devices.items may.each)

module _ {L : Type 0} (program config : List ℕ) (view : NetView L) (p : Parts) (net : Seen (Coming L)) where
  directly-of : (children : Seen Children) (numbers : List ℕ) (left : Machine) (r : RunEnded) → MayRun p
      → (talks : IsConversation program config view p net children numbers left r)
      → IfDone r (PrintsDirectly view.told p talks.to.links (lines_of left p.config.ports))
  directly-of children numbers left (Ok u) may talks =
      driven-directly view.told p talks.to.links left may talks.converses.0.2 talks.converses.1
  directly-of children numbers left (Err e) may talks = tt

  -- None of the children runs any more.

  ran-before : (old mid new : Option Children) (started : List (List (List ℕ))) (numbers : List ℕ) (given : List Given)
      → length numbers ≡ length started → length given ≡ length numbers → IfSome old AreChildren
      → IfSome mid AreChildren
      → IfSome old (λ o. IfSome mid (λ m. m ≡ with_all o started numbers))
      → IfSome mid (λ m. IfSome new (λ n. n ≡ with_waits m numbers given)) → (mid ≡ None → new ≡ None)
      → IfSome old (λ o. IfSome new (λ n. n.running ≡ o.running))
  ran-before None mid new started numbers given each waits were are starts ends untold = tt
  ran-before (Some o) None new started numbers given each waits were are starts ends untold =
      subst (λ n. IfSome n (λ n. n.running ≡ o.running)) (sym (untold refl)) tt
  ran-before (Some o) (Some m) None started numbers given each waits were are starts ends untold = tt
  ran-before (Some o) (Some m) (Some n) started numbers given each waits were are starts ends untold =
      let as_started = subst AreChildren starts are in
      ap (λ (c : Children). c.running) (ends ∙ ap (λ c. with_waits c numbers given) starts)
      ∙ as-before started numbers given o were as_started each waits

  pub with-children : (first second : Seen Children) (numbers : List ℕ) (left : Machine) (driven : RunEnded)
      (waited : Result Unit WaitFault) → MayRun p → second.before ≡ first.now → second.old ≡ first.new
      → IfSome first.old AreChildren → IfSome first.new AreChildren
      → IsConversation program config view p net first numbers left driven → IsWaited numbers second waited
      → WithChildren program config view p net
      (record { before = first.before; now = second.now; old = first.old; new = second.new }) left driven waited
  with-children first second numbers left driven waited may joined same were are talks waits =
      let ended = subst (λ o. IsWaited numbers (record { before = first.now; now = second.now; old = o; new = second.new }) waited)
      same (subst (λ n. IsWaited numbers (record { before = n; now = second.now; old = second.old; new = second.new }) waited)
      joined waits) in
      record {
        mid = first.now;
        middle = first.new;
        numbers = numbers;
        talks = talks;
        waits = ended;
        running = ran-before first.old first.new second.new talks.to.started numbers ended.given talks.each ended.each
            were are talks.starts ended.waits ended.untold;
        directly = directly-of first numbers left driven may talks;
      }

  -- each runs before it is waited for
  pub children-run : (first : Seen Children) (mid : Option Children) (numbers : List ℕ) (left : Machine)
      (driven : RunEnded) → mid ≡ first.new → IfSome first.new AreChildren
      → IsSome first.old → IsConversation program config view p net first numbers left driven
      → IfSome mid (AllRun numbers)
  children-run first mid numbers left driven same are told talks =
      subst (λ o. IfSome o (AllRun numbers)) (sym same) (by first.old first.new told are talks.starts)
    where
      by : (old new : Option Children) → IsSome old → IfSome new AreChildren
          → IfSome old (λ o. IfSome new (λ n. n ≡ with_all o talks.to.started numbers)) → IfSome new (AllRun numbers)
      by None new some are starts = absurd (cc (some))
      by (Some o) None some are starts = tt
      by (Some o) (Some n) some are starts =
          subst (AllRun numbers) (sym starts)
          (all-run talks.to.started numbers o (subst AreChildren starts are) talks.each)

-- There are at most as many children as ports.

few : {L : Type 0} (program config : List ℕ) (view : NetView L) (p : Parts) (net : Seen (Coming L))
    (children : Seen Children) (numbers : List ℕ) (left : Machine) (r : RunEnded) → MayRun p
    → IsConversation program config view p net children numbers left r → length numbers ≤ 16
few program config view p net children numbers left r may talks =
    let sockets = sockets_of p.config.ports in
    let words = words_from program config 0 sockets in
    let each : length numbers ≡ length talks.to.started = talks.each in
    let some : length words ≡ length talks.to.started + length talks.to.unstarted =
    ap length talks.words ∙ length-append talks.to.started talks.to.unstarted in
    let all : length words ≡ length p.config.ports =
    words-each program config 0 sockets ∙ length-map p.config.ports _ in
    let most : length p.config.ports ≤ 16 = may.few in
    omega (arith, each, some, all, most)

pub few-numbers : {L : Type 0} (program config : List ℕ) (view : NetView L) (p : Parts) (net : Seen (Coming L))
    (children : Seen Children) (numbers : List ℕ) (r : Result Driven (Stop RunRefusal)) → MayRun p
    → IfOk r (ComesDriven program config view p net children numbers)
    → IfErr r (ComesUndriven program config view p net children numbers) → length numbers ≤ 16
few-numbers program config view p net children numbers (Ok d) may ok err =
    few program config view p net children numbers d.end.clear (Ok tt) may ok.talks
few-numbers program config view p net children numbers (Err e) may ok err =
    few program config view p net children numbers err.left (Err e) may err.talks

-- What is blamed soundly.
pub ends-soundly : {L : Type 0} (p : Parts) (net : Seen (Coming L)) (f : WaitFault) → NotSpawner (Err f)
    → StopsSoundly p net (unended f)
ends-soundly p net (wait.Status port status) none = tt
ends-soundly p net (wait.Spawner n) none = none
ends-soundly p net wait.NoMemory none = tt

-- The first fault ends the command.
pub stops-end : (out : Seen (List ℕ)) (text : List ℕ) (driven : RunEnded) (waited : Result Unit WaitFault) (e : Stop RunRefusal)
    → StopsBy driven waited e → IsUntouched out → EndsAfter out text driven waited (Err e)
stops-end out text (Err f) waited e stops same = (ap (λ x. Err x) stops, same)
stops-end out text (Ok u) (Err f) e stops same = (ap (λ x. Err x) stops, same)
stops-end out text (Ok u) (Ok w) e stops same = absurd stops

-- The command.

module _ {L : Type 0} (config program : List ℕ) (v : RunView L) (p : Parts) (read : AreParts All v.files config p)
    (asks : AsksAll v.names (machine_names All config)) where
  stops-runs : (text : List ℕ) (e : Stop RunRefusal) → StopsSoundly p v.net e → RunsSoundly v p text (Err e)
  stops-runs text (Refused r) soundly = tt
  stops-runs text NoMemory soundly = tt
  stops-runs text (Outside object.Net n) soundly = soundly
  stops-runs text (Outside object.Spawner n) soundly = soundly
  stops-runs text (Outside (object.Link port) n) soundly = soundly
  stops-runs text (Outside object.Files n) soundly = soundly
  stops-runs text (Outside object.Out n) soundly = absurd soundly

  -- something stands against it
  pub ill-runs : (e : Stop RunRefusal) → RanIll program config v.links p v.net v.children e → IsUntouched v.out
      → (v.links.is_sound → v.sound_children → StopsSoundly p v.net e) → IsRun config program v (Err e)
  ill-runs e ill same soundly = record {
    parts = p;
    read = read;
    asks = asks;
    left = ill.left;
    driven = ill.driven;
    waited = ill.waited;
    peers = ill.peers;
    ends = stops-end v.out (lines_of ill.left p.config.ports) ill.driven ill.waited e ill.stops same;
    soundly = λ out net children. stops-runs (lines_of ill.left p.config.ports) e (soundly net children);
  }

  -- all went well up to the text
  well-runs : (d : Driven) (r : RunEnded) → RanWell program config v.links p v.net v.children d
      → Prints v.out (lines_of d.end.clear p.config.ports) r
      → (v.sound_out → RunsSoundly v p (lines_of d.end.clear p.config.ports) r) → IsRun config program v r
  well-runs d r well prints soundly = record {
    parts = p;
    read = read;
    asks = asks;
    left = d.end.clear;
    driven = Ok tt;
    waited = Ok tt;
    peers = well.peers;
    ends = prints;
    soundly = λ out net children. soundly out;
  }

  pub well-stops : (d : Driven) → RanWell program config v.links p v.net v.children d → IsUntouched v.out
      → IsRun config program v (Err NoMemory)
  well-stops d well same = well-runs d (Err NoMemory) well same (λ out. tt)

  printed-text : (d : Driven) (f : Finished) → RanWell program config v.links p v.net v.children d → IsFinished d f
      → run_text f.driven.end.clear.calls f.end ≡ lines_of d.end.clear p.config.ports
  printed-text d f well finished = finished.text ∙ ap (λ (c : Settings). lines_of d.end.clear c.ports) well.settings

  pub well-prints : (d : Driven) (f : Finished) → RanWell program config v.links p v.net v.children d → IsFinished d f
      → IsPrinted v.out (run_text f.driven.end.clear.calls f.end) (Ok tt)
      → (v.sound_out → IsRoomFor v.room (run_text f.driven.end.clear.calls f.end) (Ok tt))
      → IsRun config program v (Ok tt)
  well-prints d f well finished printed fits =
      let same = printed-text d f well finished in
      well-runs d (Ok tt) well (subst (λ t. IsPrinted v.out t (Ok tt)) same printed)
      (λ out. subst (λ t. IsRoomFor v.room t (Ok tt)) same (fits out))

  pub well-fails : (d : Driven) (f : Finished) (e : OutFailure) → RanWell program config v.links p v.net v.children d
      → IsFinished d f → IsPrinted v.out (run_text f.driven.end.clear.calls f.end) (Err e)
      → (v.sound_out → IsRoomFor v.room (run_text f.driven.end.clear.calls f.end) (Err e))
      → IsRun config program v (Err (Outside object.Out e.count))
  well-fails d f e well finished printed fits =
      let same = printed-text d f well finished in
      well-runs d (Err (Outside object.Out e.count)) well (subst (λ t. IsPrinted v.out t (Err e)) same printed)
      (λ out. subst (λ t. IsRoomFor v.room t (Err e)) same (fits out))
