-- What opening the links and driving over them make of a conversation.
use Rattle.std.specs.Prelude.{All, IfSome, IsSomeAnd, IfOk, OnOk, slice_get}
use Rattle.std.proofs.Common.{◌≡◌, ℕ, zero, suc, ◌+◌, ◌<◌, ◌≤◌, List, [], ◌∷◌, ◌++◌, length, map, get_or, nat_eq, true, refl, sym, ap, ◌∙◌, subst, arith}
use Rattle.std.proofs.Common.{Result, Ok, Err}
use Rattle.std.specs.declared.option.Option.{Option}
use Rattle.std.specs.declared.option.Option.TheVariants.{Some, None}
use Rattle.std.proofs.lemmas.Bool.{eq-eqb}
use Rattle.std.proofs.lemmas.List.{append-nil, length-map}
use Rattle.std.proofs.lemmas.Option.{none-some, same_Some}
use Rattle.cos_base.specs.Counts.{Rose, Rises}
use Rattle.cos_base.specs.Links.{Wire, IsFresh}
use Rattle.cos_base.specs.Networks.{Coming}
use Rattle.cos_children.specs.Children.{Children}
use Rattle.cos_config.specs.Plans.{plan_of}
use Rattle.cos_parts.specs.declared.any_master.AnyMaster.{AnyMaster}
use Rattle.cos_parts.specs.AnyDevices as devices
use Rattle.cos_parts.specs.AnyMasters as masters
use Rattle.configured_machine.specs.declared.parts.Parts.{Parts}
use Rattle.cosim_model.specs.declared.session.EndFault.{EndFault}
use Rattle.cosim_model.specs.declared.session.EndFault.TheVariants as fault
use Rattle.cosim_serve.specs.Serves.{NetView}
use Rattle.end_machine.specs.Driving.{AllFresh, CountsIf, DriveCounts, DrivesDirectly, HasFinished, NotLink, WhereTold}
use Rattle.end_machine.specs.Talk.{ByTalk}
use Rattle.end_machine.specs.Wires.{said_on}
use Rattle.ends_model.specs.World.{machine_start}
use Rattle.machine_turns.specs.Ends.{End, fresh}
use Rattle.machine_turns.specs.Runs.{IsRun}
use Rattle.machine_turns.specs.declared.fault.TurnFault.{TurnFault}
use Rattle.machine_turns.specs.declared.fault.TurnFault.TheVariants as turn_fault
use Rattle.outcomes.specs.Seen.{Seen, CountStands}
use Rattle.port_children.specs.declared.fault.OpenFault.{OpenFault}
use Rattle.port_children.specs.declared.fault.OpenFault.TheVariants as opening
use Rattle.port_children.specs.Opened.{HasGiven, IsOpened, IsUnopened, OpensSoundly, with_all}
use Rattle.port_children.specs.Peers.{sockets_of, words_from}
use Rattle.rp_packet.specs.declared.fault.Cause.{Cause}
use Rattle.rp_packet.specs.declared.fault.PacketFault.{PacketFault}
use Rattle.transcript.specs.CallLines.{HasLine}
use Rattle.cosim_run.specs.Conversations.{Converses, IsAll, IsConversation, IsDrivenOver, Machine, Reach}
use Rattle.cosim_run.proofs.Lined.{run-lines}
use Rattle.cosim_run.specs.Conversations.{RunEnded, start_end, StopsSoundly, undriven, undriven_at, unopened}

pub words-each : (program config : List ℕ) (port : ℕ) (sockets : List (List ℕ))
    → length (words_from program config port sockets) ≡ length sockets
words-each program config port [] = refl
words-each program config port (s ∷ ss) = ap suc (words-each program config (port + 1) ss)

-- what holds of something that is told holds where it is told
if-some : {T : Type 0} (P : T → Type 0) (o : Option T) → IsSomeAnd o P → IfSome o P
if-some P None is = tt
if-some P (Some t) is = is

if-both : {T : Type 0} (P : T → T → Type 0) (old new : Option T) → IfSome old (λ o. IsSomeAnd new (P o))
    → IfSome old (λ o. IfSome new (P o))
if-both P None new is = tt
if-both P (Some o) new is = if-some (P o) new is

-- nothing was done
if-same : {T : Type 0} (P : T → T → Type 0) (old new : Option T) → new ≡ old → ((t : T) → P t t)
    → IfSome old (λ o. IfSome new (P o))
if-same P None new same is = tt
if-same P (Some o) new same is = subst (λ n. IfSome n (P o)) (sym same) (is o)

-- The count of a link that is blamed rose.

at-there : (xs : List ℕ) (p x : ℕ) → slice_get xs p ≡ Some x → (p < length xs) × (get_or xs p 0 ≡ x)
at-there [] p x is = absurd (none-some x is)
at-there (y ∷ ys) zero x is = (omega arith, same_Some y x is)
at-there (y ∷ ys) (suc p) x is = let r = at-there ys p x is in (let less = r.0 in omega (arith, less), r.1)

map-at : {L : Type 0} (count : L → ℕ) (links : List L) (p : ℕ) (l : L) → slice_get links p ≡ Some l
    → slice_get (map count links) p ≡ Some (count l)
map-at count [] p l is = absurd (none-some l is)
map-at count (x ∷ xs) zero l is = ap (λ y. Some (count y)) (same_Some x l is)
map-at count (x ∷ xs) (suc p) l is = map-at count xs p l is

rose-at : (counts now : List ℕ) (port n x : ℕ) → slice_get counts port ≡ Some x
    → DriveCounts {A = Unit {0}} counts now (Err (turn_fault.Port (record { port = port; fault = fault.Link n })))
    → Rose x n
rose-at counts now port n x at moved =
    let there = at-there counts port x at in
    let here = subst (λ b. CountsIf b n (get_or counts port 0) (get_or now port 0)) (eq-eqb port port refl)
    (moved.1 port there.0) in
    subst (λ m. Rose x m) (sym here.1) (subst (λ b. Rose b (get_or now port 0)) there.1 here.0.1)

module _ {L : Type 0} (program config : List ℕ) (view : NetView L) (p : Parts) (net : Seen (Coming L))
    (children : Seen Children) (numbers : List ℕ) where
  abbrev sockets : List (List ℕ)
  sockets = sockets_of p.config.ports

  abbrev words : List (List (List ℕ))
  words = words_from program config 0 sockets

  -- all was had

  abbrev pub whole : List L → Reach L
  whole links = record { links = links; named = sockets; unnamed = []; started = words; unstarted = [] }

  pub all-had : (links : List L) → IsOpened sockets words net children links numbers → IsAll p (whole links)
  all-had links is = (refl, refl, is.each_link ∙ length-map p.config.ports _)

  pub opened-talks : (links : List L) → IsOpened sockets words net children links numbers → (left : Machine)
      (r : RunEnded) → Converses view p net children (whole links) left r
      → IsConversation program config view p net children numbers left r
  opened-talks links is left r talks = record {
    to = whole links;
    sockets = sym (append-nil sockets);
    words = sym (append-nil words);
    each = is.each_child ∙ sym (words-each program config 0 sockets);
    few = (let a = is.each_link in let b = is.each_child in omega (arith, a, b));
    gives = if-both (λ old new. HasGiven sockets links old new) net.old net.new is.gives;
    starts = if-both (λ old new. new ≡ with_all old words numbers) children.old children.new is.starts;
    converses = talks;
  }

  -- a link or a child wasn't had

  unopened-converses : (to : Reach L) (left : Machine) (f : OpenFault) (links : List L)
      → IsUnopened sockets words net children links numbers f → Converses view p net children to left (Err (unopened f))
  unopened-converses to left (opening.Net n) links is = is.blames
  unopened-converses to left (opening.Spawner n) links is = is.blames
  unopened-converses to left opening.NoMemory links is = is.blames

  pub unopened-talks : (links : List L) (f : OpenFault) → IsUnopened sockets words net children links numbers f
      → (left : Machine) → IsConversation program config view p net children numbers left (Err (unopened f))
  unopened-talks links f is left = record {
    to = record {
      links = links;
      named = is.names;
      unnamed = is.unnamed;
      started = is.started;
      unstarted = is.unstarted;
    };
    sockets = is.sockets_are;
    words = is.words_are;
    each = is.each_child;
    few = is.few_links;
    gives = is.gives;
    starts = is.starts;
    converses = unopened-converses (record {
      links = links;
      named = is.names;
      unnamed = is.unnamed;
      started = is.started;
      unstarted = is.unstarted;
    }) left f links is;
  }

  pub unopened-soundly : (f : OpenFault) → OpensSoundly sockets net.old (Err f) → StopsSoundly p net (unopened f)
  unopened-soundly (opening.Net n) few = by net.old few
    where
      by : (o : Option (Coming L)) → IsSomeAnd o (λ t. length t.coming < length sockets)
          → IsSomeAnd o (λ t. length t.coming < length p.config.ports)
      by None is = is
      by (Some t) is = subst (λ n. length t.coming < n) (length-map p.config.ports _) is
  unopened-soundly (opening.Spawner n) few = few
  unopened-soundly opening.NoMemory few = tt

  -- there was no memory for the machine's end
  pub nothing-talks : net.new ≡ net.old → net.now ≡ net.before → children.new ≡ children.old
      → children.now ≡ children.before → numbers ≡ [] → (left : Machine)
      → IsConversation program config view p net children numbers left (Err (unopened opening.NoMemory))
  nothing-talks net_same net_count same count none left = record {
    to = record { links = []; named = []; unnamed = sockets; started = []; unstarted = words };
    sockets = refl;
    words = refl;
    each = ap length none;
    few = omega arith;
    gives = if-same (λ old new. HasGiven [] [] old new) net.old net.new net_same
        (λ t. record { coming = refl; names_are = sym (append-nil t.names) });
    starts = if-same (λ old new. new ≡ with_all old [] numbers) children.old children.new same (λ c. refl);
    converses = (net_count, count);
  }

  -- Driving came to a fault.

  pub undriven-converses : (links : List L) (now : List ℕ) (left : Machine) (f : TurnFault)
      → IsAll p (whole links) → DriveCounts {A = Unit {0}} (map view.count links) now (Err f)
      → IsDrivenOver view.told p links left (Err f) → CountStands net → CountStands children
      → Converses view p net children (whole links) left (Err (undriven f))
  undriven-converses links now left turn_fault.NoMemory all moved driven stands children_stand = (stands, children_stand)
  undriven-converses links now left (turn_fault.Port f) all moved driven stands children_stand =
      by f.port f.fault moved driven
    where
      by : (port : ℕ) (x : EndFault PacketFault)
          → DriveCounts {A = Unit {0}} (map view.count links) now
          (Err (turn_fault.Port (record { port = port; fault = x })))
          → IsDrivenOver view.told p links left (Err (turn_fault.Port (record { port = port; fault = x })))
          → Converses view p net children (whole links) left (Err (undriven_at port x))
      by port (fault.Link n) moved driven = (
        all,
        λ l at. rose-at (map view.count links) now port n (view.count l)
            (map-at view.count links port l at) moved,
        stands,
        children_stand,
      )
      by port fault.NoMemory moved driven = (stands, children_stand)
      by port (fault.Ended n) moved driven = (all, tt, driven, stands, children_stand)
      by port (fault.Truncated a b) moved driven = (all, tt, driven, stands, children_stand)
      by port (fault.Malformed f) moved driven = (all, tt, driven, stands, children_stand)
      by port (fault.Session f) moved driven = (all, tt, driven, stands, children_stand)
      by port (fault.TooMuch n) moved driven = (all, tt, driven, stands, children_stand)
      by port (fault.LateWant at got) moved driven = (all, tt, driven, stands, children_stand)
      by port (fault.Astray cmd) moved driven = (all, tt, driven, stands, children_stand)

  pub undriven-soundly : (f : TurnFault) → NotLink {A = Unit {0}} (Err f) → StopsSoundly p net (undriven f)
  undriven-soundly turn_fault.NoMemory none = tt
  undriven-soundly (turn_fault.Port f) none = by f.port f.fault none
    where
      by : (port : ℕ) (x : EndFault PacketFault)
          → NotLink {A = Unit {0}} (Err (turn_fault.Port (record { port = port; fault = x })))
          → StopsSoundly p net (undriven_at port x)
      by port (fault.Link n) none = absurd (cc (none))
      by port fault.NoMemory none = tt
      by port (fault.Ended n) none = tt
      by port (fault.Truncated a b) none = tt
      by port (fault.Malformed f) none = tt
      by port (fault.Session f) none = tt
      by port (fault.TooMuch n) none = tt
      by port (fault.LateWant at got) none = tt
      by port (fault.Astray cmd) none = tt

-- The links are fresh, where they tell.
pub all-fresh : {L : Type 0} (told : L → Option Wire) (links : List L) → All (λ l. IfSome (told l) IsFresh) links
    → AllFresh (map told links)
all-fresh told [] each p w is = absurd (none-some (Some w) is)
all-fresh told (l ∷ ls) each zero w is =
    subst (λ o. IfSome o IsFresh) (same_Some (told l) (Some w) is) (each zero l (omega arith))
all-fresh told (l ∷ ls) each (suc p) w is =
    all-fresh told ls (λ q d small. each (suc q) d (omega (arith, small))) p w is

-- What driving leaves of the end that was made.

pub started : (p : Parts) (e : End AnyMaster) (n : ℕ)
    → e ≡ fresh (machine_start Cause p.machine.master n (plan_of p.config)) n → n ≡ length p.config.ports
    → e.clear ≡ start_end p
started p e n is size =
    ap (λ e. e.clear) is ∙ ap (λ n. machine_start Cause p.machine.master n (plan_of p.config)) size

pub driven-over : {L : Type 0} (told : L → Option Wire) (p : Parts) (links ls : List L) (start left : Machine)
    (r : Result Unit TurnFault) → ls ≡ links → start ≡ start_end p
    → WhereTold (map told ls) (λ ws. ByTalk masters.any_model start (length ws) (said_on ws) left r)
    → WhereTold (map told ls) (DrivesDirectly masters.any_model devices.any_model start left r)
    → IsDrivenOver told p links left r
driven-over told p links ls start left r same is talk honest = record {
  talk = subst (λ l. WhereTold (map told l)
      (λ ws. ByTalk masters.any_model (start_end p) (length ws) (said_on ws) left r)) same
      (subst (λ s. WhereTold (map told ls) (λ ws. ByTalk masters.any_model s (length ws) (said_on ws) left r)) is talk);
  honest = subst (λ l. WhereTold (map told l)
      (DrivesDirectly masters.any_model devices.any_model (start_end p) left r)) same
      (subst (λ s. WhereTold (map told ls) (DrivesDirectly masters.any_model devices.any_model s left r)) is honest);
}

-- The calls of an end whose run is over have lines.
pub finished-lines : (p : Parts) (start e : Machine) (n : ℕ) → start ≡ start_end p → n ≡ length p.config.ports
    → HasFinished masters.any_model start n e → All HasLine e.calls
finished-lines p start e n is size fin =
    let run = subst (λ s. IsRun masters.any_model s n fin.received fin.turns fin.hub fin.sent) is fin.run in
    let whole = subst (λ n. IsRun masters.any_model (start_end p) n fin.received fin.turns fin.hub fin.sent) size run in
    subst (All HasLine) (sym fin.parts.1)
    (run-lines masters.any_model p.machine.master (length p.config.ports) (plan_of p.config) fin.received fin.turns
    fin.hub fin.sent whole)
