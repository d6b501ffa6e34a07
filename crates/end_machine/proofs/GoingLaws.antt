-- How far the links and the end have come, from call to call of drive.
use Rattle.std.proofs.Common.{◌≡◌, ℕ, ◌<◌, ◌≤◌, List, [], ◌++◌, length, drop, get_or, map, set, refl, sym, ap, ◌∙◌}
use Rattle.std.proofs.Common.{subst, arith, Result, Ok, Err}
use Rattle.std.specs.Prelude.{Option, Some, None, IfSome, option_map, slice_get}
use Rattle.std.proofs.lemmas.List.{append-nil, length-map, length-set}
use Rattle.std.proofs.lemmas.Option.{none-some, same_Some}
use Rattle.byte_streams.specs.Prefixes.{IsPrefix}
use Rattle.byte_streams.proofs.Prefixes.{IsPrefix-front, IsPrefix-same, IsPrefix-trans, Grows-IsPrefix}
use Rattle.process_network.specs.Network.{Streams}
use Rattle.process_network.specs.PacketStar.HubOutlook.{HubWaits}
use Rattle.process_network.specs.TellingLinks.{IsFixed, IsTelling}
use Rattle.cos_base.specs.Links.{Wire, IsWire, IsFresh}
use Rattle.cosim_model.specs.declared.session.EndFault.{EndFault}
use Rattle.cosim_model.specs.declared.session.EndFault.TheVariants as fault
use Rattle.cosim_model.specs.declared.values.Plan.{Plan}
use Rattle.cosim_model.specs.Parts.{MasterModel}
use Rattle.ends_model.specs.declared.ends.Phase.TheVariants.{Done}
use Rattle.ends_model.specs.declared.ends.Turn.{Turn}
use Rattle.ends_model.specs.declared.ends.Turn.TheVariants as turn
use Rattle.ends_model.specs.MachineTurn.{MachineEnd, machine_outlook}
use Rattle.ends_model.specs.World.{machine_start}
use Rattle.rp_framing.specs.Framing.{counted}
use Rattle.rp_framing.specs.Receiving.{Came, CameAll, CamePartly}
use Rattle.rp_framing.specs.declared.receiver.Pulled.{Pulled}
use Rattle.rp_framing.specs.declared.receiver.Pulled.TheVariants as pulled
use Rattle.rp_framing.specs.declared.receiver.ReceiveFault.{ReceiveFault}
use Rattle.rp_framing.specs.declared.receiver.ReceiveFault.TheVariants as receive
use Rattle.rp_packet.specs.declared.fault.Cause.{Cause}
use Rattle.rp_packet.specs.declared.fault.PacketFault.{PacketFault}
use Rattle.machine_turns.specs.declared.fault.PortFault.{PortFault}
use Rattle.machine_turns.specs.declared.fault.TurnFault.{TurnFault}
use Rattle.machine_turns.specs.declared.fault.TurnFault.TheVariants as turn_fault
use Rattle.machine_turns.specs.Runs.{Grown, IsRun, Rests, Taking, only_at}
use Rattle.machine_turns.specs.RunLaws.{fed-runs}
use Rattle.machine_turns.specs.Ends.{Advances, End, GoesOn, HasRun, IsAtFront, IsAtRest, IsBlamedAt, IsPlacedAt}
use Rattle.machine_turns.specs.Ends.{Pulls, RunsOn, Sends, SendsAll, core_of, held_at, port_cause, taken_at}
use Rattle.end_machine.specs.Wires.{AllTell, Said, received_of, received_on, said_of, said_on, sent_of, sent_on}
use Rattle.end_machine.specs.Talk.{EndsSo, FailsSo, HasParts, IfLink}
use Rattle.end_machine.specs.Driving.{IsAllRead, IsDriven, IsInTime, IsPartly, Leaves, Tells}
use Rattle.end_machine.specs.Going.{AreSent, FinishesBy, Going, IsAtEnd, IsGoing, OnlyLink, ReadsOn, SendsOn, port_of}
use Rattle.end_machine.specs.Going.{with_sent}
use Rattle.end_machine.proofs.TalkLaws.{sends-less}
use Rattle.end_machine.proofs.LinkLaws.{told-set, told-there}
use Rattle.end_machine.proofs.WireLaws.{all-set, read-grows, read-said, read-sent, sent-grows, sent-received}
use Rattle.end_machine.proofs.WireLaws.{sent-said, set-self, tell-at, tell-set, tell-size, there-some}

pub parts-of : {M : Type 0} (e : End M) (h : Taking M) → core_of e ≡ h.core → HasParts e.clear h
parts-of e h core = (ap (λ c. c.master) core, ap (λ c. c.calls) core, ap (λ c. c.tick) core)

-- what a wire says is what is said on its port
said-at : (ns : List Wire) (p : ℕ) (n : Wire) → slice_get ns p ≡ Some n → n.said ≡ said_on ns p
said-at ns p n there = sym (ap said_of there)

sent-at : (ns : List Wire) (p : ℕ) (n : Wire) → slice_get ns p ≡ Some n → n.sent ≡ sent_on ns p
sent-at ns p n there = sym (ap sent_of there)

received-at : (ns : List Wire) (p : ℕ) (n : Wire) → slice_get ns p ≡ Some n → n.received ≡ received_on ns p
received-at ns p n there = sym (ap received_of there)

prefix-is : (x y : List ℕ) → x ≡ y → IsPrefix x y
prefix-is x y is = subst (IsPrefix x) is (IsPrefix-same x)

module _ {M : Type 0} (k : MasterModel M) (start : MachineEnd M Cause) (said : Said) where
  -- a run with the same bytes
  pub run-as : (n n' : ℕ) (x x' y y' : Streams) (e : End M) → n ≡ n' → ((p : ℕ) → x p ≡ x' p) → ((p : ℕ) → y p ≡ y' p)
      → HasRun k start n x y e → HasRun k start n' x' y' e
  run-as n n' x x' y y' e size received sent run =
      subst (λ n. HasRun k start n x' y' e) size
      (subst (λ (x : Streams). HasRun k start n x y' e) (λ d p. received p d)
      (subst (λ (y : Streams). HasRun k start n x y e) (λ d p. sent p d) run))

  in-time-as : (n n' : ℕ) (x x' : Streams) → n ≡ n' → ((p : ℕ) → x p ≡ x' p) → IsInTime k start n said x
      → IsInTime k start n' said x'
  in-time-as n n' x x' size received in_time =
      subst (λ n. IsInTime k start n said x') size
      (subst (λ (x : Streams). IsInTime k start n said x) (λ d p. received p d) in_time)

  -- Nothing is sent or received: what was sent is a beginning of what a run sends.
  part-at : (e : End M) (ns : List Wire) (sent : Streams) → ((p : ℕ) → IsPrefix (sent_on ns p) (sent p))
      → (now : List (Option Wire)) → AllTell now ns → (p : ℕ) (o : Option (Option Wire)) → slice_get now p ≡ o
      → (n : Wire)
      → o ≡ Some (Some n) → (n.received ≡ received_on ns p) × IsPrefix n.sent (sent p)
  part-at e ns sent less now tell p o there n is =
      let at = tell-at now ns p (Some n) tell (there ∙ is) in
      let here : slice_get ns p ≡ Some n = at.2 ∙ sym at.1 in
      (received-at ns p n here, subst (λ s. IsPrefix s (sent p)) (sym (sent-at ns p n here)) (less p))

  pub still : (e : End M) (now : List (Option Wire)) → Going k start said e now → IsPartly k start now
  still e now (ns, tell, g) = record {
    received = received_on ns;
    turns = g.run.turns;
    hub = g.run.hub;
    sent = sent_on ns;
    run = subst (λ n. IsRun k start n (received_on ns) g.run.turns g.run.hub (sent_on ns)) (sym (tell-size now ns
        tell)) g.run.run;
    links = λ p n is. part-at e ns (sent_on ns) (λ p. IsPrefix-same (sent_on ns p)) now tell p _ refl n is;
  }

  -- after a failure of a link, or for want of memory
  pub part-leaves : (e : MachineEnd M Cause) (f : TurnFault) → OnlyLink {A = Unit {0}} (Err f)
      → (now : List (Option Wire))
      → IsPartly k start now → Leaves k start said e (Err f) now
  part-leaves e turn_fault.NoMemory only now part = part
  part-leaves e (turn_fault.Port f) only now part = by f.port f.fault only
    where
      by : (p : ℕ) (x : EndFault PacketFault) → IfLink x (Unit {0}) ⊥
          → Leaves k start said e (Err (turn_fault.Port (record { port = p; fault = x }))) now
      by p (fault.Link count) only = part
      by p (fault.Ended n) only = absurd only
      by p (fault.Truncated a b) only = absurd only
      by p (fault.Malformed f) only = absurd only
      by p (fault.Session f) only = absurd only
      by p (fault.LateWant at got) only = absurd only
      by p (fault.TooMuch n) only = absurd only
      by p (fault.Astray n) only = absurd only
      by p fault.NoMemory only = absurd only

  -- all that a turn sends was sent
  sent-by : (e new : End M) (p : ℕ) (before out bytes : List ℕ) (ns : List Wire) (w : Wire)
      → GoesOn k e new before out (Ok (turn.Sent p)) → bytes ≡ drop (length before) out → slice_get ns p ≡ Some w
      → IsGoing k start said e ns → IsGoing k start said new (set ns p (record w { sent = w.sent ++ bytes }))
  sent-by e new p before out bytes ns w goes is there g =
      let next = set ns p (record w { sent = w.sent ++ bytes }) in
      let size = length-set ns p (record w { sent = w.sent ++ bytes }) in
      let grown = subst (λ b. Grown p b (sent_on ns) (sent_on next)) is (sent-grows ns p w bytes there) in
      let received = sent-received ns p w bytes there in
      record {
        telling = g.telling;
        same = λ q. sent-said ns p w bytes there q ∙ g.same q;
        run = run-as (length ns) (length next) (received_on ns) (received_on next) (sent_on next) (sent_on next) new
            (sym size)
            (λ q. sym (received q)) (λ q. refl)
            (goes start (length ns) (received_on ns) (sent_on ns) (sent_on next) grown g.run);
        in_time = in-time-as (length ns) (length next) (received_on ns) (received_on next) (sym size) (λ q. sym
            (received q))
            g.in_time;
      }

  pub going-sent : (e new : End M) (p : ℕ) (before out bytes : List ℕ) (now after : List (Option Wire)) → p < length now
      → GoesOn k e new before out (Ok (turn.Sent p)) → bytes ≡ drop (length before) out
      → SendsOn now after p bytes (Ok tt)
      → Going k start said e now → Going k start said new after
  going-sent e new p before out bytes now after within goes is sends (ns, tell, g) =
      let size = tell-size now ns tell in
      let w = there-some ns p (omega (arith, size)) in (
        set ns p (record w.0 { sent = w.0.sent ++ bytes }),
        subst (λ o. AllTell after (with_sent ns p bytes o)) w.1 (sends ns tell),
        sent-by e new p before out bytes ns w.0 goes is w.1 g,
      )

  -- a part of what a turn sends was sent
  pub going-part : (e new : End M) (p : ℕ) (before out bytes : List ℕ) (now after : List (Option Wire)) (f : TurnFault)
      → GoesOn k e new before out (Ok (turn.Sent p)) → bytes ≡ drop (length before) out
      → SendsOn now after p bytes (Err f)
      → Going k start said e now → IsPartly k start after
  going-part e new p before out bytes now after f goes is sends (ns, tell, g) =
      let later : Streams = λ q. sent_on ns q ++ only_at p bytes q in
      let grown = subst (λ b. Grown p b (sent_on ns) later) is (λ q. refl) in
      let run = goes start (length ns) (received_on ns) (sent_on ns) later grown g.run in
      let sent = sends ns tell in
      record {
        received = received_on ns;
        turns = run.turns;
        hub = run.hub;
        sent = later;
        run = subst (λ n. IsRun k start n (received_on ns) run.turns run.hub later) (sym sent.size) run.run;
        links = sent.links;
      }

  -- a turn that sends nothing
  pub going-on : (e new : End M) (before out : List ℕ) (now : List (Option Wire)) (r : Result Turn TurnFault)
      → ((sent : Streams) → Sends r before out sent sent) → GoesOn k e new before out r → Going k start said e now
      → Going k start said new now
  going-on e new before out now r quiet goes (ns, tell, g) = (
    ns,
    tell,
    record {
      telling = g.telling;
      same = g.same;
      run = goes start (length ns) (received_on ns) (sent_on ns) (sent_on ns) (quiet (sent_on ns)) g.run;
      in_time = g.in_time;
    },
  )

  -- an end that can take no more turns, and ends so
  pub driven-by : (e : End M) (r : Result Unit TurnFault) (ns : List Wire) (g : IsGoing k start said e ns)
      → IsAtRest k e
      → EndsSo k g.run.hub (received_on ns) r → IsAllRead said (received_on ns) (sent_on ns) r
      → IsDriven k start said e.clear r ns
  driven-by e r ns g rests ends all = record {
    same = g.same;
    hub = g.run.hub;
    whole = record {
      turns = g.run.turns;
      run = g.run.run;
      rests = rests start (length ns) (received_on ns) (sent_on ns) g.run;
    };
    ends = ends;
    parts = parts-of e g.run.hub g.run.core;
    all = all;
    in_time = g.in_time;
  }

  -- A turn that answers a fault.

  fault-of : (e : End M) (f : PortFault) (h : Taking M) → e.kept ≡ Some f → core_of e ≡ h.core
      → h.core.fault ≡ Some (port_cause f)
  fault-of e f h kept core = sym (ap (λ (c : MachineEnd M Cause). c.fault) core) ∙ ap (option_map port_cause) kept

  pub faulted : (e : End M) (p : ℕ) (x : EndFault PacketFault) (taken : ℕ) (held : List ℕ) (now : List (Option Wire))
      → e.kept ≡ Some (record { port = p; fault = x }) → IsBlamedAt taken held x → IsAtRest k e
      → Going k start said e now
      → Leaves k start said e.clear (Err (turn_fault.Port (record { port = p; fault = x }))) now
  faulted e p (fault.Malformed f) taken held now kept blamed rests (ns, tell, g) = (
    ns,
    tell,
    driven-by e _ ns g rests
        (fault-of e _ g.run.hub kept g.run.core, subst (IsPlacedAt (received_on ns)) kept g.run.placed) tt,
  )
  faulted e p (fault.Session f) taken held now kept blamed rests (ns, tell, g) =
      (ns, tell, driven-by e _ ns g rests (fault-of e _ g.run.hub kept g.run.core) tt)
  faulted e p (fault.LateWant at got) taken held now kept blamed rests (ns, tell, g) =
      (ns, tell, driven-by e _ ns g rests (fault-of e _ g.run.hub kept g.run.core) tt)
  faulted e p (fault.Ended n) taken held now kept blamed rests going = absurd blamed
  faulted e p (fault.Truncated a b) taken held now kept blamed rests going = absurd blamed
  faulted e p (fault.TooMuch n) taken held now kept blamed rests going = absurd blamed
  faulted e p (fault.Link n) taken held now kept blamed rests going = absurd blamed
  faulted e p (fault.Astray n) taken held now kept blamed rests going = absurd blamed
  faulted e p fault.NoMemory taken held now kept blamed rests going = absurd blamed

  -- a turn that can't be taken, or that answers a fault
  pub turn-fails : (units : ℕ) (e new : End M) (before out : List ℕ) (now : List (Option Wire)) (f : TurnFault) → e.kept ≡ None
      → Advances k units e new before out (Err f) → GoesOn k e new before out (Err f) → SendsAll k (Err f) new
      → (e.kept ≡ None → IsAtFront e (Err f)) → Going k start said e now → Leaves k start said new.clear (Err f) now
  turn-fails units e new before out now turn_fault.NoMemory none call goes all front going = still e now going
  turn-fails units e new before out now (turn_fault.Port f) none call goes all front going =
      faulted new f.port f.fault (taken_at e f.port) (held_at e f.port) now call.turns.keeps (front none) all
      (going-on e new before out now (Err (turn_fault.Port f)) (λ sent q. refl) goes going)

  -- a turn that sends nothing, or all that it sends was sent

  pub turn-quiet : (e new : End M) (before out : List ℕ) (now : List (Option Wire)) (t : Turn) → port_of t ≡ None
      → GoesOn k e new before out (Ok t) → Going k start said e now → Going k start said new now
  turn-quiet e new before out now turn.Unit quiet goes going =
      going-on e new before out now (Ok turn.Unit) (λ sent q. refl) goes going
  turn-quiet e new before out now (turn.Sent p) quiet goes going = absurd (none-some p (sym quiet))
  turn-quiet e new before out now (turn.Took p) quiet goes going =
      going-on e new before out now (Ok (turn.Took p)) (λ sent q. refl) goes going
  turn-quiet e new before out now (turn.Served p) quiet goes going =
      going-on e new before out now (Ok (turn.Served p)) (λ sent q. refl) goes going
  turn-quiet e new before out now turn.Marked quiet goes going =
      going-on e new before out now (Ok turn.Marked) (λ sent q. refl) goes going
  turn-quiet e new before out now (turn.NotYet p) quiet goes going =
      going-on e new before out now (Ok (turn.NotYet p)) (λ sent q. refl) goes going
  turn-quiet e new before out now turn.Done quiet goes going =
      going-on e new before out now (Ok turn.Done) (λ sent q. refl) goes going

  sent-is : (t : Turn) (p : ℕ) → port_of t ≡ Some p → t ≡ turn.Sent p
  sent-is turn.Unit p is = absurd (none-some p is)
  sent-is (turn.Sent q) p is = ap (λ i. turn.Sent i) (same_Some q p is)
  sent-is (turn.Took q) p is = absurd (none-some p is)
  sent-is (turn.Served q) p is = absurd (none-some p is)
  sent-is turn.Marked p is = absurd (none-some p is)
  sent-is (turn.NotYet q) p is = absurd (none-some p is)
  sent-is turn.Done p is = absurd (none-some p is)

  pub turn-sent : (e new : End M) (before out bytes : List ℕ) (now after : List (Option Wire)) (t : Turn) (p : ℕ)
      → port_of t ≡ Some p
      → length now ≡ length e.ports → IsAtFront e (Ok t) → GoesOn k e new before out (Ok t)
      → bytes ≡ drop (length before) out
      → SendsOn now after p bytes (Ok tt) → Going k start said e now → Going k start said new after
  turn-sent e new before out bytes now after t p port size front goes is sends going =
      let there : p < length e.ports = subst (λ t. IsAtFront e (Ok t)) (sent-is t p port) front in
      going-sent e new p before out bytes now after (omega (arith, there, size))
      (subst (λ t. GoesOn k e new before out (Ok t)) (sent-is t p port) goes) is sends going

  pub turn-part : (e new : End M) (before out bytes : List ℕ) (now after : List (Option Wire)) (t : Turn) (p : ℕ) (f
      : TurnFault)
      → port_of t ≡ Some p → GoesOn k e new before out (Ok t) → bytes ≡ drop (length before) out
      → SendsOn now after p bytes (Err f) → OnlyLink {A = Unit {0}} (Err f) → Going k start said e now
      → Leaves k start said new.clear (Err f) after
  turn-part e new before out bytes now after t p f port goes is sends only going =
      part-leaves new.clear f only after (going-part e new p before out bytes now after f
      (subst (λ t. GoesOn k e new before out (Ok t)) (sent-is t p port) goes) is sends going)

  -- a turn that answers that all is done
  pub done-leaves : (e : End M) (now : List (Option Wire)) → e.clear.phase ≡ Done → e.kept ≡ None → IsAtRest k e
      → Going k start said e now → Leaves k start said e.clear (Ok tt) now
  done-leaves e now phase kept rests (ns, tell, g) = (
    ns,
    tell,
    driven-by e (Ok tt) ns g rests (
      sym (ap (λ (c : MachineEnd M Cause). c.phase) g.run.core) ∙ phase,
      sym (ap (λ (c : MachineEnd M Cause). c.fault) g.run.core) ∙ ap (option_map port_cause) kept,
    ) tt,
  )

  -- the stream of an awaited port ended
  pub finished : (e : End M) (p : ℕ) (x : EndFault PacketFault) (now : List (Option Wire)) → p < length e.ports
      → machine_outlook k (core_of e) ≡ HubWaits p → e.kept ≡ None → IsAtRest k e → FinishesBy e p x
      → Tells now (IsAtEnd k start said p e) → Leaves k start said e.clear (Err (turn_fault.Port (record {
        port = p;
        fault = x;
      }))) now
  finished e p (fault.Ended n) now there waits kept rests finishes (ns, tell, at) =
      let run = at.going.run in
      let within : p < length ns = subst (λ n. p < n) run.size there in (
        ns,
        tell,
        driven-by e _ ns at.going rests (
          ap (machine_outlook k) (sym run.core) ∙ waits,
          sym (run.held kept p within) ∙ finishes.0,
          finishes.1 ∙ run.taken kept p within,
        ) at.all,
      )
  finished e p (fault.Truncated a b) now there waits kept rests finishes (ns, tell, at) =
      let run = at.going.run in
      let within : p < length ns = subst (λ n. p < n) run.size there in (
        ns,
        tell,
        driven-by e _ ns at.going rests (
          ap (machine_outlook k) (sym run.core) ∙ waits,
          finishes.0 ∙ run.taken kept p within,
          finishes.1 ∙ ap length (run.held kept p within),
          finishes.2,
        ) at.all,
      )
  finished e p (fault.Malformed f) now there waits kept rests finishes going = absurd finishes
  finished e p (fault.Session f) now there waits kept rests finishes going = absurd finishes
  finished e p (fault.LateWant at got) now there waits kept rests finishes going = absurd finishes
  finished e p (fault.TooMuch n) now there waits kept rests finishes going = absurd finishes
  finished e p (fault.Link n) now there waits kept rests finishes going = absurd finishes
  finished e p (fault.Astray n) now there waits kept rests finishes going = absurd finishes
  finished e p fault.NoMemory now there waits kept rests finishes going = absurd finishes

  -- Reading from the link of a port.

  same-wire : (w : Wire) → record w { received = w.received ++ [] } ≡ w
  same-wire w = ap (λ r. record w { received = r }) (append-nil w.received)

  pub going-ended : (e : End M) (p : ℕ) (was after : Option Wire) (now : List (Option Wire))
      → slice_get now p ≡ Some was
      → CameAll was after [] → Going k start said e now → Tells (set now p after) (IsAtEnd k start said p e)
  going-ended e p was after now there came (ns, tell, g) =
      let at = tell-at now ns p was tell there in
      let w = at.0 in
      let all = subst (λ o. CameAll o after []) at.1 came in
      let same : after ≡ was = all.0 ∙ ap (λ w. Some w) (same-wire w) ∙ sym at.1 in (
        ns,
        subst (λ xs. AllTell xs ns) (sym (ap (set now p) same ∙ set-self now p was there)) tell,
        record {
          going = g;
          all = sym (received-at ns p w at.2) ∙ sym (append-nil w.received) ∙ all.1
              ∙ ap w.said (sent-at ns p w at.2)
              ∙ ap (λ (f : List ℕ → List ℕ). f (sent_on ns p)) (said-at ns p w at.2 ∙ g.same p);
        },
      )

  pub going-partly : (e : End M) (p : ℕ) (was after : Option Wire) (now : List (Option Wire))
      → slice_get now p ≡ Some was
      → CamePartly was after [] → Going k start said e now → IsPartly k start (set now p after)
  going-partly e p was after now there came (ns, tell, g) =
      let part = still e now (ns, tell, g) in
      let at = tell-at now ns p was tell there in
      let came_as = subst (λ o. CamePartly o after []) at.1 came in
      record {
        received = part.received;
        turns = part.turns;
        hub = part.hub;
        sent = part.sent;
        run = subst (λ n. IsRun k start n part.received part.turns part.hub part.sent) (sym (length-set now p after))
            part.run;
        links = λ q n is. all-set
            (λ q o. (n : Wire) → o ≡ Some (Some n) → (n.received ≡ part.received q) × IsPrefix n.sent (part.sent q))
            now p after was there
            (λ n is. part.links p n (there ∙ ap (λ w. Some w) (at.1
            ∙ partly at.0 n after came_as (same_Some after (Some n) is))))
            (λ q n is. part.links q n is) q n is;
      }
    where
      partly : (w n : Wire) (o : Option Wire) → CamePartly (Some w) o [] → o ≡ Some n
          → ◌≡◌ {A = Option Wire} (Some w) (Some n)
      partly w n None came is = absurd (none-some n is)
      partly w n (Some v) came is = ap (λ w. Some w) (sym (same-wire w) ∙ sym came) ∙ is

module _ {M : Type 0} (k : MasterModel M) (plan : Plan) (m : M) (n : ℕ) (said : Said) where
  abbrev start : MachineEnd M Cause
  start = machine_start Cause m n plan

  read-in-time : (ns : List Wire) (p : ℕ) (w : Wire) (piece : List ℕ) (e : End M) → n ≡ length ns
      → slice_get ns p ≡ Some w
      → IsWire (record w { received = w.received ++ piece }) → IsGoing k start said e ns
      → IsInTime k start (length ns) said (received_on (set ns p (record w { received = w.received ++ piece })))
  read-in-time ns p w piece e size there wire g x turns h sent run rests fixed =
      let came = record w { received = w.received ++ piece } in
      let run_n = subst (λ i. IsRun k start i x turns h sent) (sym size) run in
      let mine = subst (λ i. IsRun k start i (received_on ns) g.run.turns g.run.hub (sent_on ns)) (sym size)
      g.run.run in
      let in_time = g.in_time x turns h sent run rests fixed in
      let less = sends-less k plan n m (received_on ns) x g.run.turns turns g.run.hub h (sent_on ns) sent in_time
      mine run_n rests in
      let says : w.said w.sent ≡ said p (sent_on ns p) =
      ap w.said (sent-at ns p w there) ∙ ap (λ (f : List ℕ → List ℕ). f (sent_on ns p)) (said-at ns p w there
      ∙ g.same p) in
      let here : IsPrefix came.received (x p) =
      subst (IsPrefix came.received) (sym (fixed p))
      (IsPrefix-trans came.received (said p (sent_on ns p)) (said p (sent p)) (subst (IsPrefix came.received) says
      wire.within)
      (g.telling p (sent_on ns p) (sent p) (less p))) in
      all-set (λ q o. IsPrefix (received_of o) (x q)) ns p came w there here in_time

  pub going-read : (e new : End M) (p : ℕ) (piece : List ℕ) (was after : Option Wire) (now : List (Option Wire))
      → n ≡ length now
      → slice_get now p ≡ Some was → Came was after piece → IfSome after IsWire → RunsOn k p piece e new
      → Going k start said e now → Going k start said new (set now p after)
  going-read e new p piece was after now count there came wire runs (ns, tell, g) =
      let at = tell-at now ns p was tell there in
      let w = at.0 in
      let next = record w { received = w.received ++ piece } in
      let is : after ≡ Some next = subst (λ o. Came o after piece) at.1 came in
      let here = at.2 in
      let size = length-set ns p next in
      let grown = read-grows ns p w piece here in
      let run = runs start (length ns) (received_on ns) (received_on (set ns p next)) (sent_on ns) grown g.run in (
        set ns p next,
        subst (λ o. AllTell (set now p o) (set ns p next)) (sym is) (tell-set now ns p next tell),
        record {
          telling = g.telling;
          same = λ q. read-said ns p w piece here q ∙ g.same q;
          run = run-as k start said (length ns) (length (set ns p next)) _ (received_on (set ns p next)) (sent_on ns)
              (sent_on (set ns p next)) new (sym size) (λ q. refl) (λ q. sym (read-sent ns p w piece here q)) run;
          in_time = in-time-as k start said (length ns) (length (set ns p next)) _ (received_on (set ns p next)) (sym
              size)
              (λ q. refl)
              (read-in-time ns p w piece e (count ∙ tell-size now ns tell) here (subst (λ o. IfSome o IsWire) is
              wire) g);
        },
      )

  -- What one read leaves.

  pub read-goes : (e new : End M) (p : ℕ) (was after : Option Wire) (now : List (Option Wire)) (r : Pulled)
      → n ≡ length now
      → slice_get now p ≡ Some was → IfSome after IsWire → e.kept ≡ None → Pulls was after p e new (Ok r)
      → Going k start said e now → ReadsOn k start said p new (set now p after) (Ok r)
  read-goes e new p was after now pulled.More count there wire none pulls going =
      going-read e new p pulls.0 was after now count there pulls.3 wire (fed-runs k p pulls.0 e new none pulls.4) going
  read-goes e new p was after now pulled.End count there wire none pulls going =
      subst (λ (e : End M). Tells (set now p after) (IsAtEnd k start said p e)) (sym pulls.1)
      (going-ended k start said e p was after now there pulls.0 going)

  pub read-fails : (e new : End M) (p : ℕ) (was after : Option Wire) (now : List (Option Wire)) (x : ReceiveFault)
      → slice_get now p ≡ Some was → Pulls was after p e new (Err x) → Going k start said e now
      → IsPartly k start (set now p after)
  read-fails e new p was after now (receive.Link count) there pulls going =
      going-partly k start said e p was after now there pulls.0 going
  read-fails e new p was after now receive.NoMemory there pulls going =
      going-partly k start said e p was after now there pulls.0 going
  read-fails e new p was after now (receive.Malformed x) there pulls going = absurd pulls
  read-fails e new p was after now (receive.Truncated x) there pulls going = absurd pulls

-- The same of a list of links.

module _ {M X : Type 0} (k : MasterModel M) (plan : Plan) (m : M) (said : Said) (told : X
    → Option Wire) (ls : List X) (p : ℕ) (d l : X)
    (within : p < length ls) (e new : End M) (going : Going k (machine_start Cause m (length ls) plan) said e (map
    told ls)) where
  pub link-reads : (r : Pulled) → IfSome (told l) IsWire → e.kept ≡ None
      → Pulls (told (get_or ls p d)) (told l) p e new (Ok r)
      → ReadsOn k (machine_start Cause m (length ls) plan) said p new (map told (set ls p l)) (Ok r)
  link-reads r wire none pulls =
      subst (λ now. ReadsOn k (machine_start Cause m (length ls) plan) said p new now (Ok r)) (sym (told-set told ls
      p d l within))
      (read-goes k plan m (length ls) said e new p (told (get_or ls p d)) (told l) (map told ls) r (sym (length-map
      ls told))
      (told-there told ls p d l within) wire none pulls going)

  pub link-fails : (x : ReceiveFault) → Pulls (told (get_or ls p d)) (told l) p e new (Err x)
      → IsPartly k (machine_start Cause m (length ls) plan) (map told (set ls p l))
  link-fails x pulls =
      subst (IsPartly k (machine_start Cause m (length ls) plan)) (sym (told-set told ls p d l within))
      (read-fails k plan m (length ls) said e new p (told (get_or ls p d)) (told l) (map told ls) x (told-there told
      ls p d l within)
      pulls going)
