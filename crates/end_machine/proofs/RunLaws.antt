-- The loop of drive: how it begins, what each turn and each read keep, and how it ends.
use Rattle.std.proofs.Common.{◌≡◌, ℕ, zero, suc, ◌<◌, ◌≤◌, List, [], ◌∷◌, length, get_or, map, replicate, refl, sym}
use Rattle.std.proofs.Common.{ap, ◌∙◌, subst, arith, All, Result, Ok, Err}
use Rattle.std.specs.Prelude.{Option, Some, None, IfSome, slice_get}
use Rattle.std.proofs.lemmas.List.{length-map, length-replicate}
use Rattle.std.proofs.lemmas.Option.{none-some, same_Some}
use Rattle.byte_streams.specs.Prefixes.{IsPrefix}
use Rattle.process_network.specs.Network.{Streams}
use Rattle.cos_base.specs.Links.{Wire, IsFresh, IsWire}
use Rattle.cosim_model.specs.declared.session.EndFault.{EndFault}
use Rattle.cosim_model.specs.declared.values.Plan.{Plan}
use Rattle.cosim_model.specs.Parts.{MasterModel}
use Rattle.ends_model.specs.declared.ends.Turn.{Turn}
use Rattle.ends_model.specs.MachineTurn.{MachineEnd}
use Rattle.ends_model.specs.World.{machine_start}
use Rattle.rp_framing.specs.declared.receiver.Pulled.{Pulled}
use Rattle.rp_framing.specs.declared.receiver.Pulled.TheVariants as pulled
use Rattle.rp_packet.specs.declared.fault.Cause.{Cause}
use Rattle.rp_packet.specs.declared.fault.PacketFault.{PacketFault}
use Rattle.machine_turns.specs.declared.fault.TurnFault.{TurnFault}
use Rattle.machine_turns.specs.declared.fault.TurnFault.TheVariants as turn_fault
use Rattle.machine_turns.specs.RunLaws.{run-fresh}
use Rattle.machine_turns.specs.Ends.{End, HasRun, IsAtRest, IsWaiting, SendsAll, core_of, fresh}
use Rattle.end_machine.specs.declared.driving.Need.{Need}
use Rattle.end_machine.specs.declared.driving.Need.TheVariants as need
use Rattle.end_machine.specs.Wires.{AllTell, Said, received_of, received_on, said_on, sent_of, sent_on}
use Rattle.end_machine.specs.Driving.{DriveCounts, Leaves, Tells}
use Rattle.end_machine.specs.Going.{Fed, FinishesBy, Going, IsAtEnd, IsGoing, ReadsOn, Settles, Turned, need_of}
use Rattle.end_machine.proofs.Measures.{Holds, start-holds, waits-there}
use Rattle.end_machine.proofs.WireLaws.{tell-size, tell-some}
use Rattle.end_machine.proofs.GoingLaws.{done-leaves, finished, run-as}
use Rattle.end_machine.proofs.StepLaws.{need-stops, need-waits, read-less, remaining, step-moves, step-stops}
use Rattle.end_machine.proofs.StepLaws.{step-waits, waits-outlook, worked-less}
use Rattle.end_machine.proofs.DriveLaws.{telling-on}

-- each of the wires is one
pub wires-at : {X : Type 0} (told : X → Option Wire) (law : (l : X)
    → IfSome (told l) IsWire) (ls : List X) (p : ℕ) (w : Wire)
    → slice_get (map told ls) p ≡ Some (Some w) → IsWire w
wires-at told law [] p w e = absurd (none-some (Some w) e)
wires-at told law (l ∷ ls) zero w e = subst (λ o. IfSome o IsWire) (same_Some (told l) (Some w) e) (law l)
wires-at told law (l ∷ ls) (suc p) w e = wires-at told law ls p w e

-- no count moved
same-list : (xs ys : List ℕ) → length xs ≡ length ys → ((q : ℕ) → q < length ys → get_or xs q 0 ≡ get_or ys q 0)
    → xs ≡ ys
same-list [] [] size each = refl
same-list [] (y ∷ ys) size each = absurd (omega (arith, size))
same-list (x ∷ xs) [] size each = absurd (omega (arith, size))
same-list (x ∷ xs) (y ∷ ys) size each =
    let more : length xs ≡ length ys = (let both : suc (length xs) ≡ suc (length ys) = size in omega (arith, both)) in
    ap (λ a. a ∷ xs) (each 0 (omega arith))
    ∙ ap (λ zs. y ∷ zs) (same-list xs ys more (λ q here. each (suc q) (omega (arith, here))))

pub counts-stay : {A : Type 0} (before now : List ℕ) (a : A) → DriveCounts {A = A} before now (Ok a) → now ≡ before
counts-stay before now a counts = same-list now before counts.0 counts.1

pub size-stays : {X A : Type 0} (count : X → ℕ) (ls ns : List X) (a : A)
    → DriveCounts {A = A} (map count ls) (map count ns) (Ok a) → length ns ≡ length ls
size-stays count ls ns a counts = sym (length-map ns count) ∙ counts.0 ∙ length-map ls count

module _ {M : Type 0} (k : MasterModel M) (plan : Plan) (m : M) (n : ℕ) where
  abbrev start : MachineEnd M Cause
  start = machine_start Cause m n plan

  -- What a call says of links of so many ports.

  pub step-goes : {A : Type 0} (i : ℕ) (said : Said) (e new : End M) (now after : List (Option Wire)) (r : Result A
      TurnFault) → i ≡ n
      → ((m : M) (plan : Plan) (said : Said) → Going k (machine_start Cause m i plan) said e now
      → Settles {A = A} k (machine_start Cause m i plan) said new after r)
      → Going k start said e now → Settles {A = A} k start said new after r
  step-goes {A} i said e new now after r size goes =
      subst (λ i. Going k (machine_start Cause m i plan) said e now
      → Settles {A = A} k (machine_start Cause m i plan) said new after r)
      size (goes m plan said)

  pub read-on-goes : (i p : ℕ) (said : Said) (e new : End M) (now after : List (Option Wire)) (r : Result Pulled
      TurnFault) → i ≡ n
      → ((m : M) (plan : Plan) (said : Said) → Going k (machine_start Cause m i plan) said e now
      → ReadsOn k (machine_start Cause m i plan) said p new after r)
      → Going k start said e now → ReadsOn k start said p new after r
  read-on-goes i p said e new now after r size goes =
      subst (λ i. Going k (machine_start Cause m i plan) said e now
      → ReadsOn k (machine_start Cause m i plan) said p new after r)
      size (goes m plan said)

  -- A fresh end on fresh links.

  nothing-sent : (ws : List Wire) → ((p : ℕ) (w : Wire) → slice_get ws p ≡ Some w → IsFresh w) → (p : ℕ)
      → [] ≡ sent_on ws p
  nothing-sent ws unused p = by (slice_get ws p) refl
    where
      by : (o : Option Wire) → slice_get ws p ≡ o → [] ≡ sent_of o
      by None is = refl
      by (Some w) is = sym (unused p w is).sent

  nothing-received : (ws : List Wire) → ((p : ℕ) (w : Wire) → slice_get ws p ≡ Some w → IsFresh w) → (p : ℕ)
      → [] ≡ received_on ws p
  nothing-received ws unused p = by (slice_get ws p) refl
    where
      by : (o : Option Wire) → slice_get ws p ≡ o → [] ≡ received_of o
      by None is = refl
      by (Some w) is = sym (unused p w is).received

  pub going-fresh : (e : End M) (now : List (Option Wire)) (ws : List Wire) → e ≡ fresh start n → n ≡ length now
      → ((p : ℕ) (w : Wire) → slice_get now p ≡ Some (Some w) → IsFresh w)
      → ((p : ℕ) (w : Wire) → slice_get now p ≡ Some (Some w) → IsWire w) → AllTell now ws
      → Going k start (said_on ws) e now
  going-fresh e now ws is size unused wires tell =
      let fresh_at = λ (p : ℕ) (w : Wire) (here : slice_get ws p ≡ Some w). unused p w (tell-some now ws p w tell
      here) in
      let count : n ≡ length ws = size ∙ tell-size now ws tell in
      let nil : Streams = λ p. [] in
      let run = subst (λ (e : End M). HasRun k start n nil nil e) (sym is) (run-fresh k start n refl) in (
        ws,
        tell,
        record {
          telling = telling-on ws (λ p w here. wires p w (tell-some now ws p w tell here));
          same = λ p. refl;
          run = run-as k start (said_on ws) n (length ws) nil (received_on ws) nil (sent_on ws) e count
              (nothing-received ws fresh_at) (nothing-sent ws fresh_at) run;
          in_time = λ x turns h sent run rests fixed p.
              subst (λ b. IsPrefix b (x p)) (nothing-received ws fresh_at p) (x p, refl);
        },
      )

  pub fresh-holds : (e : End M) → e ≡ fresh start n → Holds k plan n (core_of e)
  fresh-holds e is = subst (λ (e : End M). Holds k plan n (core_of e)) (sym is) (start-holds k plan n m)

  pub fresh-size : (e : End M) → e ≡ fresh start n → n ≡ length e.ports
  fresh-size e is = sym (length-replicate n _) ∙ sym (ap (λ (e : End M). length e.ports) is)

  -- a port that is awaited is there
  pub step-there : (p : ℕ) (old new : End M) (t : Turn) → need_of t ≡ need.Bytes p → Turned k old new t
      → Holds k plan n (core_of old)
      → p < n
  step-there p old new t is turned holds =
      let waits = step-waits k p old new t is turned in
      let call = turned.3 in
      let had = worked-less k plan n turned.2 old call.mid call.worked holds in
      waits-there k plan n (core_of new) (subst (λ (e : End M). Holds k plan n (core_of e)) (sym waits.1) had.0) p
      (waits-outlook k p new waits.0)

  pub stops-leaves : (said : Said) (old new : End M) (t : Turn) (now : List (Option Wire)) → need_of t ≡ need.Nothing
      → Turned k old new t → new.kept ≡ None → SendsAll k (Ok t) new → Going k start said new now
      → Leaves k start said new.clear (Ok tt) now
  stops-leaves said old new t now is turned kept rests going =
      done-leaves k start said new now (step-stops k old new t is turned) kept
      (subst (λ t. SendsAll k (Ok t) new) (need-stops t is) rests) going

  -- after a read
  pub read-holds : (p : ℕ) (old mid new : End M) (t : Turn) (r : Pulled) → r ≡ pulled.More → need_of t ≡ need.Bytes p
      → Turned k old mid t → Holds k plan n (core_of old) → length mid.ports ≡ n → Fed p mid new (Ok r)
      → Holds k plan n (core_of new) × (remaining k plan n new < remaining k plan n old)
  read-holds p old mid new t r more is turned holds size fed =
      let waits = step-waits k p old mid t is turned in
      let call = turned.3 in
      let had = worked-less k plan n turned.2 old call.mid call.worked holds in
      let mid_holds = subst (λ (e : End M). Holds k plan n (core_of e)) (sym waits.1) had.0 in
      let there = step-there p old mid t is turned holds in
      let came = subst (λ r. Fed p mid new (Ok r)) more fed in
      let less = read-less k plan n p mid new came.0 (omega (arith, there, size)) waits.0 came.1 came.2 in (
        subst (Holds k plan n) (sym less.0) mid_holds,
        (let falls = less.1 in
            let same = ap (remaining k plan n) waits.1 in
            let few = had.1 in omega (arith, falls, same, few)),
      )

  pub ends-leaves : (said : Said) (p : ℕ) (old mid new : End M) (t : Turn) (r : Pulled) (x : EndFault PacketFault)
      (now : List (Option Wire)) → r ≡ pulled.End → need_of t ≡ need.Bytes p → Turned k old mid t
      → Holds k plan n (core_of old)
      → length mid.ports ≡ n → mid.kept ≡ None → SendsAll k (Ok t) mid → Fed p mid new (Ok r) → FinishesBy new p x
      → ReadsOn k start said p new now (Ok r)
      → Leaves k start said new.clear (Err (turn_fault.Port (record { port = p; fault = x }))) now
  ends-leaves said p old mid new t r x now ended is turned holds size kept rests fed finishes reads =
      let waits = step-waits k p old mid t is turned in
      let there = step-there p old mid t is turned holds in
      let same : new ≡ mid = subst (λ r. Fed p mid new (Ok r)) ended fed in
      let at = subst (λ r. ReadsOn k start said p new now (Ok r)) ended reads in
      let all = subst (λ t. SendsAll k (Ok t) mid) (need-waits t p is) rests in
      let back = subst (λ (e : End M). IsAtRest k e) (sym same) all in
      let here : length new.ports ≡ n = ap (λ (e : End M). length e.ports) same ∙ size in
      finished k start said new p x now (omega (arith, there, here))
      (waits-outlook k p new (subst (IsWaiting k p) (sym same) waits.0)) (ap (λ (e : End M). e.kept) same
      ∙ kept) back finishes at
