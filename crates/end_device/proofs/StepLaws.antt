-- One turn of serve: which fault is kept, and that it moves on.
use Rattle.std.proofs.Common.{◌≡◌, ℕ, ◌+◌, ◌<◌, Bool, true, false, List, length, refl, sym, ap, ◌∙◌, arith, Result, Ok, Err}
use Rattle.std.specs.Prelude.{Option, Some, None}
use Rattle.std.proofs.lemmas.List.{length-drop}
use Rattle.process_network.specs.PacketStar.{fresh_leaf}
use Rattle.cosim_model.specs.declared.session.EndFault.TheVariants as fault
use Rattle.cosim_model.specs.Parts.{DeviceModel}
use Rattle.ends_model.specs.declared.ends.DeviceTurn.{DeviceTurn}
use Rattle.ends_model.specs.declared.ends.DeviceTurn.TheVariants as turn
use Rattle.device_turns.specs.Runs.{Taking}
use Rattle.device_turns.specs.Ends.{End, Fault, Goes, IsTurn, Turns, answer_of, core_of, turn_of}
use Rattle.device_turns.specs.StepLaws.{went, step-is}
use Rattle.device_turns.specs.EndLaws.{waits-rests, moves-turns}
use Rattle.end_device.specs.Going.{Progress, kept_in_run, to_greet, turns_left}

-- the fault that an end keeps that kept none
pub turn-kept : {S : Type 0} (d : DeviceModel S) (old new : End S) (before after : List ℕ) (r : Result DeviceTurn Fault)
    → old.kept ≡ None → Turns d old new before after r → new.kept ≡ kept_in_run r
turn-kept d old new before after (Ok t) clear call = call.keeps
turn-kept d old new before after (Err fault.NoMemory) clear call = ap (λ e. e.kept) call.0 ∙ clear
turn-kept d old new before after (Err (fault.Malformed f)) clear call = call.keeps
turn-kept d old new before after (Err (fault.Session f)) clear call = call.keeps
turn-kept d old new before after (Err (fault.Truncated a b)) clear call = absurd (call.front clear)
turn-kept d old new before after (Err (fault.Ended n)) clear call = absurd (call.front clear)
turn-kept d old new before after (Err (fault.TooMuch n)) clear call = absurd (call.front clear)
turn-kept d old new before after (Err (fault.Link n)) clear call = absurd (call.front clear)
turn-kept d old new before after (Err (fault.LateWant a b)) clear call = absurd (call.front clear)
turn-kept d old new before after (Err (fault.Astray n)) clear call = absurd (call.front clear)

to-greet : (b : Bool) → to_greet b + went b ≡ 1
to-greet true = refl
to-greet false = refl

module _ {S : Type 0} (d : DeviceModel S) where
  fewer : (old new : End S) (before after : List ℕ) (r : Taking S × List ℕ) → turn_of d old ≡ Some r → new.kept ≡ None
      → Goes (Some r) old new before after → turns_left new < turns_left old
  fewer old new before after r is kept goes =
      let step = step-is d (fresh_leaf (core_of old)) old.held r is in
      let moves = step.moves in
      let within = step.within (omega arith) in
      let hello = ap (λ c. went c.session.hello_went) goes.0 in
      let held = ap length (goes.1.held kept) in
      omega (
        arith,
        moves,
        within,
        hello,
        held,
        length-drop r.0.taken old.held,
        to-greet old.clear.session.hello_went,
        to-greet new.clear.session.hello_went,
      )

  moved : (old new : End S) (before after : List ℕ) (o : Option (Taking S × List ℕ)) → turn_of d old ≡ o → (o ≡ None → ⊥)
      → new.kept ≡ None → Goes o old new before after → turns_left new < turns_left old
  moved old new before after None is some kept goes = absurd (some refl)
  moved old new before after (Some r) is some kept goes = fewer old new before after r is kept goes

  stays : (old new : End S) (before after : List ℕ) (o : Option (Taking S × List ℕ)) → o ≡ None → Goes o old new before after
      → new ≡ old
  stays old new before after None is goes = goes.0
  stays old new before after (Some r) is goes = absurd (cc (is))

  pub turn-progress : (t : DeviceTurn) (old new : End S) (before after : List ℕ) → IsTurn d old new before after (Ok t)
      → Progress d t old new
  turn-progress turn.NotYet old new before after call =
      let waits = sym call.answers in
      ap (answer_of d) (stays old new before after (turn_of d old) (waits-rests d old waits) call.goes) ∙ waits
  turn-progress turn.Greeted old new before after call =
      moved old new before after (turn_of d old) refl (moves-turns d old turn.Greeted refl (sym call.answers)) call.keeps call.goes
  turn-progress turn.Took old new before after call =
      moved old new before after (turn_of d old) refl (moves-turns d old turn.Took refl (sym call.answers)) call.keeps call.goes
