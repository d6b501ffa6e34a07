-- Each turn of a device end leaves it less to take, and what was sent stays.
use Rattle.std.proofs.Common.{◌≡◌, ℕ, suc, ◌+◌, ◌-◌, ◌<◌, ◌≤◌, Bool, true, false, List, [], ◌++◌, length, drop, refl, sym, ap, ◌∙◌, subst, arith, Result, Ok, Err, OnOk, IsOk, IsErr}
use Rattle.std.specs.Prelude.{Option, Some, None}
use Rattle.std.proofs.Math.Seq.{drop-append_seam}
use Rattle.std.proofs.lemmas.List.{append-nil, length-drop}
use Rattle.process_network.specs.PacketStar.{fresh_leaf}
use Rattle.cosim_model.specs.declared.session.EndFault.{EndFault}
use Rattle.cosim_model.specs.declared.session.EndFault.TheVariants as fault
use Rattle.cosim_model.specs.Parts.{DeviceModel}
use Rattle.ends_model.specs.declared.ends.DeviceTurn.{DeviceTurn}
use Rattle.ends_model.specs.declared.ends.DeviceTurn.TheVariants as device_turn
use Rattle.ends_model.specs.DeviceTurn.{DeviceEnd}
use Rattle.rp_packet.specs.declared.fault.Cause.{Cause}
use Rattle.device_turns.specs.Runs.{Taking}
use Rattle.device_turns.specs.Ends.{End, Fault, AtFault, core_of, Goes, GoesOn, HasRun, HasSentAll, SendsAll, Turns, answer_of, moves, turn_of}
use Rattle.device_turns.specs.StepLaws.{step-is, went}
use Rattle.device_turns.specs.EndLaws.{moves-turns, rests-all, waits-rests}
use Rattle.device_peer.specs.Speaking.{Continues}

went-most : (b : Bool) → went b ≤ 1
went-most true = omega arith
went-most false = omega arith

kept-front : (xs ys after : List ℕ) → after ≡ xs ++ ys → xs ++ drop (length xs) after ≡ after
kept-front xs ys after is =
    ap (λ a. xs ++ drop (length xs) a) is ∙ ap (λ rest. xs ++ rest) (drop-append_seam xs ys) ∙ sym is

module _ {S : Type 0} (d : DeviceModel S) where
  -- how many turns can be left
  abbrev pub left : End S → ℕ
  left e = suc (length e.held) - went e.clear.session.hello_went

  lowers-by : (old new : End S) (before after : List ℕ) → new.kept ≡ None → (o : Option (Taking S × List ℕ)) → turn_of d old ≡ o
      → (o ≡ None → ⊥) → Goes o old new before after → left new < left old
  lowers-by old new before after clear None is some goes = absurd (some refl)
  lowers-by old new before after clear (Some r) is some goes =
      let step = step-is d (fresh_leaf (core_of old)) old.held r is in
      let moves : went old.clear.session.hello_went < r.0.taken + went r.0.core.session.hello_went = omega (arith, step.moves) in
      let within = step.within (omega arith) in
      let held : length new.held ≡ length old.held - r.0.taken = ap length (goes.1.held clear) ∙ length-drop r.0.taken old.held in
      let hello : went new.clear.session.hello_went ≡ went r.0.core.session.hello_went =
      ap (λ (c : DeviceEnd S Cause). went c.session.hello_went) goes.0 in
      let most = went-most new.clear.session.hello_went in
      let least = went-most old.clear.session.hello_went in
      omega (arith, moves, within, held, hello, most, least)

  -- a turn that was ready leaves less
  pub ready-lowers : (old new : End S) (before after : List ℕ) (t : DeviceTurn) → moves (answer_of d old) ≡ true
      → Turns d old new before after (Ok t) → left new < left old
  ready-lowers old new before after t ready turn =
      lowers-by old new before after turn.keeps (turn_of d old) refl
      (moves-turns d old t (ap moves turn.answers ∙ ready) (sym turn.answers)) turn.goes

  -- What was sent stays.

  goes-front : (old new : End S) (before after : List ℕ) (o : Option (Taking S × List ℕ)) → Goes o old new before after
      → before ++ drop (length before) after ≡ after
  goes-front old new before after None goes = kept-front before [] after (goes.1 ∙ sym (append-nil before))
  goes-front old new before after (Some r) goes = kept-front before r.1 after goes.2

  turn-front : (old new : End S) (before after : List ℕ) (result : Result DeviceTurn Fault) → Turns d old new before after result
      → before ++ drop (length before) after ≡ after
  turn-front old new before after (Ok t) call = goes-front old new before after (turn_of d old) call.goes
  turn-front old new before after (Err fault.NoMemory) call = kept-front before [] after (call.1 ∙ sym (append-nil before))
  turn-front old new before after (Err (fault.Malformed f)) call = goes-front old new before after (turn_of d old) call.goes
  turn-front old new before after (Err (fault.Truncated a b)) call = goes-front old new before after (turn_of d old) call.goes
  turn-front old new before after (Err (fault.Session f)) call = goes-front old new before after (turn_of d old) call.goes
  turn-front old new before after (Err (fault.Ended n)) call = goes-front old new before after (turn_of d old) call.goes
  turn-front old new before after (Err (fault.TooMuch n)) call = goes-front old new before after (turn_of d old) call.goes
  turn-front old new before after (Err (fault.Link n)) call = goes-front old new before after (turn_of d old) call.goes
  turn-front old new before after (Err (fault.LateWant a b)) call = goes-front old new before after (turn_of d old) call.goes
  turn-front old new before after (Err (fault.Astray n)) call = goes-front old new before after (turn_of d old) call.goes

  pub continues-first : (e : End S) (said : List ℕ) → Continues d e e said said
  continues-first e said start received run = run

  pub continues-on : (first old new : End S) (said before after : List ℕ) (result : Result DeviceTurn Fault)
      → Continues d first old said before → Turns d old new before after result → GoesOn d old new before after
      → Continues d first new said after
  continues-on first old new said before after result so_far call goes start received run =
      subst (λ s. HasRun d start received s new) (turn-front old new before after result call)
      (goes start received before (so_far start received run))

  -- One that isn't ready has sent all, and so has one that met a fault.

  unready : (r : Result DeviceTurn (EndFault Cause)) → moves r ≡ false → r ≡ Ok device_turn.NotYet
  unready (Ok device_turn.NotYet) is = refl
  unready (Ok device_turn.Greeted) is = absurd (cc (is))
  unready (Ok device_turn.Took) is = absurd (cc (is))
  unready (Err f) is = absurd (cc (is))

  pub unready-all : (e : End S) → moves (answer_of d e) ≡ false → HasSentAll d e
  unready-all e is = rests-all d e (waits-rests d e (unready (answer_of d e) is))

  always : {E P : Type 0} (r : Result Unit E) → P → OnOk r P
  always (Ok u) p = p
  always (Err e) p = tt

  never : {E : Type 0} (P : Type 0) (r : Result Unit E) → IsErr r → OnOk r P
  never P (Ok u) is = absurd (cc (is))
  never P (Err e) is = tt

  pub faulty-all : {E : Type 0} (e : End S) (f : Fault) (r : Result Unit E) → AtFault f (IsOk r) (IsErr r) → SendsAll d (Err f) e
      → OnOk r (HasSentAll d e)
  faulty-all e fault.NoMemory r is all = never (HasSentAll d e) r is
  faulty-all e (fault.Malformed f) r is all = always r all
  faulty-all e (fault.Truncated a b) r is all = always r all
  faulty-all e (fault.Session f) r is all = always r all
  faulty-all e (fault.Ended n) r is all = always r all
  faulty-all e (fault.TooMuch n) r is all = always r all
  faulty-all e (fault.Link n) r is all = always r all
  faulty-all e (fault.LateWant a b) r is all = always r all
  faulty-all e (fault.Astray n) r is all = always r all
