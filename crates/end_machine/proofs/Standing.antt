-- An end that is driven stands within a run of the definitions, whatever its links tell.
use Rattle.std.proofs.Common.{◌≡◌, ℕ, List, [], ◌++◌, length, drop, refl, sym, ap, ◌∙◌, subst, Result, Ok, Err}
use Rattle.std.specs.Prelude.{None}
use Rattle.process_network.specs.Network.{Streams}
use Rattle.cosim_model.specs.declared.values.Plan.{Plan}
use Rattle.cosim_model.specs.Parts.{MasterModel}
use Rattle.ends_model.specs.declared.ends.Phase.TheVariants.{Done}
use Rattle.ends_model.specs.declared.ends.Turn.{Turn}
use Rattle.ends_model.specs.declared.ends.Turn.TheVariants as turn
use Rattle.ends_model.specs.MachineTurn.{MachineEnd}
use Rattle.ends_model.specs.World.{machine_start}
use Rattle.rp_framing.specs.declared.receiver.Pulled.{Pulled}
use Rattle.rp_framing.specs.declared.receiver.Pulled.TheVariants as pulled
use Rattle.rp_packet.specs.declared.fault.Cause.{Cause}
use Rattle.machine_turns.specs.Runs.{only_at}
use Rattle.machine_turns.specs.RunLaws.{fed-runs, run-fresh}
use Rattle.machine_turns.specs.Ends.{End, GoesOn, HasRun, fresh}
use Rattle.end_machine.specs.declared.driving.Need.TheVariants as need
use Rattle.end_machine.specs.Driving.{HasFinished}
use Rattle.end_machine.specs.Going.{Fed, InRun, KeepsRun, Turned, need_of}
use Rattle.end_machine.proofs.GoingLaws.{parts-of}
use Rattle.end_machine.proofs.StepLaws.{step-stops}

module _ {M : Type 0} (k : MasterModel M) where
  -- a turn is taken
  pub goes-run : (old new : End M) (before out : List ℕ) (t : Turn) → GoesOn k old new before out (Ok t)
      → KeepsRun k old new
  goes-run old new before out (turn.Sent p) goes start ports (x, y, run) =
      let later : Streams = λ q. y q ++ only_at p (drop (length before) out) q in
      (x, later, goes start ports x y later (λ q. refl) run)
  goes-run old new before out turn.Unit goes start ports (x, y, run) =
      (x, y, goes start ports x y y (λ q. refl) run)
  goes-run old new before out (turn.Took p) goes start ports (x, y, run) =
      (x, y, goes start ports x y y (λ q. refl) run)
  goes-run old new before out (turn.Served p) goes start ports (x, y, run) =
      (x, y, goes start ports x y y (λ q. refl) run)
  goes-run old new before out turn.Marked goes start ports (x, y, run) =
      (x, y, goes start ports x y y (λ q. refl) run)
  goes-run old new before out (turn.NotYet p) goes start ports (x, y, run) =
      (x, y, goes start ports x y y (λ q. refl) run)
  goes-run old new before out turn.Done goes start ports (x, y, run) =
      (x, y, goes start ports x y y (λ q. refl) run)

  -- bytes are received
  pub read-run : (p : ℕ) (old new : End M) (r : Pulled) → r ≡ pulled.More → old.kept ≡ None → Fed p old new (Ok r)
      → KeepsRun k old new
  read-run p old new r more none fed start ports (x, y, run) =
      let came = subst (λ r. Fed p old new (Ok r)) more fed in
      let grown : Streams = λ q. x q ++ only_at p came.0 q in
      (grown, y, fed-runs k p came.0 old new none came.2 start ports x grown y (λ q. refl) run)

  -- a fresh end has taken no turn
  pub fresh-run : (m : M) (n : ℕ) (plan : Plan) (e : End M) → e ≡ fresh (machine_start Cause m n plan) n
      → InRun k (machine_start Cause m n plan) n e
  fresh-run m n plan e is = (
    λ p. [],
    λ p. [],
    subst (λ (e : End M). HasRun k (machine_start Cause m n plan) n (λ p. []) (λ p. []) e) (sym is)
        (run-fresh k (machine_start Cause m n plan) n refl),
  )

  -- and all is done
  pub done-run : (start : MachineEnd M Cause) (n : ℕ) (old new : End M) (t : Turn) → need_of t ≡ need.Nothing
      → Turned k old new t → InRun k start n new → HasFinished k start n new.clear
  done-run start n old new t is turned (x, y, run) = record {
    received = x;
    turns = run.turns;
    hub = run.hub;
    sent = y;
    run = run.run;
    done = sym (ap (λ (c : MachineEnd M Cause). c.phase) run.core) ∙ step-stops k old new t is turned;
    parts = parts-of new run.hub run.core;
  }
