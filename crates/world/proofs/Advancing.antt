-- Local units of the machine end, and then its turn, are steps of the star.
use Rattle.std.proofs.Common.{◌≡◌, ℕ, zero, suc, ◌+◌, ◌≤◌, Bool, true, false, List, [], ◌∷◌, ◌++◌, length, map, refl, sym, ap, ◌∙◌, subst, Result, Ok, Err}
use Rattle.std.specs.Prelude.{Option, Some, None}
use Rattle.cos_base.specs.declared.no_memory.NoMemory.{NoMemory}
use Rattle.process_network.specs.Star.{Link, StarStep, star_after, star_all}
use Rattle.process_network.specs.Star.StarStep.{HubTurn}
use Rattle.cosim_model.specs.Parts.{DeviceModel, MasterModel}
use Rattle.ends_model.specs.declared.ends.Turn.{Turn}
use Rattle.ends_model.specs.declared.ends.Turn.TheVariants as turn
use Rattle.machine_turns.specs.declared.fault.PortFault.{PortFault}
use Rattle.machine_turns.specs.declared.fault.TurnFault.TheVariants as turn_fault
use Rattle.machine_turns.specs.Ends.{Advances as MachineAdvances, End, HasWorked as MachineWorked, IsAtFront, IsTurn, port_cause}
use Rattle.machine_turns.proofs.Advancing.{front-same, unit-runs}
use Rattle.world.specs.Seats.{SeatValue, leaf_of}
use Rattle.world.specs.Stars.{Advances, Ends, HasWorked, IsHub, IsSendable, IsTaken, IsUnit, StaysSound, ends_of, is_sending, sent_links, star}
use Rattle.world.proofs.Turning.{has-room-for, hub-kept, hub-moves, never-faulty, turn-keeps, turn-moves}

silent-links : (t : Turn) (links : List Link) (bytes : List ℕ) → is_sending t ≡ false → sent_links links t bytes ≡ links
silent-links (turn.Sent p) links bytes silent = absurd (cc (silent))
silent-links turn.Unit links bytes silent = refl
silent-links (turn.Took p) links bytes silent = refl
silent-links (turn.Served p) links bytes silent = refl
silent-links turn.Marked links bytes silent = refl
silent-links (turn.NotYet p) links bytes silent = refl
silent-links turn.Done links bytes silent = refl

module _ {M S : Type 0} (k : MasterModel M) (d : DeviceModel S) where
  -- The steps of local units.
  worked-steps : (n : ℕ) (old mid : Ends M S) → HasWorked k d n old mid
      → (steps : List StarStep) × (mid ≡ star_all (star k d) old steps)
  worked-steps zero old mid worked = ([], worked)
  worked-steps (suc n) old mid (next, unit, rest) =
      let more = worked-steps n next mid rest in
      (HubTurn ∷ more.0, more.1 ∙ ap (λ w. star_all (star k d) w more.0) unit.moved.new_is)

  module _ (seats : List (SeatValue S)) where
    abbrev links : List Link
    links = map (λ (s : SeatValue S). s.link) seats

    worked-up : (n : ℕ) (e mid : End M) → IsHub e links → MachineWorked k n e mid
        → IsHub mid links × HasWorked k d n (ends_of e seats) (ends_of mid seats)
    worked-up zero e mid is worked =
        (subst (λ x. IsHub x links) (sym worked) is, ap (λ (x : End M). ends_of x seats) worked)
    worked-up (suc n) e mid is (next, one, rest) =
        let took = one [] in
        let runs = unit-runs k e next took in
        let more = worked-up n next mid (hub-kept k d e seats is next [] turn.Unit took) rest in (
          more.0,
          (
            ends_of next seats,
            record {
              moved = hub-moves k d e seats is next [] turn.Unit took seats refl refl (ends_of e seats) refl;
              leaves = refl;
              links = refl;
              going = λ done. cc (runs, done);
            },
            more.1,
          ),
        )

  -- What crosses the calls round them: room was made before, and then the bytes are appended.
  module _ (e new : End M) (seats roomy later : List (SeatValue S)) (is : IsHub e (links seats))
      (before after piece : List ℕ) (cleared : before ≡ []) (piece_is : piece ≡ after)
      (room_leaves : map (λ (s : SeatValue S). leaf_of s.end) roomy ≡ map (λ (s : SeatValue S). leaf_of s.end) seats)
      (room_links : map (λ (s : SeatValue S). s.link) roomy ≡ links seats) (w : Ends M S) (same : ends_of e seats ≡ w)
      (units : ℕ) where
    up : (mid : End M) → MachineWorked k units e mid
        → IsHub mid (links seats) × HasWorked k d units (ends_of e seats) (ends_of mid seats)
    up mid worked = worked-up seats units e mid is worked

    pub never-faulty-on : (f : PortFault) → MachineAdvances k units e new before after (Err (turn_fault.Port f))
        → StaysSound k d w → ⊥
    never-faulty-on f call sound =
        let reached = up call.mid call.worked in
        let steps = worked-steps units w (ends_of call.mid seats)
        (subst (λ v. HasWorked k d units v (ends_of call.mid seats)) same reached.1) in
        never-faulty k d call.mid new seats roomy later reached.0 before after piece cleared piece_is room_leaves room_links
        (star_all (star k d) w steps.0) steps.1 f call.turns (sound steps.0)

    module _ (call : MachineAdvances k units e new before after (Err turn_fault.NoMemory)) where
      pub stopped-hub : IsHub new (links roomy)
      stopped-hub =
          subst (λ ks. IsHub new ks) (sym room_links)
          (subst (λ x. IsHub x (links seats)) (sym call.turns.0) (up call.mid call.worked).0)

      pub stopped-ends : (error : NoMemory) → Advances k d units w (ends_of new roomy) (Err error)
      stopped-ends error = record {
        mid = ends_of call.mid seats;
        worked = subst (λ v. HasWorked k d units v (ends_of call.mid seats)) same (up call.mid call.worked).1;
        turns = λ i. record { hub = (ends_of (call.turns.0 i) seats).hub; leaves = room_leaves i; links = room_links i };
      }

    module _ (t : Turn) (call : MachineAdvances k units e new before after (Ok t)) where
      pub has-room-on : (e.kept ≡ None → IsAtFront e (Ok t)) → length after ≤ length before + 4176
          → IsSendable (length roomy) t piece
      has-room-on front few =
          has-room-for k d call.mid new seats roomy later (up call.mid call.worked).0 before after piece cleared piece_is
          room_leaves room_links (ends_of call.mid seats) refl t call.turns
          (λ kept. front-same e call.mid (Ok t) call.ports (front is.clear)) few

      module _ (sent_leaves : map (λ (s : SeatValue S). leaf_of s.end) later ≡ map (λ (s : SeatValue S). leaf_of s.end) roomy)
          (sent_on : map (λ (s : SeatValue S). s.link) later ≡ sent_links (map (λ (s : SeatValue S). s.link) roomy) t piece)
        where
          pub advanced-hub : IsHub new (links later)
          advanced-hub =
              turn-keeps k d call.mid new seats roomy later (up call.mid call.worked).0 before after piece cleared piece_is
              room_leaves room_links (ends_of call.mid seats) refl t call.turns sent_leaves sent_on

          pub advanced-ends : Advances k d units w (ends_of new later) (Ok t)
          advanced-ends = record {
            mid = ends_of call.mid seats;
            worked = subst (λ v. HasWorked k d units v (ends_of call.mid seats)) same (up call.mid call.worked).1;
            turns = record {
              moved =
                  turn-moves k d call.mid new seats roomy later (up call.mid call.worked).0 before after piece cleared piece_is
                  room_leaves room_links (ends_of call.mid seats) refl t call.turns sent_leaves sent_on;
              leaves = sent_leaves ∙ room_leaves;
              links = λ silent. sent_on ∙ silent-links t (map (λ (s : SeatValue S). s.link) roomy) piece silent ∙ room_links;
            };
          }
