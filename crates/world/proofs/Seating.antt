-- A turn of a seat's end, and bytes that are delivered to it.
use Rattle.std.proofs.Common.{◌≡◌, ℕ, ◌+◌, ◌-◌, ◌≤◌, min, Bool, true, false, List, [], ◌∷◌, ◌++◌, length, take, drop, refl, sym, ap, ◌∙◌, subst, arith, Result, Ok, Err, length-append, length-take, length-drop}
use Rattle.std.specs.Prelude.{Option, Some, None, is_some, nat_lt}
use Rattle.std.proofs.Math.Seq.{take-add}
use Rattle.std.proofs.lemmas.List.{append-nil, drop-append-le, drop-drop}
use Rattle.process_network.specs.Network.{handed_over}
use Rattle.process_network.specs.PacketStar.{written, leaf_turn_by, leaf_after_take, fresh_leaf}
use Rattle.process_network.specs.Star.{Link}
use Rattle.cosim_model.specs.declared.session.EndFault.{EndFault}
use Rattle.cosim_model.specs.declared.session.EndFault.TheVariants as fault
use Rattle.cosim_model.specs.Parts.{DeviceModel}
use Rattle.cosim_model.specs.Packets.{Decoded, spell}
use Rattle.cosim_model.specs.Packets.Decoded.{Valid}
use Rattle.cosim_model.specs.Sessions.{hello_of, hello_sent}
use Rattle.ends_model.specs.declared.ends.DeviceTurn.{DeviceTurn}
use Rattle.ends_model.specs.declared.ends.DeviceTurn.TheVariants as device_turn
use Rattle.ends_model.specs.DeviceTurn.{DeviceEnd, device_looks, device_hears}
use Rattle.ends_model.specs.Traffic as traffic
use Rattle.rp_framing.specs.Framing.{counted}
use Rattle.rp_packet.specs.declared.fault.Cause.{Cause}
use Rattle.rp_packet.specs.Refusals.{first}
use Rattle.rp_packet.specs.Streams.{packet_codec}
use Rattle.device_turns.specs.Runs.{Taking}
use Rattle.device_turns.specs.Ends.{AtFault, End, Fault, FedAt, Feeds, Goes, IsTurn, core_of, kept_cause, moves, turn_of}
use Rattle.device_turns.specs.EndLaws.{answer, moves-turns, waits-rests}
use Rattle.device_turns.specs.StepLaws.{step-is}
use Rattle.world.specs.Seats.{IsSeat, IsSoundSeat, SeatGiven, SeatTurns, SeatValue, TurnsTo, leaf_of, out_given, seat_turn}

abbrev pub shifted : {S : Type 0} → ℕ → Option (Taking S × List ℕ) → Option (Taking S × List ℕ)
shifted n None = None
shifted n (Some r) = Some (record { core = r.0.core; taken = n + r.0.taken }, r.1)

abbrev pub seat : {S : Type 0} → End S → Link → ℕ → SeatValue S
seat e k room = record { end = e; link = k; room = room }

caused : (k : Option Fault) (f : Fault) → kept_cause k ≡ None → k ≡ Some f → ⊥
caused None f none some = absurd (cc (some))
caused (Some g) f none some = absurd (cc (none))

counted-small : (n : ℕ) → n ≤ 18446744073709551615 → counted n ≡ n
counted-small n small = omega (arith, small)

-- a fault that isn't want of memory
pub not-memory : (f : Fault) (P Q : Type 0) → (f ≡ fault.NoMemory → ⊥) → AtFault f P Q → P
not-memory fault.NoMemory P Q not is = absurd (not refl)
not-memory (fault.Malformed f) P Q not is = is
not-memory (fault.Truncated a b) P Q not is = is
not-memory (fault.Session f) P Q not is = is
not-memory (fault.Ended n) P Q not is = is
not-memory (fault.TooMuch n) P Q not is = is
not-memory (fault.Link n) P Q not is = is
not-memory (fault.LateWant a b) P Q not is = is
not-memory (fault.Astray n) P Q not is = is

module _ {S : Type 0} (d : DeviceModel S) where
  abbrev pub turn_by : Taking S → List ℕ → Option (EndFault Cause) → Bool → Option (Taking S × List ℕ)
  turn_by l x kept hello = leaf_turn_by (traffic.device_alone d packet_codec) l x (device_looks l.core kept hello)

  -- The turn over the bytes held is that over all the bytes delivered.

  take-shifted : (c : DeviceEnd S Cause) (n : ℕ) (m : Option (Decoded Cause × ℕ))
      → leaf_after_take (traffic.device_alone d packet_codec) (record { core = c; taken = n }) m
      ≡ shifted n (leaf_after_take (traffic.device_alone d packet_codec) (fresh_leaf c) m)
  take-shifted c n None = refl
  take-shifted c n (Some m) =
      let count : n + m.1 ≡ n + (0 + m.1) = omega arith in
      let r = device_hears d c m.0 in
      ap (λ k. Some (record { core = r.0; taken = k }, written (spell packet_codec) r.1)) count

  turn-shifted : (c : DeviceEnd S Cause) (n : ℕ) (x held : List ℕ) (k : Option (EndFault Cause)) (b : Bool)
      → held ≡ drop n x → turn_by (record { core = c; taken = n }) x k b ≡ shifted n (turn_by (fresh_leaf c) held k b)
  turn-shifted c n x held (Some f) b same = refl
  turn-shifted c n x held None false same =
      let count : n ≡ n + 0 = omega arith in
      let hello = hello_of c.session in
      ap (λ m. Some (record { core = record c { session = hello_sent c.session }; taken = m }, written (spell packet_codec) (Valid hello ∷ [])))
      count
  turn-shifted c n x held None true same =
      ap (λ h. leaf_after_take (traffic.device_alone d packet_codec) (record { core = c; taken = n }) (first h)) (sym same)
      ∙ take-shifted c n (first held)

  module _ (e new : End S) (k : Link) (room later : ℕ) (after : List ℕ) (is : IsSeat e k) where
    abbrev old-seat : SeatValue S
    old-seat = seat e k room

    abbrev new-seat : SeatValue S
    new-seat = seat new (record k { back = after }) later

    pub turn-is : (o : Option (Taking S × List ℕ)) → turn_of d e ≡ o → seat_turn d old-seat ≡ shifted e.taken o
    turn-is o at =
        turn-shifted (core_of e) e.taken (take k.out_delivered k.out) e.held (kept_cause e.kept) e.clear.session.hello_went is.holds
        ∙ ap (shifted e.taken) at

    long : length (take k.out_delivered k.out) ≡ k.out_delivered
    long = let size = length-take k.out_delivered k.out in let fits = is.out_fits in omega (arith, size, fits)

    within : (r : Taking S × List ℕ) → turn_of d e ≡ Some r → e.taken + r.0.taken ≤ k.out_delivered
    within r at =
        let size = long in
        let taken = is.taken in
        let step = (step-is d (leaf_of e) (take k.out_delivered k.out) (record { core = r.0.core; taken = e.taken + r.0.taken }, r.1)
        (turn-is (Some r) at)).within in
        let most = step (omega (arith, size, taken)) in
        omega (arith, size, most)

    taken-is : (r : Taking S × List ℕ) → turn_of d e ≡ Some r → new.taken ≡ counted (e.taken + r.0.taken)
        → new.taken ≡ e.taken + r.0.taken
    taken-is r at counts =
        let most = within r at in
        let small = is.small in
        counts ∙ counted-small (e.taken + r.0.taken) (omega (arith, most, small))

    module _ (t : DeviceTurn) (turn : IsTurn d e new k.back after (Ok t)) where
      kept-by : (o : Option (Taking S × List ℕ)) → turn_of d e ≡ o → Goes o e new k.back after
          → IsSeat new (record k { back = after })
      kept-by None at goes = record {
        clear = turn.keeps;
        taken = subst (λ (x : End S). x.taken ≤ k.out_delivered) (sym goes.0) is.taken;
        small = is.small;
        out_fits = is.out_fits;
        back_fits = subst (λ b. k.back_delivered ≤ length b) (sym goes.1) is.back_fits;
        holds = subst (λ (x : End S). x.held ≡ drop x.taken (take k.out_delivered k.out)) (sym goes.0) is.holds;
      }
      kept-by (Some r) at goes =
          let taken = taken-is r at (goes.1.taken turn.keeps) in
          let most = within r at in
          let more = length-append k.back r.1 in
          let grown = ap length goes.2 in
          let fits = is.back_fits in
          record {
            clear = turn.keeps;
            taken = omega (arith, taken, most);
            small = is.small;
            out_fits = is.out_fits;
            back_fits = omega (arith, more, grown, fits);
            holds = goes.1.held turn.keeps ∙ ap (drop r.0.taken) is.holds
                ∙ drop-drop r.0.taken e.taken (take k.out_delivered k.out)
                ∙ ap (λ n. drop n (take k.out_delivered k.out)) (sym taken);
          }

      pub seat-kept : IsSeat new (record k { back = after })
      seat-kept = kept-by (turn_of d e) refl turn.goes

      turned-by : moves (answer t) ≡ true → (o : Option (Taking S × List ℕ)) → turn_of d e ≡ o → Goes o e new k.back after
          → SeatTurns d old-seat new-seat true
      turned-by moved None at goes = absurd (moves-turns d e t moved (sym turn.answers) at)
      turned-by moved (Some r) at goes =
          let all = turn-is (Some r) at in
          let taken = taken-is r at (goes.1.taken turn.keeps) in
          record {
            turns = subst (λ o. TurnsTo o old-seat new-seat) (sym all) (
              (λ i. record { core = goes.0 i; taken = taken i }),
              ap (λ b. record k { back = b }) goes.2,
            );
            took_is = ap is_some (sym all);
          }

      pub seat-turned : moves (answer t) ≡ true → (now : SeatValue S) → old-seat ≡ now → SeatTurns d now new-seat true
      seat-turned moved now same =
          subst (λ (s : SeatValue S). SeatTurns d s new-seat true) same (turned-by moved (turn_of d e) refl turn.goes)

    still-by : (o : Option (Taking S × List ℕ)) → o ≡ None → turn_of d e ≡ o → Goes o e new k.back after → room ≡ later
        → SeatTurns d old-seat new-seat false
    still-by (Some r) none at goes rooms = absurd (cc (none))
    still-by None none at goes rooms =
        let all = turn-is None at in
        record {
          turns = subst (λ o. TurnsTo o old-seat new-seat) (sym all)
              (λ i. seat (goes.0 i) (record k { back = goes.1 i }) (sym rooms i));
          took_is = ap is_some (sym all);
        }

    pub seat-still : IsTurn d e new k.back after (Ok device_turn.NotYet) → room ≡ later → (now : SeatValue S)
        → old-seat ≡ now → SeatTurns d now new-seat false
    seat-still turn rooms now same =
        subst (λ (s : SeatValue S). SeatTurns d s new-seat false) same
        (still-by (turn_of d e) (waits-rests d e (sym turn.answers)) refl turn.goes rooms)

    -- no fault is met
    fault-by : (f : Fault) → new.kept ≡ Some f → (o : Option (Taking S × List ℕ)) → turn_of d e ≡ o
        → Goes o e new k.back after → IsSoundSeat d old-seat → ⊥
    fault-by f keeps None at goes sound =
        let none : new.kept ≡ None = ap (λ (x : End S). x.kept) goes.0 ∙ is.clear in absurd (cc (none, keeps))
    fault-by f keeps (Some r) at goes sound =
        let none = sound (record { core = r.0.core; taken = e.taken + r.0.taken }, r.1) (turn-is (Some r) at) in
        caused new.kept f (ap (λ (c : DeviceEnd S Cause). c.fault) goes.0 ∙ none) keeps

    pub no-fault : (f : Fault) → IsTurn d e new k.back after (Err f) → (now : SeatValue S) → old-seat ≡ now
        → IsSoundSeat d now → ⊥
    no-fault f turn now same sound =
        fault-by f turn.keeps (turn_of d e) refl turn.goes (subst (λ (s : SeatValue S). IsSoundSeat d s) (sym same) sound)

-- Bytes are delivered.

fed : {S : Type 0} (e new : End S) (bytes : List ℕ) → e.kept ≡ None → Feeds bytes e new
    → new ≡ record e { held = e.held ++ bytes }
fed {S} e new bytes clear feeds = by e.kept clear feeds
  where
    by : (k : Option Fault) → k ≡ None → FedAt k bytes e new → new ≡ record e { held = e.held ++ bytes }
    by None none is = is
    by (Some f) none is = absurd (cc (none))

pub given-kept : {S : Type 0} (e new : End S) (k : Link) (piece : List ℕ) (size : ℕ) → IsSeat e k
    → piece ≡ take size (drop k.out_delivered k.out) → k.out_delivered + size ≤ length k.out
    → k.out_delivered + size ≤ 18446744073709551615 → Feeds piece e new
    → IsSeat new (record k { out_delivered = k.out_delivered + size })
given-kept {S} e new k piece size is piece_is fits small feeds =
    let same = fed e new piece is.clear feeds in
    let front = length-take k.out_delivered k.out in
    let taken = is.taken in
    record {
      clear = ap (λ (x : End S). x.kept) same ∙ is.clear;
      taken = subst (λ (x : End S). x.taken ≤ k.out_delivered + size) (sym same) (omega (arith, taken));
      small = small;
      out_fits = fits;
      back_fits = is.back_fits;
      holds = ap (λ (x : End S). x.held) same ∙ ap (λ h. h ++ piece) is.holds
          ∙ ap (λ p. drop e.taken (take k.out_delivered k.out) ++ p) piece_is
          ∙ sym (drop-append-le e.taken (take k.out_delivered k.out) (take size (drop k.out_delivered k.out)) (omega (arith, front, taken, fits)))
          ∙ ap (drop e.taken) (sym (take-add k.out_delivered size k.out))
          ∙ ap (λ (x : End S). drop x.taken (take (k.out_delivered + size) k.out)) (sym same);
    }
