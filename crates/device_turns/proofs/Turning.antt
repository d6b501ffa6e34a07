-- What each kind of turn leaves is what the definitions say.
use Rattle.std.proofs.Common.{◌≡◌, ℕ, ◌+◌, Bool, true, false, List, [], ◌∷◌, ◌++◌, drop, refl, sym, ap, ◌∙◌, subst, arith, Result, Ok, Err}
use Rattle.std.specs.Prelude.{Option, Some, None, map, option_map}
use Rattle.std.proofs.lemmas.List.{append-nil}
use Rattle.process_network.specs.PacketStar.{written, leaf_turn_by, leaf_after_take, fresh_leaf}
use Rattle.cosim_model.specs.declared.session.EndFault.{EndFault}
use Rattle.cosim_model.specs.declared.session.EndFault.TheVariants as fault
use Rattle.cosim_model.specs.declared.session.SessionFault.{SessionFault}
use Rattle.cosim_model.specs.Parts.{DeviceModel}
use Rattle.cosim_model.specs.Packets.{Packet, Decoded, spell}
use Rattle.cosim_model.specs.Packets.Decoded.{Valid, Malformed}
use Rattle.cosim_model.specs.Sessions.{hello_of, hello_sent}
use Rattle.ends_model.specs.declared.ends.DeviceTurn.{DeviceTurn}
use Rattle.ends_model.specs.declared.ends.DeviceTurn.TheVariants as device_turn
use Rattle.ends_model.specs.Answers.{answer_once, unless_faulty}
use Rattle.ends_model.specs.DeviceTurn.{DeviceEnd, device_looks, device_takes}
use Rattle.ends_model.specs.Traffic as traffic
use Rattle.rp_packet.specs.declared.fault.Cause.{Cause}
use Rattle.rp_packet.specs.declared.fault.PacketFault.{PacketFault}
use Rattle.rp_packet.specs.Reading.{fault_at}
use Rattle.rp_packet.specs.Refusals.{first}
use Rattle.rp_packet.specs.Spelling.{packet_bytes}
use Rattle.rp_packet.specs.Streams.{packet_codec}
use Rattle.rp_framing.specs.Framing.{counted}
use Rattle.device_core.specs.Cores.{spelled}
use Rattle.device_turns.specs.Runs.{Taking}
use Rattle.device_turns.specs.Ends.{End, Fault, Goes, IsAtFront, IsTurn, answer_of, core_of, kept_cause, turn_of}

-- an answer of a turn that is a fault
abbrev err : Fault → Result DeviceTurn Fault
err f = Err f

counts : (n : ℕ) → 0 + n ≡ n
counts n = omega arith

sent-bytes : (ps : List Packet) → written (spell packet_codec) (map Valid ps) ≡ spelled ps
sent-bytes [] = refl
sent-bytes (p ∷ ps) = ap (λ rest. packet_bytes p ++ rest) (sent-bytes ps)

unfaulty : {S : Type 0} (c : DeviceEnd S Cause) → c.fault ≡ None → c ≡ record c { fault = None }
unfaulty c is = ap (λ (f : Option (EndFault Cause)). record c { fault = f }) is

module _ {S : Type 0} (d : DeviceModel S) where
  abbrev turn_by : DeviceEnd S Cause → List ℕ → Option (EndFault Cause) → Bool → Option (Taking S × List ℕ)
  turn_by c held kept hello = leaf_turn_by (traffic.device_alone d packet_codec) (fresh_leaf c) held (device_looks c kept hello)

  -- an end that keeps no fault
  clear-core : (e : End S) → e.kept ≡ None → e.clear.fault ≡ None → core_of e ≡ e.clear
  clear-core e kept clear = ap (λ (k : Option Fault). record e.clear { fault = kept_cause k }) kept ∙ sym (unfaulty e.clear clear)

  turn-at : (e : End S) (b : Bool) → e.kept ≡ None → e.clear.session.hello_went ≡ b
      → turn_of d e ≡ turn_by (core_of e) e.held None b
  turn-at e b kept hello =
      ap (λ (k : Option Fault). turn_by (core_of e) e.held (kept_cause k) e.clear.session.hello_went) kept
      ∙ ap (λ (h : Bool). turn_by (core_of e) e.held None h) hello

  answer-at : (e : End S) (b : Bool) → e.kept ≡ None → e.clear.session.hello_went ≡ b
      → answer_of d e ≡ answer_once d (core_of e) None b (option_map (λ r. r.0) (first e.held))
  answer-at e b kept hello =
      ap (λ (k : Option Fault). answer_once d (core_of e) (kept_cause k) e.clear.session.hello_went (option_map (λ r. r.0) (first e.held))) kept
      ∙ ap (λ (h : Bool). answer_once d (core_of e) None h (option_map (λ r. r.0) (first e.held))) hello

  goes-by : (e new : End S) (before after : List ℕ) (r : Taking S × List ℕ) → turn_of d e ≡ Some r
      → Goes (Some r) e new before after → Goes (turn_of d e) e new before after
  goes-by e new before after r is goes =
      subst (λ (o : Option (Taking S × List ℕ)). Goes o e new before after) (sym is) goes

  pub greeted-turn : (e new : End S) (before after : List ℕ) → e.kept ≡ None → e.clear.fault ≡ None
      → e.clear.session.hello_went ≡ false → new.clear ≡ record e.clear { session = hello_sent e.clear.session }
      → new.kept ≡ None → new.held ≡ e.held → new.taken ≡ counted (e.taken + 0)
      → after ≡ before ++ packet_bytes (hello_of e.clear.session) → IsTurn d e new before after (Ok device_turn.Greeted)
  greeted-turn e new before after kept clear hello core new_kept held taken sent =
      let new_clear = ap (λ (c : DeviceEnd S Cause). c.fault) core ∙ clear in
      record {
        answers = sym (answer-at e false kept hello);
        keeps = new_kept;
        goes = goes-by e new before after _ (turn-at e false kept hello) (
          clear-core new new_kept new_clear ∙ core
              ∙ ap (λ (c : DeviceEnd S Cause). record c { session = hello_sent c.session }) (sym (clear-core e kept clear)),
          record { held = λ none. held; taken = λ none. taken },
          sent ∙ ap (λ bs. before ++ bs) (sym (append-nil (packet_bytes (hello_of e.clear.session)))),
        );
        front = λ none. tt;
        quiet = tt;
      }

  hears-at : (e : End S) (m : Decoded Cause) (size : ℕ) → e.kept ≡ None → e.clear.session.hello_went ≡ true
      → first e.held ≡ Some (m, size) → turn_of d e
      ≡ Some (record { core = (device_takes d (core_of e) m).0; taken = 0 + size }, written (spell packet_codec) (map Valid (device_takes d (core_of e) m).1))
  hears-at e m size kept hello front =
      turn-at e true kept hello
      ∙ ap (leaf_after_take (traffic.device_alone d packet_codec) (fresh_leaf (core_of e))) front

  hears-answers : (e : End S) (m : Decoded Cause) (size : ℕ) → e.kept ≡ None → e.clear.session.hello_went ≡ true
      → first e.held ≡ Some (m, size) → answer_of d e ≡ unless_faulty device_turn.Took (device_takes d (core_of e) m).0.fault
  hears-answers e m size kept hello front =
      answer-at e true kept hello
      ∙ ap (λ (o : Option (Decoded Cause × ℕ)). answer_once d (core_of e) None true (option_map (λ r. r.0) o)) front

  pub took-turn : (e new : End S) (p : Packet) (size : ℕ) (before after : List ℕ) → e.kept ≡ None → e.clear.fault ≡ None
      → e.clear.session.hello_went ≡ true → first e.held ≡ Some (Valid p, size)
      → new.clear ≡ (device_takes d e.clear (Valid p)).0 → new.clear.fault ≡ None → new.kept ≡ None
      → new.held ≡ drop size e.held → new.taken ≡ counted (e.taken + size)
      → after ≡ before ++ spelled (device_takes d e.clear (Valid p)).1 → IsTurn d e new before after (Ok device_turn.Took)
  took-turn e new p size before after kept clear hello front core new_clear new_kept held taken sent =
      let same = clear-core e kept clear in
      let takes = ap (λ (c : DeviceEnd S Cause). device_takes d c (Valid p)) (sym same) in
      let now = core ∙ ap (λ r. r.0) takes in
      record {
        answers = sym (hears-answers e (Valid p) size kept hello front
            ∙ ap (unless_faulty device_turn.Took) (ap (λ (c : DeviceEnd S Cause). c.fault) (sym now) ∙ new_clear));
        keeps = new_kept;
        goes = goes-by e new before after _ (hears-at e (Valid p) size kept hello front) (
          clear-core new new_kept new_clear ∙ now,
          record {
            held = λ none. held ∙ ap (λ n. drop n e.held) (sym (counts size));
            taken = λ none. taken ∙ ap (λ n. counted (e.taken + n)) (sym (counts size));
          },
          sent ∙ ap (λ r. before ++ spelled r.1) takes ∙ ap (λ bs. before ++ bs) (sym (sent-bytes (device_takes d (core_of e) (Valid p)).1)),
        );
        front = λ none. (p, size, front);
        quiet = tt;
      }

  some-not : {A : Type 0} (k : Option A) (a : A) → k ≡ Some a → k ≡ None → ⊥
  some-not None a is none = absurd (cc (is))
  some-not (Some b) a is none = absurd (cc (none))

  -- a packet after which the end keeps this fault
  faulted : (e new : End S) (m : Decoded Cause) (size : ℕ) (f : Fault) (before after : List ℕ) → e.kept ≡ None → e.clear.fault ≡ None
      → e.clear.session.hello_went ≡ true → first e.held ≡ Some (m, size) → new.kept ≡ Some f
      → core_of new ≡ (device_takes d e.clear m).0 → (device_takes d e.clear m).1 ≡ [] → after ≡ before
      → IsAtFront e.taken e.held (err f) → IsTurn d e new before after (Err f)
  faulted e new m size f before after kept clear hello front new_kept core nothing quiet placed =
      let same = clear-core e kept clear in
      let takes = ap (λ (c : DeviceEnd S Cause). device_takes d c m) (sym same) in
      let now = core ∙ ap (λ r. r.0) takes in
      record {
        answers = sym (hears-answers e m size kept hello front
            ∙ ap (unless_faulty device_turn.Took) (ap (λ (c : DeviceEnd S Cause). c.fault) (sym now) ∙ ap kept_cause new_kept));
        keeps = new_kept;
        goes = goes-by e new before after _ (hears-at e m size kept hello front) (
          now,
          record { held = λ none. absurd (some-not new.kept f new_kept none); taken = λ none. absurd (some-not new.kept f new_kept none) },
          quiet ∙ sym (append-nil before)
              ∙ ap (λ ps. before ++ written (spell packet_codec) (map Valid ps)) (sym nothing ∙ ap (λ r. r.1) takes),
        );
        front = λ none. placed;
        quiet = quiet;
      }

  pub refused-turn : (e new : End S) (p : Packet) (size : ℕ) (f : SessionFault) (before after : List ℕ) → e.kept ≡ None → e.clear.fault ≡ None
      → e.clear.session.hello_went ≡ true → first e.held ≡ Some (Valid p, size) → new.kept ≡ Some (fault.Session f)
      → record new.clear { fault = Some (fault.Session f) } ≡ (device_takes d e.clear (Valid p)).0
      → (device_takes d e.clear (Valid p)).1 ≡ [] → after ≡ before → IsTurn d e new before after (Err (fault.Session f))
  refused-turn e new p size f before after kept clear hello front new_kept core nothing quiet =
      faulted e new (Valid p) size (fault.Session f) before after kept clear hello front new_kept
      (ap (λ (k : Option Fault). record new.clear { fault = kept_cause k }) new_kept ∙ core) nothing quiet tt

  pub malformed-turn : (e new : End S) (f : PacketFault) (size : ℕ) (before after : List ℕ) → e.kept ≡ None → e.clear.fault ≡ None
      → e.clear.session.hello_went ≡ true → first e.held ≡ Some (Malformed f.cause, size) → f ≡ fault_at e.taken f.cause
      → new.kept ≡ Some (fault.Malformed f) → new.clear ≡ e.clear → after ≡ before
      → IsTurn d e new before after (Err (fault.Malformed f))
  malformed-turn e new f size before after kept clear hello front placed new_kept core quiet =
      faulted e new (Malformed f.cause) size (fault.Malformed f) before after kept clear hello front new_kept
      (ap (λ (k : Option Fault). record new.clear { fault = kept_cause k }) new_kept
      ∙ ap (λ (c : DeviceEnd S Cause). record c { fault = Some (fault.Malformed f.cause) }) core) refl quiet (size, front, placed)

  -- an end that is the same
  pub of-same : (e same new : End S) (before after : List ℕ) (r : Result DeviceTurn Fault) → e ≡ same
      → IsTurn d e new before after r → IsTurn d same new before after r
  of-same e same new before after r is turn = subst (λ x. IsTurn d x new before after r) is turn
