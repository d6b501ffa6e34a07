-- One read, seen at the end that it was for.
use Rattle.std.proofs.Common.{◌≡◌, ℕ, Bool, true, false, List, [], ◌++◌, refl, sym, ap, ◌∙◌, subst, Result, Ok, Err}
use Rattle.std.specs.Prelude.{Option, Some, None, ◌||◌, is_some, option_map}
use Rattle.std.proofs.lemmas.List.{append-nil}
use Rattle.cos_base.specs.Links.{Wire}
use Rattle.cosim_model.specs.declared.session.EndFault.{EndFault}
use Rattle.cosim_model.specs.Parts.{DeviceModel}
use Rattle.cosim_model.specs.Packets.{Decoded}
use Rattle.ends_model.specs.declared.ends.DeviceTurn.TheVariants as device_turn
use Rattle.ends_model.specs.Answers.{answer_once, unless_faulty}
use Rattle.ends_model.specs.DeviceTurn.{DeviceEnd}
use Rattle.rp_framing.specs.Framing.{Frames, FedAt, Feeds, is_ready}
use Rattle.rp_framing.specs.Receiving as receiving
use Rattle.rp_framing.specs.declared.receiver.Pulled.{Pulled}
use Rattle.rp_framing.specs.declared.receiver.Pulled.TheVariants as pulled
use Rattle.rp_framing.specs.declared.receiver.ReceiveFault.{ReceiveFault}
use Rattle.rp_framing.specs.declared.receiver.ReceiveFault.TheVariants as receive
use Rattle.rp_packet.specs.declared.fault.Cause.{Cause}
use Rattle.rp_packet.specs.Refusals.{first}
use Rattle.device_turns.specs.Ends.{End, IsWaiting, Pulls, core_of, kept_cause}

module _ {S : Type 0} (d : DeviceModel S) where
  unmoved : (f : Option (EndFault Cause)) → unless_faulty device_turn.Took f ≡ Ok device_turn.NotYet → ⊥
  unmoved None is = absurd (cc (is))
  unmoved (Some f) is = absurd (cc (is))

  nothing-whole : (c : DeviceEnd S Cause) (k : Option (EndFault Cause)) (b : Bool) (m : Option (Decoded Cause × ℕ))
      → answer_once d c k b (option_map (λ r. r.0) m) ≡ Ok device_turn.NotYet → m ≡ None
  nothing-whole c k b None is = refl
  nothing-whole c (Some f) b (Some m) is = absurd (cc (is))
  nothing-whole c None false (Some m) is = absurd (cc (is))
  nothing-whole c None true (Some m) is = absurd (unmoved _ is)

  pub waits-unready : (e : End S) (f : Frames) → f.kept ≡ None → e.held ≡ f.held → IsWaiting d e → is_ready f ≡ false
  waits-unready e f kept held waits =
      let none = nothing-whole (core_of e) (kept_cause e.kept) e.clear.session.hello_went (first e.held) waits in
      ap (λ k. is_some k || is_some (first f.held)) kept ∙ ap is_some (ap first (sym held) ∙ none)

fed : (piece : List ℕ) (old new : Frames) → old.kept ≡ None → Feeds piece old new → (new.held ≡ old.held ++ piece) × (new.taken ≡ old.taken)
fed piece old new kept feeds =
    let fed : FedAt None piece old new = subst (λ k. FedAt k piece old new) kept feeds in (fed.0, fed.1)

-- an end that holds what its framer holds
abbrev holding : {S : Type 0} → End S → Frames → End S
holding e f = record e { held = f.held; taken = f.taken }

held-more : {S : Type 0} (e : End S) (old new : Frames) (piece : List ℕ) → old.kept ≡ None → Feeds piece old new
    → holding e new ≡ record (holding e old) { held = old.held ++ piece }
held-more e old new piece kept feeds =
    let is = fed piece old new kept feeds in
    ap (λ h. record e { held = h; taken = new.taken }) is.0 ∙ ap (λ n. record e { held = old.held ++ piece; taken = n }) is.1

held-same : {S : Type 0} (e : End S) (old new : Frames) → old.kept ≡ None → Feeds [] old new → holding e new ≡ holding e old
held-same e old new kept feeds =
    held-more e old new [] kept feeds ∙ ap (λ h. record (holding e old) { held = h }) (append-nil old.held)

pub pulls-end : {S : Type 0} (was now : Option Wire) (e : End S) (old new : Frames) (r : Result Pulled ReceiveFault)
    → old.kept ≡ None → receiving.Pulls was now old new r → Pulls was now (holding e old) (holding e new) r
pulls-end was now e old new (Ok pulled.More) kept pulls =
    (pulls.0, pulls.1, pulls.2, pulls.3, held-more e old new pulls.0 kept pulls.4)
pulls-end was now e old new (Ok pulled.End) kept pulls = (pulls.0, held-same e old new kept pulls.1)
pulls-end was now e old new (Err (receive.Link count)) kept pulls = (pulls.0, held-same e old new kept pulls.1)
pulls-end was now e old new (Err receive.NoMemory) kept pulls = (pulls.0, held-same e old new kept pulls.1)
pulls-end was now e old new (Err (receive.Malformed f)) kept pulls = pulls
pulls-end was now e old new (Err (receive.Truncated rest)) kept pulls = pulls
