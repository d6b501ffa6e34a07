-- One read, seen at the end that it was for.
use Rattle.std.proofs.Common.{◌≡◌, ℕ, List, [], map, set, sym, ap, ◌∙◌, Result, Ok, Err}
use Rattle.std.specs.Prelude.{Option, Some, None, ◌||◌, is_some, slice_get, false}
use Rattle.std.proofs.lemmas.List.{append-nil, map-set}
use Rattle.cos_base.specs.Links.{Wire}
use Rattle.process_network.proofs.MovesAtPort.{set_same}
use Rattle.cosim_model.specs.Parts.{MasterModel}
use Rattle.ends_model.specs.MachineTurn.{MachineEnd}
use Rattle.rp_framing.specs.Framing.{Frames, Feeds, is_ready}
use Rattle.rp_framing.specs.Receiving as receiving
use Rattle.rp_framing.specs.declared.receiver.Pulled.{Pulled}
use Rattle.rp_framing.specs.declared.receiver.Pulled.TheVariants as pulled
use Rattle.rp_framing.specs.declared.receiver.ReceiveFault.{ReceiveFault}
use Rattle.rp_framing.specs.declared.receiver.ReceiveFault.TheVariants as receive
use Rattle.rp_packet.specs.declared.fault.Cause.{Cause}
use Rattle.rp_packet.specs.Refusals.{first}
use Rattle.machine_turns.specs.declared.fault.PortFault.{PortFault}
use Rattle.machine_turns.specs.Ends.{End, IsWaiting, Pulls, fed_at, held_at, held_of, received}
use Rattle.machine_turns.specs.EndLaws.{waits-none}
use Rattle.machine_turns.proofs.Turning.{fed-end, fed-framer, held-there, made}

pub waits-unready : {M : Type 0} (k : MasterModel M) (clear : MachineEnd M Cause) (kept : Option PortFault)
    (fs : List Frames) (e : End M) (p : ℕ) (f : Frames) → made clear kept fs ≡ e → slice_get fs p ≡ Some f
    → f.kept ≡ None → IsWaiting k p e → is_ready f ≡ false
waits-unready k clear kept fs e p f view at none waits =
    let held = ap (λ x. first (held_at x p)) view ∙ waits-none k p e waits in
    ap (λ o. is_some o || is_some (first f.held)) none
    ∙ ap (λ o. is_some o) (sym (ap (λ o. first (held_of o)) (held-there fs p f at)) ∙ held)

module _ {M : Type 0} (clear : MachineEnd M Cause) (kept : Option PortFault) (fs : List Frames) (p : ℕ) (f g : Frames)
    (none : kept ≡ None) (at : slice_get fs p ≡ Some f) (open_is : f.kept ≡ None) where
  more-held : (piece : List ℕ) → Feeds piece f g
      → made clear kept (set fs p g) ≡ fed_at None p piece (made clear kept fs)
  more-held piece feeds =
      fed-end clear kept fs p f g piece none at open_is feeds
      ∙ ap (λ (o : Option PortFault). fed_at o p piece (made clear kept fs)) none

  same-held : Feeds [] f g → made clear kept (set fs p g) ≡ made clear kept fs
  same-held feeds =
      let same = fed-framer [] f g open_is feeds ∙ ap (λ h. record { taken = f.taken; held = h }) (append-nil f.held) in
      ap (λ rs. record { clear = clear; kept = kept; ports = rs }) (map-set received fs p g
      ∙ ap (set (map received fs) p) same ∙ set_same (map received fs) p (received f) (held-there fs p f at))

  pub pulls-end : (was now : Option Wire) (r : Result Pulled ReceiveFault) → receiving.Pulls was now f g r
      → Pulls was now p (made clear kept fs) (made clear kept (set fs p g)) r
  pulls-end was now (Ok pulled.More) pulls =
      (pulls.0, pulls.1, pulls.2, pulls.3, more-held pulls.0 pulls.4)
  pulls-end was now (Ok pulled.End) pulls = (pulls.0, same-held pulls.1)
  pulls-end was now (Err (receive.Link count)) pulls = (pulls.0, same-held pulls.1)
  pulls-end was now (Err receive.NoMemory) pulls = (pulls.0, same-held pulls.1)
  pulls-end was now (Err (receive.Malformed f)) pulls = pulls
  pulls-end was now (Err (receive.Truncated rest)) pulls = pulls
