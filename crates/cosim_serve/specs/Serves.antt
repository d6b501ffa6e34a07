-- What serving a device promises: its end served the first link that was to come.
use Rattle.std.specs.Prelude.{ℕ, List, Option}
use Rattle.cos_base.specs.Links.{Wire}
use Rattle.cos_base.specs.Networks.{Coming}
use Rattle.cosim_model.specs.Parts.{DeviceModel}
use Rattle.ends_model.specs.DeviceTurn.{DeviceEnd}
use Rattle.rp_packet.specs.declared.fault.Cause.{Cause}
use Rattle.outcomes.specs.Seen.{Seen}
use Rattle.cosim_serve.specs.Causes.{NetBlames, BlamesSoundly, Lacks}
use Rattle.cosim_serve.specs.Names.{DeviceNames}
use Rattle.cosim_serve.specs.Talks.{Ended, TalksFirst, Completes}

-- what the links of a network tell and count, and whether it is sound
pub record NetView (L : Type 0) : Type 1 where
  pub told : L → Option Wire
  pub count : L → ℕ
  pub is_sound : Type 0

-- By the network before the call and after it. `start` is the fresh end, and `left` what serving left of it.
pub record Serves {S L : Type 0} (d : DeviceModel S) (start left : DeviceEnd S Cause) (port : ℕ) (view : NetView L)
    (socket : List ℕ) (net : Seen (Coming L)) (r : Ended) : Type 0 where
  -- it ends as Talk does with that link
  pub talks : TalksFirst d start left port view.told net.old r
  -- the network or the link is blamed only where its count rose
  pub blames : NetBlames port view.count net r
  -- at every exit the names grew by a beginning of the command's, and one link was handed out at most
  pub names : DeviceNames net.old net.new socket r
  -- where no link was to come, the network is blamed, or memory ran out
  pub lacks : Lacks net.old r
  -- over a sound network it is blamed only there, and no link is
  pub sound : view.is_sound → BlamesSoundly net.old r
  -- over a sound network, where Talk ends well, it is done, or memory ran out
  pub complete : view.is_sound → Completes d start view.told net.old r

-- The device's end was made, and served; or there was no memory for it, and nothing was done.
abbrev pub ServesFresh :
    {S L : Type 0} → DeviceModel S → DeviceEnd S Cause → ℕ → NetView L → List ℕ → Seen (Coming L) → Ended → Type 0
ServesFresh {S} d start port view socket net r =
    (left : DeviceEnd S Cause) × Serves d start left port view socket net r
