-- What a device end says as a peer grows with what it hears, and a link to it is honest.
use Rattle.std.proofs.Common.{◌≡◌, ℕ, Bool, true, false, List, [], ◌++◌, refl, sym, subst}
use Rattle.std.specs.Prelude.{Option, Some, IfSome}
use Rattle.byte_streams.specs.Prefixes.{Grows}
use Rattle.cos_base.specs.Links.{Wire}
use Rattle.cosim_model.specs.Parts.{DeviceModel}
use Rattle.ends_model.specs.DeviceTurn.{DeviceEnd}
use Rattle.rp_packet.specs.declared.fault.Cause.{Cause}
use Rattle.device_turns.specs.Runs.{IsWholeRun, out_device}
use Rattle.device_turns.specs.RunLaws.{ends, out-grows, whole-sends}
use Rattle.device_turns.specs.Ends.{End, HasRun, HasSentAll, RunsOn, core_of, fresh}
use Rattle.device_turns.specs.EndLaws.{run-fresh}
use Rattle.device_peer.specs.Speaking.{Continues, HasSaid, IsHonestLink, SaysAll, Speaker, TakesIn, spoken_by}

module _ {S : Type 0} (d : DeviceModel S) where
  grows-by : (b : Bool) (start : DeviceEnd S Cause) (now : End S) (heard : List ℕ)
      → IfSome (spoken_by d (record { start = start; now = now; heard = heard; telling = b })) (λ s. Grows s.says)
  grows-by true start now heard = out-grows d start
  grows-by false start now heard = tt

  pub spoken-grows : (p : Speaker S) → IfSome (spoken_by d p) (λ s. Grows s.says)
  spoken-grows p = grows-by p.telling p.start p.now p.heard

  -- A fresh end took its turns, before it heard anything.
  pub said-first : (e new first : End S) (heard before said : List ℕ) → first ≡ e → e ≡ fresh e.clear → heard ≡ [] → before ≡ []
      → Continues d e new before said → HasSentAll d new → HasSaid d (core_of first) heard said new
  said-first e new first heard before said same is unheard unsaid turns all =
      let run : HasRun d (core_of e) [] before e =
      subst (λ s. HasRun d (core_of e) [] s e) (sym unsaid)
      (subst (λ (x : End S). HasRun d (core_of x) [] [] x) (sym is) (run-fresh d e.clear)) in
      let ran = turns (core_of e) [] run in
      subst (λ (x : End S). HasSaid d (core_of x) heard said new) (sym same)
      (subst (λ x. HasSaid d (core_of e) x said new) (sym unheard) (record { run = ran; all = all (core_of e) [] said ran }))

  -- Bytes came.
  pub takes-in : (old mid new : End S) (bytes was heard before after : List ℕ) → heard ≡ was ++ bytes → RunsOn d bytes old mid
      → Continues d mid new before after → HasSentAll d new → TakesIn d bytes old new was heard before after
  takes-in old mid new bytes was heard before after is fed turns all = record {
    hears = is;
    says = λ start run.
        let ran = turns start heard (subst (λ x. HasRun d start x before mid) (sym is) (fed start was before run)) in
        record { run = ran; all = all start heard after ran };
  }

  pub says-on : (b : Bool) (start : DeviceEnd S Cause) (old new : End S) (bytes was heard before after : List ℕ)
      → TakesIn d bytes old new was heard before after → SaysAll d b start was before old → SaysAll d b start heard after new
  says-on true start old new bytes was heard before after takes said = takes.says start said.run
  says-on false start old new bytes was heard before after takes said = tt

  -- what a link to one tells is honest
  pub honest-is : (start : DeviceEnd S Cause) (o : Option Wire)
      → o ≡ Some (record { sent = []; received = []; said = out_device d start }) → IsHonestLink d start o
  honest-is start o is = subst (IsHonestLink d start) (sym is) (record {
    sent = refl;
    received = refl;
    runs = λ y.
        let e = ends d start y in
        (e.leaf, subst (λ s. IsWholeRun d start y e.leaf s) (whole-sends d start y e.leaf e.sent e.whole) e.whole);
  })
