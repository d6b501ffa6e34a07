-- Where there is no memory for an end, nothing was done, and that is what serving promises then.
use Rattle.std.proofs.Common.{◌≡◌, ℕ, List, [], ◌∷◌, IfSome, inl, sym, ap, subst, Err}
use Rattle.std.specs.Prelude.{Option, Some, None}
use Rattle.std.proofs.lemmas.List.{append-nil}
use Rattle.cos_base.specs.Links.{Wire}
use Rattle.cos_base.specs.Networks.{Coming}
use Rattle.cosim_model.specs.Parts.{DeviceModel}
use Rattle.ends_model.specs.DeviceTurn.{DeviceEnd}
use Rattle.rp_packet.specs.declared.fault.Cause.{Cause}
use Rattle.outcomes.specs.Seen.{Seen}
use Rattle.outcomes.specs.declared.stop.Stop.TheVariants.{NoMemory}
use Rattle.cosim_serve.specs.Causes.{Lacks}
use Rattle.cosim_serve.specs.Names.{Kept}
use Rattle.cosim_serve.specs.Serves.{NetView, Serves}
use Rattle.cosim_serve.specs.Talks.{TalksFirst, ForFirst, ResultTalks, Completes}

kept : {L : Type 0} (o : Option (Coming L)) → Kept o o []
kept None = tt
kept (Some t) = ap (λ names. record { coming = t.coming; names = names }) (sym (append-nil t.names))

lacks : {L : Type 0} (o : Option (Coming L)) → Lacks o (Err NoMemory)
lacks None = tt
lacks (Some t) = λ none. tt

completes : {S L : Type 0} (d : DeviceModel S) (start : DeviceEnd S Cause) (told : L → Option Wire) (o : Option (Coming L))
    → Completes d start told o (Err NoMemory)
completes d start told None = tt
completes d start told (Some t) = λ l rest w coming tells clean. tt

silent : {S : Type 0} (d : DeviceModel S) (start : DeviceEnd S Cause) (port : ℕ) (o : Option Wire)
    → IfSome o (λ w. ResultTalks d start start port w.said (Err NoMemory))
silent d start port None = tt
silent d start port (Some w) = tt

first : {S L : Type 0} (d : DeviceModel S) (start : DeviceEnd S Cause) (port : ℕ) (told : L → Option Wire) (links : List L)
    → ForFirst links (λ l. IfSome (told l) (λ w. ResultTalks d start start port w.said (Err NoMemory)))
first d start port told [] = tt
first d start port told (l ∷ ls) = silent d start port (told l)

talks : {S L : Type 0} (d : DeviceModel S) (start : DeviceEnd S Cause) (port : ℕ) (told : L → Option Wire) (o : Option (Coming L))
    → TalksFirst d start start port told o (Err NoMemory)
talks d start port told None = tt
talks d start port told (Some t) = first d start port told t.coming

pub unserved : {S L : Type 0} (d : DeviceModel S) (start : DeviceEnd S Cause) (port : ℕ) (view : NetView L) (socket : List ℕ)
    (net : Seen (Coming L)) → net.now ≡ net.before → net.new ≡ net.old → Serves d start start port view socket net (Err NoMemory)
unserved d start port view socket net count same = record {
  talks = talks d start port view.told net.old;
  blames = count;
  names = inl (subst (λ o. Kept net.old o []) (sym same) (kept net.old));
  lacks = lacks net.old;
  sound = λ sound. tt;
  complete = λ sound. completes d start view.told net.old;
}
