-- How a served link ends the command, and that Talk has one end.
use Rattle.std.proofs.Common.{ℕ, ◌≡◌, ◌≤◌, true, false, List, [], ◌∷◌, length, drop, IfSome, IsSomeAnd, refl, ap, sym, ◌∙◌, subst, arith, All, get_or, Result, Ok, Err}
use Rattle.std.specs.Prelude.{Option, Some, None}
use Rattle.std.proofs.lemmas.List.Elements.{All-head}
use Rattle.byte_streams.specs.Prefixes.{Grows}
use Rattle.byte_streams.specs.Talks.{talk}
use Rattle.byte_streams.proofs.Prefixes.{IsPrefix-length, IsPrefix-trans}
use Rattle.byte_streams.proofs.Talks.{talk-once, talk-below}
use Rattle.cos_base.specs.Counts.{Rose}
use Rattle.cos_base.specs.Links.{Wire, IsWire}
use Rattle.cos_base.specs.Networks.{Coming, Hands}
use Rattle.cosim_model.specs.declared.session.EndFault.TheVariants as fault
use Rattle.cosim_model.specs.Parts.{DeviceModel}
use Rattle.ends_model.specs.DeviceTurn.{DeviceEnd}
use Rattle.rp_packet.specs.declared.fault.Cause.{Cause}
use Rattle.device_turns.specs.Runs.{Taking, IsWholeRun, out_device}
use Rattle.device_turns.specs.Ends.{Fault, is_clean}
use Rattle.device_turns.specs.RunLaws.{out-grows, whole-same}
use Rattle.end_device.specs.Talk.{EndsSo, TalkEnds, TalkStops, ByTalk, IsByTalk}
use Rattle.end_device.specs.Serving.{ServeCounts, NotLink}
use Rattle.outcomes.specs.declared.stop.Stop.TheVariants.{Refused, Outside, NoMemory}
use Rattle.cosim_serve.specs.declared.refusal.DeviceRefusal.TheVariants.{Peer}
use Rattle.cosim_serve.specs.Talks.{Ended, ResultTalks, OfPeer, DoneOrMemory, TalksCleanly, Completes, served_result}
use Rattle.cosim_serve.specs.Causes.{BlamesSoundly, BlamesNone, LinkBlames}

-- An end that ended well ended in no fault.

unlike : {A : Type 0} (o : Option A) (a : A) → o ≡ None → o ≡ Some a → ⊥
unlike None a none some = cc (some)
unlike (Some b) a none some = cc (none)

clean-once : {S : Type 0} (l : Taking S) (x : List ℕ) (f : Fault) → EndsSo l x (Ok tt) → EndsSo l x (Err f) → ⊥
clean-once l x (fault.Ended n) well bad = let both : true ≡ false = sym well.2 ∙ bad.2 in absurd (cc (both))
clean-once l x (fault.Truncated a b) well bad = let none = ap length well.1 in omega (arith, none, bad.2, bad.3)
clean-once l x (fault.Malformed f) well bad = unlike l.core.fault _ well.0 bad.0
clean-once l x (fault.Session f) well bad = unlike l.core.fault _ well.0 bad
clean-once l x (fault.TooMuch n) well bad = bad
clean-once l x (fault.Link n) well bad = bad
clean-once l x (fault.LateWant a b) well bad = bad
clean-once l x (fault.Astray n) well bad = bad
clean-once l x fault.NoMemory well bad = bad

module _ {S : Type 0} (d : DeviceModel S) (start : DeviceEnd S Cause) where
  clean-faults : (said : List ℕ → List ℕ) (left : DeviceEnd S Cause) (f : Fault) → TalksCleanly d start said
      → TalkEnds d start said left (Err f) → ⊥
  clean-faults said left f clean bad =
      let well = clean.talk in
      let same = talk-once said (out_device d start) well.received bad.received well.talk bad.talk in
      let leaf = whole-same d start bad.received well.leaf bad.leaf well.sent bad.sent
      (subst (λ x. IsWholeRun d start x well.leaf well.sent) same well.whole) bad.whole in
      clean-once bad.leaf bad.received f
      (subst (λ l. EndsSo l bad.received (Ok tt)) leaf (subst (λ x. EndsSo well.leaf x (Ok tt)) same well.ends)) bad.ends

  clean-by : (said : List ℕ → List ℕ) (left : DeviceEnd S Cause) (f : Fault) → Grows said → OfPeer f → TalksCleanly d start said
      → ByTalk d start said left (Err f) → ⊥
  clean-by said left (fault.Ended n) grows peer clean by = clean-faults said left (fault.Ended n) clean by
  clean-by said left (fault.Truncated a b) grows peer clean by = clean-faults said left (fault.Truncated a b) clean by
  clean-by said left (fault.Malformed f) grows peer clean by = clean-faults said left (fault.Malformed f) clean by
  clean-by said left (fault.Session f) grows peer clean by = clean-faults said left (fault.Session f) clean by
  clean-by said left (fault.TooMuch n) grows peer clean by =
      let out = out_device d start in
      let well = clean.talk in
      let within = IsPrefix-length by.received well.received
      (IsPrefix-trans by.received _ well.received by.within
      (talk-below said out by.rounds well.received grows (out-grows d start) well.talk)) in
      let few = clean.few in
      omega (arith, within, by.count, by.much, few)
  clean-by said left (fault.Link n) grows peer clean by = peer
  clean-by said left fault.NoMemory grows peer clean by = peer
  clean-by said left (fault.LateWant a b) grows peer clean by = by
  clean-by said left (fault.Astray n) grows peer clean by = by

  module _ (left : DeviceEnd S Cause) (port : ℕ) where
    -- a sound link with which Talk ends well
    link-done : (said : List ℕ → List ℕ) (s : Ended) → Grows said → BlamesNone s → TalksCleanly d start said
        → ResultTalks d start left port said s → DoneOrMemory s
    link-done said (Ok u) grows sound clean talks = tt
    link-done said (Err NoMemory) grows sound clean talks = tt
    link-done said (Err (Outside o n)) grows sound clean talks = sound
    link-done said (Err (Refused (Peer p f))) grows sound clean talks = clean-by said left f grows talks.1 clean talks.2

    pub link-completes : (told : Option Wire) (w : Wire) (s : Ended) → IfSome told IsWire → told ≡ Some w → BlamesNone s
        → IfSome told (λ v. ResultTalks d start left port v.said s) → TalksCleanly d start w.said → DoneOrMemory s
    link-completes told w s wire is sound talks clean =
        let law : IsWire w = subst (λ o. IfSome o IsWire) is wire in
        let by : ResultTalks d start left port w.said s =
        subst (λ o. IfSome o (λ v. ResultTalks d start left port v.said s)) is talks in
        link-done w.said s law.grows sound clean by

    -- what a served link ends the command with

    talks-of : (said : List ℕ → List ℕ) (r : Result Unit Fault) → ByTalk d start said left r
        → ResultTalks d start left port said (served_result port r)
    talks-of said (Ok u) by = by
    talks-of said (Err (fault.Link n)) by = tt
    talks-of said (Err fault.NoMemory) by = tt
    talks-of said (Err (fault.Ended n)) by = (refl, tt, by)
    talks-of said (Err (fault.Truncated a b)) by = (refl, tt, by)
    talks-of said (Err (fault.Malformed f)) by = (refl, tt, by)
    talks-of said (Err (fault.Session f)) by = (refl, tt, by)
    talks-of said (Err (fault.TooMuch n)) by = (refl, tt, by)
    talks-of said (Err (fault.LateWant a b)) by = (refl, tt, by)
    talks-of said (Err (fault.Astray n)) by = (refl, tt, by)

    talks-told : (told : Option Wire) (r : Result Unit Fault) → IsByTalk d start told left r
        → IfSome told (λ w. ResultTalks d start left port w.said (served_result port r))
    talks-told None r by = tt
    talks-told (Some w) r by = talks-of w.said r by

    pub result-talks : (told : Option Wire) (r : Result Unit Fault) (s : Ended) → s ≡ served_result port r
        → IsByTalk d start told left r → IfSome told (λ w. ResultTalks d start left port w.said s)
    result-talks told r s is by =
        subst (λ x. IfSome told (λ w. ResultTalks d start left port w.said x)) (sym is) (talks-told told r by)

-- the causes

blames-of : (port before now : ℕ) (r : Result Unit Fault) → ServeCounts before now r → LinkBlames port before now (served_result port r)
blames-of port before now (Ok u) counts = tt
blames-of port before now (Err (fault.Link n)) counts = (refl, subst (λ m. Rose before m) (sym counts.1) counts.0.1, counts.1)
blames-of port before now (Err fault.NoMemory) counts = tt
blames-of port before now (Err (fault.Ended n)) counts = tt
blames-of port before now (Err (fault.Truncated a b)) counts = tt
blames-of port before now (Err (fault.Malformed f)) counts = tt
blames-of port before now (Err (fault.Session f)) counts = tt
blames-of port before now (Err (fault.TooMuch n)) counts = tt
blames-of port before now (Err (fault.LateWant a b)) counts = tt
blames-of port before now (Err (fault.Astray n)) counts = tt

sound-of : (port : ℕ) (r : Result Unit Fault) → NotLink r → BlamesNone (served_result port r)
sound-of port (Ok u) s = tt
sound-of port (Err (fault.Link n)) s = s
sound-of port (Err fault.NoMemory) s = tt
sound-of port (Err (fault.Ended n)) s = tt
sound-of port (Err (fault.Truncated a b)) s = tt
sound-of port (Err (fault.Malformed f)) s = tt
sound-of port (Err (fault.Session f)) s = tt
sound-of port (Err (fault.TooMuch n)) s = tt
sound-of port (Err (fault.LateWant a b)) s = tt
sound-of port (Err (fault.Astray n)) s = tt

pub result-blames : (port before now : ℕ) (r : Result Unit Fault) (s : Ended) → s ≡ served_result port r → ServeCounts before now r
    → LinkBlames port before now s
result-blames port before now r s is counts = subst (LinkBlames port before now) (sym is) (blames-of port before now r counts)

pub result-sound : (port : ℕ) (r : Result Unit Fault) (s : Ended) → s ≡ served_result port r → NotLink r → BlamesNone s
result-sound port r s is sound = subst BlamesNone (sym is) (sound-of port r sound)

-- over a network

pub sound-result : {L : Type 0} (old : Option (Coming L)) (s : Ended) → BlamesNone s → BlamesSoundly old s
sound-result old (Err (Outside o n)) sound = absurd sound
sound-result old (Ok u) sound = tt
sound-result old (Err (Refused (Peer port f))) sound = tt
sound-result old (Err NoMemory) sound = tt

-- the links to come of a sound network are sound, the first among them
pub first-sound : {L : Type 0} (sound : L → Type 0) (old now : Option (Coming L)) (names : List (List ℕ)) (l : L) → IsSomeAnd old (λ t. All sound t.coming) → Hands old now names (Ok l) → sound l
first-sound sound None now names l all hands = absurd all
first-sound sound (Some t) now names l all (rest, first, is) = All-head sound l rest (subst (λ ls. All sound ls) first all)

pub heads : {L : Type 0} (l m : L) (xs ys : List L) → l ∷ xs ≡ m ∷ ys → l ≡ m
heads l m xs ys e = ap (λ ls. get_or ls 0 l) e

-- the command is done, by its link
pub hands-completes : {S L : Type 0} (d : DeviceModel S) (start : DeviceEnd S Cause) (told : L → Option Wire) (old now : Option (Coming L)) (names : List (List ℕ)) (l : L) (s : Ended) → Hands old now names (Ok l) → ((w : Wire) → told l ≡ Some w → TalksCleanly d start w.said → DoneOrMemory s) → Completes d start told old s
hands-completes d start told None now names l s hands done = tt
hands-completes d start told (Some t) now names l s (rest, first, is) done = λ m more w coming tells clean.
    let same = heads l m rest more (sym first ∙ coming) in
    done w (ap told same ∙ tells) clean

pub failed-completes : {S L : Type 0} (d : DeviceModel S) (start : DeviceEnd S Cause) (told : L → Option Wire) (old : Option (Coming L)) (s : Ended) → IsSomeAnd old (λ t. t.coming ≡ []) → Completes d start told old s
failed-completes d start told None s none = tt
failed-completes d start told (Some t) s none = λ m more w coming tells clean. let bad = sym none ∙ coming in absurd (cc)
