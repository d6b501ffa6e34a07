use Rattle.std.proofs.Common.{ℕ, ◌≡◌, List, [], ◌∷◌, ◌++◌, IfSome, refl, sym, ◌∙◌, subst, inr}
use Rattle.std.specs.declared.option.Option.{Option}
use Rattle.std.specs.declared.option.Option.TheVariants.{Some, None}
use Rattle.std.specs.declared.result.Result.TheVariants.{Ok, Err}
use Rattle.cos_base.specs.Links.{Wire}
use Rattle.cos_base.specs.Networks.{Coming, Hands}
use Rattle.outcomes.specs.declared.object.Object.TheVariants as object
use Rattle.outcomes.specs.declared.stop.Stop.TheVariants.{Refused, Outside, NoMemory}
use Rattle.outcomes.specs.Seen.{Seen}
use Rattle.cosim_serve.specs.Talks.{Ended, ResultTalks, TalksFirst, ForFirst}
use Rattle.cosim_serve.specs.Causes.{IsHanded, NetBlames, LinkBlames, Lacks}
use Rattle.cosim_serve.specs.Names.{Handed, Kept, DeviceNames}
use Rattle.cosim_model.specs.Parts.{DeviceModel}
use Rattle.ends_model.specs.DeviceTurn.{DeviceEnd}
use Rattle.rp_packet.specs.declared.fault.Cause.{Cause}

-- a link that was handed out is the first that was to come
pub hands-talk :
    {S L : Type 0} (d : DeviceModel S) (start left : DeviceEnd S Cause) (port : ℕ) (told : L → Option Wire) (old now : Option (Coming L))
    (names : List (List ℕ)) (l : L) (s : Ended) → Hands old now names (Ok l)
    → IfSome (told l) (λ w. ResultTalks d start left port w.said s) → TalksFirst d start left port told old s
hands-talk d start left port told None now names l s hands talks = tt
hands-talk d start left port told (Some t) now names l s (rest, first, is) talks =
    subst (λ ls. ForFirst ls (λ l. IfSome (told l) (λ w. ResultTalks d start left port w.said s))) (sym first) talks

pub hands-handed : {L : Type 0} (old now : Option (Coming L)) (names : List (List ℕ)) (l : L) → Hands old now names (Ok l) → IsHanded old l
hands-handed None now names l hands = tt
hands-handed (Some t) now names l (rest, first, is) = (rest, first)

pub hands-told : {L : Type 0} (old now : Option (Coming L)) (names : List (List ℕ)) (l : L) → Hands old now names (Ok l) → Handed old now names
hands-told None now names l hands = tt
hands-told (Some t) now names l (rest, first, is) = (l, rest, first, is)

-- and so there was one
pub hands-lacks : {L : Type 0} (old now : Option (Coming L)) (names : List (List ℕ)) (l : L) (s : Ended) → Hands old now names (Ok l) → Lacks old s
hands-lacks None now names l s hands = tt
hands-lacks (Some t) now names l s (rest, first, is) = λ none. let bad = sym none ∙ first in absurd (cc)

pub hands-blames : {L : Type 0} (port : ℕ) (count : L → ℕ) (now : ℕ) (net : Seen (Coming L)) (names : List (List ℕ)) (l : L) (s : Ended) → Hands net.old net.new names (Ok l) → net.now ≡ net.before → LinkBlames port (count l) now s → NetBlames port count net s
hands-blames port count now net names l (Err (Outside (object.Link p) n)) hands same blames = (same, blames.0, l, hands-handed net.old net.new names l hands, blames.1)
hands-blames port count now net names l (Ok u) hands same blames = same
hands-blames port count now net names l (Err (Refused r)) hands same blames = same
hands-blames port count now net names l (Err NoMemory) hands same blames = same
hands-blames port count now net names l (Err (Outside object.Net n)) hands same blames = absurd blames
hands-blames port count now net names l (Err (Outside object.Files n)) hands same blames = absurd blames
hands-blames port count now net names l (Err (Outside object.Out n)) hands same blames = absurd blames
hands-blames port count now net names l (Err (Outside object.Spawner n)) hands same blames = absurd blames

pub hands-names : {L : Type 0} (port count after : ℕ) (old now : Option (Coming L)) (socket : List ℕ) (l : L) (s : Ended) → Hands old now (socket ∷ []) (Ok l) → LinkBlames port count after s → DeviceNames old now socket s
hands-names port count after old now socket l (Err (Outside (object.Link p) n)) hands blames = hands-told old now (socket ∷ []) l hands
hands-names port count after old now socket l (Ok u) hands blames = hands-told old now (socket ∷ []) l hands
hands-names port count after old now socket l (Err (Refused r)) hands blames = hands-told old now (socket ∷ []) l hands
hands-names port count after old now socket l (Err NoMemory) hands blames = inr (hands-told old now (socket ∷ []) l hands)
hands-names port count after old now socket l (Err (Outside object.Net n)) hands blames = absurd blames
hands-names port count after old now socket l (Err (Outside object.Files n)) hands blames = absurd blames
hands-names port count after old now socket l (Err (Outside object.Out n)) hands blames = absurd blames
hands-names port count after old now socket l (Err (Outside object.Spawner n)) hands blames = absurd blames
