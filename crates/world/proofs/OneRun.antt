-- A schedule brings a world to one end.
use Rattle.std.proofs.Common.{◌≡◌, ◌⊎◌, inl, inr, ℕ, ◌+◌, List, [], ◌∷◌, ◌++◌, length, map, refl, sym, ap, ◌∙◌, subst, append_assoc}
use Rattle.std.proofs.lemmas.List.{append-nil}
use Rattle.process_network.specs.Star.{star_all, star_effective_steps}
use Rattle.cosim_model.specs.Parts.{DeviceModel, MasterModel}
use Rattle.ends_model.specs.declared.ends.Phase.TheVariants.{Done}
use Rattle.cos_schedules.specs.declared.schedule.Schedule.{Schedule}
use Rattle.cos_schedules.specs.declared.schedule.Schedule.TheVariants.{Number, Listed}
use Rattle.cos_schedules.specs.declared.step.Step.{Step}
use Rattle.cos_schedules.specs.Beginnings.{BeginsWith, ListBegins, RoundsBegin}
use Rattle.cos_schedules.specs.Courses.{Course, Gives, GivesAll, begun}
use Rattle.cos_schedules.specs.Stars.{star_step}
use Rattle.rp_framing.specs.Framing.{counted}
use Rattle.world.specs.Stars.{star}
use Rattle.world.specs.Worlds.{EndsAfter, HasTaken, Start, WorldValue, fresh_world}
use Rattle.world.proofs.Finishing.{gives-course, gives-step}

-- One list is a beginning of the other.
abbrev Compare : List Step → List Step → Type 0
Compare xs ys = ((rest : List Step) × (ys ≡ xs ++ rest)) ⊎ ((rest : List Step) × (xs ≡ ys ++ rest))

behind : (s : Step) (xs ys : List Step) → Compare xs ys → Compare (s ∷ xs) (s ∷ ys)
behind s xs ys (inl (rest, is)) = inl (rest, ap (λ l. s ∷ l) is)
behind s xs ys (inr (rest, is)) = inr (rest, ap (λ l. s ∷ l) is)

behind-all : (list xs ys : List Step) → Compare xs ys → Compare (list ++ xs) (list ++ ys)
behind-all [] xs ys is = is
behind-all (s ∷ list) xs ys is = behind s (list ++ xs) (list ++ ys) (behind-all list xs ys is)

-- two beginnings of one list
beginnings : (list xs ys r q : List Step) → list ≡ xs ++ r → list ≡ ys ++ q → Compare xs ys
beginnings list [] ys r q first second = inl (ys, refl)
beginnings list (x ∷ xs) [] r q first second = inr (x ∷ xs, refl)
beginnings [] (x ∷ xs) (y ∷ ys) r q first second = absurd (cc (first))
beginnings (s ∷ list) (x ∷ xs) (y ∷ ys) r q first second =
    let one : s ≡ x = cc (first) in
    let two : s ≡ y = cc (second) in
    let tail : list ≡ xs ++ r = cc (first) in
    let last : list ≡ ys ++ q = cc (second) in
    subst (λ h. Compare (h ∷ xs) (y ∷ ys)) one
    (subst (λ h. Compare (s ∷ xs) (h ∷ ys)) two (behind s xs ys (beginnings list xs ys r q tail last)))

given : (c a b : Course) (xs ys : List Step) → GivesAll c xs a → GivesAll c ys b → Compare xs ys
given c a b [] ys first second = inl (ys, refl)
given c a b (x ∷ xs) [] first second = inr (x ∷ xs, refl)
given c a b (x ∷ xs) (y ∷ ys) first second =
    let step : y ≡ x = gives-step c y second.0 second.1 ∙ sym (gives-step c x first.0 first.1) in
    let course : second.0 ≡ first.0 = gives-course c y second.0 second.1 ∙ sym (gives-course c x first.0 first.1) in
    subst (λ h. Compare (x ∷ xs) (h ∷ ys)) (sym step)
    (behind x xs ys (given first.0 a b xs ys first.2 (subst (λ m. GivesAll m ys b) course second.2)))

rounds : (number ports : ℕ) (xs ys : List Step) → RoundsBegin number ports xs → RoundsBegin number ports ys → Compare xs ys
rounds number ports xs ys first second = given _ first.0 second.0 xs ys first.1 second.1

listed : (list : List Step) (ports : ℕ) (xs ys : List Step) → ListBegins list ports xs → ListBegins list ports ys → Compare xs ys
listed list ports xs ys (inl (r, is)) (inl (q, at)) = beginnings list xs ys r q is at
listed list ports xs ys (inl (r, is)) (inr (more, at, begins)) =
    inl (r ++ more, at ∙ ap (λ l. l ++ more) is ∙ append_assoc xs r more)
listed list ports xs ys (inr (more, at, begins)) (inl (r, is)) =
    inr (r ++ more, at ∙ ap (λ l. l ++ more) is ∙ append_assoc ys r more)
listed list ports xs ys (inr (more, at, begins)) (inr (other, is, also)) =
    subst (λ l. Compare l ys) (sym at)
    (subst (λ l. Compare (list ++ more) l) (sym is) (behind-all list more other (rounds 0 ports more other begins also)))

compare : (schedule : Schedule) (ports : ℕ) (xs ys : List Step) → BeginsWith schedule ports xs
    → BeginsWith schedule ports ys → Compare xs ys
compare (Number number) ports xs ys first second = rounds number ports xs ys first second
compare (Listed list) ports xs ys first second = listed list ports xs ys first second

module _ {M S : Type 0} (k : MasterModel M) (d : DeviceModel S) where
  -- Steps behind others that lead to the end aren't taken.
  same-steps : (old a b : WorldValue M S) (xs ys rest : List Step) → HasTaken k d old a xs → HasTaken k d old b ys
      → a.now.hub.core.phase ≡ Done → ys ≡ xs ++ rest → xs ≡ ys
  same-steps old a b xs ys [] first second done is = sym (is ∙ append-nil xs)
  same-steps old a b xs ys (s ∷ rest) first second done is =
      absurd (second.unfinished xs s rest is (ap (λ w. w.hub.core.phase) (sym first.now) ∙ done))

  one-by : (old a b : WorldValue M S) (xs ys : List Step) → Compare xs ys → HasTaken k d old a xs
      → HasTaken k d old b ys → a.now.hub.core.phase ≡ Done → b.now.hub.core.phase ≡ Done → xs ≡ ys
  one-by old a b xs ys (inl (rest, is)) first second done ended = same-steps old a b xs ys rest first second done is
  one-by old a b xs ys (inr (rest, is)) first second done ended =
      sym (same-steps old b a ys xs rest second first ended is)

  pub one-end : (schedule : Schedule) (s : Start M S) (n m : ℕ) → EndsAfter k d schedule s n → EndsAfter k d schedule s m
      → n ≡ m
  one-end schedule s n m (a, (xs, begins, first), done, counts) (b, (ys, also, second), ended, count) =
      let same = one-by _ a b xs ys (compare schedule (length s.ports) xs ys begins also) first second done ended in
      sym counts ∙ first.effective
      ∙ ap (λ l. counted (0 + star_effective_steps (star k d) (fresh_world k d s).now (map star_step l))) same ∙ sym second.effective ∙ count
