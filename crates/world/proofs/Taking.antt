-- Steps that a world took, one after another.
use Rattle.std.proofs.Common.{◌≡◌, ◌⊎◌, inl, inr, ℕ, zero, suc, ◌+◌, List, [], ◌∷◌, ◌++◌, length, map, refl, sym, ap, ◌∙◌, subst, arith, append_assoc, if◌then◌else◌, Bool, Ok}
use Rattle.std.proofs.lemmas.List.{append-nil, map-append}
use Rattle.process_network.specs.Star.{StarStep, star_all, star_effective_steps}
use Rattle.process_network.proofs.CalmRuns.{all_append}
use Rattle.cosim_model.specs.Parts.{DeviceModel, MasterModel}
use Rattle.ends_model.specs.declared.ends.Phase.TheVariants.{Done}
use Rattle.cos_schedules.specs.declared.schedule.Schedule.TheVariants.{Number, Listed}
use Rattle.cos_schedules.specs.declared.step.Step.{Step}
use Rattle.cos_schedules.specs.Beginnings.{ListBegins, RoundsBegin}
use Rattle.cos_schedules.specs.Courses.{Course, Gives, GivesAll}
use Rattle.cos_schedules.specs.Stars.{star_step}
use Rattle.rp_framing.specs.Framing.{counted}
use Rattle.world.specs.Stars.{star}
use Rattle.world.specs.Worlds.{HasTaken, IsRun, IsStepped, TakesOf, WorldValue}
use Rattle.world.proofs.Reaching.{steps-append}

pub no-end : {A : Type 0} (front : List A) (x : A) (back : List A) → [] ≡ front ++ x ∷ back → ⊥
no-end [] x back is = cc (is)
no-end (y ∷ front) x back is = cc (is)

-- Where a list that is put together of two is cut: within the first, or within the second.
pub cut-both : {A : Type 0} (xs ys front : List A) (x : A) (back : List A) → xs ++ ys ≡ front ++ x ∷ back
    → ((rest : List A) × (xs ≡ front ++ x ∷ rest)) ⊎ ((more : List A) × (front ≡ xs ++ more) × (ys ≡ more ++ x ∷ back))
cut-both [] ys front x back is = inr (front, refl, is)
cut-both (a ∷ xs) ys [] x back is = let head : a ≡ x = cc (is) in inl (xs, λ i. head i ∷ xs)
cut-both {A} (a ∷ xs) ys (b ∷ front) x back is =
    let head : a ≡ b = cc (is) in
    let tail : xs ++ ys ≡ front ++ x ∷ back = cc (is) in
    by head (cut-both xs ys front x back tail)
  where
    by : a ≡ b → ((rest : List A) × (xs ≡ front ++ x ∷ rest)) ⊎ ((more : List A) × (front ≡ xs ++ more) × (ys ≡ more ++ x ∷ back))
        → ((rest : List A) × (a ∷ xs ≡ (b ∷ front) ++ x ∷ rest))
        ⊎ ((more : List A) × (b ∷ front ≡ (a ∷ xs) ++ more) × (ys ≡ more ++ x ∷ back))
    by head (inl (rest, same)) = inl (rest, λ i. head i ∷ same i)
    by head (inr (more, same, last)) = inr (more, (λ i. sym head i ∷ same i), last)

counted-both : (a b c n m : ℕ) → b ≡ counted (a + n) → c ≡ counted (b + m) → c ≡ counted (a + (n + m))
counted-both a b c n m first second = omega (arith, first, second)

module _ {M S : Type 0} (k : MasterModel M) (d : DeviceModel S) where
  pub take-none : (w : WorldValue M S) (n : ℕ) → w.effective ≡ counted n → HasTaken k d w w []
  take-none w n small = record {
    now = refl;
    effective = omega (arith, small);
    start = refl;
    unfinished = λ front step back is done. no-end front step back is;
  }

  all-both : (w : _) (xs ys : List Step)
      → star_all (star k d) w (map star_step (xs ++ ys)) ≡ star_all (star k d) (star_all (star k d) w (map star_step xs)) (map star_step ys)
  all-both w xs ys =
      ap (star_all (star k d) w) (map-append star_step xs ys) ∙ all_append (star k d) w (map star_step xs) (map star_step ys)

  effective-both : (w : _) (xs ys : List Step)
      → star_effective_steps (star k d) w (map star_step (xs ++ ys))
      ≡ star_effective_steps (star k d) w (map star_step xs)
      + star_effective_steps (star k d) (star_all (star k d) w (map star_step xs)) (map star_step ys)
  effective-both w xs ys =
      ap (star_effective_steps (star k d) w) (map-append star_step xs ys)
      ∙ steps-append k d w (map star_step xs) (map star_step ys)

  pub take-both : (a b c : WorldValue M S) (xs ys : List Step) → HasTaken k d a b xs → HasTaken k d b c ys
      → HasTaken k d a c (xs ++ ys)
  take-both a b c xs ys first second = record {
    now = second.now ∙ ap (λ w. star_all (star k d) w (map star_step ys)) first.now ∙ sym (all-both a.now xs ys);
    effective =
        let n = star_effective_steps (star k d) a.now (map star_step xs) in
        counted-both a.effective b.effective c.effective n _ first.effective second.effective
        ∙ ap (λ w. counted (a.effective + (n + star_effective_steps (star k d) w (map star_step ys)))) first.now
        ∙ ap (λ m. counted (a.effective + m)) (sym (effective-both a.now xs ys));
    start = second.start ∙ first.start;
    unfinished = λ front step back is done. by front step back done (cut-both xs ys front step back is);
  }
    where
      by : (front : List Step) (step : Step) (back : List Step)
          → (star_all (star k d) a.now (map star_step front)).hub.core.phase ≡ Done
          → ((rest : List Step) × (xs ≡ front ++ step ∷ rest))
          ⊎ ((more : List Step) × (front ≡ xs ++ more) × (ys ≡ more ++ step ∷ back)) → ⊥
      by front step back done (inl (rest, same)) = first.unfinished front step rest same done
      by front step back done (inr (more, same, after)) =
          second.unfinished more step back after
          (ap (λ w. (star_all (star k d) w (map star_step more)).hub.core.phase) first.now
          ∙ ap (λ w. w.hub.core.phase) (sym (all-both a.now xs more))
          ∙ ap (λ l. (star_all (star k d) a.now (map star_step l)).hub.core.phase) (sym same) ∙ done)

  pub take-one : (b c : WorldValue M S) (step : Step) (moved : Bool) → (b.now.hub.core.phase ≡ Done → ⊥)
      → IsStepped k d b c (star_step step) moved → HasTaken k d b c (step ∷ [])
  take-one b c step moved going is = record {
    now = is.now;
    effective = is.effective ∙ ap (λ m. counted (b.effective + m)) (one moved _ is.moved_is);
    start = is.start;
    unfinished = λ front s back same done. going (ap (λ l. (star_all (star k d) b.now (map star_step l)).hub.core.phase)
        (sym (alone front s back same)) ∙ done);
  }
    where
      one : (b c : Bool) → b ≡ c → (if b then 1 else 0) ≡ (if c then 1 else 0) + 0
      one b c same = ap (λ x. if x then 1 else 0) same ∙ (let e : (if c then 1 else 0) ≡ (if c then 1 else 0) + 0 = omega arith in e)

      alone : (front : List Step) (s : Step) (back : List Step) → step ∷ [] ≡ front ++ s ∷ back → front ≡ []
      alone [] s back same = refl
      alone (x ∷ front) s back same =
          absurd (no-end front s back (let tail : [] ≡ front ++ s ∷ back = cc (same) in tail))

-- What a course gave, and a step more.
pub gives-more : (a b c : Course) (steps : List Step) (step : Step) → GivesAll a steps b → Gives b step c
    → GivesAll a (steps ++ step ∷ []) c
gives-more a b c [] step all one = (c, subst (λ x. Gives x step c) (sym all) one, refl)
gives-more a b c (s ∷ steps) step all one = (all.0, all.1, gives-more all.0 b c steps step all.2 one)

-- A list was taken, and then the rounds of number 0.
pub list-and-rounds : {M S : Type 0} (k : MasterModel M) (d : DeviceModel S) (list : List Step) (old mid new : WorldValue M S)
    → TakesOf k d list old mid (Ok tt) → IsRun k d (Number 0) mid new → IsRun k d (Listed list) old new
list-and-rounds {M} {S} k d list old mid new (xs, rest, is, first, ends) (ys, begins, second) =
    (xs ++ ys, by ends ys begins second, take-both k d old mid new xs ys first second)
  where
    by : (rest ≡ []) ⊎ (mid.now.hub.core.phase ≡ Done) → (ys : List Step)
        → RoundsBegin 0 (length mid.start.ports) ys → HasTaken k d mid new ys
        → ListBegins list (length old.start.ports) (xs ++ ys)
    by (inl none) ys begins second =
        let whole : xs ≡ list = sym (append-nil xs) ∙ ap (λ l. xs ++ l) (sym none) ∙ sym is in
        inr (ys, ap (λ l. l ++ ys) whole, subst (λ s. RoundsBegin 0 (length s.ports) ys) first.start begins)
    by (inr done) [] begins second =
        inl (rest, is ∙ ap (λ l. l ++ rest) (sym (append-nil xs)))
    by (inr done) (y ∷ ys) begins second = absurd (second.unfinished [] y ys refl done)
