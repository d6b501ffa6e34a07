-- The port whose want comes first, found from the last port on.
use Rattle.std.proofs.Common.{◌≡◌, ℕ, zero, suc, ◌+◌, Bool, true, false, nat_le, if◌then◌else◌, List, [], ◌∷◌, map, Option, Some, None, refl, subst, slice_get}
use Rattle.std.specs.Prelude.{option_map}
use Rattle.cosim_model.specs.declared.values.Want.{Want}
use Rattle.cosim_model.specs.declared.values.Plan.{Plan}
use Rattle.cosim_model.specs.Parts.{DeviceModel, MasterModel}
use Rattle.cosim_model.specs.Order.{least, later, lower}
use Rattle.cosim_model.specs.Direct.{want_time, due_of}
use Rattle.direct_machine.specs.Wants.{wanted_at, first_port}

-- A place counted from another one on.
abbrev pub placed : ℕ → Option (ℕ × ℕ) → Option (ℕ × ℕ)
placed n None = None
placed n (Some r) = Some (n + r.0, r.1)

-- The due time of a want, by the definition of the direct machine.
pub want_time-is : {M S : Type 0} (k : MasterModel M) (d : DeviceModel S) (plan : Plan) (s : S) → want_time k d plan s ≡ wanted_at d s
want_time-is k d plan s = by (d.want s)
  where
    by : (o : Option Want) → due_of k d plan s o ≡ option_map (λ w. d.due s) o
    by None = refl
    by (Some w) = refl

pub want_times-are : {M S : Type 0} (k : MasterModel M) (d : DeviceModel S) (plan : Plan) (ss : List S) → map (want_time k d plan) ss ≡ map (wanted_at d) ss
want_times-are k d plan [] = refl
want_times-are k d plan (s ∷ ss) = (λ i. want_time-is k d plan s i ∷ want_times-are k d plan ss i)

-- The port that is found wants something.

pub record IsWanting {S : Type 0} (d : DeviceModel S) (ss : List S) (port : ℕ) : Type 0 where
  pub device : S
  pub want : Want
  pub there : slice_get ss port ≡ Some device
  pub wants : d.want device ≡ Some want

least-there : (os : List (Option ℕ)) (r : ℕ × ℕ) → least os ≡ Some r → slice_get os r.0 ≡ Some (Some r.1)
least-there [] r e = absurd (cc)
least-there (None ∷ os) r e = by (least os) (least-there os) e
  where
    by : (o : Option (ℕ × ℕ)) → ((q : ℕ × ℕ) → o ≡ Some q → slice_get os q.0 ≡ Some (Some q.1)) → later o ≡ Some r → slice_get (None ∷ os) r.0 ≡ Some (Some r.1)
    by None more f = absurd (cc)
    by (Some q) more f = (let same : (suc q.0, q.1) ≡ r = cc in subst (λ (x : ℕ × ℕ). slice_get (None ∷ os) x.0 ≡ Some (Some x.1)) same (more q refl))
least-there (Some t ∷ os) r e = by (least os) (least-there os) e
  where
    here : Some (0, t) ≡ Some r → slice_get (Some t ∷ os) r.0 ≡ Some (Some r.1)
    here f = (let same : (0, t) ≡ r = cc in subst (λ (x : ℕ × ℕ). slice_get (Some t ∷ os) x.0 ≡ Some (Some x.1)) same refl)

    by : (o : Option (ℕ × ℕ)) → ((q : ℕ × ℕ) → o ≡ Some q → slice_get os q.0 ≡ Some (Some q.1)) → lower t o ≡ Some r → slice_get (Some t ∷ os) r.0 ≡ Some (Some r.1)
    by None more f = here f
    by (Some q) more f = test (nat_le t q.1) f
      where
        test : (b : Bool) → (if b then Some (0, t) else Some (suc q.0, q.1)) ≡ Some r → slice_get (Some t ∷ os) r.0 ≡ Some (Some r.1)
        test true g = here g
        test false g = (let same : (suc q.0, q.1) ≡ r = cc in subst (λ (x : ℕ × ℕ). slice_get (Some t ∷ os) x.0 ≡ Some (Some x.1)) same (more q refl))

want-of : {S : Type 0} (d : DeviceModel S) (s : S) (t : ℕ) → wanted_at d s ≡ Some t → (w : Want) × (d.want s ≡ Some w)
want-of d s t e = by (d.want s) e
  where
    by : (o : Option Want) → option_map (λ w. d.due s) o ≡ Some t → (w : Want) × (o ≡ Some w)
    by None f = absurd (cc)
    by (Some w) f = (w, refl)

wanting-at : {S : Type 0} (d : DeviceModel S) (ss : List S) (port t : ℕ) → slice_get (map (wanted_at d) ss) port ≡ Some (Some t) → IsWanting d ss port
wanting-at d [] port t e = absurd (cc)
wanting-at d (s ∷ ss) zero t e = (let f : wanted_at d s ≡ Some t = cc in let w = want-of d s t f in record { device = s; want = w.0; there = refl; wants = w.1 })
wanting-at d (s ∷ ss) (suc port) t e = (let is = wanting-at d ss port t e in record { device = is.device; want = is.want; there = is.there; wants = is.wants })

pub first-wanting : {S : Type 0} (d : DeviceModel S) (ss : List S) (port : ℕ) → first_port d ss ≡ Some port → IsWanting d ss port
first-wanting d ss port e = by (least (map (wanted_at d) ss)) (least-there (map (wanted_at d) ss)) e
  where
    by : (o : Option (ℕ × ℕ)) → ((q : ℕ × ℕ) → o ≡ Some q → slice_get (map (wanted_at d) ss) q.0 ≡ Some (Some q.1)) → option_map (λ r. r.0) o ≡ Some port → IsWanting d ss port
    by None there f = absurd (cc)
    by (Some q) there f = (let same : q.0 ≡ port = cc in subst (λ p. IsWanting d ss p) same (wanting-at d ss q.0 q.1 (there q refl)))
