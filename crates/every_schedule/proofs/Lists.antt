-- Lists whose elements are mapped.
use Rattle.std.proofs.Common.{◌≡◌, ℕ, zero, suc, ◌<◌, Bool, true, false, ◌&&◌, List, [], ◌∷◌, ◌++◌, length, set, map, Option, Some, None, slice_get, refl, sym, ap, ap₂, ◌∙◌, subst, arith}
use Rattle.std.proofs.lemmas.Option.{none-some, same_Some}
use Rattle.std.proofs.lemmas.Bool.{and_right}
use Rattle.std.specs.Prelude.{option_map, nat_le, if◌then◌else◌}
use Rattle.cosim_model.specs.Values.{all_on}
use Rattle.ends_model.specs.MachineTurn.{or_first, first_true, later, lower, least}

pub map_both : {A B C : Type 0} (f : B → C) (g : A → B) (h : A → C) → ((x : A) → f (g x) ≡ h x) → (xs : List A) → map f (map g xs) ≡ map h xs
map_both f g h same [] = refl
map_both f g h same (x ∷ xs) = ap₂ ◌∷◌ (same x) (map_both f g h same xs)

pub get_mid : {A : Type 0} (xs ys : List A) (y : A) → slice_get (xs ++ y ∷ ys) (length xs) ≡ Some y
get_mid [] ys y = refl
get_mid (x ∷ xs) ys y = get_mid xs ys y

pub set_mid : {A : Type 0} (xs ys : List A) (y z : A) → set (xs ++ y ∷ ys) (length xs) z ≡ xs ++ z ∷ ys
set_mid [] ys y z = refl
set_mid (x ∷ xs) ys y z = ap (λ t. x ∷ t) (set_mid xs ys y z)

pub unmapped : {A B : Type 0} (f : A → B) (xs : List A) (p : ℕ) (y : B) → slice_get (map f xs) p ≡ Some y → (x : A) × (slice_get xs p ≡ Some x) × (f x ≡ y)
unmapped f [] p y e = absurd (none-some y e)
unmapped f (x ∷ xs) zero y e = (x, refl, same_Some (f x) y e)
unmapped f (x ∷ xs) (suc p) y e = unmapped f xs p y e

pub get_mapped : {A B : Type 0} (f : A → B) (xs : List A) (p : ℕ) (q : A) → slice_get xs p ≡ Some q → slice_get (map f xs) p ≡ Some (f q)
get_mapped f [] p q e = absurd (none-some q e)
get_mapped f (x ∷ xs) zero q e = ap (λ t. Some (f t)) (same_Some x q e)
get_mapped f (x ∷ xs) (suc p) q e = get_mapped f xs p q e

-- one that is off
pub off_mid : {A : Type 0} (f : A → Bool) (xs ys : List A) (y : A) → f y ≡ false → all_on (map f (xs ++ y ∷ ys)) ≡ false
off_mid f [] ys y e = ap (λ b. b && all_on (map f ys)) e
off_mid f (x ∷ xs) ys y e = and_right (f x) (all_on (map f (xs ++ y ∷ ys))) (off_mid f xs ys y e)

pub off_at : {A : Type 0} (f : A → Bool) (xs : List A) (p : ℕ) (y : A) → slice_get xs p ≡ Some y → f y ≡ false → all_on (map f xs) ≡ false
off_at f [] p y s e = absurd (none-some y s)
off_at f (x ∷ xs) zero y s e = ap (λ b. b && all_on (map f xs)) (ap f (same_Some x y s) ∙ e)
off_at f (x ∷ xs) (suc p) y s e = and_right (f x) (all_on (map f xs)) (off_at f xs p y s e)

abbrev pub Each : {A : Type 0} → (A → Type 0) → List A → Type 0
Each P [] = Unit {0}
Each P (x ∷ xs) = P x × Each P xs

pub each_at : {A : Type 0} (P : A → Type 0) (xs : List A) (p : ℕ) (x : A) → Each P xs → slice_get xs p ≡ Some x → P x
each_at P [] p x a e = absurd (none-some x e)
each_at P (y ∷ ys) zero x a e = subst P (same_Some y x e) a.0
each_at P (y ∷ ys) (suc p) x a e = each_at P ys p x a.1 e

pub each_set : {A : Type 0} (P : A → Type 0) (xs : List A) (p : ℕ) (x : A) → Each P xs → P x → Each P (set xs p x)
each_set P [] p x a b = a
each_set P (y ∷ ys) zero x a b = (b, a.1)
each_set P (y ∷ ys) (suc p) x a b = (a.0, each_set P ys p x a.1 b)

pub each_map : {A B : Type 0} (P : A → Type 0) (Q : B → Type 0) (f : A → B) → ((x : A) → P x → Q (f x)) → (xs : List A) → Each P xs → Each Q (map f xs)
each_map P Q f go [] a = a
each_map P Q f go (x ∷ xs) a = (go x a.0, each_map P Q f go xs a.1)

-- The first place that is true.

pub first_mid : {A : Type 0} (f : A → Bool) (xs ys : List A) (y : A) → Each (λ x. f x ≡ false) xs → f y ≡ true → first_true (map f (xs ++ y ∷ ys)) ≡ Some (length xs)
first_mid f [] ys y all e = ap (λ b. or_first b (first_true (map f ys))) e
first_mid f (x ∷ xs) ys y all e = ap (λ b. or_first b (first_true (map f (xs ++ y ∷ ys)))) all.0 ∙ ap (option_map suc) (first_mid f xs ys y all.1 e)

pub first_set : {A : Type 0} (f : A → Bool) (xs : List A) (p : ℕ) (y : A) → p < length xs → Each (λ x. f x ≡ false) xs → f y ≡ true → first_true (map f (set xs p y)) ≡ Some p
first_set f [] p y l all e = absurd (omega arith)
first_set f (x ∷ xs) zero y l all e = ap (λ b. or_first b (first_true (map f xs))) e
first_set f (x ∷ xs) (suc p) y l all e = ap (λ b. or_first b (first_true (map f (set xs p y)))) all.0 ∙ ap (option_map suc) (first_set f xs p y (omega arith) all.1 e)

pub first_none : {A : Type 0} (f : A → Bool) (xs : List A) → Each (λ x. f x ≡ false) xs → first_true (map f xs) ≡ None
first_none f [] all = refl
first_none f (x ∷ xs) all = ap (λ b. or_first b (first_true (map f xs))) all.0 ∙ ap (option_map suc) (first_none f xs all.1)

pub all_clear : {A : Type 0} (f : A → Bool) (xs : List A) → Each (λ x. f x ≡ true) xs → all_on (map f xs) ≡ true
all_clear f [] all = refl
all_clear f (x ∷ xs) all = ap (λ b. b && all_on (map f xs)) all.0 ∙ all_clear f xs all.1

pub map_each : {A B : Type 0} (f g : A → B) (xs : List A) → Each (λ x. f x ≡ g x) xs → map f xs ≡ map g xs
map_each f g [] all = refl
map_each f g (x ∷ xs) all = ap₂ ◌∷◌ all.0 (map_each f g xs all.1)

pub each_to : {A : Type 0} (P Q : A → Type 0) → ((x : A) → P x → Q x) → (xs : List A) → Each P xs → Each Q xs
each_to P Q go [] a = a
each_to P Q go (x ∷ xs) a = (go x a.0, each_to P Q go xs a.1)

pub each_append : {A : Type 0} (P : A → Type 0) (xs ys : List A) → Each P xs → Each P ys → Each P (xs ++ ys)
each_append P [] ys a b = b
each_append P (x ∷ xs) ys a b = (a.0, each_append P xs ys a.1 b)

-- Where the least number stands.

pub least_stands : {A : Type 0} (f : A → Option ℕ) (xs : List A) (r : ℕ × ℕ) → least (map f xs) ≡ Some r → (x : A) × (slice_get xs r.0 ≡ Some x) × (f x ≡ Some r.1)
least_stands {A} f [] r e = absurd (none-some r e)
least_stands {A} f (x ∷ xs) r e = go (f x) refl (least (map f xs)) refl e (least_stands f xs)
  where
    further : (q : ℕ × ℕ) → (suc q.0, q.1) ≡ r → (y : A) × (slice_get xs q.0 ≡ Some y) × (f y ≡ Some q.1) → (y : A) × (slice_get (x ∷ xs) r.0 ≡ Some y) × (f y ≡ Some r.1)
    further q s h = subst (λ (r : ℕ × ℕ). (y : A) × (slice_get (x ∷ xs) r.0 ≡ Some y) × (f y ≡ Some r.1)) s (h.0, h.1, h.2)

    choose : (t : ℕ) (q : ℕ × ℕ) → f x ≡ Some t → ((y : A) × (slice_get xs q.0 ≡ Some y) × (f y ≡ Some q.1)) → (b : Bool) → (if b then Some (0, t) else Some (suc q.0, q.1)) ≡ Some r → (y : A) × (slice_get (x ∷ xs) r.0 ≡ Some y) × (f y ≡ Some r.1)
    choose t q g h true s = subst (λ (r : ℕ × ℕ). (y : A) × (slice_get (x ∷ xs) r.0 ≡ Some y) × (f y ≡ Some r.1)) (same_Some (0, t) r s) (x, refl, g)
    choose t q g h false s = further q (same_Some (suc q.0, q.1) r s) h

    go : (o : Option ℕ) → f x ≡ o → (l : Option (ℕ × ℕ)) → least (map f xs) ≡ l → least (f x ∷ map f xs) ≡ Some r → ((r : ℕ × ℕ) → least (map f xs) ≡ Some r → (y : A) × (slice_get xs r.0 ≡ Some y) × (f y ≡ Some r.1)) → (y : A) × (slice_get (x ∷ xs) r.0 ≡ Some y) × (f y ≡ Some r.1)
    go None g None h s ih = absurd (none-some {A = ℕ × ℕ} r (sym (ap (λ o. least (o ∷ map f xs)) g ∙ ap later h) ∙ s))
    go None g (Some q) h s ih = further q (same_Some (suc q.0, q.1) r (sym (ap (λ o. least (o ∷ map f xs)) g ∙ ap later h) ∙ s)) (ih q h)
    go (Some t) g None h s ih = subst (λ (r : ℕ × ℕ). (y : A) × (slice_get (x ∷ xs) r.0 ≡ Some y) × (f y ≡ Some r.1)) (same_Some (0, t) r (sym (ap (λ o. least (o ∷ map f xs)) g ∙ ap (lower t) h) ∙ s)) (x, refl, g)
    go (Some t) g (Some q) h s ih = choose t q g (ih q h) (nat_le t q.1) (sym (ap (λ o. least (o ∷ map f xs)) g ∙ ap (lower t) h) ∙ s)

pub least_none : {A : Type 0} (f : A → Option ℕ) (xs : List A) → least (map f xs) ≡ None → Each (λ x. f x ≡ None) xs
least_none f [] e = tt
least_none {A} f (x ∷ xs) e = go (f x) refl (least (map f xs)) refl e (least_none f xs)
  where
    chosen : (t : ℕ) (q : ℕ × ℕ) (b : Bool) → ◌≡◌ {A = Option (ℕ × ℕ)} (if b then Some (0, t) else Some (suc q.0, q.1)) None → ⊥
    chosen t q true s = none-some {A = ℕ × ℕ} (0, t) (sym s)
    chosen t q false s = none-some {A = ℕ × ℕ} (suc q.0, q.1) (sym s)

    go : (o : Option ℕ) → f x ≡ o → (l : Option (ℕ × ℕ)) → least (map f xs) ≡ l → least (f x ∷ map f xs) ≡ None → (least (map f xs) ≡ None → Each (λ x. f x ≡ None) xs) → (f x ≡ None) × Each (λ x. f x ≡ None) xs
    go None g None h s ih = (g, ih h)
    go None g (Some q) h s ih = absurd (none-some {A = ℕ × ℕ} (suc q.0, q.1) (sym (sym (ap (λ o. least (o ∷ map f xs)) g ∙ ap later h) ∙ s)))
    go (Some t) g None h s ih = absurd (none-some {A = ℕ × ℕ} (0, t) (sym (sym (ap (λ o. least (o ∷ map f xs)) g ∙ ap (lower t) h) ∙ s)))
    go (Some t) g (Some q) h s ih = absurd (chosen t q (nat_le t q.1) (sym (ap (λ o. least (o ∷ map f xs)) g ∙ ap (lower t) h) ∙ s))
