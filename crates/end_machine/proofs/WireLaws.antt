-- Links by port, where one of them is changed.
use Rattle.std.proofs.Common.{◌≡◌, ℕ, zero, suc, ◌<◌, Bool, true, false, List, [], ◌∷◌, ◌++◌, length, map, set, refl}
use Rattle.std.proofs.Common.{sym, ap, ◌∙◌, subst, arith}
use Rattle.std.specs.Prelude.{Option, Some, None, nat_eq, if◌then◌else◌, slice_get}
use Rattle.std.proofs.lemmas.Bool.Decides.{nat_tests}
use Rattle.std.proofs.lemmas.List.{append-nil, length-map, length-set, map-set}
use Rattle.std.proofs.lemmas.Option.{none-some, same_Some, slice_get-map}
use Rattle.cos_base.specs.Links.{Wire}
use Rattle.machine_turns.specs.Runs.{Grown, only_at}
use Rattle.end_machine.specs.Wires.{AllTell, received_of, received_on, said_of, said_on, sent_of, sent_on}

pub equal : (p q : ℕ) → nat_eq q p ≡ true → q ≡ p
equal p q is = grind (arith, nat_tests)

pub unequal : (p q : ℕ) → nat_eq q p ≡ false → q ≡ p → ⊥
unequal p q is same = grind (arith, nat_tests)

pub itself : (p : ℕ) → nat_eq p p ≡ true
itself p = grind (arith, nat_tests)

set-here : {A : Type 0} (xs : List A) (p : ℕ) (v w : A) → slice_get xs p ≡ Some w → slice_get (set xs p v) p ≡ Some v
set-here [] p v w e = absurd (none-some w e)
set-here (x ∷ xs) zero v w e = refl
set-here (x ∷ xs) (suc p) v w e = set-here xs p v w e

set-other : {A : Type 0} (xs : List A) (p q : ℕ) (v : A) → (q ≡ p → ⊥) → slice_get (set xs p v) q ≡ slice_get xs q
set-other [] p q v ne = refl
set-other (x ∷ xs) zero zero v ne = absurd (ne refl)
set-other (x ∷ xs) zero (suc q) v ne = refl
set-other (x ∷ xs) (suc p) zero v ne = refl
set-other (x ∷ xs) (suc p) (suc q) v ne = set-other xs p q v (λ is. ne (ap suc is))

set-at : {A : Type 0} (xs : List A) (p q : ℕ) (v w : A) → slice_get xs p ≡ Some w
    → slice_get (set xs p v) q ≡ (if nat_eq q p then Some v else slice_get xs q)
set-at {A} xs p q v w there = by (nat_eq q p) refl
  where
    by : (b : Bool) → nat_eq q p ≡ b → slice_get (set xs p v) q ≡ (if b then Some v else slice_get xs q)
    by true is = ap (slice_get (set xs p v)) (equal p q is) ∙ set-here xs p v w there
    by false is = set-other xs p q v (unequal p q is)

-- what holds of the changed one, and of each as it was, holds of each
pub all-set : {A : Type 0} (P : ℕ → Option A → Type 0) (xs : List A) (p : ℕ) (v w : A) → slice_get xs p ≡ Some w
    → P p (Some v) → ((q : ℕ) → P q (slice_get xs q)) → (q : ℕ) → P q (slice_get (set xs p v) q)
all-set {A} P xs p v w there here each q = subst (P q) (sym (set-at xs p q v w there)) (by (nat_eq q p) refl)
  where
    by : (b : Bool) → nat_eq q p ≡ b → P q (if b then Some v else slice_get xs q)
    by true is = subst (λ i. P i (Some v)) (sym (equal p q is)) here
    by false is = each q

pub set-self : {A : Type 0} (xs : List A) (p : ℕ) (v : A) → slice_get xs p ≡ Some v → set xs p v ≡ xs
set-self [] p v e = refl
set-self (x ∷ xs) zero v e = ap (λ y. y ∷ xs) (sym (same_Some x v e))
set-self (x ∷ xs) (suc p) v e = ap (λ ys. x ∷ ys) (set-self xs p v e)

-- what is asked of a wire that isn't changed in it
same-by : {X : Type 0} (f : Option Wire → X) (ws : List Wire) (p q : ℕ) (w v : Wire) → slice_get ws p ≡ Some w
    → f (Some v) ≡ f (Some w) → f (slice_get (set ws p v) q) ≡ f (slice_get ws q)
same-by f ws p q w v there same = ap f (set-at ws p q v w there) ∙ by (nat_eq q p) refl
  where
    by : (b : Bool) → nat_eq q p ≡ b → f (if b then Some v else slice_get ws q) ≡ f (slice_get ws q)
    by true is = same ∙ ap f (sym there) ∙ ap (λ i. f (slice_get ws i)) (sym (equal p q is))
    by false is = refl

-- bytes that come behind those of one
more-by : (f : Option Wire → List ℕ) (ws : List Wire) (p q : ℕ) (w v : Wire) (bytes : List ℕ) → slice_get ws p ≡ Some w
    → f (Some v) ≡ f (Some w) ++ bytes → f (slice_get (set ws p v) q) ≡ f (slice_get ws q) ++ only_at p bytes q
more-by f ws p q w v bytes there more = ap f (set-at ws p q v w there) ∙ by (nat_eq q p) refl
  where
    by : (b : Bool) → nat_eq q p ≡ b
        → f (if b then Some v else slice_get ws q) ≡ f (slice_get ws q) ++ (if b then bytes else [])
    by true is =
        more ∙ ap (λ o. f o ++ bytes) (sym there) ∙ ap (λ i. f (slice_get ws i) ++ bytes) (sym (equal p q is))
    by false is = sym (append-nil (f (slice_get ws q)))

module _ (ws : List Wire) (p : ℕ) (w : Wire) (bytes : List ℕ) (there : slice_get ws p ≡ Some w) where
  pub read-grows : Grown p bytes (received_on ws) (received_on (set ws p (record w { received = w.received ++ bytes })))
  read-grows q = more-by received_of ws p q w (record w { received = w.received ++ bytes }) bytes there refl

  pub read-sent : (q : ℕ) → sent_on (set ws p (record w { received = w.received ++ bytes })) q ≡ sent_on ws q
  read-sent q = same-by sent_of ws p q w (record w { received = w.received ++ bytes }) there refl

  pub read-said : (q : ℕ) → said_on (set ws p (record w { received = w.received ++ bytes })) q ≡ said_on ws q
  read-said q = same-by said_of ws p q w (record w { received = w.received ++ bytes }) there refl

  pub sent-grows : Grown p bytes (sent_on ws) (sent_on (set ws p (record w { sent = w.sent ++ bytes })))
  sent-grows q = more-by sent_of ws p q w (record w { sent = w.sent ++ bytes }) bytes there refl

  pub sent-received : (q : ℕ) → received_on (set ws p (record w { sent = w.sent ++ bytes })) q ≡ received_on ws q
  sent-received q = same-by received_of ws p q w (record w { sent = w.sent ++ bytes }) there refl

  pub sent-said : (q : ℕ) → said_on (set ws p (record w { sent = w.sent ++ bytes })) q ≡ said_on ws q
  sent-said q = same-by said_of ws p q w (record w { sent = w.sent ++ bytes }) there refl

pub there-some : {A : Type 0} (xs : List A) (p : ℕ) → p < length xs → (x : A) × (slice_get xs p ≡ Some x)
there-some [] p within = absurd (omega arith)
there-some (x ∷ xs) zero within = (x, refl)
there-some (x ∷ xs) (suc p) within = there-some xs p (omega arith)

-- What all links tell.

pub tell-set : (told : List (Option Wire)) (ws : List Wire) (p : ℕ) (v : Wire) → AllTell told ws
    → AllTell (set told p (Some v)) (set ws p v)
tell-set told ws p v tell = ap (λ xs. set xs p (Some v)) tell ∙ sym (map-set (λ w. Some w) ws p v)

pub tell-size : (told : List (Option Wire)) (ws : List Wire) → AllTell told ws → length told ≡ length ws
tell-size told ws tell = ap length tell ∙ length-map ws (λ w. Some w)

somes : (ws : List Wire) (p : ℕ) (o : Option Wire) → slice_get (map (λ w. Some w) ws) p ≡ Some o
    → (w : Wire) × (o ≡ Some w) × (slice_get ws p ≡ Some w)
somes [] p o e = absurd (none-some o e)
somes (w ∷ ws) zero o e = (w, sym (same_Some (Some w) o e), refl)
somes (w ∷ ws) (suc p) o e = somes ws p o e

-- the link of a port tells
pub tell-at : (told : List (Option Wire)) (ws : List Wire) (p : ℕ) (o : Option Wire) → AllTell told ws
    → slice_get told p ≡ Some o → (w : Wire) × (o ≡ Some w) × (slice_get ws p ≡ Some w)
tell-at told ws p o tell there = somes ws p o (ap (λ xs. slice_get xs p) (sym tell) ∙ there)

mapped-some : (ws : List Wire) (p : ℕ) (w : Wire) → slice_get ws p ≡ Some w
    → slice_get (map (λ w. Some w) ws) p ≡ Some (Some w)
mapped-some [] p w e = absurd (none-some w e)
mapped-some (x ∷ ws) zero w e = ap (λ w. Some (Some w)) (same_Some x w e)
mapped-some (x ∷ ws) (suc p) w e = mapped-some ws p w e

pub tell-some : (told : List (Option Wire)) (ws : List Wire) (p : ℕ) (w : Wire) → AllTell told ws
    → slice_get ws p ≡ Some w
    → slice_get told p ≡ Some (Some w)
tell-some told ws p w tell there = ap (λ xs. slice_get xs p) tell ∙ mapped-some ws p w there
