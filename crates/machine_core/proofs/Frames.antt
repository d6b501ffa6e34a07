-- What always holds of a machine end, as its ports change.
use Rattle.std.proofs.Common.{◌≡◌, ◌⊎◌, inl, inr, ℕ, zero, suc, ◌<◌, Bool, true, false, List, [], ◌∷◌, length, map, set, get_or, refl, sym, ap, ◌∙◌, subst, arith}
use Rattle.std.specs.Prelude.{◌&&◌, Some, slice_get}
use Rattle.std.proofs.lemmas.Option.{slice_get_read, slice_get_within}
use Rattle.cosim_model.specs.Parts.{MasterModel}
use Rattle.cosim_model.specs.Values.{all_on}
use Rattle.ends_model.specs.declared.ends.Phase.{Phase}
use Rattle.ends_model.specs.MachineTurn.{Act, PortEnd, MachineEnd, with_wait, is_clear}
use Rattle.rp_packet.specs.declared.fault.Cause.{Cause}
use Rattle.ends_model.specs.declared.ends.Turn.{Turn}
use Rattle.machine_core.specs.Machines.{Core, Does, IsMachine, IsIn, IsPortIn, ArePortsIn}

pub there : {A : Type 0} (xs : List A) (i : ℕ) (x : A) → i < length xs → x ≡ get_or xs i x → slice_get xs i ≡ Some x
there xs i x within is = slice_get_read xs (length xs) i x refl within is

pub only : {A : Type 0} (xs : List A) (i : ℕ) (x y : A) → slice_get xs i ≡ Some x → slice_get xs i ≡ Some y → x ≡ y
only xs i x y one other =
    let both : Some x ≡ Some y = sym one ∙ other in
    cc

-- what stands at a place of a list in which one element was put
pub set-at : {A : Type 0} (xs : List A) (p i : ℕ) (y x : A) → slice_get (set xs p y) i ≡ Some x
    → ((i ≡ p) × (x ≡ y)) ⊎ ((i ≡ p → ⊥) × (slice_get xs i ≡ Some x))
set-at [] p i y x e = absurd (cc)
set-at (z ∷ xs) zero zero y x e = inl (refl, cc)
set-at (z ∷ xs) zero (suc i) y x e = inr (λ same. omega (arith, same), e)
set-at (z ∷ xs) (suc p) zero y x e = inr (λ same. omega (arith, same), e)
set-at (z ∷ xs) (suc p) (suc i) y x e =
    elim (set-at xs p i y x e) as (λ _. ((suc i ≡ suc p) × (x ≡ y)) ⊎ ((suc i ≡ suc p → ⊥) × (slice_get xs i ≡ Some x))) [
      | inl same ↦ inl (ap suc same.0, same.1)
      | inr other ↦ inr (λ same. other.0 (omega (arith, same)), other.1)
    ]

pub set-there : {A : Type 0} (xs : List A) (p : ℕ) (y : A) → p < length xs → slice_get (set xs p y) p ≡ Some y
set-there [] p y within = absurd (omega arith)
set-there (z ∷ xs) zero y within = refl
set-there (z ∷ xs) (suc p) y within = set-there xs p y (omega arith)

pub put-there : {A : Type 0} (xs : List A) (p : ℕ) (y x : A) → slice_get (set xs p y) p ≡ Some x → x ≡ y
put-there xs p y x e = elim (set-at xs p p y x e) as (λ _. x ≡ y) [ inl same ↦ same.1 | inr other ↦ absurd (other.0 refl) ]

pub set-set : {A : Type 0} (xs : List A) (p : ℕ) (y z : A) → set (set xs p y) p z ≡ set xs p z
set-set [] p y z = refl
set-set (x ∷ xs) zero y z = refl
set-set (x ∷ xs) (suc p) y z = ap (λ ws. x ∷ ws) (set-set xs p y z)

-- A port is put, and the others go on in another phase.
pub put-ports : (now next : Phase) (qs : List PortEnd) (p : ℕ) (r : PortEnd) → ArePortsIn now qs
    → ((i : ℕ) (q : PortEnd) → (i ≡ p → ⊥) → i < length qs → IsPortIn now i q → IsPortIn next i q) → IsPortIn next p r
    → ArePortsIn next (set qs p r)
put-ports now next qs p r ports others one i q is =
    elim (set-at qs p i r q is) as (λ _. IsPortIn next i q) [
      | inl same ↦ subst (λ n. IsPortIn next n q) (sym same.0) (subst (λ x. IsPortIn next p x) (sym same.1) one)
      | inr other ↦ others i q other.0 (slice_get_within qs i q other.1) (ports i q other.1)
    ]

pub same-phase : (now : Phase) (qs : List PortEnd) (p : ℕ) (r : PortEnd) → ArePortsIn now qs → IsPortIn now p r
    → ArePortsIn now (set qs p r)
same-phase now qs p r ports one = put-ports now now qs p r ports (λ i q other within is. is) one

pub wait-port : (now : Phase) (p : ℕ) (q r : PortEnd) → r ≡ with_wait q → IsPortIn now p q → IsPortIn now p r
wait-port now p q r is one =
    subst (λ x. IsPortIn now p x) (sym is) (record { greeted = one.greeted; other = one.other; sync = one.sync })

pub wait-ports : (now : Phase) (qs : List PortEnd) (p : ℕ) (q r : PortEnd) → slice_get qs p ≡ Some q → r ≡ with_wait q
    → ArePortsIn now qs → ArePortsIn now (set qs p r)
wait-ports now qs p q r at is ports = same-phase now qs p r ports (wait-port now p q r is (ports p q at))

-- one that is not clear
pub unclear : (qs : List PortEnd) (p : ℕ) (q : PortEnd) → slice_get qs p ≡ Some q → is_clear q ≡ false
    → all_on (map is_clear qs) ≡ false
unclear [] p q at clear = absurd (cc)
unclear (x ∷ qs) zero q at clear =
    let same : x ≡ q = cc in ap (λ b. b && all_on (map is_clear qs)) (ap is_clear same ∙ clear)
unclear (x ∷ qs) (suc p) q at clear = by (is_clear x) (unclear qs p q at clear)
  where
    by : (b : Bool) → all_on (map is_clear qs) ≡ false → b && all_on (map is_clear qs) ≡ false
    by true rest = rest
    by false rest = refl

-- what was done, of an end that is seen so
pub does-seen : {M : Type 0} (act : MachineEnd M Cause → Act M Cause) (h : MachineEnd M Cause) (m : ℕ) (old new : Core M)
    (before after : List ℕ) (t : Turn) → record { end = h; room = m } ≡ old
    → Does (act h) (record { end = h; room = m }) new before after t → Does (act old.end) old new before after t
does-seen {M} act h m old new before after t view does =
    subst (λ (x : Core M). Does (act x.end) x new before after t) view does

module _ {M : Type 0} (k : MasterModel M) where
  pub in-phase : (h : MachineEnd M Cause) (now : Phase) → h.phase ≡ now → IsMachine k h → IsIn k h now
  in-phase h now is machine = subst (λ x. IsIn k h x) is machine.phase

  pub ports-in : (h : MachineEnd M Cause) (now : Phase) → h.phase ≡ now → IsMachine k h → ArePortsIn now h.ports
  ports-in h now is machine = subst (λ x. ArePortsIn x h.ports) is machine.ports

  -- other ports in another phase
  pub with-ports : (h : MachineEnd M Cause) (next : Phase) (qs : List PortEnd) → IsMachine k h
      → length qs ≡ length h.ports → ArePortsIn next qs → IsIn k (record h { phase = next; ports = qs }) next
      → IsMachine k (record h { phase = next; ports = qs })
  with-ports h next qs machine size ports phase =
      let reach = machine.reach in
      let few = machine.few in
      record {
        quantum = machine.quantum;
        ticks = machine.ticks;
        reach = omega (arith, reach, size);
        few = omega (arith, few, size);
        ports = ports;
        phase = phase;
      }
