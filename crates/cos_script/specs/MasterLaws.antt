-- The master of a script keeps the laws of masters.
use Rattle.std.specs.Prelude.{◌≡◌, ℕ, zero, suc, ◌^◌, ◌<◌, ◌==◌, Bool, true, false, ◌&&◌, ◌||◌, nat_lt, List, [], ◌∷◌, Option, Some, None, refl}
use Rattle.std.proofs.Common.{arith, sym, inl, inr, subst, ⊎_elim}
use Rattle.std.proofs.Math.Nat.{one-le-pow}
use Rattle.std.proofs.lemmas.Bool.{ltb-true, eqb-true}
use Rattle.cosim_model.specs.declared.values.Bus.{Bus}
use Rattle.cosim_model.specs.Values.{all_on, bits_of}
use Rattle.cosim_model.specs.Parts.{IsMaster, IsAccess, IsSize}
use Rattle.sys_ram.specs.MemoryLaws.{read_of-is, write_of-code}
use Rattle.cos_script.specs.declared.step.ScriptStep.{ScriptStep}
use Rattle.cos_script.specs.declared.step.ScriptStep.TheVariants.{Read, Write, Wait}
use Rattle.cos_script.specs.Lanes.{all_lanes}
use Rattle.cos_script.specs.Steps.{is_size, fits}
use Rattle.cos_script.specs.Masters.{ScriptState, issue_step, issue_first, issue_unit, script_model}

and-both : (a b : Bool) → (a && b) ≡ true → (a ≡ true) × (b ≡ true)
and-both true true e = (refl, refl)
and-both true false e = absurd (cc)
and-both false b e = absurd (cc)

size-is : (n : ℕ) → is_size n ≡ true → IsSize n
size-is n e = by (n == 1) (n == 2) (n == 4) (n == 8) (eqb-true n 1) (eqb-true n 2) (eqb-true n 4) (eqb-true n 8) e
  where
    by : (a b c d : Bool) → (a ≡ true → n ≡ 1) → (b ≡ true → n ≡ 2) → (c ≡ true → n ≡ 4) → (d ≡ true → n ≡ 8) → (a || b || c || d) ≡ true → IsSize n
    by true b c d f g h i e = inl (f refl)
    by false true c d f g h i e = inr (inl (g refl))
    by false false true d f g h i e = inr (inr (inl (h refl)))
    by false false false true f g h i e = inr (inr (inr (i refl)))
    by false false false false f g h i e = absurd (cc)

-- Lanes of an access: below their bound, and all on.
abbrev IsLanes : ℕ → Type 0
IsLanes n = (all_lanes n < 2 ^ n) × (all_on (bits_of (all_lanes n) n) ≡ true)

lanes-are : (n : ℕ) → IsSize n → IsLanes n
lanes-are n s = ⊎_elim
    (λ (e : n ≡ 1). subst (λ k. IsLanes k) (sym e) (omega arith, refl))
    (⊎_elim (λ (e : n ≡ 2). subst (λ k. IsLanes k) (sym e) (omega arith, refl))
    (⊎_elim (λ (e : n ≡ 4). subst (λ k. IsLanes k) (sym e) (omega arith, refl)) (λ (e : n ≡ 8). subst (λ k. IsLanes k) (sym e) (omega arith, refl)))) s

-- What is issued is an access of a port that the machine has.
pub record IsIssue (ports : ℕ) (b : Bus) : Type 0 where
  pub port : b.port < ports
  pub access : IsAccess b.access
  pub lanes : all_on (bits_of b.access.lanes b.access.size) ≡ true

read-issues : (ports port addr size : ℕ) → fits ports (Read port addr size) ≡ true → IsIssue ports (record { port = port; access = record { write = false; posted = false; addr = addr; size = size; value = 0; lanes = all_lanes size } })
read-issues ports port addr size e =
    let one = and-both (nat_lt port ports) (nat_lt addr (2 ^ 64) && is_size size) e in
    let two = and-both (nat_lt addr (2 ^ 64)) (is_size size) one.1 in
    let sized = size-is size two.1 in
    record {
      port = ltb-true port ports one.0;
      access = record { size = sized; addr = ltb-true addr (2 ^ 64) two.0; value = one-le-pow size 256 (omega arith); lanes = (lanes-are size sized).0; posted = λ f. absurd (cc); read = λ f. refl };
      lanes = (lanes-are size sized).1;
    }

write-issues : (ports port addr size value : ℕ) (posted : Bool) → fits ports (Write port addr size value posted) ≡ true → IsIssue ports (record { port = port; access = record { write = true; posted = posted; addr = addr; size = size; value = value; lanes = all_lanes size } })
write-issues ports port addr size value posted e =
    let one = and-both (nat_lt port ports) (nat_lt addr (2 ^ 64) && (is_size size && nat_lt value (256 ^ size))) e in
    let two = and-both (nat_lt addr (2 ^ 64)) (is_size size && nat_lt value (256 ^ size)) one.1 in
    let three = and-both (is_size size) (nat_lt value (256 ^ size)) two.1 in
    let sized = size-is size three.0 in
    record {
      port = ltb-true port ports one.0;
      access = record { size = sized; addr = ltb-true addr (2 ^ 64) two.0; value = ltb-true value (256 ^ size) three.1; lanes = (lanes-are size sized).0; posted = λ f. refl; read = λ f. absurd (cc) };
      lanes = (lanes-are size sized).1;
    }

-- A unit that issues something.

abbrev Issues : ScriptState → Bus → ScriptState × Option Bus → Type 0
Issues m b r = r.1 ≡ Some b → IsIssue m.ports b × (r.0.issued ≡ Some b)

issued-as : (ports : ℕ) (a b : Bus) → IsIssue ports a → Some a ≡ Some b → IsIssue ports b × (Some a ≡ Some b)
issued-as ports a b is e = (let same : a ≡ b = cc in subst (λ x. IsIssue ports x) same is, e)

step-issues : (m : ScriptState) (rest : List ScriptStep) (b : Bus) (step : ScriptStep) (fit : Bool) → fits m.ports step ≡ fit → Issues m b (issue_step m rest fit step)
step-issues m rest b (Wait units) true e f = absurd (cc)
step-issues m rest b (Read port addr size) true e f = issued-as m.ports _ b (read-issues m.ports port addr size e) f
step-issues m rest b (Write port addr size value posted) true e f = issued-as m.ports _ b (write-issues m.ports port addr size value posted e) f
step-issues m rest b step false e f = absurd (cc)

first-issues : (m : ScriptState) (b : Bus) (left : List ScriptStep) → Issues m b (issue_first m left)
first-issues m b [] f = absurd (cc)
first-issues m b (step ∷ rest) f = step-issues m rest b step (fits m.ports step) refl f

unit-issues : (m : ScriptState) (b : Bus) (wait : ℕ) → Issues m b (issue_unit m wait)
unit-issues m b zero f = first-issues m b m.left f
unit-issues m b (suc wait) f = absurd (cc)

-- A unit that issues nothing.

abbrev IsLocal : ScriptState × Option Bus → Type 0
IsLocal r = r.1 ≡ None → r.0.issued ≡ None

step-local : (m : ScriptState) (rest : List ScriptStep) (step : ScriptStep) (fit : Bool) → IsLocal (issue_step m rest fit step)
step-local m rest (Wait units) true f = refl
step-local m rest (Read port addr size) true f = f
step-local m rest (Write port addr size value posted) true f = f
step-local m rest step false f = refl

first-local : (m : ScriptState) (left : List ScriptStep) → IsLocal (issue_first m left)
first-local m [] f = refl
first-local m (step ∷ rest) f = step-local m rest step (fits m.ports step) f

unit-local : (m : ScriptState) (wait : ℕ) → IsLocal (issue_unit m wait)
unit-local m zero f = first-local m m.left f
unit-local m (suc wait) f = refl

-- No unit changes how many ports there are.

step-ports : (m : ScriptState) (rest : List ScriptStep) (step : ScriptStep) (fit : Bool) → (issue_step m rest fit step).0.ports ≡ m.ports
step-ports m rest (Wait units) true = refl
step-ports m rest (Read port addr size) true = refl
step-ports m rest (Write port addr size value posted) true = refl
step-ports m rest step false = refl

first-ports : (m : ScriptState) (left : List ScriptStep) → (issue_first m left).0.ports ≡ m.ports
first-ports m [] = refl
first-ports m (step ∷ rest) = step-ports m rest step (fits m.ports step)

unit-ports : (m : ScriptState) (wait : ℕ) → (issue_unit m wait).0.ports ≡ m.ports
unit-ports m zero = first-ports m m.left
unit-ports m (suc wait) = refl

pub script_lawful : IsMaster script_model
script_lawful = record {
  issue_access = λ m b e. (let is = unit-issues m b m.wait e in (is.0.port, is.0.access, is.1, λ f. is.0.lanes));
  issue_local = λ m e. unit-local m m.wait e;
  finish_issued = λ m x. refl;
  issue_reach = λ m. (let e = unit-ports m m.wait in omega arith);
  issue_full = λ m e. e;
  finish_reach = λ m x. omega arith;
  finish_full = λ m x e. e;
  read_is = λ m addr n. read_of-is m.ram addr n;
  write_is = λ m addr bytes ons. write_of-code m.ram addr bytes ons;
  write_keeps = λ m addr bytes ons. (refl, refl, omega arith, λ e. e);
  line_keeps = λ m number level. (refl, refl, omega arith, λ e. e);
}
