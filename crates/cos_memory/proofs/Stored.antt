use Rattle.std.proofs.Common.{◌≡◌, ℕ, ◌<◌, List, [], ◌∷◌, ◌++◌, length, Bool, true, false, cond, refl, sym, ◌∙◌, ap, subst, arith, string_bytes, get_or, set, nat_lt, suc, zero}
use Rattle.std.proofs.lemmas.List.Quantifiers.{position-Some}
use Rattle.std.proofs.lemmas.List.Sums.{fails_before_first}
use Rattle.std.proofs.lemmas.Bool.{ltb-false}
use Rattle.std.proofs.lemmas.Slice.Eq.{bytes_eq-Decides}
use Rattle.std.specs.List.{position, position_or_len}
use Rattle.std.specs.declared.option.Option.TheVariants.{Some, None}
use Rattle.cos_memory.specs.declared.mem_files.MemFile.{MemFile}
use Rattle.cos_base.specs.Stores.{IsWith}
use Rattle.cos_memory.specs.MemStores.{is_named, store_of}

-- no file up to a place has this name
abbrev pub NoneBefore : List ℕ → List MemFile → MemFile → ℕ → Type 0
NoneBefore name fs d n = (k : ℕ) → k < n → is_named name (get_or fs k d) ≡ false

-- the first file of a name is the one that is told
pub store-at : (name : List ℕ) (fs : List MemFile) (i : ℕ) (d : MemFile) → i < length fs → is_named name (get_or fs i d) ≡ true → NoneBefore name fs d i → store_of fs name ≡ Some (get_or fs i d).bytes.bytes
store-at name [] i d small hit before = absurd (omega (arith, small))
store-at name (f ∷ fs) zero d small hit before = ap (λ b. cond b (Some f.bytes.bytes) (store_of fs name)) hit
store-at name (f ∷ fs) (suc i) d small hit before =
    ap (λ b. cond b (Some f.bytes.bytes) (store_of fs name)) (before 0 (omega arith))
    ∙ store-at name fs i d (omega (arith, small)) hit (λ k less. before (suc k) (omega (arith, less)))

pub store-none : (name : List ℕ) (fs : List MemFile) (d : MemFile) → NoneBefore name fs d (length fs) → store_of fs name ≡ None
store-none name [] d before = refl
store-none name (f ∷ fs) d before =
    ap (λ b. cond b (Some f.bytes.bytes) (store_of fs name)) (before 0 (omega arith))
    ∙ store-none name fs d (λ k less. before (suc k) (omega (arith, less)))

pub named-same : (name : List ℕ) (f : MemFile) → is_named name f ≡ true → string_bytes f.name ≡ name
named-same name f e = (bytes_eq-Decides (string_bytes f.name) name).0 e

pub named-by : (name : List ℕ) (f : MemFile) → string_bytes f.name ≡ name → is_named name f ≡ true
named-by name f e = (bytes_eq-Decides (string_bytes f.name) name).1 e

-- a file that doesn't have this name has another
pub other-name : (b : Bool) (name other : List ℕ) (f : MemFile) → is_named other f ≡ b → (other ≡ name → ⊥) → string_bytes f.name ≡ name → b ≡ false
other-name true name other f e differs is = absurd (differs (sym (named-same other f e) ∙ is))
other-name false name other f e differs is = refl

-- what setting a file in the place of the first of its name does
pub set-here : (name : List ℕ) (fs : List MemFile) (i : ℕ) (d g : MemFile) → i < length fs → NoneBefore name fs d i → string_bytes g.name ≡ name → store_of (set fs i g) name ≡ Some g.bytes.bytes
set-here name [] i d g small before is = absurd (omega (arith, small))
set-here name (f ∷ fs) zero d g small before is = ap (λ b. cond b (Some g.bytes.bytes) (store_of fs name)) (named-by name g is)
set-here name (f ∷ fs) (suc i) d g small before is =
    ap (λ b. cond b (Some f.bytes.bytes) (store_of (set fs i g) name)) (before 0 (omega arith))
    ∙ set-here name fs i d g (omega (arith, small)) (λ k less. before (suc k) (omega (arith, less))) is

pub set-others : (name : List ℕ) (fs : List MemFile) (i : ℕ) (d g : MemFile) (other : List ℕ) → i < length fs → is_named name (get_or fs i d) ≡ true → string_bytes g.name ≡ name → (other ≡ name → ⊥) → store_of (set fs i g) other ≡ store_of fs other
set-others name [] i d g other small hit is differs = absurd (omega (arith, small))
set-others name (f ∷ fs) zero d g other small hit is differs =
    ap (λ b. cond b (Some g.bytes.bytes) (store_of fs other)) (other-name (is_named other g) name other g refl differs is)
    ∙ sym (ap (λ b. cond b (Some f.bytes.bytes) (store_of fs other)) (other-name (is_named other f) name other f refl differs (named-same name f hit)))
set-others name (f ∷ fs) (suc i) d g other small hit is differs =
    ap (λ s. cond (is_named other f) (Some f.bytes.bytes) s) (set-others name fs i d g other (omega (arith, small)) hit is differs)

-- what adding a file behind those that don't have its name does
pub add-here : (name : List ℕ) (fs : List MemFile) (d g : MemFile) → NoneBefore name fs d (length fs) → string_bytes g.name ≡ name → store_of (fs ++ g ∷ []) name ≡ Some g.bytes.bytes
add-here name [] d g before is = ap (λ b. cond b (Some g.bytes.bytes) None) (named-by name g is)
add-here name (f ∷ fs) d g before is =
    ap (λ b. cond b (Some f.bytes.bytes) (store_of (fs ++ g ∷ []) name)) (before 0 (omega arith))
    ∙ add-here name fs d g (λ k less. before (suc k) (omega (arith, less))) is

pub add-others : (name : List ℕ) (fs : List MemFile) (g : MemFile) (other : List ℕ) → string_bytes g.name ≡ name → (other ≡ name → ⊥) → store_of (fs ++ g ∷ []) other ≡ store_of fs other
add-others name [] g other is differs = ap (λ b. cond b (Some g.bytes.bytes) None) (other-name (is_named other g) name other g refl differs is)
add-others name (f ∷ fs) g other is differs = ap (λ s. cond (is_named other f) (Some f.bytes.bytes) s) (add-others name fs g other is differs)

pub none-false : {X : Type 0} (b : Bool) (a : X) → cond b (Some a) None ≡ None → b ≡ false
none-false true a e = absurd (cc)
none-false false a e = refl

-- where no file of the name has a place, none has the name
pub position-none : (name : List ℕ) (fs : List MemFile) (d : MemFile) → position (is_named name) fs ≡ None → NoneBefore name fs d (length fs)
position-none name fs d e = λ k less.
    let first = position_or_len (is_named name) fs in
    let no = none-false (nat_lt first (length fs)) first e in
    fails_before_first (is_named name) fs k d (let behind = ltb-false first (length fs) no in omega (arith, behind, less))

-- by the place of a name
pub read-at : (name : List ℕ) (fs : List MemFile) (i : ℕ) (d : MemFile) → position (is_named name) fs ≡ Some i → store_of fs name ≡ Some (get_or fs i d).bytes.bytes
read-at name fs i d e = let p = position-Some (is_named name) fs i d e in store-at name fs i d p.0 p.1 p.2

pub read-none : (name : List ℕ) (fs : List MemFile) → position (is_named name) fs ≡ None → store_of fs name ≡ None
read-none name [] e = refl
read-none name (f ∷ fs) e = store-none name (f ∷ fs) f (position-none name (f ∷ fs) f e)

pub set-with : (name : List ℕ) (fs : List MemFile) (i : ℕ) (g : MemFile) → string_bytes g.name ≡ name → position (is_named name) fs ≡ Some i → IsWith (store_of fs) (string_bytes g.name) g.bytes.bytes (store_of (set fs i g))
set-with name fs i g is e = let p = position-Some (is_named name) fs i g e in subst (λ n. IsWith (store_of fs) n g.bytes.bytes (store_of (set fs i g))) (sym is) (record {
  here = set-here name fs i g g p.0 p.2 is;
  others = λ other differs. set-others name fs i g g other p.0 p.1 is differs;
})

pub add-with : (name : List ℕ) (fs : List MemFile) (g : MemFile) → string_bytes g.name ≡ name → position (is_named name) fs ≡ None → IsWith (store_of fs) (string_bytes g.name) g.bytes.bytes (store_of (fs ++ g ∷ []))
add-with name fs g is e = subst (λ n. IsWith (store_of fs) n g.bytes.bytes (store_of (fs ++ g ∷ []))) (sym is) (record {
  here = add-here name fs g g (position-none name fs g e) is;
  others = λ other differs. add-others name fs g other is differs;
})
