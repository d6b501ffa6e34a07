-- Files that are written one by one.
use Rattle.std.proofs.Common.{ℕ, ◌≡◌, Bool, true, false, List, [], ◌∷◌, ◌++◌, IfSome, IsSomeAnd, refl, ap, sym, ◌∙◌, subst}
use Rattle.std.specs.Prelude.{if◌then◌else◌}
use Rattle.std.specs.Str.{bytes_eq}
use Rattle.std.proofs.lemmas.Slice.Eq.{bytes_eq-Decides}
use Rattle.std.specs.declared.option.Option.{Option}
use Rattle.std.specs.declared.option.Option.TheVariants.{Some, None}
use Rattle.std.specs.declared.result.Result.TheVariants.{Ok}
use Rattle.cos_base.specs.Stores.{Store, IsWith, IsSet, KeepsOthers}
use Rattle.outcomes.specs.Seen.{Seen, CountStands}
use Rattle.outcomes.specs.Outcomes.{Written, with_file, with_files, Hold, HoldBut, HoldSome, Stand}
use Rattle.outcomes.specs.Steps.{IsStanding, IsWritten, StandBut}
use Rattle.outcomes.proofs.After.{both}

-- These were written, and no call of the files failed.
pub record AreWritten (f : Seen Store) (done : List Written) : Type 0 where
  pub count : CountStands f
  pub hold : Hold f done

-- none is, where the files stand
hold-nothing : (old new : Option Store) → IfSome old (λ m. new ≡ Some m) → IfSome old (λ m. IsSomeAnd new (λ n. (name : List ℕ) → n name ≡ with_files m [] name))
hold-nothing None new told = tt
hold-nothing (Some m) new told = subst (λ o. IsSomeAnd o (λ n. (name : List ℕ) → n name ≡ m name)) (sym told) (λ name. refl)

pub nothing-written : (f : Seen Store) → IsStanding f → AreWritten f []
nothing-written f stands = record { count = stands.count; hold = hold-nothing f.old f.new stands.told }

-- one more
pub files-one-more : (m : Store) (done : List Written) (w : Written) (name : List ℕ) → with_files m (done ++ (w ∷ [])) name ≡ with_file (with_files m done) w name
files-one-more m [] w name = refl
files-one-more m (d ∷ done) w name = files-one-more (with_file m d) done w name

set-file : (b : Bool) (w : Written) (m n : Store) (name : List ℕ) → bytes_eq name w.name ≡ b → IsWith m w.name w.bytes n → n name ≡ (if b then Some w.bytes else m name)
set-file true w m n name is set = ap n ((bytes_eq-Decides name w.name).0 is) ∙ set.here
set-file false w m n name is set = set.others name (λ same. let bad : true ≡ false = sym ((bytes_eq-Decides name w.name).1 same) ∙ is in cc)

hold-one-more : (old mid seen new : Option Store) (done : List Written) (w : Written) → seen ≡ mid → IfSome old (λ m. IsSomeAnd mid (λ n. (name : List ℕ) → n name ≡ with_files m done name))
    → IsSet seen w.name w.bytes new → IfSome old (λ m. IsSomeAnd new (λ n. (name : List ℕ) → n name ≡ with_files m (done ++ (w ∷ [])) name))
hold-one-more None mid seen new done w same hold set = tt
hold-one-more (Some m) None seen new done w same hold set = absurd hold
hold-one-more (Some m) (Some k) seen new done w same hold set = by new (subst (λ o. IsSet o w.name w.bytes new) same set)
  where
    by : (new : Option Store) → IsSomeAnd new (λ n. IsWith k w.name w.bytes n) → IsSomeAnd new (λ n. (name : List ℕ) → n name ≡ with_files m (done ++ (w ∷ [])) name)
    by None is = is
    by (Some n) is = λ name.
        set-file (bytes_eq name w.name) w k n name refl is
        ∙ ap (λ o. if bytes_eq name w.name then Some w.bytes else o) (hold name) ∙ sym (files-one-more m done w name)

pub one-more-written : (f g : Seen Store) (done : List Written) (w : Written) → AreWritten f done → g.before ≡ f.now → g.old ≡ f.new → IsWritten g w.name w.bytes (Ok tt) → AreWritten (both f g) (done ++ (w ∷ []))
one-more-written f g done w are joined same more = record {
  count = more.0 ∙ joined ∙ are.count;
  hold = hold-one-more f.old f.new g.old g.new done w same are.hold more.1;
}

-- Where the next write fails, its bytes may be any,
hold-but : (old mid seen new : Option Store) (done : List Written) (but : List ℕ) → seen ≡ mid → IfSome old (λ m. IsSomeAnd mid (λ n. (name : List ℕ) → n name ≡ with_files m done name))
    → IfSome seen (λ m. IfSome new (λ n. KeepsOthers m but n)) → IfSome old (λ m. IfSome new (λ n. (name : List ℕ) → (name ≡ but → ⊥) → n name ≡ with_files m done name))
hold-but None mid seen new done but same hold keeps = tt
hold-but (Some m) None seen new done but same hold keeps = absurd hold
hold-but (Some m) (Some k) seen new done but same hold keeps = by new (subst (λ o. IfSome o (λ m. IfSome new (λ n. KeepsOthers m but n))) same keeps)
  where
    by : (new : Option Store) → IfSome new (λ n. KeepsOthers k but n) → IfSome new (λ n. (name : List ℕ) → (name ≡ but → ⊥) → n name ≡ with_files m done name)
    by None is = tt
    by (Some n) is = λ name other. is name other ∙ hold name

pub hold-failed : (f g : Seen Store) (done : List Written) (but : List ℕ) → AreWritten f done → g.old ≡ f.new → StandBut but g → HoldBut (both f g) done but
hold-failed f g done but are same stand = hold-but f.old f.new g.old g.new done but same are.hold stand

-- and where it has no memory, all is as before it.
hold-some : (old mid seen new : Option Store) (done : List Written) → seen ≡ mid → IfSome old (λ m. IsSomeAnd mid (λ n. (name : List ℕ) → n name ≡ with_files m done name))
    → IfSome seen (λ m. IfSome new (λ n. n ≡ m)) → IfSome old (λ m. IfSome new (λ n. (name : List ℕ) → n name ≡ with_files m done name))
hold-some None mid seen new done same hold stand = tt
hold-some (Some m) None seen new done same hold stand = absurd hold
hold-some (Some m) (Some k) seen new done same hold stand = by new (subst (λ o. IfSome o (λ m. IfSome new (λ n. n ≡ m))) same stand)
  where
    by : (new : Option Store) → IfSome new (λ n. n ≡ k) → IfSome new (λ n. (name : List ℕ) → n name ≡ with_files m done name)
    by None is = tt
    by (Some n) is = λ name. ap (λ (s : Store). s name) is ∙ hold name

pub hold-unwritten : (f g : Seen Store) (done : List Written) → AreWritten f done → g.old ≡ f.new → Stand g → HoldSome (both f g) done
hold-unwritten f g done are same stand = hold-some f.old f.new g.old g.new done same are.hold stand
