-- What a command comes to, by the files that it read; and that it comes to one outcome.
use Rattle.std.proofs.Common.{ℕ, ◌≡◌, ◌≤◌, List, [], ◌∷◌, length, IfSome, IsSomeAnd, IsSome, refl, ap, sym, ◌∙◌, subst, arith}
use Rattle.std.specs.declared.option.Option.{Option}
use Rattle.std.specs.declared.option.Option.TheVariants.{Some, None}
use Rattle.std.specs.declared.result.Result.{Result}
use Rattle.std.specs.declared.result.Result.TheVariants.{Ok, Err}
use Rattle.std.proofs.lemmas.List.{append-nil}
use Rattle.cos_base.specs.declared.sinks.Failed.{Failed}
use Rattle.cos_base.specs.Counts.{Counts}
use Rattle.cos_base.specs.Sinks.{Puts}
use Rattle.cos_base.specs.Stores.{Store}
use Rattle.outcomes.specs.declared.failures.FilesFailure.{FilesFailure}
use Rattle.outcomes.specs.declared.failures.FilesFailure.TheVariants as files
use Rattle.outcomes.specs.declared.stop.Stop.{Stop}
use Rattle.outcomes.specs.declared.stop.Stop.TheVariants.{Refused, Outside, NoMemory}
use Rattle.outcomes.specs.Seen.{Seen, IsUntouched}
use Rattle.outcomes.specs.Outcomes.{Outcome, Lacks, Judged, OfFile, Stand, StandTold, PrintsAll, IsPut, PrintsBefore, Meets, MeetsOne, MeetsEach}
use Rattle.outcomes.specs.Steps.{IsStanding, IsRead, IsLacking}

-- What a file's bytes are judged to, the command comes to.
judged-by : {R : Type 0} (name : List ℕ) (judge : List ℕ → Outcome R → Type 0) (found : Option (List ℕ)) (bytes : List ℕ) (o : Outcome R) → found ≡ Some bytes → judge bytes o → Judged name judge found o
judged-by name judge found bytes o is by = subst (λ b. Judged name judge b o) (sym is) by

pub comes-found : {R : Type 0} (name : List ℕ) (judge : List ℕ → Outcome R → Type 0) (old : Option Store) (bytes : List ℕ) (o : Outcome R) → IfSome old (λ m. m name ≡ Some bytes) → judge bytes o → OfFile name judge old o
comes-found name judge None bytes o found by = tt
comes-found name judge (Some m) bytes o found by = judged-by name judge (m name) bytes o found by

pub comes-read : {R : Type 0} (name : List ℕ) (judge : List ℕ → Outcome R → Type 0) (f : Seen Store) (bytes : List ℕ) (o : Outcome R) → IsRead f name bytes → judge bytes o → OfFile name judge f.old o
comes-read name judge f bytes o read by = comes-found name judge f.old bytes o read.found by

-- and where it is lacking, to that
pub comes-lacking : {R : Type 0} (name : List ℕ) (judge : List ℕ → Outcome R → Type 0) (old : Option Store) → IsSomeAnd old (λ m. m name ≡ None) → OfFile name judge old (Lacks name)
comes-lacking name judge None none = tt
comes-lacking name judge (Some m) none = subst (λ b. Judged name judge b (Lacks name)) (sym none) refl

-- Where reading failed, the command comes to a file that is lacking.
abbrev pub LacksSome : {R : Type 0} → (Outcome R → Type 0) → FilesFailure → Type 0
LacksSome Comes (files.Failed n) = (name : List ℕ) × Comes (Lacks name)
LacksSome Comes files.NoMemory = Unit {0}

pub lacks-file : {R : Type 0} (name : List ℕ) (judge : List ℕ → Outcome R → Type 0) (old : Option Store) (e : FilesFailure) → IsLacking old name e → LacksSome (OfFile name judge old) e
lacks-file name judge old (files.Failed n) lacking = (name, comes-lacking name judge old lacking)
lacks-file name judge old files.NoMemory lacking = tt

-- one outcome at most
abbrev pub IsOne : {R : Type 0} → (Outcome R → Type 0) → Type 0
IsOne {R} Comes = (o p : Outcome R) → Comes o → Comes p → o ≡ p

one-judged : {R : Type 0} (name : List ℕ) (judge : List ℕ → Outcome R → Type 0) (found : Option (List ℕ)) → ((bytes : List ℕ) → IsOne (judge bytes)) → IsOne (Judged name judge found)
one-judged name judge None one o p first then = first ∙ sym then
one-judged name judge (Some bytes) one o p first then = one bytes o p first then

pub one-of-file : {R : Type 0} (name : List ℕ) (judge : List ℕ → Outcome R → Type 0) (old : Option Store) → IsSome old → ((bytes : List ℕ) → IsOne (judge bytes)) → IsOne (OfFile name judge old)
one-of-file name judge None told one = absurd (cc)
one-of-file name judge (Some m) told one = one-judged name judge (m name) one

-- One outcome at most, and it ends so: each does.
pub meets-each : {R : Type 0} (Comes : Outcome R → Type 0) (room : ℕ) (r : Result Unit (Stop R)) → IsOne Comes → MeetsOne Comes room r → MeetsEach Comes room r
meets-each Comes room (Err NoMemory) one meets = λ p also. tt
meets-each Comes room (Ok u) one (o, comes, meets) = λ p also. subst (Meets room (Ok u)) (one o p comes also) meets
meets-each Comes room (Err (Refused r)) one (o, comes, meets) = λ p also. subst (Meets room (Err (Refused r))) (one o p comes also) meets
meets-each Comes room (Err (Outside x n)) one (o, comes, meets) = λ p also. subst (Meets room (Err (Outside x n))) (one o p comes also) meets

-- What stands is told or not.
told-stand-of : (old new : Option Store) → IfSome old (λ m. new ≡ Some m) → IfSome old (λ m. IfSome new (λ n. n ≡ m))
told-stand-of None new told = tt
told-stand-of (Some m) new told = subst (λ o. IfSome o (λ n. n ≡ m)) (sym told) refl

pub told-stand : (f : Seen Store) → StandTold f → Stand f
told-stand f told = told-stand-of f.old f.new told

untouched-told : (old new : Option Store) → new ≡ old → IfSome old (λ m. new ≡ Some m)
untouched-told None new same = tt
untouched-told (Some m) new same = same

pub untouched-stands : (f : Seen Store) → IsUntouched f → IsStanding f
untouched-stands f same = record { count = same.count; told = untouched-told f.old f.new same.same }

-- Of `out`.
prints-nothing-of : (old new : Option (List ℕ)) → new ≡ old → Puts old new [] (Ok tt)
prints-nothing-of None new same = tt
prints-nothing-of (Some x) new same = same ∙ ap (λ l. Some l) (sym (append-nil x))

pub prints-nothing : (k : Seen (List ℕ)) → IsUntouched k → PrintsAll k []
prints-nothing k same = prints-nothing-of k.old k.new same.same

pub before-none : (k : Seen (List ℕ)) (text : List ℕ) → length text ≡ 0 → IsUntouched k → PrintsBefore k text
before-none k [] none same = same
before-none k (x ∷ xs) none same = absurd (omega (arith, none))

pub before-put : (k : Seen (List ℕ)) (text : List ℕ) → (length text ≡ 0 → ⊥) → IsPut k text → PrintsBefore k text
before-put k [] some put = absurd (some refl)
before-put k (x ∷ xs) some put = put

-- the count of `out` doesn't fall
put-rises : (before now : ℕ) (r : Result Unit Failed) → Counts before now r → before ≤ now
put-rises before now (Ok u) counts = omega (arith, counts)
put-rises before now (Err e) counts = counts.0

pub before-rises : (k : Seen (List ℕ)) (text : List ℕ) → PrintsBefore k text → k.before ≤ k.now
before-rises k [] put = let same = put.count in omega (arith, same)
before-rises k (x ∷ xs) put = put-rises k.before k.now put.0 put.1
