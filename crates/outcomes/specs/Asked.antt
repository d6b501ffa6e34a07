-- The names that the files were asked for in a call, in their order. They are told only where the files' bytes are.
use Rattle.std.specs.Prelude.{ℕ, ◌≡◌, List, [], ◌∷◌, ◌++◌, IfSome}
use Rattle.std.specs.declared.option.Option.{Option}
use Rattle.std.specs.declared.result.Result.{Result}
use Rattle.std.specs.declared.result.Result.TheVariants.{Ok, Err}
use Rattle.cos_base.specs.Stores.{Store}
use Rattle.outcomes.specs.declared.failures.FilesFailure.{FilesFailure}
use Rattle.outcomes.specs.declared.failures.FilesFailure.TheVariants as files
use Rattle.outcomes.specs.declared.failures.ReadFault.{ReadFault}
use Rattle.outcomes.specs.declared.failures.ReadFault.TheVariants as read
use Rattle.outcomes.specs.declared.object.Object.TheVariants as object
use Rattle.outcomes.specs.declared.stop.Stop.{Stop}
use Rattle.outcomes.specs.declared.stop.Stop.TheVariants.{Refused, Outside, NoMemory}

-- the names that were asked for before a call and after it, and what the files held before it
pub record Asking : Type 0 where
  pub held : Option Store
  pub before : List (List ℕ)
  pub now : List (List ℕ)

abbrev pub asking : {X : Type 0} → (X → Option Store) → (X → List (List ℕ)) → X → X → Asking
asking told asked x y = record { held = told x; before = asked x; now = asked y }

-- Which names a call asks for may hang on what the files hold.
abbrev pub Names : Type 0
Names = Store → List (List ℕ)

-- It asked for none.
abbrev pub AsksNone : Asking → Type 0
AsksNone a = a.now ≡ a.before

-- The names grew by exactly these, each once.
abbrev pub AsksAll : Asking → Names → Type 0
AsksAll a names = IfSome a.held (λ m. a.now ≡ a.before ++ names m)

-- They grew by a beginning of these.
pub record Begins (before now names : List (List ℕ)) : Type 0 where
  pub first : List (List ℕ)
  pub rest : List (List ℕ)
  pub whole : names ≡ first ++ rest
  pub grew : now ≡ before ++ first

abbrev pub AsksSome : Asking → Names → Type 0
AsksSome a names = IfSome a.held (λ m. Begins a.before a.now (names m))

-- One file was asked for, or there was no memory and none was.
abbrev pub AsksOne : {T : Type 0} → List ℕ → Asking → Result T FilesFailure → Type 0
AsksOne name a (Ok x) = AsksAll a (λ m. name ∷ [])
AsksOne name a (Err (files.Failed n)) = AsksAll a (λ m. name ∷ [])
AsksOne name a (Err files.NoMemory) = AsksAll a (λ m. [])

-- Files were read, one by one: all of them were asked for, and a beginning where one couldn't be read.
abbrev pub AsksUpTo : {R : Type 0} → Names → Asking → ReadFault R → Type 0
AsksUpTo reads a (read.Refused r) = AsksAll a reads
AsksUpTo reads a (read.Failed n) = AsksSome a reads
AsksUpTo reads a read.NoMemory = AsksSome a reads

abbrev pub AsksEach : {T R : Type 0} → Names → Asking → Result T (ReadFault R) → Type 0
AsksEach reads a (Ok x) = AsksAll a reads
AsksEach reads a (Err e) = AsksUpTo reads a e

-- A command asked for the names that it reads, and then for those that it writes, which may hang on what is read: for
-- all of them where its work is done or printing stopped, for those that it reads where it is refused, and for a
-- beginning where it stopped earlier.
abbrev pub AsksFor : {R : Type 0} → Names → Names → Asking → Result Unit (Stop R) → Type 0
AsksFor reads writes a (Ok u) = AsksAll a (λ m. reads m ++ writes m)
AsksFor reads writes a (Err (Refused r)) = AsksAll a reads
AsksFor reads writes a (Err (Outside object.Files n)) = AsksSome a (λ m. reads m ++ writes m)
AsksFor reads writes a (Err (Outside object.Out n)) = AsksAll a (λ m. reads m ++ writes m)
AsksFor reads writes a (Err (Outside object.Net n)) = ⊥
AsksFor reads writes a (Err (Outside (object.Link port) n)) = ⊥
AsksFor reads writes a (Err (Outside object.Spawner n)) = ⊥
AsksFor reads writes a (Err NoMemory) = AsksSome a (λ m. reads m ++ writes m)
