-- What a command comes to by the files alone, and how its call ends by that: the form in which every command over files
-- states its promise. `R` is what the command refuses.
use Rattle.std.specs.Prelude.{ℕ, ◌≡◌, ◌⊎◌, ◌<◌, ◌≤◌, List, [], ◌∷◌, ◌++◌, length, IfSome, IsSomeAnd, if◌then◌else◌}
use Rattle.std.specs.Str.{bytes_eq}
use Rattle.std.specs.declared.option.Option.{Option}
use Rattle.std.specs.declared.option.Option.TheVariants.{Some, None}
use Rattle.std.specs.declared.result.Result.{Result}
use Rattle.std.specs.declared.result.Result.TheVariants.{Ok, Err}
use Rattle.cos_base.specs.declared.sinks.Failed.{Failed}
use Rattle.cos_base.specs.Counts.{Counts}
use Rattle.cos_base.specs.Sinks.{Puts}
use Rattle.cos_base.specs.Stores.{Store}
use Rattle.outcomes.specs.declared.object.Object.TheVariants as object
use Rattle.outcomes.specs.declared.stop.Stop.{Stop}
use Rattle.outcomes.specs.declared.stop.Stop.TheVariants.{Refused, Outside, NoMemory}
use Rattle.outcomes.specs.Seen.{Seen, IsUntouched, CountStands, IsBlamed}

-- What a command comes to.

-- a file that is written
pub record Written : Type 0 where
  pub name : List ℕ
  pub bytes : List ℕ

-- The first file that it reads and that isn't there; or what it refuses, and the text that it prints before; or its
-- work: the files that it writes, in this order, and the text that it prints then.
pub data Outcome (R : Type 0) : Type 0 where
  Lacks : List ℕ → Outcome R
  Refuses : R → List ℕ → Outcome R
  Works : List Written → List ℕ → Outcome R

-- What a command that reads a file comes to: the file is lacking, or it is judged by its bytes.
abbrev pub Judged : {R : Type 0} → List ℕ → (List ℕ → Outcome R → Type 0) → Option (List ℕ) → Outcome R → Type 0
Judged name judge None o = o ≡ Lacks name
Judged name judge (Some bytes) o = judge bytes o

-- The same by the map of files. Over files that tell nothing it may come to anything.
abbrev pub OfFile : {R : Type 0} → List ℕ → (List ℕ → Outcome R → Type 0) → Option Store → Outcome R → Type 0
OfFile name judge None o = Unit {0}
OfFile name judge (Some m) o = Judged name judge (m name) o

-- What becomes of the files.

-- the files after some were written, in this order
abbrev pub with_file : Store → Written → Store
with_file m w name = if bytes_eq name w.name then Some w.bytes else m name

abbrev pub with_files : Store → List Written → Store
with_files m [] name = m name
with_files m (w ∷ ws) name = with_files (with_file m w) ws name

-- no file is other than it was, where that is told; and they are still told
abbrev pub Stand : Seen Store → Type 0
Stand f = IfSome f.old (λ m. IfSome f.new (λ n. n ≡ m))

abbrev pub StandTold : Seen Store → Type 0
StandTold f = IfSome f.old (λ m. f.new ≡ Some m)

-- these were written, and no other file is other than it was
abbrev pub Hold : Seen Store → List Written → Type 0
Hold f files = IfSome f.old (λ m. IsSomeAnd f.new (λ n. (name : List ℕ) → n name ≡ with_files m files name))

-- Writing them stopped at one: those before it were written. Its own bytes may be any where the write failed.
pub record StopsAt (files : List Written) : Type 0 where
  pub done : List Written
  pub one : Written
  pub left : List Written
  pub all : files ≡ done ++ (one ∷ left)

abbrev pub HoldBut : Seen Store → List Written → List ℕ → Type 0
HoldBut f done but =
    IfSome f.old (λ m. IfSome f.new (λ n. (name : List ℕ) → (name ≡ but → ⊥) → n name ≡ with_files m done name))

abbrev pub HoldSome : Seen Store → List Written → Type 0
HoldSome f done = IfSome f.old (λ m. IfSome f.new (λ n. (name : List ℕ) → n name ≡ with_files m done name))

-- What becomes of `out`.

-- all of the text was printed, or a beginning of it
abbrev pub PrintsAll : Seen (List ℕ) → List ℕ → Type 0
PrintsAll k text = Puts k.old k.new text (Ok tt)

abbrev pub PrintsPart : Seen (List ℕ) → List ℕ → Type 0
PrintsPart k text = (e : Failed) × Puts k.old k.new text (Err e)

-- A text was put: all of it where the count of faults stood, else a beginning of it.
abbrev pub IsPut : Seen (List ℕ) → List ℕ → Type 0
IsPut k text = (r : Result Unit Failed) × Counts k.before k.now r × Puts k.old k.new text r

-- the text before a refusal was put; no text, nothing is put
abbrev pub PrintsBefore : Seen (List ℕ) → List ℕ → Type 0
PrintsBefore k [] = IsUntouched k
PrintsBefore k (x ∷ xs) = IsPut k (x ∷ xs)

-- How the call of a command ends that comes to such outcomes.

-- An object of the outside is blamed only where its count rose; otherwise the counts of the files and of `out` stand,
-- but that the text before a refusal may fail.
abbrev pub Blames : {R : Type 0} → Seen Store → Seen (List ℕ) → Result Unit (Stop R) → Type 0
Blames f k (Ok u) = CountStands f × CountStands k
Blames f k (Err (Refused r)) = CountStands f × (k.before ≤ k.now)
Blames f k (Err (Outside object.Files n)) = IsBlamed f n × CountStands k
Blames f k (Err (Outside object.Out n)) = CountStands f × IsBlamed k n
Blames f k (Err (Outside object.Net n)) = ⊥
Blames f k (Err (Outside (object.Link port) n)) = ⊥
Blames f k (Err (Outside object.Spawner n)) = ⊥
Blames f k (Err NoMemory) = CountStands f × CountStands k

-- Its work is done; or it is refused, and no file is other than it was; or a file couldn't be read, or writing the
-- files stopped, and nothing is printed; or printing stopped, after all files were written.
abbrev pub Ends : {R : Type 0} → (Outcome R → Type 0) → Seen Store → Seen (List ℕ) → Result Unit (Stop R) → Type 0
Ends Comes f k (Ok u) = (files : List Written) × (text : List ℕ) × Comes (Works files text) × Hold f files
    × PrintsAll k text
Ends Comes f k (Err (Refused r)) = (text : List ℕ) × Comes (Refuses r text) × StandTold f × PrintsBefore k text
Ends Comes f k (Err (Outside object.Files n)) = IsUntouched k
    × (Stand f
    ⊎ ((files : List Written) × (text : List ℕ) × Comes (Works files text) × (at : StopsAt files)
    × HoldBut f at.done at.one.name))
Ends Comes f k (Err (Outside object.Out n)) = (files : List Written) × (text : List ℕ) × Comes (Works files text)
    × Hold f files × PrintsPart k text
Ends Comes f k (Err (Outside object.Net n)) = ⊥
Ends Comes f k (Err (Outside (object.Link port) n)) = ⊥
Ends Comes f k (Err (Outside object.Spawner n)) = ⊥
Ends Comes f k (Err NoMemory) = IsUntouched k
    × (Stand f
    ⊎ ((files : List Written) × (text : List ℕ) × Comes (Works files text) × (at : StopsAt files)
    × HoldSome f at.done))

-- How an outcome ends over sound objects, with this room of `out`: it works where its text fits, and otherwise `out` is
-- blamed; files are blamed where one is lacking; a refusal is itself. Want of memory may always come.
abbrev pub Meets : {R : Type 0} → ℕ → Result Unit (Stop R) → Outcome R → Type 0
Meets room (Ok u) o = (files : List Written) × (text : List ℕ) × (o ≡ Works files text) × (length text ≤ room)
Meets room (Err (Refused r)) o = (text : List ℕ) × (o ≡ Refuses r text)
Meets room (Err (Outside object.Files n)) o = (name : List ℕ) × (o ≡ Lacks name)
Meets room (Err (Outside object.Out n)) o = (files : List Written) × (text : List ℕ) × (o ≡ Works files text)
    × (room < length text)
Meets room (Err (Outside object.Net n)) o = ⊥
Meets room (Err (Outside (object.Link port) n)) o = ⊥
Meets room (Err (Outside object.Spawner n)) o = ⊥
Meets room (Err NoMemory) o = Unit {0}

-- the command comes to an outcome that ends so, or there was no memory
abbrev pub MeetsOne : {R : Type 0} → (Outcome R → Type 0) → ℕ → Result Unit (Stop R) → Type 0
MeetsOne {R} Comes room (Ok u) = (o : Outcome R) × Comes o × Meets room (Ok u) o
MeetsOne {R} Comes room (Err (Refused r)) = (o : Outcome R) × Comes o × Meets room (Err (Refused r)) o
MeetsOne {R} Comes room (Err (Outside object n)) = (o : Outcome R) × Comes o × Meets room (Err (Outside object n)) o
MeetsOne Comes room (Err NoMemory) = Unit {0}

-- every outcome to which the command may come ends so, or there was no memory
abbrev pub MeetsEach : {R : Type 0} → (Outcome R → Type 0) → ℕ → Result Unit (Stop R) → Type 0
MeetsEach {R} Comes room r = (o : Outcome R) → Comes o → Meets room r o

-- a sound `out` took all of the text before a refusal, where it had room
abbrev pub TakesBefore : {R : Type 0} → (Outcome R → Type 0) → Seen (List ℕ) → ℕ → Result Unit (Stop R) → Type 0
TakesBefore Comes k room (Ok u) = Unit {0}
TakesBefore Comes k room (Err (Refused r)) = (text : List ℕ) × Comes (Refuses r text)
    × (length text ≤ room → PrintsAll k text)
TakesBefore Comes k room (Err (Outside object n)) = Unit {0}
TakesBefore Comes k room (Err NoMemory) = Unit {0}

-- What every command over files promises, by what it comes to, by the files and `out` before and after its call,
-- whether they are sound before it, and the room of `out`.
pub record Performs {R : Type 0} (Comes : Outcome R → Type 0) (f : Seen Store) (k : Seen (List ℕ)) (is_sound : Type 0)
    (room : ℕ) (result : Result Unit (Stop R)) : Type 0 where
  pub blames : Blames f k result
  pub ends : Ends Comes f k result
  pub sound : is_sound → MeetsOne Comes room result
  pub complete : is_sound → MeetsEach Comes room result
  pub before : is_sound → TakesBefore Comes k room result
