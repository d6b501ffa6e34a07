-- What the steps of a command do to the files and to `out`: reading a file, printing a text, writing a file.
use Rattle.std.specs.Prelude.{ℕ, ◌≡◌, ◌<◌, ◌≤◌, List, [], length, IfSome, IsSomeAnd}
use Rattle.std.specs.declared.option.Option.{Option}
use Rattle.std.specs.declared.option.Option.TheVariants.{Some, None}
use Rattle.std.specs.declared.result.Result.{Result}
use Rattle.std.specs.declared.result.Result.TheVariants.{Ok, Err}
use Rattle.cos_base.specs.Stores.{Store, IsSet, KeepsOthers}
use Rattle.outcomes.specs.declared.failures.FilesFailure.{FilesFailure}
use Rattle.outcomes.specs.declared.failures.FilesFailure.TheVariants.{Failed, NoMemory}
use Rattle.outcomes.specs.declared.failures.JudgeFault.{JudgeFault}
use Rattle.outcomes.specs.declared.failures.JudgeFault.TheVariants as judge
use Rattle.outcomes.specs.declared.failures.OutFailure.{OutFailure}
use Rattle.outcomes.specs.declared.failures.ReadFault.{ReadFault}
use Rattle.outcomes.specs.declared.failures.ReadFault.TheVariants as read
use Rattle.outcomes.specs.Seen.{Seen, CountStands, IsBlamed}
use Rattle.outcomes.specs.Outcomes.{Outcome, Lacks, Refuses, Stand, StandTold, PrintsAll, PrintsPart}

-- The files are as they were, and no call of theirs failed.
pub record IsStanding (f : Seen Store) : Type 0 where
  pub count : CountStands f
  pub told : StandTold f

-- The file was read, and has these bytes.
pub record IsRead (f : Seen Store) (name bytes : List ℕ) : Type 0 where
  pub stands : IsStanding f
  pub found : IfSome f.old (λ m. m name ≡ Some bytes)

-- The file wasn't read: the files are blamed, or there was no memory.
abbrev pub IsUnread : Seen Store → FilesFailure → Type 0
IsUnread f (Failed n) = IsBlamed f n × Stand f
IsUnread f NoMemory = CountStands f × Stand f

-- Sound files are blamed only where the map lacks the name.
abbrev pub IsLacking : Option Store → List ℕ → FilesFailure → Type 0
IsLacking old name (Failed n) = IsSomeAnd old (λ m. m name ≡ None)
IsLacking old name NoMemory = Unit {0}

-- What was read is refused, and no text stands before; or there was no memory.
abbrev pub ComesRefused : {R : Type 0} → (Outcome R → Type 0) → JudgeFault R → Type 0
ComesRefused Comes (judge.Refused r) = Comes (Refuses r [])
ComesRefused Comes judge.NoMemory = Unit {0}

-- What files hold wasn't had: the command comes to a refusal, or the files are blamed, or there was no memory.
abbrev pub ComesUnread : {R : Type 0} → (Outcome R → Type 0) → Seen Store → ReadFault R → Type 0
ComesUnread Comes f (read.Refused r) = IsStanding f × Comes (Refuses r [])
ComesUnread Comes f (read.Failed n) = IsBlamed f n × Stand f
ComesUnread Comes f read.NoMemory = CountStands f × Stand f

-- Sound files are blamed only where the command comes to a file that is lacking.
abbrev pub ComesLacking : {R : Type 0} → (Outcome R → Type 0) → ReadFault R → Type 0
ComesLacking Comes (read.Refused r) = Unit {0}
ComesLacking Comes (read.Failed n) = (name : List ℕ) × Comes (Lacks name)
ComesLacking Comes read.NoMemory = Unit {0}

-- The text was printed, or `out` is blamed and a beginning of it was.
abbrev pub IsPrinted : Seen (List ℕ) → List ℕ → Result Unit OutFailure → Type 0
IsPrinted k text (Ok u) = CountStands k × PrintsAll k text
IsPrinted k text (Err e) = IsBlamed k e.count × PrintsPart k text

-- A sound sink is blamed exactly where the text is longer than its room.
abbrev pub IsRoomFor : ℕ → List ℕ → Result Unit OutFailure → Type 0
IsRoomFor room text (Ok u) = length text ≤ room
IsRoomFor room text (Err e) = room < length text

-- no file but that of this name is other than it was
abbrev pub StandBut : List ℕ → Seen Store → Type 0
StandBut name f = IfSome f.old (λ m. IfSome f.new (λ n. KeepsOthers m name n))

-- The file was written; or the files are blamed and its bytes may be any; or there was no memory and all is as before.
abbrev pub IsWritten : Seen Store → List ℕ → List ℕ → Result Unit FilesFailure → Type 0
IsWritten f name bytes (Ok u) = CountStands f × IsSet f.old name bytes f.new
IsWritten f name bytes (Err (Failed n)) = IsBlamed f n × StandBut name f
IsWritten f name bytes (Err NoMemory) = CountStands f × Stand f

-- the files aren't blamed
abbrev pub BlamesNone : Result Unit FilesFailure → Type 0
BlamesNone (Ok u) = Unit {0}
BlamesNone (Err (Failed n)) = ⊥
BlamesNone (Err NoMemory) = Unit {0}
