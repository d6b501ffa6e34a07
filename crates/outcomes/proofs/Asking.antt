-- What a command asked for, by what its steps did.
use Rattle.std.proofs.Common.{ℕ, ◌≡◌, List, [], ◌∷◌, ◌++◌, IfSome, refl, ap, sym, ◌∙◌, subst, append_assoc}
use Rattle.std.proofs.lemmas.List.{append-nil}
use Rattle.std.specs.declared.option.Option.{Option}
use Rattle.std.specs.declared.option.Option.TheVariants.{Some, None}
use Rattle.std.specs.declared.result.Result.{Result}
use Rattle.std.specs.declared.result.Result.TheVariants.{Ok, Err}
use Rattle.cos_base.specs.Stores.{Store}
use Rattle.outcomes.specs.Asked.{Asking, Names, AsksNone, AsksAll, Begins, AsksSome, AsksOne, AsksUpTo, AsksFor}
use Rattle.outcomes.specs.declared.failures.FilesFailure.{FilesFailure}
use Rattle.outcomes.specs.declared.failures.FilesFailure.TheVariants as files
use Rattle.outcomes.specs.declared.failures.JudgeFault.{JudgeFault}
use Rattle.outcomes.specs.declared.failures.JudgeFault.TheVariants as judge
use Rattle.outcomes.specs.declared.failures.OutFailure.{OutFailure}
use Rattle.outcomes.specs.declared.failures.ReadFault.{ReadFault}
use Rattle.outcomes.specs.declared.failures.ReadFault.TheVariants as read
use Rattle.outcomes.specs.Failures.{stop_of_files, stop_of_judge, stop_of_read}
use Rattle.outcomes.proofs.Performing.{put_result}

-- All names are a beginning of them and more; none is one of any.

pub all-begin : (a : Asking) (names more : Names) → AsksAll a names → AsksSome a (λ m. names m ++ more m)
all-begin a names more all = by a.held all
  where
    by : (held : Option Store) → IfSome held (λ m. a.now ≡ a.before ++ names m) → IfSome held (λ m. Begins a.before a.now (names m ++ more m))
    by None is = tt
    by (Some m) is = record { first = names m; rest = more m; whole = refl; grew = is }

pub none-begins : (a : Asking) (names : Names) → AsksAll a (λ m. []) → AsksSome a names
none-begins a names none = all-begin a (λ m. []) names none

-- the same names, written otherwise

pub all-same : (a : Asking) (names same : Names) → ((m : Store) → names m ≡ same m) → AsksAll a names → AsksAll a same
all-same a names same are all = by a.held all
  where
    by : (held : Option Store) → IfSome held (λ m. a.now ≡ a.before ++ names m) → IfSome held (λ m. a.now ≡ a.before ++ same m)
    by None is = tt
    by (Some m) is = is ∙ ap (λ l. a.before ++ l) (are m)

pub some-same : (a : Asking) (names same : Names) → ((m : Store) → names m ≡ same m) → AsksSome a names → AsksSome a same
some-same a names same are some = by a.held some
  where
    by : (held : Option Store) → IfSome held (λ m. Begins a.before a.now (names m)) → IfSome held (λ m. Begins a.before a.now (same m))
    by None is = tt
    by (Some m) is = subst (λ l. Begins a.before a.now l) (are m) is

-- One step, and another behind it.

abbrev pub both_asked : Asking → Asking → Asking
both_asked a b = record { held = a.held; before = a.before; now = b.now }

abbrev pub Joined : Asking → Asking → Type 0
Joined a b = IfSome a.held (λ m. b.held ≡ Some m) × (b.before ≡ a.now)

all-grown : (before mid now xs ys : List (List ℕ)) → mid ≡ before ++ xs → now ≡ mid ++ ys → now ≡ before ++ (xs ++ ys)
all-grown before mid now xs ys first then = then ∙ ap (λ l. l ++ ys) first ∙ append_assoc before xs ys

pub all-both : (a b : Asking) (xs ys : Names) → Joined a b → AsksAll a xs → AsksAll b ys → AsksAll (both_asked a b) (λ m. xs m ++ ys m)
all-both a b xs ys joined first then = by a.held joined.0 first
  where
    by : (held : Option Store) → IfSome held (λ m. b.held ≡ Some m) → IfSome held (λ m. a.now ≡ a.before ++ xs m) → IfSome held (λ m. b.now ≡ a.before ++ (xs m ++ ys m))
    by None told is = tt
    by (Some m) told is = all-grown a.before b.before b.now (xs m) (ys m) (joined.1 ∙ is) (subst (λ o. IfSome o (λ n. b.now ≡ b.before ++ ys n)) told then)

begins-behind : (before mid now xs ys : List (List ℕ)) → mid ≡ before ++ xs → Begins mid now ys → Begins before now (xs ++ ys)
begins-behind before mid now xs ys first then = record {
  first = xs ++ then.first;
  rest = then.rest;
  whole = ap (λ l. xs ++ l) then.whole ∙ sym (append_assoc xs then.first then.rest);
  grew = all-grown before mid now xs then.first first then.grew;
}

pub some-both : (a b : Asking) (xs ys : Names) → Joined a b → AsksAll a xs → AsksSome b ys → AsksSome (both_asked a b) (λ m. xs m ++ ys m)
some-both a b xs ys joined first then = by a.held joined.0 first
  where
    by : (held : Option Store) → IfSome held (λ m. b.held ≡ Some m) → IfSome held (λ m. a.now ≡ a.before ++ xs m) → IfSome held (λ m. Begins a.before b.now (xs m ++ ys m))
    by None told is = tt
    by (Some m) told is = begins-behind a.before b.before b.now (xs m) (ys m) (joined.1 ∙ is) (subst (λ o. IfSome o (λ n. Begins b.before b.now (ys n))) told then)

-- No file was asked for.
pub none-all : (a : Asking) → AsksNone a → AsksAll a (λ m. [])
none-all a none = by a.held
  where
    by : (held : Option Store) → IfSome held (λ m. a.now ≡ a.before ++ [])
    by None = tt
    by (Some m) = none ∙ sym (append-nil a.before)

-- The exits of a command.

-- Of a file that couldn't be read, the name is a beginning of its name.
abbrev pub unread_fault : {R : Type 0} → FilesFailure → ReadFault R
unread_fault (files.Failed n) = read.Failed n
unread_fault files.NoMemory = read.NoMemory

pub one-up-to : (T R : Type 0) (name : List ℕ) (a : Asking) (e : FilesFailure) → AsksOne {T = T} name a (Err e) → AsksUpTo {R = R} (λ m. name ∷ []) a (unread_fault e)
one-up-to T R name a (files.Failed n) asks = all-begin a (λ m. name ∷ []) (λ m. []) asks
one-up-to T R name a files.NoMemory asks = none-begins a (λ m. name ∷ []) asks

pub unread-asks : (T R : Type 0) (name : List ℕ) (writes : Names) (a : Asking) (e : FilesFailure) → AsksOne {T = T} name a (Err e) → AsksFor {R = R} (λ m. name ∷ []) writes a (Err (stop_of_files e))
unread-asks T R name writes a (files.Failed n) asks = all-begin a (λ m. name ∷ []) writes asks
unread-asks T R name writes a files.NoMemory asks = none-begins a (λ m. (name ∷ []) ++ writes m) asks

pub judge-asks : {R : Type 0} (reads : Names) (writes : Names) (a : Asking) (fault : JudgeFault R) → AsksAll a reads → AsksFor reads writes a (Err (stop_of_judge fault))
judge-asks reads writes a (judge.Refused r) asks = asks
judge-asks reads writes a judge.NoMemory asks = all-begin a reads writes asks

pub print-asks : (R : Type 0) (reads : Names) (writes : Names) (a : Asking) (r : Result Unit OutFailure) → AsksAll a (λ m. reads m ++ writes m) → AsksFor reads writes a (put_result {R = R} r)
print-asks R reads writes a (Ok u) asks = asks
print-asks R reads writes a (Err e) asks = asks

pub inputs-ask : {R : Type 0} (reads : Names) (a : Asking) (fault : ReadFault R) → AsksUpTo reads a fault → AsksFor reads (λ m. []) a (Err (stop_of_read fault))
inputs-ask reads a (read.Refused r) asks = asks
inputs-ask reads a (read.Failed n) asks = some-same a reads (λ m. reads m ++ []) (λ m. sym (append-nil (reads m))) asks
inputs-ask reads a read.NoMemory asks = some-same a reads (λ m. reads m ++ []) (λ m. sym (append-nil (reads m))) asks

-- Files were read, and a text printed of them.
pub run-asks : (R : Type 0) (reads : Names) (a : Asking) (r : Result Unit OutFailure) → AsksAll a reads → AsksFor reads (λ m. []) a (put_result {R = R} r)
run-asks R reads a r asks = print-asks R reads (λ m. []) a r (all-same a reads (λ m. reads m ++ []) (λ m. sym (append-nil (reads m))) asks)

-- A file was read, and another written.
pub write-asks : (R : Type 0) (name target : List ℕ) (a b : Asking) → Joined a b → AsksAll a (λ m. name ∷ []) → AsksOne {T = Unit} target b (Ok tt) → AsksFor {R = R} (λ m. name ∷ []) (λ m. target ∷ []) (both_asked a b) (Ok tt)
write-asks R name target a b joined first then = all-both a b (λ m. name ∷ []) (λ m. target ∷ []) joined first then

pub unwritten-asks : (R : Type 0) (name target : List ℕ) (a b : Asking) (e : FilesFailure) → Joined a b → AsksAll a (λ m. name ∷ []) → AsksOne {T = Unit} target b (Err e) → AsksFor {R = R} (λ m. name ∷ []) (λ m. target ∷ []) (both_asked a b) (Err (stop_of_files e))
unwritten-asks R name target a b (files.Failed n) joined first then =
    some-both a b (λ m. name ∷ []) (λ m. target ∷ []) joined first (all-begin b (λ m. target ∷ []) (λ m. []) then)
unwritten-asks R name target a b files.NoMemory joined first then =
    some-both a b (λ m. name ∷ []) (λ m. target ∷ []) joined first (none-begins b (λ m. target ∷ []) then)
