-- Which names are asked for where files are read one after another.
use Rattle.std.proofs.Common.{ℕ, ◌≡◌, List, [], ◌∷◌, ◌++◌, length, IfSome, refl, ap, sym, ◌∙◌, subst, append_assoc}
use Rattle.std.proofs.lemmas.List.{append-nil}
use Rattle.std.specs.declared.option.Option.{Option}
use Rattle.std.specs.declared.option.Option.TheVariants.{Some, None}
use Rattle.std.specs.declared.result.Result.{Result}
use Rattle.std.specs.declared.result.Result.TheVariants.{Ok, Err}
use Rattle.cos_base.specs.Stores.{Store}
use Rattle.cos_config.specs.declared.config.Config.{Config}
use Rattle.cos_config.specs.declared.config.MachineKind.{MachineKind}
use Rattle.cos_config.specs.declared.config.MachineKind.TheVariants.{Rv, Script}
use Rattle.outcomes.specs.declared.failures.ReadFault.{ReadFault}
use Rattle.outcomes.specs.declared.failures.ReadFault.TheVariants.{Refused, Failed, NoMemory}
use Rattle.outcomes.specs.Asked.{Asking, Names, AsksAll, Begins, AsksSome, AsksUpTo, AsksEach}
use Rattle.outcomes.specs.Seen.{Seen}
use Rattle.outcomes.specs.Outcomes.{Outcome, Refuses}
use Rattle.outcomes.proofs.Asking.{both_asked, Joined, all-both, some-both, all-same, some-same, all-begin}
use Rattle.cosim_inputs.specs.declared.refusals.InputsRefusal.{InputsRefusal}
use Rattle.cosim_inputs.specs.Inputs.{Asked, Role, AsImage, AsScript, asked_as, sources_of, master_files, refusal, or_refused, trouble_at, trouble, or_stopped, names_read}
use Rattle.cosim_inputs.specs.Reads.{AreUnread}
use Rattle.cosim_inputs.proofs.Reading.{at-none}

-- One file is asked for by its name, whatever stands against it.

stopped-none : (t : Option (Outcome InputsRefusal)) → or_stopped t [] ≡ []
stopped-none None = refl
stopped-none (Some stands) = refl

one-name : (a : Asked) (m : Store) → a.name ∷ [] ≡ names_read (a ∷ []) m
one-name a m = ap (λ l. a.name ∷ l) (sym (stopped-none (trouble_at a (m a.name) None)))

abbrev asked_file : Role → List ℕ → Asked
asked_file role name = record { name = name; role = role }

pub all-one : (role : Role) (name : List ℕ) (a : Asking) → AsksAll a (λ m. name ∷ []) → AsksAll a (names_read (asked_as role (Some name)))
all-one role name a asks = all-same a (λ m. name ∷ []) (names_read (asked_as role (Some name))) (one-name (asked_file role name)) asks

pub all-some : (a : Asking) (names : Names) → AsksAll a names → AsksSome a names
all-some a names all = some-same a (λ m. names m ++ []) names (λ m. append-nil (names m)) (all-begin a names (λ m. []) all)

pub some-one : (role : Role) (name : List ℕ) (a : Asking) → AsksAll a (λ m. name ∷ []) → AsksSome a (names_read (asked_as role (Some name)))
some-one role name a asks = all-some a (names_read (asked_as role (Some name))) (all-one role name a asks)

pub up-to-one : (role : Role) (name : List ℕ) (a : Asking) (fault : ReadFault InputsRefusal) → AsksUpTo (λ m. name ∷ []) a fault → AsksUpTo (names_read (asked_as role (Some name))) a fault
up-to-one role name a (Refused r) asks = all-one role name a asks
up-to-one role name a (Failed n) asks = some-same a (λ m. name ∷ []) (names_read (asked_as role (Some name))) (one-name (asked_file role name)) asks
up-to-one role name a NoMemory asks = some-same a (λ m. name ∷ []) (names_read (asked_as role (Some name))) (one-name (asked_file role name)) asks

-- The names of files, and of those behind them.

names-behind : (m : Store) (xs ys : List Asked) → trouble m xs ≡ None → names_read xs m ++ names_read ys m ≡ names_read (xs ++ ys) m
names-behind m [] ys none = refl
names-behind m (a ∷ xs) ys none =
    let here = at-none a (m a.name) (trouble m xs) None none in
    let on : (l : List (List ℕ)) → or_stopped (trouble_at a (m a.name) None) l ≡ l = λ l. ap (λ t. or_stopped t l) here.0 in
    ap (λ l. a.name ∷ (l ++ names_read ys m)) (on (names_read xs m)) ∙ ap (λ l. a.name ∷ l) (names-behind m xs ys here.1 ∙ sym (on (names_read (xs ++ ys) m)))

before-at : (a : Asked) (found : Option (List ℕ)) (u : Option (Outcome InputsRefusal)) (p : Outcome InputsRefusal) (l k : List (List ℕ)) → trouble_at a found u ≡ Some p → (u ≡ Some p → l ≡ k) → or_stopped (trouble_at a found None) l ≡ or_stopped (trouble_at a found None) k
before-at a None u p l k is on = refl
before-at a (Some bytes) u p l k is on = by (refusal a.role bytes) is
  where
    by : (r : Option InputsRefusal) → or_refused r u ≡ Some p → or_stopped (or_refused r None) l ≡ or_stopped (or_refused r None) k
    by None e = on e
    by (Some f) e = refl

names-before : (m : Store) (xs ys : List Asked) (p : Outcome InputsRefusal) → trouble m xs ≡ Some p → names_read xs m ≡ names_read (xs ++ ys) m
names-before m [] ys p is = absurd (cc)
names-before m (a ∷ xs) ys p is =
    ap (λ l. a.name ∷ l) (before-at a (m a.name) (trouble m xs) p (names_read xs m) (names_read (xs ++ ys) m) is (names-before m xs ys p))

-- The names of the first files are a beginning of all.

abbrev Fronts : List (List ℕ) → List (List ℕ) → Type 0
Fronts l k = (rest : List (List ℕ)) × (k ≡ l ++ rest)

front-at : (t : Option (Outcome InputsRefusal)) (name : List ℕ) (l k : List (List ℕ)) → Fronts l k → Fronts (name ∷ or_stopped t l) (name ∷ or_stopped t k)
front-at None name l k (rest, is) = (rest, ap (λ x. name ∷ x) is)
front-at (Some stands) name l k fronts = ([], refl)

names-front : (m : Store) (xs ys : List Asked) → Fronts (names_read xs m) (names_read (xs ++ ys) m)
names-front m [] ys = (names_read ys m, refl)
names-front m (a ∷ xs) ys = front-at (trouble_at a (m a.name) None) a.name (names_read xs m) (names_read (xs ++ ys) m) (names-front m xs ys)

begins-front : (before now l k : List (List ℕ)) → Fronts l k → Begins before now l → Begins before now k
begins-front before now l k (more, is) begins = record {
  first = begins.first;
  rest = begins.rest ++ more;
  whole = is ∙ ap (λ x. x ++ more) begins.whole ∙ append_assoc begins.first begins.rest more;
  grew = begins.grew;
}

pub some-front : (a : Asking) (xs ys : List Asked) → AsksSome a (names_read xs) → AsksSome a (names_read (xs ++ ys))
some-front a xs ys some = by a.held some
  where
    by : (held : Option Store) → IfSome held (λ m. Begins a.before a.now (names_read xs m)) → IfSome held (λ m. Begins a.before a.now (names_read (xs ++ ys) m))
    by None is = tt
    by (Some m) is = begins-front a.before a.now (names_read xs m) (names_read (xs ++ ys) m) (names-front m xs ys) is

-- The same where the files tell what stands against the first.

pub all-told : (a : Asking) (names same : Names) → IfSome a.held (λ m. names m ≡ same m) → AsksAll a names → AsksAll a same
all-told a names same are all = by a.held are all
  where
    by : (held : Option Store) → IfSome held (λ m. names m ≡ same m) → IfSome held (λ m. a.now ≡ a.before ++ names m) → IfSome held (λ m. a.now ≡ a.before ++ same m)
    by None are is = tt
    by (Some m) are is = is ∙ ap (λ l. a.before ++ l) are

pub some-told : (a : Asking) (names same : Names) → IfSome a.held (λ m. names m ≡ same m) → AsksSome a names → AsksSome a same
some-told a names same are some = by a.held are some
  where
    by : (held : Option Store) → IfSome held (λ m. names m ≡ same m) → IfSome held (λ m. Begins a.before a.now (names m)) → IfSome held (λ m. Begins a.before a.now (same m))
    by None are is = tt
    by (Some m) are is = subst (λ l. Begins a.before a.now l) are is

told-behind : (held : Option Store) (xs ys : List Asked) → IfSome held (λ m. trouble m xs ≡ None) → IfSome held (λ m. names_read xs m ++ names_read ys m ≡ names_read (xs ++ ys) m)
told-behind None xs ys fine = tt
told-behind (Some m) xs ys fine = names-behind m xs ys fine

told-before : (held : Option Store) (xs ys : List Asked) (p : Outcome InputsRefusal) → IfSome held (λ m. trouble m xs ≡ Some p) → IfSome held (λ m. names_read xs m ≡ names_read (xs ++ ys) m)
told-before None xs ys p is = tt
told-before (Some m) xs ys p is = names-before m xs ys p is

-- Files were read, and then others.
pub asks-both : (a b : Asking) (xs ys : List Asked) → Joined a b → IfSome a.held (λ m. trouble m xs ≡ None) → AsksAll a (names_read xs) → AsksAll b (names_read ys) → AsksAll (both_asked a b) (names_read (xs ++ ys))
asks-both a b xs ys joined fine first then =
    all-told (both_asked a b) (λ m. names_read xs m ++ names_read ys m) (names_read (xs ++ ys)) (told-behind a.held xs ys fine) (all-both a b (names_read xs) (names_read ys) joined first then)

pub some-last : (a b : Asking) (xs ys : List Asked) → Joined a b → IfSome a.held (λ m. trouble m xs ≡ None) → AsksAll a (names_read xs) → AsksSome b (names_read ys) → AsksSome (both_asked a b) (names_read (xs ++ ys))
some-last a b xs ys joined fine first then =
    some-told (both_asked a b) (λ m. names_read xs m ++ names_read ys m) (names_read (xs ++ ys)) (told-behind a.held xs ys fine) (some-both a b (names_read xs) (names_read ys) joined first then)

-- Files were read, and of the others one couldn't be.
pub up-to-last : (a b : Asking) (xs ys : List Asked) (fault : ReadFault InputsRefusal) → Joined a b → IfSome a.held (λ m. trouble m xs ≡ None) → AsksAll a (names_read xs) → AsksUpTo (names_read ys) b fault → AsksUpTo (names_read (xs ++ ys)) (both_asked a b) fault
up-to-last a b xs ys (Refused r) joined fine first then = asks-both a b xs ys joined fine first then
up-to-last a b xs ys (Failed n) joined fine first then = some-last a b xs ys joined fine first then
up-to-last a b xs ys NoMemory joined fine first then = some-last a b xs ys joined fine first then

-- why reading them ended, where the files tell it
abbrev pub Stands : Option Store → List Asked → ReadFault InputsRefusal → Type 0
Stands held xs (Refused r) = IfSome held (λ m. trouble m xs ≡ Some (Refuses r []))
Stands held xs (Failed n) = Unit {0}
Stands held xs NoMemory = Unit {0}

-- One couldn't be read, and so those behind it weren't.
pub up-to-front : (a : Asking) (xs ys : List Asked) (fault : ReadFault InputsRefusal) → Stands a.held xs fault → AsksUpTo (names_read xs) a fault → AsksUpTo (names_read (xs ++ ys)) a fault
up-to-front a xs ys (Refused r) stands asks = all-told a (names_read xs) (names_read (xs ++ ys)) (told-before a.held xs ys (Refuses r []) stands) asks
up-to-front a xs ys (Failed n) stands asks = some-front a xs ys asks
up-to-front a xs ys NoMemory stands asks = some-front a xs ys asks

pub unread-stands : (f : Seen Store) (xs : List Asked) (fault : ReadFault InputsRefusal) → AreUnread f xs fault → Stands f.old xs fault
unread-stands f xs (Refused r) unread = unread.1
unread-stands f xs (Failed n) unread = tt
unread-stands f xs NoMemory unread = tt

-- Files were read, of the next one couldn't be, and those behind it weren't.
pub up-to-within : (a b : Asking) (xs ys zs : List Asked) (fault : ReadFault InputsRefusal) → Joined a b → IfSome a.held (λ m. trouble m xs ≡ None) → AsksAll a (names_read xs) → Stands b.held ys fault → AsksUpTo (names_read ys) b fault → AsksUpTo (names_read (xs ++ (ys ++ zs))) (both_asked a b) fault
up-to-within a b xs ys zs fault joined fine first stands then = up-to-last a b xs (ys ++ zs) fault joined fine first (up-to-front b ys zs fault stands then)

-- They were read, and those behind them weren't.
pub some-within : (a b : Asking) (xs ys zs : List Asked) → Joined a b → IfSome a.held (λ m. trouble m xs ≡ None) → AsksAll a (names_read xs) → AsksAll b (names_read ys) → AsksSome (both_asked a b) (names_read (xs ++ (ys ++ zs)))
some-within a b xs ys zs joined fine first then = some-last a b xs (ys ++ zs) joined fine first (some-front b ys zs (all-some b (names_read ys) then))

-- The files of a master: the image, and behind it the script.

pub image-up-to : (kind : MachineKind) (c : Config) (a : Asking) (fault : ReadFault InputsRefusal) → Stands a.held (asked_as (AsImage c.ram) c.image) fault → AsksUpTo (names_read (asked_as (AsImage c.ram) c.image)) a fault → AsksUpTo (names_read (sources_of kind c)) a fault
image-up-to Rv c a fault stands asks = asks
image-up-to Script c a fault stands asks = up-to-front a (asked_as (AsImage c.ram) c.image) (asked_as (AsScript (length c.ports)) c.script) fault stands asks

each-last : (T : Type 0) (a b : Asking) (xs ys : List Asked) (r : Result T (ReadFault InputsRefusal)) → Joined a b → IfSome a.held (λ m. trouble m xs ≡ None) → AsksAll a (names_read xs) → AsksEach (names_read ys) b r → AsksEach (names_read (xs ++ ys)) (both_asked a b) r
each-last T a b xs ys (Ok x) joined fine first then = asks-both a b xs ys joined fine first then
each-last T a b xs ys (Err fault) joined fine first then = up-to-last a b xs ys fault joined fine first then

pub script-each : (T : Type 0) (c : Config) (ports : ℕ) (name : List ℕ) (a b : Asking) (r : Result T (ReadFault InputsRefusal)) → c.kind ≡ Script → c.script ≡ Some name → ports ≡ length c.ports → Joined a b
    → IfSome a.held (λ m. trouble m (asked_as (AsImage c.ram) c.image) ≡ None) → AsksAll a (names_read (asked_as (AsImage c.ram) c.image)) → AsksEach (names_read (asked_as (AsScript ports) (Some name))) b r → AsksEach (names_read (master_files c)) (both_asked a b) r
script-each T c ports name a b r kind script len joined fine first then =
    let image = asked_as (AsImage c.ram) c.image in
    let last = each-last T a b image (asked_as (AsScript ports) (Some name)) r joined fine first then in
    subst (λ k. AsksEach (names_read (sources_of k c)) (both_asked a b) r) (sym kind)
    (subst (λ s. AsksEach (names_read (image ++ asked_as (AsScript (length c.ports)) s)) (both_asked a b) r) (sym script)
    (subst (λ n. AsksEach (names_read (image ++ asked_as (AsScript n) (Some name))) (both_asked a b) r) len last))
