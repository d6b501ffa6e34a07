-- Results that are written one behind the other.
use Rattle.std.specs.Prelude.{if◌then◌else◌}
use Rattle.std.specs.Str.{bytes_eq}
use Rattle.std.proofs.Common.{ℕ, ◌≡◌, ◌+◌, ◌<◌, List, [], ◌∷◌, ◌++◌, length, drop, get_or, slice_get, map, IfSome, IsSomeAnd, IsSome, refl, ap, ap₂, sym, ◌∙◌, subst, append_assoc}
use Rattle.std.proofs.lemmas.List.{map-append, drop_more}
use Rattle.std.specs.declared.option.Option.{Option}
use Rattle.std.specs.declared.option.Option.TheVariants.{Some, None}
use Rattle.std.specs.declared.result.Result.{Result}
use Rattle.std.specs.declared.result.Result.TheVariants.{Ok, Err}
use Rattle.cos_base.specs.Stores.{Store}
use Rattle.outcomes.specs.declared.failures.FilesFailure.{FilesFailure}
use Rattle.outcomes.specs.declared.failures.FilesFailure.TheVariants as files
use Rattle.outcomes.specs.Outcomes.{Written, with_file, with_files, StopsAt}
use Rattle.outcomes.specs.Seen.{Seen}
use Rattle.outcomes.specs.Steps.{IsStanding, IsWritten}
use Rattle.outcomes.proofs.After.{both, blamed-after}
use Rattle.outcomes.proofs.Commands.{untouched-stands}
use Rattle.outcomes.specs.Asked.{Asking, AsksAll, Begins, AsksSome}
use Rattle.outcomes.proofs.Asking.{both_asked}
use Rattle.outcomes.proofs.Writing.{AreWritten, nothing-written, one-more-written, hold-failed, hold-unwritten}
use Rattle.cos_config.specs.declared.config.PortConfig.{PortConfig}
use Rattle.cos_parts.specs.declared.any_device.AnyDevice.{AnyDevice}
use Rattle.cos_parts.specs.declared.any_master.AnyMaster.{AnyMaster}
use Rattle.every_schedule.proofs.Lists.{get_mapped}
use Rattle.world.specs.Stars.{Leaf}
use Rattle.world.specs.Worlds.{WorldValue}
use Rattle.cosim_local.specs.Results.{result_of, results_of}
use Rattle.cosim_local.specs.Steps.{AsksResults, WritesAll, devices_in}
use Rattle.cosim_local.proofs.Places.{drop-at}

-- the files before a call
abbrev pub before : Seen Store → Seen Store
before f = record { before = f.before; now = f.before; old = f.old; new = f.old }

pub stood : (f : Seen Store) → IsStanding (before f)
stood f = untouched-stands (before f) (record { count = refl; same = refl })

-- One file is a list of one.
pub one-written : (f : Seen Store) (w : Written) (r : Result Unit FilesFailure) → IsWritten f w.name w.bytes r
    → WritesAll (w ∷ []) f r
one-written f w (Ok u) written =
    let are = one-more-written (before f) f [] w (nothing-written (before f) (stood f)) refl refl written in
    (are.count, are.hold)
one-written f w (Err (files.Failed n)) written = (
  written.0,
  record { done = []; one = w; left = []; all = refl },
  hold-failed (before f) f [] w.name (nothing-written (before f) (stood f)) refl written.1,
)
one-written f w (Err files.NoMemory) written = (
  written.0,
  record { done = []; one = w; left = []; all = refl },
  hold-unwritten (before f) f [] (nothing-written (before f) (stood f)) refl written.1,
)

-- Files are the same where those before were.

files-same : (m k : Store) → ((name : List ℕ) → k name ≡ m name) → (ws : List Written) (name : List ℕ)
    → with_files k ws name ≡ with_files m ws name
files-same m k same [] name = same name
files-same m k same (w ∷ ws) name =
    files-same (with_file m w) (with_file k w) (λ n. ap (λ o. if bytes_eq n w.name then Some w.bytes else o) (same n)) ws
    name

files-append : (m : Store) (done more : List Written) (name : List ℕ)
    → with_files (with_files m done) more name ≡ with_files m (done ++ more) name
files-append m [] more name = files-same m (with_files m []) (λ n. refl) more name
files-append m (w ∷ done) more name =
    files-same (with_files (with_file m w) done) (with_files m (w ∷ done)) (λ n. refl) more name
    ∙ files-append (with_file m w) done more name

behind : (m k : Store) (done more : List Written) → ((name : List ℕ) → k name ≡ with_files m done name)
    → (name : List ℕ) → with_files k more name ≡ with_files m (done ++ more) name
behind m k done more same name = files-same (with_files m done) k same more name ∙ files-append m done more name

-- More files are written behind some.

hold-more : (old mid seen new : Option Store) (done more : List Written) → seen ≡ mid
    → IfSome old (λ m. IsSomeAnd mid (λ n. (name : List ℕ) → n name ≡ with_files m done name))
    → IfSome seen (λ m. IsSomeAnd new (λ n. (name : List ℕ) → n name ≡ with_files m more name))
    → IfSome old (λ m. IsSomeAnd new (λ n. (name : List ℕ) → n name ≡ with_files m (done ++ more) name))
hold-more None mid seen new done more same hold next = tt
hold-more (Some m) None seen new done more same hold next = absurd hold
hold-more (Some m) (Some k) seen new done more same hold next =
    by new (subst (λ o. IfSome o (λ m. IsSomeAnd new (λ n. (name : List ℕ) → n name ≡ with_files m more name))) same next)
  where
    by : (new : Option Store) → IsSomeAnd new (λ n. (name : List ℕ) → n name ≡ with_files k more name)
        → IsSomeAnd new (λ n. (name : List ℕ) → n name ≡ with_files m (done ++ more) name)
    by None is = is
    by (Some n) is = λ name. is name ∙ behind m k done more hold name

pub more-written : (f g : Seen Store) (done more : List Written) → AreWritten f done → g.before ≡ f.now → g.old ≡ f.new
    → WritesAll more g (Ok tt) → AreWritten (both f g) (done ++ more)
more-written f g done more are joined same next = record {
  count = next.0 ∙ joined ∙ are.count;
  hold = hold-more f.old f.new g.old g.new done more same are.hold next.1;
}

-- Writing stops among them.

but-more : (old mid seen new : Option Store) (done more : List Written) (but : List ℕ) → seen ≡ mid
    → IfSome old (λ m. IsSomeAnd mid (λ n. (name : List ℕ) → n name ≡ with_files m done name))
    → IfSome seen (λ m. IfSome new (λ n. (name : List ℕ) → (name ≡ but → ⊥) → n name ≡ with_files m more name))
    → IfSome old (λ m. IfSome new (λ n. (name : List ℕ) → (name ≡ but → ⊥) → n name ≡ with_files m (done ++ more) name))
but-more None mid seen new done more but same hold next = tt
but-more (Some m) None seen new done more but same hold next = absurd hold
but-more (Some m) (Some k) seen new done more but same hold next =
    by new (subst (λ o. IfSome o (λ m. IfSome new (λ n. (name : List ℕ) → (name ≡ but → ⊥) → n name ≡ with_files m more name))) same next)
  where
    by : (new : Option Store) → IfSome new (λ n. (name : List ℕ) → (name ≡ but → ⊥) → n name ≡ with_files k more name)
        → IfSome new (λ n. (name : List ℕ) → (name ≡ but → ⊥) → n name ≡ with_files m (done ++ more) name)
    by None is = tt
    by (Some n) is = λ name other. is name other ∙ behind m k done more hold name

some-more : (old mid seen new : Option Store) (done more : List Written) → seen ≡ mid
    → IfSome old (λ m. IsSomeAnd mid (λ n. (name : List ℕ) → n name ≡ with_files m done name))
    → IfSome seen (λ m. IfSome new (λ n. (name : List ℕ) → n name ≡ with_files m more name))
    → IfSome old (λ m. IfSome new (λ n. (name : List ℕ) → n name ≡ with_files m (done ++ more) name))
some-more None mid seen new done more same hold next = tt
some-more (Some m) None seen new done more same hold next = absurd hold
some-more (Some m) (Some k) seen new done more same hold next =
    by new (subst (λ o. IfSome o (λ m. IfSome new (λ n. (name : List ℕ) → n name ≡ with_files m more name))) same next)
  where
    by : (new : Option Store) → IfSome new (λ n. (name : List ℕ) → n name ≡ with_files k more name)
        → IfSome new (λ n. (name : List ℕ) → n name ≡ with_files m (done ++ more) name)
    by None is = tt
    by (Some n) is = λ name. is name ∙ behind m k done more hold name

abbrev stops-behind : (done more left whole : List Written) → whole ≡ done ++ (more ++ left) → (at : StopsAt more) → StopsAt whole
stops-behind done more left whole is at = record {
  done = done ++ at.done;
  one = at.one;
  left = at.left ++ left;
  all = is ∙ ap (λ l. done ++ (l ++ left)) at.all ∙ ap (λ l. done ++ l) (append_assoc at.done (at.one ∷ at.left) left)
      ∙ sym (append_assoc done at.done (at.one ∷ (at.left ++ left)));
}

pub more-unwritten : (f g : Seen Store) (done more left whole : List Written) (e : FilesFailure) → AreWritten f done
    → whole ≡ done ++ (more ++ left) → g.before ≡ f.now → g.old ≡ f.new → WritesAll more g (Err e)
    → WritesAll whole (both f g) (Err e)
more-unwritten f g done more left whole (files.Failed n) are is joined same (blamed, at, hold) = (
  blamed-after f.before g.before g.now n (joined ∙ are.count) blamed,
  stops-behind done more left whole is at,
  but-more f.old f.new g.old g.new done at.done at.one.name same are.hold hold,
)
more-unwritten f g done more left whole files.NoMemory are is joined same (count, at, hold) = (
  count ∙ joined ∙ are.count,
  stops-behind done more left whole is at,
  some-more f.old f.new g.old g.new done at.done same are.hold hold,
)

-- Names that hang on no file are asked for behind others, while the files are told.

all-behind : (a b : Asking) (xs ys : List (List ℕ)) → IfSome a.held (λ m. IsSome b.held) → b.before ≡ a.now
    → AsksAll a (λ m. xs) → AsksAll b (λ m. ys) → AsksAll (both_asked a b) (λ m. xs ++ ys)
all-behind a b xs ys told joined first next = by a.held b.held told first next
  where
    by : (held mid : Option Store) → IfSome held (λ m. IsSome mid) → IfSome held (λ m. a.now ≡ a.before ++ xs)
        → IfSome mid (λ m. b.now ≡ b.before ++ ys) → IfSome held (λ m. b.now ≡ a.before ++ (xs ++ ys))
    by None mid told first next = tt
    by (Some m) None told first next = cc told
    by (Some m) (Some k) told first next =
        next ∙ ap (λ l. l ++ ys) (joined ∙ first) ∙ append_assoc a.before xs ys

some-behind : (a b : Asking) (xs ys : List (List ℕ)) → IfSome a.held (λ m. IsSome b.held) → b.before ≡ a.now
    → AsksAll a (λ m. xs) → AsksSome b (λ m. ys) → AsksSome (both_asked a b) (λ m. xs ++ ys)
some-behind a b xs ys told joined first next = by a.held b.held told first next
  where
    by : (held mid : Option Store) → IfSome held (λ m. IsSome mid) → IfSome held (λ m. a.now ≡ a.before ++ xs)
        → IfSome mid (λ m. Begins b.before b.now ys) → IfSome held (λ m. Begins a.before b.now (xs ++ ys))
    by None mid told first next = tt
    by (Some m) None told first next = cc told
    by (Some m) (Some k) told first next = record {
      first = xs ++ next.first;
      rest = next.rest;
      whole = ap (λ l. xs ++ l) next.whole ∙ sym (append_assoc xs next.first next.rest);
      grew = next.grew ∙ ap (λ l. l ++ next.first) (joined ∙ first) ∙ append_assoc a.before xs next.first;
    }

some-front : (a : Asking) (xs ys : List (List ℕ)) → AsksSome a (λ m. xs) → AsksSome a (λ m. xs ++ ys)
some-front a xs ys some = by a.held some
  where
    by : (held : Option Store) → IfSome held (λ m. Begins a.before a.now xs)
        → IfSome held (λ m. Begins a.before a.now (xs ++ ys))
    by None is = tt
    by (Some m) is = record {
      first = is.first;
      rest = is.rest ++ ys;
      whole = ap (λ l. l ++ ys) is.whole ∙ append_assoc is.first is.rest ys;
      grew = is.grew;
    }

-- What the loop over the ports has written so far, and what is left.

abbrev pub names_of : List Written → List (List ℕ)
names_of results = map (λ (w : Written). w.name) results

pub record HasWritten (whole left : List Written) (f : Seen Store) (a : Asking) (S T : Type 0) : Type 0 where
  pub done : List Written
  pub whole_is : whole ≡ done ++ left
  pub are : AreWritten f done
  pub asked : AsksAll a (λ m. names_of done)
  pub sound : S → T

still-told : (f g : Seen Store) (a b : Asking) (done : List Written) → AreWritten f done → f.old ≡ a.held → g.old ≡ f.new
    → b.held ≡ g.old → IfSome a.held (λ m. IsSome b.held)
still-told f g a b done are same joined held =
    subst (λ o. IfSome o (λ m. IsSome b.held)) same
    (subst (λ o. IfSome f.old (λ m. IsSome o)) (sym (held ∙ joined)) (by f.old f.new are.hold))
  where
    by : (held mid : Option Store) → IfSome held (λ m. IsSomeAnd mid (λ n. (name : List ℕ) → n name ≡ with_files m done name))
        → IfSome held (λ m. IsSome mid)
    by None mid hold = tt
    by (Some m) None hold = absurd hold
    by (Some m) (Some n) hold = refl

pub has-more : (whole one left : List Written) (f g : Seen Store) (a b : Asking) (S T U : Type 0)
    → HasWritten whole (one ++ left) f a S T → f.old ≡ a.held → b.held ≡ g.old → b.before ≡ a.now → g.before ≡ f.now
    → g.old ≡ f.new → WritesAll one g (Ok tt) → AsksResults one b (Ok tt) → (T → U)
    → HasWritten whole left (both f g) (both_asked a b) S U
has-more whole one left f g a b S T U has held same behind joined mid writes asks sound = record {
  done = has.done ++ one;
  whole_is = has.whole_is ∙ sym (append_assoc has.done one left);
  are = more-written f g has.done one has.are joined mid writes;
  asked = subst (λ l. AsksAll (both_asked a b) (λ m. l)) (sym (map-append (λ (w : Written). w.name) has.done one))
      (all-behind a b (names_of has.done) (names_of one) (still-told f g a b has.done has.are held mid same) behind
      has.asked asks);
  sound = λ s. sound (has.sound s);
}

-- It stops at a port.

pub stopped-writes : (whole one left : List Written) (f g : Seen Store) (a : Asking) (S T : Type 0) (e : FilesFailure)
    → HasWritten whole (one ++ left) f a S T → g.before ≡ f.now → g.old ≡ f.new → WritesAll one g (Err e)
    → WritesAll whole (both f g) (Err e)
stopped-writes whole one left f g a S T e has joined mid writes =
    more-unwritten f g has.done one left whole e has.are has.whole_is joined mid writes

pub stopped-asks : (whole one left : List Written) (f g : Seen Store) (a b : Asking) (S T : Type 0)
    → HasWritten whole (one ++ left) f a S T → f.old ≡ a.held → b.held ≡ g.old → b.before ≡ a.now → g.old ≡ f.new
    → AsksSome b (λ m. names_of one) → AsksSome (both_asked a b) (λ m. names_of whole)
stopped-asks whole one left f g a b S T has held same behind mid asks =
    let names = λ (w : Written). w.name in
    subst (λ l. AsksSome (both_asked a b) (λ m. l))
    (ap (λ l. names_of has.done ++ l) (sym (map-append names one left)) ∙ sym (map-append names has.done (one ++ left))
    ∙ ap names_of (sym has.whole_is))
    (some-behind a b (names_of has.done) (names_of one ++ names_of left)
    (still-told f g a b has.done has.are held mid same) behind has.asked (some-front b (names_of one) (names_of left) asks))

-- What a port writes is the first of what is left.

results-at : (ports : List PortConfig) (w : WorldValue AnyMaster AnyDevice) (n : ℕ) (p : PortConfig) (d : AnyDevice)
    (l : Leaf AnyDevice) → n < length ports → p ≡ get_or ports n p → d ≡ l.core.device
    → slice_get w.now.leaves n ≡ Some l
    → results_of (drop n ports) (drop n (devices_in w))
    ≡ result_of p.result d ++ results_of (drop (n + 1) ports) (drop (n + 1) (devices_in w))
results-at ports w n p d l small is left at =
    ap₂ results_of (drop_more ports n p small ∙ ap (λ x. x ∷ drop (n + 1) ports) (sym is))
    (drop-at (devices_in w) n l.core.device (get_mapped (λ (l : Leaf AnyDevice). l.core.device) w.now.leaves n l at)
    ∙ ap (λ x. x ∷ drop (n + 1) (devices_in w)) (sym left))

pub has-next : (whole : List Written) (f : Seen Store) (a : Asking) (S T : Type 0) (ports : List PortConfig)
    (w : WorldValue AnyMaster AnyDevice) (n : ℕ) (p : PortConfig) (d : AnyDevice) (l : Leaf AnyDevice)
    → n < length ports → p ≡ get_or ports n p → d ≡ l.core.device → slice_get w.now.leaves n ≡ Some l
    → HasWritten whole (results_of (drop n ports) (drop n (devices_in w))) f a S T
    → HasWritten whole (result_of p.result d ++ results_of (drop (n + 1) ports) (drop (n + 1) (devices_in w))) f a S T
has-next whole f a S T ports w n p d l small is left at has =
    subst (λ r. HasWritten whole r f a S T) (results-at ports w n p d l small is left at) has
