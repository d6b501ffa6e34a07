-- How the steps of `local` make up its promise, where its results are written.
use Rattle.std.specs.Prelude.{IfSome}
use Rattle.std.proofs.Common.{ℕ, ◌≡◌, List, [], ◌++◌, ap, sym, inr}
use Rattle.std.proofs.lemmas.List.{append-nil}
use Rattle.std.specs.declared.option.Option.{Option}
use Rattle.std.specs.declared.option.Option.TheVariants.{Some, None}
use Rattle.std.specs.declared.result.Result.TheVariants.{Ok, Err}
use Rattle.cos_base.specs.Stores.{Store}
use Rattle.cosim_inputs.proofs.Asking.{all-told, some-told}
use Rattle.outcomes.specs.declared.failures.FilesFailure.{FilesFailure}
use Rattle.outcomes.specs.declared.failures.FilesFailure.TheVariants as files
use Rattle.outcomes.specs.declared.failures.ReadFault.{ReadFault}
use Rattle.outcomes.specs.declared.failures.ReadFault.TheVariants as read
use Rattle.outcomes.specs.Asked.{Asking, Names, AsksAll, AsksSome, AsksUpTo, AsksFor}
use Rattle.outcomes.specs.Failures.{stop_of_files, stop_of_read}
use Rattle.outcomes.specs.Outcomes.{Outcome, Written, Works, Performs}
use Rattle.outcomes.specs.Seen.{Seen, IsUntouched}
use Rattle.outcomes.specs.Steps.{IsStanding, BlamesNone}
use Rattle.outcomes.proofs.After.{both}
use Rattle.outcomes.proofs.Asking.{Joined, both_asked, all-both, some-both}
use Rattle.outcomes.proofs.Writing.{AreWritten, nothing-written}
use Rattle.cosim_local.specs.Steps.{AsksResults, WritesAll}
use Rattle.cosim_local.proofs.Naming.{some-more}
use Rattle.cosim_local.proofs.Writing.{more-written, more-unwritten, names_of}

-- Results are written behind files that were read.
pub read-written : (f g : Seen Store) (results : List Written) → IsStanding f → g.before ≡ f.now → g.old ≡ f.new
    → WritesAll results g (Ok tt) → AreWritten (both f g) results
read-written f g results stands joined same writes =
    more-written f g [] results (nothing-written f stands) joined same writes

pub results-unwritten : {R : Type 0} (Comes : Outcome R → Type 0) (f g : Seen Store) (k : Seen (List ℕ)) (S : Type 0)
    (room : ℕ) (results : List Written) (text : List ℕ) (e : FilesFailure) → Comes (Works results text) → IsStanding f
    → g.before ≡ f.now → g.old ≡ f.new → WritesAll results g (Err e) → IsUntouched k → (S → BlamesNone (Err e))
    → Performs Comes (both f g) k S room (Err (stop_of_files e))
results-unwritten Comes f g k S room results text (files.Failed n) comes stands joined same writes untouched none =
    let behind = more-unwritten f g [] results [] results (files.Failed n) (nothing-written f stands)
    (sym (append-nil results)) joined same writes in
    record {
      blames = (behind.0, untouched.count);
      ends = (untouched, inr (results, text, comes, behind.1, behind.2));
      sound = λ s. absurd (none s);
      complete = λ s. absurd (none s);
      before = λ s. tt;
    }
results-unwritten Comes f g k S room results text files.NoMemory comes stands joined same writes untouched none =
    let behind = more-unwritten f g [] results [] results files.NoMemory (nothing-written f stands)
    (sym (append-nil results)) joined same writes in
    record {
      blames = (behind.0, untouched.count);
      ends = (untouched, inr (results, text, comes, behind.1, behind.2));
      sound = λ s. tt;
      complete = λ s o comes. tt;
      before = λ s. tt;
    }

-- The names.

pub unread-asks : {R : Type 0} (reads writes : Names) (a : Asking) (fault : ReadFault R) → AsksUpTo reads a fault
    → AsksFor reads writes a (Err (stop_of_read fault))
unread-asks reads writes a (read.Refused r) asks = asks
unread-asks reads writes a (read.Failed n) asks = some-more a reads writes asks
unread-asks reads writes a read.NoMemory asks = some-more a reads writes asks

behind-names : (old : Option Store) (reads writes : Names) (results : List Written)
    → IfSome old (λ m. writes m ≡ names_of results) → IfSome old (λ m. reads m ++ names_of results ≡ reads m ++ writes m)
behind-names None reads writes results are = tt
behind-names (Some m) reads writes results are = ap (λ l. reads m ++ l) (sym are)

pub results-asked : (reads writes : Names) (a b : Asking) (results : List Written)
    → IfSome a.held (λ m. writes m ≡ names_of results) → Joined a b → AsksAll a reads → AsksResults results b (Ok tt)
    → AsksAll (both_asked a b) (λ m. reads m ++ writes m)
results-asked reads writes a b results are joined first next =
    all-told (both_asked a b) (λ m. reads m ++ names_of results) (λ m. reads m ++ writes m)
    (behind-names a.held reads writes results are) (all-both a b reads (λ m. names_of results) joined first next)

pub results-some : (R : Type 0) (reads writes : Names) (a b : Asking) (results : List Written) (e : FilesFailure)
    → IfSome a.held (λ m. writes m ≡ names_of results) → Joined a b → AsksAll a reads → AsksResults results b (Err e)
    → AsksFor {R = R} reads writes (both_asked a b) (Err (stop_of_files e))
results-some R reads writes a b results e are joined first next = by e
  where
    some : AsksSome (both_asked a b) (λ m. reads m ++ writes m)
    some =
        some-told (both_asked a b) (λ m. reads m ++ names_of results) (λ m. reads m ++ writes m)
        (behind-names a.held reads writes results are) (some-both a b reads (λ m. names_of results) joined first next)

    by : (e : FilesFailure) → AsksFor {R = R} reads writes (both_asked a b) (Err (stop_of_files e))
    by (files.Failed n) = some
    by files.NoMemory = some
