-- How a command's promise is made that of the program.
use Rattle.std.proofs.Common.{ℕ, List, []}
use Rattle.std.specs.declared.result.Result.{Result}
use Rattle.std.specs.declared.result.Result.TheVariants.{Ok, Err}
use Rattle.cos_base.specs.Stores.{Store}
use Rattle.outcomes.specs.declared.object.Object.TheVariants as object
use Rattle.outcomes.specs.declared.stop.Stop.{Stop}
use Rattle.outcomes.specs.declared.stop.Stop.TheVariants.{Refused, Outside, NoMemory}
use Rattle.outcomes.specs.Asked.{Asking, AsksNone, AsksFor}
use Rattle.outcomes.specs.Seen.{Seen}
use Rattle.outcomes.specs.Outcomes.{Outcome, Blames, Performs}
use Rattle.outcomes.proofs.Asking.{none-all, none-begins}

-- A promise over sound objects is one over more sound ones.
pub performs-under : {R : Type 0} (Comes : Outcome R → Type 0) (f : Seen Store) (k : Seen (List ℕ)) (S T : Type 0) (room : ℕ) (r : Result Unit (Stop R)) → (S → T) → Performs Comes f k T room r → Performs Comes f k S room r
performs-under Comes f k S T room r under performs = record {
  blames = performs.blames;
  ends = performs.ends;
  sound = λ s. performs.sound (under s);
  complete = λ s. performs.complete (under s);
  before = λ s. performs.before (under s);
}

-- A command that asks for no file: it blames none but the files and `out`.
pub none-asked : {R : Type 0} (Comes : Outcome R → Type 0) (f : Seen Store) (k : Seen (List ℕ)) (S : Type 0) (room : ℕ)
    (a : Asking) (r : Result Unit (Stop R)) → AsksNone a → Performs Comes f k S room r
    → AsksFor (λ m. []) (λ m. []) a r
none-asked {R} Comes f k S room a r none performs = by r performs.blames
  where
    by : (r : Result Unit (Stop R)) → Blames f k r → AsksFor (λ m. []) (λ m. []) a r
    by (Ok u) blames = none-all a none
    by (Err (Refused x)) blames = none-all a none
    by (Err (Outside object.Files n)) blames = none-begins a (λ m. []) (none-all a none)
    by (Err (Outside object.Out n)) blames = none-all a none
    by (Err (Outside object.Net n)) blames = blames
    by (Err (Outside (object.Link port) n)) blames = blames
    by (Err (Outside object.Spawner n)) blames = blames
    by (Err NoMemory) blames = none-begins a (λ m. []) (none-all a none)
