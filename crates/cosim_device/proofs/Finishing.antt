-- What is written behind a conversation, behind the files that were read.
use Rattle.std.specs.Prelude.{IfSome}
use Rattle.std.proofs.Common.{ℕ, ◌≡◌, List, [], ◌∷◌, ◌++◌, ◌∙◌, subst}
use Rattle.std.proofs.lemmas.List.{append-nil}
use Rattle.std.specs.declared.option.Option.{Option}
use Rattle.std.specs.declared.option.Option.TheVariants.{Some, None}
use Rattle.std.specs.declared.result.Result.{Result}
use Rattle.std.specs.declared.result.Result.TheVariants.{Ok, Err}
use Rattle.cos_base.specs.Stores.{Store, IsSet, KeepsOthers}
use Rattle.outcomes.specs.declared.failures.FilesFailure.{FilesFailure}
use Rattle.outcomes.specs.declared.failures.FilesFailure.TheVariants.{Failed, NoMemory}
use Rattle.outcomes.specs.Asked.{Asking, Names, AsksAll}
use Rattle.outcomes.specs.Outcomes.{Written}
use Rattle.outcomes.specs.Seen.{Seen}
use Rattle.outcomes.specs.Steps.{IsStanding, IsWritten}
use Rattle.outcomes.proofs.After.{both, joined-told, stand-after-of, stands-after, blamed-after}
use Rattle.outcomes.proofs.Asking.{both_asked, Joined, all-both, all-same}
use Rattle.cosim_serve.specs.Talks.{Ended}
use Rattle.cosim_device.specs.Served.{PortEnded, Writes, AsksWritten, Finishes}

set-after : (old mid new : Option Store) (name bytes : List ℕ) → IfSome old (λ m. mid ≡ Some m) → IsSet mid name bytes new → IsSet old name bytes new
set-after None mid new name bytes told set = tt
set-after (Some m) mid new name bytes told set = subst (λ o. IsSet o name bytes new) told set

others-after : (old mid new : Option Store) (name : List ℕ) → IfSome old (λ m. mid ≡ Some m) → IfSome mid (λ m. IfSome new (λ n. KeepsOthers m name n)) → IfSome old (λ m. IfSome new (λ n. KeepsOthers m name n))
others-after None mid new name told others = tt
others-after (Some m) mid new name told others = subst (λ o. IfSome o (λ m. IfSome new (λ n. KeepsOthers m name n))) told others

written-after : (f g : Seen Store) (name bytes : List ℕ) (w : Result Unit FilesFailure) → IsStanding f → g.before ≡ f.now → g.old ≡ f.new → IsWritten g name bytes w → IsWritten (both f g) name bytes w
written-after f g name bytes (Ok u) stands joined same (count, set) =
    (count ∙ joined ∙ stands.count, set-after f.old g.old g.new name bytes (joined-told f g stands same) set)
written-after f g name bytes (Err (Failed n)) stands joined same (blamed, others) =
    (blamed-after f.before g.before g.now n (joined ∙ stands.count) blamed, others-after f.old g.old g.new name (joined-told f g stands same) others)
written-after f g name bytes (Err NoMemory) stands joined same (count, stand) =
    (count ∙ joined ∙ stands.count, stand-after-of f.old g.old g.new (joined-told f g stands same) stand)

pub writes-after : (file : Option Written) (f g : Seen Store) (w : Result Unit FilesFailure) → IsStanding f → g.before ≡ f.now → g.old ≡ f.new → Writes file g w → Writes file (both f g) w
writes-after None f g w stands joined same (then, done) = (stands-after f g stands joined same then, done)
writes-after (Some file) f g w stands joined same written = written-after f g file.name file.bytes w stands joined same written

bare-all : (a b : Asking) (reads : Names) → Joined a b → AsksAll a reads → AsksAll b (λ m. []) → AsksAll (both_asked a b) reads
bare-all a b reads joined first then = all-same (both_asked a b) (λ m. reads m ++ []) reads (λ m. append-nil (reads m)) (all-both a b reads (λ m. []) joined first then)

pub asks-after : (file : Option Written) (a b : Asking) (reads : Names) (w : Result Unit FilesFailure) → Joined a b → AsksAll a reads → AsksWritten file (λ m. []) b w → AsksWritten file reads (both_asked a b) w
asks-after None a b reads w joined first then = bare-all a b reads joined first then
asks-after (Some file) a b reads (Ok u) joined first then = all-both a b reads (λ m. file.name ∷ []) joined first then
asks-after (Some file) a b reads (Err (Failed n)) joined first then = all-both a b reads (λ m. file.name ∷ []) joined first then
asks-after (Some file) a b reads (Err NoMemory) joined first then = bare-all a b reads joined first then

-- What was done behind the conversation was done behind all that was read.
pub finishes-after : (file : Option Written) (reads : Names) (f g : Seen Store) (a b : Asking) (S T : Type 0) (served : Ended) (r : PortEnded) → IsStanding f → g.before ≡ f.now → g.old ≡ f.new → Joined a b → AsksAll a reads
    → (S → T) → Finishes file (λ m. []) g b T served r → Finishes file reads (both f g) (both_asked a b) S served r
finishes-after file reads f g a b S T (Ok u) r stands joined same asked first under finishes = record {
  written = finishes.written;
  ends = finishes.ends;
  writes = writes-after file f g finishes.written stands joined same finishes.writes;
  sound = λ s. finishes.sound (under s);
  asks = asks-after file a b reads finishes.written asked first finishes.asks;
}
finishes-after file reads f g a b S T (Err stop) r stands joined same asked first under finishes = record {
  ends = finishes.ends;
  stands = stands-after f g stands joined same finishes.stands;
  asks = bare-all a b reads asked first finishes.asks;
}
