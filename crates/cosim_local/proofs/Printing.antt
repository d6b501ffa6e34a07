-- Two texts that are printed one behind the other.
use Rattle.std.proofs.Common.{◌≡◌, ℕ, ◌+◌, List, [], ◌++◌, length, IsSome, refl, sym, ap, ◌∙◌, arith, length-append}
use Rattle.std.proofs.lemmas.List.{append-nil}
use Rattle.std.specs.declared.option.Option.{Option}
use Rattle.std.specs.declared.option.Option.TheVariants.{Some, None}
use Rattle.std.specs.declared.result.Result.{Result}
use Rattle.std.specs.declared.result.Result.TheVariants.{Ok, Err}
use Rattle.cos_base.specs.declared.sinks.Failed.{Failed}
use Rattle.cos_base.specs.Sinks.{Puts, written}
use Rattle.outcomes.specs.declared.failures.OutFailure.{OutFailure}
use Rattle.outcomes.specs.Outcomes.{PrintsAll, PrintsPart}
use Rattle.outcomes.specs.Seen.{Seen, CountStands}
use Rattle.outcomes.specs.Steps.{IsPrinted, IsRoomFor}
use Rattle.outcomes.proofs.After.{both, blamed-after}
use Rattle.transcript.specs.Moves.{Passes}
use Rattle.transcript.proofs.Moving.{passes-breaks, puts-last}

-- the first was put, and the second is still to be
first-passes : (a b : Option (List ℕ)) (t u : List ℕ) → Puts a b t (Ok tt) → Passes a b [] u (t ++ u)
first-passes None b t u is = tt
first-passes (Some old) b t u is = (t, refl, is)

pub printed-both : (j k : Seen (List ℕ)) (t u : List ℕ) (r : Result Unit OutFailure) → CountStands j → PrintsAll j t
    → k.before ≡ j.now → k.old ≡ j.new → IsPrinted k u r → IsPrinted (both j k) (t ++ u) r
printed-both j k t u (Ok x) stands first joined same printed = (
  printed.0 ∙ joined ∙ stands,
  puts-last j.old k.old k.new [] u (t ++ u) (Ok tt) (rw same (first-passes j.old j.new t u first)) printed.1,
)
printed-both j k t u (Err e) stands first joined same printed = (
  blamed-after j.before k.before k.now e.count (joined ∙ stands) printed.0,
  (
    printed.1.0,
    puts-last j.old k.old k.new [] u (t ++ u) (Err printed.1.0) (rw same (first-passes j.old j.new t u first)) printed.1.1,
  ),
)

nothing-passes : (a : Option (List ℕ)) → Passes a a [] [] []
nothing-passes None = tt
nothing-passes (Some old) = ([], refl, ap (λ l. Some l) (sym (append-nil old)))

-- a beginning of the first is one of both
pub first-part : (j : Seen (List ℕ)) (t u : List ℕ) (e : Failed) → Puts j.old j.new t (Err e) → PrintsPart j (t ++ u)
first-part j t u e puts =
    (e, passes-breaks j.old j.old j.new [] [] [] t u e (nothing-passes j.old) puts)

-- A sink has room for both exactly where it has room for the second behind the first.
pub room-both : (a b : Option (List ℕ)) (room left : ℕ) (t u : List ℕ) (r : Result Unit OutFailure) → IsSome a
    → Puts a b t (Ok tt) → left + length (written b) ≡ room + length (written a) → IsRoomFor left u r
    → IsRoomFor room (t ++ u) r
room-both None b room left t u r some first lowers is = cc some
room-both (Some old) b room left t u (Ok x) some first lowers is =
    let reached : length (written b) ≡ length old + length t =
    ap (λ o. length (written o)) first ∙ length-append old t in
    let all = length-append t u in
    omega arith
room-both (Some old) b room left t u (Err e) some first lowers is =
    let reached : length (written b) ≡ length old + length t =
    ap (λ o. length (written o)) first ∙ length-append old t in
    let all = length-append t u in
    omega arith
