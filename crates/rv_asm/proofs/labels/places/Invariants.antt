use Rattle.std.proofs.Common.{◌≡◌, ◌++◌, List, ℕ, length, nat_cmp}
use Rattle.std.specs.BTreeMap.{get_by}
use Rattle.std.specs.Cmp.Lexicographic.{slice_cmp}
use Rattle.rv_asm.specs.Programs.{Placed, program, first_with}
use Rattle.rv_asm.specs.Places.{place_of}
use Rattle.rv_asm.specs.Views.{left}
use Rattle.rv_asm.proofs.labels.places.Given as goal

abbrev pub invariant-lines : goal.invariant-lines
invariant-lines l =
    (passed : List Placed) × (program l.origin l.fn.text ≡ passed ++ left l.lines) × ((name : List ℕ) → get_by (λ k. slice_cmp nat_cmp name k.now) l.places ≡ place_of (first_with name passed))

abbrev pub decreases-lines : goal.decreases-lines
decreases-lines l = length (left l.lines)
