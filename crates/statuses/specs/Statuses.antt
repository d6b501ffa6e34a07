-- The number that the program ends with.
use Rattle.std.specs.Prelude.{ℕ}
use Rattle.statuses.specs.declared.status.Status.{Status}
use Rattle.statuses.specs.declared.status.Status.TheVariants as status

abbrev pub code_of : Status → ℕ
code_of status.Done = 0
code_of (status.Usage index) = 1
code_of (status.Config f) = 2
code_of (status.Input f) = 3
code_of (status.Peer port f) = 4
code_of (status.Outside o count) = 5
code_of status.NoMemory = 6
code_of (status.Child port s) = 8
