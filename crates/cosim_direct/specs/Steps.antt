-- What `direct` has come to before it prints: a run that is over.
use Rattle.std.specs.Prelude.{ℕ, List, []}
use Rattle.cos_base.specs.Stores.{Store}
use Rattle.outcomes.specs.Seen.{Seen}
use Rattle.outcomes.specs.Outcomes.{Works}
use Rattle.outcomes.specs.Steps.{IsStanding}
use Rattle.transcript.specs.ClosingLines.{run_text}
use Rattle.cosim_direct.specs.declared.finished.Finished.{Finished}
use Rattle.cosim_direct.specs.Directs.{DirectComes}

-- The text of the run is what the command comes to.
pub record IsRun (f : Seen Store) (name : List ℕ) (done : Finished) : Type 0 where
  pub stands : IsStanding f
  pub comes : DirectComes f.old name (Works [] (run_text done.calls.calls done.end))
