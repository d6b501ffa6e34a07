use Rattle.std.proofs.Common.{drop}
use Rattle.outcomes.specs.Asked.{asking}
use Rattle.outcomes.specs.Seen.{seen}
use Rattle.cosim_local.specs.Results.{results_of}
use Rattle.cosim_local.specs.Steps.{devices_in}
use Rattle.cosim_local.proofs.Writing.{HasWritten}
use Rattle.cosim_local.proofs.results.write_results.Given as goal

abbrev pub invariant-loop-port : goal.invariant-loop-port
invariant-loop-port g l =
    HasWritten (results_of l.ports (devices_in l.world)) (results_of (drop l.port l.ports) (drop l.port (devices_in l.world)))
    (seen g.F.Files.count g.F.Files.told l.fn.files l.files) (asking g.F.Files.told g.F.Files.asked l.fn.files l.files)
    (g.F.Files.sound l.fn.files) (g.F.Files.sound l.files)
