use Rattle.std.proofs.Common.{◌≡◌, take}
use Rattle.cosim_inputs.specs.Fresh.{windows_of}
use Rattle.cosim_inputs.proofs.master.windows.Given as goal

abbrev pub invariant-loop-port : goal.invariant-loop-port
invariant-loop-port l = l.windows.items ≡ windows_of (take l.port-index l.ports)
