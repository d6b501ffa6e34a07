use Rattle.std.proofs.Common.{◌≡◌, ◌++◌, map, take}
use Rattle.cosim_model.specs.Direct.Moment.{Called}
use Rattle.histories.proofs.merging.push_calls.Given as goal

abbrev pub invariant-calls : goal.invariant-calls
invariant-calls l = l.moments ≡ l.fn.moments ++ map Called (take l.call-index l.calls)
