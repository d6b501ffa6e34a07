use Rattle.std.proofs.Common.{refl}
use Rattle.device_peer.proofs.peer.DevicePeerPeer.hear.Goals as goal

pub invariant_of-self-in-Err : goal.invariant_of-self-in-Err
invariant_of-self-in-Err g c = tt

pub returns-in-Err-clause-err : goal.returns-in-Err-clause-err
returns-in-Err-clause-err g c = refl
