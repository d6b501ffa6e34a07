-- Packets that can be written, one by one.
use Rattle.std.proofs.Common.{List, [], ◌∷◌, All}
use Rattle.std.proofs.lemmas.List.Elements.{All-head, All-tail}
use Rattle.cosim_model.specs.Packets.{Packet, IsWritable}
use Rattle.every_schedule.proofs.Lists.{Each}

pub each-writable : (ps : List Packet) → All IsWritable ps → Each IsWritable ps
each-writable [] all = tt
each-writable (p ∷ ps) all = (All-head IsWritable p ps all, each-writable ps (All-tail IsWritable p ps all))
