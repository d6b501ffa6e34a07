use Rattle.rp_packet.specs.Values.{value_of}
use Rattle.cosim_packets.proofs.ListLaws.{adds-line, spells-one, spells-judged}
use Rattle.cosim_packets.proofs.ShowLaws.{on-ok}
use Rattle.cosim_packets.proofs.listing.add_line.Goals as goal

pub is_canonical-requires : goal.is_canonical-requires
is_canonical-requires c = spells-one _ _ c.requires

pub unreachable-requires : goal.unreachable-requires
unreachable-requires c = spells-judged _ _ _ c.requires c.in-Err.ensures.judged

pub returns : goal.returns
returns c = on-ok _ _ _ (adds-line _ _ _ _ c.in-Ok.canonical (c.in-Ok.ensures.exact (value_of c.args.packet.now) c.requires)) c.packet_line.ensures.ok
