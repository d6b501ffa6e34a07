-- The packet that contracts see.
use Rattle.cosim_model.specs.Packets.{Packet, Body}
use Rattle.cosim_model.specs.Packets.Body.{Nop as NopBody, Hello as HelloBody, Cfg as CfgBody, Read as ReadBody, Write as WriteBody, Interrupt as InterruptBody, Sync as SyncBody}
use Rattle.rp_packet.specs.declared.packet.Tag.{Tag}
use Rattle.rp_packet.specs.declared.packet.Packet.{Packet as HeldPacket}
use Rattle.rp_packet.specs.declared.packet.Packet.TheVariants.{Nop, Hello, Cfg, Read, Write, Interrupt, Sync}
use Rattle.rp_busaccess.specs.Bits.{fields_of}

abbrev pub tagged : Tag → Body → Packet
tagged tag b = record { id = tag.id; flags = tag.flags; dev = tag.dev; body = b }

-- what a packet is, apart from where it lies in memory
abbrev pub value_of : HeldPacket → Packet
value_of (Nop tag) = tagged tag NopBody
value_of (Hello tag h) = tagged tag (HelloBody h.major h.minor h.caps)
value_of (Cfg tag c) = tagged tag (CfgBody c.opt c.set)
value_of (Read tag b) = tagged tag (ReadBody (fields_of b))
value_of (Write tag b) = tagged tag (WriteBody (fields_of b))
value_of (Interrupt tag i) = tagged tag (InterruptBody i.time i.vector i.line i.val)
value_of (Sync tag s) = tagged tag (SyncBody s.time)
