use Rattle.std.proofs.Common.{sym, subst, List, ℕ}
use Rattle.rp_packet.specs.Spelling.{Spells}
use Rattle.rp_packet.specs.Values.{value_of}
use Rattle.rp_packet.specs.Reading.{IsOnePacket, IsReadFault}
use Rattle.rp_framing.specs.FrontLaws.{one-packet, front-packet, front-late, front-early}
use Rattle.rp_framing.proofs.front.front_of.Goals as goal

pub read-requires : goal.read-requires
read-requires c =
    subst (λ (b : List ℕ). IsOnePacket b) (sym c.split_at.ensures.front) (one-packet c.args.held.now c.in-Ok.size c.in-Ok.ensures.len c.if-held-size.false)

pub returns-in-Ok-read : goal.returns-in-Ok-read
returns-in-Ok-read c =
    let spelled = subst (λ (b : List ℕ). Spells (value_of c.in-Ok-read.packet) b) c.split_at.ensures.front c.in-Ok-read.ensures.ok in
    (front-packet c.args.held.now c.in-Ok.size (value_of c.in-Ok-read.packet) c.if-held-size.false spelled, spelled)

pub returns-in-Err-read : goal.returns-in-Err-read
returns-in-Err-read c =
    front-late c.args.held.now c.in-Ok.size c.in-Err-read.fault c.if-held-lt20.false c.in-Ok.ensures.lawful c.in-Ok.ensures.len c.if-held-size.false
    (subst (λ (b : List ℕ). IsReadFault b c.in-Err-read.fault) c.split_at.ensures.front c.in-Err-read.ensures.malformed)

pub returns-in-Err : goal.returns-in-Err
returns-in-Err c = front-early c.args.held.now c.in-Err.fault c.if-held-lt20.false c.in-Err.ensures.refused
