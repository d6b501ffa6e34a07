use Rattle.rp_header.specs.Numbers.{be}
use Rattle.rp_busaccess.proofs.writer.second_half.Goals as goal

pub returns : goal.returns
unfolding be
returns c = simp (c.write_u32-4.ensures, c.write_u32-3.ensures, c.write_u32-2.ensures, c.write_u32.ensures, c.write_u16.ensures)
