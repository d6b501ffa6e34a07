use Rattle.rp_header.specs.Numbers.{be}
use Rattle.rp_control.proofs.cfg.Cfg.write.Goals as goal

pub returns : goal.returns
unfolding be
returns c = simp (c.write_u8.ensures, c.write_u32.ensures)
