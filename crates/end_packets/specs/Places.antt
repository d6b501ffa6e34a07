-- The place of a bus packet that is sent, and the bus packets that can be answered.
use Rattle.std.specs.Prelude.{◌≡◌, ℕ, ◌<◌, false}
use Rattle.cosim_model.specs.Packets.{BusFields, is_extended}

-- how many data bytes it takes without asking for memory
pub record Rooms : Type 0 where
  pub room : ℕ

-- In the old layout a master has 16 bits. So it is in each packet that was read.
abbrev pub IsNarrow : BusFields → Type 0
IsNarrow f = is_extended f ≡ false → f.master < 65536
