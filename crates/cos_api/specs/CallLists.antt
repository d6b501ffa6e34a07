-- What a list of calls with room is: the calls, and how many more it takes without asking for memory.
use Rattle.std.specs.Prelude.{ℕ, List}
use Rattle.cosim_model.specs.declared.values.Call.{Call}

pub record Kept : Type 0 where
  pub calls : List Call
  pub spare : ℕ
