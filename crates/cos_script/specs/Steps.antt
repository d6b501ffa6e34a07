-- The steps of a script: which of them fit a machine, and the accesses that they issue.
use Rattle.std.specs.Prelude.{ℕ, ◌^◌, ◌==◌, Bool, true, false, ◌&&◌, ◌||◌, nat_le, nat_lt, Option, Some, None}
use Rattle.cosim_model.specs.declared.values.Bus.{Bus}
use Rattle.cos_script.specs.Lanes.{all_lanes}
use Rattle.cos_script.specs.declared.step.ScriptStep.{ScriptStep}
use Rattle.cos_script.specs.declared.step.ScriptStep.TheVariants.{Read, Write, Wait}

abbrev pub is_size : ℕ → Bool
is_size n = (n == 1) || (n == 2) || (n == 4) || (n == 8)

-- One to a million units.
abbrev pub is_wait : ℕ → Bool
is_wait units = nat_le 1 units && nat_le units 1000000

-- A port that the machine has, an address of 64 bits, a size of an access, a value of that size; a wait.
abbrev pub fits : ℕ → ScriptStep → Bool
fits ports (Read port addr size) = nat_lt port ports && (nat_lt addr (2 ^ 64) && is_size size)
fits ports (Write port addr size value posted) = nat_lt port ports
    && (nat_lt addr (2 ^ 64) && (is_size size && nat_lt value (256 ^ size)))
fits ports (Wait units) = is_wait units

-- The access of a step, with every lane.
abbrev pub bus_of : ScriptStep → Option Bus
bus_of (Read port addr size) =
    Some (record {
      port = port;
      access = record { write = false; posted = false; addr = addr; size = size; value = 0; lanes = all_lanes size };
    })
bus_of (Write port addr size value posted) =
    Some (record {
      port = port;
      access =
          record { write = true; posted = posted; addr = addr; size = size; value = value; lanes = all_lanes size };
    })
bus_of (Wait units) = None
