-- Which of some data bytes are enabled by enable bytes.
use Rattle.std.specs.Prelude.{ℕ, Bool, List, map}
use Rattle.cosim_model.specs.Packets.{is_enabled, count_from}

abbrev pub enabled_by : List ℕ → ℕ → List Bool
enabled_by enables n = map (is_enabled enables) (count_from 0 n)
