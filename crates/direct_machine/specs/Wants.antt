-- The port whose want is served first.
use Rattle.std.specs.Prelude.{ℕ, nat_lt, if◌then◌else◌, List, map, Option, Some, None, option_map}
use Rattle.cosim_model.specs.Parts.{DeviceModel}
use Rattle.cosim_model.specs.Order.{least}

-- When the present want of a device arose, where it has one.
abbrev pub wanted_at : {S : Type 0} → DeviceModel S → S → Option ℕ
wanted_at d s = option_map (λ w. d.due s) (d.want s)

abbrev pub first_port : {S : Type 0} → DeviceModel S → List S → Option ℕ
first_port d ss = option_map (λ r. r.0) (least (map (wanted_at d) ss))

-- Of a port, with the due time of its want, and one found behind it: the one that is due first, and the former among
-- equals.
abbrev pub earlier_of : ℕ → Option ℕ → Option (ℕ × ℕ) → Option (ℕ × ℕ)
earlier_of port None found = found
earlier_of port (Some due) None = Some (port, due)
earlier_of port (Some due) (Some r) = if nat_lt r.1 due then Some r else Some (port, due)
