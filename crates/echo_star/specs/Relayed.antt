-- A relay between the counter and an echo, which passes on one message each way in turn.
use Rattle.std.specs.Prelude.{ℕ, Bool, true, false, List, [], Option, Some, None}
use Rattle.relay_network.specs.RelayPackets.{RelayOutlook, Relays, RelayEnd}
use Rattle.relay_network.specs.RelayPackets.RelayOutlook.{AwaitsHub, AwaitsLeaf}
use Rattle.echo_star.specs.Echoes.{spelled}

-- The state says whether the echo is awaited.
abbrev pub awaited_side : Bool → RelayOutlook
awaited_side true = AwaitsLeaf
awaited_side false = AwaitsHub

abbrev pub other_side : Bool → Bool
other_side true = false
other_side false = true

abbrev pub echo_relays : Relays Bool (ℕ × ℕ)
echo_relays = record { outlook = awaited_side; take = λ r m. (other_side r, true) }

abbrev pub passed_to : RelayEnd Bool → Bool → ℕ × ℕ → RelayEnd Bool × (List ℕ × List ℕ)
passed_to next true m = (next, (spelled m, []))
passed_to next false m = (next, ([], spelled m))

-- What a turn of the relay did: nothing, or a message passed on to the echo or to the counter.
abbrev pub passed_of : RelayEnd Bool → Option (Bool × (ℕ × ℕ)) → Option (RelayEnd Bool × (List ℕ × List ℕ))
passed_of next None = None
passed_of next (Some r) = Some (passed_to next r.0 r.1)
