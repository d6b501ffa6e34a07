-- How many bytes the words of a packet have at most, each with its blank.
use Rattle.std.specs.Prelude.{ℕ, ◌+◌, ◌*◌, List, length}
use Rattle.cosim_model.specs.Packets.{Body, BusFields}
use Rattle.cosim_model.specs.Packets.Body.{Hello, Read, Write}

abbrev pub hello_room : List ℕ → ℕ
hello_room caps = 42 + 21 * length caps

abbrev pub bus_room : BusFields → ℕ
bus_room f = 151 + 2 * length f.payload + 2 * length f.enables

abbrev pub body_room : Body → ℕ
body_room (Hello major minor caps) = hello_room caps
body_room (Read f) = bus_room f
body_room (Write f) = bus_room f
body_room _ = 84
