-- What the UARTs sent, as the calls of a run tell it.
use Rattle.std.specs.Prelude.{◌≡◌, ℕ, ◌%◌, ◌&&◌, nat_eq, if◌then◌else◌, List, [], ◌∷◌, map}
use Rattle.std.specs.List.{flat_map}
use Rattle.cosim_model.specs.declared.values.Call.{Call}
use Rattle.cosim_model.specs.declared.values.Call.TheVariants as call
use Rattle.transcript.specs.declared.ending.Out.{Out}

-- the low byte of a write of size 4 at address 0 of the port, posted or not, and refused or not
abbrev pub sent_in : ℕ → Call → List ℕ
sent_in p (call.Access tick port a x) = if nat_eq port p && a.write && nat_eq a.size 4
    && nat_eq a.addr 0 then a.value % 256 ∷ [] else []
sent_in p (call.Served tick port due w r) = []

-- what the UART of a port sent
abbrev pub sent_by : List Call → ℕ → List ℕ
sent_by calls p = flat_map (sent_in p) calls

-- a port, and what its UART sent
abbrev pub port_and_bytes : Out → ℕ × List ℕ
port_and_bytes o = (o.port, o.bytes.bytes)

abbrev pub port_and_sent : List Call → ℕ → ℕ × List ℕ
port_and_sent calls p = (p, sent_by calls p)

-- These are the UARTs of the ports, with what they sent.
abbrev pub AreSent : List Call → List ℕ → List Out → Type 0
AreSent calls ports outs = map port_and_bytes outs ≡ map (port_and_sent calls) ports
