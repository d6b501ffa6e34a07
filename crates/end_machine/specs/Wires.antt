-- What the links of a machine end tell, by port.
use Rattle.std.specs.Prelude.{◌≡◌, ℕ, List, [], map, Option, Some, None, slice_get}
use Rattle.process_network.specs.Network.{Streams}
use Rattle.cos_base.specs.Links.{Wire}

-- all that the link of a port gives for sent bytes
abbrev pub Said : Type 0
Said = ℕ → List ℕ → List ℕ

abbrev pub sent_of : Option Wire → List ℕ
sent_of None = []
sent_of (Some w) = w.sent

abbrev pub received_of : Option Wire → List ℕ
received_of None = []
received_of (Some w) = w.received

abbrev pub said_of : Option Wire → List ℕ → List ℕ
said_of None bytes = []
said_of (Some w) bytes = w.said bytes

abbrev pub sent_on : List Wire → Streams
sent_on ws p = sent_of (slice_get ws p)

abbrev pub received_on : List Wire → Streams
received_on ws p = received_of (slice_get ws p)

abbrev pub said_on : List Wire → Said
said_on ws p = said_of (slice_get ws p)

-- all links tell, and they tell this
abbrev pub AllTell : List (Option Wire) → List Wire → Type 0
AllTell told ws = told ≡ map (λ w. Some w) ws
