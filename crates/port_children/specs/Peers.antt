-- The children of a machine's ports: their sockets, and the words that start them.
use Rattle.std.specs.Prelude.{ℕ, ◌+◌, List, [], ◌∷◌, map, codes, decimal}
use Rattle.std.specs.declared.option.Option.{Option}
use Rattle.std.specs.declared.option.Option.TheVariants.{Some, None}
use Rattle.cos_config.specs.declared.config.PortConfig.{PortConfig}

-- a name that may be there; none's is empty
abbrev pub name_of : Option (List ℕ) → List ℕ
name_of None = []
name_of (Some name) = name

-- the sockets, by port
abbrev pub sockets_of : List PortConfig → List (List ℕ)
sockets_of ports = map (λ (p : PortConfig). name_of p.socket) ports

-- The words that start the child of a port: PROGRAM device SOCKET CONFIG PORT.
abbrev pub child_words : List ℕ → List ℕ → List ℕ → ℕ → List (List ℕ)
child_words program config socket port = program ∷ codes "device" ∷ socket ∷ config ∷ decimal port ∷ []

-- of the children of this port and those behind it
abbrev pub words_from : List ℕ → List ℕ → ℕ → List (List ℕ) → List (List (List ℕ))
words_from program config port [] = []
words_from program config port (socket ∷ sockets) =
    child_words program config socket port ∷ words_from program config (port + 1) sockets
