-- What reading the words of a line does. What is left of the line is a list of bytes, or none after a word that was
-- refused.
use Rattle.std.specs.Prelude.{◌≡◌, ℕ, ◌<◌, ◌≤◌, ◌^◌, true, List, [], ◌∷◌, ◌++◌, decimal, map, Option, Some, None}
use Rattle.cosim_model.specs.Packets.{Body, BusFields, command_of}
use Rattle.cosim_model.specs.declared.session.Command.{Command}
use Rattle.rp_control.specs.Controls.{AreWords}
use Rattle.rp_header.specs.Numbers.{AreBytes}
use Rattle.rp_packet.specs.declared.packet.Tag.{Tag}
use Rattle.rp_packet.specs.Spelling.{BusFits, BodyFits}
use Rattle.cos_text.specs.Numbers.{hex_text}
use Rattle.rp_text.specs.Texts.{bytes_text, spaced, bus_words, body_words, HoldsBytes}
use Rattle.rp_text.specs.Words.{no_blank}

-- Some word was taken, or nothing is left.
abbrev pub TakesWord : Option (List ℕ) → Option (List ℕ) → Option (List ℕ) → Type 0
TakesWord old None new = (new ≡ None)
    × ((w : List ℕ) (ws : List (List ℕ)) → no_blank w ≡ true → old ≡ Some (spaced (w ∷ ws)) → ⊥)
TakesWord old (Some u) new =
    ((more : List ℕ) → new ≡ Some more → old ≡ Some (32 ∷ u ++ more))
    × ((w : List ℕ) (ws : List (List ℕ)) → no_blank w ≡ true → old ≡ Some (spaced (w ∷ ws)) → (u ≡ w)
    × (new ≡ Some (spaced ws)))

-- A decimal number of at most this size was taken: it stood in front of what is left, if anything is, and where such a
-- number stood first, it was taken.
pub record TakesNumber (most : ℕ) (old new : Option (List ℕ)) (number : ℕ) : Type 0 where
  pub small : number ≤ most
  pub read : (more : List ℕ) → new ≡ Some more → old ≡ Some (32 ∷ decimal number ++ more)
  pub exact : (n : ℕ) (ws : List (List ℕ)) → n ≤ most → old ≡ Some (spaced (decimal n ∷ ws)) → (number ≡ n)
      × (new ≡ Some (spaced ws))

-- a number in hexadecimal
pub record TakesHex (old new : Option (List ℕ)) (number : ℕ) : Type 0 where
  pub small : number < 2 ^ 64
  pub read : (more : List ℕ) → new ≡ Some more → old ≡ Some (32 ∷ hex_text number ++ more)
  pub exact : (n : ℕ) (ws : List (List ℕ)) → n < 2 ^ 64 → old ≡ Some (spaced (hex_text n ∷ ws)) → (number ≡ n)
      × (new ≡ Some (spaced ws))

-- bytes
pub record TakesBytes (old new : Option (List ℕ)) (bytes : List ℕ) : Type 0 where
  pub each : AreBytes bytes
  pub read : (more : List ℕ) → new ≡ Some more → old ≡ Some (32 ∷ bytes_text bytes ++ more)
  pub exact : (bs : List ℕ) (ws : List (List ℕ)) → AreBytes bs → old ≡ Some (spaced (bytes_text bs ∷ ws)) → (bytes ≡ bs)
      × (new ≡ Some (spaced ws))

-- three numbers
pub record TakesTag (old new : Option (List ℕ)) (tag : Tag) : Type 0 where
  pub id_fits : tag.id < 2 ^ 32
  pub flags_fit : tag.flags < 2 ^ 32
  pub dev_fits : tag.dev < 2 ^ 32
  pub read : (ws : List (List ℕ)) → new ≡ Some (spaced ws) → old
      ≡ Some (spaced (decimal tag.id ∷ decimal tag.flags ∷ decimal tag.dev ∷ ws))
  pub exact : (t : Tag) (ws : List (List ℕ)) → t.id < 2 ^ 32 → t.flags < 2 ^ 32 → t.dev < 2 ^ 32
      → old ≡ Some (spaced (decimal t.id ∷ decimal t.flags ∷ decimal t.dev ∷ ws)) → (tag ≡ t) × (new ≡ Some (spaced ws))

-- all words that are left, as capabilities
pub record TakesCaps (old new : Option (List ℕ)) (caps : List ℕ) : Type 0 where
  pub each : AreWords caps
  pub read : new ≡ Some [] → old ≡ Some (spaced (map decimal caps))
  pub exact : (ns : List ℕ) → AreWords ns → old ≡ Some (spaced (map decimal ns)) → (caps ≡ ns) × (new ≡ Some [])

-- all words that are left, as those of a read or a write
pub record TakesBus (old new : Option (List ℕ)) (fields : BusFields) : Type 0 where
  pub fits : BusFits fields
  pub payload : AreBytes fields.payload
  pub enables : AreBytes fields.enables
  pub read : new ≡ Some [] → old ≡ Some (spaced (bus_words fields))
  pub exact : (f : BusFields) → BusFits f → AreBytes f.payload → AreBytes f.enables → old ≡ Some (spaced (bus_words f))
      → (fields ≡ f) × (new ≡ Some [])

-- all words that are left, as those of a body of this command
pub record TakesBody (command : Command) (old new : Option (List ℕ)) (body : Body) : Type 0 where
  pub named : command_of body ≡ command
  pub fits : BodyFits body
  pub bytes : HoldsBytes body
  pub read : new ≡ Some [] → old ≡ Some (spaced (body_words body))
  pub exact : (b : Body) → command_of b ≡ command → BodyFits b → HoldsBytes b → old ≡ Some (spaced (body_words b))
      → (body ≡ b) × (new ≡ Some [])
