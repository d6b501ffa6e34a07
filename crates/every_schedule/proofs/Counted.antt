-- The silent moves of a run, counted by its history.
use Rattle.cosim_model.specs.declared.values.Call.{Call}
use Rattle.cosim_model.specs.Direct.Moment.{Called}
use Rattle.std.proofs.Common.{◌≡◌, ℕ, suc, ◌+◌, List, [], ◌∷◌, ◌++◌, refl, arith}
use Rattle.process_network.specs.PacketStar.{PacketWorld}
use Rattle.cosim_model.specs.Parts.{DeviceModel, MasterModel}
use Rattle.cosim_model.specs.Packets.{Decoded, Codec}
use Rattle.ends_model.specs.DeviceTurn.{DeviceEnd}
use Rattle.ends_model.specs.MachineTurn.{MachineEnd}
use Rattle.cosim_model.specs.Direct.{Moment}
use Rattle.ends_model.specs.World.{Side}
use Rattle.every_schedule.specs.Counts.{one_access, accesses_in, boundaries_in, lonely_in, one_posted, posted_in}
use Rattle.every_schedule.proofs.Leads.{LeadsBy, leads_by}

accesses_append : (a b : List Moment) → accesses_in (a ++ b) ≡ accesses_in a + accesses_in b
accesses_append [] b = omega arith
accesses_append (e ∷ a) b = let r = accesses_append a b in omega arith

boundaries_append : (a b : List Moment) → boundaries_in (a ++ b) ≡ boundaries_in a + boundaries_in b
boundaries_append [] b = omega arith
boundaries_append (e ∷ a) b = let r = boundaries_append a b in omega arith

posted_append : (sides : List Side) (a b : List Moment) → posted_in sides (a ++ b) ≡ posted_in sides a + posted_in sides b
posted_append sides [] b = omega arith
posted_append sides (e ∷ a) b = let r = posted_append sides a b in omega arith

lonely_append : (sides : List Side) (a b : List Moment) → lonely_in sides (a ++ b) ≡ lonely_in sides a + lonely_in sides b
lonely_append [] a b = boundaries_append a b
lonely_append (side ∷ sides) a b = omega arith

-- Silent moves, and accesses, on one side; ticks, posted wants, and boundaries without ports, on the other.
abbrev pub IsCount : List Side → ℕ → ℕ → ℕ → List Moment → List Moment → Type 0
IsCount sides n t t' h h' = n + accesses_in h' + (t + posted_in sides h + lonely_in sides h) ≡ accesses_in h + (t' + posted_in sides h' + lonely_in sides h')

pub count_none : (sides : List Side) (t : ℕ) (h : List Moment) → IsCount sides 0 t t h h
count_none sides t h = omega arith

pub count_on : (sides : List Side) (n n' t t' t'' : ℕ) (h h' h'' : List Moment) → IsCount sides n t t' h h' → IsCount sides n' t' t'' h' h'' → IsCount sides (n + n') t t'' h h''
count_on sides n n' t t' t'' h h' h'' f g = omega arith

-- One more moment.
pub count_one : (sides : List Side) (n t t' : ℕ) (h : List Moment) (e : Moment) → n + one_access e + t ≡ t' + one_posted sides e + lonely_in sides (e ∷ []) → IsCount sides n t t' h (h ++ e ∷ [])
count_one sides n t t' h e f =
    let a = accesses_append h (e ∷ []) in
    let b = posted_append sides h (e ∷ []) in
    let c = lonely_append sides h (e ∷ []) in
    omega arith

-- A tick without an access.
pub count_tick : (sides : List Side) (t : ℕ) (h : List Moment) → IsCount sides 1 t (suc t) h h
count_tick sides t h = omega arith

module _ {M S F : Type 0} (k : MasterModel M) (d : DeviceModel S) (codec : Codec F) where
  abbrev pub Counted : List Side → ℕ → ℕ → List Moment → List Moment → PacketWorld (MachineEnd M F) (DeviceEnd S F) (Decoded F) → PacketWorld (MachineEnd M F) (DeviceEnd S F) (Decoded F) → Type 0
  Counted sides t t' h h' a b = (n : ℕ) × LeadsBy k d codec n a b × IsCount sides n t t' h h'

  pub counted_on : (sides : List Side) (t t' t'' : ℕ) (h h' h'' : List Moment) (a b c : PacketWorld (MachineEnd M F) (DeviceEnd S F) (Decoded F)) → Counted sides t t' h h' a b → Counted sides t' t'' h' h'' b c → Counted sides t t'' h h'' a c
  counted_on sides t t' t'' h h' h'' a b c f g = (f.0 + g.0, leads_by k d codec f.0 g.0 a b c f.1 g.1, count_on sides f.0 g.0 t t' t'' h h' h'' f.2 g.2)

  -- moves that are none of them silent
  pub uncounted : (sides : List Side) (t : ℕ) (h : List Moment) (a b : PacketWorld (MachineEnd M F) (DeviceEnd S F) (Decoded F)) → LeadsBy k d codec 0 a b → Counted sides t t h h a b
  uncounted sides t h a b f = (0, f, count_none sides t h)

pub lonely_called : (sides : List Side) (c : Call) → lonely_in sides (Called c ∷ []) ≡ 0
lonely_called [] c = called c
  where
    called : (c : Call) → lonely_in [] (Called c ∷ []) ≡ 0
    called c = refl
lonely_called (side ∷ sides) c = refl
