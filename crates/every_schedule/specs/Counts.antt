-- What the steps of a run are counted by.
use Rattle.std.specs.Prelude.{ℕ, zero, suc, ◌+◌, ◌&&◌, Bool, true, false, List, [], ◌∷◌, length, drop, Option, Some}
use Rattle.std.specs.Prelude.{None, slice_get}
use Rattle.cosim_model.specs.declared.values.Call.TheVariants as call
use Rattle.cosim_model.specs.declared.values.Want.{Want}
use Rattle.cosim_model.specs.Packets.{Decoded, Codec}
use Rattle.ends_model.specs.DeviceTurn.{is_answered}
use Rattle.cosim_model.specs.Direct.{Moment}
use Rattle.cosim_model.specs.Direct.Moment.{Called, Boundary}
use Rattle.ends_model.specs.World.{Side}

-- The accesses of a history.

abbrev pub one_access : Moment → ℕ
one_access (Called (call.Access t p a x)) = 1
one_access (Called (call.Served t p due w r)) = 0
one_access (Boundary t) = 0

abbrev pub accesses_in : List Moment → ℕ
accesses_in [] = 0
accesses_in (e ∷ es) = one_access e + accesses_in es

-- Its boundaries.

abbrev pub one_boundary : Moment → ℕ
one_boundary (Called c) = 0
one_boundary (Boundary t) = 1

abbrev pub boundaries_in : List Moment → ℕ
boundaries_in [] = 0
boundaries_in (e ∷ es) = one_boundary e + boundaries_in es

-- Its boundaries where there are no ports.
abbrev pub lonely_in : List Side → List Moment → ℕ
lonely_in [] es = boundaries_in es
lonely_in (side ∷ sides) es = 0

-- Its served wants that were posted.

abbrev pub if_posted : Bool → ℕ
if_posted true = 0
if_posted false = 1

abbrev pub posted_by : Want → Option Side → ℕ
posted_by w None = 0
posted_by w (Some side) = if_posted (is_answered (side.offer.posted && side.answered_lines) w)

abbrev pub one_posted : List Side → Moment → ℕ
one_posted sides (Called (call.Access t p a x)) = 0
one_posted sides (Called (call.Served t p due w r)) = posted_by w (slice_get sides p)
one_posted sides (Boundary t) = 0

abbrev pub posted_in : List Side → List Moment → ℕ
posted_in sides [] = 0
posted_in sides (e ∷ es) = one_posted sides e + posted_in sides es

-- The packets that bytes begin with, at most so many.

abbrev pub rest_after : {F : Type 0} → List ℕ → Option (Decoded F × ℕ) → List ℕ
rest_after bs None = []
rest_after bs (Some r) = drop r.1 bs

abbrev pub one_if_whole : {F : Type 0} → Option (Decoded F × ℕ) → ℕ
one_if_whole None = 0
one_if_whole (Some r) = 1

abbrev pub whole_packets : {F : Type 0} → Codec F → ℕ → List ℕ → ℕ
whole_packets codec zero bs = 0
whole_packets codec (suc n) bs = one_if_whole (codec.first bs) + whole_packets codec n (rest_after bs (codec.first bs))

-- The packets of a stream. Each has a byte at least.
abbrev pub packets_in : {F : Type 0} → Codec F → List ℕ → ℕ
packets_in codec bs = whole_packets codec (length bs) bs
