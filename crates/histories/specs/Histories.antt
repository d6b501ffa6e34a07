-- The history of a run, made from what the run left.
use Rattle.std.specs.Prelude.{◌≡◌, ℕ, nat_lt, List, [], ◌∷◌, ◌++◌, map, take, drop, Result, IfOk}
use Rattle.std.specs.List.{filter, range_with_len, prefix_len}
use Rattle.cosim_model.specs.declared.values.Call.{Call}
use Rattle.cosim_model.specs.declared.values.Call.TheVariants as call
use Rattle.cosim_model.specs.declared.values.Plan.{Plan}
use Rattle.cosim_model.specs.Order.{at_quantum}
use Rattle.cosim_model.specs.Direct.{Direct, Moment}
use Rattle.cosim_model.specs.Direct.Moment.{Called, Boundary}

-- When a call was made.
abbrev pub tick_of : Call → ℕ
tick_of (call.Access t p a x) = t
tick_of (call.Served t p due w r) = t

-- The ticks of the boundaries of a run that ended at a tick: the multiples of the quantum above 0 before it, and it.
abbrev pub boundary_ticks : Plan → ℕ → List ℕ
boundary_ticks plan end = filter (at_quantum plan) (range_with_len 0 end) ++ end ∷ []

-- How many calls stand before the first one of a tick or a later one.
abbrev pub calls_before : ℕ → List Call → ℕ
calls_before tick calls = prefix_len (λ c. nat_lt (tick_of c) tick) calls

-- The boundaries at ticks and calls, both in their order, as one list: before each boundary the calls of earlier ticks,
-- and behind the last one the others.
abbrev pub merged : List ℕ → List Call → List Moment
merged [] calls = map Called calls
merged (tick ∷ ticks) calls = map Called (take (calls_before tick calls) calls)
    ++ Boundary tick ∷ merged ticks (drop (calls_before tick calls) calls)

-- Where a machine's run made these calls and ended at this tick, its history is given.
abbrev pub GivesHistory : {M S E : Type 0} → Direct M S → List Call → ℕ → Result (List Moment) E → Type 0
GivesHistory machine calls end result =
    calls ≡ machine.calls → end ≡ machine.tick → IfOk result (λ moments. moments ≡ machine.history)
