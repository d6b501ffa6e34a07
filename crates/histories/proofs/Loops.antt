-- The loop over the boundaries of a run.
use Rattle.std.proofs.Common.{◌≡◌, ℕ, ◌+◌, ◌%◌, ◌<◌, ◌≤◌, min, List, [], ◌∷◌, ◌++◌, map, take, drop, Result, Ok, Err, IfOk, sym, ap, ◌∙◌, arith, append_assoc, mod-eq_of_lt}
use Rattle.std.proofs.Math.Nat.{add-mod_right}
use Rattle.cosim_model.specs.declared.values.Call.{Call}
use Rattle.cosim_model.specs.declared.values.Plan.{Plan}
use Rattle.cosim_model.specs.Direct.{Direct, Moment}
use Rattle.cosim_model.specs.Direct.Moment.{Called, Boundary}
use Rattle.cos_base.specs.declared.no_memory.NoMemory.{NoMemory}
use Rattle.histories.specs.Histories.{boundary_ticks, calls_before, merged, GivesHistory}
use Rattle.histories.proofs.Quanta.{boundaries_left, first-left, next-left, last-left}

-- The boundaries up to `tick` and the calls before them are merged, and these calls are left.
pub record Merging (plan : Plan) (end : ℕ) (calls : List Call) (tick : ℕ) (moments : List Moment) (rest : List Call) : Type 0 where
  pub within : tick ≤ end
  pub whole : tick % plan.quantum ≡ 0
  pub merges : merged (boundary_ticks plan end) calls ≡ moments ++ merged (boundaries_left plan (min (tick + plan.quantum) end) end) rest

-- a part of calls and their boundary, before what comes behind
part-first : (moments ms : List Moment) (tick : ℕ) (more : List Moment) → moments ++ (ms ++ Boundary tick ∷ more) ≡ (moments ++ ms ++ Boundary tick ∷ []) ++ more
part-first moments ms tick more = sym (append_assoc (moments ++ ms) (Boundary tick ∷ []) more ∙ append_assoc moments ms (Boundary tick ∷ more))

module _ (plan : Plan) (end : ℕ) (calls : List Call) (some : 0 < plan.quantum) where
  pub merging-begins : (moments : List Moment) (rest : List Call) → moments ≡ [] → rest ≡ calls → Merging plan end calls 0 moments rest
  merging-begins moments rest none same = record {
    within = omega arith;
    whole = mod-eq_of_lt some;
    merges =
        ap (λ ts. merged ts calls) (first-left plan end some)
        ∙ ap (merged (boundaries_left plan (min (0 + plan.quantum) end) end)) (sym same)
        ∙ ap (λ ms. ms ++ merged (boundaries_left plan (min (0 + plan.quantum) end) end) rest) (sym none);
  }

  -- a boundary, of those that were left, and the calls before it
  one-more : (tick next : ℕ) (moments now : List Moment) (rest before behind : List Call) (ts : List ℕ) → next ≡ min (tick + plan.quantum) end → boundaries_left plan next end ≡ next ∷ ts
      → before ≡ take (calls_before next rest) rest → behind ≡ drop (calls_before next rest) rest → now ≡ moments ++ map Called before ++ Boundary next ∷ []
      → Merging plan end calls tick moments rest → merged (boundary_ticks plan end) calls ≡ now ++ merged ts behind
  one-more tick next moments now rest before behind ts e left front back is on =
      on.merges
      ∙ ap (λ t. moments ++ merged (boundaries_left plan t end) rest) (sym e)
      ∙ ap (λ us. moments ++ merged us rest) left
      ∙ part-first moments (map Called (take (calls_before next rest) rest)) next (merged ts (drop (calls_before next rest) rest))
      ∙ ap (λ cs. (moments ++ map Called cs ++ Boundary next ∷ []) ++ merged ts (drop (calls_before next rest) rest)) (sym front)
      ∙ ap (λ cs. (moments ++ map Called before ++ Boundary next ∷ []) ++ merged ts cs) (sym back)
      ∙ ap (λ ms. ms ++ merged ts behind) (sym is)

  pub merging-more : (tick next : ℕ) (moments now : List Moment) (rest before behind : List Call) → next < end → next ≡ min (tick + plan.quantum) end
      → before ≡ take (calls_before next rest) rest → behind ≡ drop (calls_before next rest) rest → now ≡ moments ++ map Called before ++ Boundary next ∷ []
      → Merging plan end calls tick moments rest → Merging plan end calls next now behind
  merging-more tick next moments now rest before behind early e front back is on = record {
    within = omega arith;
    whole = still;
    merges =
        one-more tick next moments now rest before behind (boundaries_left plan (min (next + plan.quantum) end) end) e
        (next-left plan next end some early (omega arith) still) front back is on;
  }
    where
      still : next % plan.quantum ≡ 0
      still = (
          let far : next ≡ tick + plan.quantum = omega arith in
          ap (λ t. t % plan.quantum) far ∙ add-mod_right tick plan.quantum ∙ on.whole)

  -- the last boundary, and the calls behind it
  pub merging-ends : (tick next : ℕ) (moments now last : List Moment) (rest before behind : List Call) → next ≡ end → next ≡ min (tick + plan.quantum) end
      → before ≡ take (calls_before next rest) rest → behind ≡ drop (calls_before next rest) rest → now ≡ moments ++ map Called before ++ Boundary next ∷ []
      → last ≡ now ++ map Called behind → Merging plan end calls tick moments rest → last ≡ merged (boundary_ticks plan end) calls
  merging-ends tick next moments now last rest before behind there e front back is then on =
      then ∙ sym (one-more tick next moments now rest before behind [] e (last-left plan next end there) front back is on)

-- What is merged of the calls and the last tick of a machine's run is its history.
pub merge-is-history : {M S : Type 0} (machine : Direct M S) (plan : Plan) (calls : List Call) (end : ℕ) (r : Result (List Moment) NoMemory) → machine.history ≡ merged (boundary_ticks plan machine.tick) machine.calls
    → IfOk r (λ ms. ms ≡ merged (boundary_ticks plan end) calls) → GivesHistory machine calls end r
merge-is-history machine plan calls end (Err x) whole merges same until = tt
merge-is-history machine plan calls end (Ok ms) whole merges same until =
    merges ∙ ap (λ t. merged (boundary_ticks plan t) calls) until ∙ ap (merged (boundary_ticks plan machine.tick)) same ∙ sym whole
