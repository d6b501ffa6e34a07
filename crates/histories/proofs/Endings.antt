-- From a tick on to the end of a run: the calls and the boundaries, merged.
use Rattle.std.proofs.Common.{◌≡◌, ℕ, suc, ◌+◌, ◌≤◌, true, false, List, [], ◌∷◌, ◌++◌, map, sym, ap, ◌∙◌, arith, append_assoc}
use Rattle.cosim_model.specs.declared.values.Call.{Call}
use Rattle.cosim_model.specs.declared.values.Plan.{Plan}
use Rattle.cosim_model.specs.Parts.{DeviceModel, MasterModel}
use Rattle.cosim_model.specs.Order.{at_quantum}
use Rattle.cosim_model.specs.Direct.{Direct, Moment, mark}
use Rattle.cosim_model.specs.Direct.Moment.{Called, Boundary}
use Rattle.histories.specs.Histories.{tick_of, merged}
use Rattle.histories.proofs.Merges.{Each, each-append, each-weaker, boundary-first}
use Rattle.histories.proofs.Boundaries.{boundaries_from, one-here, none-here, later-begin, calls-before}
use Rattle.histories.proofs.Adds.{Adds}

-- The run went on from `old`, which is at tick t, and ended as `last`.
pub record Ends {M S : Type 0} (plan : Plan) (t : ℕ) (old last : Direct M S) : Type 0 where
  pub left : ℕ
  pub calls : List Call
  pub late : Each (λ c. t ≤ tick_of c) calls
  pub tick : last.tick ≡ t + left
  pub called : last.calls ≡ old.calls ++ calls
  pub history : last.history ≡ old.history ++ merged (boundaries_from plan t left last.tick) calls

-- the calls of a tick are of it or later
of-now : (t : ℕ) (cs : List Call) → Each (λ c. tick_of c ≡ t) cs → Each (λ c. t ≤ tick_of c) cs
of-now t cs at = each-weaker (λ c. tick_of c ≡ t) (λ c. t ≤ tick_of c) (λ c e. omega arith) cs at

of-later : (t : ℕ) (cs : List Call) → Each (λ c. t + 1 ≤ tick_of c) cs → Each (λ c. t ≤ tick_of c) cs
of-later t cs late = each-weaker (λ c. t + 1 ≤ tick_of c) (λ c. t ≤ tick_of c) (λ c e. omega arith) cs late

-- The last boundary.
pub ends-here : {M S : Type 0} (k : MasterModel M) (d : DeviceModel S) (plan : Plan) (old last : Direct M S) → Adds k old.tick old.tick (mark k d plan old) last → Ends plan old.tick old last
ends-here k d plan old last x = record {
  left = 0;
  calls = x.calls;
  late = of-now old.tick x.calls x.of_tick;
  tick = (let e = x.tick in omega arith);
  called = x.called;
  history =
      x.history
      ∙ append_assoc old.history (Boundary old.tick ∷ []) (map Called x.calls)
      ∙ ap (λ ms. old.history ++ ms) (sym (boundary-first old.tick [] x.calls (of-now old.tick x.calls x.of_tick)))
      ∙ ap (λ e. old.history ++ merged (e ∷ []) x.calls) (sym x.tick);
}

-- A tick, and what comes later.

module _ {M S : Type 0} (k : MasterModel M) (plan : Plan) (t : ℕ) (old next last : Direct M S) where
  -- the calls of the tick stand before the boundaries of later ones
  tick-first : (y : Ends plan (t + 1) next last) (cs : List Call) → Each (λ c. tick_of c ≡ t) cs
      → merged (boundaries_from plan (t + 1) y.left last.tick) (cs ++ y.calls) ≡ map Called cs ++ merged (boundaries_from plan (t + 1) y.left last.tick) y.calls
  tick-first y cs at =
      calls-before t (boundaries_from plan (t + 1) y.left last.tick) cs y.calls
      (later-begin plan t (t + 1) y.left last.tick (omega arith) (let e = y.tick in omega arith)) at

  -- with no boundary
  pub ends-on : at_quantum plan t ≡ false → Adds k t (t + 1) old next → Ends plan (t + 1) next last → Ends plan t old last
  ends-on none x y = record {
    left = suc y.left;
    calls = x.calls ++ y.calls;
    late = each-append (λ c. t ≤ tick_of c) x.calls y.calls (of-now t x.calls x.of_tick) (of-later t y.calls y.late);
    tick = (let e = y.tick in omega arith);
    called = y.called ∙ ap (λ cs. cs ++ y.calls) x.called ∙ append_assoc old.calls x.calls y.calls;
    history =
        y.history
        ∙ ap (λ h. h ++ merged (boundaries_from plan (t + 1) y.left last.tick) y.calls) x.history
        ∙ append_assoc old.history (map Called x.calls) (merged (boundaries_from plan (t + 1) y.left last.tick) y.calls)
        ∙ ap (λ ms. old.history ++ ms) (sym (tick-first y x.calls x.of_tick))
        ∙ ap (λ ts. old.history ++ merged ts (x.calls ++ y.calls)) (sym (none-here plan t y.left last.tick none));
  }

  -- the tick's calls behind its boundary
  boundary-then : (y : Ends plan (t + 1) next last) (cs : List Call) → at_quantum plan t ≡ true → Each (λ c. tick_of c ≡ t) cs
      → merged (boundaries_from plan t (suc y.left) last.tick) (cs ++ y.calls) ≡ Boundary t ∷ (map Called cs ++ merged (boundaries_from plan (t + 1) y.left last.tick) y.calls)
  boundary-then y cs one at =
      ap (λ ts. merged ts (cs ++ y.calls)) (one-here plan t y.left last.tick one)
      ∙ boundary-first t (boundaries_from plan (t + 1) y.left last.tick) (cs ++ y.calls)
      (each-append (λ c. t ≤ tick_of c) cs y.calls (of-now t cs at) (of-later t y.calls y.late))
      ∙ ap (λ ms. Boundary t ∷ ms) (tick-first y cs at)

  -- with a boundary
  pub ends-behind : (marked : Direct M S) → marked.calls ≡ old.calls → marked.history ≡ old.history ++ Boundary t ∷ [] → at_quantum plan t ≡ true → Adds k t (t + 1) marked next → Ends plan (t + 1) next last → Ends plan t old last
  ends-behind marked same noted one x y = record {
    left = suc y.left;
    calls = x.calls ++ y.calls;
    late = each-append (λ c. t ≤ tick_of c) x.calls y.calls (of-now t x.calls x.of_tick) (of-later t y.calls y.late);
    tick = (let e = y.tick in omega arith);
    called = y.called ∙ ap (λ cs. cs ++ y.calls) (x.called ∙ ap (λ cs. cs ++ x.calls) same) ∙ append_assoc old.calls x.calls y.calls;
    history =
        y.history
        ∙ ap (λ h. h ++ rest) (x.history ∙ ap (λ h. h ++ map Called x.calls) noted)
        ∙ append_assoc (old.history ++ Boundary t ∷ []) (map Called x.calls) rest
        ∙ append_assoc old.history (Boundary t ∷ []) (map Called x.calls ++ rest)
        ∙ ap (λ ms. old.history ++ ms) (sym (boundary-then y x.calls one x.of_tick));
  }
    where
      rest : List Moment
      rest = merged (boundaries_from plan (t + 1) y.left last.tick) y.calls
