-- The history of a run of the direct machine, in either order of service, is the merge of its calls and its boundaries.
use Rattle.std.proofs.Common.{◌≡◌, ℕ, zero, suc, ◌+◌, ◌≤◌, Bool, true, false, if◌then◌else◌, is_some, List, length, refl, sym, ap, ◌∙◌, subst, arith}
use Rattle.cosim_model.specs.declared.values.Plan.{Plan}
use Rattle.cosim_model.specs.Parts.{DeviceModel, MasterModel, IsMaster}
use Rattle.cosim_model.specs.Order.{at_quantum}
use Rattle.cosim_model.specs.Direct.{Direct, direct_start, unit, mark, boundary, boundary_if, boundary_by_port, by_port_if, direct_from, by_port_from, direct, direct_by_port}
use Rattle.direct_machine.specs.Outcomes.{IsFresh}
use Rattle.histories.specs.Histories.{boundary_ticks, merged}
use Rattle.histories.proofs.Boundaries.{boundaries_from}
use Rattle.histories.proofs.Adds.{Adds, adds-both}
use Rattle.histories.proofs.Units.{unit-adds}
use Rattle.histories.proofs.Serves.{boundary-adds}
use Rattle.histories.proofs.Ports.{boundary_by_port-adds}
use Rattle.histories.proofs.Endings.{Ends, ends-here, ends-on, ends-behind}

module _ {M S : Type 0} (k : MasterModel M) (d : DeviceModel S) (plan : Plan) (law : IsMaster k) where
  -- The master names no port that isn't there.
  abbrev IsAble : Direct M S → Type 0
  IsAble r = k.reach r.master ≤ length r.devices

  able-still : (t u : ℕ) (old new : Direct M S) → Adds k t u old new → IsAble old → IsAble new
  able-still t u old new x able = (let a = x.ports in let b = x.reach in omega arith)

  -- A run that goes on to its end, from wherever it is.
  abbrev IsEnding : (Direct M S → Direct M S) → Type 0
  IsEnding run = (r : Direct M S) → IsAble r → Ends plan r.tick r (run r)

  -- from a tick on, after a unit
  after-unit : (run : Direct M S → Direct M S) → IsEnding run → (r : Direct M S) → IsAble r → Ends plan (r.tick + 1) (unit k d plan r) (run (unit k d plan r))
  after-unit run on r able = (
      let x = unit-adds k d plan law r able in
      subst (λ t. Ends plan t (unit k d plan r) (run (unit k d plan r))) x.tick (on (unit k d plan r) (able-still r.tick (r.tick + 1) r (unit k d plan r) x able)))

  -- a unit, with no boundary before it
  without : (run : Direct M S → Direct M S) → IsEnding run → (r : Direct M S) → IsAble r → at_quantum plan r.tick ≡ false → Ends plan r.tick r (run (unit k d plan r))
  without run on r able none =
      ends-on k plan r.tick r (unit k d plan r) (run (unit k d plan r)) none (unit-adds k d plan law r able) (after-unit run on r able)

  -- a unit behind a boundary that leaves `met`
  behind : (run : Direct M S → Direct M S) → IsEnding run → (r met : Direct M S) → IsAble r → Adds k r.tick r.tick (mark k d plan r) met → at_quantum plan r.tick ≡ true → Ends plan r.tick r (run (unit k d plan met))
  behind run on r met able x one = ends-behind k plan r.tick r (unit k d plan met) (run (unit k d plan met)) (mark k d plan r) refl refl one whole rest
    where
      still : IsAble met
      still = able-still r.tick r.tick (mark k d plan r) met x able

      unit-is : Adds k r.tick (r.tick + 1) met (unit k d plan met)
      unit-is = subst (λ t. Adds k t (t + 1) met (unit k d plan met)) x.tick (unit-adds k d plan law met still)

      whole : Adds k r.tick (r.tick + 1) (mark k d plan r) (unit k d plan met)
      whole = adds-both k r.tick (r.tick + 1) (mark k d plan r) met (unit k d plan met) x unit-is

      rest : Ends plan (r.tick + 1) (unit k d plan met) (run (unit k d plan met))
      rest = subst (λ t. Ends plan (t + 1) (unit k d plan met) (run (unit k d plan met))) x.tick (after-unit run on met still)

  -- With its wants served by due time.

  due-met : (run : Direct M S → Direct M S) → IsEnding run → (r : Direct M S) → IsAble r → (b : Bool) → at_quantum plan r.tick ≡ b → Ends plan r.tick r (run (unit k d plan (boundary_if k d plan b r)))
  due-met run on r able true one = behind run on r (boundary k d plan r) able (boundary-adds k d plan law r) one
  due-met run on r able false none = without run on r able none

  due-last : (r : Direct M S) → Ends plan r.tick r (boundary k d plan r)
  due-last r = ends-here k d plan r (boundary k d plan r) (boundary-adds k d plan law r)

  due-next : (n : ℕ) → IsEnding (direct_from k d plan n) → (r : Direct M S) → IsAble r → (b : Bool)
      → Ends plan r.tick r (if b then boundary k d plan r else direct_from k d plan n (unit k d plan (boundary_if k d plan (at_quantum plan r.tick) r)))
  due-next n on r able true = due-last r
  due-next n on r able false = due-met (direct_from k d plan n) on r able (at_quantum plan r.tick) refl

  due-ends : (n : ℕ) → IsEnding (direct_from k d plan n)
  due-ends zero r able = due-last r
  due-ends (suc n) r able = due-next n (due-ends n) r able (is_some (k.stopped r.master))

  -- With them served port by port.

  port-met : (run : Direct M S → Direct M S) → IsEnding run → (r : Direct M S) → IsAble r → (b : Bool) → at_quantum plan r.tick ≡ b → Ends plan r.tick r (run (unit k d plan (by_port_if k d plan b r)))
  port-met run on r able true one = behind run on r (boundary_by_port k d plan r) able (boundary_by_port-adds k d plan law r) one
  port-met run on r able false none = without run on r able none

  port-last : (r : Direct M S) → Ends plan r.tick r (boundary_by_port k d plan r)
  port-last r = ends-here k d plan r (boundary_by_port k d plan r) (boundary_by_port-adds k d plan law r)

  port-next : (n : ℕ) → IsEnding (by_port_from k d plan n) → (r : Direct M S) → IsAble r → (b : Bool)
      → Ends plan r.tick r (if b then boundary_by_port k d plan r else by_port_from k d plan n (unit k d plan (by_port_if k d plan (at_quantum plan r.tick) r)))
  port-next n on r able true = port-last r
  port-next n on r able false = port-met (by_port_from k d plan n) on r able (at_quantum plan r.tick) refl

  port-ends : (n : ℕ) → IsEnding (by_port_from k d plan n)
  port-ends zero r able = port-last r
  port-ends (suc n) r able = port-next n (port-ends n) r able (is_some (k.stopped r.master))

  -- From the start on that is the whole history.

  whole-history : (m : M) (ss : List S) (last : Direct M S) → Ends plan 0 (direct_start m ss) last → last.history ≡ merged (boundary_ticks plan last.tick) last.calls
  whole-history m ss last y =
      y.history
      ∙ ap (λ n. merged (boundaries_from plan 0 n last.tick) y.calls) (let e = y.tick in let same : y.left ≡ last.tick = omega arith in same)
      ∙ ap (merged (boundary_ticks plan last.tick)) (sym y.called)

  pub due-history : (m : M) (ss : List S) → IsFresh k d m ss → (direct k d plan m ss).history ≡ merged (boundary_ticks plan (direct k d plan m ss).tick) (direct k d plan m ss).calls
  due-history m ss fresh = whole-history m ss (direct k d plan m ss) (due-ends plan.units (direct_start m ss) fresh.reach)

  pub port-history : (m : M) (ss : List S) → IsFresh k d m ss → (direct_by_port k d plan m ss).history ≡ merged (boundary_ticks plan (direct_by_port k d plan m ss).tick) (direct_by_port k d plan m ss).calls
  port-history m ss fresh = whole-history m ss (direct_by_port k d plan m ss) (port-ends plan.units (direct_start m ss) fresh.reach)
