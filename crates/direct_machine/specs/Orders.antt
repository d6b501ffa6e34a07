-- The direct machine with its wants served in either order.
use Rattle.std.specs.Prelude.{ℕ, zero, suc, Bool, true, false, if◌then◌else◌, is_some, List}
use Rattle.cosim_model.specs.declared.values.Plan.{Plan}
use Rattle.cosim_model.specs.Parts.{DeviceModel, MasterModel}
use Rattle.cosim_model.specs.Order.{at_quantum}
use Rattle.cosim_model.specs.Direct.{Direct, unit, boundary, boundary_by_port, direct, direct_by_port}
use Rattle.direct_machine.specs.declared.run.WantOrder.{WantOrder}
use Rattle.direct_machine.specs.declared.run.WantOrder.TheVariants.{ByDue, ByPort}

module _ {M S : Type 0} (k : MasterModel M) (d : DeviceModel S) where
  abbrev pub boundary_in : WantOrder → Plan → Direct M S → Direct M S
  boundary_in ByDue plan r = boundary k d plan r
  boundary_in ByPort plan r = boundary_by_port k d plan r

  abbrev pub boundary_if : WantOrder → Plan → Bool → Direct M S → Direct M S
  boundary_if order plan true r = boundary_in order plan r
  boundary_if order plan false r = r

  -- with n units left
  abbrev pub run_from : WantOrder → Plan → ℕ → Direct M S → Direct M S
  run_from order plan zero r = boundary_in order plan r
  run_from order plan (suc n) r = if is_some (k.stopped r.master) then boundary_in order plan r
      else run_from order plan n (unit k d plan (boundary_if order plan (at_quantum plan r.tick) r))

  -- the definition's machine of that order
  abbrev pub direct_in : WantOrder → Plan → M → List S → Direct M S
  direct_in ByDue plan m ss = direct k d plan m ss
  direct_in ByPort plan m ss = direct_by_port k d plan m ss
