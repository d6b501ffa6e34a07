-- What is printed of a world that is over, and what the command comes to then.
use Rattle.std.specs.Prelude.{All, IfOk, IfSome}
use Rattle.std.proofs.Common.{◌≡◌, ℕ, suc, List, [], ◌∷◌, ◌++◌, length, map, refl, sym, ap, ap₂, ◌∙◌, subst, arith}
use Rattle.std.specs.declared.option.Option.{Option}
use Rattle.std.specs.declared.option.Option.TheVariants.{Some, None}
use Rattle.std.specs.declared.result.Result.{Result}
use Rattle.std.specs.declared.result.Result.TheVariants.{Ok, Err}
use Rattle.cos_base.specs.declared.no_memory.NoMemory.{NoMemory}
use Rattle.cos_base.specs.Stores.{Store}
use Rattle.cos_config.specs.declared.config.Config.{Config as Settings}
use Rattle.cos_config.specs.declared.config.PortConfig.{PortConfig}
use Rattle.cos_config.specs.Plans.{plan_of}
use Rattle.cos_parts.specs.declared.any_device.AnyDevice.{AnyDevice}
use Rattle.cos_parts.specs.declared.any_master.AnyMaster.{AnyMaster}
use Rattle.cos_parts.specs.AnyDevices as devices
use Rattle.cos_parts.specs.AnyMasters as masters
use Rattle.cosim_direct.specs.Directs.{machine_of}
use Rattle.cosim_ends.specs.Sides.{sides_of}
use Rattle.cosim_inputs.specs.Fresh.{device_of, master_of}
use Rattle.cosim_model.specs.Direct.{Direct, direct}
use Rattle.ends_model.specs.World.{Fit}
use Rattle.link_lines.specs.LinkLines.{traffic_text}
use Rattle.outcomes.specs.Outcomes.{Written, Works}
use Rattle.run_texts.specs.Endings.{IsEnding}
use Rattle.run_texts.specs.Texts.{run_lines, uarts_from}
use Rattle.run_texts.proofs.Listed.{direct-listed}
use Rattle.run_texts.proofs.Printing.{run-printed}
use Rattle.transcript.specs.declared.ending.Ending.{Ending}
use Rattle.transcript.specs.CallLines.{HasLine}
use Rattle.transcript.specs.ClosingLines.{run_text}
use Rattle.world.specs.Worlds.{Start, WorldValue, EndsAfter, IsOver}
use Rattle.cosim_local.specs.declared.finished.Finished.{Finished}
use Rattle.cosim_local.specs.declared.order.Order.{Order}
use Rattle.cosim_local.specs.declared.parts.Planned.{Planned}
use Rattle.cosim_local.specs.Locals.{start_of, written_by, local_lines, FoundTo, LocalComes, written_names, result_names}
use Rattle.cosim_local.specs.Ordering.{Orders}
use Rattle.cosim_local.specs.Results.{results_of}
use Rattle.cosim_local.specs.Traffic.{links_of}
use Rattle.cosim_local.specs.Steps.{ArePartsOf, IsClosed, IsFinished, counts_from, devices_in, direct_at, lines_at, start_by}
use Rattle.cosim_local.proofs.Counted.{all-counted}
use Rattle.cosim_local.proofs.Starting.{devices-of-sides}

module _ (w : WorldValue AnyMaster AnyDevice) (over : IsOver masters.any_model devices.any_model w) where
  pub closed-text : (ports : List PortConfig) (e : Ending) (bytes : List ℕ)
      → Fit masters.any_model devices.any_model w.start.plan w.start.master w.start.ports
      → IsEnding w.now.hub.core.calls w.now.hub.core.master w.now.hub.core.tick (uarts_from 0 ports) e
      → bytes ≡ traffic_text (counts_from w.now 0 w.start.ports) w.effective
      → run_text w.now.hub.core.calls e ++ bytes ≡ lines_at w.start ports w.effective
  closed-text ports e bytes fit is same =
      ap₂ ◌++◌
      (run-printed (direct_at w.start) ports w.now.hub.core.calls w.now.hub.core.master w.now.hub.core.tick e
      over.0.calls over.0.master over.0.tick is)
      (same ∙ ap (λ l. traffic_text l w.effective) (all-counted w.start fit w.now over.0))

  pub closed-lines : All HasLine w.now.hub.core.calls
  closed-lines =
      subst (λ l. All HasLine l) (sym over.0.calls)
      (direct-listed masters.any_model devices.any_model w.start.plan devices.any_lawful w.start.master _)

-- The ends of a world are as many as its ports.

sides-each : (ps : List PortConfig) (ds : List AnyDevice) → length ds ≡ length ps → length (sides_of ps ds) ≡ length ps
sides-each [] ds each = refl
sides-each (p ∷ ps) [] each = absurd (omega (arith, each))
sides-each (p ∷ ps) (d ∷ ds) each = ap suc (sides-each ps ds (omega (arith, each)))

pub closed-each : (r : Result Finished NoMemory) (w : WorldValue AnyMaster AnyDevice) (ports of_start : List PortConfig)
    (ds : List AnyDevice) → IfOk r (IsClosed w ports) → w.start.ports ≡ sides_of of_start ds → of_start ≡ ports
    → length ds ≡ length ports → IfOk r (λ done. length done.config.ports ≡ length done.world.start.ports)
closed-each (Err e) w ports of_start ds closed start same each = tt
closed-each (Ok done) w ports of_start ds closed start same each =
    ap length closed.ports
    ∙ sym (ap (λ (v : WorldValue AnyMaster AnyDevice). length v.start.ports) closed.world ∙ ap length start
    ∙ ap (λ ps. length (sides_of ps ds)) same ∙ sides-each ports ds each)

-- The parts that the files make are those of the definitions.

module _ (m : Store) (name : List ℕ) (p : Planned) (are : ArePartsOf m name p.parts) (done : Finished)
    (fin : IsFinished p done) where
  abbrev c : Settings
  c = p.parts.config

  start : start_by p.parts ≡ start_of m c
  start =
      ap (λ a. record { plan = plan_of c; master = a; ports = sides_of c.ports p.parts.machine.devices.items }) are.master
      ∙ ap (λ ds. record { plan = plan_of c; master = master_of m c; ports = sides_of c.ports ds }) are.devices

  machine : direct_at (start_of m c) ≡ machine_of m c
  machine =
      ap (λ ds. direct masters.any_model devices.any_model (plan_of c) (master_of m c) ds)
      (devices-of-sides (device_of m) c.ports)

  results : results_of done.config.ports (devices_in done.world) ≡ written_by m c
  results =
      ap₂ results_of fin.ports
      (fin.over.0.devices
      ∙ ap (λ (s : Start AnyMaster AnyDevice). (direct_at s).devices) (fin.start ∙ start)
      ∙ ap (λ (r : Direct AnyMaster AnyDevice). r.devices) machine)

  text : run_text done.world.now.hub.core.calls done.end ++ done.traffic.bytes
      ≡ local_lines m c done.world.effective
  text =
      fin.text
      ∙ ap (λ (s : Start AnyMaster AnyDevice). lines_at s c.ports done.world.effective) start
      ∙ ap (λ (r : Direct AnyMaster AnyDevice).
      run_lines r c.ports ++ traffic_text (links_of r.history (start_of m c).ports) done.world.effective) machine

  had-comes : (order : Order) → Orders (length c.ports) order m (Ok p.schedule)
      → FoundTo m order (Ok c)
      (Works (results_of done.config.ports (devices_in done.world))
      (run_text done.world.now.hub.core.calls done.end ++ done.traffic.bytes))
  had-comes order orders = (
    Ok p.schedule,
    orders,
    (
      done.world.effective,
      subst (λ s. EndsAfter masters.any_model devices.any_model p.schedule s done.world.effective) start fin.ends,
      ap₂ Works results text,
    ),
  )

  had-names : result_names name m ≡ map (λ (w : Written). w.name) (results_of done.config.ports (devices_in done.world))
  had-names = ap (written_names m) are.config ∙ ap (λ ws. map (λ (w : Written). w.name) ws) (sym results)

pub run-comes : (old : Option Store) (name : List ℕ) (order : Order) (p : Planned) (done : Finished)
    → IfSome old (λ m. ArePartsOf m name p.parts)
    → IfSome old (λ m. Orders (length p.parts.config.ports) order m (Ok p.schedule)) → IsFinished p done
    → LocalComes old name order
    (Works (results_of done.config.ports (devices_in done.world))
    (run_text done.world.now.hub.core.calls done.end ++ done.traffic.bytes))
run-comes None name order p done are orders fin = tt
run-comes (Some m) name order p done are orders fin =
    subst (λ x. FoundTo m order x (Works (results_of done.config.ports (devices_in done.world))
    (run_text done.world.now.hub.core.calls done.end ++ done.traffic.bytes))) (sym are.config)
    (had-comes m name p are done fin order orders)

pub run-names : (old : Option Store) (name : List ℕ) (p : Planned) (done : Finished)
    → IfSome old (λ m. ArePartsOf m name p.parts) → IsFinished p done
    → IfSome old
    (λ m. result_names name m ≡ map (λ (w : Written). w.name) (results_of done.config.ports (devices_in done.world)))
run-names None name p done are fin = tt
run-names (Some m) name p done are fin = had-names m name p are done fin
