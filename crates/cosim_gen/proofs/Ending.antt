-- What is printed of a finished run behind the lines of its calls; and the command comes to one outcome.
use Rattle.std.specs.Prelude.{IfOk}
use Rattle.std.proofs.Common.{◌≡◌, ℕ, List, [], ◌++◌, length, sym, ap, ap₂, ◌∙◌, subst, append_assoc}
use Rattle.std.proofs.lemmas.List.{append_cancel_left}
use Rattle.std.specs.List.{flat_map}
use Rattle.std.specs.declared.result.Result.{Result}
use Rattle.std.specs.declared.result.Result.TheVariants.{Ok, Err}
use Rattle.cos_base.specs.declared.no_memory.NoMemory.{NoMemory}
use Rattle.cos_base.specs.Octets.{Held}
use Rattle.cos_config.specs.declared.config.PortConfig.{PortConfig}
use Rattle.cos_parts.specs.declared.any_device.AnyDevice.{AnyDevice}
use Rattle.cos_parts.specs.declared.any_master.AnyMaster.{AnyMaster}
use Rattle.cos_parts.specs.AnyDevices as devices
use Rattle.cos_parts.specs.AnyMasters as masters
use Rattle.cos_schedules.specs.declared.schedule.Schedule.TheVariants.{Number}
use Rattle.cosim_local.specs.declared.finished.Finished.{Finished}
use Rattle.cosim_local.specs.declared.parts.Planned.{Planned}
use Rattle.cosim_local.specs.Steps.{IsFinished, direct_at, lines_at, start_by}
use Rattle.cosim_local.specs.Traffic.{links_of}
use Rattle.cosim_model.specs.declared.values.Call.{Call}
use Rattle.link_lines.specs.LinkLines.{traffic_text}
use Rattle.outcomes.specs.Outcomes.{Works}
use Rattle.outcomes.proofs.Commands.{IsOne}
use Rattle.run_texts.specs.Texts.{end_lines, uarts_from}
use Rattle.transcript.specs.declared.ending.Ending.{Ending}
use Rattle.transcript.specs.CallLines.{call_text}
use Rattle.transcript.specs.ClosingLines.{closing_text, run_text}
use Rattle.world.specs.Worlds.{Start, EndsAfter}
use Rattle.world.proofs.OneRun.{one-end}
use Rattle.cosim_gen.specs.Generated.{GenComes, generated_start, head_lines, lines_behind, settings_of, summary_of}

-- the lines of the calls are taken away from the front
behind : (s : Start AnyMaster AnyDevice) (ports : List PortConfig) (effective : ℕ) (calls : List Call) (e : Ending)
    (traffic : List ℕ) → calls ≡ (direct_at s).calls
    → run_text calls e ++ traffic ≡ lines_at s ports effective → closing_text e ++ traffic ≡ lines_behind s ports effective
behind s ports effective calls e traffic same text =
    let behind_these = traffic_text (links_of (direct_at s).history s.ports) effective in
    append_cancel_left (flat_map call_text calls) (closing_text e ++ traffic) (lines_behind s ports effective)
    (sym (append_assoc (flat_map call_text calls) (closing_text e) traffic) ∙ text
    ∙ append_assoc (flat_map call_text (direct_at s).calls) (end_lines (direct_at s) (uarts_from 0 ports)) behind_these
    ∙ ap (λ cs. flat_map call_text cs ++ lines_behind s ports effective) (sym same))

-- A run that is over, whose plan was that of a number.

module _ (p : Planned) (number : ℕ) (start : start_by p.parts ≡ generated_start number) where
  pub ends-so : (r : Result Finished NoMemory) → p.schedule ≡ Number number → IfOk r (IsFinished p)
      → IfOk r
      (λ done. EndsAfter masters.any_model devices.any_model (Number number) (generated_start number)
      done.world.effective)
  ends-so (Err e) order fin = tt
  ends-so (Ok done) order fin =
      subst (λ s. EndsAfter masters.any_model devices.any_model (Number number) s done.world.effective) start
      (subst (λ o. EndsAfter masters.any_model devices.any_model o (start_by p.parts) done.world.effective) order
      fin.ends)

  calls-of : (done : Finished) → IsFinished p done
      → done.world.now.hub.core.calls ≡ (direct_at (generated_start number)).calls
  calls-of done fin =
      fin.over.0.calls ∙ ap (λ (s : Start AnyMaster AnyDevice). (direct_at s).calls) (fin.start ∙ start)

  pub calls-so : (r : Result Finished NoMemory) → IfOk r (IsFinished p)
      → IfOk r (λ done. done.world.now.hub.core.calls ≡ (direct_at (generated_start number)).calls)
  calls-so (Err e) fin = tt
  calls-so (Ok done) fin = calls-of done fin

  pub text-so : (r : Result Finished NoMemory) → p.parts.config.ports ≡ (settings_of number).ports
      → IfOk r (IsFinished p)
      → IfOk r
      (λ done. closing_text done.end ++ done.traffic.bytes
      ≡ lines_behind (generated_start number) (settings_of number).ports done.world.effective)
  text-so (Err e) ports fin = tt
  text-so (Ok done) ports fin =
      behind (generated_start number) (settings_of number).ports done.world.effective
      done.world.now.hub.core.calls done.end done.traffic.bytes (calls-of done fin)
      (fin.text ∙ ap₂ (λ s ps. lines_at s ps done.world.effective) start ports)

-- Its summary is what the command comes to.
pub summary-comes : (number : ℕ) (done : Finished) (r : Result Held NoMemory)
    → EndsAfter masters.any_model devices.any_model (Number number) (generated_start number) done.world.effective
    → done.world.now.hub.core.calls ≡ (direct_at (generated_start number)).calls
    → closing_text done.end ++ done.traffic.bytes
    ≡ lines_behind (generated_start number) (settings_of number).ports done.world.effective
    → IfOk r
    (λ text. text.bytes
    ≡ head_lines number (length done.world.now.hub.core.calls) ++ closing_text done.end ++ done.traffic.bytes)
    → IfOk r (λ text. GenComes number (Works [] text.bytes))
summary-comes number done (Err e) ends calls behind_these is = tt
summary-comes number done (Ok text) ends calls behind_these is = (
  done.world.effective,
  ends,
  ap (Works [])
      (is
      ∙ append_assoc (head_lines number (length done.world.now.hub.core.calls)) (closing_text done.end)
      done.traffic.bytes
      ∙ ap₂ (λ cs t. head_lines number (length cs) ++ t) calls behind_these),
)

pub one-comes : (number : ℕ) → IsOne (GenComes number)
one-comes number o p (n, ends, is) (k, also, at) =
    is
    ∙ ap (λ l. Works [] (summary_of number (generated_start number) (settings_of number).ports l))
    (one-end masters.any_model devices.any_model (Number number) (generated_start number) n k ends also)
    ∙ sym at
