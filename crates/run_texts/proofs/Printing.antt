-- The text of a run that is over is that of the direct machine.
use Rattle.std.proofs.Common.{ℕ, ◌≡◌, List, ◌++◌, ap, sym, ◌∙◌}
use Rattle.std.specs.List.{flat_map}
use Rattle.std.proofs.lemmas.List.Folds.{flat_map-map}
use Rattle.cosim_model.specs.declared.values.Call.{Call}
use Rattle.cosim_model.specs.declared.values.Closing.{Closing}
use Rattle.cosim_model.specs.Direct.{Direct}
use Rattle.sha2.specs.Sha256.{sha256}
use Rattle.cos_config.specs.declared.config.PortConfig.{PortConfig}
use Rattle.cos_parts.specs.declared.any_master.AnyMaster.{AnyMaster}
use Rattle.cos_parts.specs.declared.any_device.AnyDevice.{AnyDevice}
use Rattle.cos_parts.specs.AnyMasters.{any_stopped, any_closing, any_ram}
use Rattle.transcript.specs.declared.ending.Out.{Out}
use Rattle.transcript.specs.declared.ending.Ending.{Ending}
use Rattle.transcript.specs.CallLines.{call_text}
use Rattle.transcript.specs.ClosingLines.{stop_line, hart_lines, state_lines, head_text, uart_line, out_line, closing_text, run_text}
use Rattle.transcript.specs.Sent.{port_and_bytes, port_and_sent, AreSent}
use Rattle.run_texts.specs.Endings.{IsEnding}
use Rattle.run_texts.specs.Texts.{sent_line, uarts_from, end_lines, run_lines}

abbrev pub pair_line : ℕ × List ℕ → List ℕ
pair_line x = uart_line x.0 x.1

pub sent-lines : (calls : List Call) (ports : List ℕ) (outs : List Out) → AreSent calls ports outs
    → flat_map out_line outs ≡ flat_map (sent_line calls) ports
sent-lines calls ports outs are =
    sym (flat_map-map pair_line port_and_bytes outs) ∙ ap (λ l. flat_map pair_line l) are ∙ flat_map-map pair_line (port_and_sent calls) ports

module _ (r : Direct AnyMaster AnyDevice) (uarts : List ℕ) (calls : List Call) (master : AnyMaster) (after : ℕ) (e : Ending)
    (called : calls ≡ r.calls) (left : master ≡ r.master) (ticked : after ≡ r.tick) (is : IsEnding calls master after uarts e)
  where
    -- The closing lines, by what is told at the end of the run.
    pub end-printed : closing_text e ≡ end_lines r uarts
    end-printed =
        let outs : flat_map out_line e.outs ≡ flat_map (sent_line r.calls) uarts =
        sent-lines calls uarts e.outs is.outs ∙ ap (λ l. flat_map (sent_line l) uarts) called in
        let head : head_text e ≡ stop_line (any_stopped r.master) r.tick ++ hart_lines (any_closing r.master).hart
        ++ state_lines (any_closing r.master).lines (sha256 (any_ram r.master)) =
        ap (λ x. stop_line x e.ticks ++ hart_lines e.closing.hart ++ state_lines e.closing.lines e.ram) is.stop
        ∙ ap (λ x. stop_line (any_stopped master) x ++ hart_lines e.closing.hart ++ state_lines e.closing.lines e.ram) is.ticks
        ∙ ap (λ (x : Closing). stop_line (any_stopped master) after ++ hart_lines x.hart ++ state_lines x.lines e.ram)
        is.closing
        ∙ ap (λ x. stop_line (any_stopped master) after ++ hart_lines (any_closing master).hart
        ++ state_lines (any_closing master).lines x) is.ram
        ∙ ap (λ m. stop_line (any_stopped m) after ++ hart_lines (any_closing m).hart
        ++ state_lines (any_closing m).lines (sha256 (any_ram m))) left
        ∙ ap (λ x. stop_line (any_stopped r.master) x ++ hart_lines (any_closing r.master).hart
        ++ state_lines (any_closing r.master).lines (sha256 (any_ram r.master))) ticked in
        ap (λ l. l ++ flat_map out_line e.outs) head
        ∙ ap (λ l. stop_line (any_stopped r.master) r.tick ++ hart_lines (any_closing r.master).hart
        ++ state_lines (any_closing r.master).lines (sha256 (any_ram r.master)) ++ l) outs

-- The run's text, by what is told at its end.
pub run-printed : (r : Direct AnyMaster AnyDevice) (ports : List PortConfig) (calls : List Call) (master : AnyMaster)
    (after : ℕ) (e : Ending) → calls ≡ r.calls → master ≡ r.master → after ≡ r.tick
    → IsEnding calls master after (uarts_from 0 ports) e → run_text calls e ≡ run_lines r ports
run-printed r ports calls master after e called left ticked is =
    ap (λ l. flat_map call_text l ++ closing_text e) called
    ∙ ap (λ l. flat_map call_text r.calls ++ l) (end-printed r (uarts_from 0 ports) calls master after e called left ticked is)
