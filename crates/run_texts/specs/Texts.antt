-- The text of a run of the direct machine.
use Rattle.std.specs.Prelude.{ℕ, ◌+◌, List, [], ◌∷◌, ◌++◌}
use Rattle.std.specs.List.{flat_map}
use Rattle.sha2.specs.Sha256.{sha256}
use Rattle.cosim_model.specs.declared.values.Call.{Call}
use Rattle.cosim_model.specs.Direct.{Direct}
use Rattle.cos_config.specs.declared.config.PortKind.{PortKind}
use Rattle.cos_config.specs.declared.config.PortKind.TheVariants.{Null, Timer, Uart, Dma, Disk}
use Rattle.cos_config.specs.declared.config.PortConfig.{PortConfig}
use Rattle.cos_parts.specs.declared.any_master.AnyMaster.{AnyMaster}
use Rattle.cos_parts.specs.declared.any_device.AnyDevice.{AnyDevice}
use Rattle.cos_parts.specs.AnyMasters.{any_stopped, any_closing, any_ram}
use Rattle.transcript.specs.CallLines.{call_text}
use Rattle.transcript.specs.ClosingLines.{stop_line, hart_lines, state_lines, uart_line}
use Rattle.transcript.specs.Sent.{sent_by}

-- The numbers of the ports that have a UART, from number `port` on.

abbrev pub uart_as : PortKind → ℕ → List ℕ → List ℕ
uart_as Uart port later = port ∷ later
uart_as Null port later = later
uart_as Timer port later = later
uart_as Dma port later = later
uart_as Disk port later = later

abbrev pub uarts_from : ℕ → List PortConfig → List ℕ
uarts_from port [] = []
uarts_from port (p ∷ ps) = uart_as p.kind port (uarts_from (port + 1) ps)

-- what the UART of a port sent, by the calls
abbrev pub sent_line : List Call → ℕ → List ℕ
sent_line calls port = uart_line port (sent_by calls port)

-- How it ended, the master at its end, and what these ports' UARTs sent.
abbrev pub end_lines : Direct AnyMaster AnyDevice → List ℕ → List ℕ
end_lines r uarts =
    stop_line (any_stopped r.master) r.tick ++ hart_lines (any_closing r.master).hart
    ++ state_lines (any_closing r.master).lines (sha256 (any_ram r.master))
    ++ flat_map (sent_line r.calls) uarts

-- The lines of the calls, and of the end.
abbrev pub run_lines : Direct AnyMaster AnyDevice → List PortConfig → List ℕ
run_lines r ports = flat_map call_text r.calls ++ end_lines r (uarts_from 0 ports)
