-- The lines at the end of a run, and the whole text of one.
use Rattle.std.specs.Prelude.{ℕ, ◌+◌, ◌*◌, length, List, [], ◌∷◌, ◌++◌, drop, Option, Some, None, codes, decimal}
use Rattle.std.specs.List.{concat, flat_map}
use Rattle.hex.specs.Hex.{encode_lower}
use Rattle.cosim_model.specs.declared.values.Call.{Call}
use Rattle.cosim_model.specs.declared.values.HartView.{HartView}
use Rattle.transcript.specs.declared.ending.Ending.{Ending}
use Rattle.transcript.specs.declared.ending.Out.{Out}
use Rattle.transcript.specs.Texts.{word_digits}
use Rattle.transcript.specs.CallLines.{call_text}

-- how the machine stopped, or that the budget ran out
abbrev pub stop_line : Option ℕ → ℕ → List ℕ
stop_line (Some code) ticks =
    concat (codes "stop halted " ∷ decimal code ∷ codes " at " ∷ decimal ticks ∷ codes "\n" ∷ [])
stop_line None ticks = concat (codes "stop budget at " ∷ decimal ticks ∷ codes "\n" ∷ [])

-- a blank and a register
abbrev pub register_text : ℕ → List ℕ
register_text value = 32 ∷ word_digits value

-- of a hart its pc, and x1 to x31
abbrev pub hart_lines : Option HartView → List ℕ
hart_lines None = []
hart_lines (Some h) =
    concat (codes "pc " ∷ word_digits h.pc ∷ codes "\nregs" ∷ flat_map register_text (drop 1 h.regs) ∷ codes "\n" ∷ [])

-- the levels of the interrupt lines, and the hash of RAM
abbrev pub state_lines : ℕ → List ℕ → List ℕ
state_lines lines ram =
    concat (codes "lines " ∷ word_digits lines ∷ codes "\nram " ∷ encode_lower ram ∷ codes "\n" ∷ [])

-- a blank; nothing where there are no bytes
abbrev pub blank_before : List ℕ → List ℕ
blank_before [] = []
blank_before (b ∷ bs) = codes " "

-- what stands before the bytes that a UART sent
abbrev pub uart_head : ℕ → List ℕ → List ℕ
uart_head port bytes = concat (codes "out p" ∷ decimal port ∷ blank_before bytes ∷ [])

-- the bytes that the UART of a port sent
abbrev pub uart_line : ℕ → List ℕ → List ℕ
uart_line port bytes = concat (uart_head port bytes ∷ encode_lower bytes ∷ codes "\n" ∷ [])

abbrev pub out_line : Out → List ℕ
out_line o = uart_line o.port o.bytes.bytes

-- What that line has at most, in bytes.
abbrev pub out_room : Out → ℕ
out_room o = 30 + 2 * length o.bytes.bytes

-- the closing lines before those of UARTs
abbrev pub head_text : Ending → List ℕ
head_text e = stop_line e.stop e.ticks ++ hart_lines e.closing.hart ++ state_lines e.closing.lines e.ram

abbrev pub closing_text : Ending → List ℕ
closing_text e = head_text e ++ flat_map out_line e.outs

-- The calls, a line each, and the closing lines.
abbrev pub run_text : List Call → Ending → List ℕ
run_text calls e = flat_map call_text calls ++ closing_text e
