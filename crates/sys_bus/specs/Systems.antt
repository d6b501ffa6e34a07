-- The system block: its registers, and what it makes pending.
use Rattle.std.specs.Prelude.{ℕ, ◌+◌, ◌^◌, Bool, nat_eq, if◌then◌else◌, bit_and, Option, Some, None}
use Rattle.cos_api.specs.Levels.{with_level}
use Rattle.sys_bus.specs.declared.system.SystemBlock.{SystemBlock}
use Rattle.sys_bus.specs.declared.system.SystemRegister.{SystemRegister}
use Rattle.sys_bus.specs.declared.system.SystemRegister.TheVariants.{Power, Lines, Enable, TimerEnable}

abbrev pub fresh_system : SystemBlock
fresh_system = record { lines = 0; enable = 0; timer_enable = 0 }

-- Only aligned accesses of four bytes.
abbrev pub register_at : ℕ → ℕ → Option SystemRegister
register_at offset size =
    if nat_eq size 4 then
    if nat_eq offset 0 then Some Power else if nat_eq offset 4 then Some Lines else if nat_eq offset 8 then Some Enable
    else if nat_eq offset 12 then Some TimerEnable else None
    else None

abbrev pub register_value : SystemBlock → SystemRegister → ℕ
register_value s Power = 0
register_value s Lines = s.lines
register_value s Enable = s.enable
register_value s TimerEnable = s.timer_enable

-- Bit 11 of mip where a line that is high is enabled for the external interrupt, bit 7 where one is for the timer
-- interrupt.
abbrev pub pending_of : SystemBlock → ℕ
pending_of s = (if nat_eq (bit_and s.lines s.enable) 0 then 0 else 2 ^ 11)
    + (if nat_eq (bit_and s.lines s.timer_enable) 0 then 0 else 2 ^ 7)

-- a level on a line
abbrev pub lined : SystemBlock → ℕ → Bool → SystemBlock
lined s number level = record s { lines = with_level s.lines number level }
