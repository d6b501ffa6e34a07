-- What writing a packet does.
use Rattle.std.specs.Prelude.{◌≡◌, ℕ, ◌-◌, ◌<◌, ◌≤◌, List, ◌++◌, length, Option, Some, None, Result, Ok, Err}
use Rattle.cos_base.specs.Octets.{Held}
use Rattle.rp_busaccess.specs.declared.fault.WriteFault.{WriteFault}
use Rattle.rp_busaccess.specs.declared.fault.WriteFault.TheVariants.{MasterTooWide, DataCount, EnablesInOld, TooLong, NoMemory}

-- The fault that there is, the first that applies. Want of memory comes only where the room is too small.
abbrev pub IsWriteFault : List ℕ → Option WriteFault → ℕ → WriteFault → Type 0
IsWriteFault bytes first spare (MasterTooWide master) = first ≡ Some (MasterTooWide master)
IsWriteFault bytes first spare (DataCount wanted got) = first ≡ Some (DataCount wanted got)
IsWriteFault bytes first spare (EnablesInOld count) = first ≡ Some (EnablesInOld count)
IsWriteFault bytes first spare (TooLong len) = first ≡ Some (TooLong len)
IsWriteFault bytes first spare NoMemory = spare < length bytes

-- The bytes are appended, in the room that there is where they fit into it; or all is as before, and the fault is
-- named.
abbrev pub Writes : List ℕ → Option WriteFault → Held → Held → Result Unit WriteFault → Type 0
Writes bytes first old new (Ok u) = (first ≡ None) × (new.bytes ≡ old.bytes ++ bytes)
    × (length bytes ≤ old.spare → new.spare ≡ old.spare - length bytes)
Writes bytes first old new (Err e) = (new ≡ old) × IsWriteFault bytes first old.spare e
