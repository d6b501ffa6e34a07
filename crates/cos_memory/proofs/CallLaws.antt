use Rattle.std.proofs.Common.{◌≡◌, ◌+◌, inl, true, min, subst}
use Rattle.cos_memory.specs.declared.calls.Calls.{Calls}
use Rattle.cos_memory.specs.CallNumbers.{is_listed, Fails}

-- a call that is listed failed, after steps that kept the calls
pub fails-listed : (old mid new : Calls) (other : Type 0) → mid ≡ old → is_listed mid ≡ true → new.next ≡ min (mid.next + 1) 18446744073709551615 → new.failing ≡ mid.failing → Fails old new other
fails-listed old mid new other kept listed next failing =
    subst (λ c. Fails c new other) kept (record { cause = inl listed; counted = record { next = next; failing = failing } })
