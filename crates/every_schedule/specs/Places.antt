-- Which malformed packet a machine end keeps as its fault.
use Rattle.std.specs.Prelude.{ℕ, if◌then◌else◌, nat_eq, Option, Some, None}
use Rattle.cosim_model.specs.declared.session.EndFault.{EndFault}
use Rattle.cosim_model.specs.Streams.{cause_of}

-- The cause, where the fault is a malformed packet of port p.
abbrev pub cause_at : {F : Type 0} → ℕ → Option (ℕ × EndFault F) → Option F
cause_at p None = None
cause_at p (Some fault) = if nat_eq fault.0 p then cause_of fault.1 else None
