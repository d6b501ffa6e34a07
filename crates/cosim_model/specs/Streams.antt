-- Where a stream of bytes has packets, and where bytes that are none.
use Rattle.std.specs.Prelude.{◌≡◌, ℕ, ◌+◌, List, [], ◌∷◌, drop, Option, Some, None}
use Rattle.cosim_model.specs.Packets.{Packet, Codec}
use Rattle.cosim_model.specs.Packets.Decoded.{Valid, Malformed}
use Rattle.cosim_model.specs.declared.session.EndFault.{EndFault}
use Rattle.cosim_model.specs.declared.session.EndFault.TheVariants as end_fault

-- The first `taken` bytes of x are these packets: each is the first of what those before it leave.
abbrev pub AreFirst : {F : Type 0} → Codec F → List Packet → ℕ → List ℕ → Type 0
AreFirst codec [] taken x = taken ≡ 0
AreFirst codec (p ∷ ps) taken x =
    (size : ℕ) × (more : ℕ) × (codec.first x ≡ Some (Valid p, size)) × (taken ≡ size + more)
    × AreFirst codec ps more (drop size x)

-- The first `start` bytes of x are packets, and behind them stand bytes that are none, for this cause.
pub record IsMalformedAt {F : Type 0} (codec : Codec F) (x : List ℕ) (start : ℕ) (cause : F) : Type 0 where
  pub packets : List Packet
  pub before : AreFirst codec packets start x
  pub size : ℕ
  pub malformed : codec.first (drop start x) ≡ Some (Malformed cause, size)

-- What was taken of x are packets; or packets and then the bytes that are none, where that was kept as the fault.
abbrev pub HasTaken : {F : Type 0} → Codec F → List ℕ → ℕ → Option F → Type 0
HasTaken codec x taken None = (packets : List Packet) × AreFirst codec packets taken x
HasTaken codec x taken (Some cause) = (start : ℕ) × (is : IsMalformedAt codec x start cause) × (taken ≡ start + is.size)

-- The cause of a fault that is one of a packet's bytes.

abbrev pub cause_of : {F : Type 0} → EndFault F → Option F
cause_of (end_fault.Malformed cause) = Some cause
cause_of _ = None

abbrev pub kept_cause : {F : Type 0} → Option (EndFault F) → Option F
kept_cause None = None
kept_cause (Some fault) = cause_of fault
