-- What `is_canonical` answers is whether its bytes spell their value canonically, or the first row that refuses them.
use Rattle.std.proofs.Common.{◌≡◌, ◌⊎◌, inl, inr, ℕ, ◌+◌, Bool, List, take, drop, sym, ap, ◌∙◌, arith, subst}
use Rattle.std.specs.Prelude.{◌↔◌, IsTrue, None, Result, Ok, Err, IfOk, IfErr}
use Rattle.std.proofs.Math.Seq.{take-length}
use Rattle.cosim_model.specs.Values.{bit}
use Rattle.cosim_model.specs.Packets.{Packet}
use Rattle.rp_header.specs.Numbers.{AreBytes}
use Rattle.rp_header.specs.Headers.{command_of}
use Rattle.rp_header.specs.HeaderLaws.{command_of-number}
use Rattle.rp_header.specs.declared.header.Header.{Header}
use Rattle.rp_packet.specs.declared.fault.Cause.{Cause}
use Rattle.rp_packet.specs.declared.fault.ReadFault.{ReadFault}
use Rattle.rp_packet.specs.declared.fault.ReadFault.TheVariants.{Malformed, NoMemory}
use Rattle.rp_packet.specs.Spelling.{Spells, IsTight, Canonical}
use Rattle.rp_packet.specs.Refusals.{body_cause, body_in, cmd_at, len_at, flags_at, early_refusal, late_refusal, value_in}
use Rattle.rp_packet.specs.Streams.{Bad}
use Rattle.rp_packet.specs.Reading.{IsOnePacket, IsEarlyFault, Judges, fault_at}
use Rattle.rp_packet.specs.ReadingLaws.{one-value, Spells-value_in}
use Rattle.rp_packet.specs.PacketLaws.{IsHeaderAt, body-whole, late-is, late-fault, early-fault, Spells-not-Bad, fault-same}
use Rattle.rp_packet.specs.CanonicalLaws.{body-is}

-- the body that a header tells of
body-of : (b : List ℕ) (h : Header) → IsOnePacket b → IsHeaderAt h b → body_in h.cmd (bit h.flags 1) (drop 20 b) ≡ (value_in b).body
unfolding value_in
body-of b h one at =
    ap (λ c. body_in c (bit h.flags 1) (drop 20 b)) (sym (command_of-number h.cmd) ∙ ap command_of at.cmd_is)
    ∙ ap (λ f. body_in (command_of (cmd_at b)) (bit f 1) (drop 20 b)) at.flags_are
    ∙ ap (body_in (command_of (cmd_at b)) (bit (flags_at b) 1)) (sym (body-whole b one))

spells : (b : List ℕ) → AreBytes b → IsOnePacket b → early_refusal b ≡ None → late_refusal b ≡ None → Spells (value_in b) b
spells b bytes one early late =
    let size = one.1 in
    let whole : take (20 + len_at b) b ≡ b = ap (λ n. take n b) (sym size) ∙ take-length b in
    subst (λ (x : List ℕ). Spells (value_in b) x) whole (Spells-value_in b bytes (omega (arith, size)) early late)

-- a spelling is canonical exactly where its body is tight
canonical-body : (v : Packet) (b : List ℕ) → Spells v b → IsTight v.body (drop 20 b) ↔ Canonical v b
canonical-body v b is = (
  λ tight. record { spelled = is; tight = subst (λ (x : List ℕ). IsTight v.body x) (body-is v b is) tight },
  λ canonical. subst (λ (x : List ℕ). IsTight v.body x) (sym (body-is v b canonical.spelled)) canonical.tight,
)

judged-ok : (b : List ℕ) (h : Header) (canonical : Bool) → AreBytes b → IsOnePacket b → early_refusal b ≡ None → IsHeaderAt h b → body_cause h.cmd (bit h.flags 1) (drop 20 b) ≡ None →
    (IsTrue canonical ↔ IsTight (body_in h.cmd (bit h.flags 1) (drop 20 b)) (drop 20 b)) → Judges b (Ok canonical)
judged-ok b h canonical bytes one early at late iff =
    let is = spells b bytes one early (sym (late-is b h one at) ∙ late) in
    let body = body-of b h one at in
    let same = canonical-body (value_in b) b is in (
      value_in b,
      is,
      (λ t. same.0 (subst (λ v. IsTight v (drop 20 b)) body (iff.0 t)), λ c. iff.1 (subst (λ v. IsTight v (drop 20 b)) (sym body) (same.1 c))),
    )

judged-err : (b : List ℕ) (h : Header) (e : ReadFault) → IsOnePacket b → early_refusal b ≡ None → IsHeaderAt h b → IsEarlyFault (body_cause h.cmd (bit h.flags 1) (drop 20 b)) e → Judges b (Err e)
judged-err b h (Malformed f) one early at fault = late-fault b h (Malformed f) one early at fault
judged-err b h NoMemory one early at fault = absurd fault

pub judged-body : (b body : List ℕ) (h : Header) (r : Result Bool ReadFault) → AreBytes b → IsOnePacket b → early_refusal b ≡ None → IsHeaderAt h b → body ≡ drop 20 b →
    IfOk r (λ t. body_cause h.cmd (bit h.flags 1) body ≡ None) → IfOk r (λ t. IsTrue t ↔ IsTight (body_in h.cmd (bit h.flags 1) body) body) →
    IfErr r (λ e. IsEarlyFault (body_cause h.cmd (bit h.flags 1) body) e) → Judges b r
judged-body b body h (Ok t) bytes one early at is lawful tight fault =
    judged-ok b h t bytes one early at (subst (λ (x : List ℕ). body_cause h.cmd (bit h.flags 1) x ≡ None) is lawful)
    (subst (λ (x : List ℕ). IsTrue t ↔ IsTight (body_in h.cmd (bit h.flags 1) x) x) is tight)
judged-body b body h (Err e) bytes one early at is lawful tight fault =
    judged-err b h e one early at (subst (λ (x : List ℕ). IsEarlyFault (body_cause h.cmd (bit h.flags 1) x) e) is fault)

pub judged-header : (b : List ℕ) (e : ReadFault) → IsOnePacket b → IsEarlyFault (early_refusal b) e → Judges b (Err e)
judged-header b (Malformed f) one fault = early-fault b (Malformed f) one fault
judged-header b NoMemory one fault = absurd fault

pub judged-exact : (b : List ℕ) (r : Result Bool ReadFault) → Judges b r → (v : Packet) → Spells v b → IfOk r (λ t. IsTrue t ↔ Canonical v b)
judged-exact b (Ok t) is v spelled = subst (λ (w : Packet). IsTrue t ↔ Canonical w b) (one-value is.0 v b is.1 spelled) is.2
judged-exact b (Err e) is v spelled = tt

memory-not : (e : ReadFault) (b : List ℕ) (cause : Cause) → Judges b (Err e) → (e ≡ Malformed (fault_at 0 cause)) ⊎ (e ≡ NoMemory) → e ≡ Malformed (fault_at 0 cause)
memory-not (Malformed f) b cause is (inl same) = same
memory-not (Malformed f) b cause is (inr memory) = absurd (cc memory)
memory-not NoMemory b cause is same = absurd is

fault-judged : (b : List ℕ) (e : ReadFault) (place : ℕ) (cause : Cause) → Judges b (Err e) → Bad b place cause → e ≡ Malformed (fault_at 0 cause)
fault-judged b (Malformed f) place cause is bad = memory-not (Malformed f) b cause is (fault-same b (Malformed f) place cause is bad)
fault-judged b NoMemory place cause is bad = absurd is

pub judged-refused : (b : List ℕ) (r : Result Bool ReadFault) → Judges b r → (place : ℕ) (cause : Cause) → Bad b place cause → r ≡ Err (Malformed (fault_at 0 cause))
judged-refused b (Ok t) is place cause bad = absurd (Spells-not-Bad is.0 b place cause is.1 bad)
judged-refused b (Err e) is place cause bad = ap Err (fault-judged b e place cause is bad)
