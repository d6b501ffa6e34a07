-- What `Packet::read` answers is what its bytes spell, or the first row that refuses them.
use Rattle.std.proofs.Common.{◌≡◌, ◌⊎◌, inl, inr, ℕ, ◌+◌, ◌<◌, ◌≤◌, List, [], ◌++◌, length, take, drop, refl, sym, ap, ◌∙◌, arith, subst}
use Rattle.std.specs.Prelude.{Option, Some, None, Result, Ok, Err, IfOk, IfErr, MatchResult}
use Rattle.std.proofs.Math.Seq.{take-length}
use Rattle.std.proofs.lemmas.List.{append-nil, length-drop, take-append-drop, drop-take}
use Rattle.cosim_model.specs.Values.{bit}
use Rattle.cosim_model.specs.Packets.{Packet, cmd_of, carries}
use Rattle.rp_header.specs.Numbers.{number, AreBytes}
use Rattle.rp_header.specs.NumberLaws.{number-lt, number-take, AreBytes-drop}
use Rattle.rp_header.specs.Headers.{command_of, command_number, header_bytes, refusal}
use Rattle.rp_header.specs.HeaderLaws.{header-front, refusal-lawful, command_of-number}
use Rattle.rp_header.specs.declared.header.Header.{Header}
use Rattle.rp_packet.specs.declared.fault.Cause.{Cause}
use Rattle.rp_packet.specs.declared.fault.ReadFault.{ReadFault}
use Rattle.rp_packet.specs.declared.fault.ReadFault.TheVariants.{Malformed, NoMemory}
use Rattle.rp_packet.specs.declared.packet.Packet.{Packet as HeldPacket}
use Rattle.rp_packet.specs.Values.{value_of}
use Rattle.rp_packet.specs.Spelling.{IsBodyOf, Spells}
use Rattle.rp_packet.specs.Refusals.{header_cause, body_cause, place_of, cmd_at, len_at, id_at, flags_at, dev_at, body_at, early_refusal, late_refusal}
use Rattle.rp_packet.specs.Streams.{Bad}
use Rattle.rp_packet.specs.Reading.{IsOnePacket, fault_at, IsReadFault, IsBodyFault, IsEarlyFault}
use Rattle.rp_packet.specs.ReadingLaws.{Begins, Begins-Spells, one-value, header-lawful}

-- a header that was read at the front of bytes
pub record IsHeaderAt (h : Header) (b : List ℕ) : Type 0 where
  pub cmd_is : command_number h.cmd ≡ cmd_at b
  pub len_is : h.len ≡ len_at b
  pub id_is : h.id ≡ id_at b
  pub flags_are : h.flags ≡ flags_at b
  pub dev_is : h.dev ≡ dev_at b

front-number : (place m : ℕ) (b : List ℕ) → 4 ≤ m → number 4 (drop place (take (place + m) b)) ≡ number 4 (drop place b)
front-number place m b within = ap (number 4) (drop-take place m b) ∙ number-take 4 m (drop place b) within

pub header-at : (h : Header) (b front : List ℕ) → front ≡ take 20 b → command_number h.cmd ≡ number 4 front → h.len ≡ number 4 (drop 4 front) → h.id ≡ number 4 (drop 8 front) → h.flags ≡ number 4 (drop 12 front) → h.dev ≡ number 4 (drop 16 front) → IsHeaderAt h b
header-at h b front is cmd len id flags dev = record {
  cmd_is = cmd ∙ ap (number 4) is ∙ number-take 4 20 b (omega arith);
  len_is = len ∙ ap (λ x. number 4 (drop 4 x)) is ∙ front-number 4 16 b (omega arith);
  id_is = id ∙ ap (λ x. number 4 (drop 8 x)) is ∙ front-number 8 12 b (omega arith);
  flags_are = flags ∙ ap (λ x. number 4 (drop 12 x)) is ∙ front-number 12 8 b (omega arith);
  dev_is = dev ∙ ap (λ x. number 4 (drop 16 x)) is ∙ front-number 16 4 b (omega arith);
}

pub early-front : (b front : List ℕ) → front ≡ take 20 b → header_cause (refusal (number 4 front) (number 4 (drop 4 front))) ≡ early_refusal b
unfolding early_refusal
early-front b front is =
    ap (λ x. header_cause (refusal (number 4 x) (number 4 (drop 4 x)))) is
    ∙ ap (λ n. header_cause (refusal n (number 4 (drop 4 (take 20 b))))) (number-take 4 20 b (omega arith))
    ∙ ap (λ n. header_cause (refusal (cmd_at b) n)) (front-number 4 16 b (omega arith))

pub body-whole : (b : List ℕ) → IsOnePacket b → body_at b ≡ drop 20 b
body-whole b one =
    let size : len_at b ≡ length (drop 20 b) = omega (arith, one.1, length-drop 20 b) in
    ap (λ n. take n (drop 20 b)) size ∙ take-length (drop 20 b)

read-spells : (b : List ℕ) (h : Header) (v : Packet) → AreBytes b → IsOnePacket b → early_refusal b ≡ None → IsHeaderAt h b → v.id ≡ h.id → v.flags ≡ h.flags → v.dev ≡ h.dev → cmd_of v.body ≡ command_number h.cmd → IsBodyOf (carries v) v.body (drop 20 b) → Spells v b
read-spells b h v bytes one early at id flags dev cmd means =
    let body : List ℕ = drop 20 b in
    let size : len_at b ≡ length body = omega (arith, one.1, length-drop 20 b) in
    let lawful = refusal-lawful (cmd_at b) (len_at b) (header-lawful b early) in
    let cmd_is : cmd_at b ≡ cmd_of v.body = sym (cmd ∙ at.cmd_is) in
    let id_is : id_at b ≡ v.id = sym (id ∙ at.id_is) in
    let flags_are : flags_at b ≡ v.flags = sym (flags ∙ at.flags_are) in
    let dev_is : dev_at b ≡ v.dev = sym (dev ∙ at.dev_is) in
    record {
      body = body;
      whole = sym (take-append-drop 20 b) ∙ ap (λ f. f ++ body) (header-front b bytes one.0
          ∙ ap (λ n. header_bytes n (len_at b) (id_at b) (flags_at b) (dev_at b)) cmd_is
          ∙ ap (λ n. header_bytes (cmd_of v.body) n (id_at b) (flags_at b) (dev_at b)) size
          ∙ ap (λ n. header_bytes (cmd_of v.body) (length body) n (flags_at b) (dev_at b)) id_is
          ∙ ap (λ n. header_bytes (cmd_of v.body) (length body) v.id n (dev_at b)) flags_are
          ∙ ap (λ n. header_bytes (cmd_of v.body) (length body) v.id v.flags n) dev_is);
      most = omega (arith, size, lawful.1);
      id_fits = subst (λ (n : ℕ). n < 4294967296) id_is (number-lt 4 (drop 8 b) (AreBytes-drop 8 b bytes));
      flags_fit = subst (λ (n : ℕ). n < 4294967296) flags_are (number-lt 4 (drop 12 b) (AreBytes-drop 12 b bytes));
      dev_fits = subst (λ (n : ℕ). n < 4294967296) dev_is (number-lt 4 (drop 16 b) (AreBytes-drop 16 b bytes));
      means = means;
    }

pub late-is : (b : List ℕ) (h : Header) → IsOnePacket b → IsHeaderAt h b → body_cause h.cmd (bit h.flags 1) (drop 20 b) ≡ late_refusal b
unfolding late_refusal
late-is b h one at =
    ap (λ c. body_cause c (bit h.flags 1) (drop 20 b)) (sym (command_of-number h.cmd) ∙ ap command_of at.cmd_is)
    ∙ ap (λ f. body_cause (command_of (cmd_at b)) (bit f 1) (drop 20 b)) at.flags_are
    ∙ ap (body_cause (command_of (cmd_at b)) (bit (flags_at b) 1)) (sym (body-whole b one))

pub late-fault : (b : List ℕ) (h : Header) (e : ReadFault) → IsOnePacket b → early_refusal b ≡ None → IsHeaderAt h b → IsBodyFault (body_cause h.cmd (bit h.flags 1) (drop 20 b)) e → IsReadFault b e
late-fault b h (Malformed f) one early at fault = (
  ap (λ x. x.start) fault.0,
  record {
    long = one.0;
    at = ap (λ x. x.place) fault.0;
    refused = inr (early, omega (arith, one.1), sym (late-is b h one at) ∙ fault.1);
  },
)
late-fault b h NoMemory one early at fault = tt

pub early-fault : (b : List ℕ) (e : ReadFault) → IsOnePacket b → IsEarlyFault (early_refusal b) e → IsReadFault b e
early-fault b (Malformed f) one fault =
    (ap (λ x. x.start) fault.0, record { long = one.0; at = ap (λ x. x.place) fault.0; refused = inl fault.1 })
early-fault b NoMemory one fault = absurd fault

-- the answer, by its cases
abbrev pub Answers : List ℕ → Result HeldPacket ReadFault → Type 0
Answers b (Ok p) = Spells (value_of p) b
Answers b (Err e) = IsReadFault b e

pub read-answers : (b body : List ℕ) (h : Header) (r : Result HeldPacket ReadFault) → AreBytes b → IsOnePacket b → early_refusal b ≡ None → IsHeaderAt h b → body ≡ drop 20 b →
    IfOk r (λ p. (value_of p).id ≡ h.id) → IfOk r (λ p. (value_of p).flags ≡ h.flags) → IfOk r (λ p. (value_of p).dev ≡ h.dev) →
    IfOk r (λ p. cmd_of (value_of p).body ≡ command_number h.cmd) → IfOk r (λ p. IsBodyOf (carries (value_of p)) (value_of p).body body) →
    IfErr r (λ e. IsBodyFault (body_cause h.cmd (bit h.flags 1) body) e) → Answers b r
read-answers b body h (Ok p) bytes one early at is id flags dev cmd means fault =
    read-spells b h (value_of p) bytes one early at id flags dev cmd
    (subst (λ (x : List ℕ). IsBodyOf (carries (value_of p)) (value_of p).body x) is means)
read-answers b body h (Err e) bytes one early at is id flags dev cmd means fault =
    late-fault b h e one early at (subst (λ (x : List ℕ). IsBodyFault (body_cause h.cmd (bit h.flags 1) x) e) is fault)

pub answer-ok : (b : List ℕ) (r : Result HeldPacket ReadFault) → Answers b r → IfOk r (λ p. Spells (value_of p) b)
answer-ok b (Ok p) is = is
answer-ok b (Err e) is = tt

pub answer-malformed : (b : List ℕ) (r : Result HeldPacket ReadFault) → Answers b r → IfErr r (λ e. IsReadFault b e)
answer-malformed b (Ok p) is = tt
answer-malformed b (Err e) is = is

own : (v : Packet) (b : List ℕ) → Spells v b → Begins v (length b) b
own v b is = subst (λ (x : List ℕ). Begins v (length b) x) (append-nil b) (Begins-Spells v b [] is)

-- What spells a packet isn't refused.
pub Spells-not-Bad : (v : Packet) (b : List ℕ) (place : ℕ) (cause : Cause) → Spells v b → Bad b place cause → ⊥
Spells-not-Bad v b place cause is bad =
    let begins = own v b is in
    elim bad.refused as (λ _. ⊥) [
      | inl early ↦ absurd (cc (sym begins.early ∙ early))
      | inr late ↦ absurd (cc (sym begins.late ∙ late.2))
    ]

same-cause : (c d : Cause) → ◌≡◌ {A = Option Cause} (Some c) (Some d) → c ≡ d
same-cause c d e = cc

-- A refused list has one fault.
pub one-fault : (b : List ℕ) (place other : ℕ) (cause another : Cause) → Bad b place cause → Bad b other another → cause ≡ another
one-fault b place other cause another bad bad2 =
    elim bad.refused as (λ _. cause ≡ another) [
      | inl early ↦ elim bad2.refused as (λ _. cause ≡ another) [
        | inl early2 ↦ same-cause cause another (sym early ∙ early2)
        | inr late2 ↦ absurd (cc (sym early ∙ late2.0))
      ]
      | inr late ↦ elim bad2.refused as (λ _. cause ≡ another) [
        | inl early2 ↦ absurd (cc (sym late.0 ∙ early2))
        | inr late2 ↦ same-cause cause another (sym late.2 ∙ late2.2)
      ]
    ]

pub fault-memory : (v : Packet) (b : List ℕ) (e : ReadFault) → Spells v b → IsReadFault b e → e ≡ NoMemory
fault-memory v b (Malformed f) is fault = absurd (Spells-not-Bad v b f.place f.cause is fault.1)
fault-memory v b NoMemory is fault = refl

pub answer-exact : (b : List ℕ) (r : Result HeldPacket ReadFault) → Answers b r → (v : Packet) → Spells v b → MatchResult r (λ p. value_of p ≡ v) (λ e. e ≡ NoMemory)
answer-exact b (Ok p) is v spells = one-value (value_of p) v b is spells
answer-exact b (Err e) is v spells = fault-memory v b e spells is

pub fault-same : (b : List ℕ) (e : ReadFault) (place : ℕ) (cause : Cause) → IsReadFault b e → Bad b place cause → (e ≡ Malformed (fault_at 0 cause)) ⊎ (e ≡ NoMemory)
fault-same b (Malformed f) place cause fault bad =
    let c : f.cause ≡ cause = one-fault b f.place place f.cause cause fault.1 bad in
    let p : f.place ≡ place_of cause = fault.1.at ∙ ap place_of c in
    inl (ap Malformed (ap (λ n. record { start = n; place = f.place; cause = f.cause }) fault.0
    ∙ ap (λ n. record { start = 0; place = n; cause = f.cause }) p ∙ ap (λ x. record { start = 0; place = place_of cause; cause = x }) c))
fault-same b NoMemory place cause fault bad = inr refl

pub answer-refused : (b : List ℕ) (r : Result HeldPacket ReadFault) → Answers b r → (place : ℕ) (cause : Cause) → Bad b place cause → IfErr r (λ e. (e ≡ Malformed (fault_at 0 cause)) ⊎ (e ≡ NoMemory))
answer-refused b (Ok p) is place cause bad = tt
answer-refused b (Err e) is place cause bad = fault-same b e place cause is bad
