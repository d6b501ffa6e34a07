-- What reading the front of bytes shows of them.
use Rattle.std.proofs.Common.{◌≡◌, inl, inr, ℕ, ◌+◌, ◌<◌, ◌≤◌, Bool, List, length, take, drop, refl, sym, ap, ◌∙◌, arith}
use Rattle.std.proofs.lemmas.Bool.Decides.{nat_tests}
use Rattle.std.specs.Prelude.{is_some, nat_le, true, false, Some, None, Err}
use Rattle.std.proofs.lemmas.List.{length-take, take-append-drop}
use Rattle.cosim_model.specs.Packets.{Packet}
use Rattle.cosim_model.specs.Packets.Decoded.{Valid, Malformed}
use Rattle.rp_packet.specs.declared.fault.Cause.{Cause}
use Rattle.rp_packet.specs.declared.fault.ReadFault.{ReadFault}
use Rattle.rp_packet.specs.declared.fault.ReadFault.TheVariants as read
use Rattle.rp_packet.specs.Spelling.{Spells}
use Rattle.rp_packet.specs.Refusals.{place_of, cmd_at, len_at, early_refusal, late_refusal, judged, first}
use Rattle.rp_packet.specs.Streams.{Unfinished}
use Rattle.rp_packet.specs.Reading.{IsOnePacket, fault_at, IsReadFault, IsEarlyFault}
use Rattle.rp_header.specs.HeaderLaws.{refusal-lawful}
use Rattle.rp_packet.specs.ReadingLaws.{header-lawful}
use Rattle.rp_packet.specs.WalkLaws.{first-nothing}
use Rattle.rp_packet.specs.StreamLaws.{front-stays, early-stays, late-stays, first-early, first-whole, first-unfinished, first-spelled}
use Rattle.rp_framing.specs.Framing.{IsFront}

same-len : (n : ℕ) (b : List ℕ) → 20 ≤ n → n ≤ length b → len_at (take n b) ≡ len_at b
same-len n b long within =
    let size : length (take n b) ≡ n = omega (arith, length-take n b) in
    sym (front-stays (take n b) (drop n b) (omega arith)).len_is ∙ ap len_at (take-append-drop n b)

-- the bytes up to the size that a header says are one packet
pub one-packet : (b : List ℕ) (n : ℕ) → n ≡ 20 + len_at b → n ≤ length b → IsOnePacket (take n b)
one-packet b n is within =
    let size : length (take n b) ≡ n = omega (arith, length-take n b) in
    let len = same-len n b (omega arith) within in
    (omega arith, omega (arith, size, is, len))

pub front-short : (b : List ℕ) → length b < 20 → first b ≡ None
front-short b short = first-unfinished b (inl short)

pub front-waiting : (b : List ℕ) (n : ℕ) → 20 ≤ length b → early_refusal b ≡ None → n ≡ 20 + len_at b → length b < n
    → first b ≡ None
front-waiting b n long early is short = first-unfinished b (inr (long, early, omega arith))

pub front-packet : (b : List ℕ) (n : ℕ) (v : Packet) → n ≤ length b → Spells v (take n b) → first b ≡ Some (Valid v, n)
front-packet b n v within is =
    let size : length (take n b) ≡ n = omega (arith, length-take n b) in
    ap first (sym (take-append-drop n b)) ∙ first-spelled v (take n b) (drop n b) is ∙ ap (λ m. Some (Valid v, m)) size

-- a header that is refused
pub front-early : (b : List ℕ) (e : ReadFault) → 20 ≤ length b → IsEarlyFault (early_refusal b) e → IsFront b (Err e)
front-early b (read.Malformed f) long fault = (fault.0, 20, first-early b f.cause long fault.1)
front-early b read.NoMemory long fault = absurd fault

within : (m n : ℕ) → nat_le m n ≡ true → m ≤ n
within m n e = grind (arith, nat_tests)

beyond : (m n : ℕ) → nat_le m n ≡ false → n < m
beyond m n e = grind (arith, nat_tests)

ready-at : (b : List ℕ) (n : ℕ) → 20 ≤ length b → early_refusal b ≡ None → n ≡ 20 + len_at b → (t : Bool)
    → nat_le n (length b) ≡ t → t ≡ is_some (first b)
ready-at b n long early is true test = let fits = within n (length b) test
    in sym (ap is_some (first-whole b long early (omega (arith, is, fits))))
ready-at b n long early is false test = let short = beyond n (length b) test
    in sym (ap is_some (front-waiting b n long early is short))

pub early-ready : (b : List ℕ) (e : ReadFault) → 20 ≤ length b → IsEarlyFault (early_refusal b) e → true
    ≡ is_some (first b)
early-ready b (read.Malformed f) long fault = sym (ap is_some (first-early b f.cause long fault.1))
early-ready b read.NoMemory long fault = absurd fault

pub whole-ready : (b : List ℕ) (n : ℕ) → 20 ≤ length b → early_refusal b ≡ None → n ≡ 20 + len_at b
    → nat_le n (length b) ≡ is_some (first b)
whole-ready b n long early is = ready-at b n long early is (nat_le n (length b)) refl

fault-is : (start place : ℕ) (cause : Cause) → start ≡ 0 → place ≡ place_of cause
    → record { start = start; place = place; cause = cause } ≡ fault_at 0 cause
fault-is start place cause s p = ap (λ n. record { start = n; place = place; cause = cause }) s
    ∙ ap (λ n. record { start = 0; place = n; cause = cause }) p

-- a packet that is refused
pub front-late : (b : List ℕ) (n : ℕ) (e : ReadFault) → 20 ≤ length b → early_refusal b ≡ None → n ≡ 20 + len_at b
    → n ≤ length b → IsReadFault (take n b) e → IsFront b (Err e)
front-late b n (read.Malformed f) long early is within fault =
    let packet = take n b in
    let size : length packet ≡ n = omega (arith, length-take n b) in
    let len = same-len n b (omega arith) within in
    let whole = take-append-drop n b in
    let bad = fault.1 in
    let found : (m : ℕ)
    × (first b ≡ Some (Malformed f.cause, m)) =
    elim bad.refused as (λ _. (m : ℕ) × (first b ≡ Some (Malformed f.cause, m))) [
      | inl soon ↦ (
        20,
        first-early b f.cause long (sym (ap early_refusal whole) ∙ early-stays packet (drop n b) (omega arith)
            ∙ soon),
      )
      | inr late ↦ (
        20 + len_at b,
        first-whole b long early (omega arith)
            ∙ ap (λ r. Some (judged b r, 20 + len_at b)) (sym (ap late_refusal whole)
            ∙ late-stays packet (drop n b) (omega arith) (omega (arith, size, len, is)) ∙ late.2),
      )
    ] in
    (fault-is f.start f.place f.cause fault.0 bad.at, found.0, found.1)
front-late b n read.NoMemory long early is within fault = tt

-- what isn't whole is shorter than the longest packet
unfinished-few : (b : List ℕ) → Unfinished b → length b < 65556
unfinished-few b is =
    elim is as (λ _. length b < 65556) [
      | inl short ↦ omega arith
      | inr more ↦ let lawful = refusal-lawful (cmd_at b) (len_at b) (header-lawful b more.1)
          in omega (arith, more.2, lawful.1)
    ]

pub first-few : (b : List ℕ) → first b ≡ None → length b < 65556
first-few b nothing = unfinished-few b (first-nothing b nothing)
