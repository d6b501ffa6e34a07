-- Bytes are unfinished, refused, or begin with a packet: one of these, and more bytes don't change which packet.
use Rattle.std.proofs.Common.{◌≡◌, inl, inr, ℕ, ◌+◌, ◌<◌, ◌≤◌, Bool, true, false, List, ◌++◌, length, take, drop, refl, sym, ap, ◌∙◌, arith}
use Rattle.std.specs.Prelude.{nat_lt, if◌then◌else◌, Option, Some, None}
use Rattle.std.proofs.lemmas.List.{length-append, length-drop, take-append-le, drop-append-le}
use Rattle.std.proofs.lemmas.Bool.Decides.{nat_tests}
use Rattle.byte_streams.specs.Messages.{IsDecided}
use Rattle.cosim_model.specs.Values.{bit}
use Rattle.cosim_model.specs.Packets.{Packet, Decoded}
use Rattle.cosim_model.specs.Packets.Decoded.{Valid, Malformed}
use Rattle.rp_header.specs.Numbers.{number}
use Rattle.rp_header.specs.NumberLaws.{number-append}
use Rattle.rp_header.specs.Headers.{command_of, refusal}
use Rattle.rp_packet.specs.declared.fault.Cause.{Cause}
use Rattle.rp_packet.specs.Spelling.{Spells}
use Rattle.rp_packet.specs.Refusals.{header_cause, body_cause, body_in, cmd_at, len_at, id_at, flags_at, dev_at, body_at, early_refusal, late_refusal, value_in, judged, first_at, first}
use Rattle.rp_packet.specs.ReadingLaws.{Begins-Spells, length-Spells}
use Rattle.rp_packet.specs.Streams.{Unfinished}

less : (m n : ℕ) → m < n → nat_lt m n ≡ true
less m n h = grind (arith, nat_tests)

not-less : (m n : ℕ) → n ≤ m → nat_lt m n ≡ false
not-less m n h = grind (arith, nat_tests)

when-less : (m n : ℕ) → nat_lt m n ≡ true → m < n
when-less m n e = grind (arith, nat_tests)

when-not-less : (m n : ℕ) → nat_lt m n ≡ false → n ≤ m
when-not-less m n e = grind (arith, nat_tests)

-- Where bytes stand: unfinished, with a refused header, or with a whole packet.
pub data Stage (b : List ℕ) : Type 0 where
  Early : (c : Cause) → 20 ≤ length b → early_refusal b ≡ Some c → Stage b
  Whole : 20 ≤ length b → early_refusal b ≡ None → 20 + len_at b ≤ length b → Stage b
  Waiting : Unfinished b → Stage b

whole-or-waiting : (b : List ℕ) (t : Bool) → 20 ≤ length b → early_refusal b ≡ None → nat_lt (length b) (20 + len_at b) ≡ t → Stage b
whole-or-waiting b true long early test = Waiting (inr (long, early, when-less (length b) (20 + len_at b) test))
whole-or-waiting b false long early test = Whole long early (when-not-less (length b) (20 + len_at b) test)

early-or-not : (b : List ℕ) (r : Option Cause) → 20 ≤ length b → early_refusal b ≡ r → Stage b
early-or-not b (Some c) long early = Early c long early
early-or-not b None long early = whole-or-waiting b (nat_lt (length b) (20 + len_at b)) long early refl

long-or-not : (b : List ℕ) (t : Bool) → nat_lt (length b) 20 ≡ t → Stage b
long-or-not b true test = Waiting (inl (when-less (length b) 20 test))
long-or-not b false test = early-or-not b (early_refusal b) (when-not-less (length b) 20 test) refl

pub stage-of : (b : List ℕ) → Stage b
stage-of b = long-or-not b (nat_lt (length b) 20) refl

-- what `first` gives at each
first-long : (b : List ℕ) → 20 ≤ length b → first b ≡ first_at b (early_refusal b)
first-long b long = ap (λ t. if t then None else first_at b (early_refusal b)) (not-less (length b) 20 long)

pub first-early : (b : List ℕ) (c : Cause) → 20 ≤ length b → early_refusal b ≡ Some c → first b ≡ Some (Malformed c, 20)
first-early b c long early = first-long b long ∙ ap (first_at b) early

pub first-whole : (b : List ℕ) → 20 ≤ length b → early_refusal b ≡ None → 20 + len_at b ≤ length b → first b ≡ Some (judged b (late_refusal b), 20 + len_at b)
first-whole b long early whole =
    first-long b long ∙ ap (first_at b) early
    ∙ ap (λ t. if t then None else Some (judged b (late_refusal b), 20 + len_at b)) (not-less (length b) (20 + len_at b) whole)

pub first-unfinished : (b : List ℕ) → Unfinished b → first b ≡ None
first-unfinished b is =
    elim is as (λ _. first b ≡ None) [
      | inl short ↦ ap (λ t. if t then None else first_at b (early_refusal b)) (less (length b) 20 short)
      | inr more ↦ first-long b more.0 ∙ ap (first_at b) more.1
          ∙ ap (λ t. if t then None else Some (judged b (late_refusal b), 20 + len_at b)) (less (length b) (20 + len_at b) more.2)
    ]

-- What stands in the first bytes stays.
pub record SameFront (a b : List ℕ) : Type 0 where
  pub cmd_is : cmd_at a ≡ cmd_at b
  pub len_is : len_at a ≡ len_at b
  pub id_is : id_at a ≡ id_at b
  pub flags_are : flags_at a ≡ flags_at b
  pub dev_is : dev_at a ≡ dev_at b

number-stays : (place : ℕ) (b more : List ℕ) → place + 4 ≤ length b → number 4 (drop place (b ++ more)) ≡ number 4 (drop place b)
number-stays place b more long =
    ap (number 4) (drop-append-le place b more (omega arith)) ∙ number-append 4 (drop place b) more (omega (arith, length-drop place b))

pub front-stays : (b more : List ℕ) → 20 ≤ length b → SameFront (b ++ more) b
front-stays b more long = record {
  cmd_is = number-append 4 b more (omega arith);
  len_is = number-stays 4 b more (omega arith);
  id_is = number-stays 8 b more (omega arith);
  flags_are = number-stays 12 b more (omega arith);
  dev_is = number-stays 16 b more (omega arith);
}

pub early-stays : (b more : List ℕ) → 20 ≤ length b → early_refusal (b ++ more) ≡ early_refusal b
unfolding early_refusal
early-stays b more long =
    let same = front-stays b more long in
    ap (λ n. header_cause (refusal n (len_at (b ++ more)))) same.cmd_is ∙ ap (λ n. header_cause (refusal (cmd_at b) n)) same.len_is

body-stays : (b more : List ℕ) → 20 ≤ length b → 20 + len_at b ≤ length b → body_at (b ++ more) ≡ body_at b
body-stays b more long whole =
    ap (λ n. take n (drop 20 (b ++ more))) (front-stays b more long).len_is
    ∙ ap (take (len_at b)) (drop-append-le 20 b more (omega arith))
    ∙ take-append-le (len_at b) (drop 20 b) more (omega (arith, length-drop 20 b))

pub late-stays : (b more : List ℕ) → 20 ≤ length b → 20 + len_at b ≤ length b → late_refusal (b ++ more) ≡ late_refusal b
unfolding late_refusal
late-stays b more long whole =
    let same = front-stays b more long in
    ap (λ c. body_cause (command_of c) (bit (flags_at (b ++ more)) 1) (body_at (b ++ more))) same.cmd_is
    ∙ ap (λ f. body_cause (command_of (cmd_at b)) (bit f 1) (body_at (b ++ more))) same.flags_are
    ∙ ap (body_cause (command_of (cmd_at b)) (bit (flags_at b) 1)) (body-stays b more long whole)

pub value-stays : (b more : List ℕ) → 20 ≤ length b → 20 + len_at b ≤ length b → value_in (b ++ more) ≡ value_in b
unfolding value_in
value-stays b more long whole =
    let same = front-stays b more long in
    let x = b ++ more in
    ap (λ n. record { id = n; flags = flags_at x; dev = dev_at x; body = body_in (command_of (cmd_at x)) (bit (flags_at x) 1) (body_at x) }) same.id_is
    ∙ ap (λ n. record { id = id_at b; flags = flags_at x; dev = n; body = body_in (command_of (cmd_at x)) (bit (flags_at x) 1) (body_at x) }) same.dev_is
    ∙ ap (λ n. record { id = id_at b; flags = flags_at x; dev = dev_at b; body = body_in (command_of n) (bit (flags_at x) 1) (body_at x) }) same.cmd_is
    ∙ ap (λ n. record { id = id_at b; flags = n; dev = dev_at b; body = body_in (command_of (cmd_at b)) (bit n 1) (body_at x) }) same.flags_are
    ∙ ap (λ p. record { id = id_at b; flags = flags_at b; dev = dev_at b; body = body_in (command_of (cmd_at b)) (bit (flags_at b) 1) p }) (body-stays b more long whole)

pub same-some : {A : Type 0} (x y : A) → ◌≡◌ {A = Option A} (Some x) (Some y) → x ≡ y
same-some x y e = cc

judged-stays : (b more : List ℕ) (r : Option Cause) → value_in (b ++ more) ≡ value_in b → len_at (b ++ more) ≡ len_at b → ◌≡◌ {A = Option (Decoded Cause × ℕ)} (Some (judged (b ++ more) r, 20 + len_at (b ++ more))) (Some (judged b r, 20 + len_at b))
judged-stays b more None value len = ap (λ w. Some (Valid w, 20 + len_at (b ++ more))) value ∙ ap (λ n. Some (Valid (value_in b), 20 + n)) len
judged-stays b more (Some c) value len = ap (λ n. Some (Malformed c, 20 + n)) len

decided-at : (b more : List ℕ) (r : Decoded Cause × ℕ) → Stage b → first b ≡ Some r → (0 < r.1) × (r.1 ≤ length b) × (first (b ++ more) ≡ Some r)
decided-at b more r (Early c long early) is =
    let e : Some (Malformed c, 20) ≡ Some r = sym (first-early b c long early) ∙ is in
    let size : 20 ≡ r.1 = ap (λ p. p.1) (same-some _ _ e) in (
      omega (arith, size),
      omega (arith, size, long),
      first-early (b ++ more) c (omega (arith, length-append b more)) (early-stays b more long ∙ early) ∙ e,
    )
decided-at b more r (Whole long early whole) is =
    let e : Some (judged b (late_refusal b), 20 + len_at b) ≡ Some r = sym (first-whole b long early whole) ∙ is in
    let size : 20 + len_at b ≡ r.1 = ap (λ p. p.1) (same-some _ _ e) in
    let len : len_at (b ++ more) ≡ len_at b = (front-stays b more long).len_is in
    let fits : 20 + len_at (b ++ more) ≤ length (b ++ more) = omega (arith, len, length-append b more) in (
      omega (arith, size),
      omega (arith, size, whole),
      first-whole (b ++ more) (omega (arith, length-append b more)) (early-stays b more long ∙ early) fits
          ∙ ap (λ l. Some (judged (b ++ more) l, 20 + len_at (b ++ more))) (late-stays b more long whole)
          ∙ judged-stays b more (late_refusal b) (value-stays b more long whole) len
          ∙ e,
    )
decided-at b more r (Waiting is_not) is = absurd (cc (sym (first-unfinished b is_not) ∙ is))

-- A whole message is decided by its own bytes.
pub first-decided : IsDecided first
first-decided b more r is = decided-at b more r (stage-of b) is

-- What was spelled is the first packet, whatever follows.
pub first-spelled : (v : Packet) (b rest : List ℕ) → Spells v b → first (b ++ rest) ≡ Some (Valid v, length b)
first-spelled v b rest is =
    let begins = Begins-Spells v b rest is in
    let size = length-Spells v b is in
    let x = b ++ rest in
    let long : 20 ≤ length x = omega (arith, begins.long, size) in
    let whole : 20 + len_at x ≤ length x = omega (arith, begins.long, begins.len_is) in
    first-whole x long begins.early whole
    ∙ ap (λ l. Some (judged x l, 20 + len_at x)) begins.late
    ∙ ap (λ w. Some (Valid w, 20 + len_at x)) begins.value_is
    ∙ ap (λ n. Some (Valid v, n)) begins.len_is
