-- Bytes that spell a packet are read as that packet whatever follows, and what is read is spelled so.
use Rattle.std.proofs.Common.{◌≡◌, ℕ, ◌+◌, ◌^◌, ◌<◌, ◌≤◌, List, [], ◌++◌, length, take, drop, refl, sym, ap, ◌∙◌, arith, subst}
use Rattle.std.specs.Prelude.{Option, Some, None}
use Rattle.std.proofs.Math.Seq.{take-append_seam}
use Rattle.std.proofs.lemmas.List.{append_assoc, length-append, length-drop, length-take}
use Rattle.cosim_model.specs.Values.{bit}
use Rattle.cosim_model.specs.Packets.{Packet, Body, cmd_of, command_of as command_of_body}
use Rattle.rp_header.specs.Numbers.{AreBytes}
use Rattle.rp_header.specs.NumberLaws.{number-lt, AreBytes-drop, AreBytes-take, take-add}
use Rattle.rp_header.specs.Headers.{command_of, header_bytes, refusal}
use Rattle.rp_header.specs.HeaderLaws.{StartsWith, StartsWith-header, header-front, refusal-none, refusal-lawful, command_number-of, command_number-lt}
use Rattle.rp_header.specs.declared.fault.HeaderFault.{HeaderFault}
use Rattle.rp_header.specs.declared.fault.HeaderFault.TheVariants as header_fault
use Rattle.rp_packet.specs.Spelling.{Spells}
use Rattle.rp_packet.specs.Refusals.{header_cause, body_cause, body_in, cmd_at, len_at, id_at, flags_at, dev_at, body_at, early_refusal, late_refusal, value_in}
use Rattle.rp_packet.specs.BodyLaws.{IsBodyOf-there, IsBodyOf-read, cmd_of-body_in}

-- What is read where a spelling stands at the front.
pub record Begins (v : Packet) (size : ℕ) (b : List ℕ) : Type 0 where
  pub early : early_refusal b ≡ None
  pub len_is : 20 + len_at b ≡ size
  pub long : size ≤ length b
  pub late : late_refusal b ≡ None
  pub value_is : value_in b ≡ v

cmd-lt : (v : Body) → cmd_of v < 2 ^ 32
cmd-lt v = command_number-lt (command_of_body v)

same-packet : (f g : Packet) → f.id ≡ g.id → f.flags ≡ g.flags → f.dev ≡ g.dev → f.body ≡ g.body → f ≡ g
same-packet f g i l d b =
    ap (λ x. record { id = x; flags = f.flags; dev = f.dev; body = f.body }) i
    ∙ ap (λ x. record { id = g.id; flags = x; dev = f.dev; body = f.body }) l
    ∙ ap (λ x. record { id = g.id; flags = g.flags; dev = x; body = f.body }) d
    ∙ ap (λ x. record { id = g.id; flags = g.flags; dev = g.dev; body = x }) b

starts : (v : Packet) (b rest : List ℕ) (is : Spells v b) → StartsWith (cmd_of v.body) (length is.body) v.id v.flags v.dev (is.body ++ rest) (b ++ rest)
starts v b rest is =
    let most = is.most in
    let whole : b ++ rest ≡ header_bytes (cmd_of v.body) (length is.body) v.id v.flags v.dev ++ (is.body ++ rest) =
    ap (λ x. x ++ rest) is.whole ∙ append_assoc (header_bytes (cmd_of v.body) (length is.body) v.id v.flags v.dev) is.body rest in
    subst (λ (x : List ℕ). StartsWith (cmd_of v.body) (length is.body) v.id v.flags v.dev (is.body ++ rest) x) (sym whole)
    (StartsWith-header (cmd_of v.body) (length is.body) v.id v.flags v.dev (is.body ++ rest) (cmd-lt v.body) (omega arith) is.id_fits is.flags_fit is.dev_fits)

pub length-Spells : (v : Packet) (b : List ℕ) (is : Spells v b) → length b ≡ 20 + length is.body
length-Spells v b is =
    let s = starts v b [] is in
    omega (arith, s.size, length-append b [], length-append is.body [])

pub Begins-Spells : (v : Packet) (b rest : List ℕ) → Spells v b → Begins v (length b) (b ++ rest)
unfolding early_refusal late_refusal value_in
Begins-Spells v b rest is =
    let s = starts v b rest is in
    let size = length-Spells v b is in
    let most = is.most in
    let command : command_of (cmd_at (b ++ rest)) ≡ command_of (cmd_of v.body) = ap command_of s.cmd_is in
    let flags : bit (flags_at (b ++ rest)) 1 ≡ bit v.flags 1 = ap (λ n. bit n 1) s.flags_are in
    let part : body_at (b ++ rest) ≡ is.body =
    ap (λ n. take n (drop 20 (b ++ rest))) s.len_is ∙ ap (take (length is.body)) s.rest_is ∙ take-append_seam is.body rest in
    let read = IsBodyOf-read (bit v.flags 1) v.body is.body is.means in
    record {
      early = ap (λ n. header_cause (refusal n (len_at (b ++ rest)))) s.cmd_is ∙ ap (λ n. header_cause (refusal (cmd_of v.body) n)) s.len_is
          ∙ ap header_cause (refusal-none (command_of_body v.body) (length is.body) most);
      len_is = ap (λ n. 20 + n) s.len_is ∙ sym size;
      long = omega (arith, length-append b rest);
      late = ap (λ c. body_cause c (bit (flags_at (b ++ rest)) 1) (body_at (b ++ rest))) command
          ∙ ap (λ r. body_cause (command_of (cmd_of v.body)) r (body_at (b ++ rest))) flags
          ∙ ap (body_cause (command_of (cmd_of v.body)) (bit v.flags 1)) part ∙ read.lawful;
      value_is = same-packet (value_in (b ++ rest)) v s.id_is s.flags_are s.dev_is
          (ap (λ c. body_in c (bit (flags_at (b ++ rest)) 1) (body_at (b ++ rest))) command
          ∙ ap (λ r. body_in (command_of (cmd_of v.body)) r (body_at (b ++ rest))) flags
          ∙ ap (body_in (command_of (cmd_of v.body)) (bit v.flags 1)) part ∙ read.value_is);
    }

-- A list spells one value at most.
pub one-value : (v w : Packet) (b : List ℕ) → Spells v b → Spells w b → v ≡ w
one-value v w b is_v is_w =
    sym (Begins-Spells v b [] is_v).value_is ∙ (Begins-Spells w b [] is_w).value_is

header-none : (r : Option HeaderFault) → header_cause r ≡ None → r ≡ None
header-none None e = refl
header-none (Some (header_fault.Command n)) e = absurd (cc (e))
header-none (Some (header_fault.Translation n)) e = absurd (cc (e))
header-none (Some (header_fault.TooLong n)) e = absurd (cc (e))

pub header-lawful : (b : List ℕ) → early_refusal b ≡ None → refusal (cmd_at b) (len_at b) ≡ None
unfolding early_refusal
header-lawful b e = header-none (refusal (cmd_at b) (len_at b)) e

-- What no row refuses spells what is read in it.
pub Spells-value_in : (b : List ℕ) → AreBytes b → 20 + len_at b ≤ length b → early_refusal b ≡ None → late_refusal b ≡ None → Spells (value_in b) (take (20 + len_at b) b)
unfolding late_refusal value_in
Spells-value_in b bytes long early late =
    let lawful = refusal-lawful (cmd_at b) (len_at b) (header-lawful b early) in
    let cmd : cmd_of (body_in (command_of (cmd_at b)) (bit (flags_at b) 1) (body_at b)) ≡ cmd_at b =
    cmd_of-body_in (command_of (cmd_at b)) (bit (flags_at b) 1) (body_at b) ∙ command_number-of (cmd_at b) lawful.0 in
    let size : length (body_at b) ≡ len_at b = omega (arith, length-take (len_at b) (drop 20 b), length-drop 20 b) in
    let whole : take (20 + len_at b) b ≡ header_bytes (cmd_at b) (len_at b) (id_at b) (flags_at b) (dev_at b) ++ body_at b =
    sym (take-add 20 (len_at b) b) ∙ ap (λ f. f ++ body_at b) (header-front b bytes (omega arith)) in
    record {
      body = body_at b;
      whole = whole ∙ ap (λ n. header_bytes n (len_at b) (id_at b) (flags_at b) (dev_at b) ++ body_at b) (sym cmd)
          ∙ ap (λ n. header_bytes (cmd_of (body_in (command_of (cmd_at b)) (bit (flags_at b) 1) (body_at b))) n (id_at b) (flags_at b) (dev_at b) ++ body_at b) (sym size);
      most = omega (arith, size, lawful.1);
      id_fits = number-lt 4 (drop 8 b) (AreBytes-drop 8 b bytes);
      flags_fit = number-lt 4 (drop 12 b) (AreBytes-drop 12 b bytes);
      dev_fits = number-lt 4 (drop 16 b) (AreBytes-drop 16 b bytes);
      means = IsBodyOf-there (command_of (cmd_at b)) (bit (flags_at b) 1) (body_at b) (AreBytes-take (len_at b) (drop 20 b) (AreBytes-drop 20 b bytes)) late;
    }
