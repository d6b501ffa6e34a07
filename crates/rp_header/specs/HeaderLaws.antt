-- A header's bytes give its numbers, and its numbers give its bytes.
use Rattle.std.proofs.Common.{◌≡◌, ℕ, zero, suc, ◌+◌, ◌^◌, ◌<◌, ◌≤◌, List, ◌++◌, length, take, drop, refl, sym, ap, ◌∙◌, arith}
use Rattle.std.specs.Prelude.{None}
use Rattle.std.proofs.lemmas.Bool.Decides.{nat_tests}
use Rattle.std.proofs.lemmas.List.{append_assoc, length-append}
use Rattle.std.proofs.Math.Seq.{take-length}
use Rattle.rp_header.specs.Numbers.{be, number, AreBytes}
use Rattle.rp_header.specs.NumberLaws.{be-number, be-same, length-be, take-number, parts-be, number_at, IsNumberAt-front, IsNumberAt-behind, drop-behind}
use Rattle.rp_header.specs.Headers.{command_number, command_of, header_bytes, bytes_of, refusal, IsHeader}
use Rattle.cosim_model.specs.declared.session.Command.{Command}
use Rattle.cosim_model.specs.declared.session.Command.TheVariants.{Nop, Hello, Cfg, Read, Write, Interrupt, Sync}
use Rattle.rp_header.specs.declared.header.Header.{Header}

pub header-front : (b : List ℕ) → AreBytes b → 20 ≤ length b → take 20 b ≡ header_bytes (number 4 b) (number 4 (drop 4 b)) (number 4 (drop 8 b)) (number 4 (drop 12 b)) (number 4 (drop 16 b))
header-front b bytes long =
    take-number 16 4 b bytes (omega arith)
    ∙ ap (λ f. f ++ be (number 4 (drop 16 b)) 4) (take-number 12 4 b bytes (omega arith)
    ∙ ap (λ f. f ++ be (number 4 (drop 12 b)) 4) (take-number 8 4 b bytes (omega arith)
    ∙ ap (λ f. f ++ be (number 4 (drop 8 b)) 4) (take-number 4 4 b bytes (omega arith)
    ∙ ap (λ f. f ++ be (number 4 (drop 4 b)) 4) (sym (be-number 4 b bytes (omega arith))))))

pub header-numbers : (b : List ℕ) → AreBytes b → length b ≡ 20 → b ≡ header_bytes (number 4 b) (number 4 (drop 4 b)) (number 4 (drop 8 b)) (number 4 (drop 12 b)) (number 4 (drop 16 b))
header-numbers b bytes size = sym (take-length b) ∙ ap (λ n. take n b) size ∙ header-front b bytes (omega arith)

pub record SameNumbers (c1 l1 i1 f1 d1 c2 l2 i2 f2 d2 : ℕ) : Type 0 where
  pub cmd : c1 ≡ c2
  pub len : l1 ≡ l2
  pub id : i1 ≡ i2
  pub flags : f1 ≡ f2
  pub dev : d1 ≡ d2

pub header_bytes-same : (c1 l1 i1 f1 d1 c2 l2 i2 f2 d2 : ℕ) → c1 < 2 ^ 32 → l1 < 2 ^ 32 → i1 < 2 ^ 32 → f1 < 2 ^ 32 → d1 < 2 ^ 32 → c2 < 2 ^ 32 → l2 < 2 ^ 32 → i2 < 2 ^ 32 → f2 < 2 ^ 32 → d2 < 2 ^ 32 → header_bytes c1 l1 i1 f1 d1 ≡ header_bytes c2 l2 i2 f2 d2 → SameNumbers c1 l1 i1 f1 d1 c2 l2 i2 f2 d2
header_bytes-same c1 l1 i1 f1 d1 c2 l2 i2 f2 d2 fc1 fl1 fi1 ff1 fd1 fc2 fl2 fi2 ff2 fd2 e =
    let dev = parts-be (be c1 4 ++ be l1 4 ++ be i1 4 ++ be f1 4) (be c2 4 ++ be l2 4 ++ be i2 4 ++ be f2 4) 4 d1 d2 fd1 fd2 e in
    let flags = parts-be (be c1 4 ++ be l1 4 ++ be i1 4) (be c2 4 ++ be l2 4 ++ be i2 4) 4 f1 f2 ff1 ff2 dev.0 in
    let id = parts-be (be c1 4 ++ be l1 4) (be c2 4 ++ be l2 4) 4 i1 i2 fi1 fi2 flags.0 in
    let len = parts-be (be c1 4) (be c2 4) 4 l1 l2 fl1 fl2 id.0 in
    record { cmd = be-same 4 c1 c2 fc1 fc2 len.0; len = len.1; id = id.1; flags = flags.1; dev = dev.1 }

pub command_number-lt : (c : Command) → command_number c < 2 ^ 32
command_number-lt Nop = omega arith
command_number-lt Hello = omega arith
command_number-lt Cfg = omega arith
command_number-lt Read = omega arith
command_number-lt Write = omega arith
command_number-lt Interrupt = omega arith
command_number-lt Sync = omega arith

pub command_of-number : (c : Command) → command_of (command_number c) ≡ c
command_of-number Nop = refl
command_of-number Hello = refl
command_of-number Cfg = refl
command_of-number Read = refl
command_of-number Write = refl
command_of-number Interrupt = refl
command_of-number Sync = refl

pub command_number-same : (c d : Command) → command_number c ≡ command_number d → c ≡ d
command_number-same c d e = sym (command_of-number c) ∙ ap command_of e ∙ command_of-number d

pub bytes_of-same : (g h : Header) → IsHeader g → IsHeader h → bytes_of g ≡ bytes_of h → g ≡ h
bytes_of-same g h is_g is_h e =
    let same = header_bytes-same (command_number g.cmd) g.len g.id g.flags g.dev (command_number h.cmd) h.len h.id h.flags h.dev
    (command_number-lt g.cmd) (omega (arith, is_g.len)) is_g.id is_g.flags is_g.dev (command_number-lt h.cmd) (omega (arith, is_h.len)) is_h.id is_h.flags is_h.dev e in
    let cmd = command_number-same g.cmd h.cmd same.cmd in
    let len = same.len in let id = same.id in let flags = same.flags in let dev = same.dev in
    ap (λ x. record g { cmd = x }) cmd ∙ ap (λ x. record { cmd = h.cmd; len = x; id = g.id; flags = g.flags; dev = g.dev }) len
    ∙ ap (λ x. record { cmd = h.cmd; len = h.len; id = x; flags = g.flags; dev = g.dev }) id
    ∙ ap (λ x. record { cmd = h.cmd; len = h.len; id = h.id; flags = x; dev = g.dev }) flags
    ∙ ap (λ x. record { cmd = h.cmd; len = h.len; id = h.id; flags = h.flags; dev = x }) dev

-- What stands at the front of bytes that begin with a header.
pub record StartsWith (cmd len id flags dev : ℕ) (rest b : List ℕ) : Type 0 where
  pub cmd_is : number 4 b ≡ cmd
  pub len_is : number 4 (drop 4 b) ≡ len
  pub id_is : number 4 (drop 8 b) ≡ id
  pub flags_are : number 4 (drop 12 b) ≡ flags
  pub dev_is : number 4 (drop 16 b) ≡ dev
  pub rest_is : drop 20 b ≡ rest
  pub size : length b ≡ 20 + length rest

length-header_bytes : (cmd len id flags dev : ℕ) → length (header_bytes cmd len id flags dev) ≡ 20
length-header_bytes cmd len id flags dev =
    let a = length-append (be cmd 4) (be len 4) in
    let b = length-append (be cmd 4 ++ be len 4) (be id 4) in
    let c = length-append (be cmd 4 ++ be len 4 ++ be id 4) (be flags 4) in
    let d = length-append (be cmd 4 ++ be len 4 ++ be id 4 ++ be flags 4) (be dev 4) in
    omega (arith, a, b, c, d, length-be cmd 4, length-be len 4, length-be id 4, length-be flags 4, length-be dev 4)

pub StartsWith-header : (cmd len id flags dev : ℕ) (rest : List ℕ) → cmd < 2 ^ 32 → len < 2 ^ 32 → id < 2 ^ 32 → flags < 2 ^ 32 → dev < 2 ^ 32 → StartsWith cmd len id flags dev rest (header_bytes cmd len id flags dev ++ rest)
StartsWith-header cmd len id flags dev rest fc fl fi ff fd =
    let size = length-header_bytes cmd len id flags dev in
    let right : header_bytes cmd len id flags dev ++ rest ≡ be cmd 4 ++ (be len 4 ++ (be id 4 ++ (be flags 4 ++ (be dev 4 ++ rest)))) = simp append_assoc in
    let dev_at = IsNumberAt-behind (be cmd 4) 4 12 4 dev _ (length-be cmd 4) (IsNumberAt-behind (be len 4) 4 8 4 dev _ (length-be len 4)
    (IsNumberAt-behind (be id 4) 4 4 4 dev _ (length-be id 4) (IsNumberAt-behind (be flags 4) 4 0 4 dev _ (length-be flags 4) (IsNumberAt-front 4 dev rest fd)))) in
    let flags_at = IsNumberAt-behind (be cmd 4) 4 8 4 flags _ (length-be cmd 4) (IsNumberAt-behind (be len 4) 4 4 4 flags _ (length-be len 4)
    (IsNumberAt-behind (be id 4) 4 0 4 flags _ (length-be id 4) (IsNumberAt-front 4 flags (be dev 4 ++ rest) ff))) in
    let id_at = IsNumberAt-behind (be cmd 4) 4 4 4 id _ (length-be cmd 4) (IsNumberAt-behind (be len 4) 4 0 4 id _ (length-be len 4)
    (IsNumberAt-front 4 id (be flags 4 ++ (be dev 4 ++ rest)) fi)) in
    let len_at = IsNumberAt-behind (be cmd 4) 4 0 4 len _ (length-be cmd 4) (IsNumberAt-front 4 len (be id 4 ++ (be flags 4 ++ (be dev 4 ++ rest))) fl) in
    let cmd_at = IsNumberAt-front 4 cmd (be len 4 ++ (be id 4 ++ (be flags 4 ++ (be dev 4 ++ rest)))) fc in
    record {
      cmd_is = ap (number 4) right ∙ number_at 0 4 cmd _ cmd_at;
      len_is = ap (λ b. number 4 (drop 4 b)) right ∙ number_at 4 4 len _ len_at;
      id_is = ap (λ b. number 4 (drop 8 b)) right ∙ number_at 8 4 id _ id_at;
      flags_are = ap (λ b. number 4 (drop 12 b)) right ∙ number_at 12 4 flags _ flags_at;
      dev_is = ap (λ b. number 4 (drop 16 b)) right ∙ number_at 16 4 dev _ dev_at;
      rest_is = drop-behind (header_bytes cmd len id flags dev) 20 0 rest size;
      size = length-append (header_bytes cmd len id flags dev) rest ∙ ap (λ n. n + length rest) size;
    }

pub refusal-none : (c : Command) (len : ℕ) → len ≤ 65536 → refusal (command_number c) len ≡ None
refusal-none Nop len most = grind (arith, nat_tests)
refusal-none Hello len most = grind (arith, nat_tests)
refusal-none Cfg len most = grind (arith, nat_tests)
refusal-none Read len most = grind (arith, nat_tests)
refusal-none Write len most = grind (arith, nat_tests)
refusal-none Interrupt len most = grind (arith, nat_tests)
refusal-none Sync len most = grind (arith, nat_tests)

-- a header that isn't refused has a command, and a body that isn't too long
pub refusal-lawful : (cmd len : ℕ) → refusal cmd len ≡ None → (cmd ≤ 6) × (len ≤ 65536)
refusal-lawful cmd len lawful = grind (arith, nat_tests)

pub command_number-of : (cmd : ℕ) → cmd ≤ 6 → command_number (command_of cmd) ≡ cmd
command_number-of zero most = refl
command_number-of (suc zero) most = refl
command_number-of (suc (suc zero)) most = refl
command_number-of (suc (suc (suc zero))) most = refl
command_number-of (suc (suc (suc (suc zero)))) most = refl
command_number-of (suc (suc (suc (suc (suc zero))))) most = refl
command_number-of (suc (suc (suc (suc (suc (suc zero)))))) most = refl
command_number-of (suc (suc (suc (suc (suc (suc (suc n))))))) most = absurd (omega arith)
