-- Operands that were listed are read back, and their texts are sound.
use Rattle.std.proofs.Common.{◌≡◌, ℕ, ◌-◌, ◌%◌, ◌^◌, ◌<◌, ◌≤◌, ◌==◌, ◌&&◌, inl, inr, Bool, true, false, List, [], ◌∷◌, ◌++◌, Option, Some, None, Ok, Err, cond, nat_lt, decimal, unwrap_or, refl, ap, sym, ◌∙◌, subst, append_assoc, arith}
use Rattle.std.specs.Str.{bytes_eq}
use Rattle.std.proofs.lemmas.Bool.{cond-true, cond-false, ne_eqb, eq-eqb, eqb-true, lt-ltb, ltb-true, and_parts, and_left}
use Rattle.rv_asm.specs.declared.fault.Cause.TheVariants.{Range}
use Rattle.rv_asm.specs.declared.numbers.Number.{Number}
use Rattle.rv_asm.specs.declared.numbers.Number.TheVariants.{Plus, Minus}
use Rattle.cos_text.specs.Lines.{after}
use Rattle.rv_asm.specs.Numbers.{ranged, plain}
use Rattle.rv_asm.specs.Programs.{Placed}
use Rattle.rv_asm.specs.Csrs.{csrs, csr_number, name_among, number_among}
use Rattle.rv_asm.specs.Readings.{register, register_numbered, below, csr, csr_numbered, csr_or_number, address, opened, based, target, target_at, reached, is_even}
use Rattle.rv_asm.specs.Listings.{register_text, signed_text, csr_text, address_text}
use Rattle.rv_asm.proofs.Scans.{all_are, all-append, all-weaken, is_plain, is_solid, plain-solid, plain-opening, plain-closing, differs, before-first, after-first, starts, starts-append, Sound}
use Rattle.rv_asm.proofs.ReadNumbers.{Digits, decimal-digits, decimal-value, decimal-number, decimal-plain_bytes, decimal-sound, Spans, small-number, large-number, small-ranged, large-ranged, signed-plain, signed-plain_bytes, signed-starts}

-- registers
pub register-plain_bytes : (n : ℕ) → n < 2 ^ 64 → all_are is_plain (register_text n) ≡ true
register-plain_bytes n h = decimal-plain_bytes n h

pub register-sound : (n : ℕ) → n < 2 ^ 64 → Sound (register_text n)
register-sound n h = record {
  solid = all-weaken is_plain is_solid plain-solid (register_text n) (register-plain_bytes n h);
  starts_inked = refl;
}

pub register-read : (n : ℕ) → n < 32 → register (register_text n) ≡ Ok n
register-read n h =
    ap (λ o. register_numbered (register_text n) (below 32 o)) (decimal-value n (omega arith)) ∙ ap (register_numbered (register_text n)) (cond-true (nat_lt n 32) (Some n) None (lt-ltb n 32 h))

-- addresses
pub address-sound : (base offset : ℕ) → base < 2 ^ 32 → offset < 2 ^ 32 → Sound (address_text base offset)
address-sound base offset h k =
    let s : all_are is_solid (signed_text offset) ≡ true = all-weaken is_plain is_solid plain-solid (signed_text offset) (signed-plain_bytes offset k) in
    let r : all_are is_solid (register_text base) ≡ true = all-weaken is_plain is_solid plain-solid (register_text base) (register-plain_bytes base (omega arith)) in record {
      solid = all-append is_solid (signed_text offset ++ 40 ∷ register_text base) (41 ∷ []) (all-append is_solid (signed_text offset) (40 ∷ register_text base) s r) refl;
      starts_inked = starts-append (signed_text offset ++ 40 ∷ register_text base) (41 ∷ []) (starts-append (signed_text offset) (40 ∷ register_text base) (signed-starts offset k));
    }

parts-read : (offset base : List ℕ) (n r : ℕ) → plain 2048 2047 offset ≡ Ok n → register base ≡ Ok r → based offset base (Some []) ≡ Ok (r, n)
parts-read offset base n r e f = rw (e, f)

pub address-read : (base offset : ℕ) → base < 32 → offset < 2 ^ 32 → Spans 2048 2047 offset → address (address_text base offset) ≡ Ok (base, offset)
address-read base offset h k s =
    let front : List ℕ = signed_text offset in
    let reg : List ℕ = register_text base in
    let rest : List ℕ = reg ++ 41 ∷ [] in
    let opens : all_are (differs 40) front ≡ true = all-weaken is_plain (differs 40) plain-opening front (signed-plain_bytes offset k) in
    let closes : all_are (differs 41) reg ≡ true = all-weaken is_plain (differs 41) plain-closing reg (register-plain_bytes base (omega arith)) in
    ap address (append_assoc front (40 ∷ reg) (41 ∷ []))
    ∙ ap (λ b. opened b (after 40 (front ++ 40 ∷ rest))) (before-first 40 front rest opens)
    ∙ ap (opened front) (after-first 40 front rest opens)
    ∙ ap (λ b. based front b (after 41 rest)) (before-first 41 reg [] closes)
    ∙ ap (based front reg) (after-first 41 reg [] closes)
    ∙ parts-read front reg offset base (signed-plain 2048 2047 offset s) (register-read base h)

-- targets
even-read : (low high word : ℕ) (n : Number) → is_even n ≡ true → ranged low high n ≡ Ok word → reached low high n ≡ Ok word
even-read low high word n e f = cond-true (is_even n) (ranged low high n) (Err Range) e ∙ f

pub target-read_back : (lines : List Placed) (source low high word : ℕ) → word % 2 ≡ 0 → Spans low high word → target lines source low high (signed_text word) ≡ Ok word
target-read_back lines source low high word h s = elim s [
  | inl e ↦
      ap (target_at lines source low high (signed_text word)) (small-number word e.0)
      ∙ even-read low high word (Plus word) (eq-eqb (word % 2) 0 h) (small-ranged low high word e.1)
  | inr e ↦
      ap (target_at lines source low high (signed_text word)) (large-number word e.0)
      ∙ even-read low high word (Minus (2 ^ 32 - word)) (eq-eqb ((2 ^ 32 - word) % 2) 0 (omega arith)) (large-ranged low high word e.0 e.1 e.2)
]

-- control registers: the text is read as the number, and is sound
abbrev pub IsCsrText : ℕ → List ℕ → Type 0
IsCsrText n text = (csr text ≡ Ok n) × Sound text

-- a name that is found as its number, and begins with no digit
abbrev found_as : Option ℕ → ℕ → Bool
found_as None n = false
found_as (Some m) n = m == n

abbrev begins_high : List ℕ → Bool
begins_high [] = false
begins_high (c ∷ cs) = nat_lt 57 c

abbrev is_back : ℕ × List ℕ → Bool
is_back r = found_as (csr_number r.1) r.0 && (all_are is_solid r.1 && (starts r.1 && begins_high r.1))

abbrev all_back : List (ℕ × List ℕ) → Bool
all_back [] = true
all_back (r ∷ rest) = is_back r && all_back rest

csrs-back : all_back csrs ≡ true
csrs-back = refl

found-number : (o : Option ℕ) (n : ℕ) → found_as o n ≡ true → o ≡ Some n
found-number None n h = cc
found-number (Some m) n h = ap Some (eqb-true m n h)

name-read : (r : ℕ × List ℕ) → is_back r ≡ true → IsCsrText r.0 r.1
name-read r h =
    let found = and_parts (found_as (csr_number r.1) r.0) (all_are is_solid r.1 && (starts r.1 && begins_high r.1)) h in
    let solid = and_parts (all_are is_solid r.1) (starts r.1 && begins_high r.1) found.1 in
    let begun = and_parts (starts r.1) (begins_high r.1) solid.1 in
    (ap (csr_or_number r.1) (found-number (csr_number r.1) r.0 found.0), record { solid = solid.0; starts_inked = begun.0 })

chosen-read : (b : Bool) (name : List ℕ) (o : Option (List ℕ)) (d : List ℕ) (n : ℕ) → (b ≡ true → IsCsrText n name) → IsCsrText n (unwrap_or o d) → IsCsrText n (unwrap_or (cond b (Some name) o) d)
chosen-read true name o d n h k = h refl
chosen-read false name o d n h k = k

among-read : (rs : List (ℕ × List ℕ)) (n : ℕ) (d : List ℕ) → all_back rs ≡ true → IsCsrText n d → IsCsrText n (unwrap_or (name_among rs n) d)
among-read [] n d h k = k
among-read (r ∷ rest) n d h k =
    let both = and_parts (is_back r) (all_back rest) h in
    let P : ℕ → Type 0 = λ m. IsCsrText m r.1 in
    chosen-read (n == r.0) r.1 (name_among rest n) d n (λ e. subst P (sym (eqb-true n r.0 e)) (name-read r both.0)) (among-read rest n d both.1 k)

-- a text that begins with a digit is no name
differ-first : (c : ℕ) (cs name : List ℕ) → c ≤ 57 → begins_high name ≡ true → bytes_eq (c ∷ cs) name ≡ false
differ-first c cs [] h k = refl
differ-first c cs (y ∷ ys) h k = and_left (c == y) (bytes_eq cs ys) (ne_eqb c y (λ e. omega (arith, ltb-true 57 y k)))

unnamed-among : (rs : List (ℕ × List ℕ)) (c : ℕ) (cs : List ℕ) → all_back rs ≡ true → c ≤ 57 → number_among rs (c ∷ cs) ≡ None
unnamed-among [] c cs h k = refl
unnamed-among (r ∷ rest) c cs h k =
    let both = and_parts (is_back r) (all_back rest) h in
    let found = and_parts (found_as (csr_number r.1) r.0) (all_are is_solid r.1 && (starts r.1 && begins_high r.1)) both.0 in
    let solid = and_parts (all_are is_solid r.1) (starts r.1 && begins_high r.1) found.1 in
    let begun = and_parts (starts r.1) (begins_high r.1) solid.1 in
    cond-false (bytes_eq (c ∷ cs) r.1) (Some r.0) (number_among rest (c ∷ cs)) (differ-first c cs r.1 k begun.1)
    ∙ unnamed-among rest c cs both.1 k

digits-unnamed : (n : ℕ) (ds : List ℕ) → Digits n ds → csr_number ds ≡ None
digits-unnamed n [] s = absurd s.leads
digits-unnamed n (c ∷ cs) s = elim s.leads [
  | inl e ↦ unnamed-among csrs c cs csrs-back e.1
  | inr e ↦ unnamed-among csrs c cs csrs-back (omega (arith, e.0))
]

decimal-csr : (n : ℕ) → n < 2 ^ 12 → IsCsrText n (decimal n)
decimal-csr n h = (
  ap (csr_or_number (decimal n)) (digits-unnamed n (decimal n) (decimal-digits n (omega arith)))
      ∙ ap (csr_numbered (decimal n)) (decimal-number n (omega arith))
      ∙ small-ranged 0 0xfff n (omega arith),
  decimal-sound n (omega arith),
)

pub csr-read_back : (n : ℕ) → n < 2 ^ 12 → IsCsrText n (csr_text n)
csr-read_back n h = among-read csrs n (decimal n) csrs-back (decimal-csr n h)
