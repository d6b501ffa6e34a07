-- A body that isn't refused means one thing: what is read in it.
use Rattle.std.proofs.Common.{◌≡◌, ◌⊎◌, inl, inr, subst, ℕ, zero, suc, ◌+◌, ◌*◌, ◌/◌, ◌-◌, ◌^◌, ◌<◌, ◌≤◌, true, false, List, [], ◌∷◌, ◌++◌, length, take, drop, slice_index, refl, sym, ap, ◌∙◌, arith}
use Rattle.std.specs.Prelude.{◌||◌, ◌==◌, nat_eq, None, if◌then◌else◌}
use Rattle.std.specs.List.{list_any}
use Rattle.cosim_model.specs.Packets.{lists}
use Rattle.std.proofs.lemmas.Bool.Decides.{nat_tests}
use Rattle.std.proofs.lemmas.List.{append_assoc, append-nil, length-append, length-drop, length-take, drop-drop, take-take}
use Rattle.rp_header.specs.Numbers.{be, number, field, IsFieldAt, AreBytes}
use Rattle.rp_header.specs.NumberLaws.{be-number, length-be, number-be, number-lt, number_at, IsNumberAt-number, AreBytes-drop, AreBytes-take, drop-behind, take-add}
use Rattle.rp_control.specs.Controls.{IsTightHello, AreWords, caps_bytes, AreCapsAt, IsHello, IsCfg, IsInterrupt, IsSync}
use Rattle.rp_control.specs.Refusals.{ReadsTight, caps_wanted, refused_hello, hello_refusal, numbers_in, caps_in}

pub IsSync-there : (body : List ℕ) → AreBytes body → 8 ≤ length body → IsSync (field 20 8 body) body
IsSync-there body bytes long = record { long = long; time_at = IsNumberAt-number 0 8 body bytes (omega arith) }

pub IsSync-read : (time : ℕ) (body : List ℕ) → IsSync time body → field 20 8 body ≡ time
IsSync-read time body is = number_at 0 8 time body is.time_at

pub IsCfg-there : (body : List ℕ) → AreBytes body → 5 ≤ length body → IsCfg (field 20 4 body) (field 24 1 body) body
IsCfg-there body bytes long = record { long = long; opt_at = IsNumberAt-number 0 4 body bytes (omega arith); set_at = IsNumberAt-number 4 1 body bytes (omega arith) }

pub IsCfg-read : (opt set : ℕ) (body : List ℕ) → IsCfg opt set body → (field 20 4 body ≡ opt) × (field 24 1 body ≡ set)
IsCfg-read opt set body is = (number_at 0 4 opt body is.opt_at, number_at 4 1 set body is.set_at)

pub IsInterrupt-there : (body : List ℕ) → AreBytes body → 21 ≤ length body → IsInterrupt (field 20 8 body) (field 28 8 body) (field 36 4 body) (field 40 1 body) body
IsInterrupt-there body bytes long = record {
  long = long;
  time_at = IsNumberAt-number 0 8 body bytes (omega arith);
  vector_at = IsNumberAt-number 8 8 body bytes (omega arith);
  line_at = IsNumberAt-number 16 4 body bytes (omega arith);
  val_at = IsNumberAt-number 20 1 body bytes (omega arith);
}

pub IsInterrupt-read : (time vector line val : ℕ) (body : List ℕ) → IsInterrupt time vector line val body → (field 20 8 body ≡ time) × (field 28 8 body ≡ vector) × (field 36 4 body ≡ line) × (field 40 1 body ≡ val)
IsInterrupt-read time vector line val body is =
    (number_at 0 8 time body is.time_at, number_at 8 8 vector body is.vector_at, number_at 16 4 line body is.line_at, number_at 20 1 val body is.val_at)

-- numbers of four bytes, and their bytes

pub length-numbers_in : (n : ℕ) (b : List ℕ) → length (numbers_in n b) ≡ n
length-numbers_in zero b = refl
length-numbers_in (suc n) b = let e = length-numbers_in n (drop 4 b) in omega (arith, e)

word-numbers_in : (n : ℕ) (b : List ℕ) → AreBytes b → (i : ℕ) → slice_index (numbers_in n b) i < 2 ^ 32
word-numbers_in zero b bytes i = omega arith
word-numbers_in (suc n) b bytes zero = number-lt 4 b bytes
word-numbers_in (suc n) b bytes (suc i) = word-numbers_in n (drop 4 b) (AreBytes-drop 4 b bytes) i

pub AreWords-numbers_in : (n : ℕ) (b : List ℕ) → AreBytes b → AreWords (numbers_in n b)
AreWords-numbers_in n b bytes = record { each = word-numbers_in n b bytes }

four-more : (n : ℕ) (b : List ℕ) → drop (4 * n) (drop 4 b) ≡ drop (4 * suc n) b
four-more n b = let e : 4 + 4 * n ≡ 4 * suc n = omega arith in drop-drop (4 * n) 4 b ∙ ap (λ m. drop m b) e

pub numbers_in-more : (n : ℕ) (b : List ℕ) → numbers_in (suc n) b ≡ numbers_in n b ++ number 4 (drop (4 * n) b) ∷ []
numbers_in-more zero b = refl
numbers_in-more (suc n) b =
    ap (λ rest. number 4 b ∷ rest) (numbers_in-more n (drop 4 b) ∙ ap (λ x. numbers_in n (drop 4 b) ++ number 4 x ∷ []) (four-more n b))

pub caps_bytes-numbers_in : (n : ℕ) (b : List ℕ) → AreBytes b → 4 * n ≤ length b → caps_bytes (numbers_in n b) ≡ take (4 * n) b
caps_bytes-numbers_in zero b bytes within = refl
caps_bytes-numbers_in (suc n) b bytes within =
    let rest = caps_bytes-numbers_in n (drop 4 b) (AreBytes-drop 4 b bytes) (omega (arith, length-drop 4 b)) in
    let size : 4 + 4 * n ≡ 4 * suc n = omega arith in
    ap (λ front. front ++ caps_bytes (numbers_in n (drop 4 b))) (be-number 4 b bytes (omega arith))
    ∙ ap (λ end. take 4 b ++ end) rest ∙ take-add 4 (4 * n) b ∙ ap (λ m. take m b) size

pub numbers_in-caps_bytes : (caps rest : List ℕ) → AreWords caps → numbers_in (length caps) (caps_bytes caps ++ rest) ≡ caps
numbers_in-caps_bytes [] rest words = refl
numbers_in-caps_bytes (n ∷ ns) rest words =
    let more = caps_bytes ns ++ rest in
    let e = append_assoc (be n 4) (caps_bytes ns) rest in
    let first : number 4 ((be n 4 ++ caps_bytes ns) ++ rest) ≡ n = ap (number 4) e ∙ number-be n 4 more (words.each zero) in
    let next : drop 4 ((be n 4 ++ caps_bytes ns) ++ rest) ≡ more = ap (drop 4) e ∙ drop-behind (be n 4) 4 0 more (length-be n 4) in
    let others = numbers_in-caps_bytes ns rest (record { each = λ i. words.each (suc i) }) in
    ap (λ x. x ∷ numbers_in (length ns) (drop 4 ((be n 4 ++ caps_bytes ns) ++ rest))) first
    ∙ ap (λ x. n ∷ numbers_in (length ns) x) next ∙ ap (λ tail. n ∷ tail) others

pub length-caps_bytes : (caps : List ℕ) → length (caps_bytes caps) ≡ 4 * length caps
length-caps_bytes [] = refl
length-caps_bytes (n ∷ ns) = let e = length-caps_bytes ns in omega (arith, e, length-append (be n 4) (caps_bytes ns), length-be n 4)

-- a hello that isn't refused: none are wanted, or they fit
refused_hello-none : (size count offset : ℕ) → refused_hello size count offset ≡ None → (4 ≤ size) × ((size < 12) ⊎ ((12 ≤ size) × ((count ≡ 0) ⊎ ((0 < count) × (32 ≤ offset) × (offset + 4 * count ≤ 20 + size)))))
refused_hello-none size count offset e = grind (arith, nat_tests)

none-short : (size count offset : ℕ) → 4 ≤ size → size < 12 → refused_hello size count offset ≡ None
none-short size count offset least most = grind (arith, nat_tests)

none-empty : (size count offset : ℕ) → 12 ≤ size → count ≡ 0 → refused_hello size count offset ≡ None
none-empty size count offset least empty = grind (arith, nat_tests)

none-within : (size count offset : ℕ) → 12 ≤ size → 32 ≤ offset → offset + 4 * count ≤ 20 + size → refused_hello size count offset ≡ None
none-within size count offset least behind within = grind (arith, nat_tests)

eqb-flip : (m n : ℕ) → (m == n) ≡ nat_eq n m
eqb-flip m n = grind (arith, nat_tests)

pub list_any-lists : (n : ℕ) (ns : List ℕ) → list_any (λ m. m == n) ns ≡ lists n ns
list_any-lists n [] = refl
list_any-lists n (m ∷ ms) = ap (λ b. b || list_any (λ k. k == n) ms) (eqb-flip m n) ∙ ap (λ b. nat_eq n m || b) (list_any-lists n ms)

pub caps_bytes-more : (ns : List ℕ) (i : ℕ) → i < length ns → caps_bytes (take (i + 1) ns) ≡ caps_bytes (take i ns) ++ be (slice_index ns i) 4
caps_bytes-more [] i within = absurd (omega arith)
caps_bytes-more (n ∷ ns) zero within = append-nil (be n 4)
caps_bytes-more (n ∷ ns) (suc i) within =
    let e : suc i + 1 ≡ suc (i + 1) = omega arith in
    let more = caps_bytes-more ns i (omega arith) in
    ap (λ k. caps_bytes (take k (n ∷ ns))) e ∙ ap (λ rest. be n 4 ++ rest) more ∙ sym (append_assoc (be n 4) (caps_bytes (take i ns)) (be (slice_index ns i) 4))

wanted-short : (size count : ℕ) → size < 12 → caps_wanted size count ≡ false
wanted-short size count most = grind (arith, nat_tests)

wanted-empty : (size count : ℕ) → count ≡ 0 → caps_wanted size count ≡ false
wanted-empty size count empty = grind (arith, nat_tests)

wanted : (size count : ℕ) → 12 ≤ size → 0 < count → caps_wanted size count ≡ true
wanted size count long some = grind (arith, nat_tests)

caps_in-none : (body : List ℕ) → caps_wanted (length body) (field 28 2 body) ≡ false → caps_in body ≡ []
caps_in-none body none =
    let part : List ℕ = take (4 * field 28 2 body) (drop (field 24 4 body - 20) body) in
    ap (λ p. numbers_in (length p / 4) p) (ap (λ b. if b then part else []) none)

caps_in-part : (body part : List ℕ) (n : ℕ) → caps_wanted (length body) (field 28 2 body) ≡ true → take (4 * field 28 2 body) (drop (field 24 4 body - 20) body) ≡ part → length part ≡ 4 * n → caps_in body ≡ numbers_in n part
caps_in-part body part n some is size =
    let quarter : length part / 4 ≡ n = omega (arith, size) in
    ap (λ p. numbers_in (length p / 4) p) (ap (λ b. if b then take (4 * field 28 2 body) (drop (field 24 4 body - 20) body) else []) some ∙ is)
    ∙ ap (λ m. numbers_in m part) quarter

with_caps : (major minor : ℕ) (caps body : List ℕ) → caps_in body ≡ caps → IsHello major minor caps body → IsHello major minor (caps_in body) body
with_caps major minor caps body is hello = subst (λ (x : List ℕ). IsHello major minor x body) (sym is) hello

count-none : (body : List ℕ) → AreBytes body → 12 ≤ length body → field 28 2 body ≡ 0 → IsFieldAt 28 2 0 body
count-none body bytes long none = subst (λ (n : ℕ). IsFieldAt 28 2 n body) none (IsNumberAt-number 8 2 body bytes (omega arith))

no-words : AreWords []
no-words = record { each = λ i. omega arith }

-- A hello that isn't refused
pub IsHello-there : (body : List ℕ) → AreBytes body → hello_refusal body ≡ None → IsHello (field 20 2 body) (field 22 2 body) (caps_in body) body
IsHello-there body bytes lawful =
    let size : ℕ = length body in
    let count : ℕ = field 28 2 body in
    let offset : ℕ = field 24 4 body in
    let cases = refused_hello-none size count offset lawful in
    let major_at = IsNumberAt-number 0 2 body bytes (omega arith) in
    let minor_at = IsNumberAt-number 2 2 body bytes (omega arith) in
    elim cases.1 as (λ _. IsHello (field 20 2 body) (field 22 2 body) (caps_in body) body) [
      | inl short ↦ with_caps _ _ [] body (caps_in-none body (wanted-short size count short))
          (record { major_at = major_at; minor_at = minor_at; words = no-words; caps_at = inl (cases.0, short, refl) })
      | inr long ↦ elim long.1 as (λ _. IsHello (field 20 2 body) (field 22 2 body) (caps_in body) body) [
        | inl none ↦ with_caps _ _ [] body (caps_in-none body (wanted-empty size count none))
            (record { major_at = major_at; minor_at = minor_at; words = no-words; caps_at = inr (long.0, count-none body bytes long.0 none, inl refl) })
        | inr some ↦
            let from : List ℕ = drop (offset - 20) body in
            let part : List ℕ = take (4 * count) from in
            let room : 4 * count ≤ length from = omega (arith, length-drop (offset - 20) body) in
            let size_part : length part ≡ 4 * count = omega (arith, length-take (4 * count) from) in
            let caps : List ℕ = numbers_in count part in
            let part_bytes = AreBytes-take (4 * count) from (AreBytes-drop (offset - 20) body bytes) in
            let size_caps = length-numbers_in count part in
            let written : take (4 * count) from ≡ caps_bytes caps =
            sym (caps_bytes-numbers_in count part part_bytes (omega arith) ∙ take-take (4 * count) (4 * count) from (omega arith)) in
            let at : AreCapsAt offset caps body = record {
              behind = some.1;
              within = omega (arith, size_caps);
              bytes = ap (λ n. take (4 * n) from) size_caps ∙ written;
            } in
            with_caps _ _ caps body (caps_in-part body part count (wanted size count long.0 some.0) refl size_part)
            (record {
              major_at = major_at;
              minor_at = minor_at;
              words = AreWords-numbers_in count part part_bytes;
              caps_at = inr (long.0, subst (λ (n : ℕ). IsFieldAt 28 2 n body) (sym size_caps) (IsNumberAt-number 8 2 body bytes (omega arith)), inr at);
            })
      ]
    ]

-- is what is read.
pub record ReadsHello (major minor : ℕ) (caps body : List ℕ) : Type 0 where
  pub lawful : hello_refusal body ≡ None
  pub major_is : field 20 2 body ≡ major
  pub minor_is : field 22 2 body ≡ minor
  pub caps_are : caps_in body ≡ caps

none_at : (body caps : List ℕ) → 12 ≤ length body → field 28 2 body ≡ length caps → caps ≡ [] → (hello_refusal body ≡ None) × (caps_in body ≡ caps)
none_at body caps long count empty =
    let none : field 28 2 body ≡ 0 = count ∙ ap length empty in
    (none-empty (length body) (field 28 2 body) (field 24 4 body) long none, caps_in-none body (wanted-empty (length body) (field 28 2 body) none) ∙ sym empty)

caps_at_place : (body caps : List ℕ) → 12 ≤ length body → field 28 2 body ≡ length caps → AreWords caps → AreCapsAt (field 24 4 body) caps body → (hello_refusal body ≡ None) × (caps_in body ≡ caps)
caps_at_place body [] long count words at = none_at body [] long count refl
caps_at_place body (n ∷ ns) long count words at =
    let caps : List ℕ = n ∷ ns in
    let offset : ℕ = field 24 4 body in
    let some : 0 < field 28 2 body = omega (arith, count) in
    let part : take (4 * field 28 2 body) (drop (offset - 20) body) ≡ caps_bytes caps = ap (λ m. take (4 * m) (drop (offset - 20) body)) count ∙ at.bytes in
    let within : offset + 4 * field 28 2 body ≤ 20 + length body = omega (arith, at.within, count) in (
      none-within (length body) (field 28 2 body) offset long at.behind within,
      caps_in-part body (caps_bytes caps) (length caps) (wanted (length body) (field 28 2 body) long some) part (length-caps_bytes caps)
          ∙ ap (numbers_in (length caps)) (sym (append-nil (caps_bytes caps))) ∙ numbers_in-caps_bytes caps [] words,
    )

caps_there : (major minor : ℕ) (caps body : List ℕ) → IsHello major minor caps body → (hello_refusal body ≡ None) × (caps_in body ≡ caps)
caps_there major minor caps body is =
    elim is.caps_at as (λ _. (hello_refusal body ≡ None) × (caps_in body ≡ caps)) [
      | inl short ↦ (
        none-short (length body) (field 28 2 body) (field 24 4 body) short.0 short.1,
        caps_in-none body (wanted-short (length body) (field 28 2 body) short.1) ∙ sym short.2,
      )
      | inr long ↦
          let count = number_at 8 2 (length caps) body long.1 in
          elim long.2 as (λ _. (hello_refusal body ≡ None) × (caps_in body ≡ caps)) [
            | inl empty ↦ none_at body caps long.0 count empty
            | inr at ↦ caps_at_place body caps long.0 count is.words at
          ]
    ]

pub IsHello-read : (major minor : ℕ) (caps body : List ℕ) → IsHello major minor caps body → ReadsHello major minor caps body
IsHello-read major minor caps body is =
    let there = caps_there major minor caps body is in
    record {
      lawful = there.0;
      major_is = number_at 0 2 major body is.major_at;
      minor_is = number_at 2 2 minor body is.minor_at;
      caps_are = there.1;
    }

-- A hello is tight where it is read so.
hello-count : (major minor : ℕ) (caps body : List ℕ) → IsHello major minor caps body → 12 ≤ length body → field 28 2 body ≡ length caps
hello-count major minor caps body is long =
    elim is.caps_at as (λ _. field 28 2 body ≡ length caps) [
      | inl short ↦ let less = short.1 in absurd (omega (arith, less, long))
      | inr more ↦ number_at 8 2 (length caps) body more.1
    ]

pub tight-read : (major minor : ℕ) (caps body : List ℕ) → IsHello major minor caps body → IsTightHello caps body → ReadsTight body
tight-read major minor caps body is tight =
    let size = tight.2 in
    let long : 12 ≤ length body = omega (arith, size) in
    let count = hello-count major minor caps body is long in
    (long, number_at 4 4 32 body tight.0, number_at 10 2 0 body tight.1, omega (arith, size, count))

pub tight-there : (major minor : ℕ) (caps body : List ℕ) → AreBytes body → IsHello major minor caps body → ReadsTight body → IsTightHello caps body
tight-there major minor caps body bytes is reads =
    let long = reads.0 in
    let size = reads.3 in
    let count = hello-count major minor caps body is long in (
      subst (λ (n : ℕ). IsFieldAt 24 4 n body) reads.1 (IsNumberAt-number 4 4 body bytes (omega (arith, long))),
      subst (λ (n : ℕ). IsFieldAt 30 2 n body) reads.2 (IsNumberAt-number 10 2 body bytes (omega (arith, long))),
      omega (arith, size, count),
    )
