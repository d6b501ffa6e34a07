-- Writes of parts that follow each other.
use Rattle.std.proofs.Common.{◌≡◌, ℕ, zero, suc, ◌+◌, ◌≤◌, Bool, true, false, if◌then◌else◌, List, [], ◌∷◌, ◌++◌, length, take, drop, map, refl, sym, ◌∙◌, ap, arith, append_assoc, ◌<◌, ◌⊎◌, inl, inr, get_or, set}
use Rattle.std.proofs.lemmas.List.{length-take, length-drop, length-append, length-map, take-append-le, drop-append-le, take_at, drop_at, drop-drop, map-append, length-take-le, drop_more, set_split, set-get_or, take_more, take_all, drop_all, append-nil}
use Rattle.std.proofs.Math.Seq.{drop-append-add, take-append-add, take-add}
use Rattle.cos_base.specs.Octets.{overwritten}
use Rattle.cosim_model.specs.Packets.{is_enabled, count_from}
use Rattle.sys_ram.specs.Memory.{part_of, merged}
use Rattle.sys_ram.specs.MemoryLaws.{length-part_of, length-merged, length-overwritten}
use Rattle.sys_ram.specs.Pages.{written_from}

-- A write to the front of two lists, and one behind the first of them.
pub overwritten-front : (front rest others : List ℕ) (at : ℕ) → at + length others ≤ length front → overwritten (front ++ rest) at others ≡ overwritten front at others ++ rest
overwritten-front front rest others at within =
    let low : at ≤ length front = omega (arith, within) in
    ap (λ xs. xs ++ others ++ drop (at + length others) (front ++ rest)) (take-append-le at front rest low)
    ∙ ap (λ xs. take at front ++ others ++ xs) (drop-append-le (at + length others) front rest within)
    ∙ sym (append_assoc (take at front ++ others) (drop (at + length others) front) rest)

pub overwritten-behind : (front rest others : List ℕ) (at : ℕ) → overwritten (front ++ rest) (length front + at) others ≡ front ++ overwritten rest at others
overwritten-behind front rest others at =
    let sum : length front + at + length others ≡ length front + (at + length others) = omega arith in
    ap (λ xs. xs ++ others ++ drop (length front + at + length others) (front ++ rest)) (take-append-add front rest at)
    ∙ ap (λ n. (front ++ take at rest) ++ others ++ drop n (front ++ rest)) sum
    ∙ ap (λ xs. (front ++ take at rest) ++ others ++ xs) (drop-append-add front rest (at + length others))
    ∙ ap (λ xs. xs ++ drop (at + length others) rest) (append_assoc front (take at rest) others)
    ∙ append_assoc front (take at rest ++ others) (drop (at + length others) rest)

pub part_of-front : (front rest : List ℕ) (at n : ℕ) → at + n ≤ length front → part_of (front ++ rest) at n ≡ part_of front at n
part_of-front front rest at n within =
    let low : at ≤ length front = omega (arith, within) in
    ap (take n) (drop-append-le at front rest low)
    ∙ take-append-le n (drop at front) rest (omega (arith, within, length-drop at front))

pub part_of-behind : (front rest : List ℕ) (at n : ℕ) → part_of (front ++ rest) (length front + at) n ≡ part_of rest at n
part_of-behind front rest at n = ap (take n) (drop-append-add front rest at)

-- Two writes that follow each other.
length-front : (bytes : List ℕ) (at : ℕ) (others : List ℕ) → at ≤ length bytes → length (take at bytes ++ others) ≡ at + length others
length-front bytes at others within = omega (arith, length-append (take at bytes) others, length-take at bytes, within)

overwritten-twice : (bytes : List ℕ) (at : ℕ) (one two : List ℕ) (k : ℕ) → k ≡ at + length one → at ≤ length bytes
    → overwritten (overwritten bytes at one) k two ≡ overwritten bytes at (one ++ two)
overwritten-twice bytes at one two k is within =
    let front = take at bytes ++ one in
    let rest = drop (at + length one) bytes in
    let long : length front ≡ k = length-front bytes at one within ∙ sym is in
    let sum : k + length two ≡ length front + length two = omega (arith, long) in
    let total : at + length one + length two ≡ at + length (one ++ two) = omega (arith, length-append one two) in
    ap (λ xs. xs ++ two ++ drop (k + length two) (front ++ rest)) (take_at front rest k long)
    ∙ ap (λ n. front ++ two ++ drop n (front ++ rest)) sum
    ∙ ap (λ xs. front ++ two ++ xs) (drop-append-add front rest (length two) ∙ drop-drop (length two) (at + length one) bytes)
    ∙ ap (λ n. front ++ two ++ drop n bytes) total
    ∙ ap (λ xs. xs ++ drop (at + length (one ++ two)) bytes) (append_assoc (take at bytes) one two)

part_of-overwritten : (bytes : List ℕ) (at : ℕ) (one : List ℕ) (k n : ℕ) → k ≡ at + length one → at ≤ length bytes
    → part_of (overwritten bytes at one) k n ≡ part_of bytes k n
part_of-overwritten bytes at one k n is within =
    ap (take n) (drop_at (take at bytes ++ one) (drop (at + length one) bytes) k (length-front bytes at one within ∙ sym is) ∙ ap (λ j. drop j bytes) (sym is))

pub part_of-sum : (bytes : List ℕ) (at a b : ℕ) → part_of bytes at (a + b) ≡ part_of bytes at a ++ part_of bytes (at + a) b
part_of-sum bytes at a b = take-add a b (drop at bytes) ∙ ap (λ xs. take a (drop at bytes) ++ take b xs) (drop-drop a at bytes)

merged-append : (ons more : List Bool) (one two : List ℕ) (old rest : List ℕ) → length ons ≡ length one → length ons ≡ length old
    → merged (ons ++ more) (one ++ two) (old ++ rest) ≡ merged ons one old ++ merged more two rest
merged-append [] more [] two [] rest e f = refl
merged-append [] more (b ∷ one) two old rest e f = absurd (omega (arith, e))
merged-append [] more [] two (o ∷ old) rest e f = absurd (omega (arith, f))
merged-append (on ∷ ons) more [] two old rest e f = absurd (omega (arith, e))
merged-append (on ∷ ons) more (b ∷ one) two [] rest e f = absurd (omega (arith, f))
merged-append (on ∷ ons) more (b ∷ one) two (o ∷ old) rest e f =
    ap (λ xs. (if on then b else o) ∷ xs) (merged-append ons more one two old rest (omega (arith, e)) (omega (arith, f)))

length-count_from : (k n : ℕ) → length (count_from k n) ≡ n
length-count_from k zero = refl
length-count_from k (suc n) = ap suc (length-count_from (suc k) n)

count_from-append : (k a b : ℕ) → count_from k (a + b) ≡ count_from k a ++ count_from (k + a) b
count_from-append k zero b =
    let none : 0 + b ≡ b = omega arith in
    let same : k ≡ k + 0 = omega arith in
    ap (count_from k) none ∙ ap (λ j. count_from j b) same
count_from-append k (suc a) b =
    let more : suc a + b ≡ suc (a + b) = omega arith in
    let next : suc k + a ≡ k + suc a = omega arith in
    ap (count_from k) more ∙ ap (λ xs. k ∷ xs) (count_from-append (suc k) a b ∙ ap (λ j. count_from (suc k) a ++ count_from j b) next)

abbrev enables_of : List ℕ → ℕ → ℕ → List Bool
enables_of es first n = map (is_enabled es) (count_from first n)

enables_of-sum : (es : List ℕ) (first a b : ℕ) → enables_of es first (a + b) ≡ enables_of es first a ++ enables_of es (first + a) b
enables_of-sum es first a b = ap (map (is_enabled es)) (count_from-append first a b) ∙ map-append (is_enabled es) (count_from first a) (count_from (first + a) b)

length-enables_of : (es : List ℕ) (first n : ℕ) → length (enables_of es first n) ≡ n
length-enables_of es first n = length-map (count_from first n) (is_enabled es) ∙ length-count_from first n

merged-sum : (bytes : List ℕ) (at : ℕ) (one two es : List ℕ) (first : ℕ) → at + length one ≤ length bytes
    → merged (enables_of es first (length (one ++ two))) (one ++ two) (part_of bytes at (length (one ++ two)))
    ≡ merged (enables_of es first (length one)) one (part_of bytes at (length one))
    ++ merged (enables_of es (first + length one) (length two)) two (part_of bytes (at + length one) (length two))
merged-sum bytes at one two es first within =
    let a = length one in
    let b = length two in
    let e1 = enables_of es first a in
    let e2 = enables_of es (first + a) b in
    let long : length e1 ≡ length (part_of bytes at a) = length-enables_of es first a ∙ sym (length-part_of bytes at a within) in
    ap (λ n. merged (enables_of es first n) (one ++ two) (part_of bytes at n)) (length-append one two)
    ∙ ap (λ ons. merged ons (one ++ two) (part_of bytes at (a + b))) (enables_of-sum es first a b)
    ∙ ap (merged (e1 ++ e2) (one ++ two)) (part_of-sum bytes at a b)
    ∙ merged-append e1 e2 one two (part_of bytes at a) (part_of bytes (at + a) b) (length-enables_of es first a) long

pub written_from-more : (bytes : List ℕ) (at : ℕ) (one two es : List ℕ) (first : ℕ) → at + length one ≤ length bytes
    → written_from (written_from bytes at one es first) (at + length one) two es (first + length one) ≡ written_from bytes at (one ++ two) es first
written_from-more bytes at one two es first within =
    let a = length one in
    let b = length two in
    let put = merged (enables_of es first a) one (part_of bytes at a) in
    let e2 = enables_of es (first + a) b in
    let long : length put ≡ a = length-merged (enables_of es first a) one (part_of bytes at a) ∙ length-part_of bytes at a within in
    let place : at + a ≡ at + length put = omega (arith, long) in
    let low : at ≤ length bytes = omega (arith, within) in
    ap (λ xs. overwritten (overwritten bytes at put) (at + a) (merged e2 two xs)) (part_of-overwritten bytes at put (at + a) b place low)
    ∙ overwritten-twice bytes at put (merged e2 two (part_of bytes (at + a) b)) (at + a) place low
    ∙ ap (overwritten bytes at) (sym (merged-sum bytes at one two es first within))

pub length-written_from : (bytes : List ℕ) (at : ℕ) (new es : List ℕ) (first : ℕ) → at + length new ≤ length bytes → length (written_from bytes at new es first) ≡ length bytes
length-written_from bytes at new es first within =
    let put = merged (enables_of es first (length new)) new (part_of bytes at (length new)) in
    let long : length put ≡ length new = length-merged (enables_of es first (length new)) new (part_of bytes at (length new)) ∙ length-part_of bytes at (length new) within in
    length-overwritten bytes at put (omega (arith, within, long))

-- Where there are no enables, each byte is written.
merged-all : (k : ℕ) (new old : List ℕ) → length old ≡ length new → merged (map (is_enabled []) (count_from k (length new))) new old ≡ new
merged-all k [] [] e = refl
merged-all k [] (o ∷ old) e = absurd (omega (arith, e))
merged-all k (b ∷ new) [] e = absurd (omega (arith, e))
merged-all k (b ∷ new) (o ∷ old) e = ap (λ xs. b ∷ xs) (merged-all (suc k) new old (omega (arith, e)))

pub written_from-all : (bytes : List ℕ) (at : ℕ) (new : List ℕ) (first : ℕ) → at + length new ≤ length bytes → written_from bytes at new [] first ≡ overwritten bytes at new
written_from-all bytes at new first within = ap (overwritten bytes at) (merged-all first new (part_of bytes at (length new)) (length-part_of bytes at (length new) within))

-- One byte.
pub written_from-one : (bytes : List ℕ) (at b : ℕ) (es : List ℕ) (first : ℕ) → at < length bytes
    → written_from bytes at (b ∷ []) es first ≡ set bytes at (if is_enabled es first then b else get_or bytes at 0)
written_from-one bytes at b es first small =
    let next : at + 1 ≡ suc at = omega arith in
    let rest : drop at bytes ≡ get_or bytes at 0 ∷ drop (at + 1) bytes = drop_more bytes at 0 small in
    let old : part_of bytes at 1 ≡ get_or bytes at 0 ∷ [] = ap (take 1) rest in
    ap (λ xs. overwritten bytes at (merged (is_enabled es first ∷ []) (b ∷ []) xs)) old
    ∙ append_assoc (take at bytes) ((if is_enabled es first then b else get_or bytes at 0) ∷ []) (drop (at + 1) bytes)
    ∙ ap (λ n. take at bytes ++ (if is_enabled es first then b else get_or bytes at 0) ∷ drop n bytes) next
    ∙ sym (set_split bytes at (if is_enabled es first then b else get_or bytes at 0) small)

written-choice : (on : Bool) (bytes : List ℕ) (at b : ℕ) (next : List ℕ) → ((on ≡ true) × (next ≡ set bytes at b)) ⊎ ((on ≡ false) × (next ≡ bytes))
    → next ≡ set bytes at (if on then b else get_or bytes at 0)
written-choice true bytes at b next (inl e) = e.1
written-choice true bytes at b next (inr e) = absurd (let no = e.0 in cc)
written-choice false bytes at b next (inl e) = absurd (let no = e.0 in cc)
written-choice false bytes at b next (inr e) = e.1 ∙ sym (set-get_or bytes at 0)

-- One more byte, which is written where it is enabled.
pub written_from-next : (bytes new es : List ℕ) (first k : ℕ) (now next : List ℕ) → length bytes ≡ length new → k < length new
    → now ≡ written_from bytes 0 (take k new) es first
    → ((is_enabled es (first + k) ≡ true) × (next ≡ set now k (get_or new k 0))) ⊎ ((is_enabled es (first + k) ≡ false) × (next ≡ now))
    → next ≡ written_from bytes 0 (take (k + 1) new) es first
written_from-next bytes new es first k now next same small is choice =
    let few : length (take k new) ≡ k = length-take-le k new (omega (arith, small)) in
    let long : length now ≡ length bytes = ap length is ∙ length-written_from bytes 0 (take k new) es first (omega (arith, few, small, same)) in
    let at : 0 + length (take k new) ≡ k = omega (arith, few) in
    let behind : first + length (take k new) ≡ first + k = omega (arith, few) in
    written-choice (is_enabled es (first + k)) now k (get_or new k 0) next choice
    ∙ sym (written_from-one now k (get_or new k 0) es (first + k) (omega (arith, long, same, small)))
    ∙ ap (λ xs. written_from xs k (get_or new k 0 ∷ []) es (first + k)) is
    ∙ ap (λ n. written_from (written_from bytes 0 (take k new) es first) n (get_or new k 0 ∷ []) es (first + k)) (sym at)
    ∙ ap (λ n. written_from (written_from bytes 0 (take k new) es first) (0 + length (take k new)) (get_or new k 0 ∷ []) es n) (sym behind)
    ∙ written_from-more bytes 0 (take k new) (get_or new k 0 ∷ []) es first (omega (arith, few, small, same))
    ∙ ap (λ xs. written_from bytes 0 xs es first) (sym (take_more new k 0 small))

-- From the front of a list it is the list that is merged.
pub written_from-front : (bytes new es : List ℕ) (first : ℕ) → length bytes ≡ length new
    → written_from bytes 0 new es first ≡ merged (map (is_enabled es) (count_from first (length new))) new bytes
written_from-front bytes new es first same =
    let put = merged (enables_of es first (length new)) new (take (length new) bytes) in
    let whole : take (length new) bytes ≡ bytes = take_all (length new) bytes (omega (arith, same)) in
    let long : length put ≡ length (take (length new) bytes) = length-merged (enables_of es first (length new)) new (take (length new) bytes) in
    ap (λ xs. put ++ xs) (drop_all (0 + length put) bytes (omega (arith, long, ap length whole)))
    ∙ append-nil put ∙ ap (merged (enables_of es first (length new)) new) whole
