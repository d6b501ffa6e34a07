-- Reads and writes of pages as reads and writes of memory.
use Rattle.std.proofs.Common.{◌≡◌, ℕ, zero, suc, ◌+◌, ◌-◌, ◌*◌, ◌/◌, ◌%◌, ◌<◌, ◌≤◌, List, [], ◌∷◌, ◌++◌, length, take, drop, set, map, replicate, refl, sym, ◌∙◌, ap, arith, zero-add, below_more, ◌≢◌, true, get_or, append_assoc}
use Rattle.std.specs.Option.{is_some}
use Rattle.std.specs.declared.option.Option.{Option}
use Rattle.std.specs.declared.option.Option.TheVariants.{None}
use Rattle.std.proofs.lemmas.List.{length-replicate, length-append, drop-replicate, take-replicate, get_or-set_other, get_or-set_same, get_or_default, length-take, length-drop, length-take-le, replicate-append-replicate, append-nil}
use Rattle.std.proofs.Math.Seq.{take-add}
use Rattle.std.proofs.lemmas.List.Elements.{All-head, All-tail, All-get_or, All-set, All-replicate}
use Rattle.cos_base.specs.Octets.{overwritten}
use Rattle.cosim_model.specs.Packets.{is_enabled, count_from}
use Rattle.sys_ram.specs.Memory.{part_of, merged}
use Rattle.sys_ram.specs.MemoryLaws.{length-part_of, length-merged}
use Rattle.sys_ram.specs.Pages.{zero_page, page_bytes, memory_of, IsPage, ArePages, page_at, AreThere, written_from}
use Rattle.sys_ram.proofs.Writing.{overwritten-front, overwritten-behind, part_of-front, part_of-behind, written_from-more, length-written_from}

pub length-zero_page : length zero_page ≡ 4096
unfolding zero_page
length-zero_page = length-replicate {A = ℕ} 4096 0

pub length-memory_of : (ps : List (Option (List ℕ))) → ArePages ps → length (memory_of ps) ≡ 4096 * length ps
length-memory_of [] pages = refl
length-memory_of (p ∷ ps) pages =
    let first : length (page_bytes p) ≡ 4096 = All-head IsPage p ps pages in
    omega (arith, first, length-append (page_bytes p) (memory_of ps), length-memory_of ps (All-tail IsPage p ps pages))

pub memory_of-part : (ps : List (Option (List ℕ))) (i at n : ℕ) → ArePages ps → i < length ps → at + n ≤ 4096
    → part_of (memory_of ps) (4096 * i + at) n ≡ part_of (page_bytes (page_at ps i)) at n
memory_of-part [] i at n pages small within = absurd (omega (arith, small))
memory_of-part (p ∷ ps) zero at n pages small within =
    let first : length (page_bytes p) ≡ 4096 = All-head IsPage p ps pages in
    ap (λ k. part_of (page_bytes p ++ memory_of ps) k n) (zero-add at) ∙ part_of-front (page_bytes p) (memory_of ps) at n (omega (arith, first, within))
memory_of-part (p ∷ ps) (suc i) at n pages small within =
    let first : length (page_bytes p) ≡ 4096 = All-head IsPage p ps pages in
    let place : 4096 * suc i + at ≡ length (page_bytes p) + (4096 * i + at) = omega (arith, first) in
    ap (λ k. part_of (page_bytes p ++ memory_of ps) k n) place
    ∙ part_of-behind (page_bytes p) (memory_of ps) (4096 * i + at) n
    ∙ memory_of-part ps i at n (All-tail IsPage p ps pages) (omega (arith, small)) within

pub memory_of-overwritten : (ps : List (Option (List ℕ))) (i at : ℕ) (others : List ℕ) (page : Option (List ℕ)) → ArePages ps → i < length ps → at + length others ≤ 4096
    → page_bytes page ≡ overwritten (page_bytes (page_at ps i)) at others → memory_of (set ps i page) ≡ overwritten (memory_of ps) (4096 * i + at) others
memory_of-overwritten [] i at others page pages small within e = absurd (omega (arith, small))
memory_of-overwritten (p ∷ ps) zero at others page pages small within e =
    let first : length (page_bytes p) ≡ 4096 = All-head IsPage p ps pages in
    ap (λ xs. xs ++ memory_of ps) e
    ∙ sym (overwritten-front (page_bytes p) (memory_of ps) others at (omega (arith, first, within)))
    ∙ ap (λ k. overwritten (page_bytes p ++ memory_of ps) k others) (sym (zero-add at))
memory_of-overwritten (p ∷ ps) (suc i) at others page pages small within e =
    let first : length (page_bytes p) ≡ 4096 = All-head IsPage p ps pages in
    let place : 4096 * suc i + at ≡ length (page_bytes p) + (4096 * i + at) = omega (arith, first) in
    ap (λ xs. page_bytes p ++ xs) (memory_of-overwritten ps i at others page (All-tail IsPage p ps pages) (omega (arith, small)) within e)
    ∙ sym (overwritten-behind (page_bytes p) (memory_of ps) others (4096 * i + at))
    ∙ ap (λ k. overwritten (page_bytes p ++ memory_of ps) k others) (sym place)

-- A page in the place of one with the same bytes.
pub memory_of-same : (ps : List (Option (List ℕ))) (i : ℕ) (page : Option (List ℕ)) → i < length ps → page_bytes page ≡ page_bytes (page_at ps i) → memory_of (set ps i page) ≡ memory_of ps
memory_of-same [] i page small e = absurd (omega (arith, small))
memory_of-same (p ∷ ps) zero page small e = ap (λ xs. xs ++ memory_of ps) e
memory_of-same (p ∷ ps) (suc i) page small e = ap (λ xs. page_bytes p ++ xs) (memory_of-same ps i page (omega (arith, small)) e)

-- What is written to a page is written to memory.
pub memory_of-written : (ps : List (Option (List ℕ))) (i at : ℕ) (new es : List ℕ) (first : ℕ) (page : Option (List ℕ)) → ArePages ps → i < length ps → at + length new ≤ 4096
    → page_bytes page ≡ written_from (page_bytes (page_at ps i)) at new es first → memory_of (set ps i page) ≡ written_from (memory_of ps) (4096 * i + at) new es first
memory_of-written ps i at new es first page pages small within e =
    let old = part_of (page_bytes (page_at ps i)) at (length new) in
    let whole : length (page_bytes (page_at ps i)) ≡ 4096 = All-get_or IsPage ps i None small pages in
    let put = merged (map (is_enabled es) (count_from first (length new))) new old in
    let long : length put ≡ length new = length-merged (map (is_enabled es) (count_from first (length new))) new old ∙ length-part_of (page_bytes (page_at ps i)) at (length new) (omega (arith, whole, within)) in
    memory_of-overwritten ps i at put page pages small (omega (arith, long, within)) e
    ∙ ap (λ xs. overwritten (memory_of ps) (4096 * i + at) (merged (map (is_enabled es) (count_from first (length new))) new xs)) (sym (memory_of-part ps i at (length new) pages small within))

pub zero_part : (at n : ℕ) → at + n ≤ 4096 → part_of zero_page at n ≡ replicate n 0
unfolding zero_page
zero_part at n within = ap (take n) (drop-replicate {X = ℕ} at 4096 0) ∙ take-replicate {X = ℕ} n (4096 - at) 0 (omega (arith, within))

-- One more part of memory that was read.
pub part_read : (ps : List (Option (List ℕ))) (at done count : ℕ) (out : List ℕ) → ArePages ps → (at + done) / 4096 < length ps → (at + done) % 4096 + count ≤ 4096
    → out ≡ part_of (page_bytes (page_at ps ((at + done) / 4096))) ((at + done) % 4096) count → out ≡ part_of (memory_of ps) (at + done) count
part_read ps at done count out pages small within is =
    let place : 4096 * ((at + done) / 4096) + (at + done) % 4096 ≡ at + done = omega arith in
    is ∙ sym (memory_of-part ps ((at + done) / 4096) ((at + done) % 4096) count pages small within) ∙ ap (λ k. part_of (memory_of ps) k count) place

-- A page in the place of one of a list.
pub pages-set : (ps : List (Option (List ℕ))) (i : ℕ) (page : Option (List ℕ)) → ArePages ps → i < length ps → length (page_bytes page) ≡ length (page_bytes (page_at ps i)) → ArePages (set ps i page)
pages-set ps i page pages small same =
    let whole : length (page_bytes (page_at ps i)) ≡ 4096 = All-get_or IsPage ps i None small pages in
    All-set IsPage ps i page (same ∙ whole) pages

-- The pages that are there stay, and one more is there.
pub there-more : (ps : List (Option (List ℕ))) (i from : ℕ) (page : Option (List ℕ)) → i < length ps → is_some page ≡ true
    → ((k : ℕ) → from ≤ k → k < i → is_some (page_at ps k) ≡ true) → (k : ℕ) → from ≤ k → k < i + 1 → is_some (page_at (set ps i page) k) ≡ true
there-more ps i from page small there before k low high =
    below_more (λ j. from ≤ j → is_some (page_at (set ps i page) j) ≡ true) i
    (λ j less lower. let other : j ≢ i = omega (arith, less) in ap is_some (get_or-set_other ps i j page None other) ∙ before j lower less)
    (λ lower. ap is_some (get_or-set_same ps i page None small) ∙ there)
    k high low

-- A page that is there takes the place of another.
pub there-set : (ps : List (Option (List ℕ))) (i at n : ℕ) (page : Option (List ℕ)) → is_some page ≡ true → AreThere ps at n → AreThere (set ps i page) at n
there-set ps i at n page there all k low high = there-at ps i k page there (all k low high)
  where
    there-at : (qs : List (Option (List ℕ))) (j m : ℕ) (p : Option (List ℕ)) → is_some p ≡ true → is_some (page_at qs m) ≡ true → is_some (page_at (set qs j p) m) ≡ true
    there-at [] j m p e f = f
    there-at (q ∷ qs) zero zero p e f = e
    there-at (q ∷ qs) zero (suc m) p e f = f
    there-at (q ∷ qs) (suc j) zero p e f = f
    there-at (q ∷ qs) (suc j) (suc m) p e f = there-at qs j m p e f

-- One more part of some bytes that was written.
pub part_written : (ps : List (Option (List ℕ))) (bytes : List ℕ) (at done count : ℕ) (new es part : List ℕ) (page d : Option (List ℕ)) (n : ℕ)
    → ArePages ps → (at + done) / 4096 < length ps → (at + done) % 4096 + count ≤ 4096 → done + count ≤ length new → at + done ≤ length bytes
    → memory_of ps ≡ written_from bytes at (take done new) es 0
    → part ≡ take n (drop done new) → n ≡ count
    → page_bytes page ≡ written_from (page_bytes (get_or ps ((at + done) / 4096) d)) ((at + done) % 4096) part es done
    → memory_of (set ps ((at + done) / 4096) page) ≡ written_from bytes at (take (done + count) new) es 0
part_written ps bytes at done count new es part page d n pages small within room low now is long e =
    let i = (at + done) / 4096 in
    let few : length (take done new) ≡ done = length-take-le done new (omega (arith, room)) in
    let many : length part ≡ count = ap length is ∙ length-take n (drop done new) ∙ omega (arith, length-drop done new, long, room) in
    let place : 4096 * i + (at + done) % 4096 ≡ at + length (take done new) = omega (arith, few) in
    let first : done ≡ 0 + length (take done new) = omega (arith, few) in
    let page : page_bytes page ≡ written_from (page_bytes (page_at ps i)) ((at + done) % 4096) part es done
    = e ∙ ap (λ p. written_from (page_bytes p) ((at + done) % 4096) part es done) (get_or_default ps i d None small) in
    let whole : take done new ++ part ≡ take (done + count) new
    = ap (λ xs. take done new ++ xs) (is ∙ ap (λ k. take k (drop done new)) long) ∙ sym (take-add done count new) in
    memory_of-written ps i ((at + done) % 4096) part es done _ pages small (omega (arith, many, within)) page
    ∙ ap (λ xs. written_from xs (4096 * i + (at + done) % 4096) part es done) now
    ∙ ap (λ k. written_from (written_from bytes at (take done new) es 0) k part es done) place
    ∙ ap (λ k. written_from (written_from bytes at (take done new) es 0) (at + length (take done new)) part es k) first
    ∙ written_from-more bytes at (take done new) part es 0 (omega (arith, few, low))
    ∙ ap (λ xs. written_from bytes at xs es 0) whole

pub length-page_written : (ps : List (Option (List ℕ))) (i at : ℕ) (new es : List ℕ) (first : ℕ) (page d : Option (List ℕ)) → ArePages ps → i < length ps → at + length new ≤ 4096
    → page_bytes page ≡ written_from (page_bytes (get_or ps i d)) at new es first → length (page_bytes page) ≡ length (page_bytes (page_at ps i))
length-page_written ps i at new es first page d pages small within e =
    let whole : length (page_bytes (page_at ps i)) ≡ 4096 = All-get_or IsPage ps i None small pages in
    ap length (e ∙ ap (λ p. written_from (page_bytes p) at new es first) (get_or_default ps i d None small))
    ∙ length-written_from (page_bytes (page_at ps i)) at new es first (omega (arith, whole, within))

-- Pages that aren't there are zeros.
pub no_pages : (n : ℕ) → memory_of (replicate {A = Option (List ℕ)} n None) ≡ replicate (4096 * n) 0
unfolding zero_page
no_pages zero = refl
no_pages (suc n) =
    let more : 4096 + 4096 * n ≡ 4096 * suc n = omega arith in
    ap (λ xs. replicate 4096 0 ++ xs) (no_pages n) ∙ replicate-append-replicate {A = ℕ} 4096 (4096 * n) 0 ∙ ap (λ k. replicate {A = ℕ} k 0) more

pub no_pages-are : (n : ℕ) → ArePages (replicate {A = Option (List ℕ)} n None)
no_pages-are n = All-replicate IsPage n None length-zero_page

-- One more page behind the others.
pub memory_of-push : (ps : List (Option (List ℕ))) (page : Option (List ℕ)) → memory_of (ps ++ page ∷ []) ≡ memory_of ps ++ page_bytes page
memory_of-push [] page = append-nil (page_bytes page)
memory_of-push (p ∷ ps) page = ap (λ xs. page_bytes p ++ xs) (memory_of-push ps page) ∙ sym (append_assoc (page_bytes p) (memory_of ps) (page_bytes page))
