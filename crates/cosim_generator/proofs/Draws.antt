-- Draws one after another, and what is made of them.
use Rattle.std.proofs.Common.{◌≡◌, ℕ, zero, suc, ◌+◌, ◌*◌, ◌%◌, ◌<◌, List, [], ◌∷◌, ◌++◌, length, take, set, refl, sym}
use Rattle.std.proofs.Common.{ap}
use Rattle.std.proofs.Common.{ap₂, ◌∙◌, append_assoc, arith}
use Rattle.std.proofs.Math.Seq.{take-suc-set}
use Rattle.std.proofs.lemmas.Grind.{flat_map-append}
use Rattle.std.proofs.lemmas.List.{append-nil}
use Rattle.std.specs.List.{flat_map}
use Rattle.rv_table.specs.declared.instr.Instr.{Instr}
use Rattle.cos_schedules.specs.Schedules.{following, drawn}
use Rattle.cosim_generator.specs.Programs.{after, draw, drawn_bytes, drawn_blocks, block}

pub after-none : (x : ℕ) → after 0 x ≡ x
unfolding after
after-none x = refl

pub after-more : (n m x : ℕ) → m ≡ suc n → after m x ≡ following (after n x)
unfolding after
after-more n m x e = ap (λ k. after k x) e

pub after-plus : (i j n x : ℕ) → n ≡ i + j → after i (after j x) ≡ after n x
after-plus zero j n x e =
    let same : j ≡ n = omega arith in
    after-none (after j x) ∙ ap (λ k. after k x) same
after-plus (suc i) j zero x e = absurd (omega arith)
after-plus (suc i) j (suc n) x e =
    after-more i (suc i) (after j x) refl ∙ ap following (after-plus i j n x (omega arith))
    ∙ sym (after-more n (suc n) x refl)

bytes-none : (x : ℕ) → drawn_bytes 0 x ≡ []
unfolding drawn_bytes
bytes-none x = refl

bytes-next : (n m x : ℕ) → m ≡ suc n → drawn_bytes m x ≡ drawn_bytes n x ++ draw n x % 256 ∷ []
unfolding drawn_bytes
bytes-next n m x e = ap (λ k. drawn_bytes k x) e

pub no-bytes : (x : ℕ) (bs : List ℕ) → take 0 bs ≡ drawn_bytes 0 x
no-bytes x [] = sym (bytes-none x)
no-bytes x (b ∷ bs) = sym (bytes-none x)

blocks-next : (n m x : ℕ) → m ≡ suc n → drawn_blocks m x ≡ drawn_blocks n x ++ block (draw (2 * n) x)
    (draw (2 * n + 1) x) ∷ []
unfolding drawn_blocks
blocks-next n m x e = ap (λ k. drawn_blocks k x) e

-- The blocks, with one more: its draws are the next two.
pub blocks-more : (n m x a b : ℕ) (instr : Instr) → m ≡ suc n → instr ≡ block a b → a ≡ draw (2 * n) x
    → b ≡ drawn (following (after (2 * n) x)) → drawn_blocks m x ≡ drawn_blocks n x ++ instr ∷ []
blocks-more n m x a b instr next is first second =
    let after_two = after-more (2 * n) (2 * n + 1) x (omega arith) in
    let b_is = second ∙ ap drawn (sym after_two) in
    blocks-next n m x next ∙ ap (λ i. drawn_blocks n x ++ i ∷ []) (sym (is ∙ ap₂ block first b_is))

pub after-block : (n m x y : ℕ) → m ≡ suc n → y ≡ after (2 * n) x → following (following y) ≡ after (2 * m) x
after-block n m x y next is =
    let one = after-more (2 * n) (2 * n + 1) x (omega arith) in
    let two = after-more (2 * n + 1) (2 * m) x (omega arith) in
    ap (λ z. following (following z)) is ∙ ap following (sym one) ∙ sym two

-- The bytes, with one more.
pub bytes-more : (n m x b : ℕ) (bs : List ℕ) → m ≡ suc n → n < length bs → take n bs ≡ drawn_bytes n x
    → b ≡ draw n x % 256 → take m (set bs n b) ≡ drawn_bytes m x
bytes-more n m x b bs next inside filled is =
    ap (λ k. take k (set bs n b)) next ∙ take-suc-set bs n b inside
    ∙ ap₂ (λ ds d. ds ++ d ∷ []) filled is ∙ sym (bytes-next n m x next)

-- Pieces, with one more.

pub put-more : {X : Type 0} (f : X → List ℕ) (xs ys : List X) (x : X) (front image new : List ℕ)
    → ys ≡ xs ++ x ∷ [] → image ≡ front ++ flat_map f xs → new ≡ image ++ f x → new ≡ front ++ flat_map f ys
put-more f xs ys x front image new more put is =
    is ∙ ap (λ t. t ++ f x) put ∙ append_assoc front (flat_map f xs) (f x)
    ∙ ap (λ t. front ++ t) (ap (λ t. flat_map f xs ++ t) (sym (append-nil (f x))) ∙ sym (flat_map-append f xs (x ∷ [])))
    ∙ ap (λ t. front ++ flat_map f t) (sym more)

pub put-parts : {X : Type 0} (f : X → List ℕ) (xs ys zs : List X)
    → flat_map f xs ++ flat_map f ys ++ flat_map f zs ≡ flat_map f (xs ++ ys ++ zs)
put-parts f xs ys zs =
    ap (λ t. t ++ flat_map f zs) (sym (flat_map-append f xs ys)) ∙ sym (flat_map-append f (xs ++ ys) zs)

pub blocks-none : (x : ℕ) → drawn_blocks 0 x ≡ []
unfolding drawn_blocks
blocks-none x = refl

pub after-two : (number x y z : ℕ) → x ≡ number → y ≡ following x → z ≡ following y → z ≡ after 2 number
after-two number x y z start one two =
    two ∙ ap following (one ∙ ap following (start ∙ sym (after-none number)) ∙ sym (after-more 0 1 number refl))
    ∙ sym (after-more 1 2 number refl)
