-- What follows of Talk alone, of two sides that give more for more: it grows, it ends in one list, and it ends where all was received.
use Rattle.std.proofs.Common.{◌≡◌, ℕ, zero, suc, ◌+◌, List, [], refl, ap, sym, ◌∙◌, subst, arith}
use Rattle.byte_streams.specs.Prefixes.{IsPrefix, Grows}
use Rattle.byte_streams.specs.Talks.{talk, IsTalk}
use Rattle.byte_streams.proofs.Prefixes.{IsPrefix-same, IsPrefix-trans, IsPrefix-antisym, Grows-IsPrefix}

-- one exchange further
pub talk-step : (said out : List ℕ → List ℕ) (x y : List ℕ) → Grows said → Grows out → IsPrefix x y → IsPrefix (said (out x)) (said (out y))
talk-step said out x y a b p = Grows-IsPrefix said (out x) (out y) a (Grows-IsPrefix out x y b p)

-- what was received in time stays within Talk
pub within-talk : (said out : List ℕ → List ℕ) (received next : List ℕ) (k : ℕ) → Grows said → Grows out → IsPrefix received (talk said out k) → IsPrefix next (said (out received)) → IsPrefix next (talk said out (suc k))
within-talk said out received next k a b before now = IsPrefix-trans _ _ _ now (talk-step said out received _ a b before)

-- Talk stays within what it leads to
pub talk-within : (said out : List ℕ → List ℕ) (r : List ℕ) (k : ℕ) → Grows said → Grows out → r ≡ said (out r) → IsPrefix (talk said out k) r
talk-within said out r zero a b fixed = subst (λ z. IsPrefix (said []) z) (sym fixed) (a [] (out r))
talk-within said out r (suc k) a b fixed =
    subst (λ z. IsPrefix (said (out (talk said out k))) z) (sym fixed) (talk-step said out _ r a b (talk-within said out r k a b fixed))

-- where all was received, Talk ends there
pub talk-fixed : (said out : List ℕ → List ℕ) (r : List ℕ) (k : ℕ) → Grows said → Grows out → IsPrefix r (talk said out k) → r ≡ said (out r) → IsTalk said out r
talk-fixed said out r k a b before fixed =
    let same : talk said out k ≡ r = IsPrefix-antisym _ _ (talk-within said out r k a b fixed) before in
    (k, same, ap (λ x. said (out x)) same ∙ sym fixed)

-- Talk grows
pub talk-grows : (said out : List ℕ → List ℕ) (k : ℕ) → Grows said → Grows out → IsPrefix (talk said out k) (talk said out (suc k))
talk-grows said out zero a b = a [] (out (said []))
talk-grows said out (suc k) a b = talk-step said out _ _ a b (talk-grows said out k a b)

-- where nothing more is sent whatever comes, Talk ends too
pub talk-stuck : (said out : List ℕ → List ℕ) (r : List ℕ) (k : ℕ) → Grows said → Grows out → IsPrefix r (talk said out k) → ((y : List ℕ) → IsPrefix r y → out y ≡ out r) → IsTalk said out (talk said out (suc k))
talk-stuck said out r k a b before stuck =
    let here = stuck (talk said out k) before in
    let next = stuck (talk said out (suc k)) (IsPrefix-trans r _ _ before (talk-grows said out k a b)) in
    (suc k, refl, ap said (next ∙ sym here))

-- Talk that went no further once stays
pub talk-stays : (said out : List ℕ → List ℕ) (k n : ℕ) → talk said out (suc k) ≡ talk said out k → talk said out (n + k) ≡ talk said out k
talk-stays said out k zero still = ap (talk said out) (omega arith)
talk-stays said out k (suc n) still =
    let next : suc n + k ≡ suc (n + k) = omega arith in
    ap (talk said out) next ∙ ap (λ x. said (out x)) (talk-stays said out k n still) ∙ still

-- Talk ends in one list
pub talk-once : (said out : List ℕ → List ℕ) (x y : List ℕ) → IsTalk said out x → IsTalk said out y → x ≡ y
talk-once said out x y (k, a, b) (j, c, d) =
    let one : talk said out (j + k) ≡ x = talk-stays said out k j (b ∙ sym a) ∙ a in
    let two : talk said out (k + j) ≡ y = talk-stays said out j k (d ∙ sym c) ∙ c in
    let same : j + k ≡ k + j = omega arith in
    sym one ∙ ap (talk said out) same ∙ two

pub talk-later : (said out : List ℕ → List ℕ) (k n : ℕ) → Grows said → Grows out → IsPrefix (talk said out k) (talk said out (k + n))
talk-later said out k zero a b =
    let same : k ≡ k + 0 = omega arith in
    subst (λ m. IsPrefix (talk said out k) (talk said out m)) same (IsPrefix-same (talk said out k))
talk-later said out k (suc n) a b =
    let next : suc (k + n) ≡ k + suc n = omega arith in
    IsPrefix-trans _ _ _ (talk-later said out k n a b)
    (subst (λ m. IsPrefix (talk said out (k + n)) (talk said out m)) next (talk-grows said out (k + n) a b))

-- each step of Talk is within where it ends
pub talk-below : (said out : List ℕ → List ℕ) (k : ℕ) (x : List ℕ) → Grows said → Grows out → IsTalk said out x → IsPrefix (talk said out k) x
talk-below said out k x grows more (j, a, b) =
    let end : talk said out (k + j) ≡ x = talk-stays said out j k (b ∙ sym a) ∙ a in
    subst (λ z. IsPrefix (talk said out k) z) end (talk-later said out k j grows more)
