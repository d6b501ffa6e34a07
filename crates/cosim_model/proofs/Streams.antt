-- Packets of a stream: one more, a longer stream, and that a stream is malformed in one place.
use Rattle.std.proofs.Common.{◌≡◌, ℕ, ◌+◌, ◌≤◌, List, [], ◌∷◌, ◌++◌, length, drop, Option, Some, refl, sym, ap, ap₂, ◌∙◌, subst, arith}
use Rattle.std.proofs.lemmas.List.{length-drop, drop-append-le, drop-drop}
use Rattle.byte_streams.specs.Messages.{IsDecided}
use Rattle.cosim_model.specs.Packets.{Packet, Decoded, Codec}
use Rattle.cosim_model.specs.Packets.Decoded.{Valid, Malformed}
use Rattle.cosim_model.specs.Streams.{AreFirst, IsMalformedAt}

module _ {F : Type 0} (codec : Codec F) where
  same_packet : (p q : Packet) (m n : ℕ) → ◌≡◌ {A = Option (Decoded F × ℕ)} (Some (Valid p, m)) (Some (Valid q, n)) → (p ≡ q) × (m ≡ n)
  same_packet p q m n e = (value p q (ap (λ r. r.0) (pair e)), ap (λ r. r.1) (pair e))
    where
      pair : ◌≡◌ {A = Option (Decoded F × ℕ)} (Some (Valid p, m)) (Some (Valid q, n)) → ◌≡◌ {A = Decoded F × ℕ} (Valid p, m) (Valid q, n)
      pair e = cc

      value : (p q : Packet) → ◌≡◌ {A = Decoded F} (Valid p) (Valid q) → p ≡ q
      value p q e = cc

  same_cause : (c e : F) (m n : ℕ) → ◌≡◌ {A = Option (Decoded F × ℕ)} (Some (Malformed c, m)) (Some (Malformed e, n)) → (c ≡ e) × (m ≡ n)
  same_cause c e m n f = (value c e (ap (λ r. r.0) (pair f)), ap (λ r. r.1) (pair f))
    where
      pair : ◌≡◌ {A = Option (Decoded F × ℕ)} (Some (Malformed c, m)) (Some (Malformed e, n)) → ◌≡◌ {A = Decoded F × ℕ} (Malformed c, m) (Malformed e, n)
      pair e = cc

      value : (c e : F) → ◌≡◌ {A = Decoded F} (Malformed c) (Malformed e) → c ≡ e
      value c e f = cc

  not_both : (p : Packet) (c : F) (m n : ℕ) → ◌≡◌ {A = Option (Decoded F × ℕ)} (Some (Malformed c, m)) (Some (Valid p, n)) → ⊥
  not_both p c m n e = kinds (ap (λ r. r.0) (pair e))
    where
      pair : ◌≡◌ {A = Option (Decoded F × ℕ)} (Some (Malformed c, m)) (Some (Valid p, n)) → ◌≡◌ {A = Decoded F × ℕ} (Malformed c, m) (Valid p, n)
      pair e = cc

      kinds : ◌≡◌ {A = Decoded F} (Malformed c) (Valid p) → ⊥
      kinds e = cc

  -- One more packet.
  pub one_more : (ps : List Packet) (n : ℕ) (x : List ℕ) (p : Packet) (m : ℕ) → AreFirst codec ps n x → codec.first (drop n x) ≡ Some (Valid p, m) → AreFirst codec (ps ++ p ∷ []) (n + m) x
  one_more [] n x p m are is = (m, 0, ap (λ i. codec.first (drop i x)) (sym are) ∙ is, (let e : n ≡ 0 = are in omega arith), refl)
  one_more (q ∷ ps) n x p m are is =
      (are.0, are.1 + m, are.2, (let e : n ≡ are.0 + are.1 = are.3 in omega arith), one_more ps are.1 (drop are.0 x) p m are.4 (ap codec.first (drop-drop are.1 are.0 x ∙ ap (λ i. drop i x) (sym are.3)) ∙ is))

  -- A stream is malformed at one place, for one cause.
  one_walk : (ps qs : List Packet) (m n : ℕ) (x : List ℕ) (c e : F) (a b : ℕ) → AreFirst codec ps m x → AreFirst codec qs n x → codec.first (drop m x) ≡ Some (Malformed c, a) → codec.first (drop n x) ≡ Some (Malformed e, b) → (ps ≡ qs) × (m ≡ n) × (c ≡ e)
  one_walk [] [] m n x c e a b are also bad worse = (refl, are ∙ sym also, (same_cause c e a b (sym bad ∙ ap (λ i. codec.first (drop i x)) (are ∙ sym also) ∙ worse)).0)
  one_walk [] (q ∷ qs) m n x c e a b are also bad worse = absurd (not_both q c a also.0 (sym bad ∙ ap (λ i. codec.first (drop i x)) are ∙ also.2))
  one_walk (p ∷ ps) [] m n x c e a b are also bad worse = absurd (not_both p e b are.0 (sym worse ∙ ap (λ i. codec.first (drop i x)) also ∙ are.2))
  one_walk (p ∷ ps) (q ∷ qs) m n x c e a b are also bad worse =
      let same = same_packet p q are.0 also.0 (sym are.2 ∙ also.2) in
      let there : AreFirst codec qs also.1 (drop are.0 x) = subst (λ i. AreFirst codec qs also.1 (drop i x)) (sym same.1) also.4 in
      let rest = one_walk ps qs are.1 also.1 (drop are.0 x) c e a b are.4 there
      (ap codec.first (drop-drop are.1 are.0 x ∙ ap (λ i. drop i x) (sym are.3)) ∙ bad)
      (ap codec.first (drop-drop also.1 are.0 x ∙ ap (λ i. drop i x) (ap (λ i. i + also.1) same.1 ∙ sym also.3)) ∙ worse) in
      (ap (λ p. p ∷ ps) same.0 ∙ ap (λ ps. q ∷ ps) rest.0, are.3 ∙ ap₂ ◌+◌ same.1 rest.1 ∙ sym also.3, rest.2)

  pub one_place : (x : List ℕ) (start other : ℕ) (cause another : F) → (is : IsMalformedAt codec x start cause) → (also : IsMalformedAt codec x other another) → (is.packets ≡ also.packets) × (start ≡ other) × (cause ≡ another)
  one_place x start other cause another is also = one_walk is.packets also.packets start other x cause another is.size also.size is.before also.before is.malformed also.malformed

  module _ (decided : IsDecided codec.first) where
    -- More bytes behind change none of them.
    pub still_first : (ps : List Packet) (n : ℕ) (x y : List ℕ) → AreFirst codec ps n x → (n ≤ length x) × AreFirst codec ps n (x ++ y)
    still_first [] n x y are = (let e : n ≡ 0 = are in omega arith, are)
    still_first (p ∷ ps) n x y are =
        let whole = decided x y (Valid p, are.0) are.2 in
        let rest = still_first ps are.1 (drop are.0 x) y are.4 in (
          (let e : n ≡ are.0 + are.1 = are.3 in let short = rest.0 in let inside : are.0 ≤ length x = whole.1 in let size = length-drop are.0 x in omega arith),
          (are.0, are.1, whole.2, are.3, subst (λ z. AreFirst codec ps are.1 z) (sym (drop-append-le are.0 x y whole.1)) rest.1),
        )

    pub still_malformed : (x y : List ℕ) (start : ℕ) (cause : F) → IsMalformedAt codec x start cause → IsMalformedAt codec (x ++ y) start cause
    still_malformed x y start cause is =
        let before = still_first is.packets start x y is.before in record {
          packets = is.packets;
          before = before.1;
          size = is.size;
          malformed = ap codec.first (drop-append-le start x y before.0) ∙ (decided (drop start x) y (Malformed cause, is.size) is.malformed).2;
        }
