-- Every list of bytes is a stream or a faulty one, in one way alone, and taking packets from the front finds which.
use Rattle.std.proofs.Common.{◌≡◌, ◌⊎◌, inl, inr, ℕ, suc, zero, ◌+◌, ◌<◌, ◌≤◌, List, [], ◌∷◌, ◌++◌, length, take, drop, refl, sym, ap, ◌∙◌, arith, subst}
use Rattle.std.specs.Prelude.{Option, Some, None}
use Rattle.std.proofs.Math.Seq.{drop-append_seam}
use Rattle.std.proofs.lemmas.List.{append-nil, append_assoc, length-append, length-drop, take-append-drop}
use Rattle.cosim_model.specs.Packets.{Packet, Decoded}
use Rattle.cosim_model.specs.Packets.Decoded.{Valid, Malformed}
use Rattle.rp_header.specs.Numbers.{AreBytes}
use Rattle.rp_header.specs.NumberLaws.{AreBytes-drop}
use Rattle.rp_packet.specs.declared.fault.Cause.{Cause}
use Rattle.rp_packet.specs.Spelling.{Spells}
use Rattle.rp_packet.specs.Refusals.{place_of, len_at, early_refusal, late_refusal, value_in, judged, first}
use Rattle.rp_packet.specs.PacketLaws.{one-fault}
use Rattle.rp_packet.specs.ReadingLaws.{Spells-value_in}
use Rattle.rp_packet.specs.Streams.{Unfinished, Refuses, Bad, Spelled, Spelled_none, Spelled_one, Stream, Faulty, IsStream, IsFaulty}
use Rattle.rp_packet.specs.StreamLaws.{Stage, Early, Whole, Waiting, stage-of, same-some, first-early, first-whole, first-unfinished, first-spelled}

-- One answer of `first` is told in one way.
same-answer : (d e : Decoded Cause) (m n : ℕ) → ◌≡◌ {A = Option (Decoded Cause × ℕ)} (Some (d, m)) (Some (e, n)) → (d ≡ e) × (m ≡ n)
same-answer d e m n is = let pair = same-some (d, m) (e, n) is in (ap (λ p. p.0) pair, ap (λ p. p.1) pair)

same-value : (v w : Packet) → ◌≡◌ {A = Decoded Cause} (Valid v) (Valid w) → v ≡ w
same-value v w e = cc

same-refusal : (cause another : Cause) → ◌≡◌ {A = Decoded Cause} (Malformed cause) (Malformed another) → cause ≡ another
same-refusal cause another e = cc

not-valid : {A : Type 0} (v : Packet) (cause : Cause) → ◌≡◌ {A = Decoded Cause} (Malformed cause) (Valid v) → A
not-valid v cause e = absurd (cc e)

-- What no packet begins: there the walk ends.
abbrev Ends : List ℕ → Type 0
Ends b = (v : Packet) (n : ℕ) → first b ≡ Some (Valid v, n) → ⊥

Ends-unfinished : (b : List ℕ) → Unfinished b → Ends b
Ends-unfinished b is v n front = absurd (cc (sym (first-unfinished b is) ∙ front))

pub first-bad : (b : List ℕ) (place : ℕ) (cause : Cause) → Bad b place cause → (n : ℕ) × (first b ≡ Some (Malformed cause, n))
first-bad b place cause is =
    elim is.refused as (λ _. (n : ℕ) × (first b ≡ Some (Malformed cause, n))) [
      | inl early ↦ (20, first-early b cause is.long early)
      | inr late ↦ (20 + len_at b, first-whole b is.long late.0 late.1 ∙ ap (λ r. Some (judged b r, 20 + len_at b)) late.2)
    ]

no-packet : (b : List ℕ) (cause : Cause) (m n : ℕ) (v : Packet) → first b ≡ Some (Malformed cause, m) → first b ≡ Some (Valid v, n) → ⊥
no-packet b cause m n v bad front = not-valid v cause (same-answer (Malformed cause) (Valid v) m n (sym bad ∙ front)).0

Ends-bad : (b : List ℕ) (place : ℕ) (cause : Cause) → Bad b place cause → Ends b
Ends-bad b place cause is v n front = let bad = first-bad b place cause is in no-packet b cause bad.0 n v bad.1 front

-- one walk from the front
record SameWalk (vs ws : List Packet) (a c x y : List ℕ) : Type 0 where
  values : vs ≡ ws
  rests : x ≡ y
  sizes : length a ≡ length c

same-front : (v w : Packet) (m n : ℕ) → ◌≡◌ {A = Option (Decoded Cause × ℕ)} (Some (Valid v, m)) (Some (Valid w, n)) → (v ≡ w) × (m ≡ n)
same-front v w m n e = let same = same-answer (Valid v) (Valid w) m n e in (same-value v w same.0, same.1)

tail-is : (b c more other : List ℕ) → b ++ more ≡ c ++ other → length b ≡ length c → more ≡ other
tail-is b c more other whole size =
    sym (drop-append_seam b more) ∙ ap (drop (length b)) whole ∙ ap (λ n. drop n (c ++ other)) size ∙ drop-append_seam c other

one-walk : {vs ws : List Packet} {a c : List ℕ} → Spelled vs a → Spelled ws c → (x y : List ℕ) → Ends x → Ends y → a ++ x ≡ c ++ y → SameWalk vs ws a c x y
one-walk Spelled_none Spelled_none x y endx endy whole = record { values = refl; rests = whole; sizes = refl }
one-walk Spelled_none (Spelled_one {v = w} {b = c} {more = more} is rest) x y endx endy whole =
    absurd (endx w (length c) (ap first (whole ∙ append_assoc c more y) ∙ first-spelled w c (more ++ y) is))
one-walk (Spelled_one {v = v} {vs = vs} {b = a} {more = more} is rest) Spelled_none x y endx endy whole =
    absurd (endy v (length a) (ap first (sym whole ∙ append_assoc a more x) ∙ first-spelled v a (more ++ x) is))
one-walk (Spelled_one {v = v} {vs = vs} {b = a} {more = more} is rest) (Spelled_one {v = w} {vs = ws} {b = c} {more = other} also others) x y endx endy whole =
    let joined : a ++ (more ++ x) ≡ c ++ (other ++ y) = sym (append_assoc a more x) ∙ whole ∙ append_assoc c other y in
    let front = same-front v w (length a) (length c) (sym (first-spelled v a (more ++ x) is) ∙ ap first joined ∙ first-spelled w c (other ++ y) also) in
    let walk = one-walk rest others x y endx endy (tail-is a c (more ++ x) (other ++ y) joined front.1) in
    record {
      values = ap (λ p. p ∷ vs) front.0 ∙ ap (λ ps. w ∷ ps) walk.values;
      rests = walk.rests;
      sizes = length-append a more ∙ ap (λ n. n + length more) front.1 ∙ ap (λ n. length c + n) walk.sizes ∙ sym (length-append c other);
    }

pub one-stream : (b : List ℕ) (vs ws : List Packet) (rest other : List ℕ) → Stream vs b rest → Stream ws b other → (vs ≡ ws) × (rest ≡ other)
one-stream b vs ws rest other is also =
    let walk = one-walk is.spelled also.spelled rest other (Ends-unfinished rest is.unfinished) (Ends-unfinished other also.unfinished) (sym is.whole ∙ also.whole) in
    (walk.values, walk.rests)

same-malformed : (cause another : Cause) (m n : ℕ) → ◌≡◌ {A = Option (Decoded Cause × ℕ)} (Some (Malformed cause, m)) (Some (Malformed another, n)) → cause ≡ another
same-malformed cause another m n e = same-refusal cause another (same-answer (Malformed cause) (Malformed another) m n e).0

pub one-faulty : (b : List ℕ) (vs ws : List Packet) (start other place place2 : ℕ) (cause another : Cause) → Faulty vs b start place cause → Faulty ws b other place2 another →
    (vs ≡ ws) × (start ≡ other) × (place ≡ place2) × (cause ≡ another)
one-faulty b vs ws start other place place2 cause another is also =
    let walk = one-walk is.spelled also.spelled is.rest also.rest (Ends-bad is.rest place cause is.bad) (Ends-bad also.rest place2 another also.bad) (sym is.whole ∙ also.whole) in
    let same = one-fault is.rest place place2 cause another is.bad (subst (λ (r : List ℕ). Bad r place2 another) (sym walk.rests) also.bad) in
    (walk.values, sym is.size ∙ walk.sizes ∙ also.size, is.bad.at ∙ ap place_of same ∙ sym also.bad.at, same)

none-some : (b : List ℕ) (d : Decoded Cause) (n : ℕ) → first b ≡ None → first b ≡ Some (d, n) → ⊥
none-some b d n nothing front = absurd (cc (sym nothing ∙ front))

pub never-both : (b : List ℕ) (vs ws : List Packet) (rest : List ℕ) (start place : ℕ) (cause : Cause) → Stream vs b rest → Faulty ws b start place cause → ⊥
never-both b vs ws rest start place cause is also =
    let walk = one-walk is.spelled also.spelled rest also.rest (Ends-unfinished rest is.unfinished) (Ends-bad also.rest place cause also.bad) (sym is.whole ∙ also.whole) in
    let bad = first-bad also.rest place cause also.bad in
    none-some also.rest (Malformed cause) bad.0 (ap first (sym walk.rests) ∙ first-unfinished rest is.unfinished) bad.1

-- What stands in front of a stream or a faulty list, and so the whole.
pub Stream-front : {v : Packet} {vs : List Packet} {b more rest : List ℕ} → Spells v b → Stream vs more rest → Stream (v ∷ vs) (b ++ more) rest
Stream-front {b = b} {rest = rest} is stream = record {
  front = b ++ stream.front;
  spelled = Spelled_one is stream.spelled;
  whole = ap (λ m. b ++ m) stream.whole ∙ sym (append_assoc b stream.front rest);
  unfinished = stream.unfinished;
}

pub Faulty-front : {v : Packet} {vs : List Packet} {b more : List ℕ} {start place : ℕ} {cause : Cause} → Spells v b → Faulty vs more start place cause → Faulty (v ∷ vs) (b ++ more) (length b + start) place cause
Faulty-front {b = b} is faulty = record {
  front = b ++ faulty.front;
  rest = faulty.rest;
  spelled = Spelled_one is faulty.spelled;
  whole = ap (λ m. b ++ m) faulty.whole ∙ sym (append_assoc b faulty.front faulty.rest);
  size = length-append b faulty.front ∙ ap (λ n. length b + n) faulty.size;
  bad = faulty.bad;
}

IsStream-front : {v : Packet} {b more : List ℕ} → Spells v b → IsStream more → IsStream (b ++ more)
IsStream-front {v = v} is whole = record { values = v ∷ whole.values; rest = whole.rest; is = Stream-front is whole.is }

IsFaulty-front : {v : Packet} {b more : List ℕ} → Spells v b → IsFaulty more → IsFaulty (b ++ more)
IsFaulty-front {v = v} {b = b} is faulty = record {
  values = v ∷ faulty.values;
  start = length b + faulty.start;
  place = faulty.place;
  cause = faulty.cause;
  is = Faulty-front is faulty.is;
}

-- no packet is taken
pub Stream-none : (b : List ℕ) → Unfinished b → Stream [] b b
Stream-none b is = record { front = []; spelled = Spelled_none; whole = refl; unfinished = is }

pub Faulty-none : (b : List ℕ) (place : ℕ) (cause : Cause) → Bad b place cause → Faulty [] b 0 place cause
Faulty-none b place cause is = record { front = []; rest = b; spelled = Spelled_none; whole = refl; size = refl; bad = is }

IsFaulty-none : (b : List ℕ) (cause : Cause) → 20 ≤ length b → Refuses b cause → IsFaulty b
IsFaulty-none b cause long refused =
    record { values = []; start = 0; place = place_of cause; cause = cause; is = Faulty-none b (place_of cause) cause (record { long = long; at = refl; refused = refused }) }

-- What stands in front of a list that is one of both makes no difference.
both-front : (v : Packet) (b more : List ℕ) → Spells v b → IsStream more ⊎ IsFaulty more → IsStream (b ++ more) ⊎ IsFaulty (b ++ more)
both-front v b more is (inl stream) = inl (IsStream-front is stream)
both-front v b more is (inr faulty) = inr (IsFaulty-front is faulty)

whole-step : (b : List ℕ) (late : Option Cause) → AreBytes b → 20 ≤ length b → early_refusal b ≡ None → 20 + len_at b ≤ length b → late_refusal b ≡ late →
    (IsStream (drop (20 + len_at b) b) ⊎ IsFaulty (drop (20 + len_at b) b)) → IsStream b ⊎ IsFaulty b
whole-step b None bytes long early whole late behind =
    let n : ℕ = 20 + len_at b in
    subst (λ (x : List ℕ). IsStream x ⊎ IsFaulty x) (take-append-drop n b)
    (both-front (value_in b) (take n b) (drop n b) (Spells-value_in b bytes whole early late) behind)
whole-step b (Some cause) bytes long early whole late behind = inr (IsFaulty-none b cause long (inr (early, whole, late)))

step : (b : List ℕ) → AreBytes b → Stage b → ((n : ℕ) → 0 < n → n ≤ length b → IsStream (drop n b) ⊎ IsFaulty (drop n b)) → IsStream b ⊎ IsFaulty b
step b bytes (Early cause long early) behind = inr (IsFaulty-none b cause long (inl early))
step b bytes (Whole long early whole) behind = whole-step b (late_refusal b) bytes long early whole refl (behind (20 + len_at b) (omega arith) whole)
step b bytes (Waiting is) behind = inl (record { values = []; rest = b; is = Stream-none b is })

walk : (fuel : ℕ) (b : List ℕ) → AreBytes b → length b < fuel → IsStream b ⊎ IsFaulty b
walk zero b bytes short = absurd (omega (arith, short))
walk (suc fuel) b bytes short =
    step b bytes (stage-of b) (λ n some within. walk fuel (drop n b) (AreBytes-drop n b bytes) (omega (arith, length-drop n b, some, within, short)))

pub every-list : (b : List ℕ) → AreBytes b → IsStream b ⊎ IsFaulty b
every-list b bytes = walk (suc (length b)) b bytes (omega arith)

-- What `first` tells of the bytes that are left.
whole-front : (b : List ℕ) (late : Option Cause) (v : Packet) (n : ℕ) → AreBytes b → early_refusal b ≡ None → 20 + len_at b ≤ length b → late_refusal b ≡ late →
    ◌≡◌ {A = Option (Decoded Cause × ℕ)} (Some (judged b late, 20 + len_at b)) (Some (Valid v, n)) → Spells v (take n b)
whole-front b None v n bytes early whole late e =
    let same = same-front (value_in b) v (20 + len_at b) n e in
    subst (λ (m : ℕ). Spells v (take m b)) same.1
    (subst (λ (w : Packet). Spells w (take (20 + len_at b) b)) same.0 (Spells-value_in b bytes whole early late))
whole-front b (Some cause) v n bytes early whole late e = not-valid v cause (same-answer (Malformed cause) (Valid v) (20 + len_at b) n e).0

taken-at : (b : List ℕ) (v : Packet) (n : ℕ) → AreBytes b → Stage b → first b ≡ Some (Valid v, n) → Spells v (take n b)
taken-at b v n bytes (Early cause long early) front = not-valid v cause (same-answer (Malformed cause) (Valid v) 20 n (sym (first-early b cause long early) ∙ front)).0
taken-at b v n bytes (Whole long early whole) front = whole-front b (late_refusal b) v n bytes early whole refl (sym (first-whole b long early whole) ∙ front)
taken-at b v n bytes (Waiting is) front = absurd (cc (sym (first-unfinished b is) ∙ front))

pub first-taken : (b : List ℕ) (v : Packet) (n : ℕ) → AreBytes b → first b ≡ Some (Valid v, n) → Spells v (take n b)
first-taken b v n bytes front = taken-at b v n bytes (stage-of b) front

whole-cause : (b : List ℕ) (late : Option Cause) (cause : Cause) (n : ℕ) → ◌≡◌ {A = Option (Decoded Cause × ℕ)} (Some (judged b late, 20 + len_at b)) (Some (Malformed cause, n)) → late ≡ Some cause
whole-cause b None cause n e = not-valid (value_in b) cause (sym (same-answer (Valid (value_in b)) (Malformed cause) (20 + len_at b) n e).0)
whole-cause b (Some other) cause n e = ap Some (same-malformed other cause (20 + len_at b) n e)

refused-at : (b : List ℕ) (cause : Cause) (n : ℕ) → Stage b → first b ≡ Some (Malformed cause, n) → Bad b (place_of cause) cause
refused-at b cause n (Early other long early) front =
    let e = same-malformed other cause 20 n (sym (first-early b other long early) ∙ front) in
    record { long = long; at = refl; refused = inl (early ∙ ap Some e) }
refused-at b cause n (Whole long early whole) front =
    record { long = long; at = refl; refused = inr (early, whole, whole-cause b (late_refusal b) cause n (sym (first-whole b long early whole) ∙ front)) }
refused-at b cause n (Waiting is) front = absurd (cc (sym (first-unfinished b is) ∙ front))

pub first-refused : (b : List ℕ) (cause : Cause) (n : ℕ) → first b ≡ Some (Malformed cause, n) → Bad b (place_of cause) cause
first-refused b cause n front = refused-at b cause n (stage-of b) front

nothing-at : (b : List ℕ) → Stage b → first b ≡ None → Unfinished b
nothing-at b (Early cause long early) front = absurd (cc (sym (first-early b cause long early) ∙ front))
nothing-at b (Whole long early whole) front = absurd (cc (sym (first-whole b long early whole) ∙ front))
nothing-at b (Waiting is) front = is

pub first-nothing : (b : List ℕ) → first b ≡ None → Unfinished b
first-nothing b front = nothing-at b (stage-of b) front

-- A packet that is taken comes behind those that were.
one-more : {vs : List Packet} {b : List ℕ} → Spelled vs b → (v : Packet) (more : List ℕ) → Spells v more → Spelled (vs ++ (v ∷ [])) (b ++ more)
one-more Spelled_none v more is = subst (λ (x : List ℕ). Spelled (v ∷ []) x) (append-nil more) (Spelled_one is Spelled_none)
one-more (Spelled_one {v = w} {vs = ws} {b = b} {more = others} also rest) v more is =
    subst (λ (x : List ℕ). Spelled (w ∷ (ws ++ (v ∷ []))) x) (sym (append_assoc b others more)) (Spelled_one also (one-more rest v more is))

pub Spelled-more : (vs : List Packet) (b : List ℕ) (v : Packet) (more : List ℕ) → Spelled vs b → Spells v more → Spelled (vs ++ (v ∷ [])) (b ++ more)
Spelled-more vs b v more are is = one-more are v more is
