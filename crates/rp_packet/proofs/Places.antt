-- Where a stream is malformed in the words of all codecs, it is a faulty list, and the other way round.
use Rattle.std.proofs.Common.{◌≡◌, ℕ, ◌+◌, ◌≤◌, List, [], ◌∷◌, ◌++◌, length, take, drop, refl, sym, ap, ◌∙◌, subst}
use Rattle.std.proofs.Math.Seq.{drop-append_seam}
use Rattle.std.proofs.lemmas.List.{append_assoc, drop-drop, length-append, length-take-le, take-append-drop}
use Rattle.cosim_model.specs.Packets.{Packet}
use Rattle.cosim_model.specs.Packets.Decoded.{Valid}
use Rattle.cosim_model.specs.Streams.{AreFirst, IsMalformedAt}
use Rattle.rp_header.specs.Numbers.{AreBytes}
use Rattle.rp_header.specs.NumberLaws.{AreBytes-drop}
use Rattle.rp_packet.specs.declared.fault.Cause.{Cause}
use Rattle.rp_packet.specs.Refusals.{place_of, first}
use Rattle.rp_packet.specs.Streams.{packet_codec, Spelled, Spelled_none, Spelled_one, Faulty}
use Rattle.rp_packet.specs.StreamLaws.{first-spelled, first-decided}
use Rattle.rp_packet.specs.WalkLaws.{first-taken, first-refused, first-bad}

-- what stands in front of the rest
record Fronts (ps : List Packet) (n : ℕ) (x : List ℕ) : Type 0 where
  front : List ℕ
  spelled : Spelled ps front
  whole : x ≡ front ++ drop n x
  size : length front ≡ n

fronts : (ps : List Packet) (n : ℕ) (x : List ℕ) → AreBytes x → AreFirst packet_codec ps n x → Fronts ps n x
fronts [] n x bytes are = record { front = []; spelled = Spelled_none; whole = ap (λ i. drop i x) (sym are); size = sym are }
fronts (p ∷ ps) n x bytes are =
    let size : ℕ = are.0 in
    let rest = fronts ps are.1 (drop size x) (AreBytes-drop size x bytes) are.4 in
    let inside : size ≤ length x = (first-decided x [] (Valid p, size) are.2).1 in
    let next : drop are.1 (drop size x) ≡ drop n x = drop-drop are.1 size x ∙ ap (λ i. drop i x) (sym are.3) in
    record {
      front = take size x ++ rest.front;
      spelled = Spelled_one (first-taken x p size bytes are.2) rest.spelled;
      whole = sym (take-append-drop size x) ∙ ap (λ z. take size x ++ z) (rest.whole ∙ ap (λ z. rest.front ++ z) next) ∙ sym (append_assoc (take size x) rest.front (drop n x));
      size = length-append (take size x) rest.front ∙ ap (λ i. i + length rest.front) (length-take-le size x inside) ∙ ap (λ i. size + i) rest.size ∙ sym are.3;
    }

pub malformed-faulty : (b : List ℕ) (start : ℕ) (cause : Cause) → AreBytes b → (is : IsMalformedAt packet_codec b start cause) → Faulty is.packets b start (place_of cause) cause
malformed-faulty b start cause bytes is =
    let there = fronts is.packets start b bytes is.before in
    record { front = there.front; rest = drop start b; spelled = there.spelled; whole = there.whole; size = there.size; bad = first-refused (drop start b) cause is.size is.malformed }

are-first : {vs : List Packet} {front : List ℕ} → Spelled vs front → (rest : List ℕ) → AreFirst packet_codec vs (length front) (front ++ rest)
are-first Spelled_none rest = refl
are-first (Spelled_one {v = v} {vs = vs} {b = b} {more = more} is others) rest = (
  length b,
  length more,
  ap first (append_assoc b more rest) ∙ first-spelled v b (more ++ rest) is,
  length-append b more,
  subst (λ z. AreFirst packet_codec vs (length more) z) (sym (ap (drop (length b)) (append_assoc b more rest) ∙ drop-append_seam b (more ++ rest))) (are-first others rest),
)

pub faulty-malformed : (vs : List Packet) (b : List ℕ) (start place : ℕ) (cause : Cause) → Faulty vs b start place cause → (place ≡ place_of cause) × (is : IsMalformedAt packet_codec b start cause) × (is.packets ≡ vs)
faulty-malformed vs b start place cause faulty =
    let front : List ℕ = faulty.front in
    let bad = first-bad faulty.rest place cause faulty.bad in
    let size : length front ≡ start = faulty.size in
    let rest : drop start b ≡ faulty.rest = ap (λ n. drop n b) (sym size) ∙ ap (drop (length front)) faulty.whole ∙ drop-append_seam front faulty.rest in (
      faulty.bad.at,
      record {
        packets = vs;
        before = subst (λ n. AreFirst packet_codec vs n b) size (subst (λ z. AreFirst packet_codec vs (length front) z) (sym faulty.whole) (are-first faulty.spelled faulty.rest));
        size = bad.0;
        malformed = ap first rest ∙ bad.1;
      },
      refl,
    )
