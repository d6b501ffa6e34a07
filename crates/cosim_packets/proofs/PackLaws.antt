-- How packed lines add up, and that a text is packed in one way.
use Rattle.std.proofs.Common.{◌≡◌, ℕ, suc, ◌+◌, List, [], ◌∷◌, ◌++◌, length, refl, sym, ap, ◌∙◌, arith, subst}
use Rattle.std.proofs.lemmas.List.{append_assoc, append-nil, length-append}
use Rattle.cosim_model.specs.Packets.{Packet}
use Rattle.rp_packet.specs.Spelling.{packet_bytes}
use Rattle.rp_text.specs.Texts.{packet_text, IsPackable}
use Rattle.rp_text.proofs.Unique.{one-line}
use Rattle.cos_text.specs.Lines.{lines}
use Rattle.outcomes.specs.Outcomes.{Outcome, Refuses, Works}
use Rattle.cosim_packets.specs.declared.refusals.PackRefusal.{PackRefusal}
use Rattle.cosim_packets.specs.declared.refusals.PackRefusal.TheVariants.{Line}
use Rattle.cosim_packets.specs.Packed.{Packs, Packs_none, Packs_one, IsNoPacket, IsFirstRefused, Packed, AllLines, FirstRefused, NoText}
use Rattle.cosim_packets.specs.Packing.{AddsPacket}

-- one packet more
packs-only : (v : Packet) → IsPackable v → Packs (packet_text v ∷ []) (packet_bytes v)
packs-only v packable = subst (λ (b : List ℕ). Packs (packet_text v ∷ []) b) (append-nil (packet_bytes v)) (Packs_one v packable Packs_none)

pub packs-more : {ls : List (List ℕ)} {bytes : List ℕ} → Packs ls bytes → (v : Packet) → IsPackable v → Packs (ls ++ (packet_text v ∷ [])) (bytes ++ packet_bytes v)
packs-more Packs_none v packable = packs-only v packable
packs-more (Packs_one w {ls = ls} {bytes = bytes} first others) v packable =
    subst (λ (b : List ℕ). Packs (packet_text w ∷ (ls ++ (packet_text v ∷ []))) b) (sym (append_assoc (packet_bytes w) bytes (packet_bytes v)))
    (Packs_one w first (packs-more others v packable))

-- The lines up to a place are packed.
pub record PackedTo (all left : List (List ℕ)) (number : ℕ) (bytes : List ℕ) : Type 0 where
  pub front : List (List ℕ)
  pub whole : all ≡ front ++ left
  pub place : number ≡ length front
  pub packs : Packs front bytes

pub packed-start : (all : List (List ℕ)) (bytes : List ℕ) → bytes ≡ [] → PackedTo all all 0 bytes
packed-start all bytes none = record { front = []; whole = refl; place = refl; packs = subst (λ (b : List ℕ). Packs [] b) (sym none) Packs_none }

pub packed-more : (all before after : List (List ℕ)) (line : List ℕ) (number : ℕ) (old new : List ℕ) → before ≡ line ∷ after → PackedTo all before number old → AddsPacket line old new → PackedTo all after (number + 1) new
packed-more all before after line number old new cut done adds = record {
  front = done.front ++ (line ∷ []);
  whole = done.whole ∙ ap (λ (x : List (List ℕ)). done.front ++ x) cut ∙ sym (append_assoc done.front (line ∷ []) after);
  place = let place = done.place in omega (arith, length-append done.front (line ∷ []));
  packs = subst (λ (b : List ℕ). Packs (done.front ++ (line ∷ [])) b) (sym adds.bytes)
      (subst (λ (x : List ℕ). Packs (done.front ++ (x ∷ [])) (old ++ packet_bytes adds.value)) (sym adds.text) (packs-more done.packs adds.value adds.packable));
}

pub packed-all : (all left : List (List ℕ)) (number : ℕ) (bytes : List ℕ) → left ≡ [] → PackedTo all left number bytes → Packs all bytes
packed-all all left number bytes none done =
    subst (λ (x : List (List ℕ)). Packs x bytes) (sym (done.whole ∙ ap (λ (x : List (List ℕ)). done.front ++ x) none ∙ append-nil done.front)) done.packs

pub refused-at : (all before after : List (List ℕ)) (line : List ℕ) (number : ℕ) (bytes : List ℕ) → before ≡ line ∷ after → PackedTo all before number bytes → IsNoPacket line → IsFirstRefused all (number + 1)
refused-at all before after line number bytes cut done refused = record {
  front = done.front;
  line = line;
  back = after;
  bytes = bytes;
  whole = done.whole ∙ ap (λ (x : List (List ℕ)). done.front ++ x) cut;
  packs = done.packs;
  refused = refused;
  place = ap (λ n. n + 1) done.place;
}

-- The same lines are packed into the same bytes,
heads : (x y : List ℕ) (xs ys : List (List ℕ)) → x ∷ xs ≡ y ∷ ys → (x ≡ y) × (xs ≡ ys)
heads x y xs ys e = (cc (e), cc (e))

pub one-packs : {ls ms : List (List ℕ)} {b c : List ℕ} → Packs ls b → Packs ms c → ls ≡ ms → b ≡ c
one-packs Packs_none Packs_none same = refl
one-packs Packs_none (Packs_one w second others) same = cc (same)
one-packs (Packs_one v first others) Packs_none same = cc (same)
one-packs (Packs_one v {ls = ls} {bytes = b} first others) (Packs_one w {ls = ms} {bytes = c} second more) same =
    let parts = heads (packet_text v) (packet_text w) ls ms same in
    ap (λ (x : Packet). packet_bytes x ++ b) (one-line v w first second parts.0) ∙ ap (λ (x : List ℕ). packet_bytes w ++ x) (one-packs others more parts.1)

-- and not where a line is refused,
no-refused : {ls : List (List ℕ)} {b : List ℕ} → Packs ls b → (front : List (List ℕ)) (line : List ℕ) (back : List (List ℕ)) → ls ≡ front ++ (line ∷ back) → IsNoPacket line → ⊥
no-refused Packs_none [] line back whole refused = cc (whole)
no-refused Packs_none (x ∷ front) line back whole refused = cc (whole)
no-refused (Packs_one v {ls = ls} first others) [] line back whole refused = refused.never v first (sym (heads (packet_text v) line ls back whole).0)
no-refused (Packs_one v {ls = ls} first others) (x ∷ front) line back whole refused = no-refused others front line back (heads (packet_text v) x ls (front ++ (line ∷ back)) whole).1 refused

-- of which one is the first.
same-place : {front other : List (List ℕ)} {b c : List ℕ} → Packs front b → Packs other c → (line next : List ℕ) (back more : List (List ℕ)) → IsNoPacket line → IsNoPacket next → front ++ (line ∷ back) ≡ other ++ (next ∷ more) → length front ≡ length other
same-place Packs_none Packs_none line next back more refused too same = refl
same-place Packs_none (Packs_one w {ls = ms} second others) line next back more refused too same =
    absurd (refused.never w second (heads line (packet_text w) back (ms ++ (next ∷ more)) same).0)
same-place (Packs_one v {ls = ls} first others) Packs_none line next back more refused too same =
    absurd (too.never v first (sym (heads (packet_text v) next (ls ++ (line ∷ back)) more same).0))
same-place (Packs_one v {ls = ls} first others) (Packs_one w {ls = ms} second rest) line next back more refused too same =
    ap suc (same-place others rest line next back more refused too (heads (packet_text v) (packet_text w) (ls ++ (line ∷ back)) (ms ++ (next ∷ more)) same).1)

one-refused-line : (ls : List (List ℕ)) (m n : ℕ) → IsFirstRefused ls m → IsFirstRefused ls n → m ≡ n
one-refused-line ls m n x y =
    x.place ∙ ap (λ k. k + 1) (same-place x.packs y.packs x.line y.line x.back y.back x.refused y.refused (sym x.whole ∙ y.whole)) ∙ sym y.place

-- A file comes to one outcome.
pub one-packed : (b : List ℕ) (o p : Outcome PackRefusal) → Packed b o → Packed b p → o ≡ p
one-packed b _ _ (AllLines text packs) (AllLines too also) = ap (λ bytes. Works [] bytes) (one-packs packs also refl)
one-packed b _ _ (AllLines text packs) (FirstRefused too y) = absurd (no-refused packs y.front y.line y.back y.whole y.refused)
one-packed b _ _ (AllLines text packs) (NoText never) = absurd (never text)
one-packed b _ _ (FirstRefused text x) (AllLines too packs) = absurd (no-refused packs x.front x.line x.back x.whole x.refused)
one-packed b _ _ (FirstRefused {number = m} text x) (FirstRefused {number = n} too y) = ap (λ k. Refuses (Line k) []) (one-refused-line (lines b) m n x y)
one-packed b _ _ (FirstRefused text x) (NoText never) = absurd (never text)
one-packed b _ _ (NoText never) (AllLines text packs) = absurd (never text)
one-packed b _ _ (NoText never) (FirstRefused text x) = absurd (never text)
one-packed b _ _ (NoText never) (NoText too) = refl
