-- How the lines of packets add up to those of a stream, and that a stream has one text.
use Rattle.std.proofs.Common.{◌≡◌, inl, ℕ, ◌+◌, ◌<◌, ◌≤◌, Bool, true, false, List, [], ◌∷◌, ◌++◌, length, take, drop, refl, sym, ap, ◌∙◌, arith, subst}
use Rattle.std.proofs.Math.Seq.{take-append_seam, drop-append_seam, take-add, take-length}
use Rattle.std.proofs.lemmas.List.{append_assoc, append-nil, length-append, length-take, length-drop, take-append-drop}
use Rattle.std.specs.Prelude.{Err, IsTrue, ◌↔◌, not}
use Rattle.cosim_model.specs.Packets.{Packet, Decoded}
use Rattle.cosim_model.specs.Packets.Decoded.{Valid}
use Rattle.rp_packet.specs.declared.fault.Cause.{Cause}
use Rattle.rp_packet.specs.declared.fault.PacketFault.{PacketFault}
use Rattle.rp_packet.specs.Spelling.{Spells, Canonical}
use Rattle.rp_packet.specs.Refusals.{first}
use Rattle.rp_packet.specs.declared.fault.ReadFault.{ReadFault}
use Rattle.rp_packet.specs.declared.fault.ReadFault.TheVariants as read
use Rattle.rp_packet.specs.Reading.{IsOnePacket, Judges}
use Rattle.rp_packet.specs.ReadingLaws.{Begins, Begins-Spells, length-Spells}
use Rattle.rp_packet.specs.Streams.{Spelled, Spelled_none, Spelled_one, Stream}
use Rattle.rp_packet.specs.StreamLaws.{same-some, first-spelled}
use Rattle.rp_packet.specs.WalkLaws.{Stream-front, Stream-none, Faulty-none, one-stream, one-faulty, never-both}
use Rattle.rp_text.specs.Texts.{line_of}
use Rattle.outcomes.specs.declared.failures.JudgeFault.{JudgeFault}
use Rattle.outcomes.specs.declared.failures.JudgeFault.TheVariants as list
use Rattle.outcomes.specs.Outcomes.{Outcome, Refuses, Works}
use Rattle.cosim_packets.specs.declared.refusals.ShowRefusal.{ShowRefusal}
use Rattle.cosim_packets.specs.declared.refusals.ShowRefusal.TheVariants as refusal
use Rattle.cosim_packets.specs.Shown.{IsLoose, Listed, Listed_none, Listed_one, IsWhole, IsCutOff, IsRefused, Shown, Whole, CutOff, Refused}
use Rattle.cosim_packets.specs.Listing.{AddsLine, Adds, Stops, ListsOne, EndsAt, Lists}

pub listed-spelled : {vs : List Packet} {b text : List ℕ} → Listed vs b text → Spelled vs b
listed-spelled Listed_none = Spelled_none
listed-spelled (Listed_one v loose is marked others) = Spelled_one is (listed-spelled others)

-- one line more
listed-one : (v : Packet) (loose : Bool) (b : List ℕ) → Spells v b → IsLoose v b loose → Listed (v ∷ []) b (line_of v loose)
listed-one v loose b is marked =
    subst (λ (t : List ℕ). Listed (v ∷ []) b t) (append-nil (line_of v loose))
    (subst (λ (x : List ℕ). Listed (v ∷ []) x (line_of v loose ++ [])) (append-nil b) (Listed_one v loose is marked Listed_none))

pub listed-more : {vs : List Packet} {b text : List ℕ} → Listed vs b text → (v : Packet) (loose : Bool) (c : List ℕ) → Spells v c → IsLoose v c loose → Listed (vs ++ (v ∷ [])) (b ++ c) (text ++ line_of v loose)
listed-more Listed_none v loose c is marked = listed-one v loose c is marked
listed-more (Listed_one w l {b = b} {vs = ws} {more = more} {text = text} first marked others) v loose c is too =
    subst (λ (t : List ℕ). Listed (w ∷ (ws ++ (v ∷ []))) ((b ++ more) ++ c) t) (sym (append_assoc (line_of w l) text (line_of v loose)))
    (subst (λ (x : List ℕ). Listed (w ∷ (ws ++ (v ∷ []))) x (line_of w l ++ (text ++ line_of v loose))) (sym (append_assoc b more c))
    (Listed_one w l first marked (listed-more others v loose c is too)))

-- how a packet that was judged is marked
marks : (v : Packet) (b : List ℕ) (t : Bool) → (IsTrue t ↔ Canonical v b) → IsLoose v b (not t)
marks v b true judged = judged.0 refl
marks v b false judged = λ canonical. absurd (cc (judged.1 canonical))

pub adds-line : (v : Packet) (b old new : List ℕ) (t : Bool) → (IsTrue t ↔ Canonical v b) → new ≡ old ++ line_of v (not t) → AddsLine v b old new
adds-line v b old new t judged is = record { loose = not t; marked = marks v b t judged; text = is }

-- what spells a packet is one packet, and isn't refused
pub spells-one : (v : Packet) (b : List ℕ) → Spells v b → IsOnePacket b
spells-one v b is =
    let long = length-Spells v b is in
    let begins = subst (λ (x : List ℕ). Begins v (length b) x) (append-nil b) (Begins-Spells v b [] is) in
    (omega (arith, long), sym begins.len_is)

pub spells-judged : (v : Packet) (b : List ℕ) (e : ReadFault) → Spells v b → Judges b (Err e) → ⊥
spells-judged v b (read.Malformed f) is judged =
    let short : 0 < 20 = omega arith in
    let stream : Stream (v ∷ []) b [] = subst (λ (x : List ℕ). Stream (v ∷ []) x []) (append-nil b) (Stream-front is (Stream-none [] (inl short))) in
    never-both b (v ∷ []) [] [] 0 f.place f.cause stream (Faulty-none b f.place f.cause judged.1)
spells-judged v b read.NoMemory is judged = judged

-- Lines of the packets up to a place, and so of one more.
pub record ListedTo (bytes : List ℕ) (at : ℕ) (text : List ℕ) : Type 0 where
  pub values : List Packet
  pub within : at ≤ length bytes
  pub lines : Listed values (take at bytes) text

pub listed-start : (bytes text : List ℕ) → text ≡ [] → ListedTo bytes 0 text
listed-start bytes text none = record { values = []; within = omega arith; lines = subst (λ (t : List ℕ). Listed [] [] t) (sym none) Listed_none }

pub listed-next : (bytes rest old new : List ℕ) (at size : ℕ) → rest ≡ drop at bytes → ListedTo bytes at old → Adds rest size old new → ListedTo bytes (at + size) new
listed-next bytes rest old new at size there before adds =
    let part : take (at + size) bytes ≡ take at bytes ++ take size rest = take-add at size bytes ∙ ap (λ x. take at bytes ++ take size x) (sym there) in
    let long : length rest + at ≡ length bytes = omega (arith, ap length there, length-drop at bytes, before.within) in
    record {
      values = before.values ++ (adds.value ∷ []);
      within = omega (arith, long, adds.within);
      lines = subst (λ (x : List ℕ). Listed (before.values ++ (adds.value ∷ [])) x new) (sym part)
          (subst (λ (t : List ℕ). Listed (before.values ++ (adds.value ∷ [])) (take at bytes ++ take size rest) t) (sym adds.line.text)
          (listed-more before.lines adds.value adds.line.loose (take size rest) adds.spelled adds.line.marked));
    }

-- a packet has bytes
pub adds-some : (rest old new : List ℕ) (size : ℕ) → Adds rest size old new → 1 ≤ size
adds-some rest old new size adds = let n = length-Spells adds.value (take size rest) adds.spelled in omega (arith, n, length-take size rest)

-- where all is listed
pub listed-all : (bytes text : List ℕ) (at : ℕ) → length bytes ≤ at → ListedTo bytes at text → IsWhole bytes text
listed-all bytes text at end before =
    let n : at ≡ length bytes = omega (arith, end, before.within) in
    let lines : Listed before.values bytes text = subst (λ (x : List ℕ). Listed before.values x text) (ap (λ m. take m bytes) n ∙ take-length bytes) before.lines in
    let short : 0 < 20 = omega arith in
    record {
      values = before.values;
      stream = record { front = bytes; spelled = listed-spelled lines; whole = sym (append-nil bytes); unfinished = inl short };
      lines = lines;
    }

-- where it stops
listed-until : (bytes rest old new : List ℕ) (at : ℕ) (fault : ShowRefusal) → rest ≡ drop at bytes → at < length bytes → ListedTo bytes at old → Stops rest at old new fault → EndsAt bytes new fault
listed-until bytes rest old new at (refusal.Truncated start held) there more before (same, begins, holds, unfinished) =
    let whole : bytes ≡ take at bytes ++ rest = sym (take-append-drop at bytes) ∙ ap (λ x. take at bytes ++ x) (sym there) in
    let size : length (take at bytes) ≡ at = omega (arith, length-take at bytes, more) in
    record {
      values = before.values;
      rest = rest;
      stream = record { front = take at bytes; spelled = listed-spelled before.lines; whole = whole; unfinished = unfinished };
      lines = subst (λ (t : List ℕ). Listed before.values (take at bytes) t) (sym same) before.lines;
      some = omega (arith, ap length there, length-drop at bytes, more);
      at = begins ∙ sym size;
      there = holds;
    }
listed-until bytes rest old new at (refusal.Malformed fault) there more before (same, begins, bad) =
    let whole : bytes ≡ take at bytes ++ rest = sym (take-append-drop at bytes) ∙ ap (λ x. take at bytes ++ x) (sym there) in
    let size : length (take at bytes) ≡ at = omega (arith, length-take at bytes, more) in
    record {
      values = before.values;
      faulty = record { front = take at bytes; rest = rest; spelled = listed-spelled before.lines; whole = whole; size = size ∙ sym begins; bad = bad };
      lines = subst (λ (t : List ℕ). Listed before.values (take at bytes) t) (sym same) before.lines;
    }

pub lists-until : (bytes rest old new : List ℕ) (at : ℕ) (fault : JudgeFault ShowRefusal) → rest ≡ drop at bytes → at < length bytes → ListedTo bytes at old → ListsOne rest at old new (Err fault) → Lists bytes new (Err fault)
lists-until bytes rest old new at (list.Refused fault) there more before stops = listed-until bytes rest old new at fault there more before stops
lists-until bytes rest old new at list.NoMemory there more before stops = tt

-- The same bytes have the same text.
same-value : (v w : Packet) → ◌≡◌ {A = Decoded Cause} (Valid v) (Valid w) → v ≡ w
same-value v w e = cc

same-front : (v w : Packet) (m n : ℕ) → ◌≡◌ {A = Decoded Cause × ℕ} (Valid v, m) (Valid w, n) → (v ≡ w) × (m ≡ n)
same-front v w m n e = (same-value v w (ap (λ p. p.0) e), ap (λ p. p.1) e)

same-mark : (v : Packet) (b : List ℕ) (l m : Bool) → IsLoose v b l → IsLoose v b m → l ≡ m
same-mark v b true true first then = refl
same-mark v b false false first then = refl
same-mark v b true false first then = absurd (first then)
same-mark v b false true first then = absurd (then first)

same-parts : (a c x y : List ℕ) → a ++ x ≡ c ++ y → length a ≡ length c → (a ≡ c) × (x ≡ y)
same-parts a c x y whole size = (
  sym (take-append_seam a x) ∙ ap (take (length a)) whole ∙ ap (λ n. take n (c ++ y)) size ∙ take-append_seam c y,
  sym (drop-append_seam a x) ∙ ap (drop (length a)) whole ∙ ap (λ n. drop n (c ++ y)) size ∙ drop-append_seam c y,
)

not-empty : (v : Packet) (b more : List ℕ) → Spells v b → [] ≡ b ++ more → ⊥
not-empty v b more is none = let n = length-Spells v b is in absurd (omega (arith, n, ap length none, length-append b more))

pub one-text : {vs ws : List Packet} {a c t u : List ℕ} → Listed vs a t → Listed ws c u → a ≡ c → t ≡ u
one-text Listed_none Listed_none same = refl
one-text Listed_none (Listed_one w l {b = c} {more = more} is marked others) same = absurd (not-empty w c more is same)
one-text (Listed_one v l {b = b} {more = more} is marked others) Listed_none same = absurd (not-empty v b more is (sym same))
one-text (Listed_one v l {b = b} {more = more} {text = t} is marked others) (Listed_one w m {b = c} {more = rest} {text = u} too also then) same =
    let one = same-some _ _ (sym (first-spelled v b more is) ∙ ap first same ∙ first-spelled w c rest too) in
    let front = same-front v w (length b) (length c) one in
    let parts = same-parts b c more rest same front.1 in
    let there : IsLoose w c l = subst (λ (x : List ℕ). IsLoose w x l) parts.0 (subst (λ (x : Packet). IsLoose x b l) front.0 marked) in
    let mark = same-mark w c l m there also in
    ap (λ x. line_of x l ++ t) front.0 ∙ ap (λ x. line_of w x ++ t) mark ∙ ap (λ x. line_of w m ++ x) (one-text others then parts.1)

front-is : (b a c x y : List ℕ) → b ≡ a ++ x → b ≡ c ++ y → length a ≡ length c → a ≡ c
front-is b a c x y one two size = (same-parts a c x y (sym one ∙ two) size).0

stream-front : (b : List ℕ) (vs ws : List Packet) (x y : List ℕ) (s : Stream vs b x) (r : Stream ws b y) → x ≡ y → s.front ≡ r.front
stream-front b vs ws x y s r same =
    front-is b s.front r.front x y s.whole r.whole (omega (arith, ap length s.whole, ap length r.whole, length-append s.front x, length-append r.front y, ap length same))

same-fault : (f g : PacketFault) → f.start ≡ g.start → f.place ≡ g.place → f.cause ≡ g.cause → f ≡ g
same-fault f g start place cause =
    ap (λ x. record { start = x; place = f.place; cause = f.cause }) start
    ∙ ap (λ x. record { start = g.start; place = x; cause = f.cause }) place
    ∙ ap (λ x. record { start = g.start; place = g.place; cause = x }) cause

one-whole : (b t u : List ℕ) → IsWhole b t → IsWhole b u → t ≡ u
one-whole b t u x y = one-text x.lines y.lines (stream-front b x.values y.values [] [] x.stream y.stream refl)

not-whole : (b t u : List ℕ) (start held : ℕ) → IsWhole b t → IsCutOff b start held u → ⊥
not-whole b t u start held x y = let same = (one-stream b x.values y.values [] y.rest x.stream y.stream).1 in absurd (omega (arith, ap length same, y.some))

one-cut : (b t u : List ℕ) (start held other more : ℕ) → IsCutOff b start held t → IsCutOff b other more u → (start ≡ other) × (held ≡ more) × (t ≡ u)
one-cut b t u start held other more x y =
    let same = (one-stream b x.values y.values x.rest y.rest x.stream y.stream).1 in
    let front = stream-front b x.values y.values x.rest y.rest x.stream y.stream same in
    (x.at ∙ ap length front ∙ sym y.at, x.there ∙ ap length same ∙ sym y.there, one-text x.lines y.lines front)

one-refused : (b t u : List ℕ) (f g : PacketFault) → IsRefused b f t → IsRefused b g u → (f ≡ g) × (t ≡ u)
one-refused b t u f g x y =
    let same = one-faulty b x.values y.values f.start g.start f.place g.place f.cause g.cause x.faulty y.faulty in
    let front = front-is b x.faulty.front y.faulty.front x.faulty.rest y.faulty.rest x.faulty.whole y.faulty.whole (x.faulty.size ∙ same.1 ∙ sym y.faulty.size) in
    (same-fault f g same.1 same.2 same.3, one-text x.lines y.lines front)

-- A file comes to one outcome.
pub one-shown : (b : List ℕ) (o p : Outcome ShowRefusal) → Shown b o → Shown b p → o ≡ p
one-shown b _ _ (Whole {text = t} x) (Whole {text = u} y) = ap (λ text. Works [] text) (one-whole b t u x y)
one-shown b _ _ (Whole {text = t} x) (CutOff {start = s} {held = h} {text = u} y) = absurd (not-whole b t u s h x y)
one-shown b _ _ (Whole x) (Refused {fault = f} y) = absurd (never-both b x.values y.values [] f.start f.place f.cause x.stream y.faulty)
one-shown b _ _ (CutOff {start = s} {held = h} {text = t} x) (Whole {text = u} y) = absurd (not-whole b u t s h y x)
one-shown b _ _ (CutOff {start = s} {held = h} {text = t} x) (CutOff {start = r} {held = k} {text = u} y) =
    let same = one-cut b t u s h r k x y in
    ap (λ n. Refuses (refusal.Truncated n h) t) same.0 ∙ ap (λ n. Refuses (refusal.Truncated r n) t) same.1 ∙ ap (Refuses (refusal.Truncated r k)) same.2
one-shown b _ _ (CutOff x) (Refused {fault = f} y) = absurd (never-both b x.values y.values x.rest f.start f.place f.cause x.stream y.faulty)
one-shown b _ _ (Refused {fault = f} x) (Whole y) = absurd (never-both b y.values x.values [] f.start f.place f.cause y.stream x.faulty)
one-shown b _ _ (Refused {fault = f} x) (CutOff y) = absurd (never-both b y.values x.values y.rest f.start f.place f.cause y.stream x.faulty)
one-shown b _ _ (Refused {fault = f} {text = t} x) (Refused {fault = g} {text = u} y) =
    let same = one-refused b t u f g x y in
    ap (λ z. Refuses (refusal.Malformed z) t) same.0 ∙ ap (Refuses (refusal.Malformed g)) same.1
