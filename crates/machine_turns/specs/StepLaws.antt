-- One turn of a machine end: what its answer shows, what it takes, and what it sends.
use Rattle.std.proofs.Common.{◌≡◌, inl, inr, ◌⊎◌, ℕ, zero, suc, ◌+◌, ◌<◌, Bool, true, false, List, [], ◌∷◌, length}
use Rattle.std.proofs.Common.{drop, get_or, set, replicate, refl, sym, ap, ◌∙◌, subst, arith, Result, Ok}
use Rattle.std.specs.Prelude.{Option, Some, None, nat_eq, if◌then◌else◌, option_map, slice_get}
use Rattle.std.proofs.lemmas.Bool.{cases_eq, eq-eqb, eqb-false, eqb-true, lt-ltb, ne_eqb}
use Rattle.std.proofs.lemmas.List.{get_or-set_other, get_or-set_same, length-replicate}
use Rattle.std.proofs.lemmas.Option.{none-some, slice_get_within}
use Rattle.process_network.specs.Network.{Streams, only}
use Rattle.process_network.specs.PacketStar.{hub_after_take, hub_turn_by}
use Rattle.process_network.specs.PacketStar.HubOutlook.{HubHalts}
use Rattle.process_network.specs.Star.{to_leaf}
use Rattle.cosim_model.specs.declared.session.EndFault.{EndFault}
use Rattle.cosim_model.specs.declared.session.EndFault.TheVariants as fault
use Rattle.cosim_model.specs.Packets.{Decoded}
use Rattle.cosim_model.specs.Packets.Decoded.{Malformed}
use Rattle.cosim_model.specs.Parts.{MasterModel}
use Rattle.cosim_model.specs.Streams.{HasTaken}
use Rattle.ends_model.specs.declared.ends.Turn.{Turn}
use Rattle.ends_model.specs.declared.ends.Turn.TheVariants as turn
use Rattle.ends_model.specs.Answers.{answer_by, take_answer, unless_faulty}
use Rattle.ends_model.specs.MachineTurn.{Act, MachineEnd, machine_takes, outlook_of}
use Rattle.ends_model.specs.MachineTurn.Act.{Works, Sends, Awaits, Serves, Marks, Rests, Fails, Lost}
use Rattle.rp_packet.specs.declared.fault.Cause.{Cause}
use Rattle.rp_packet.specs.declared.fault.PacketFault.{PacketFault}
use Rattle.rp_packet.specs.Reading.{fault_at}
use Rattle.rp_packet.specs.Refusals.{first}
use Rattle.rp_packet.specs.Streams.{packet_codec}
use Rattle.rp_framing.specs.Framing.{counted}
use Rattle.end_answers.specs.Faults.{IsPlaced}
use Rattle.machine_core.specs.Machines.{awaited}
use Rattle.machine_turns.specs.declared.fault.PortFault.{PortFault}
use Rattle.machine_turns.specs.Runs.{Taking, machine_alone, only_at}
use Rattle.machine_turns.specs.Ends.{End, IsBlamedAt, Received, core_of, held_at, held_of, port_cause, taken_of}

pub some-is : {A : Type 0} (a b : A) → Some a ≡ Some b → a ≡ b
some-is a b e = cc (e)

pub absent : {A : Type 0} (a : A) → Some a ≡ None → ⊥
absent a e = cc (e)

pub some-not : {A : Type 0} (k : Option A) (a : A) → k ≡ Some a → k ≡ None → ⊥
some-not k a is none = none-some a (sym none ∙ is)

pub there-some : {A : Type 0} (xs : List A) (p : ℕ) → p < length xs → (x : A) × (slice_get xs p ≡ Some x)
there-some [] p within = absurd (omega arith)
there-some (x ∷ xs) zero within = (x, refl)
there-some (x ∷ xs) (suc p) within = there-some xs p (omega arith)

pub zeros : (n p : ℕ) → ◌≡◌ {A = ℕ} (get_or (replicate n 0) p 0) 0
zeros zero p = refl
zeros (suc n) zero = refl
zeros (suc n) (suc p) = zeros n p

pub unfaulty : {M : Type 0} (c : MachineEnd M Cause) → c.fault ≡ None → c ≡ record c { fault = None }
unfaulty c is = ap (λ (f : Option (ℕ × EndFault Cause)). record c { fault = f }) is

-- an end that keeps no fault
pub clear-core : {M : Type 0} (e : End M) → e.kept ≡ None → e.clear.fault ≡ None → core_of e ≡ e.clear
clear-core e kept clear =
    ap (λ (f : Option PortFault). record e.clear { fault = option_map port_cause f }) kept
    ∙ sym (unfaulty e.clear clear)

-- Bytes that are held stand at a port that is there.
pub front-there : {M : Type 0} (e : End M) (p : ℕ) (m : Decoded Cause × ℕ) → first (held_at e p) ≡ Some m
    → p < length e.ports
front-there e p m front = by (slice_get e.ports p) refl
  where
    by : (o : Option Received) → slice_get e.ports p ≡ o → p < length e.ports
    by None at = absurd (none-some m (sym (ap (λ o. first (held_of o)) at) ∙ front))
    by (Some r) at = slice_get_within e.ports p r at

-- Counts of bytes add up.

pub set-adds : (ts : List ℕ) (n q p size : ℕ) → length ts ≡ n → q < n
    → get_or (set ts q (get_or ts q 0 + size)) p 0
    ≡ get_or ts p 0 + get_or (set (replicate n 0) q (get_or (replicate n 0) q 0 + size)) p 0
set-adds ts n q p size long within = by (cases_eq p q)
  where
    by : (p ≡ q) ⊎ (p ≡ q → ⊥) → get_or (set ts q (get_or ts q 0 + size)) p 0
        ≡ get_or ts p 0 + get_or (set (replicate n 0) q (get_or (replicate n 0) q 0 + size)) p 0
    by (inl same) =
        let here = get_or-set_same ts q (get_or ts q 0 + size) 0 (subst (λ m. q < m) (sym long) within) in
        let there = get_or-set_same (replicate n 0) q (get_or (replicate n 0) q 0 + size) 0
        (subst (λ m. q < m) (sym (length-replicate n 0)) within) in
        let none = zeros n q in
        subst (λ i. get_or (set ts q (get_or ts q 0 + size)) i 0
        ≡ get_or ts i 0 + get_or (set (replicate n 0) q (get_or (replicate n 0) q 0 + size)) i 0) (sym same)
        (omega (arith, here, there, none))
    by (inr apart) =
        let here = get_or-set_other ts q p (get_or ts q 0 + size) 0 apart in
        let there = get_or-set_other (replicate n 0) q p (get_or (replicate n 0) q 0 + size) 0 apart in
        let zero_there = zeros n p in
        omega (arith, here, there, zero_there)

pub counted-more : (a n k : ℕ) → a ≡ counted n → counted (a + k) ≡ counted (n + k)
counted-more a n k is = omega (arith, is)

drop-nil : (n : ℕ) → ◌≡◌ {A = List ℕ} [] (drop n [])
drop-nil zero = refl
drop-nil (suc n) = refl

pub held-after : (n : ℕ) (o : Option Received) → held_of (option_map (taken_of n) o) ≡ drop n (held_of o)
held-after n None = drop-nil n
held-after n (Some r) = refl

pub only-nothing : (p q : ℕ) → only_at p [] q ≡ []
only-nothing p q = by (nat_eq q p)
  where
    by : (b : Bool) → ◌≡◌ {A = List ℕ} (if b then [] else []) []
    by true = refl
    by false = refl

-- What is sent on a port that is there comes to its stream.
pub sent-there : (n p q : ℕ) (bytes : List ℕ) → p < n → only_at p bytes q ≡ to_leaf n (Some (p, bytes)) (suc q)
sent-there n p q bytes within =
    by (nat_eq q p) refl ∙ ap (λ b. (if b then only (suc p) bytes else (λ j. [])) (suc q)) (sym (lt-ltb p n within))
  where
    by : (b : Bool) → nat_eq q p ≡ b → only_at p bytes q ≡ only (suc p) bytes (suc q)
    by true is =
        ap (λ b. if b then bytes else []) is
        ∙ ap (λ b. if b then bytes else []) (sym (eq-eqb (suc q) (suc p) (ap suc (eqb-true q p is))))
    by false is =
        ap (λ b. if b then bytes else []) is
        ∙ ap (λ b. if b then bytes else [])
        (sym (ne_eqb (suc q) (suc p) (λ same. eqb-false q p is (omega (arith, same)))))

-- Where a malformed packet stands that is told.
pub placed-fault : (x held : List ℕ) (taken i : ℕ) (f : EndFault PacketFault)
    → ((m : Decoded Cause × ℕ) → first held ≡ Some m → (held ≡ drop i x) × (taken ≡ counted i))
    → HasTaken packet_codec x i None → IsBlamedAt taken held f → IsPlaced x (Some f)
placed-fault x held taken i (fault.Malformed f) there had blamed =
    let at = there (Malformed f.cause, blamed.0) blamed.1 in (
      i,
      record {
        packets = had.0;
        before = had.1;
        size = blamed.0;
        malformed = ap first (sym at.0) ∙ blamed.1;
      },
      blamed.2 ∙ ap (λ n. fault_at n f.cause) at.1,
    )
placed-fault x held taken i (fault.Session f) there had blamed = tt
placed-fault x held taken i (fault.LateWant at got) there had blamed = tt
placed-fault x held taken i (fault.Truncated a b) there had blamed = absurd blamed
placed-fault x held taken i (fault.Ended n) there had blamed = absurd blamed
placed-fault x held taken i (fault.TooMuch n) there had blamed = absurd blamed
placed-fault x held taken i (fault.Link n) there had blamed = absurd blamed
placed-fault x held taken i (fault.Astray n) there had blamed = absurd blamed
placed-fault x held taken i fault.NoMemory there had blamed = absurd blamed

-- a turn that neither took a packet nor found none whole
abbrev pub IsActing : Turn → Type 0
IsActing turn.Unit = Unit {0}
IsActing (turn.Sent p) = Unit {0}
IsActing (turn.Took p) = ⊥
IsActing (turn.Served p) = Unit {0}
IsActing turn.Marked = Unit {0}
IsActing (turn.NotYet p) = ⊥
IsActing turn.Done = Unit {0}

abbrev pub Answer : Type 0
Answer = Result Turn (ℕ × EndFault Cause)

pub ok-is : (t u : Turn) → ◌≡◌ {A = Answer} (Ok t) (Ok u) → t ≡ u
ok-is t u is = cc (is)

-- what a turn leaves and sends
abbrev pub After : Type 0 → Type 0
After M = Taking M × Option (ℕ × List ℕ)

-- the turn of an end that does this
abbrev pub turned : {M : Type 0} → MasterModel M → Taking M → Streams → Act M Cause → Option (After M)
turned k h x a = hub_turn_by (machine_alone k packet_codec) h x (outlook_of a)

module _ {M : Type 0} (k : MasterModel M) where
  -- What an answer shows of what the end did.

  module _ (c : MachineEnd M Cause) (whole : ℕ → Option (Decoded Cause)) where
    pub took-by : (p : ℕ) (t : Turn) (f : Option (ℕ × EndFault Cause)) → unless_faulty (turn.Took p) f ≡ Ok t
        → turn.Took p ≡ t
    took-by p t None is = ok-is (turn.Took p) t is
    took-by p t (Some f) is = absurd (cc (is))

    pub not-acting : (p : ℕ) (t : Turn) (m : Option (Decoded Cause)) → take_answer k c p m ≡ Ok t → IsActing t → ⊥
    not-acting p t None is acting = subst IsActing (sym (ok-is (turn.NotYet p) t is)) acting
    not-acting p t (Some m) is acting =
        subst IsActing (sym (took-by p t (machine_takes k c p m).fault is)) acting

    pub acts-none : (a : Act M Cause) (t : Turn) → answer_by k c whole a ≡ Some (Ok t) → IsActing t → awaited a ≡ None
    acts-none (Works next) t is acting = refl
    acts-none (Sends p x next) t is acting = refl
    acts-none (Awaits p) t is acting = absurd (not-acting p t (whole p) (some-is _ _ is) acting)
    acts-none (Serves p next) t is acting = refl
    acts-none (Marks next) t is acting = refl
    acts-none Rests t is acting = refl
    acts-none (Fails p f) t is acting = refl
    acts-none Lost t is acting = refl

    waits-by : (q p : ℕ) (m : Option (Decoded Cause)) → take_answer k c q m ≡ Ok (turn.NotYet p) → (q ≡ p) × (m ≡ None)
    waits-by q p None is = (cc (ok-is (turn.NotYet q) (turn.NotYet p) is), refl)
    waits-by q p (Some m) is = absurd (cc (took-by q (turn.NotYet p) (machine_takes k c q m).fault is))

    pub waits-for : (a : Act M Cause) (p : ℕ) → answer_by k c whole a ≡ Some (Ok (turn.NotYet p))
        → (a ≡ Awaits p) × (whole p ≡ None)
    waits-for (Works next) p is = absurd (cc (is))
    waits-for (Sends q x next) p is = absurd (cc (is))
    waits-for (Awaits q) p is =
        let found = waits-by q p (whole q) (some-is _ _ is) in
        (ap (λ i. Awaits i) found.0, ap whole (sym found.0) ∙ found.1)
    waits-for (Serves q next) p is = absurd (cc (is))
    waits-for (Marks next) p is = absurd (cc (is))
    waits-for Rests p is = absurd (cc (is))
    waits-for (Fails q f) p is = absurd (cc (is))
    waits-for Lost p is = absurd (cc (is))

    takes-by : (q p : ℕ) (m : Option (Decoded Cause)) → take_answer k c q m ≡ Ok (turn.Took p) → q ≡ p
    takes-by q p None is = absurd (cc (ok-is (turn.NotYet q) (turn.Took p) is))
    takes-by q p (Some m) is = cc (took-by q (turn.Took p) (machine_takes k c q m).fault is)

    pub takes-from : (a : Act M Cause) (p : ℕ) → answer_by k c whole a ≡ Some (Ok (turn.Took p)) → a ≡ Awaits p
    takes-from (Works next) p is = absurd (cc (is))
    takes-from (Sends q x next) p is = absurd (cc (is))
    takes-from (Awaits q) p is = ap (λ i. Awaits i) (takes-by q p (whole q) (some-is _ _ is))
    takes-from (Serves q next) p is = absurd (cc (is))
    takes-from (Marks next) p is = absurd (cc (is))
    takes-from Rests p is = absurd (cc (is))
    takes-from (Fails q f) p is = absurd (cc (is))
    takes-from Lost p is = absurd (cc (is))

    pub done-halts : (a : Act M Cause) → answer_by k c whole a ≡ Some (Ok turn.Done) → outlook_of a ≡ HubHalts
    done-halts (Works next) is = absurd (cc (is))
    done-halts (Sends q x next) is = absurd (cc (is))
    done-halts (Awaits q) is = absurd (not-acting q turn.Done (whole q) (some-is _ _ is) tt)
    done-halts (Serves q next) is = absurd (cc (is))
    done-halts (Marks next) is = absurd (cc (is))
    done-halts Rests is = refl
    done-halts (Fails q f) is = refl
    done-halts Lost is = refl

  -- What a turn takes and sends.

  module _ (h : Taking M) (x : Streams) where
    pub took-nothing : (a : Act M Cause) (r : After M) → awaited a ≡ None → turned k h x a ≡ Some r
        → r.0.taken ≡ h.taken
    took-nothing (Works next) r none is = ap (λ (r : After M). r.0.taken) (sym (some-is _ r is))
    took-nothing (Sends p m next) r none is = ap (λ (r : After M). r.0.taken) (sym (some-is _ r is))
    took-nothing (Awaits p) r none is = absurd (absent p none)
    took-nothing (Serves p next) r none is = ap (λ (r : After M). r.0.taken) (sym (some-is _ r is))
    took-nothing (Marks next) r none is = ap (λ (r : After M). r.0.taken) (sym (some-is _ r is))
    took-nothing Rests r none is = absurd (none-some r is)
    took-nothing (Fails p f) r none is = absurd (none-some r is)
    took-nothing Lost r none is = absurd (none-some r is)

    take-quiet : (p : ℕ) (m : Option (Decoded Cause × ℕ)) (r : After M)
        → hub_after_take (machine_alone k packet_codec) h p m ≡ Some r → r.1 ≡ None
    take-quiet p None r is = absurd (none-some r is)
    take-quiet p (Some m) r is = ap (λ (r : After M). r.1) (sym (some-is _ r is))

    pub sends-nothing : (c : MachineEnd M Cause) (whole : ℕ → Option (Decoded Cause)) (a : Act M Cause)
        (answer : Answer) (r : After M) → answer_by k c whole a ≡ Some answer
        → ((p : ℕ) → answer ≡ Ok (turn.Sent p) → ⊥) → turned k h x a ≡ Some r → r.1 ≡ None
    sends-nothing c whole (Works next) answer r answers other is = ap (λ (r : After M). r.1) (sym (some-is _ r is))
    sends-nothing c whole (Sends p m next) answer r answers other is =
        absurd (other p (sym (some-is (Ok (turn.Sent p)) answer answers)))
    sends-nothing c whole (Awaits p) answer r answers other is =
        take-quiet p (first (drop (get_or h.taken p 0) (x p))) r is
    sends-nothing c whole (Serves p next) answer r answers other is = ap (λ (r : After M). r.1) (sym (some-is _ r is))
    sends-nothing c whole (Marks next) answer r answers other is = ap (λ (r : After M). r.1) (sym (some-is _ r is))
    sends-nothing c whole Rests answer r answers other is = absurd (none-some r is)
    sends-nothing c whole (Fails p f) answer r answers other is = absurd (none-some r is)
    sends-nothing c whole Lost answer r answers other is = absurd (none-some r is)

    pub sends-to : (c : MachineEnd M Cause) (whole : ℕ → Option (Decoded Cause)) (a : Act M Cause) (p : ℕ) (r : After M)
        → answer_by k c whole a ≡ Some (Ok (turn.Sent p)) → turned k h x a ≡ Some r
        → (bytes : List ℕ) × (r.1 ≡ Some (p, bytes))
    sends-to c whole (Works next) p r answers is = absurd (cc (answers))
    sends-to c whole (Sends q m next) p r answers is =
        let same : q ≡ p = cc (answers) in
        let sent = ap (λ (r : After M). r.1) (sym (some-is _ r is)) in
        (_, sent ∙ ap (λ i. Some (i, packet_codec.write m)) same)
    sends-to c whole (Awaits q) p r answers is =
        absurd (not-acting c whole q (turn.Sent p) (whole q) (some-is _ _ answers) tt)
    sends-to c whole (Serves q next) p r answers is = absurd (cc (answers))
    sends-to c whole (Marks next) p r answers is = absurd (cc (answers))
    sends-to c whole Rests p r answers is = absurd (none-some r is)
    sends-to c whole (Fails q f) p r answers is = absurd (none-some r is)
    sends-to c whole Lost p r answers is = absurd (none-some r is)
