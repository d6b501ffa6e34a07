-- An end that was fed pieces and took turns stands within a run over all that it was fed.
use Rattle.std.proofs.Common.{◌≡◌, ℕ, suc, ◌+◌, Bool, true, false, List, [], ◌∷◌, ◌++◌, length, drop, refl, sym, ap, ◌∙◌, subst, arith, Result, Ok, Err}
use Rattle.std.specs.Prelude.{Option, Some, None, option_map}
use Rattle.std.proofs.lemmas.List.{append-nil, drop-append-le, drop-drop}
use Rattle.process_network.specs.PacketStar.{written, leaf_turn_by, leaf_after_take, fresh_leaf}
use Rattle.cosim_model.specs.declared.session.EndFault.{EndFault}
use Rattle.cosim_model.specs.declared.session.EndFault.TheVariants as fault
use Rattle.cosim_model.specs.Parts.{DeviceModel}
use Rattle.cosim_model.specs.Packets.{Decoded, spell}
use Rattle.cosim_model.specs.Packets.Decoded.{Valid, Malformed}
use Rattle.cosim_model.specs.Streams.{HasTaken}
use Rattle.cosim_model.proofs.Streams.{one_more, still_first}
use Rattle.rp_packet.specs.CodecLaws.{codec-laws}
use Rattle.rp_packet.specs.Reading.{fault_at}
use Rattle.cosim_model.specs.Sessions.{hello_of, hello_sent}
use Rattle.ends_model.specs.declared.ends.DeviceTurn.{DeviceTurn}
use Rattle.ends_model.specs.declared.ends.DeviceTurn.TheVariants as device_turn
use Rattle.ends_model.specs.Answers.{answer_once, hears_answer, unless_faulty}
use Rattle.ends_model.specs.DeviceTurn.{DeviceEnd, device_looks, device_hears}
use Rattle.ends_model.specs.Traffic as traffic
use Rattle.rp_framing.specs.Framing.{counted}
use Rattle.rp_packet.specs.declared.fault.Cause.{Cause}
use Rattle.rp_packet.specs.Refusals.{first}
use Rattle.rp_packet.specs.Streams.{packet_codec}
use Rattle.end_answers.specs.Faults.{IsPlaced, placed-longer}
use Rattle.device_turns.specs.Runs.{Taking, IsRun, IsWholeRun}
use Rattle.device_turns.specs.Ends.{End, Fault, Goes, IsTurn, Turns, Feeds, FedAt, GoesOn, RunsOn, HasRun, HasSentAll, SendsAll, answer_of, core_of, fresh, kept_cause, moves, turn_of}
use Rattle.device_turns.specs.StepLaws.{some-is}
use Rattle.device_turns.specs.RunLaws.{run-on, run-within, run-longer, whole-sends}

abbrev shifted : {S : Type 0} → ℕ → Option (Taking S × List ℕ) → Option (Taking S × List ℕ)
shifted n None = None
shifted n (Some r) = Some (record { core = r.0.core; taken = n + r.0.taken }, r.1)

uncaused : (k : Option Fault) → kept_cause k ≡ None → k ≡ None
uncaused None is = refl
uncaused (Some f) is = absurd (cc (is))

abbrev pub answer : DeviceTurn → Result DeviceTurn (EndFault Cause)
answer t = Ok t

absent : {A : Type 0} (a : A) → Some a ≡ None → ⊥
absent a e = cc (e)

module _ {S : Type 0} (d : DeviceModel S) where
  abbrev turn_by : Taking S → List ℕ → Option (EndFault Cause) → Bool → Option (Taking S × List ℕ)
  turn_by l x kept hello = leaf_turn_by (traffic.device_alone d packet_codec) l x (device_looks l.core kept hello)

  take-shifted : (c : DeviceEnd S Cause) (n : ℕ) (m : Option (Decoded Cause × ℕ))
      → leaf_after_take (traffic.device_alone d packet_codec) (record { core = c; taken = n }) m
      ≡ shifted n (leaf_after_take (traffic.device_alone d packet_codec) (fresh_leaf c) m)
  take-shifted c n None = refl
  take-shifted c n (Some m) =
      let count : n + m.1 ≡ n + (0 + m.1) = omega arith in
      let r = device_hears d c m.0 in
      ap (λ k. Some (record { core = r.0; taken = k }, written (spell packet_codec) r.1)) count

  turn-shifted : (c : DeviceEnd S Cause) (n : ℕ) (x held : List ℕ) (k : Option (EndFault Cause)) (b : Bool)
      → (k ≡ None → held ≡ drop n x) → turn_by (record { core = c; taken = n }) x k b ≡ shifted n (turn_by (fresh_leaf c) held k b)
  turn-shifted c n x held (Some f) b same = refl
  turn-shifted c n x held None false same =
      let count : n ≡ n + 0 = omega arith in
      let hello = hello_of c.session in
      ap (λ m. Some (record { core = record c { session = hello_sent c.session }; taken = m }, written (spell packet_codec) (Valid hello ∷ [])))
      count
  turn-shifted c n x held None true same =
      ap (λ h. leaf_after_take (traffic.device_alone d packet_codec) (record { core = c; taken = n }) (first h)) (sym (same refl))
      ∙ take-shifted c n (first held)

  -- the turn over the bytes held is that over all received bytes
  turn-same : (x : List ℕ) (e : End S) (l : Taking S) → core_of e ≡ l.core → (e.kept ≡ None → e.held ≡ drop l.taken x)
      → traffic.device_turn d packet_codec l x ≡ shifted l.taken (turn_of d e)
  turn-same x e l core held =
      ap (λ c. traffic.device_turn d packet_codec (record { core = c; taken = l.taken }) x) (sym core)
      ∙ turn-shifted (core_of e) l.taken x e.held (kept_cause e.kept) e.clear.session.hello_went
      (λ none. held (uncaused e.kept none))

  -- What an end that keeps a fault, or that waits, has sent.

  pub rests-all : (e : End S) → turn_of d e ≡ None → HasSentAll d e
  rests-all e rests start x sent run =
      whole-sends d start x run.leaf sent (record {
        turns = run.turns;
        run = run.run;
        rests = turn-same x e run.leaf run.core run.held ∙ ap (shifted run.leaf.taken) rests;
      })

  faulty-rests : (c : DeviceEnd S Cause) (held : List ℕ) (k : Option Fault) (f : Fault) → k ≡ Some f
      → turn_by (fresh_leaf c) held (kept_cause k) c.session.hello_went ≡ None
  faulty-rests c held (Some g) f is = refl
  faulty-rests c held None f is = absurd (cc (is))

  pub kept-rests : (e : End S) (f : Fault) → e.kept ≡ Some f → turn_of d e ≡ None
  kept-rests e f is = faulty-rests (core_of e) e.held e.kept f is

  -- One that answers that no packet is whole can't move.

  unmoved : (f : Option (EndFault Cause)) → unless_faulty device_turn.Took f ≡ Ok device_turn.NotYet → ⊥
  unmoved None is = absurd (cc (is))
  unmoved (Some f) is = absurd (cc (is))

  hears-waits : (c : DeviceEnd S Cause) (m : Option (Decoded Cause × ℕ))
      → hears_answer d c (option_map (λ r. r.0) m) ≡ Ok device_turn.NotYet
      → leaf_after_take (traffic.device_alone d packet_codec) (fresh_leaf c) m ≡ None
  hears-waits c None is = refl
  hears-waits c (Some m) is = absurd (unmoved _ is)

  once-waits : (c : DeviceEnd S Cause) (held : List ℕ) (k : Option (EndFault Cause)) (b : Bool)
      → answer_once d c k b (option_map (λ r. r.0) (first held)) ≡ Ok device_turn.NotYet
      → turn_by (fresh_leaf c) held k b ≡ None
  once-waits c held (Some f) b is = refl
  once-waits c held None false is = absurd (cc (is))
  once-waits c held None true is = hears-waits c (first held) is

  pub waits-rests : (e : End S) → answer_of d e ≡ Ok device_turn.NotYet → turn_of d e ≡ None
  waits-rests e is = once-waits (core_of e) e.held (kept_cause e.kept) e.clear.session.hello_went is

  -- A fresh end stands at the beginning of the run over nothing.
  pub run-fresh : (start : DeviceEnd S Cause) → HasRun d (core_of (fresh start)) [] [] (fresh start)
  run-fresh start = record {
    turns = 0;
    leaf = fresh_leaf (core_of (fresh start));
    run = (refl, refl);
    core = refl;
    held = λ none. refl;
    taken = λ none. refl;
    packets = λ none. ([], refl);
    placed = tt;
  }

  -- Bytes come.

  kept-longer : (x y : List ℕ) (k : Option Fault) → IsPlaced x k → IsPlaced (x ++ y) k
  kept-longer x y None is = tt
  kept-longer x y (Some f) is = placed-longer x y f is

  packets-longer : (x y : List ℕ) (n : ℕ) → HasTaken packet_codec x n None → HasTaken packet_codec (x ++ y) n None
  packets-longer x y n is = (is.0, (still_first packet_codec codec-laws.decided is.0 n x y is.1).1)

  fed-placed : (x bytes : List ℕ) (old new : End S) → new.kept ≡ old.kept → IsPlaced x old.kept → IsPlaced (x ++ bytes) new.kept
  fed-placed x bytes old new same is =
      subst (λ (k : Option Fault). IsPlaced (x ++ bytes) k) (sym same) (kept-longer x bytes old.kept is)

  fed-run : (start : DeviceEnd S Cause) (x bytes sent : List ℕ) (old new : End S) (k : Option Fault) → old.kept ≡ k
      → FedAt k bytes old new → HasRun d start x sent old → HasRun d start (x ++ bytes) sent new
  fed-run start x bytes sent old new (Some f) kept fed run = record {
    turns = run.turns;
    leaf = run.leaf;
    run = run-longer d start x bytes run.turns run.leaf sent run.run;
    core = ap core_of fed ∙ run.core;
    held = λ none. absurd (absent f (sym (ap (λ (e : End S). e.kept) fed ∙ kept) ∙ none));
    taken = λ none. absurd (absent f (sym (ap (λ (e : End S). e.kept) fed ∙ kept) ∙ none));
    packets = λ none. absurd (absent f (sym (ap (λ (e : End S). e.kept) fed ∙ kept) ∙ none));
    placed = fed-placed x bytes old new (ap (λ (e : End S). e.kept) fed) run.placed;
  }
  fed-run start x bytes sent old new None kept fed run = record {
    turns = run.turns;
    leaf = run.leaf;
    run = run-longer d start x bytes run.turns run.leaf sent run.run;
    core = ap core_of fed ∙ run.core;
    held = λ none.
        ap (λ (e : End S). e.held) fed ∙ ap (λ h. h ++ bytes) (run.held kept)
        ∙ sym (drop-append-le run.leaf.taken x bytes (run-within d start x run.turns run.leaf sent run.run));
    taken = λ none. ap (λ (e : End S). e.taken) fed ∙ run.taken kept;
    packets = λ none. packets-longer x bytes run.leaf.taken (run.packets kept);
    placed = fed-placed x bytes old new (ap (λ (e : End S). e.kept) fed) run.placed;
  }

  pub feeds-run : (bytes : List ℕ) (old new : End S) → Feeds bytes old new → RunsOn d bytes old new
  feeds-run bytes old new fed start x sent run = fed-run start x bytes sent old new old.kept refl fed run

  -- A turn is taken.

  counted-more : (a n k : ℕ) → a ≡ counted n → counted (a + k) ≡ counted (n + k)
  counted-more a n k is = omega (arith, is)

  drop-own : (xs ys : List ℕ) → drop (length xs) (xs ++ ys) ≡ ys
  drop-own [] ys = refl
  drop-own (x ∷ xs) ys = drop-own xs ys

  appended : (before after more : List ℕ) → after ≡ before ++ more → more ≡ drop (length before) after
  appended before after more is = sym (ap (drop (length before)) is ∙ drop-own before more)

  nothing-more : (before after : List ℕ) → after ≡ before → [] ≡ drop (length before) after
  nothing-more before after is = appended before after [] (is ∙ sym (append-nil before))

  -- What is known of the packets after a turn, by what it answered.
  record Took (x : List ℕ) (old new : End S) (l : Taking S) (more : ℕ) : Type 0 where
    packets : new.kept ≡ None → HasTaken packet_codec x (l.taken + more) None
    placed : IsPlaced x new.kept

  at-front : (x : List ℕ) (old : End S) (l : Taking S) (o : Option (Decoded Cause × ℕ)) → old.held ≡ drop l.taken x
      → first old.held ≡ o → first (drop l.taken x) ≡ o
  at-front x old l o held is = ap first (sym held) ∙ is

  sizes : (e : End S) (m : Decoded Cause) (size : ℕ) (k : Option (EndFault Cause)) (b : Bool) (r : Taking S × List ℕ)
      → first e.held ≡ Some (m, size) → b ≡ true → turn_by (fresh_leaf (core_of e)) e.held k b ≡ Some r → r.0.taken ≡ size
  sizes e m size (Some f) b r front went is = absurd (absent r (sym is))
  sizes e m size None false r front went is = absurd (cc (went))
  sizes e m size None true r front went is =
      let taken = some-is _ r (sym (ap (leaf_after_take (traffic.device_alone d packet_codec) (fresh_leaf (core_of e))) front) ∙ is) in
      let count : 0 + size ≡ size = omega arith in
      ap (λ (r : Taking S × List ℕ). r.0.taken) (sym taken) ∙ count

  greets : (e : End S) (k : Option (EndFault Cause)) (b : Bool) (r : Taking S × List ℕ)
      → answer_once d (core_of e) k b (option_map (λ r. r.0) (first e.held)) ≡ Ok device_turn.Greeted
      → turn_by (fresh_leaf (core_of e)) e.held k b ≡ Some r → r.0.taken ≡ 0
  greets e (Some f) b r answers is = absurd (cc (answers))
  greets e None false r answers is = ap (λ (r : Taking S × List ℕ). r.0.taken) (sym (some-is _ r is))
  greets e None true r answers is = absurd (ungreeted (first e.held) answers)
    where
      unless-not : (f : Option (EndFault Cause)) → unless_faulty device_turn.Took f ≡ Ok device_turn.Greeted → ⊥
      unless-not None is = absurd (cc (is))
      unless-not (Some f) is = absurd (cc (is))

      ungreeted : (m : Option (Decoded Cause × ℕ)) → hears_answer d (core_of e) (option_map (λ r. r.0) m) ≡ Ok device_turn.Greeted → ⊥
      ungreeted None is = absurd (cc (is))
      ungreeted (Some m) is = unless-not _ is

  takes-hello : (e : End S) (k : Option (EndFault Cause)) (b : Bool)
      → answer_once d (core_of e) k b (option_map (λ r. r.0) (first e.held)) ≡ Ok device_turn.Took → b ≡ true
  takes-hello e (Some f) b answers = absurd (cc (answers))
  takes-hello e None false answers = absurd (cc (answers))
  takes-hello e None true answers = refl

  -- a fault leaves no more packets
  faulted-took : (x : List ℕ) (old new : End S) (l : Taking S) (more : ℕ) (f : Fault) → new.kept ≡ Some f → IsPlaced x (Some f)
      → Took x old new l more
  faulted-took x old new l more f keeps is = record {
    packets = λ none. absurd (absent f (sym keeps ∙ none));
    placed = subst (λ (k : Option Fault). IsPlaced x k) (sym keeps) is;
  }

  took : (x : List ℕ) (start : DeviceEnd S Cause) (sent : List ℕ) (old new : End S) (before after : List ℕ)
      (result : Result DeviceTurn Fault) (r : Taking S × List ℕ) → turn_of d old ≡ Some r → (clear : old.kept ≡ None)
      → IsTurn d old new before after result → (run : HasRun d start x sent old) → Took x old new run.leaf r.0.taken
  took x start sent old new before after (Ok device_turn.NotYet) r is clear turn run =
      absurd (absent r (sym is ∙ waits-rests old (sym turn.answers)))
  took x start sent old new before after (Ok device_turn.Greeted) r is clear turn run =
      let none = greets old (kept_cause old.kept) old.clear.session.hello_went r (sym turn.answers) is in
      let count : run.leaf.taken ≡ run.leaf.taken + r.0.taken = omega (arith, none) in
      record {
        packets = λ kept. subst (λ n. HasTaken packet_codec x n None) count (run.packets clear);
        placed = subst (λ (k : Option Fault). IsPlaced x k) (sym turn.keeps) tt;
      }
  took x start sent old new before after (Ok device_turn.Took) r is clear turn run =
      let front = turn.front clear in
      let size = sizes old (Valid front.0) front.1 (kept_cause old.kept) old.clear.session.hello_went r front.2
      (takes-hello old (kept_cause old.kept) old.clear.session.hello_went (sym turn.answers)) is in
      let had = run.packets clear in
      let more = one_more packet_codec had.0 run.leaf.taken x front.0 front.1 had.1
      (at-front x old run.leaf (Some (Valid front.0, front.1)) (run.held clear) front.2) in
      record {
        packets = λ kept. subst (λ n. HasTaken packet_codec x (run.leaf.taken + n) None) (sym size) (had.0 ++ front.0 ∷ [], more);
        placed = subst (λ (k : Option Fault). IsPlaced x k) (sym turn.keeps) tt;
      }
  took x start sent old new before after (Err (fault.Malformed f)) r is clear turn run =
      let front = turn.front clear in
      let had = run.packets clear in
      faulted-took x old new run.leaf r.0.taken (fault.Malformed f) turn.keeps (
        run.leaf.taken,
        record {
          packets = had.0;
          before = had.1;
          size = front.0;
          malformed = at-front x old run.leaf (Some (Malformed f.cause, front.0)) (run.held clear) front.1;
        },
        front.2 ∙ ap (λ n. fault_at n f.cause) (run.taken clear),
      )
  took x start sent old new before after (Err (fault.Truncated a b)) r is clear turn run = absurd (turn.front clear)
  took x start sent old new before after (Err (fault.Session f)) r is clear turn run =
      faulted-took x old new run.leaf r.0.taken (fault.Session f) turn.keeps tt
  took x start sent old new before after (Err (fault.Ended n)) r is clear turn run = absurd (turn.front clear)
  took x start sent old new before after (Err (fault.TooMuch n)) r is clear turn run = absurd (turn.front clear)
  took x start sent old new before after (Err (fault.Link n)) r is clear turn run = absurd (turn.front clear)
  took x start sent old new before after (Err (fault.LateWant a b)) r is clear turn run = absurd (turn.front clear)
  took x start sent old new before after (Err (fault.Astray n)) r is clear turn run = absurd (turn.front clear)
  took x start sent old new before after (Err fault.NoMemory) r is clear turn run = absurd (turn.front clear)

  turned-run : (start : DeviceEnd S Cause) (x sent : List ℕ) (old new : End S) (before after : List ℕ)
      (r : Taking S × List ℕ) → turn_of d old ≡ Some r → old.kept ≡ None → Goes (Some r) old new before after
      → (run : HasRun d start x sent old) → Took x old new run.leaf r.0.taken
      → HasRun d start x (sent ++ drop (length before) after) new
  turned-run start x sent old new before after r is clear goes run took =
      let turn_is = turn-same x old run.leaf run.core run.held ∙ ap (shifted run.leaf.taken) is in
      let ran = run-on d start x run.turns run.leaf sent _ run.run turn_is in
      record {
        turns = suc run.turns;
        leaf = record { core = r.0.core; taken = run.leaf.taken + r.0.taken };
        run = subst (λ s. IsRun d start x (suc run.turns) (record { core = r.0.core; taken = run.leaf.taken + r.0.taken }) (sent ++ s))
            (appended before after r.1 goes.2) ran;
        core = goes.0;
        held = λ none.
            goes.1.held none ∙ ap (drop r.0.taken) (run.held clear) ∙ drop-drop r.0.taken run.leaf.taken x;
        taken = λ none. goes.1.taken none ∙ counted-more old.taken run.leaf.taken r.0.taken (run.taken clear);
        packets = took.packets;
        placed = took.placed;
      }

  moved-run : (start : DeviceEnd S Cause) (x sent : List ℕ) (old new : End S) (before after : List ℕ)
      (result : Result DeviceTurn Fault) → IsTurn d old new before after result
      → (o : Option (Taking S × List ℕ)) → turn_of d old ≡ o → (k : Option Fault) → old.kept ≡ k → Goes o old new before after
      → HasRun d start x sent old → HasRun d start x (sent ++ drop (length before) after) new
  moved-run start x sent old new before after result turn None is k kept goes run =
      subst (λ e. HasRun d start x (sent ++ drop (length before) after) e) (sym goes.0)
      (subst (λ s. HasRun d start x s old) (sym (append-nil sent) ∙ ap (λ s. sent ++ s) (nothing-more before after goes.1)) run)
  moved-run start x sent old new before after result turn (Some r) is (Some f) kept goes run =
      absurd (absent r (sym is ∙ kept-rests old f kept))
  moved-run start x sent old new before after result turn (Some r) is None kept goes run =
      turned-run start x sent old new before after r is kept goes run
      (took x start sent old new before after result r is kept turn run)

  pub turn-runs : (old new : End S) (before after : List ℕ) (result : Result DeviceTurn Fault)
      → IsTurn d old new before after result → GoesOn d old new before after
  turn-runs old new before after result turn start x sent run =
      moved-run start x sent old new before after result turn (turn_of d old) refl old.kept refl turn.goes run

  still-runs : (old new : End S) (before after : List ℕ) → new ≡ old → after ≡ before → GoesOn d old new before after
  still-runs old new before after same quiet start x sent run =
      subst (λ e. HasRun d start x (sent ++ drop (length before) after) e) (sym same)
      (subst (λ s. HasRun d start x s old) (sym (append-nil sent) ∙ ap (λ s. sent ++ s) (nothing-more before after quiet)) run)

  -- What every call of turn shows.

  pub call-runs : (old new : End S) (before after : List ℕ) (result : Result DeviceTurn Fault) → Turns d old new before after result
      → GoesOn d old new before after
  call-runs old new before after (Ok t) call = turn-runs old new before after _ call
  call-runs old new before after (Err fault.NoMemory) call = still-runs old new before after call.0 call.1
  call-runs old new before after (Err (fault.Malformed f)) call = turn-runs old new before after _ call
  call-runs old new before after (Err (fault.Truncated a b)) call = turn-runs old new before after _ call
  call-runs old new before after (Err (fault.Session f)) call = turn-runs old new before after _ call
  call-runs old new before after (Err (fault.Ended n)) call = turn-runs old new before after _ call
  call-runs old new before after (Err (fault.TooMuch n)) call = turn-runs old new before after _ call
  call-runs old new before after (Err (fault.Link n)) call = turn-runs old new before after _ call
  call-runs old new before after (Err (fault.LateWant a b)) call = turn-runs old new before after _ call
  call-runs old new before after (Err (fault.Astray n)) call = turn-runs old new before after _ call

  quiet : (old new : End S) (before after : List ℕ) (o : Option (Taking S × List ℕ)) → o ≡ None → Goes o old new before after → new ≡ old
  quiet old new before after None is goes = goes.0
  quiet old new before after (Some r) is goes = absurd (absent r is)

  waiting-all : (old new : End S) (before after : List ℕ) → IsTurn d old new before after (Ok device_turn.NotYet) → HasSentAll d new
  waiting-all old new before after call =
      let rests = waits-rests old (sym call.answers) in
      rests-all new (ap (turn_of d) (quiet old new before after (turn_of d old) rests call.goes) ∙ rests)

  faulty-all : (new : End S) (f : Fault) → new.kept ≡ Some f → HasSentAll d new
  faulty-all new f is = rests-all new (kept-rests new f is)

  pub call-all : (old new : End S) (before after : List ℕ) (result : Result DeviceTurn Fault) → Turns d old new before after result
      → SendsAll d result new
  call-all old new before after (Ok device_turn.NotYet) call = waiting-all old new before after call
  call-all old new before after (Ok device_turn.Greeted) call = tt
  call-all old new before after (Ok device_turn.Took) call = tt
  call-all old new before after (Err fault.NoMemory) call = tt
  call-all old new before after (Err (fault.Malformed f)) call = faulty-all new (fault.Malformed f) call.keeps
  call-all old new before after (Err (fault.Truncated a b)) call = faulty-all new (fault.Truncated a b) call.keeps
  call-all old new before after (Err (fault.Session f)) call = faulty-all new (fault.Session f) call.keeps
  call-all old new before after (Err (fault.Ended n)) call = faulty-all new (fault.Ended n) call.keeps
  call-all old new before after (Err (fault.TooMuch n)) call = faulty-all new (fault.TooMuch n) call.keeps
  call-all old new before after (Err (fault.Link n)) call = faulty-all new (fault.Link n) call.keeps
  call-all old new before after (Err (fault.LateWant a b)) call = faulty-all new (fault.LateWant a b) call.keeps
  call-all old new before after (Err (fault.Astray n)) call = faulty-all new (fault.Astray n) call.keeps

  pub still-all : (e : End S) (f : Fault) → e.kept ≡ Some f → SendsAll d (Err f) e
  still-all e fault.NoMemory is = tt
  still-all e (fault.Malformed f) is = faulty-all e (fault.Malformed f) is
  still-all e (fault.Truncated a b) is = faulty-all e (fault.Truncated a b) is
  still-all e (fault.Session f) is = faulty-all e (fault.Session f) is
  still-all e (fault.Ended n) is = faulty-all e (fault.Ended n) is
  still-all e (fault.TooMuch n) is = faulty-all e (fault.TooMuch n) is
  still-all e (fault.Link n) is = faulty-all e (fault.Link n) is
  still-all e (fault.LateWant a b) is = faulty-all e (fault.LateWant a b) is
  still-all e (fault.Astray n) is = faulty-all e (fault.Astray n) is

  -- An end that waits keeps no fault, and its run is whole; so is that of an end that keeps one.

  waits-clear-at : (c : DeviceEnd S Cause) (k : Option Fault) (b : Bool) (m : Option (Decoded Cause))
      → answer_once d c (kept_cause k) b m ≡ Ok device_turn.NotYet → k ≡ None
  waits-clear-at c None b m is = refl
  waits-clear-at c (Some f) b m is = absurd (cc (is))

  pub waits-clear : (e : End S) → answer_of d e ≡ Ok device_turn.NotYet → e.kept ≡ None
  waits-clear e is = waits-clear-at (core_of e) e.kept e.clear.session.hello_went _ is

  rests-whole : (start : DeviceEnd S Cause) (x sent : List ℕ) (e : End S) (run : HasRun d start x sent e) → turn_of d e ≡ None
      → IsWholeRun d start x run.leaf sent
  rests-whole start x sent e run rests = record {
    turns = run.turns;
    run = run.run;
    rests = turn-same x e run.leaf run.core run.held ∙ ap (shifted run.leaf.taken) rests;
  }

  pub waits-whole : (start : DeviceEnd S Cause) (x sent : List ℕ) (e : End S) (run : HasRun d start x sent e)
      → answer_of d e ≡ Ok device_turn.NotYet → IsWholeRun d start x run.leaf sent
  waits-whole start x sent e run waits = rests-whole start x sent e run (waits-rests e waits)

  pub kept-whole : (start : DeviceEnd S Cause) (x sent : List ℕ) (e : End S) (f : Fault) → e.kept ≡ Some f
      → (run : HasRun d start x sent e) → IsWholeRun d start x run.leaf sent
  kept-whole start x sent e f kept run = rests-whole start x sent e run (kept-rests e f kept)

  -- An end that answers that it moved had a turn to take.

  still : (t : DeviceTurn) → moves (answer t) ≡ true → answer device_turn.NotYet ≡ answer t → ⊥
  still device_turn.NotYet moved is = absurd (cc (moved))
  still device_turn.Greeted moved is = absurd (cc (is))
  still device_turn.Took moved is = absurd (cc (is))

  took-front : (c : DeviceEnd S Cause) (t : DeviceTurn) (m : Option (Decoded Cause × ℕ)) → moves (answer t) ≡ true
      → hears_answer d c (option_map (λ r. r.0) m) ≡ answer t
      → leaf_after_take (traffic.device_alone d packet_codec) (fresh_leaf c) m ≡ None → ⊥
  took-front c t None moved answers none = still t moved answers
  took-front c t (Some m) moved answers none = absent _ none

  took-some : (c : DeviceEnd S Cause) (held : List ℕ) (t : DeviceTurn) (k : Option (EndFault Cause)) (b : Bool)
      → moves (answer t) ≡ true → answer_once d c k b (option_map (λ r. r.0) (first held)) ≡ answer t
      → turn_by (fresh_leaf c) held k b ≡ None → ⊥
  took-some c held t (Some f) b moved answers none = absurd (cc (answers))
  took-some c held t None false moved answers none = absent _ none
  took-some c held t None true moved answers none = took-front c t (first held) moved answers none

  pub moves-turns : (e : End S) (t : DeviceTurn) → moves (answer t) ≡ true → answer_of d e ≡ answer t
      → turn_of d e ≡ None → ⊥
  moves-turns e t moved answers none =
      took-some (core_of e) e.held t (kept_cause e.kept) e.clear.session.hello_went moved answers none
