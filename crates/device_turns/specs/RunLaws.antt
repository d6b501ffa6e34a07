-- Runs of a device end: more bytes behind don't change them, what was sent is a beginning of what is sent at last, and
-- there is a whole run over any received bytes.
use Rattle.std.proofs.Common.{◌≡◌, ◌⊎◌, inl, inr, ℕ, zero, suc, ◌+◌, ◌-◌, ◌<◌, ◌≤◌, List, [], ◌++◌, length, refl, sym, ap, ◌∙◌, subst, arith}
use Rattle.std.specs.Prelude.{Option, Some, None}
use Rattle.std.proofs.lemmas.List.{append-nil, append_assoc}
use Rattle.byte_streams.specs.Prefixes.{IsPrefix, Grows}
use Rattle.process_network.specs.PacketStar.{fresh_leaf}
use Rattle.cosim_model.specs.Parts.{DeviceModel}
use Rattle.ends_model.specs.DeviceTurn.{DeviceEnd}
use Rattle.ends_model.specs.Traffic as traffic
use Rattle.rp_packet.specs.declared.fault.Cause.{Cause}
use Rattle.rp_packet.specs.Streams.{packet_codec}
use Rattle.device_turns.specs.Runs.{Taking, IsRun, IsWholeRun, out_device}
use Rattle.device_turns.specs.StepLaws.{come, step-is, come-most, some-is}

no-turn : {A : Type 0} (a : A) → Some a ≡ None → ⊥
no-turn a e = cc (e)

module _ {S : Type 0} (d : DeviceModel S) (start : DeviceEnd S Cause) where
  -- one turn more
  pub run-on : (x : List ℕ) (k : ℕ) (l : Taking S) (sent : List ℕ) (r : Taking S × List ℕ) → IsRun d start x k l sent
      → traffic.device_turn d packet_codec l x ≡ Some r → IsRun d start x (suc k) r.0 (sent ++ r.1)
  run-on x k l sent r run is = (l, sent, r.1, run, is, refl)

  pub run-within : (x : List ℕ) (k : ℕ) (l : Taking S) (sent : List ℕ) → IsRun d start x k l sent → l.taken ≤ length x
  run-within x zero l sent run = let is = ap (λ (m : Taking S). m.taken) run.0 in omega (arith, is)
  run-within x (suc k) l sent run =
      (step-is d run.0 x (l, run.2) run.4).within (run-within x k run.0 run.1 run.3)

  -- each turn moves on
  pub run-come : (x : List ℕ) (k : ℕ) (l : Taking S) (sent : List ℕ) → IsRun d start x k l sent → k + come (fresh_leaf start) ≤ come l
  run-come x zero l sent run = let is = ap come run.0 in omega (arith, is)
  run-come x (suc k) l sent run =
      let before = run-come x k run.0 run.1 run.3 in
      let moves = (step-is d run.0 x (l, run.2) run.4).moves in
      omega (arith, before, moves)

  pub run-count : (x : List ℕ) (k : ℕ) (l : Taking S) (sent : List ℕ) → IsRun d start x k l sent → k ≤ suc (length x)
  run-count x k l sent run =
      let come_is = run-come x k l sent run in
      let most = come-most d l x (run-within x k l sent run) in
      omega (arith, come_is, most)

  -- more bytes behind
  pub run-longer : (x y : List ℕ) (k : ℕ) (l : Taking S) (sent : List ℕ) → IsRun d start x k l sent → IsRun d start (x ++ y) k l sent
  run-longer x y zero l sent run = run
  run-longer x y (suc k) l sent run = (
    run.0,
    run.1,
    run.2,
    run-longer x y k run.0 run.1 run.3,
    (step-is d run.0 x (l, run.2) run.4).steady y (run-within x k run.0 run.1 run.3),
    run.5,
  )

  -- what is sent in more turns than were taken
  run-sends : (x : List ℕ) (k m : ℕ) (l : Taking S) (sent : List ℕ) → IsRun d start x k l sent
      → traffic.sent_in d packet_codec (k + m) (fresh_leaf start) x ≡ sent ++ traffic.sent_in d packet_codec m l x
  run-sends x zero m l sent run =
      let count : 0 + m ≡ m = omega arith in
      ap (λ n. traffic.sent_in d packet_codec n (fresh_leaf start) x) count
      ∙ ap (λ (f : Taking S). traffic.sent_in d packet_codec m f x) (sym run.0)
      ∙ ap (λ s. s ++ traffic.sent_in d packet_codec m l x) (sym run.1)
  run-sends x (suc k) m l sent run =
      let l0 = run.0 in
      let count : suc k + m ≡ k + suc m = omega arith in
      let turn : traffic.sent_in d packet_codec (suc m) l0 x ≡ run.2 ++ traffic.sent_in d packet_codec m l x =
      ap (λ (o : Option (Taking S × List ℕ)). traffic.leaf_sends o ++ traffic.sent_in d packet_codec m (traffic.leaf_after l0 o) x) run.4 in
      ap (λ n. traffic.sent_in d packet_codec n (fresh_leaf start) x) count ∙ run-sends x k (suc m) l0 run.1 run.3
      ∙ ap (λ s. run.1 ++ s) turn ∙ sym (append_assoc run.1 run.2 (traffic.sent_in d packet_codec m l x))
      ∙ ap (λ s. s ++ traffic.sent_in d packet_codec m l x) (sym run.5)

  rest-sends : (x : List ℕ) (m : ℕ) (l : Taking S) → traffic.device_turn d packet_codec l x ≡ None
      → traffic.sent_in d packet_codec m l x ≡ []
  rest-sends x zero l rests = refl
  rest-sends x (suc m) l rests =
      ap (λ (o : Option (Taking S × List ℕ)). traffic.leaf_sends o ++ traffic.sent_in d packet_codec m (traffic.leaf_after l o) x) rests
      ∙ rest-sends x m l rests

  out-split : (x : List ℕ) (k m : ℕ) (l : Taking S) (sent : List ℕ) → suc (length x) ≡ k + m → IsRun d start x k l sent
      → out_device d start x ≡ sent ++ traffic.sent_in d packet_codec m l x
  out-split x k m l sent count run =
      ap (λ n. traffic.sent_in d packet_codec n (fresh_leaf start) x) count ∙ run-sends x k m l sent run

  -- At any moment what was sent is the beginning of what is sent at last.
  pub run-prefix : (x : List ℕ) (k : ℕ) (l : Taking S) (sent : List ℕ) → IsRun d start x k l sent → IsPrefix sent (out_device d start x)
  run-prefix x k l sent run =
      let few = run-count x k l sent run in
      let m = suc (length x) - k in
      (traffic.sent_in d packet_codec m l x, sym (out-split x k m l sent (omega (arith, few)) run))

  -- what a whole run sends
  pub whole-sends : (x : List ℕ) (l : Taking S) (sent : List ℕ) → IsWholeRun d start x l sent → sent ≡ out_device d start x
  whole-sends x l sent whole =
      let k = whole.turns in
      let few = run-count x k l sent whole.run in
      let m = suc (length x) - k in
      sym (out-split x k m l sent (omega (arith, few)) whole.run ∙ ap (λ s. sent ++ s) (rest-sends x m l whole.rests) ∙ append-nil sent)

  -- Some turns lead to where none is left.
  pub record Ends (x : List ℕ) : Type 0 where
    pub leaf : Taking S
    pub sent : List ℕ
    pub whole : IsWholeRun d start x leaf sent

  ends-by : (x : List ℕ) (n k : ℕ) (l : Taking S) (sent : List ℕ) → IsRun d start x k l sent → suc (length x) < n + come l
      → (o : Option (Taking S × List ℕ)) → traffic.device_turn d packet_codec l x ≡ o → Ends x
  ends-by x n k l sent run enough None is =
      record { leaf = l; sent = sent; whole = record { turns = k; run = run; rests = is } }
  ends-by x zero k l sent run enough (Some r) is =
      let most = come-most d l x (run-within x k l sent run) in absurd (omega (arith, most, enough))
  ends-by x (suc n) k l sent run enough (Some r) is =
      let moves = (step-is d l x r is).moves in
      ends-by x n (suc k) r.0 (sent ++ r.1) (run-on x k l sent r run is) (omega (arith, moves, enough))
      (traffic.device_turn d packet_codec r.0 x) refl

  pub ends : (x : List ℕ) → Ends x
  ends x =
      ends-by x (suc (suc (length x))) zero (fresh_leaf start) [] (refl, refl) (omega arith)
      (traffic.device_turn d packet_codec (fresh_leaf start) x) refl

  pub out-grows : Grows (out_device d start)
  out-grows x y =
      let e = ends x in
      subst (λ s. IsPrefix s (out_device d start (x ++ y))) (whole-sends x e.leaf e.sent e.whole)
      (run-prefix (x ++ y) e.whole.turns e.leaf e.sent (run-longer x y e.whole.turns e.leaf e.sent e.whole.run))

  -- Two whole runs over the same bytes lead to the same.

  run-same : (x : List ℕ) (k : ℕ) (l m : Taking S) (sent other : List ℕ) → IsRun d start x k l sent → IsRun d start x k m other
      → l ≡ m
  run-same x zero l m sent other run also = run.0 ∙ sym also.0
  run-same x (suc k) l m sent other run also =
      let before = run-same x k run.0 also.0 run.1 also.1 run.3 also.3 in
      let turn = sym run.4 ∙ ap (λ (t : Taking S). traffic.device_turn d packet_codec t x) before ∙ also.4 in
      ap (λ (r : Taking S × List ℕ). r.0) (some-is (l, run.2) (m, also.2) turn)

  -- a run that goes on took a turn where the shorter one ended
  run-passes : (x : List ℕ) (k n : ℕ) (l m : Taking S) (sent other : List ℕ) → IsRun d start x k l sent
      → IsRun d start x (k + suc n) m other → traffic.device_turn d packet_codec l x ≡ None → ⊥
  run-passes x k zero l m sent other run longer rests =
      let count : k + 1 ≡ suc k = omega arith in
      let also = subst (λ n. IsRun d start x n m other) count longer in
      let here = run-same x k l also.0 sent also.1 run also.3 in
      no-turn _ (sym also.4 ∙ ap (λ (t : Taking S). traffic.device_turn d packet_codec t x) (sym here) ∙ rests)
  run-passes x k (suc n) l m sent other run longer rests =
      let count : k + suc (suc n) ≡ suc (k + suc n) = omega arith in
      let also = subst (λ n. IsRun d start x n m other) count longer in
      run-passes x k n l also.0 sent also.1 run also.3 rests

  whole-by : (x : List ℕ) (l m : Taking S) (sent other : List ℕ) (k n : ℕ) → IsRun d start x k l sent → IsRun d start x n m other
      → traffic.device_turn d packet_codec l x ≡ None → traffic.device_turn d packet_codec m x ≡ None
      → (k < n) ⊎ (n < k) ⊎ (k ≡ n) → l ≡ m
  whole-by x l m sent other k n run also rests stays (inl less) =
      let count : n ≡ k + suc (n - suc k) = omega (arith, less) in
      absurd (run-passes x k (n - suc k) l m sent other run (subst (λ i. IsRun d start x i m other) count also) rests)
  whole-by x l m sent other k n run also rests stays (inr (inl more)) =
      let count : k ≡ n + suc (k - suc n) = omega (arith, more) in
      absurd (run-passes x n (k - suc n) m l other sent also (subst (λ i. IsRun d start x i l sent) count run) stays)
  whole-by x l m sent other k n run also rests stays (inr (inr same)) =
      run-same x k l m sent other run (subst (λ i. IsRun d start x i m other) (sym same) also)

  order : (k n : ℕ) → (k < n) ⊎ (n < k) ⊎ (k ≡ n)
  order zero zero = inr (inr refl)
  order zero (suc n) = inl (omega arith)
  order (suc k) zero = inr (inl (omega arith))
  order (suc k) (suc n) =
      elim (order k n) as (λ _. (suc k < suc n) ⊎ (suc n < suc k) ⊎ (suc k ≡ suc n)) [
        | inl less ↦ inl (omega (arith, less))
        | inr rest ↦ elim rest as (λ _. (suc k < suc n) ⊎ (suc n < suc k) ⊎ (suc k ≡ suc n)) [
          | inl more ↦ inr (inl (omega (arith, more)))
          | inr same ↦ inr (inr (ap suc same))
        ]
      ]

  pub whole-same : (x : List ℕ) (l m : Taking S) (sent other : List ℕ) → IsWholeRun d start x l sent → IsWholeRun d start x m other
      → l ≡ m
  whole-same x l m sent other run also =
      whole-by x l m sent other run.turns also.turns run.run also.run run.rests also.rests (order run.turns also.turns)
