-- A run of packets, seen from its end: what a port has is a beginning of what it will have, and the last turn of a leaf.
use Rattle.std.proofs.Common.{◌≡◌, ℕ, zero, suc, ◌+◌, ◌<◌, ◌⊎◌, inl, inr, Bool, true, false, List, [], ◌∷◌, ◌++◌, length, set, Option, Some, None, slice_get, refl, sym, ap, ap₂, ◌∙◌, subst, arith, append_assoc, append-nil}
use Rattle.std.specs.Prelude.{◌==◌, if◌then◌else◌}
use Rattle.std.proofs.lemmas.Bool.{eqb-true, eqb-false}
use Rattle.std.proofs.lemmas.Option.{none-some, same_Some, slice_get_within}
use Rattle.process_network.proofs.MovesAtPort.{get_set}
use Rattle.process_network.specs.Network.{IsPrefix}
use Rattle.process_network.specs.CalmRun.{Move}
use Rattle.process_network.specs.CalmRun.Move.{HubMoves, LeafMoves}
use Rattle.process_network.specs.PacketStar.{HubOutlook, LeafOutlook, Ends, PacketLink, PacketWorld, with_packet, hub_takes, hub_waits_on, hub_packet_move, leaf_takes, leaf_packet_move, packet_move_at, packets_after, packets_all, with_sent, one_packet_leaf_move, packet_leaf_turns, leaf_count_at, leaf_count, waiting_count}
use Rattle.process_network.specs.PacketStar.HubOutlook.{HubActs, HubWaits, HubHalts}
use Rattle.process_network.specs.PacketStar.LeafOutlook.{LeafActs, LeafWaits, LeafHalts}

whole : {X : Type 0} (xs : List X) → IsPrefix xs xs
whole xs = ([], append-nil xs)

on_to : {X : Type 0} (xs ys zs : List X) → IsPrefix xs ys → IsPrefix ys zs → IsPrefix xs zs
on_to xs ys zs a b = (a.0 ++ b.0, sym (append_assoc xs a.0 b.0) ∙ ap (λ t. t ++ b.0) a.1 ∙ b.1)

module _ {H L P : Type 0} (e : Ends H L P) where
  abbrev pub Grow : PacketLink L P → PacketLink L P → Type 0
  Grow q q' = IsPrefix (q.out_taken ++ q.out_waiting) (q'.out_taken ++ q'.out_waiting) × IsPrefix (q.back_taken ++ q.back_waiting) (q'.back_taken ++ q'.back_waiting)

  same_grow : (q : PacketLink L P) → Grow q q
  same_grow q = (whole (q.out_taken ++ q.out_waiting), whole (q.back_taken ++ q.back_waiting))

  abbrev Grown : List (PacketLink L P) → List (PacketLink L P) → Type 0
  Grown ps ps' = (p : ℕ) (q : PacketLink L P) → slice_get ps p ≡ Some q → (q' : PacketLink L P) × (slice_get ps' p ≡ Some q') × Grow q q'

  set_grown : (ps : List (PacketLink L P)) (r : ℕ) (x x' : PacketLink L P) → slice_get ps r ≡ Some x → Grow x x' → Grown ps (set ps r x')
  set_grown [] r x x' g w p q f = absurd (none-some q f)
  set_grown (y ∷ ps) zero x x' g w zero q f = (x', refl, subst (λ q. Grow q x') (same_Some x q (sym g ∙ f)) w)
  set_grown (y ∷ ps) zero x x' g w (suc p) q f = (q, f, same_grow q)
  set_grown (y ∷ ps) (suc r) x x' g w zero q f = (q, f, same_grow q)
  set_grown (y ∷ ps) (suc r) x x' g w (suc p) q f = set_grown ps r x x' g w p q f

  same_grown : (ps : List (PacketLink L P)) → Grown ps ps
  same_grown ps p q f = (q, f, same_grow q)

  hub_grown : (c : PacketWorld H L P) (v : HubOutlook H P) → Grown c.links (hub_packet_move e c v).links
  hub_grown c (HubActs next None) = same_grown c.links
  hub_grown c (HubActs next (Some m)) = by (slice_get c.links m.0) refl
    where
      by : (o : Option (PacketLink L P)) → slice_get c.links m.0 ≡ o → Grown c.links (with_packet c.links m.0 m.1 o)
      by None g = same_grown c.links
      by (Some q) g = set_grown c.links m.0 q (with_sent q m.1) g ((m.1 ∷ [], append_assoc q.out_taken q.out_waiting (m.1 ∷ [])), whole (q.back_taken ++ q.back_waiting))
  hub_grown c HubHalts = same_grown c.links
  hub_grown c (HubWaits p) = by (slice_get c.links p) refl
    where
      got : (q : PacketLink L P) (ms : List P) → slice_get c.links p ≡ Some q → q.back_waiting ≡ ms → Grown c.links (hub_takes e c p q ms).links
      got q [] g n = same_grown c.links
      got q (m ∷ rest) g n = set_grown c.links p q (record { leaf = q.leaf; out_taken = q.out_taken; out_waiting = q.out_waiting; back_taken = q.back_taken ++ m ∷ []; back_waiting = rest }) g (whole (q.out_taken ++ q.out_waiting), ([], append-nil (q.back_taken ++ q.back_waiting) ∙ ap (λ (ms : List P). q.back_taken ++ ms) n ∙ sym (append_assoc q.back_taken (m ∷ []) rest)))

      by : (o : Option (PacketLink L P)) → slice_get c.links p ≡ o → Grown c.links (hub_waits_on e c p o).links
      by None g = same_grown c.links
      by (Some q) g = got q q.back_waiting g refl

  leaf_grown : (c : PacketWorld H L P) (p : ℕ) → Grown c.links (packet_move_at e c p (slice_get c.links p)).links
  leaf_grown c p = by (slice_get c.links p) refl
    where
      more : (q : PacketLink L P) (ms : List P) → IsPrefix (q.back_taken ++ q.back_waiting) (q.back_taken ++ (q.back_waiting ++ ms))
      more q ms = (ms, append_assoc q.back_taken q.back_waiting ms)

      got : (q : PacketLink L P) (ms : List P) → slice_get c.links p ≡ Some q → q.out_waiting ≡ ms → Grown c.links (leaf_takes e c p q ms).links
      got q [] g n = same_grown c.links
      got q (m ∷ rest) g n = set_grown c.links p q (record { leaf = (e.leaf_take q.leaf m).0; out_taken = q.out_taken ++ m ∷ []; out_waiting = rest; back_taken = q.back_taken; back_waiting = q.back_waiting ++ (e.leaf_take q.leaf m).1 }) g (([], append-nil (q.out_taken ++ q.out_waiting) ∙ ap (λ (ms : List P). q.out_taken ++ ms) n ∙ sym (append_assoc q.out_taken (m ∷ []) rest)), more q (e.leaf_take q.leaf m).1)

      looks : (q : PacketLink L P) → slice_get c.links p ≡ Some q → (v : LeafOutlook L P) → Grown c.links (leaf_packet_move e c p q v).links
      looks q g (LeafActs next sends) = set_grown c.links p q (record { leaf = next; out_taken = q.out_taken; out_waiting = q.out_waiting; back_taken = q.back_taken; back_waiting = q.back_waiting ++ sends }) g (whole (q.out_taken ++ q.out_waiting), more q sends)
      looks q g LeafWaits = got q q.out_waiting g refl
      looks q g LeafHalts = same_grown c.links

      by : (o : Option (PacketLink L P)) → slice_get c.links p ≡ o → Grown c.links (packet_move_at e c p o).links
      by None g = same_grown c.links
      by (Some q) g = looks q g (e.leaf_outlook q.leaf)

  pub move_grown : (c : PacketWorld H L P) (m : Move) → Grown c.links (packets_after e c m).links
  move_grown c HubMoves = hub_grown c (e.hub_outlook c.hub)
  move_grown c (LeafMoves p) = leaf_grown c p

  pub moves_grown : (c : PacketWorld H L P) (ms : List Move) → Grown c.links (packets_all e c ms).links
  moves_grown c [] p q f = same_grown c.links p q f
  moves_grown c (m ∷ ms) p q f =
      let a = move_grown c m p q f in
      let b = moves_grown (packets_after e c m) ms p a.0 a.1 in
      (b.0, b.1, (on_to _ _ _ a.2.0 b.2.0, on_to _ _ _ a.2.1 b.2.1))

  -- The last turn of leaf p.
  abbrev pub LastTurn : PacketWorld H L P → ℕ → List Move → Type 0
  LastTurn c p ms = (before : List Move) × (behind : List Move) × (ms ≡ before ++ LeafMoves p ∷ behind) × (packet_leaf_turns e c p ms ≡ suc (packet_leaf_turns e c p before)) × (leaf_count_at e (slice_get (packets_all e c before).links p) ≡ 1) × (packet_leaf_turns e (packets_all e c (before ++ LeafMoves p ∷ [])) p behind ≡ 0)

  zero_one : (o : Option (PacketLink L P)) → (leaf_count_at e o ≡ 0) ⊎ (leaf_count_at e o ≡ 1)
  zero_one None = inl refl
  zero_one (Some q) = by (e.leaf_outlook q.leaf) q.out_waiting
    where
      by : (v : LeafOutlook L P) (ms : List P) → (leaf_count (record q { out_waiting = ms }) v ≡ 0) ⊎ (leaf_count (record q { out_waiting = ms }) v ≡ 1)
      by (LeafActs next sends) ms = inr refl
      by LeafWaits [] = inl refl
      by LeafWaits (m ∷ ms) = inr refl
      by LeafHalts ms = inl refl

  pub last_turn : (c : PacketWorld H L P) (p : ℕ) (ms : List Move) → (packet_leaf_turns e c p ms ≡ 0) ⊎ LastTurn c p ms
  last_turn c p [] = inl refl
  last_turn c p (m ∷ ms) = by (last_turn (packets_after e c m) p ms)
    where
      last : (m : Move) → packet_leaf_turns e (packets_after e c m) p ms ≡ 0 → (packet_leaf_turns e c p (m ∷ ms) ≡ 0) ⊎ LastTurn c p (m ∷ ms)
      last HubMoves z = inl (omega arith)
      last (LeafMoves q) z = here (q == p) refl (zero_one (slice_get c.links q))
        where
          here : (b : Bool) → (q == p) ≡ b → ((leaf_count_at e (slice_get c.links q) ≡ 0) ⊎ (leaf_count_at e (slice_get c.links q) ≡ 1)) → (packet_leaf_turns e c p (LeafMoves q ∷ ms) ≡ 0) ⊎ LastTurn c p (LeafMoves q ∷ ms)
          here false f o = inl (ap₂ (λ (b : Bool) (k : ℕ). (if b then leaf_count_at e (slice_get c.links q) else 0) + k) f z)
          here true f (inl n) = inl (ap₂ (λ (b : Bool) (k : ℕ). (if b then leaf_count_at e (slice_get c.links q) else 0) + k) f z ∙ ap (λ t. t + 0) n)
          here true f (inr n) =
              let same : q ≡ p = eqb-true q p f in
              inr (
                [],
                ms,
                ap (λ q. LeafMoves q ∷ ms) same,
                ap₂ (λ (b : Bool) (k : ℕ). (if b then leaf_count_at e (slice_get c.links q) else 0) + k) f z ∙ ap (λ t. t + 0) n,
                subst (λ q. leaf_count_at e (slice_get c.links q) ≡ 1) same n,
                subst (λ q. packet_leaf_turns e (packets_after e c (LeafMoves q)) p ms ≡ 0) same z,
              )

      by : (packet_leaf_turns e (packets_after e c m) p ms ≡ 0) ⊎ LastTurn (packets_after e c m) p ms → (packet_leaf_turns e c p (m ∷ ms) ≡ 0) ⊎ LastTurn c p (m ∷ ms)
      by (inl z) = last m z
      by (inr l) = inr (m ∷ l.0, l.1, ap (λ t. m ∷ t) l.2, (let a = l.3 in omega arith), l.4, l.5)

  -- What a port's leaf is, and has taken, where it takes no turn.
  abbrev Kept : PacketLink L P → PacketLink L P → Type 0
  Kept q q' = (q'.leaf ≡ q.leaf) × (q'.out_taken ≡ q.out_taken)

  abbrev KeptAt : List (PacketLink L P) → List (PacketLink L P) → ℕ → Type 0
  KeptAt ps ps' p = (q : PacketLink L P) → slice_get ps p ≡ Some q → (q' : PacketLink L P) × (slice_get ps' p ≡ Some q') × Kept q q'

  same_kept : (ps : List (PacketLink L P)) (p : ℕ) → KeptAt ps ps p
  same_kept ps p q f = (q, f, (refl, refl))

  set_kept : (ps : List (PacketLink L P)) (r : ℕ) (x x' : PacketLink L P) → slice_get ps r ≡ Some x → Kept x x' → (p : ℕ) → KeptAt ps (set ps r x') p
  set_kept [] r x x' g w p q f = absurd (none-some q f)
  set_kept (y ∷ ps) zero x x' g w zero q f = (x', refl, subst (λ q. Kept q x') (same_Some x q (sym g ∙ f)) w)
  set_kept (y ∷ ps) zero x x' g w (suc p) q f = (q, f, (refl, refl))
  set_kept (y ∷ ps) (suc r) x x' g w zero q f = (q, f, (refl, refl))
  set_kept (y ∷ ps) (suc r) x x' g w (suc p) q f = set_kept ps r x x' g w p q f

  set_apart : (ps : List (PacketLink L P)) (r : ℕ) (x : PacketLink L P) (p : ℕ) → (r ≡ p → ⊥) → slice_get (set ps r x) p ≡ slice_get ps p
  set_apart [] r x p n = refl
  set_apart (y ∷ ps) zero x zero n = absurd (n refl)
  set_apart (y ∷ ps) zero x (suc p) n = refl
  set_apart (y ∷ ps) (suc r) x zero n = refl
  set_apart (y ∷ ps) (suc r) x (suc p) n = set_apart ps r x p (λ e. n (ap suc e))

  hub_kept : (c : PacketWorld H L P) (v : HubOutlook H P) (p : ℕ) → KeptAt c.links (hub_packet_move e c v).links p
  hub_kept c (HubActs next None) p = same_kept c.links p
  hub_kept c (HubActs next (Some m)) p = by (slice_get c.links m.0) refl
    where
      by : (o : Option (PacketLink L P)) → slice_get c.links m.0 ≡ o → KeptAt c.links (with_packet c.links m.0 m.1 o) p
      by None g = same_kept c.links p
      by (Some q) g = set_kept c.links m.0 q (with_sent q m.1) g (refl, refl) p
  hub_kept c HubHalts p = same_kept c.links p
  hub_kept c (HubWaits r) p = by (slice_get c.links r) refl
    where
      got : (q : PacketLink L P) (ms : List P) → slice_get c.links r ≡ Some q → KeptAt c.links (hub_takes e c r q ms).links p
      got q [] g = same_kept c.links p
      got q (m ∷ rest) g = set_kept c.links r q (record { leaf = q.leaf; out_taken = q.out_taken; out_waiting = q.out_waiting; back_taken = q.back_taken ++ m ∷ []; back_waiting = rest }) g (refl, refl) p

      by : (o : Option (PacketLink L P)) → slice_get c.links r ≡ o → KeptAt c.links (hub_waits_on e c r o).links p
      by None g = same_kept c.links p
      by (Some q) g = got q q.back_waiting g

  -- a turn of another leaf
  leaf_apart : (c : PacketWorld H L P) (r p : ℕ) → (r ≡ p → ⊥) → slice_get (packet_move_at e c r (slice_get c.links r)).links p ≡ slice_get c.links p
  leaf_apart c r p n = by (slice_get c.links r)
    where
      got : (q : PacketLink L P) (ms : List P) → slice_get (leaf_takes e c r q ms).links p ≡ slice_get c.links p
      got q [] = refl
      got q (m ∷ rest) = set_apart c.links r _ p n

      looks : (q : PacketLink L P) (v : LeafOutlook L P) → slice_get (leaf_packet_move e c r q v).links p ≡ slice_get c.links p
      looks q (LeafActs next sends) = set_apart c.links r _ p n
      looks q LeafWaits = got q q.out_waiting
      looks q LeafHalts = refl

      by : (o : Option (PacketLink L P)) → slice_get (packet_move_at e c r o).links p ≡ slice_get c.links p
      by None = refl
      by (Some q) = looks q (e.leaf_outlook q.leaf)

  -- a turn that is not taken
  leaf_idle : (c : PacketWorld H L P) (p : ℕ) → leaf_count_at e (slice_get c.links p) ≡ 0 → (packet_move_at e c p (slice_get c.links p)).links ≡ c.links
  leaf_idle c p = by (slice_get c.links p)
    where
      got : (q : PacketLink L P) (ms : List P) → waiting_count ms ≡ 0 → (leaf_takes e c p q ms).links ≡ c.links
      got q [] z = refl
      got q (m ∷ rest) z = absurd (omega arith)

      looks : (q : PacketLink L P) (v : LeafOutlook L P) → leaf_count q v ≡ 0 → (leaf_packet_move e c p q v).links ≡ c.links
      looks q (LeafActs next sends) z = absurd (omega arith)
      looks q LeafWaits z = got q q.out_waiting z
      looks q LeafHalts z = refl

      by : (o : Option (PacketLink L P)) → leaf_count_at e o ≡ 0 → (packet_move_at e c p o).links ≡ c.links
      by None z = refl
      by (Some q) z = looks q (e.leaf_outlook q.leaf) z

  move_kept : (c : PacketWorld H L P) (p : ℕ) (m : Move) → one_packet_leaf_move e c p m ≡ 0 → KeptAt c.links (packets_after e c m).links p
  move_kept c p HubMoves z = hub_kept c (e.hub_outlook c.hub) p
  move_kept c p (LeafMoves r) z = here (r == p) refl z
    where
      here : (b : Bool) → (r == p) ≡ b → (if r == p then leaf_count_at e (slice_get c.links r) else 0) ≡ 0 → KeptAt c.links (packets_after e c (LeafMoves r)).links p
      here true f z q g =
          let same : r ≡ p = eqb-true r p f in
          let n : leaf_count_at e (slice_get c.links r) ≡ 0 = sym (ap (λ (b : Bool). if b then leaf_count_at e (slice_get c.links r) else 0) f) ∙ z in
          (q, ap (λ ps. slice_get ps p) (leaf_idle c r n) ∙ g, (refl, refl))
      here false f z q g = (q, leaf_apart c r p (λ same. eqb-false r p f same) ∙ g, (refl, refl))

  pub quiet_kept : (c : PacketWorld H L P) (p : ℕ) (ms : List Move) → packet_leaf_turns e c p ms ≡ 0 → KeptAt c.links (packets_all e c ms).links p
  quiet_kept c p [] z q f = same_kept c.links p q f
  quiet_kept c p (m ∷ ms) z q f =
      let a = move_kept c p m (omega arith) q f in
      let b = quiet_kept (packets_after e c m) p ms (omega arith) a.0 a.1 in
      (b.0, b.1, (b.2.0 ∙ a.2.0, b.2.1 ∙ a.2.1))

  -- What holds of a leaf and what it has taken, from a run's start on.
  module _ (p : ℕ) (Q : L → List P → Type 0) (all : List P)
      (acts : (l next : L) (sends : List P) → e.leaf_outlook l ≡ LeafActs next sends → (old : List P) → Q l old → Q next old)
      (takes : (l : L) → e.leaf_outlook l ≡ LeafWaits → (old : List P) (x : P) (rest : List P) → old ++ x ∷ rest ≡ all → Q l old → Q (e.leaf_take l x).0 (old ++ x ∷ [])) where
    abbrev Next : List (PacketLink L P) → Type 0
    Next ps = (q1 : PacketLink L P) × (slice_get ps p ≡ Some q1) × (IsPrefix (q1.out_taken ++ q1.out_waiting) all → Q q1.leaf q1.out_taken)

    leaf_step : (c : PacketWorld H L P) (q : PacketLink L P) → slice_get c.links p ≡ Some q → Q q.leaf q.out_taken → Next (packet_move_at e c p (slice_get c.links p)).links
    leaf_step c q g h = subst (λ o. Next (packet_move_at e c p o).links) (sym g) (looks (e.leaf_outlook q.leaf) refl)
      where
        inside : p < length c.links
        inside = slice_get_within c.links p q g

        got : (ms : List P) → e.leaf_outlook q.leaf ≡ LeafWaits → Next (leaf_takes e c p q ms).links
        got [] f = (q, g, λ w. h)
        got (m ∷ rest) f = (
          record { leaf = (e.leaf_take q.leaf m).0; out_taken = q.out_taken ++ m ∷ []; out_waiting = rest; back_taken = q.back_taken; back_waiting = q.back_waiting ++ (e.leaf_take q.leaf m).1 },
          get_set c.links p _ inside,
          λ w. takes q.leaf f q.out_taken m (rest ++ w.0) (sym (append_assoc q.out_taken (m ∷ []) (rest ++ w.0)) ∙ sym (append_assoc (q.out_taken ++ m ∷ []) rest w.0) ∙ w.1) h,
        )

        looks : (v : LeafOutlook L P) → e.leaf_outlook q.leaf ≡ v → Next (leaf_packet_move e c p q v).links
        looks (LeafActs next sends) f = (record { leaf = next; out_taken = q.out_taken; out_waiting = q.out_waiting; back_taken = q.back_taken; back_waiting = q.back_waiting ++ sends }, get_set c.links p _ inside, λ w. acts q.leaf next sends f q.out_taken h)
        looks LeafWaits f = got q.out_waiting f
        looks LeafHalts f = (q, g, λ w. h)

    kept_next : (c : PacketWorld H L P) (ps : List (PacketLink L P)) (q : PacketLink L P) → Q q.leaf q.out_taken → ((q' : PacketLink L P) × (slice_get ps p ≡ Some q') × Kept q q') → Next ps
    kept_next c ps q h k = (k.0, k.1, λ w. subst (λ l. Q l k.0.out_taken) (sym k.2.0) (subst (λ o. Q q.leaf o) (sym k.2.1) h))

    inv_step : (c : PacketWorld H L P) (m : Move) (q : PacketLink L P) → slice_get c.links p ≡ Some q → Q q.leaf q.out_taken → Next (packets_after e c m).links
    inv_step c HubMoves q g h = kept_next c _ q h (hub_kept c (e.hub_outlook c.hub) p q g)
    inv_step c (LeafMoves r) q g h = here (r == p) refl
      where
        here : (b : Bool) → (r == p) ≡ b → Next (packets_after e c (LeafMoves r)).links
        here true f = subst (λ r. Next (packets_after e c (LeafMoves r)).links) (sym (eqb-true r p f)) (leaf_step c q g h)
        here false f = (q, leaf_apart c r p (λ same. eqb-false r p f same) ∙ g, λ w. h)

    pub run_inv : (c : PacketWorld H L P) (ms : List Move) (q : PacketLink L P) → slice_get c.links p ≡ Some q → Q q.leaf q.out_taken → (n : PacketLink L P) → slice_get (packets_all e c ms).links p ≡ Some n → IsPrefix (n.out_taken ++ n.out_waiting) all → Q n.leaf n.out_taken
    run_inv c [] q g h n f w = subst (λ (n : PacketLink L P). Q n.leaf n.out_taken) (same_Some q n (sym g ∙ f)) h
    run_inv c (m ∷ ms) q g h n f w =
        let one = inv_step c m q g h in
        let grown = moves_grown (packets_after e c m) ms p one.0 one.1 in
        let same : grown.0 ≡ n = same_Some grown.0 n (sym grown.1 ∙ f) in
        run_inv (packets_after e c m) ms one.0 one.1 (one.2 (on_to _ _ _ (subst (λ (n : PacketLink L P). IsPrefix (one.0.out_taken ++ one.0.out_waiting) (n.out_taken ++ n.out_waiting)) same grown.2.0) w)) n f w
