-- The hub of a star over links that only tell.
use Rattle.std.proofs.Common.{◌≡◌, ℕ, zero, suc, ◌+◌, ◌<◌, ◌≤◌, ◌⊎◌, inl, inr, List, [], ◌++◌, drop, get_or, Option, Some, None, refl, sym, ap, ◌∙◌, subst, arith}
use Rattle.std.proofs.lemmas.Option.{same_Some, none-some}
use Rattle.process_network.specs.Network.{Streams, IsMonotone, IsRun, NodeTalk}
use Rattle.process_network.specs.Star.{Star, IsStarMonotone, to_leaf}
use Rattle.process_network.specs.CalmRun.{one_if_some}
use Rattle.process_network.specs.StarTalk.{IsHubRun, StarTalk}
use Rattle.process_network.specs.TellingLinks.{IsTelling, AlwaysEnds, SendsBounded, by_port, hub_alone, HubAlwaysEnds, HubTurnsBounded, HubSendsBounded, IsFirstFixedHub, HubWorkBounded}
use Rattle.process_network.specs.PacketStar.{HubOutlook, Ends, HubEnd, star_of, fresh_hub, hub_after_take, hub_turn_by}
use Rattle.process_network.specs.PacketStar.HubOutlook.{HubActs, HubWaits, HubHalts}
use Rattle.process_network.proofs.StarView.{to_leaf_other}
use Rattle.process_network.proofs.TellingTalk.{telling_talk_ends}

module _ {H L : Type 0} (star : Star H L) (n : ℕ) (hub : H) where
  -- A turn of the process alone is one of the hub.
  turn_is : (t : Option (H × Option (ℕ × List ℕ))) (s : H) (more : Streams) → by_port n t ≡ Some (s, more) → (m : Option (ℕ × List ℕ)) × (t ≡ Some (s, m)) × ((p : ℕ) → more p ≡ to_leaf n m (suc p))
  turn_is None s more e = absurd (none-some {A = H × Streams} (s, more) e)
  turn_is (Some r) s more e =
      let same = same_Some {A = H × Streams} (r.0, λ p. to_leaf n r.1 (suc p)) (s, more) e in
      (r.1, ap (λ (h : H). Some (h, r.1)) (ap (λ (v : H × Streams). v.0) same), λ p. ap (λ (v : H × Streams). v.1 p) (sym same))

  stops : (t : Option (H × Option (ℕ × List ℕ))) → by_port n t ≡ None → t ≡ None
  stops None e = refl
  stops (Some r) e = absurd (none-some {A = H × Streams} (r.0, λ p. to_leaf n r.1 (suc p)) (sym e))

  pub run_alone : (x : Streams) (k : ℕ) (h : H) (o : Streams) → IsHubRun star n hub x k h o → IsRun (hub_alone star n hub) 0 x k h o
  run_alone x zero h o r = r
  run_alone x (suc k) h o r = (r.0, r.1, (λ p. to_leaf n r.2 (suc p)), run_alone x k r.0 r.1 r.3, ap (by_port n) r.4, r.5)

  pub alone_run : (x : Streams) (k : ℕ) (h : H) (o : Streams) → IsRun (hub_alone star n hub) 0 x k h o → IsHubRun star n hub x k h o
  alone_run x zero h o r = r
  alone_run x (suc k) h o r =
      let t = turn_is (star.hub_turn r.0 x) h r.2 r.4 in
      (r.0, r.1, t.0, alone_run x k r.0 r.1 r.3, t.1, λ p. r.5 p ∙ ap (λ v. r.1 p ++ v) (t.2 p))

  pub talk_alone : (said : ℕ → List ℕ → List ℕ) (k : ℕ) (x : Streams) → StarTalk star n hub said k x → NodeTalk (hub_alone star n hub) 0 said k x
  talk_alone said zero x t = t
  talk_alone said (suc k) x t = (t.0, t.1, t.2, t.3, talk_alone said k t.0 t.4, (run_alone t.0 t.1 t.2 t.3 t.5, ap (by_port n) t.6), t.7)

  pub alone_talk : (said : ℕ → List ℕ → List ℕ) (k : ℕ) (x : Streams) → NodeTalk (hub_alone star n hub) 0 said k x → StarTalk star n hub said k x
  alone_talk said zero x t = t
  alone_talk said (suc k) x t = (t.0, t.1, t.2, t.3, alone_talk said k t.0 t.4, alone_run t.0 t.1 t.2 t.3 t.5.0, stops (star.hub_turn t.2 t.0) t.5.1, t.6)

  alone_monotone : IsStarMonotone star → IsMonotone (hub_alone star n hub)
  alone_monotone monotone i s x y r b e =
      let t = turn_is (star.hub_turn s x) r.0 r.1 e in
      ap (by_port n) (monotone.0 s x y (r.0, t.0) b t.1) ∙ ap (λ (o : Streams). Some (r.0, o)) (λ d p. sym (t.2 p) d)

  nothing_sent : (m : Option (ℕ × List ℕ)) → one_if_some m ≡ 0 → (j : ℕ) → to_leaf n m (suc j) ≡ []
  nothing_sent None e j = refl
  nothing_sent (Some m) e j = absurd (omega arith)

  past_ports : (m : Option (ℕ × List ℕ)) (j : ℕ) → n ≤ j → to_leaf n m (suc j) ≡ []
  past_ports None j l = refl
  past_ports (Some m) j l = to_leaf_other n m (suc j) (λ i e. (omega arith))

  alone_bounded : HubSendsBounded star n hub → SendsBounded (hub_alone star n hub) 0 n
  alone_bounded bounded = record { left = bounded.left; lowers = lowers; few = few }
    where
      falls : (s : H) (r : H × Streams) (m : Option (ℕ × List ℕ)) → ((j : ℕ) → r.1 j ≡ to_leaf n m (suc j)) → bounded.left r.0 + one_if_some m ≤ bounded.left s → (bounded.left r.0 < bounded.left s) ⊎ ((bounded.left r.0 ≤ bounded.left s) × ((j : ℕ) → r.1 j ≡ []))
      falls s r None e l = inr ((omega arith), λ j. e j)
      falls s r (Some m) e l = inl (omega arith)

      lowers : (x : Streams) (k : ℕ) (s : H) (o : Streams) → IsRun (hub_alone star n hub) 0 x k s o → (r : H × Streams) → by_port n (star.hub_turn s x) ≡ Some r → (bounded.left r.0 < bounded.left s) ⊎ ((bounded.left r.0 ≤ bounded.left s) × ((j : ℕ) → r.1 j ≡ []))
      lowers x k s o run r e = let t = turn_is (star.hub_turn s x) r.0 r.1 e in falls s r t.0 t.2 (bounded.lowers x k s o (alone_run x k s o run) (r.0, t.0) t.1)

      few : (s : H) (x : Streams) (r : H × Streams) → by_port n (star.hub_turn s x) ≡ Some r → (j : ℕ) → n ≤ j → r.1 j ≡ []
      few s x r e j l = let t = turn_is (star.hub_turn s x) r.0 r.1 e in t.2 j ∙ past_ports t.0 j l

  alone_ends : HubAlwaysEnds star n hub → AlwaysEnds (hub_alone star n hub) 0
  alone_ends ends x = let r = ends x in (r.0, r.1, r.2, (run_alone x r.0 r.1 r.2 r.3, ap (by_port n) r.4))

  -- A hub that sends a bounded number of messages comes to a first fixed point of its talk, over links that only tell.
  pub hub_talk_ends : IsStarMonotone star → (said : ℕ → List ℕ → List ℕ) → IsTelling said → HubAlwaysEnds star n hub → HubSendsBounded star n hub → (k : ℕ) × (x : Streams) × (turns : ℕ) × (h : H) × (o : Streams) × IsFirstFixedHub star n hub said k x turns h o
  hub_talk_ends monotone said telling ends bounded =
      let r = telling_talk_ends (hub_alone star n hub) (alone_monotone monotone) 0 said telling (alone_ends ends) n (alone_bounded bounded) in (
        r.0,
        r.1,
        r.2,
        r.3,
        r.4,
        record {
          talk = alone_talk said r.0 r.1 r.5.talk;
          run = alone_run r.1 r.2 r.3 r.4 r.5.run.0;
          stop = stops (star.hub_turn r.3 r.1) r.5.run.1;
          fixed = r.5.fixed;
          first = λ i y m g u l talk run stop fixed. r.5.first i y m g u l (talk_alone said i y talk) (run_alone y m g u run, ap (by_port n) stop) fixed;
        },
      )

  -- A hub that takes a bounded number of turns comes to the end of them, and sends a bounded number of messages.
  pub turns_end : HubTurnsBounded star n hub → HubAlwaysEnds star n hub
  turns_end bounded x = go (bounded.left hub) 0 hub (λ p. []) (refl, λ p. refl) (omega arith)
    where
      go : (d k : ℕ) (h : H) (o : Streams) → IsHubRun star n hub x k h o → bounded.left h ≤ d → (k : ℕ) × (h : H) × (o : Streams) × IsHubRun star n hub x k h o × (star.hub_turn h x ≡ None)
      go zero k h o run l = at (star.hub_turn h x) refl
        where
          at : (r : Option (H × Option (ℕ × List ℕ))) → star.hub_turn h x ≡ r → (k : ℕ) × (h : H) × (o : Streams) × IsHubRun star n hub x k h o × (star.hub_turn h x ≡ None)
          at None e = (k, h, o, run, e)
          at (Some r) e = absurd (let f = bounded.lowers x k h o run r e in omega arith)
      go (suc d) k h o run l = at (star.hub_turn h x) refl (λ r e. go d (suc k) r.0 (λ p. o p ++ to_leaf n r.1 (suc p)) (h, o, r.1, run, e, λ p. refl) (let f = bounded.lowers x k h o run r e in omega arith))
        where
          at : (r : Option (H × Option (ℕ × List ℕ))) → star.hub_turn h x ≡ r → ((r : H × Option (ℕ × List ℕ)) → star.hub_turn h x ≡ Some r → (k : ℕ) × (h : H) × (o : Streams) × IsHubRun star n hub x k h o × (star.hub_turn h x ≡ None)) → (k : ℕ) × (h : H) × (o : Streams) × IsHubRun star n hub x k h o × (star.hub_turn h x ≡ None)
          at None e next = (k, h, o, run, e)
          at (Some r) e next = next r e

  pub turns_send : HubTurnsBounded star n hub → HubSendsBounded star n hub
  turns_send bounded = record { left = bounded.left; lowers = λ x k h o run r e. let f = bounded.lowers x k h o run r e in let l = one_at_most r.1 in omega arith }
    where
      one_at_most : (m : Option (ℕ × List ℕ)) → one_if_some m ≤ 1
      one_at_most None = omega arith
      one_at_most (Some m) = omega arith

-- A hub of packets whose work is bounded takes a bounded number of turns.
pub packet_turns_bounded : {H L P : Type 0} (e : Ends H L P) (n : ℕ) (hub : H) → HubWorkBounded e n hub → HubTurnsBounded (star_of e) n (fresh_hub hub n)
packet_turns_bounded {H} {L} {P} e n hub bounded = record { left = λ s. bounded.left s.core; lowers = λ x k s o run r t. turn x k s o run (e.hub_outlook s.core) refl r t }
  where
    take : (x : Streams) (k : ℕ) (s : HubEnd H) (o : Streams) → IsHubRun (star_of e) n (fresh_hub hub n) x k s o → (p : ℕ) (m : Option (P × ℕ)) → e.hub_outlook s.core ≡ HubWaits p → (r : HubEnd H × Option (ℕ × List ℕ)) → hub_after_take e s p m ≡ Some r → bounded.left r.0.core < bounded.left s.core
    take x k s o run p None w r t = absurd (none-some {A = HubEnd H × Option (ℕ × List ℕ)} r t)
    take x k s o run p (Some m) w r t = subst (λ (v : HubEnd H × Option (ℕ × List ℕ)). bounded.left v.0.core < bounded.left s.core) (same_Some {A = HubEnd H × Option (ℕ × List ℕ)} _ r t) (bounded.takes x k s o run p m.0 w)

    turn : (x : Streams) (k : ℕ) (s : HubEnd H) (o : Streams) → IsHubRun (star_of e) n (fresh_hub hub n) x k s o → (v : HubOutlook H P) → e.hub_outlook s.core ≡ v → (r : HubEnd H × Option (ℕ × List ℕ)) → hub_turn_by e s x v ≡ Some r → bounded.left r.0.core < bounded.left s.core
    turn x k s o run (HubActs next sends) w r t = subst (λ (v : HubEnd H × Option (ℕ × List ℕ)). bounded.left v.0.core < bounded.left s.core) (same_Some {A = HubEnd H × Option (ℕ × List ℕ)} _ r t) (bounded.acts x k s o run next sends w)
    turn x k s o run (HubWaits p) w r t = take x k s o run p (e.first (drop (get_or s.taken p 0) (x p))) w r t
    turn x k s o run HubHalts w r t = absurd (none-some {A = HubEnd H × Option (ℕ × List ℕ)} r t)

-- Its talk over links that only tell has a first fixed point.
pub packet_talk_ends : {H L P : Type 0} (e : Ends H L P) (n : ℕ) (hub : H) → IsStarMonotone (star_of e) → HubWorkBounded e n hub → (said : ℕ → List ℕ → List ℕ) → IsTelling said → (k : ℕ) × (x : Streams) × (turns : ℕ) × (h : HubEnd H) × (o : Streams) × IsFirstFixedHub (star_of e) n (fresh_hub hub n) said k x turns h o
packet_talk_ends e n hub monotone bounded said telling =
    let turns = packet_turns_bounded e n hub bounded in
    hub_talk_ends (star_of e) n (fresh_hub hub n) monotone said telling (turns_end (star_of e) n (fresh_hub hub n) turns) (turns_send (star_of e) n (fresh_hub hub n) turns)
