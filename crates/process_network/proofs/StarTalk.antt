-- The hub over honest links ends as in the calm run.
use Rattle.std.proofs.Common.{◌≡◌, ℕ, zero, suc, ◌≢◌, inl, inr, List, [], ◌++◌, length, map, Option, Some, None, slice_get, refl, sym, ap, ap₂, ◌∙◌, subst, arith}
use Rattle.process_network.specs.Network.{IsPrefix, Streams, Below, Network, World, start, Step, after_all, IsQuiescent, IsRun, IsMaximalRun, NodeTalk, only, IsHonest, IsStar, turns}
use Rattle.process_network.specs.Star.{Star, IsStarMonotone, Link, StarNode, leaf_of, sent_at, view, to_leaf, hub_result, leaf_result, star_network, net_step}
use Rattle.process_network.specs.Star.StarNode.{Hub, Leaf, Absent}
use Rattle.process_network.specs.CalmRun.{Calm, Move, traffic_at, calm_all, calm_start, IsAtRest, script_of, all_delivered}
use Rattle.process_network.specs.StarTalk.{IsHubRun, IsLeafRun, IsHonestStar, StarTalk}
use Rattle.process_network.proofs.Prefixes.{update_all, update_other, prefix_refl}
use Rattle.process_network.proofs.ReachableWorlds.{final_closed}
use Rattle.process_network.proofs.QuiescentWorlds.{script_final}
use Rattle.process_network.proofs.StarView.{to_leaf_other}
use Rattle.process_network.proofs.StarTheorem.{star_monotone, from_start, net_quiescent, same_hub}
use Rattle.process_network.proofs.CalmRuns.{script_ends, script_quiescent, link_calm}
use Rattle.process_network.proofs.NetworkTalk.{talk_same, drive_same, received_from_under}

-- streams by port, as streams by node
abbrev shift : Streams → Streams
shift x zero = []
shift x (suc p) = x p

abbrev shift_said : (ℕ → List ℕ → List ℕ) → ℕ → List ℕ → List ℕ
shift_said said zero y = []
shift_said said (suc p) y = said p y

shift_below : (x y : Streams) → Below x y → Below (shift x) (shift y)
shift_below x y b zero = prefix_refl []
shift_below x y b (suc p) = b p

module _ {H L : Type 0} (star : Star H L) (hub : H) (leaves : List L) where
  hub_runs_net : (x : Streams) (k : ℕ) (h : H) (o : Streams) → IsHubRun star (length leaves) hub x k h o → IsRun (star_network star hub leaves) 0 (shift x) k (Hub h) (shift o)
  hub_runs_net x zero h o r = (ap Hub r.0, sends)
    where
      sends : (j : ℕ) → shift o j ≡ []
      sends zero = refl
      sends (suc p) = r.1 p
  hub_runs_net x (suc k) h o r = (Hub r.0, shift r.1, to_leaf (length leaves) r.2, hub_runs_net x k r.0 r.1 r.3, ap (hub_result (length leaves)) r.4, sends)
    where
      none_to_hub : (m : Option (ℕ × List ℕ)) → to_leaf (length leaves) m 0 ≡ []
      none_to_hub None = refl
      none_to_hub (Some m) = to_leaf_other (length leaves) m 0 (λ l e. (omega arith))

      sends : (j : ℕ) → shift o j ≡ shift r.1 j ++ to_leaf (length leaves) r.2 j
      sends zero = sym (none_to_hub r.2)
      sends (suc p) = r.5 p

  leaf_runs_net : (p : ℕ) (l : L) → slice_get leaves p ≡ Some l → (y : List ℕ) (k : ℕ) (l' : L) (o : List ℕ) → IsLeafRun star l y k l' o → IsRun (star_network star hub leaves) (suc p) (only 0 y) k (Leaf l') (only 0 o)
  leaf_runs_net p l e y zero l' o r = (ap Leaf r.0 ∙ sym (ap leaf_of e), update_all (λ j (t : List ℕ). t ≡ []) (λ j. []) 0 o r.1 (λ j ne. refl))
  leaf_runs_net p l e y (suc k) l' o r = (Leaf r.0, only 0 r.1, only 0 r.2, leaf_runs_net p l e y k r.0 r.1 r.3, ap leaf_result r.4, sends)
    where
      sends : (j : ℕ) → only 0 o j ≡ only 0 r.1 j ++ only 0 r.2 j
      sends zero = r.5
      sends (suc q) = update_other (λ j. []) 0 o (suc q) (λ e. (omega arith)) ∙ sym (ap₂ ◌++◌ (update_other (λ j. []) 0 r.1 (suc q) (λ e. (omega arith))) (update_other (λ j. []) 0 r.2 (suc q) (λ e. (omega arith))))

  honest_net : (said : ℕ → List ℕ → List ℕ) → IsHonestStar star leaves said → IsHonest (star_network star hub leaves) 0 (shift_said said)
  honest_net said honest zero = inl (refl, λ y. refl)
  honest_net said honest (suc p) = inr ((λ e. (omega arith)), λ y. at y (slice_get leaves p) refl)
    where
      at : (y : List ℕ) (o : Option L) → slice_get leaves p ≡ o → (n : ℕ) × (s : StarNode H L) × (o : Streams) × IsMaximalRun (star_network star hub leaves) (suc p) (only 0 y) n s o × (o 0 ≡ said p y)
      at y (Some l) e = let r = honest.leaf p l e y in (r.0, Leaf r.1, only 0 (said p y), (leaf_runs_net p l e y r.0 r.1 (said p y) r.2, ap leaf_result r.3), refl)
      at y None e = (0, Absent, (λ j. []), ((sym (ap leaf_of e), λ j. refl), refl), sym (honest.none p e y))

module _ {H L : Type 0} (star : Star H L) (monotone : IsStarMonotone star) (hub : H) (leaves : List L) (moves : List Move) (rest : IsAtRest star (calm_all star (calm_start hub leaves) moves)) (said : ℕ → List ℕ → List ℕ) (honest : IsHonestStar star leaves said) where
  abbrev final : Calm H L
  final = calm_all star (calm_start hub leaves) moves

  abbrev net : Network (StarNode H L)
  net = star_network star hub leaves

  abbrev script : List Step
  script = map net_step (script_of star (calm_start hub leaves) moves)

  quiescent : IsQuiescent net (after_all net (start net) script)
  quiescent = net_quiescent star monotone hub leaves (script_of star (calm_start hub leaves) moves) (script_quiescent star monotone hub leaves moves rest)

  ends : view (all_delivered final) ≡ after_all net (start net) script
  ends = ap view (sym (script_ends star monotone hub leaves moves rest)) ∙ from_start star hub leaves (script_of star (calm_start hub leaves) moves)

  is_star : IsStar (after_all net (start net) script) 0
  is_star = subst (λ (v : World (StarNode H L)). IsStar v 0) ends (record { apart = apart; self = refl })
    where
      apart : (i j : ℕ) → i ≢ 0 → j ≢ 0 → sent_at (all_delivered final).links i j ≡ []
      apart zero j a b = absurd (a refl)
      apart (suc p) zero a b = absurd (b refl)
      apart (suc p) (suc q) a b = refl

  back_is : (p : ℕ) → (after_all net (start net) script).sent (suc p) 0 ≡ (traffic_at final.traffic p).1
  back_is p = ap (λ (v : World (StarNode H L)). v.sent (suc p) 0) (sym ends) ∙ ap (λ (l : Link). l.back) (link_calm final p)

  out_is : (p : ℕ) → (after_all net (start net) script).sent 0 (suc p) ≡ (traffic_at final.traffic p).0
  out_is p = ap (λ (v : World (StarNode H L)). v.sent 0 (suc p)) (sym ends) ∙ ap (λ (l : Link). l.out) (link_calm final p)

  no_self : (after_all net (start net) script).sent 0 0 ≡ []
  no_self = is_star.self

  below_net : (x : Streams) → ((p : ℕ) → IsPrefix (x p) (traffic_at final.traffic p).1) → Below (shift x) (λ j. (after_all net (start net) script).sent j 0)
  below_net x b zero = ((after_all net (start net) script).sent 0 0, refl)
  below_net x b (suc p) = subst (λ t. IsPrefix (x p) t) (sym (back_is p)) (b p)

  same_state : (h : H) → ◌≡◌ {A = StarNode H L} (Hub h) ((after_all net (start net) script).state 0) → h ≡ final.hub
  same_state h e = same_hub {L = L} h final.hub (e ∙ ap (λ (v : World (StarNode H L)). v.state 0) (sym ends))

  shift_received : (x o : Streams) → ((p : ℕ) → IsPrefix (x p) (said p (o p))) → Below (shift x) (λ j. shift_said said j (shift o j))
  shift_received x o b zero = prefix_refl []
  shift_received x o b (suc p) = b p

  -- While the hub has received no more than a beginning of the traffic, its links give no more than that.
  pub link_gives : (x : Streams) (k : ℕ) (h : H) (o : Streams) → ((p : ℕ) → IsPrefix (x p) (traffic_at final.traffic p).1) → IsHubRun star (length leaves) hub x k h o → (p : ℕ) → IsPrefix (said p (o p)) (traffic_at final.traffic p).1
  link_gives x k h o b run p =
      subst (λ t. IsPrefix (said p (o p)) t) (back_is p)
      (received_from_under net (star_monotone star monotone hub leaves) 0 (shift_said said) (honest_net star hub leaves said honest) (after_all net (start net) script).sent
      (final_closed net (after_all net (start net) script) (turns net script) (script_final net (star_monotone star monotone hub leaves) script quiescent))
      (shift x) k (Hub h) (shift o) (below_net x b) (hub_runs_net star hub leaves x k h o run) (suc p))

  -- A hub that no more of what its links give would move is where it ends in the calm run, and has sent what it sends there.
  pub driven : (x : Streams) (k : ℕ) (h : H) (o : Streams) → ((p : ℕ) → IsPrefix (x p) (traffic_at final.traffic p).1) → ((p : ℕ) → IsPrefix (x p) (said p (o p))) → IsHubRun star (length leaves) hub x k h o → star.hub_turn h (λ p. said p (o p)) ≡ None → (h ≡ final.hub) × ((p : ℕ) → o p ≡ (traffic_at final.traffic p).0)
  driven x k h o b hub_received run stop =
      let r = drive_same net (star_monotone star monotone hub leaves) script quiescent 0 (shift_said said) (honest_net star hub leaves said honest) is_star (shift x) k (Hub h) (shift o) (below_net x b) (shift_received x o hub_received) (hub_runs_net star hub leaves x k h o run) (ap (hub_result (length leaves)) stop) in
      (same_state h r.0, λ p. r.1 (suc p) ∙ out_is p)

  talk_net : (k : ℕ) (x : Streams) → StarTalk star (length leaves) hub said k x → NodeTalk net 0 (shift_said said) k (shift x)
  talk_net zero x t = at
    where
      at : (j : ℕ) → shift x j ≡ shift_said said j []
      at zero = refl
      at (suc p) = t p
  talk_net (suc k) x t = (shift t.0, t.1, Hub t.2, shift t.3, talk_net k t.0 t.4, (hub_runs_net star hub leaves t.0 t.1 t.2 t.3 t.5, ap (hub_result (length leaves)) t.6), at)
    where
      at : (j : ℕ) → shift x j ≡ shift_said said j (shift t.3 j)
      at zero = refl
      at (suc p) = t.7 p

  -- Talk has its fixed point where the calm run ends.
  pub talk_ends : (k : ℕ) (x : Streams) → StarTalk star (length leaves) hub said k x → (t : ℕ) (h : H) (o : Streams) → IsHubRun star (length leaves) hub x t h o → star.hub_turn h x ≡ None → ((p : ℕ) → x p ≡ said p (o p)) → (h ≡ final.hub) × ((p : ℕ) → o p ≡ (traffic_at final.traffic p).0) × ((p : ℕ) → x p ≡ (traffic_at final.traffic p).1)
  talk_ends k x talk t h o run stop fixed =
      let r = talk_same net (star_monotone star monotone hub leaves) script quiescent 0 (shift_said said) (honest_net star hub leaves said honest) is_star k (shift x) t (Hub h) (shift o) (talk_net k x talk)
      (hub_runs_net star hub leaves x t h o run, ap (hub_result (length leaves)) stop) fixed_net in
      (same_state h r.0, λ p. r.1 (suc p) ∙ out_is p, λ p. r.2 (suc p) ∙ back_is p)
    where
      fixed_net : (j : ℕ) → shift x j ≡ shift_said said j (shift o j)
      fixed_net zero = refl
      fixed_net (suc p) = fixed p
