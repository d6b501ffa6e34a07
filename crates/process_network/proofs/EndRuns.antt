-- In every schedule the hub and each leaf are where their own runs over the received bytes are.
use Rattle.std.proofs.Common.{◌≡◌, ℕ, zero, suc, List, ◌++◌, length, map, Option, Some, None, slice_get, refl, sym, ap, ◌∙◌, subst}
use Rattle.std.proofs.lemmas.Option.{none-some, same_Some}
use Rattle.process_network.specs.Network.{Streams, World, received, IsRun, only, turns}
use Rattle.process_network.specs.Star.{Star, IsStarMonotone, StarWorld, link, hub_received, leaf_received, StarStep, star_all, star_start, StarNode, leaf_of, view, to_leaf, hub_result, leaf_result, star_network, net_step}
use Rattle.process_network.specs.Star.StarNode.{Hub, Leaf}
use Rattle.process_network.specs.StarTalk.{IsHubRun, IsLeafRun}
use Rattle.process_network.proofs.QuiescentWorlds.{schedule_run}
use Rattle.process_network.proofs.StarTheorem.{star_monotone, from_start, same_hub, same_leaf}

module _ {H L : Type 0} (star : Star H L) (hub : H) (leaves : List L) where
  abbrev HasLeafRun : (l : L) (x : Streams) (k : ℕ) (s : StarNode H L) (o : Streams) → Type 0
  HasLeafRun l x k s o = (l' : L) × (s ≡ Leaf l') × IsLeafRun star l (x 0) k l' (o 0)

  leaf_next : (p : ℕ) (l : L) (x : Streams) (k : ℕ) (s : StarNode H L) (o : Streams) (h : IsRun (star_network star hub leaves) (suc p) x (suc k) s o) → HasLeafRun l x k h.0 h.1 → HasLeafRun l x (suc k) s o
  leaf_next p l x k s o h ih = go (star.leaf_turn ih.0 (x 0)) refl (ap (λ t. (star_network star hub leaves).turn (suc p) t x) (sym ih.1) ∙ h.4)
    where
      go : (r : Option (L × List ℕ)) → star.leaf_turn ih.0 (x 0) ≡ r → leaf_result r ≡ Some (s, h.2) → HasLeafRun l x (suc k) s o
      go None t e' = absurd (none-some {A = StarNode H L × Streams} (s, h.2) e')
      go (Some r) t e' =
          let same = same_Some {A = StarNode H L × Streams} (Leaf r.0, only 0 r.1) (s, h.2) e' in
          (r.0, sym (ap (λ (v : StarNode H L × Streams). v.0) same), (ih.0, h.1 0, r.1, ih.2, t, h.5 0 ∙ ap (λ (v : StarNode H L × Streams). h.1 0 ++ v.1 0) (sym same)))

  leaf_runs : (p : ℕ) (l : L) → slice_get leaves p ≡ Some l → (x : Streams) (k : ℕ) (s : StarNode H L) (o : Streams) → IsRun (star_network star hub leaves) (suc p) x k s o → HasLeafRun l x k s o
  leaf_runs p l e x zero s o h = (l, h.0 ∙ ap leaf_of e, (refl, h.1 0))
  leaf_runs p l e x (suc k) s o h = leaf_next p l x k s o h (leaf_runs p l e x k h.0 h.1 h.3)

  abbrev HasHubRun : (x : Streams) (k : ℕ) (s : StarNode H L) (o : Streams) → Type 0
  HasHubRun x k s o = (h : H) × (s ≡ Hub h) × IsHubRun star (length leaves) hub (λ p. x (suc p)) k h (λ p. o (suc p))

  hub_next : (x : Streams) (k : ℕ) (s : StarNode H L) (o : Streams) (h : IsRun (star_network star hub leaves) 0 x (suc k) s o) → HasHubRun x k h.0 h.1 → HasHubRun x (suc k) s o
  hub_next x k s o h ih = go (star.hub_turn ih.0 (λ p. x (suc p))) refl (ap (λ t. (star_network star hub leaves).turn 0 t x) (sym ih.1) ∙ h.4)
    where
      go : (r : Option (H × Option (ℕ × List ℕ))) → star.hub_turn ih.0 (λ p. x (suc p)) ≡ r → hub_result (length leaves) r ≡ Some (s, h.2) → HasHubRun x (suc k) s o
      go None t e' = absurd (none-some {A = StarNode H L × Streams} (s, h.2) e')
      go (Some r) t e' =
          let same = same_Some {A = StarNode H L × Streams} (Hub r.0, to_leaf (length leaves) r.1) (s, h.2) e' in
          (r.0, sym (ap (λ (v : StarNode H L × Streams). v.0) same), (ih.0, (λ p. h.1 (suc p)), r.1, ih.2, t, λ p. h.5 (suc p) ∙ ap (λ (v : StarNode H L × Streams). h.1 (suc p) ++ v.1 (suc p)) (sym same)))

  hub_runs : (x : Streams) (k : ℕ) (s : StarNode H L) (o : Streams) → IsRun (star_network star hub leaves) 0 x k s o → HasHubRun x k s o
  hub_runs x zero s o h = (hub, h.0, (refl, λ p. h.1 (suc p)))
  hub_runs x (suc k) s o h = hub_next x k s o h (hub_runs x k h.0 h.1 h.3)

module _ {H L : Type 0} (star : Star H L) (monotone : IsStarMonotone star) (hub : H) (leaves : List L) (ss : List StarStep) where
  abbrev world : StarWorld H L
  world = star_all star (star_start hub leaves) ss

  view_runs : (i : ℕ) → IsRun (star_network star hub leaves) i (received (view world) i) (turns (star_network star hub leaves) (map net_step ss) i) ((view world).state i) ((view world).sent i)
  view_runs i = subst (λ (v : World (StarNode H L)). IsRun (star_network star hub leaves) i (received v i) (turns (star_network star hub leaves) (map net_step ss) i) (v.state i) (v.sent i)) (sym (from_start star hub leaves ss)) ((schedule_run (star_network star hub leaves) (star_monotone star monotone hub leaves) (map net_step ss)).runs i)

  pub star_hub_runs : (k : ℕ) × IsHubRun star (length leaves) hub (hub_received world) k world.hub (λ p. (link world p).out)
  star_hub_runs =
      let k : ℕ = turns (star_network star hub leaves) (map net_step ss) 0 in
      let r = hub_runs star hub leaves (received (view world) 0) k ((view world).state 0) ((view world).sent 0) (view_runs 0) in
      (k, subst (λ h. IsHubRun star (length leaves) hub (hub_received world) k h (λ p. (link world p).out)) (sym (same_hub {L = L} world.hub r.0 r.1)) r.2)

  pub star_leaf_runs : (p : ℕ) (l : L) → slice_get leaves p ≡ Some l → (k : ℕ) × (l' : L) × (slice_get world.leaves p ≡ Some l') × IsLeafRun star l (leaf_received world p) k l' (link world p).back
  star_leaf_runs p l e =
      let k : ℕ = turns (star_network star hub leaves) (map net_step ss) (suc p) in
      let r = leaf_runs star hub leaves p l e (received (view world) (suc p)) k ((view world).state (suc p)) ((view world).sent (suc p)) (view_runs (suc p)) in
      (k, r.0, same_leaf {H = H} (slice_get world.leaves p) (Some r.0) r.1, r.2)
