-- An end that takes whole packets takes no more than it received.
use Rattle.std.proofs.Common.{◌≡◌, ℕ, zero, suc, ◌+◌, ◌≤◌, List, [], ◌∷◌, length, drop, get_or, set, map, replicate, Option, Some, None, slice_get, refl, sym, ap, subst, arith, length-drop}
use Rattle.std.proofs.lemmas.Option.{none-some, same_Some}
use Rattle.process_network.specs.Network.{Streams}
use Rattle.process_network.specs.PacketProcesses.{IsDecided}
use Rattle.process_network.specs.Star.{Cursors}
use Rattle.process_network.specs.PacketStar.{HubOutlook, LeafOutlook, Ends, HubEnd, LeafEnd, hub_turn_by, hub_after_take, leaf_turn_by, leaf_after_take, star_of, fresh_hub, fresh_leaf}
use Rattle.process_network.specs.PacketStar.HubOutlook.{HubActs, HubWaits, HubHalts}
use Rattle.process_network.specs.PacketStar.LeafOutlook.{LeafActs, LeafWaits, LeafHalts}

pub zero_at : (n p : ℕ) → ◌≡◌ {A = ℕ} (get_or (replicate n 0) p 0) 0
zero_at zero p = refl
zero_at (suc n) zero = refl
zero_at (suc n) (suc p) = zero_at n p

set_within : (ts : List ℕ) (q v : ℕ) (bound : ℕ → ℕ) → ((p : ℕ) → get_or ts p 0 ≤ bound p) → v ≤ bound q → (p : ℕ) → get_or (set ts q v) p 0 ≤ bound p
set_within [] q v bound all l p = all p
set_within (t ∷ ts) zero v bound all l zero = l
set_within (t ∷ ts) zero v bound all l (suc p) = all (suc p)
set_within (t ∷ ts) (suc q) v bound all l zero = all zero
set_within (t ∷ ts) (suc q) v bound all l (suc p) = set_within ts q v (λ p. bound (suc p)) (λ p. all (suc p)) l p

pub fresh_taken : {L : Type 0} (ls : List L) (p : ℕ) (l : LeafEnd L) → slice_get (map fresh_leaf ls) p ≡ Some l → l.taken ≡ 0
fresh_taken {L} [] p l e = absurd (none-some {A = LeafEnd L} l e)
fresh_taken {L} (x ∷ ls) zero l e = ap (λ (l : LeafEnd L). l.taken) (sym (same_Some (fresh_leaf x) l e))
fresh_taken (x ∷ ls) (suc p) l e = fresh_taken ls p l e

module _ {H L P : Type 0} (e : Ends H L P) (decided : IsDecided e.first) where
  -- what is first is within what was received
  first_within : (t : ℕ) (xs : List ℕ) (r : P × ℕ) → t ≤ length xs → e.first (drop t xs) ≡ Some r → t + r.1 ≤ length xs
  first_within t xs r l f = let d = decided (drop t xs) [] r f in let n = length-drop t xs in omega arith

  pub hub_stays : (s : HubEnd H) (x : Streams) (r : HubEnd H × Option (ℕ × List ℕ)) → ((p : ℕ) → get_or s.taken p 0 ≤ length (x p)) → (v : HubOutlook H P) → hub_turn_by e s x v ≡ Some r → (p : ℕ) → get_or r.0.taken p 0 ≤ length (x p)
  hub_stays s x r l (HubActs next sends) t p = subst (λ (r : HubEnd H × Option (ℕ × List ℕ)). get_or r.0.taken p 0 ≤ length (x p)) (same_Some _ r t) (l p)
  hub_stays s x r l HubHalts t p = absurd (none-some r t)
  hub_stays s x r l (HubWaits q) t p = after_take (e.first (drop (get_or s.taken q 0) (x q))) refl t
    where
      after_take : (o : Option (P × ℕ)) → e.first (drop (get_or s.taken q 0) (x q)) ≡ o → hub_after_take e s q o ≡ Some r → get_or r.0.taken p 0 ≤ length (x p)
      after_take None f t = absurd (none-some r t)
      after_take (Some m) f t = subst (λ (r : HubEnd H × Option (ℕ × List ℕ)). get_or r.0.taken p 0 ≤ length (x p)) (same_Some _ r t)
          (set_within s.taken q (get_or s.taken q 0 + m.1) (λ p. length (x p)) l (first_within (get_or s.taken q 0) (x q) m (l q) f) p)

  pub leaf_stays : (s : LeafEnd L) (x : List ℕ) (r : LeafEnd L × List ℕ) → s.taken ≤ length x → (v : LeafOutlook L P) → leaf_turn_by e s x v ≡ Some r → r.0.taken ≤ length x
  leaf_stays s x r l (LeafActs next sends) t = subst (λ (r : LeafEnd L × List ℕ). r.0.taken ≤ length x) (same_Some _ r t) l
  leaf_stays s x r l LeafHalts t = absurd (none-some r t)
  leaf_stays s x r l LeafWaits t = after_take (e.first (drop s.taken x)) refl t
    where
      after_take : (o : Option (P × ℕ)) → e.first (drop s.taken x) ≡ o → leaf_after_take e s o ≡ Some r → r.0.taken ≤ length x
      after_take None f t = absurd (none-some r t)
      after_take (Some m) f t = subst (λ (r : LeafEnd L × List ℕ). r.0.taken ≤ length x) (same_Some _ r t) (first_within s.taken x m l f)

  abbrev pub packet_cursors : (hub : H) (n : ℕ) (leaves : List L) → Cursors (star_of e) (fresh_hub hub n) (map fresh_leaf leaves)
  packet_cursors hub n leaves = record {
    hub_taken = λ s p. get_or s.taken p 0;
    leaf_taken = λ s. s.taken;
    hub_start = λ p. zero_at n p;
    leaf_start = λ p l g. fresh_taken leaves p l g;
    hub_within = λ s x r l t p. hub_stays s x r l (e.hub_outlook s.core) t p;
    leaf_within = λ s x r l t. leaf_stays s x r l (e.leaf_outlook s.core) t;
  }
