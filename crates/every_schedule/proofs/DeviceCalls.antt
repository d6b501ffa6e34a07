-- The calls that a port's wire keeps are the direct machine's calls of that port, with port 0.
use Rattle.std.proofs.Common.{◌≡◌, ℕ, zero, suc, ◌≤◌, ◌⊎◌, inl, inr, Bool, true, false, List, [], ◌∷◌, ◌++◌, set, map, Option, Some, None, is_some, slice_get, refl, sym, ap, ap₂, ◌∙◌, subst, arith, append-nil}
use Rattle.std.specs.Prelude.{nat_eq, if◌then◌else◌}
use Rattle.std.proofs.lemmas.Bool.{eqb-true}
use Rattle.std.proofs.lemmas.Option.{none-some, same_Some}
use Rattle.cosim_model.specs.declared.values.Access.{Access}
use Rattle.cosim_model.specs.declared.values.Answer.{Answer}
use Rattle.cosim_model.specs.declared.values.Want.{Want}
use Rattle.cosim_model.specs.declared.values.Reply.{Reply}
use Rattle.cosim_model.specs.declared.values.Call.{Call}
use Rattle.cosim_model.specs.declared.values.Bus.{Bus}
use Rattle.cosim_model.specs.Values.{plain}
use Rattle.cosim_model.specs.declared.values.Call.TheVariants as call
use Rattle.cosim_model.specs.Parts.{DeviceModel, MasterModel, IsDevice, served}
use Rattle.cosim_model.specs.Packets.{Packet}
use Rattle.cosim_model.specs.declared.values.Plan.{Plan}
use Rattle.ends_model.specs.MachineTurn.{least, at_quantum}
use Rattle.every_schedule.specs.Wires.{Wire, unread, sends_of, early, gathered_by, fed_wire, sync_sent, access_wire, access_sent, wired}
use Rattle.cosim_model.specs.Direct.{Direct, mark, unit, unit_of, access_device, boundary, boundary_if, met_quantum, direct_from, advance_all, serve_all, serve_one, serve_next, serve_device, serve_want, all_left, want_time}
use Rattle.ends_model.specs.World.{of_port, own_call}
use Rattle.every_schedule.proofs.Base.{same_number}
use Rattle.every_schedule.proofs.Lists.{unmapped}

of_append : (p : ℕ) (a b : List Call) → of_port p (a ++ b) ≡ of_port p a ++ of_port p b
of_append p [] b = refl
of_append p (c ∷ a) b = ap (λ t. own_call p c t) (of_append p a b) ∙ own_append p c (of_port p a) (of_port p b)
  where
    keep : (b : Bool) (x : Call) (u v : List Call) → (if b then x ∷ (u ++ v) else (u ++ v)) ≡ (if b then x ∷ u else u) ++ v
    keep true x u v = refl
    keep false x u v = refl

    own_append : (p : ℕ) (c : Call) (u v : List Call) → own_call p c (u ++ v) ≡ own_call p c u ++ v
    own_append p (call.Access t q a x) u v = keep (nat_eq q p) (call.Access t 0 a x) u v
    own_append p (call.Served t q due w r) u v = keep (nat_eq q p) (call.Served t 0 due w r) u v

-- what stands in a list with one place set
pub set_cases : {A : Type 0} (xs : List A) (p : ℕ) (y : A) (q : ℕ) (x : A) → slice_get (set xs p y) q ≡ Some x → ((nat_eq p q ≡ true) × (x ≡ y)) ⊎ ((nat_eq p q ≡ false) × (slice_get xs q ≡ Some x))
set_cases xs p y q x g = go (nat_eq p q) refl
  where
    same : {A : Type 0} (xs : List A) (p : ℕ) (y x : A) → slice_get (set xs p y) p ≡ Some x → x ≡ y
    same [] p y x g = absurd (none-some x g)
    same (z ∷ xs) zero y x g = sym (same_Some y x g)
    same (z ∷ xs) (suc p) y x g = same xs p y x g

    other : {A : Type 0} (xs : List A) (p : ℕ) (y : A) (q : ℕ) → (p ≡ q → ⊥) → slice_get (set xs p y) q ≡ slice_get xs q
    other [] p y q n = refl
    other (z ∷ xs) zero y zero n = absurd (n refl)
    other (z ∷ xs) zero y (suc q) n = refl
    other (z ∷ xs) (suc p) y zero n = refl
    other (z ∷ xs) (suc p) y (suc q) n = other xs p y q (λ e. n (ap suc e))

    go : (b : Bool) → nat_eq p q ≡ b → ((nat_eq p q ≡ true) × (x ≡ y)) ⊎ ((nat_eq p q ≡ false) × (slice_get xs q ≡ Some x))
    go true e = inl (e, same xs p y x (subst (λ q. slice_get (set xs p y) q ≡ Some x) (sym (eqb-true p q e)) g))
    go false e = inr (e, sym (other xs p y q (λ f. true_false (sym (ap (λ q. nat_eq p q) (sym f) ∙ same_number p) ∙ e))) ∙ g)
      where
        true_false : true ≡ false → ⊥
        true_false e = cc

module _ {M S : Type 0} (F : Type 0) (k : MasterModel M) (d : DeviceModel S) (plan : Plan) (laws : IsDevice d) where
  abbrev Keeps : Direct M (Wire S) → Type 0
  Keeps r = (p : ℕ) (w : Wire S) → slice_get r.devices p ≡ Some w → (d.seen w.device ≤ r.tick) × (w.calls ≡ of_port p r.calls)

  -- at a boundary
  abbrev KeepsNow : Direct M (Wire S) → Type 0
  KeepsNow r = (p : ℕ) (w : Wire S) → slice_get r.devices p ≡ Some w → (d.seen w.device ≡ r.tick) × (w.calls ≡ of_port p r.calls)

  gathered_calls : (w : Wire S) (h : Bool) (o : Option Want) (ms : List Packet) → ((gathered_by w h o ms).calls ≡ w.calls) × ((gathered_by w h o ms).device ≡ w.device)
  gathered_calls w true o ms = (refl, refl)
  gathered_calls w false None [] = (refl, refl)
  gathered_calls w false None (m ∷ ms) = (refl, refl)
  gathered_calls w false (Some v) [] = (refl, refl)
  gathered_calls w false (Some v) (m ∷ ms) = (refl, refl)

  early_keeps : (w : Wire S) (ms : List Packet) → ((early w ms).calls ≡ w.calls) × ((early w ms).device ≡ w.device)
  early_keeps w [] = (refl, refl)
  early_keeps w (m ∷ ms) = (refl, refl)

  access_calls : (w : Wire S) (t : ℕ) (a : Access) (po : Bool) → ((access_wire F d w t a po).calls ≡ w.calls ++ call.Access t 0 a (plain a (d.access w.device t a).1) ∷ []) × ((access_wire F d w t a po).device ≡ (d.access w.device t a).0)
  access_calls w t a true = (refl, refl)
  access_calls w t a false =
      let e = early_keeps (record (access_sent F d w t a) { count = 0 }) (unread F d w) in
      (ap₂ (λ (cs : List Call) (s : S). cs ++ call.Access t 0 a (plain a (d.access s t a).1) ∷ []) e.0 e.1, ap (λ s. (d.access s t a).0) e.1)

  fed_keeps : (w : Wire S) (r : Reply) (v : Want) → d.want w.device ≡ Some v → (((wired F d).feed w r).calls ≡ w.calls ++ call.Served (d.seen w.device) 0 (d.due w.device) v r ∷ []) × (((wired F d).feed w r).device ≡ d.feed w.device r)
  fed_keeps w r v e =
      let w2 : Wire S = fed_wire F d w r (d.want w.device) (sends_of F d w) in
      let g = gathered_calls w2 w2.held (d.want w2.device) (unread F d w2) in
      (g.0 ∙ ap (λ o. (fed_wire F d w r o (sends_of F d w)).calls) e, g.1 ∙ ap (λ o. (fed_wire F d w r o (sends_of F d w)).device) e)

  -- one more call, at port p
  call_here : (p : ℕ) (calls : List Call) (t : ℕ) (a : Access) (x : Answer) → of_port p (calls ++ call.Access t p a x ∷ []) ≡ of_port p calls ++ call.Access t 0 a x ∷ []
  call_here p calls t a x = of_append p calls (call.Access t p a x ∷ []) ∙ ap (λ b. of_port p calls ++ (if b then call.Access t 0 a x ∷ [] else [])) (same_number p)

  call_there : (p q : ℕ) (calls : List Call) (t : ℕ) (a : Access) (x : Answer) → nat_eq p q ≡ false → of_port q (calls ++ call.Access t p a x ∷ []) ≡ of_port q calls
  call_there p q calls t a x e = of_append q calls (call.Access t p a x ∷ []) ∙ ap (λ b. of_port q calls ++ (if b then call.Access t 0 a x ∷ [] else [])) e ∙ append-nil (of_port q calls)

  served_here : (p : ℕ) (calls : List Call) (t due : ℕ) (v : Want) (r : Reply) → of_port p (calls ++ call.Served t p due v r ∷ []) ≡ of_port p calls ++ call.Served t 0 due v r ∷ []
  served_here p calls t due v r = of_append p calls (call.Served t p due v r ∷ []) ∙ ap (λ b. of_port p calls ++ (if b then call.Served t 0 due v r ∷ [] else [])) (same_number p)

  served_there : (p q : ℕ) (calls : List Call) (t due : ℕ) (v : Want) (r : Reply) → nat_eq p q ≡ false → of_port q (calls ++ call.Served t p due v r ∷ []) ≡ of_port q calls
  served_there p q calls t due v r e = of_append q calls (call.Served t p due v r ∷ []) ∙ ap (λ b. of_port q calls ++ (if b then call.Served t 0 due v r ∷ [] else [])) e ∙ append-nil (of_port q calls)

  unit_keeps : (r : Direct M (Wire S)) → Keeps r → Keeps (unit k (wired F d) plan r)
  unit_keeps r h = by (k.issue r.master).1
    where
      later : (x : ℕ) → x ≤ r.tick → x ≤ suc r.tick
      later x l = omega arith

      at_port : (b : Bus) (o : Option (Wire S)) → slice_get r.devices b.port ≡ o → Keeps (access_device k (wired F d) plan r (k.issue r.master).0 b o)
      at_port b None e q x g = h q x g
      at_port b (Some w) e q x g = cases (set_cases r.devices b.port (access_wire F d w r.tick b.access b.access.posted) q x g)
        where
          a : Access
          a = b.access

          x' : Answer
          x' = plain b.access (d.access w.device r.tick b.access).1

          w' : Wire S
          w' = access_wire F d w r.tick b.access b.access.posted

          seen : d.seen w'.device ≤ suc r.tick
          seen = subst (λ s. d.seen s ≤ suc r.tick) (sym (access_calls w r.tick a a.posted).1) (let l = laws.access_seen w.device r.tick a (h b.port w e).0 in omega arith)

          kept : w'.calls ≡ of_port b.port (r.calls ++ call.Access r.tick b.port a x' ∷ [])
          kept = (access_calls w r.tick a a.posted).0 ∙ ap (λ cs. cs ++ call.Access r.tick 0 a x' ∷ []) (h b.port w e).1 ∙ sym (call_here b.port r.calls r.tick a x')

          cases : ((nat_eq b.port q ≡ true) × (x ≡ access_wire F d w r.tick b.access b.access.posted)) ⊎ ((nat_eq b.port q ≡ false) × (slice_get r.devices q ≡ Some x)) → (d.seen x.device ≤ suc r.tick) × (x.calls ≡ of_port q (r.calls ++ call.Access r.tick b.port b.access (plain b.access (d.access w.device r.tick b.access).1) ∷ []))
          cases (inl z) = (
            subst (λ (x : Wire S). d.seen x.device ≤ suc r.tick) (sym z.1) seen,
            ap (λ (x : Wire S). x.calls) z.1 ∙ kept ∙ ap (λ q. of_port q (r.calls ++ call.Access r.tick b.port a x' ∷ [])) (eqb-true b.port q z.0),
          )
          cases (inr z) = (later (d.seen x.device) (h q x z.1).0, (h q x z.1).1 ∙ sym (call_there b.port q r.calls r.tick b.access (plain b.access (d.access w.device r.tick b.access).1) z.0))

      by : (o : Option Bus) → Keeps (unit_of k (wired F d) plan r (k.issue r.master).0 o)
      by None = λ q x g. (later (d.seen x.device) (h q x g).0, (h q x g).1)
      by (Some b) = at_port b (slice_get r.devices b.port) refl

  serve_keeps : (r : Direct M (Wire S)) → KeepsNow r → KeepsNow (serve_one k (wired F d) plan r)
  serve_keeps r h = by (least (map (want_time k (wired F d) plan) r.devices))
    where
      wanted : (p : ℕ) (w : Wire S) → slice_get r.devices p ≡ Some w → (o : Option Want) → d.want w.device ≡ o → KeepsNow (serve_want k (wired F d) plan r p w o)
      wanted p w e None f q x g = h q x g
      wanted p w e (Some v) f q x g = cases (set_cases r.devices p ((wired F d).feed w (served k r.master v).1) q x g)
        where
          rep : Reply
          rep = (served k r.master v).1

          w' : Wire S
          w' = (wired F d).feed w (served k r.master v).1

          seen : d.seen w'.device ≡ r.tick
          seen = ap d.seen (fed_keeps w rep v f).1 ∙ laws.feed_seen w.device rep ∙ (h p w e).0

          kept : w'.calls ≡ of_port p (r.calls ++ call.Served r.tick p (d.due w.device) v rep ∷ [])
          kept = (fed_keeps w rep v f).0 ∙ ap₂ (λ (cs : List Call) (t : ℕ). cs ++ call.Served t 0 (d.due w.device) v rep ∷ []) (h p w e).1 (h p w e).0 ∙ sym (served_here p r.calls r.tick (d.due w.device) v rep)

          cases : ((nat_eq p q ≡ true) × (x ≡ (wired F d).feed w (served k r.master v).1)) ⊎ ((nat_eq p q ≡ false) × (slice_get r.devices q ≡ Some x)) → (d.seen x.device ≡ r.tick) × (x.calls ≡ of_port q (r.calls ++ call.Served r.tick p (d.due w.device) v (served k r.master v).1 ∷ []))
          cases (inl z) = (ap (λ (x : Wire S). d.seen x.device) z.1 ∙ seen, ap (λ (x : Wire S). x.calls) z.1 ∙ kept ∙ ap (λ q. of_port q (r.calls ++ call.Served r.tick p (d.due w.device) v rep ∷ [])) (eqb-true p q z.0))
          cases (inr z) = ((h q x z.1).0, (h q x z.1).1 ∙ sym (served_there p q r.calls r.tick (d.due w.device) v rep z.0))

      at_port : (p : ℕ) (o : Option (Wire S)) → slice_get r.devices p ≡ o → KeepsNow (serve_device k (wired F d) plan r p o)
      at_port p None e = h
      at_port p (Some w) e = wanted p w e (d.want w.device) refl

      by : (l : Option (ℕ × ℕ)) → KeepsNow (serve_next k (wired F d) plan r l)
      by None = h
      by (Some q) = at_port q.0 (slice_get r.devices q.0) refl

  serves_keep : (n : ℕ) (r : Direct M (Wire S)) → KeepsNow r → KeepsNow (serve_all k (wired F d) plan n r)
  serves_keep zero r h = h
  serves_keep (suc n) r h = serves_keep n (serve_one k (wired F d) plan r) (serve_keeps r h)

  boundary_keeps : (r : Direct M (Wire S)) → Keeps r → Keeps (boundary k (wired F d) plan r)
  boundary_keeps r h p w g =
      let now = serves_keep (all_left k (wired F d) plan (advance_all k (wired F d) plan (mark k (wired F d) plan r)).devices) (advance_all k (wired F d) plan (mark k (wired F d) plan r)) advanced p w g in
      ((let e = now.0 in omega arith), now.1)
    where
      advanced : KeepsNow (advance_all k (wired F d) plan (mark k (wired F d) plan r))
      advanced q x g =
          let u = unmapped (λ w. (wired F d).advance w r.tick) r.devices q x g in
          let w2 : Wire S = sync_sent F d u.0 r.tick in
          let made = gathered_calls w2 w2.held (d.want w2.device) (unread F d w2) in
          let was = h q u.0 u.1 in (
            ap (λ (x : Wire S). d.seen x.device) (sym u.2) ∙ ap d.seen made.1 ∙ laws.advance_seen u.0.device r.tick was.0,
            ap (λ (x : Wire S). x.calls) (sym u.2) ∙ made.0 ∙ was.1,
          )

  if_keeps : (b : Bool) (r : Direct M (Wire S)) → Keeps r → Keeps (boundary_if k (wired F d) plan b r)
  if_keeps true r h = boundary_keeps r h
  if_keeps false r h = h

  pub from_keeps : (n : ℕ) (r : Direct M (Wire S)) → Keeps r → Keeps (direct_from k (wired F d) plan n r)
  from_keeps zero r h = boundary_keeps r h
  from_keeps (suc n) r h = by (is_some (k.stopped r.master)) (from_keeps n (unit k (wired F d) plan (met_quantum k (wired F d) plan r)) (unit_keeps (met_quantum k (wired F d) plan r) (if_keeps (at_quantum plan r.tick) r h)))
    where
      by : (c : Bool) → Keeps (direct_from k (wired F d) plan n (unit k (wired F d) plan (met_quantum k (wired F d) plan r))) → Keeps (if c then boundary k (wired F d) plan r else direct_from k (wired F d) plan n (unit k (wired F d) plan (met_quantum k (wired F d) plan r)))
      by true more = boundary_keeps r h
      by false more = more
