-- Each device's last turn in the run sends.
use Rattle.std.proofs.Common.{◌≡◌, ◌⊎◌, inl, inr, Bool, true, false, List, [], ◌∷◌, ◌++◌, length, map, Option, Some, None, is_some, slice_get, refl, sym, ap, ap₂, ◌∙◌, subst, append_assoc}
use Rattle.std.proofs.lemmas.List.{map-append, append_cancel_left}
use Rattle.process_network.specs.PacketStar.{LeafOutlook}
use Rattle.process_network.specs.PacketStar.LeafOutlook.{LeafActs, LeafWaits, LeafHalts}
use Rattle.cosim_model.specs.Parts.{DeviceModel}
use Rattle.cosim_model.specs.Packets.{Packet, Decoded}
use Rattle.cosim_model.specs.Packets.Decoded.{Valid}
use Rattle.cosim_model.specs.declared.session.EndFault.{EndFault}
use Rattle.ends_model.specs.DeviceTurn.{DeviceEnd, device_takes, device_looks, device_outlook}
use Rattle.every_schedule.proofs.Lists.{Each, each_at, get_mid, unmapped}
use Rattle.every_schedule.proofs.Tails.{IsMatched, IsHeld, IsTail, keeps_matched, keeps_held, last_sends}
use Rattle.every_schedule.proofs.Spelt.{IsSyncPacket, IsReplyPacket}

tf : true ≡ false → ⊥
tf e = cc

-- a list that ends with x, and one that has s in it
pub snoc_cases : {A : Type 0} (pre : List A) (s : A) (reps init : List A) (x : A) → init ++ x ∷ [] ≡ pre ++ s ∷ reps → ((init ≡ pre) × (x ≡ s)) ⊎ ((r : List A) × (init ≡ pre ++ s ∷ r) × (reps ≡ r ++ x ∷ []))
snoc_cases [] s reps [] x e = inl (refl, cc)
snoc_cases [] s reps (i ∷ init) x e = inr (init, (let a : i ≡ s = cc in ap (λ i. i ∷ init) a), cc)
snoc_cases (p ∷ pre) s reps [] x e = absurd (short pre s reps (let t : [] ≡ pre ++ s ∷ reps = cc in t))
  where
    short : {A : Type 0} (pre : List A) (s : A) (reps : List A) → [] ≡ pre ++ s ∷ reps → ⊥
    short [] s reps e = cc
    short (p ∷ pre) s reps e = cc
snoc_cases {A} (p ∷ pre) s reps (i ∷ init) x e = by (snoc_cases pre s reps init x cc)
  where
    head : i ≡ p
    head = cc

    by : ((init ≡ pre) × (x ≡ s)) ⊎ ((r : List A) × (init ≡ pre ++ s ∷ r) × (reps ≡ r ++ x ∷ [])) → ((i ∷ init ≡ p ∷ pre) × (x ≡ s)) ⊎ ((r : List A) × (i ∷ init ≡ p ∷ (pre ++ s ∷ r)) × (reps ≡ r ++ x ∷ []))
    by (inl h) = inl (ap₂ ◌∷◌ head h.0, h.1)
    by (inr h) = inr (h.0, ap₂ ◌∷◌ head h.1, h.2)

module _ {S F : Type 0} (d : DeviceModel S) (pre : List Packet) (s : Packet) (reps : List Packet) (sync : IsSyncPacket s) (replies : Each IsReplyPacket reps) where
  abbrev pre' : List (Decoded F)
  pre' = map Valid pre

  abbrev reps' : List (Decoded F)
  reps' = map Valid reps

  abbrev OkC : DeviceEnd S F → Type 0
  OkC l = (is_some l.fault ≡ true) ⊎ IsMatched l

  abbrev OkD : DeviceEnd S F → Type 0
  OkD l = (is_some l.fault ≡ true) ⊎ IsHeld l

  abbrev pub Tail_inv : DeviceEnd S F → List (Decoded F) → Type 0
  Tail_inv l old = OkC l × ((r : List (Decoded F)) → old ≡ pre' ++ Valid s ∷ r → OkD l)

  next_of : DeviceEnd S F → LeafOutlook (DeviceEnd S F) (Decoded F) → DeviceEnd S F
  next_of l (LeafActs n sends) = n
  next_of l LeafWaits = l
  next_of l LeafHalts = l

  pub inv_acts : (l next : DeviceEnd S F) (sends : List (Decoded F)) → device_outlook l ≡ LeafActs next sends → (old : List (Decoded F)) → Tail_inv l old → Tail_inv next old
  unfolding next_of
  inv_acts l next sends f old h = by l.fault l.session.hello_went f
    where
      by : (o : Option (EndFault F)) (w : Bool) → device_looks l o w ≡ LeafActs next sends → Tail_inv next old
      by None false g = subst (λ n. Tail_inv n old) (ap (next_of l) g) h
      by (Some x) w g = absurd (cc)
      by None true g = absurd (cc)

  waits_sound : (l : DeviceEnd S F) → device_outlook l ≡ LeafWaits → l.fault ≡ None
  waits_sound l f = by l.fault refl
    where
      by : (o : Option (EndFault F)) → l.fault ≡ o → l.fault ≡ None
      by None e = e
      by (Some x) e = absurd (halts (sym (ap (λ o. device_looks l o l.session.hello_went) e) ∙ f))
        where
          halts : ◌≡◌ {A = LeafOutlook (DeviceEnd S F) (Decoded F)} LeafHalts LeafWaits → ⊥
          halts e = cc

  sound_c : (l : DeviceEnd S F) → l.fault ≡ None → OkC l → IsMatched l
  sound_c l n (inl f) = absurd (tf (sym f ∙ ap is_some n))
  sound_c l n (inr c) = c

  sound_d : (l : DeviceEnd S F) → l.fault ≡ None → OkD l → IsHeld l
  sound_d l n (inl f) = absurd (tf (sym f ∙ ap is_some n))
  sound_d l n (inr c) = c

  -- what stands among the replies is one
  is_reply : (r : List (Decoded F)) (x : Decoded F) (rest : List (Decoded F)) → r ++ x ∷ rest ≡ reps' → (p : Packet) × (x ≡ Valid p) × IsReplyPacket p
  is_reply r x rest e =
      let u = unmapped {B = Decoded F} Valid reps (length r) x (ap (λ t. slice_get t (length r)) (sym e) ∙ get_mid r rest x) in
      (u.0, sym u.2, each_at IsReplyPacket reps (length r) u.0 replies u.1)

  -- What is taken after the sync, or the sync itself.
  pub is_tail : (l : DeviceEnd S F) (old : List (Decoded F)) (x : Decoded F) (rest r : List (Decoded F)) → l.fault ≡ None → Tail_inv l old → old ++ x ∷ rest ≡ pre' ++ Valid s ∷ reps' → old ++ x ∷ [] ≡ pre' ++ Valid s ∷ r → (p : Packet) × (x ≡ Valid p) × IsTail d l p
  is_tail l old x rest r n h all e = by (snoc_cases pre' (Valid s) r old x e)
    where
      by : ((old ≡ pre') × (x ≡ Valid s)) ⊎ ((z : List (Decoded F)) × (old ≡ pre' ++ Valid s ∷ z) × (r ≡ z ++ x ∷ [])) → (p : Packet) × (x ≡ Valid p) × IsTail d l p
      by (inl a) = (s, a.1, inl sync)
      by (inr a) =
          let whole : pre' ++ (Valid s ∷ (a.0 ++ x ∷ rest)) ≡ pre' ++ (Valid s ∷ reps') = sym (append_assoc pre' (Valid s ∷ a.0) (x ∷ rest)) ∙ ap (λ t. t ++ x ∷ rest) (sym a.1) ∙ all in
          let tail : Valid s ∷ (a.0 ++ x ∷ rest) ≡ Valid s ∷ reps' = append_cancel_left pre' _ _ whole in
          let q = is_reply a.0 x rest (behind_of tail) in
          (q.0, q.1, inr (q.2.0, q.2.1, sound_d l n (h.1 a.0 a.1)))
        where
          behind_of : {A : Type 0} {x y : A} {xs ys : List A} → x ∷ xs ≡ y ∷ ys → xs ≡ ys
          behind_of e = cc

  good_one : (ps : List Packet) (old : List (Decoded F)) (x : Decoded F) (rest : List (Decoded F)) → old ++ x ∷ rest ≡ map Valid ps → (p : Packet) × (x ≡ Valid p)
  good_one ps old x rest e =
      let u = unmapped {B = Decoded F} Valid ps (length old) x (ap (λ t. slice_get t (length old)) (sym e) ∙ get_mid old rest x) in
      (u.0, sym u.2)

  keep_c : (l : DeviceEnd S F) (p : Packet) → IsMatched l → OkC (device_takes d l (Valid p)).0
  keep_c l p c = by (device_takes d l (Valid p)).0.fault refl
    where
      by : (o : Option (EndFault F)) → (device_takes d l (Valid p)).0.fault ≡ o → OkC (device_takes d l (Valid p)).0
      by None f = inr (keeps_matched d l p c f)
      by (Some y) f = inl (ap is_some f)

  keep_d : (l : DeviceEnd S F) (p : Packet) → IsMatched l → IsTail d l p → OkD (device_takes d l (Valid p)).0
  keep_d l p c t = by (device_takes d l (Valid p)).0.fault refl
    where
      by : (o : Option (EndFault F)) → (device_takes d l (Valid p)).0.fault ≡ o → OkD (device_takes d l (Valid p)).0
      by None f = inr (keeps_held d l p c t f)
      by (Some y) f = inl (ap is_some f)

  pub inv_takes : (l : DeviceEnd S F) → device_outlook l ≡ LeafWaits → (old : List (Decoded F)) (x : Decoded F) (rest : List (Decoded F)) → old ++ x ∷ rest ≡ pre' ++ Valid s ∷ reps' → Tail_inv l old → Tail_inv (device_takes d l x).0 (old ++ x ∷ [])
  inv_takes l f old x rest all h =
      let n : l.fault ≡ None = waits_sound l f in
      let c : IsMatched l = sound_c l n h.0 in
      let g = good_one (pre ++ s ∷ reps) old x rest (all ∙ sym (map-append Valid pre (s ∷ reps))) in (
        subst (λ (x : Decoded F). OkC (device_takes d l x).0) (sym g.1) (keep_c l g.0 c),
        λ r e. let t = is_tail l old x rest r n h all e in subst (λ (x : Decoded F). OkD (device_takes d l x).0) (sym t.1) (keep_d l t.0 c t.2),
      )

  -- The last turn, after which no sync is open, sends.
  pub tail_sends : (l : DeviceEnd S F) (old : List (Decoded F)) (x : Decoded F) → device_outlook l ≡ LeafWaits → Tail_inv l old → old ++ x ∷ [] ≡ pre' ++ Valid s ∷ reps' → (device_takes d l x).0.fault ≡ None → (device_takes d l x).0.open_sync ≡ None → (device_takes d l x).1 ≡ [] → ⊥
  tail_sends l old x f h all ok done none =
      let n : l.fault ≡ None = waits_sound l f in
      let t = is_tail l old x [] reps' n h all all in
      last_sends d l t.0 (sound_c l n h.0) t.2
      (ap (λ (x : Decoded F). (device_takes d l x).0.fault) (sym t.1) ∙ ok)
      (ap (λ (x : Decoded F). (device_takes d l x).0.open_sync) (sym t.1) ∙ done)
      (ap (λ (x : Decoded F). (device_takes d l x).1) (sym t.1) ∙ none)
