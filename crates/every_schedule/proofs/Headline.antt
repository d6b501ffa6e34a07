-- Every schedule, from the run that mirrors the direct machine.
use Rattle.every_schedule.proofs.Leads.{AllGentle, silent_moves}
use Rattle.every_schedule.proofs.Counted.{IsCount, Counted, counted_on, uncounted}
use Rattle.std.proofs.Common.{◌≡◌, ℕ, suc, ◌^◌, ◌<◌, ◌≤◌, ◌⊎◌, inl, inr, Bool, true, false, ◌&&◌, List, [], ◌∷◌, ◌++◌, length, map, Some, slice_get, refl, sym, ap, ap₂, ◌∙◌, subst, arith}
use Rattle.std.proofs.lemmas.List.{append-nil, length-map}
use Rattle.std.proofs.lemmas.Option.{none-some}
use Rattle.process_network.specs.CalmRun.{Move, IsCalmResult, IsAtRest, calm_all, calm_start}
use Rattle.process_network.specs.PacketStar.{Ends, HubEnd, LeafEnd, PacketLink, PacketWorld, packets_all, packets_start, IsReadBack, AllReadable, IsOver, in_bytes, star_of, fresh_hub, fresh_leaf}
use Rattle.process_network.specs.PacketStar.LeafOutlook.{LeafWaits}
use Rattle.process_network.proofs.PacketRuns.{every_packet_run, packet_run_ends, packet_run_rests}
use Rattle.cosim_model.specs.declared.values.Caps.{Caps}
use Rattle.cosim_model.specs.Values.{all_caps}
use Rattle.cosim_model.specs.Parts.{DeviceModel, MasterModel, IsDevice, IsMaster}
use Rattle.cosim_model.specs.Packets.{Packet, Decoded, Codec, IsCodec, IsWritable, spell, offered, listed}
use Rattle.cosim_model.specs.Packets.Body.{Hello}
use Rattle.cosim_model.specs.Packets.Decoded.{Valid}
use Rattle.ends_model.specs.DeviceTurn.{DeviceEnd, settled, device_outlook}
use Rattle.cosim_model.specs.declared.values.Plan.{Plan}
use Rattle.ends_model.specs.MachineTurn.{MachineEnd}
use Rattle.ends_model.specs.declared.ends.Phase.TheVariants.{Done}
use Rattle.ends_model.specs.World.{Side}
use Rattle.every_schedule.specs.Wires.{Wire, unsettled, behind, wired, met_wire}
use Rattle.cosim_model.specs.Direct.{Direct, direct, direct_start, direct_from}
use Rattle.ends_model.specs.World.{ends, machine_start, Fit}
use Rattle.every_schedule.specs.Mirror.{post_of}
use Rattle.every_schedule.proofs.Lists.{Each, each_at, each_map, each_to, map_both, unmapped}
use Rattle.every_schedule.proofs.Settles.{settles_idle}
use Rattle.every_schedule.proofs.Runs.{IsReady, at}
use Rattle.every_schedule.proofs.Units.{IsRich, IsGoing}
use Rattle.every_schedule.proofs.Whole.{IsSpent, run_leads}
use Rattle.every_schedule.proofs.Greeting.{leaves_of, greeting}
use Rattle.every_schedule.proofs.Sent.{AllHold, Holds, all_good}
use Rattle.every_schedule.proofs.Forget.{mapped, from_map, forgets}
use Rattle.every_schedule.proofs.Spelt.{each_all}

true_false : true ≡ false → ⊥
true_false e = cc

each_from : {A : Type 0} (P : A → Type 0) (xs : List A) → ((p : ℕ) (x : A) → slice_get xs p ≡ Some x → P x) → Each P xs
each_from P [] go = tt
each_from P (x ∷ xs) go = (go 0 x refl, each_from P xs (λ p y e. go (suc p) y e))

and_true : (a b : Bool) → a && b ≡ true → (a ≡ true) × (b ≡ true)
and_true true b e = (refl, e)
and_true false b e = absurd (true_false (sym e))

hello_fits : (c : Caps) → IsWritable (record { id = 0; flags = 0; dev = 0; body = Hello 4 3 (offered c) })
hello_fits c = ((omega arith), (omega arith), (omega arith), ((omega arith), (omega arith), each_all (λ n. n < 2 ^ 32) (offered c) (go c.base c.enables c.posted).0, (go c.base c.enables c.posted).1))
  where
    go : (x y z : Bool) → Each (λ n. n < 2 ^ 32) (listed x 1 (listed y 2 (listed z 3 []))) × (length (listed x 1 (listed y 2 (listed z 3 []))) ≤ 16381)
    go true true true = (((omega arith), ((omega arith), ((omega arith), tt))), (omega arith))
    go true true false = (((omega arith), ((omega arith), tt)), (omega arith))
    go true false true = (((omega arith), ((omega arith), tt)), (omega arith))
    go true false false = (((omega arith), tt), (omega arith))
    go false true true = (((omega arith), ((omega arith), tt)), (omega arith))
    go false true false = (((omega arith), tt), (omega arith))
    go false false true = (((omega arith), tt), (omega arith))
    go false false false = (tt, (omega arith))

-- A packet that is read back as it was written.
abbrev pub IsSound : {F : Type 0} → Decoded F → Type 0
IsSound m = (p : Packet) × (m ≡ Valid p) × IsWritable p

-- What crosses every port can be written.
abbrev pub IsSpelled : {S : Type 0} → Wire S → Type 0
IsSpelled w = Each IsWritable w.out × Each IsWritable w.back

module _ {M S F : Type 0} (k : MasterModel M) (d : DeviceModel S) (codec : Codec F) (plan : Plan) (laws : IsDevice d) (laws' : IsMaster k) (coded : IsCodec codec) (m : M) (xs : List (Side × S)) (fit : Fit k d plan m xs) where
  abbrev starts : List (Wire S)
  starts = map (λ (x : Side × S). met_wire x.0 x.1) xs

  -- the direct machine with its wires
  abbrev pub ran : Direct M (Wire S)
  ran = direct k (wired F d) plan m starts

  abbrev e : Ends (MachineEnd M F) (DeviceEnd S F) (Decoded F)
  e = ends k d codec

  abbrev pub begins : PacketWorld (MachineEnd M F) (DeviceEnd S F) (Decoded F)
  begins = packets_start (machine_start F m (length xs) plan) (leaves_of k d codec plan xs)

  abbrev pub last : PacketWorld (MachineEnd M F) (DeviceEnd S F) (Decoded F)
  last = at k d codec plan laws laws' Done true ran

  abbrev IsFitting : Side × S → Type 0
  IsFitting x = (d.seen x.1 ≡ 0) × (d.needs x.1 ≡ x.0.needs) × (x.0.needs.base ≡ true → x.0.offer.base ≡ true) × (x.0.needs.enables ≡ true → x.0.offer.enables ≡ true)

  each_fits : Each IsFitting xs
  each_fits = each_from IsFitting xs (λ p x g. (fit.seen p x g, fit.needs p x g, fit.base p x g, fit.enables p x g))

  ready : (x : Side × S) → IsFitting x → IsReady d 0 (met_wire x.0 x.1)
  ready x f = (
    record { seen = (let a = f.0 in omega arith); last = (omega arith); heard = (omega arith); synced = refl; held = λ h. absurd (true_false (sym h)) },
    (f.1, (λ h. both h), ((hello_fits all_caps, tt), (hello_fits x.0.offer, tt), (omega arith), (omega arith), (omega arith))),
  )
    where
      both : x.0.needs.base && x.0.needs.enables ≡ true → x.0.offer.base && x.0.offer.enables ≡ true
      both h = let q = and_true x.0.needs.base x.0.needs.enables h in ap₂ ◌&&◌ (f.2 q.0) (f.3 q.1)

  going : IsGoing k d codec plan laws laws' (direct_start m starts)
  going = (
    each_map IsFitting (IsReady d 0) (λ (x : Side × S). met_wire x.0 x.1) ready xs each_fits,
    (let a = fit.reach in let b = length-map xs (λ (x : Side × S). met_wire x.0 x.1) in omega arith),
    rich fit.full,
  )
    where
      rich : (k.full m ≡ true) ⊎ ((p : ℕ) (x : Side × S) → slice_get xs p ≡ Some x → x.0.offer.base && x.0.offer.enables ≡ true) → (k.full m ≡ true) ⊎ Each IsRich starts
      rich (inl f) = inl f
      rich (inr f) = inr (each_map (λ (x : Side × S). x.0.offer.base && x.0.offer.enables ≡ true) IsRich (λ (x : Side × S). met_wire x.0 x.1) (λ x g. g) xs (each_from (λ (x : Side × S). x.0.offer.base && x.0.offer.enables ≡ true) xs f))

  -- The run.
  abbrev pub sides : List Side
  sides = map (λ (x : Side × S). x.0) xs

  pub mirrored : Counted k d codec sides 0 ran.tick [] ran.history begins last × Each (IsSpent k d codec plan laws laws') ran.devices
  mirrored =
      let met : map (λ (w : Wire S). w.side) starts ≡ sides = map_both (λ (w : Wire S). w.side) (λ (x : Side × S). met_wire x.0 x.1) (λ (x : Side × S). x.0) (λ x. refl) xs in
      let r = run_leads k d codec plan laws laws' sides fit.units plan.units (direct_start m starts) met (omega arith) going in
      (counted_on k d codec sides 0 0 ran.tick [] [] ran.history _ _ _ (uncounted k d codec sides 0 [] _ _ (greeting k d codec plan laws m xs)) r.0, r.1)

  -- Nothing is left to do.
  pub spent_rests : (w : Wire S) → IsSpent k d codec plan laws laws' w → settled {F = F} d (unsettled w) ≡ (unsettled w, [])
  spent_rests w s = settles_idle F d w s.1.0.0.synced s.1.1

  spent_unheld : (w : Wire S) → IsSpent k d codec plan laws laws' w → w.held ≡ false
  spent_unheld w s = by w.held refl
    where
      by : (h : Bool) → w.held ≡ h → w.held ≡ false
      by false e = e
      by true e = let v = s.1.0.0.held e in absurd (none-some v.0 (sym s.1.1 ∙ v.1))

  pub unread_none : (w : Wire S) → IsSpent k d codec plan laws laws' w → (post_of F d w).back_waiting ≡ []
  unread_none w s = ap₂ (λ h (r : DeviceEnd S F × List Packet). map Valid (behind h r.1)) (spent_unheld w s) (spent_rests w s)

  over : IsOver e last
  over = record {
    hub = refl;
    leaf = λ p q g. inl (at_leaf p q g (unmapped (post_of F d) ran.devices p q g));
    out = λ p q g. let u = unmapped (post_of F d) ran.devices p q g in ap (λ (q : PacketLink (DeviceEnd S F) (Decoded F)). q.out_waiting) (sym u.2);
    back = λ p q g. let u = unmapped (post_of F d) ran.devices p q g in ap (λ (q : PacketLink (DeviceEnd S F) (Decoded F)). q.back_waiting) (sym u.2) ∙ unread_none u.0 (each_at (IsSpent k d codec plan laws laws') ran.devices p u.0 mirrored.1 u.1);
  }
    where
      at_leaf : (p : ℕ) (q : PacketLink (DeviceEnd S F) (Decoded F)) → slice_get last.links p ≡ Some q → ((w : Wire S) × (slice_get ran.devices p ≡ Some w) × (post_of F d w ≡ q)) → e.leaf_outlook q.leaf ≡ LeafWaits
      at_leaf p q g u = ap (λ (q : PacketLink (DeviceEnd S F) (Decoded F)). device_outlook q.leaf) (sym u.2) ∙ ap (λ (r : DeviceEnd S F × List Packet). device_outlook r.0) (spent_rests u.0 (each_at (IsSpent k d codec plan laws laws') ran.devices p u.0 mirrored.1 u.1))

  module _ (enables_if : Each IsSpelled ran.devices) where
    sound : (m : Decoded F) → IsSound m → IsReadBack e.first e.write m
    sound m s xs = subst (λ (m : Decoded F). codec.first (spell codec m ++ xs) ≡ Some (m, length (spell codec m))) (sym s.1) (coded.reads_back s.0 xs s.2)

    all_sound : (ps : List Packet) → Each IsWritable ps → Each IsSound (map {B = Decoded F} Valid ps)
    all_sound ps a = each_map IsWritable IsSound Valid (λ p w. (p, refl, w)) ps a

    hold_request : AllHold e IsSound last
    hold_request = each_map (λ w. IsSpelled w × IsSpent k d codec plan laws laws' w) (Holds e IsSound) (post_of F d) one ran.devices (zipped ran.devices enables_if mirrored.1)
      where
        zipped : (ws : List (Wire S)) → Each IsSpelled ws → Each (IsSpent k d codec plan laws laws') ws → Each (λ w. IsSpelled w × IsSpent k d codec plan laws laws' w) ws
        zipped [] a b = tt
        zipped (w ∷ ws) a b = ((a.0, b.0), zipped ws a.1 b.1)

        one : (w : Wire S) → IsSpelled w × IsSpent k d codec plan laws laws' w → Holds e IsSound (post_of F d w)
        one w s = (
          subst (Each IsSound) (sym (append-nil (map Valid w.out))) (all_sound w.out s.0.0),
          subst (λ ms. Each IsSound (map Valid w.back ++ ms)) (sym (unread_none w s.1)) (subst (Each IsSound) (sym (append-nil (map Valid w.back))) (all_sound w.back s.0.1)),
        )

    -- Every schedule ends as the direct machine does.
    pub every : (moves : List Move) × IsCalmResult (star_of e) (fresh_hub (machine_start F m (length xs) plan) (length (leaves_of k d codec plan xs))) (map fresh_leaf (leaves_of k d codec plan xs)) moves (in_bytes e last)
    every =
        let r = mirrored.0.1 in
        let good = all_good e IsSound sound begins r.0 (subst (AllHold e IsSound) (sym r.1) hold_request) in (
          r.0,
          subst (λ c. IsCalmResult (star_of e) (fresh_hub (machine_start F m (length xs) plan) (length (leaves_of k d codec plan xs))) (map fresh_leaf (leaves_of k d codec plan xs)) r.0 (in_bytes e c)) r.1
              (every_packet_run e coded.decided (machine_start F m (length xs) plan) (leaves_of k d codec plan xs) r.0 good (subst (IsOver e) (sym r.1) over)),
        )

  pub all_spelled : Each IsSpelled ran.devices
  all_spelled = each_to (IsSpent k d codec plan laws laws') IsSpelled (λ w s. (s.1.0.1.2.0, s.1.0.1.2.1)) ran.devices mirrored.1

  -- Every schedule.
  pub every_schedule : (moves : List Move) × IsCalmResult (star_of e) (fresh_hub (machine_start F m (length xs) plan) (length (leaves_of k d codec plan xs))) (map fresh_leaf (leaves_of k d codec plan xs)) moves (in_bytes e last)
  every_schedule = every all_spelled

  -- The calm run of bytes.
  abbrev pub hub_start : HubEnd (MachineEnd M F)
  hub_start = fresh_hub (machine_start F m (length xs) plan) (length (leaves_of k d codec plan xs))

  abbrev pub leaf_starts : List (LeafEnd (DeviceEnd S F))
  leaf_starts = map fresh_leaf (leaves_of k d codec plan xs)

  pub run_moves : List Move
  run_moves = mirrored.0.1.0

  pub good_moves : AllReadable e begins run_moves
  unfolding run_moves
  good_moves = all_good e IsSound (sound all_spelled) begins mirrored.0.1.0 (subst (AllHold e IsSound) (sym mirrored.0.1.1) (hold_request all_spelled))

  pub run_posts : packets_all e begins run_moves ≡ last
  unfolding run_moves
  run_posts = mirrored.0.1.1

  -- What holds of its moves.
  pub run_gentle : AllGentle k d codec begins run_moves
  unfolding run_moves
  run_gentle = mirrored.0.1.2

  pub run_silent : IsCount sides (silent_moves k d codec begins run_moves) 0 ran.tick [] ran.history
  unfolding run_moves
  run_silent = subst (λ n. IsCount sides n 0 ran.tick [] ran.history) (sym mirrored.0.1.3) mirrored.0.2

  pub run_result : IsCalmResult (star_of e) hub_start leaf_starts run_moves (in_bytes e last)
  run_result = subst (λ c. IsCalmResult (star_of e) hub_start leaf_starts run_moves (in_bytes e c)) run_posts
      (every_packet_run e coded.decided (machine_start F m (length xs) plan) (leaves_of k d codec plan xs) run_moves good_moves (subst (IsOver e) (sym run_posts) over))

  pub all_holds : AllHold e IsSound last
  all_holds = hold_request all_spelled

  pub run_rests : IsAtRest (star_of e) (calm_all (star_of e) (calm_start hub_start leaf_starts) run_moves)
  unfolding run_moves
  run_rests = packet_run_rests e coded.decided (machine_start F m (length xs) plan) (leaves_of k d codec plan xs) mirrored.0.1.0 good_moves (subst (IsOver e) (sym mirrored.0.1.1) over)

  pub run_ends : calm_all (star_of e) (calm_start hub_start leaf_starts) run_moves ≡ in_bytes e last
  unfolding run_moves
  run_ends = packet_run_ends e coded.decided (machine_start F m (length xs) plan) (leaves_of k d codec plan xs) mirrored.0.1.0 good_moves ∙ ap (in_bytes e) mirrored.0.1.1

  -- The run's master, devices, calls and ticks are those of the direct machine.
  pub is_direct : mapped (λ (w : Wire S). w.device) ran ≡ direct k d plan m (map (λ (x : Side × S). x.1) xs)
  is_direct = from_map k (wired F d) d (λ (w : Wire S). w.device) (forgets F d) plan plan.units (direct_start m starts)
      ∙ ap (λ ss. direct_from k d plan plan.units (direct_start m ss)) (map_both (λ (w : Wire S). w.device) (λ (x : Side × S). met_wire x.0 x.1) (λ (x : Side × S). x.1) (λ x. refl) xs)
