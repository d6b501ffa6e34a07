-- The machine end over honest links ends as the direct machine does.
use Rattle.std.proofs.Common.{◌≡◌, ℕ, zero, suc, List, [], ◌∷◌, length, map, Option, Some, None, slice_get, refl, sym, ap, ◌∙◌, subst}
use Rattle.std.proofs.lemmas.Option.{none-some}
use Rattle.std.proofs.lemmas.List.{length-map}
use Rattle.process_network.specs.Network.{IsPrefix, Streams}
use Rattle.process_network.specs.Star.{IsStarMonotone}
use Rattle.process_network.specs.CalmRun.{Calm, calm_all, calm_start, no_traffic, traffic_at}
use Rattle.process_network.specs.StarTalk.{IsHubRun, IsLeafRun, IsHonestStar, StarTalk}
use Rattle.process_network.specs.PacketStar.{Ends, HubEnd, LeafEnd, PacketLink, star_of, fresh_hub, fresh_leaf, in_bytes, link_traffic}
use Rattle.process_network.proofs.PacketRuns.{ends_monotone}
use Rattle.process_network.proofs.StarTalk.{link_gives, driven, talk_ends}
use Rattle.cosim_model.specs.declared.values.Plan.{Plan}
use Rattle.cosim_model.specs.Parts.{DeviceModel, MasterModel, IsDevice, IsMaster}
use Rattle.cosim_model.specs.Packets.{Decoded, Codec, IsCodec}
use Rattle.ends_model.specs.DeviceTurn.{DeviceEnd}
use Rattle.ends_model.specs.MachineTurn.{MachineEnd}
use Rattle.ends_model.specs.World.{Side, ends, machine_start, device_start, Fit}
use Rattle.every_schedule.specs.Mirror.{post_of}
use Rattle.every_schedule.specs.Schedules.{IsHonest, bytes_out, back_at, IsMachineRun, IsDriven, DrivesWell}
use Rattle.every_schedule.specs.Wires.{Wire}
use Rattle.every_schedule.proofs.Headline.{hub_start, leaf_starts, run_moves, run_rests, run_ends, last, ran}
use Rattle.every_schedule.proofs.Lists.{unmapped, get_mapped}
use Rattle.every_schedule.proofs.OutDevice.{out_is_run}
use Rattle.every_schedule.proofs.Schedules.{final_is_end, final_out, final_back, run_sides}

module _ {M S F : Type 0} (k : MasterModel M) (d : DeviceModel S) (codec : Codec F) (plan : Plan) (laws : IsDevice d) (laws' : IsMaster k) (coded : IsCodec codec) (m : M) (xs : List (Side × S)) (fit : Fit k d plan m xs) where
  abbrev H : Type 0
  H = HubEnd (MachineEnd M F)

  abbrev L : Type 0
  L = LeafEnd (DeviceEnd S F)

  abbrev e : Ends (MachineEnd M F) (DeviceEnd S F) (Decoded F)
  e = ends k d codec

  abbrev hub0 : H
  hub0 = hub_start k d codec plan laws laws' coded m xs fit

  abbrev leaves0 : List L
  leaves0 = leaf_starts k d codec plan laws laws' coded m xs fit

  abbrev final : Calm H L
  final = in_bytes e (last k d codec plan laws laws' coded m xs fit)

  steady : IsStarMonotone (star_of e)
  steady = ends_monotone e coded.decided

  -- the number of ports
  starts : length (map (λ (x : Side × S). device_start F x.0 x.1) xs) ≡ length xs
  starts = length-map xs (λ (x : Side × S). device_start F x.0 x.1)

  ports : length leaves0 ≡ length xs
  ports = length-map (map (λ (x : Side × S). device_start F x.0 x.1) xs) fresh_leaf ∙ starts

  hub_is : hub0 ≡ fresh_hub (machine_start F m (length xs) plan) (length xs)
  hub_is = ap (fresh_hub (machine_start F m (length xs) plan)) starts

  run_is : (x : Streams) (turns : ℕ) (h : H) (sent : Streams) → IsMachineRun k d codec plan m xs x turns h sent → IsHubRun (star_of e) (length leaves0) hub0 x turns h sent
  run_is x turns h sent run =
      subst (λ (h0 : H). IsHubRun (star_of e) (length leaves0) h0 x turns h sent) (sym hub_is)
      (subst (λ n. IsHubRun (star_of e) n (fresh_hub (machine_start F m (length xs) plan) (length xs)) x turns h sent) (sym ports) run)

  talk_is : (said : ℕ → List ℕ → List ℕ) (rounds : ℕ) (x : Streams) → StarTalk (star_of e) (length xs) (fresh_hub (machine_start F m (length xs) plan) (length xs)) said rounds x → StarTalk (star_of e) (length leaves0) hub0 said rounds x
  talk_is said rounds x talk =
      subst (λ (h0 : H). StarTalk (star_of e) (length leaves0) h0 said rounds x) (sym hub_is)
      (subst (λ n. StarTalk (star_of e) n (fresh_hub (machine_start F m (length xs) plan) (length xs)) said rounds x) (sym ports) talk)

  honest_is : (said : ℕ → List ℕ → List ℕ) → IsHonest k d codec plan m xs said → IsHonestStar (star_of e) leaves0 said
  honest_is said honest = record { leaf = leaf; none = λ p g y. honest.none p (no_port p g) y }
    where
      leaf : (p : ℕ) (l : L) → slice_get leaves0 p ≡ Some l → (y : List ℕ) → (n : ℕ) × (l' : L) × IsLeafRun (star_of e) l y n l' (said p y) × ((star_of e).leaf_turn l' y ≡ None)
      leaf p l g y =
          let u = unmapped fresh_leaf (map (λ (x : Side × S). device_start F x.0 x.1) xs) p l g in
          let v = unmapped (λ (x : Side × S). device_start F x.0 x.1) xs p u.0 u.1 in
          let start : fresh_leaf (device_start F v.0.0 v.0.1) ≡ l = ap fresh_leaf v.2 ∙ u.2 in
          let r = out_is_run k d codec coded.decided (device_start F v.0.0 v.0.1) y refl in
          (r.0, r.1, subst (λ (l : L). IsLeafRun (star_of e) l y r.0 r.1 (said p y)) start (subst (IsLeafRun (star_of e) (fresh_leaf (device_start F v.0.0 v.0.1)) y r.0 r.1) (sym (honest.port p v.0 v.1 y)) r.2), r.3)

      no_port : (p : ℕ) → slice_get leaves0 p ≡ None → slice_get xs p ≡ None
      no_port p g = go (slice_get xs p) refl
        where
          go : (o : Option (Side × S)) → slice_get xs p ≡ o → slice_get xs p ≡ None
          go None f = f
          go (Some x) f = absurd (none-some (fresh_leaf (device_start F x.0 x.1)) (sym g ∙ get_mapped fresh_leaf (map (λ (x : Side × S). device_start F x.0 x.1) xs) p (device_start F x.0 x.1) (get_mapped (λ (x : Side × S). device_start F x.0 x.1) xs p x f)))

  -- what comes back in all
  back_is : (p : ℕ) → (traffic_at final.traffic p).1 ≡ back_at k d codec plan m xs p (slice_get xs p)
  back_is p = go (slice_get xs p) refl
    where
      wires : List (Wire S)
      wires = (ran k d codec plan laws laws' coded m xs fit).devices

      no_link : (qs : List (PacketLink (DeviceEnd S F) (Decoded F))) (p : ℕ) → slice_get qs p ≡ None → traffic_at (map (link_traffic e) qs) p ≡ no_traffic
      no_link [] p g = refl
      no_link (q ∷ qs) zero g = absurd (none-some q (sym g))
      no_link (q ∷ qs) (suc p) g = no_link qs p g

      no_wire : slice_get xs p ≡ None → slice_get (map (post_of F d) (ran k d codec plan laws laws' coded m xs fit).devices) p ≡ None
      no_wire g = at (slice_get (map (post_of F d) (ran k d codec plan laws laws' coded m xs fit).devices) p) refl
        where
          at : (o : Option (PacketLink (DeviceEnd S F) (Decoded F))) → slice_get (map (post_of F d) (ran k d codec plan laws laws' coded m xs fit).devices) p ≡ o → slice_get (map (post_of F d) (ran k d codec plan laws laws' coded m xs fit).devices) p ≡ None
          at None f = f
          at (Some q) f =
              let u = unmapped (post_of F d) (ran k d codec plan laws laws' coded m xs fit).devices p q f in
              let v = unmapped (λ (x : Side × S). x.0) xs p u.0.side (ap (λ (ss : List Side). slice_get ss p) (sym (run_sides k d codec plan laws laws' coded m xs fit)) ∙ get_mapped (λ (w : Wire S). w.side) (ran k d codec plan laws laws' coded m xs fit).devices p u.0 u.1) in
              absurd (none-some v.0 (sym g ∙ v.1))

      go : (o : Option (Side × S)) → slice_get xs p ≡ o → (traffic_at final.traffic p).1 ≡ back_at k d codec plan m xs p o
      go None g = ap (λ (t : List ℕ × List ℕ). t.1) (no_link (last k d codec plan laws laws' coded m xs fit).links p (no_wire g))
      go (Some x) g = final_back k d codec plan laws laws' coded m xs fit p x g

  ended : calm_all (star_of e) (calm_start hub0 leaves0) (run_moves k d codec plan laws laws' coded m xs fit) ≡ final
  ended = run_ends k d codec plan laws laws' coded m xs fit

  traffic_is : (p : ℕ) → (traffic_at (calm_all (star_of e) (calm_start hub0 leaves0) (run_moves k d codec plan laws laws' coded m xs fit)).traffic p).1 ≡ back_at k d codec plan m xs p (slice_get xs p)
  traffic_is p = ap (λ (c : Calm H L). (traffic_at c.traffic p).1) ended ∙ back_is p

  out_is : (p : ℕ) (x : Side × S) → slice_get xs p ≡ Some x → (traffic_at (calm_all (star_of e) (calm_start hub0 leaves0) (run_moves k d codec plan laws laws' coded m xs fit)).traffic p).0 ≡ bytes_out k d codec plan m xs p x
  out_is p x g = ap (λ (c : Calm H L). (traffic_at c.traffic p).0) ended ∙ final_out k d codec plan laws laws' coded m xs fit p x g

  is_driven : (h : H) (sent : Streams) → h ≡ (calm_all (star_of e) (calm_start hub0 leaves0) (run_moves k d codec plan laws laws' coded m xs fit)).hub → ((p : ℕ) → sent p ≡ (traffic_at (calm_all (star_of e) (calm_start hub0 leaves0) (run_moves k d codec plan laws laws' coded m xs fit)).traffic p).0) → IsDriven k d codec plan m xs h sent
  is_driven h sent f o =
      let there = final_is_end k d codec plan laws laws' coded m xs fit in
      let same : h ≡ final.hub = f ∙ ap (λ (c : Calm H L). c.hub) ended in
      subst (λ (h : H). IsDriven k d codec plan m xs h sent) (sym same) (record { phase = there.phase; sound = refl; master = there.master; calls = there.calls; tick = there.tick; out = λ p x g. o p ∙ out_is p x g })

  pub over_links : DrivesWell k d codec plan m xs
  over_links said honest = record {
    within = λ x turns h sent inside run p. subst (IsPrefix (said p (sent p))) (traffic_is p) (link_gives (star_of e) steady hub0 leaves0 (run_moves k d codec plan laws laws' coded m xs fit) (run_rests k d codec plan laws laws' coded m xs fit) said (honest_is said honest) x turns h sent (λ q. subst (IsPrefix (x q)) (sym (traffic_is q)) (inside q)) (run_is x turns h sent run) p);
    driven = λ x turns h sent inside given run stop.
        let r = driven (star_of e) steady hub0 leaves0 (run_moves k d codec plan laws laws' coded m xs fit) (run_rests k d codec plan laws laws' coded m xs fit) said (honest_is said honest) x turns h sent (λ q. subst (IsPrefix (x q)) (sym (traffic_is q)) (inside q)) given (run_is x turns h sent run) stop in
        is_driven h sent r.0 r.1;
    talk = λ rounds x talk turns h sent run stop fixed.
        let r = talk_ends (star_of e) steady hub0 leaves0 (run_moves k d codec plan laws laws' coded m xs fit) (run_rests k d codec plan laws laws' coded m xs fit) said (honest_is said honest) rounds x (talk_is said rounds x talk) turns h sent (run_is x turns h sent run) stop fixed in
        (is_driven h sent r.0 r.1, λ p. r.2 p ∙ traffic_is p);
  }
