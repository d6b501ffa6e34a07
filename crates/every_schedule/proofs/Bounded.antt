-- No schedule has more effective steps than the run has turns, and the traffic bytes.
use Rattle.std.proofs.Common.{◌≡◌, ℕ, zero, suc, ◌+◌, ◌-◌, ◌*◌, ◌<◌, ◌≤◌, List, [], ◌∷◌, ◌++◌, length, map, Option, Some, None, slice_get, refl, sym, ap, ap₂, ◌∙◌, arith}
use Rattle.std.proofs.lemmas.List.{length-map}
use Rattle.std.proofs.Math.Seq.{drop-append_seam}
use Rattle.process_network.specs.Network.{sum_below}
use Rattle.process_network.specs.CalmRun.{Calm, moves_taken, calm_start, traffic_at}
use Rattle.process_network.specs.PacketStar.{Ends, HubEnd, LeafEnd, PacketLink, star_of, in_bytes, packets_all, packet_turns, written}
use Rattle.process_network.proofs.PacketRuns.{start_in_bytes, turns_in_bytes}
use Rattle.process_network.proofs.Sums.{sum_same}
use Rattle.cosim_model.specs.declared.values.Plan.{Plan}
use Rattle.cosim_model.specs.Parts.{DeviceModel, MasterModel, IsDevice, IsMaster}
use Rattle.cosim_model.specs.Packets.{Packet, Decoded, Codec, IsCodec, IsWritable}
use Rattle.cosim_model.specs.Packets.Decoded.{Valid}
use Rattle.ends_model.specs.DeviceTurn.{DeviceEnd, settled}
use Rattle.ends_model.specs.MachineTurn.{MachineEnd}
use Rattle.cosim_model.specs.Direct.{Direct}
use Rattle.ends_model.specs.Traffic.{wire_out}
use Rattle.ends_model.specs.World.{Side, ends, machine_start, device_start, Fit}
use Rattle.every_schedule.specs.Counts.{accesses_in, lonely_in, posted_in, one_if_whole, rest_after, whole_packets, packets_in}
use Rattle.every_schedule.specs.Mirror.{post_of}
use Rattle.every_schedule.specs.Schedules.{directly, bytes_out, bytes_back, of_side, over_ports, sides, IsBounded}
use Rattle.every_schedule.specs.Wires.{Wire, unsettled}
use Rattle.every_schedule.proofs.Forget.{mapped}
use Rattle.every_schedule.proofs.Greeting.{leaves_of}
use Rattle.every_schedule.proofs.Headline.{hub_start, leaf_starts, begins, last, ran, run_moves, run_posts, good_moves, run_silent, run_result, all_spelled, mirrored, spent_rests, is_direct}
use Rattle.every_schedule.proofs.Leads.{silent_moves}
use Rattle.every_schedule.proofs.Lists.{Each, each_at, get_mapped, unmapped}
use Rattle.every_schedule.proofs.OutDevice.{one_if}
use Rattle.every_schedule.proofs.Schedules.{wire_is, wire_traffic, final_out, final_back, run_sides}
use Rattle.every_schedule.proofs.Turns.{sum_over, weight, all_weight, all_turns, none_yet}
use Rattle.every_schedule.proofs.Units.{get_below}
use Rattle.every_schedule.proofs.Whole.{IsSpent}

-- Sums.

sum_shift : (n : ℕ) (g : ℕ → ℕ) → sum_below (suc n) g ≡ g 0 + sum_below n (λ p. g (suc p))
sum_shift zero g = omega arith
sum_shift (suc n) g = let e = sum_shift n g in omega arith

sum_at : {A : Type 0} (f : A → ℕ) (xs : List A) (g : ℕ → ℕ) → ((p : ℕ) (x : A) → slice_get xs p ≡ Some x → f x ≡ g p) → sum_over f xs ≡ sum_below (length xs) g
sum_at f [] g h = refl
sum_at f (x ∷ xs) g h = let a = h 0 x refl in let b = sum_at f xs (λ p. g (suc p)) (λ p y e. h (suc p) y e) in let c = sum_shift (length xs) g in omega arith

sum_parts : (n : ℕ) (a b : ℕ → ℕ) → sum_below n (λ p. a p + a p + b p + 1) ≡ 2 * sum_below n a + sum_below n b + n
sum_parts zero a b = omega arith
sum_parts (suc n) a b = let e = sum_parts n a b in omega arith

sum_both : (n : ℕ) (a b : ℕ → ℕ) → sum_below n (λ p. a p + b p) ≡ sum_below n a + sum_below n b
sum_both zero a b = omega arith
sum_both (suc n) a b = let e = sum_both n a b in omega arith

-- The packets of the bytes of packets.

module _ {F : Type 0} (codec : Codec F) (coded : IsCodec codec) where
  pub nothing_first : codec.first [] ≡ None
  nothing_first = go (codec.first []) refl
    where
      go : (o : Option (Decoded F × ℕ)) → codec.first [] ≡ o → codec.first [] ≡ None
      go None e = e
      go (Some r) e = let q = coded.decided [] [] r e in absurd (let a = q.0 in let b = q.1 in omega arith)

  some_bytes : (x : Packet) → IsWritable x → 0 < length (codec.write x)
  some_bytes x w = (coded.decided (codec.write x ++ []) [] (Valid x, length (codec.write x)) (coded.reads_back x [] w)).0

  none_whole : (n : ℕ) → whole_packets codec n [] ≡ 0
  none_whole zero = refl
  none_whole (suc n) = ap (λ o. one_if_whole o + whole_packets codec n (rest_after [] o)) nothing_first ∙ (let e = none_whole n in omega arith)

  count_written : (n : ℕ) (ps : List Packet) → Each IsWritable ps → length ps ≤ n → whole_packets codec n (written codec.write ps) ≡ length ps
  count_written n [] w l = none_whole n
  count_written zero (x ∷ ps) w l = absurd (omega arith)
  count_written (suc n) (x ∷ ps) w l =
      ap (λ o. one_if_whole o + whole_packets codec n (rest_after (codec.write x ++ written codec.write ps) o)) (coded.reads_back x (written codec.write ps) w.0)
      ∙ ap (λ bs. 1 + whole_packets codec n bs) (drop-append_seam (codec.write x) (written codec.write ps))
      ∙ (let e = count_written n ps w.1 (omega arith) in omega arith)

  few_packets : (ps : List Packet) → Each IsWritable ps → length ps ≤ length (written codec.write ps)
  few_packets [] w = omega arith
  few_packets (x ∷ ps) w = let a = some_bytes x w.0 in let b = few_packets ps w.1 in let c = append_length (codec.write x) (written codec.write ps) in omega arith
    where
      append_length : (a b : List ℕ) → length (a ++ b) ≡ length a + length b
      append_length [] b = omega arith
      append_length (x ∷ a) b = let e = append_length a b in omega arith

  pub packets_written : (ps : List Packet) → Each IsWritable ps → packets_in codec (written codec.write ps) ≡ length ps
  packets_written ps w = count_written (length (written codec.write ps)) ps w (few_packets ps w)

module _ {M S F : Type 0} (k : MasterModel M) (d : DeviceModel S) (codec : Codec F) (plan : Plan) (laws : IsDevice d) (laws' : IsMaster k) (coded : IsCodec codec) (m : M) (xs : List (Side × S)) (fit : Fit k d plan m xs) where
  abbrev e : Ends (MachineEnd M F) (DeviceEnd S F) (Decoded F)
  e = ends k d codec

  abbrev wires : List (Wire S)
  wires = (ran k d codec plan laws laws' coded m xs fit).devices

  abbrev final : Calm (HubEnd (MachineEnd M F)) (LeafEnd (DeviceEnd S F))
  final = in_bytes e (last k d codec plan laws laws' coded m xs fit)

  abbrev dir : Direct M S
  dir = directly k d codec plan m xs

  same : mapped (λ (w : Wire S). w.device) (ran k d codec plan laws laws' coded m xs fit) ≡ dir
  same = is_direct k d codec plan laws laws' coded m xs fit

  -- the port of a wire
  port_at : (p : ℕ) (w : Wire S) → slice_get wires p ≡ Some w → (x : Side × S) × (slice_get xs p ≡ Some x) × (x.0 ≡ w.side)
  port_at p w g = unmapped (λ (x : Side × S). x.0) xs p w.side (ap (λ (ss : List Side). slice_get ss p) (sym (run_sides k d codec plan laws laws' coded m xs fit)) ∙ get_mapped (λ (w : Wire S). w.side) wires p w g)

  abbrev outs : ℕ → ℕ
  outs p = of_side k d codec plan m xs (λ p x. length (wire_out x.0 p dir.history)) p (slice_get xs p)

  abbrev backs : ℕ → ℕ
  backs p = of_side k d codec plan m xs (λ p x. packets_in codec (bytes_back k d codec plan m xs p x)) p (slice_get xs p)

  at_side : (f : ℕ → Side × S → ℕ) (p : ℕ) (x : Side × S) → slice_get xs p ≡ Some x → of_side k d codec plan m xs f p (slice_get xs p) ≡ f p x
  at_side f p x g = ap (of_side k d codec plan m xs f p) g

  weighs : (p : ℕ) (q : PacketLink (DeviceEnd S F) (Decoded F)) → slice_get (map (post_of F d) wires) p ≡ Some q → weight k d codec q ≡ outs p + outs p + backs p + 1
  weighs p q g =
      let u = unmapped (post_of F d) wires p q g in
      let w : Wire S = u.0 in
      let x = port_at p w u.1 in
      let rests = spent_rests k d codec plan laws laws' coded m xs fit w (each_at (IsSpent k d codec plan laws laws') wires p w (mirrored k d codec plan laws laws' coded m xs fit).1 u.1) in
      let went : one_if (settled {F = F} d (unsettled w)).0.session.hello_went ≡ 1 = ap (λ (r : DeviceEnd S F × List Packet). one_if r.0.session.hello_went) rests in
      let out : length (map {B = Decoded F} Valid w.out) ≡ outs p = length-map w.out Valid ∙ ap (λ (ps : List Packet). length ps) (wire_is k d codec plan laws laws' coded m xs fit p w u.1 ∙ ap (λ (s : Side). wire_out s p dir.history) (sym x.2)) ∙ sym (at_side (λ p x. length (wire_out x.0 p dir.history)) p x.0 x.1) in
      let bytes : written codec.write w.back ≡ bytes_back k d codec plan m xs p x.0 = ap (λ (t : List ℕ × List ℕ). t.1) (sym (wire_traffic k d codec plan laws laws' coded m xs fit p w u.1)) ∙ final_back k d codec plan laws laws' coded m xs fit p x.0 x.1 in
      let back : length (map {B = Decoded F} Valid w.back) ≡ backs p = length-map w.back Valid ∙ sym (packets_written codec coded w.back (each_at (λ w. Each IsWritable w.out × Each IsWritable w.back) wires p w (all_spelled k d codec plan laws laws' coded m xs fit) u.1).1) ∙ ap (packets_in codec) bytes ∙ sym (at_side (λ p x. packets_in codec (bytes_back k d codec plan m xs p x)) p x.0 x.1) in
      sym (ap (weight k d codec) u.2) ∙ (omega arith)

  all_weigh : all_weight k d codec (last k d codec plan laws laws' coded m xs fit) ≡ 2 * sum_below (length xs) outs + sum_below (length xs) backs + length xs
  all_weigh =
      sum_at (weight k d codec) (map (post_of F d) wires) (λ p. outs p + outs p + backs p + 1) weighs
      ∙ sum_parts (length (map (post_of F d) wires)) outs backs
      ∙ ap (λ n. 2 * sum_below n outs + sum_below n backs + n) (length-map wires (post_of F d) ∙ sym (length-map wires (λ (w : Wire S). w.side)) ∙ ap (λ (ss : List Side). length ss) (run_sides k d codec plan laws laws' coded m xs fit) ∙ length-map xs (λ (x : Side × S). x.0))

  lonely_none : (ss : List Side) → lonely_in ss [] ≡ 0
  lonely_none [] = refl
  lonely_none (s ∷ ss) = refl

  turns : packet_turns e (begins k d codec plan laws laws' coded m xs fit) (run_moves k d codec plan laws laws' coded m xs fit) ≤ (dir.tick - accesses_in dir.history) + lonely_in (sides k d codec plan m xs) dir.history + 2 * sum_below (length xs) outs + sum_below (length xs) backs + posted_in (sides k d codec plan m xs) dir.history + length xs
  turns =
      let start : all_weight k d codec (begins k d codec plan laws laws' coded m xs fit) ≡ 0 = none_yet k d codec (leaves_of k d codec plan xs) (λ p l g. let u = unmapped (λ (x : Side × S). device_start F x.0 x.1) xs p l g in ap (λ (l : DeviceEnd S F). l.session.hello_went) (sym u.2)) in
      let all = all_turns k d codec (begins k d codec plan laws laws' coded m xs fit) (run_moves k d codec plan laws laws' coded m xs fit) in
      let there : all_weight k d codec (packets_all e (begins k d codec plan laws laws' coded m xs fit) (run_moves k d codec plan laws laws' coded m xs fit)) ≡ all_weight k d codec (last k d codec plan laws laws' coded m xs fit) = ap (all_weight k d codec) (run_posts k d codec plan laws laws' coded m xs fit) in
      let silent : silent_moves k d codec (begins k d codec plan laws laws' coded m xs fit) (run_moves k d codec plan laws laws' coded m xs fit) + accesses_in (ran k d codec plan laws laws' coded m xs fit).history + (0 + posted_in (sides k d codec plan m xs) [] + lonely_in (sides k d codec plan m xs) []) ≡ accesses_in [] + ((ran k d codec plan laws laws' coded m xs fit).tick + posted_in (sides k d codec plan m xs) (ran k d codec plan laws laws' coded m xs fit).history + lonely_in (sides k d codec plan m xs) (ran k d codec plan laws laws' coded m xs fit).history) = run_silent k d codec plan laws laws' coded m xs fit in
      let lone = lonely_none (sides k d codec plan m xs) in
      let tick : (ran k d codec plan laws laws' coded m xs fit).tick ≡ dir.tick = ap (λ (r : Direct M S). r.tick) same in
      let acc : accesses_in (ran k d codec plan laws laws' coded m xs fit).history ≡ accesses_in dir.history = ap (λ (r : Direct M S). accesses_in r.history) same in
      let post : posted_in (sides k d codec plan m xs) (ran k d codec plan laws laws' coded m xs fit).history ≡ posted_in (sides k d codec plan m xs) dir.history = ap (λ (r : Direct M S). posted_in (sides k d codec plan m xs) r.history) same in
      let lonely : lonely_in (sides k d codec plan m xs) (ran k d codec plan laws laws' coded m xs fit).history ≡ lonely_in (sides k d codec plan m xs) dir.history = ap (λ (r : Direct M S). lonely_in (sides k d codec plan m xs) r.history) same in
      let w = all_weigh in
      let silent' : silent_moves k d codec (begins k d codec plan laws laws' coded m xs fit) (run_moves k d codec plan laws laws' coded m xs fit) + accesses_in dir.history ≡ dir.tick + posted_in (sides k d codec plan m xs) dir.history + lonely_in (sides k d codec plan m xs) dir.history = omega arith in
      omega arith

  bytes_are : sum_below (length xs) (λ p. length (traffic_at final.traffic p).0 + length (traffic_at final.traffic p).1) ≡ over_ports k d codec plan m xs (λ p x. length (bytes_out k d codec plan m xs p x)) + over_ports k d codec plan m xs (λ p x. length (bytes_back k d codec plan m xs p x))
  bytes_are =
      sum_both (length xs) (λ p. length (traffic_at final.traffic p).0) (λ p. length (traffic_at final.traffic p).1)
      ∙ ap₂ ◌+◌ (sum_same (length xs) _ _ outs_are) (sum_same (length xs) _ _ backs_are)
    where
      outs_are : (p : ℕ) → p < length xs → length (traffic_at final.traffic p).0 ≡ of_side k d codec plan m xs (λ p x. length (bytes_out k d codec plan m xs p x)) p (slice_get xs p)
      outs_are p l = let x = get_below xs p l in ap (λ (bs : List ℕ). length bs) (final_out k d codec plan laws laws' coded m xs fit p x.0 x.1) ∙ sym (at_side (λ p x. length (bytes_out k d codec plan m xs p x)) p x.0 x.1)

      backs_are : (p : ℕ) → p < length xs → length (traffic_at final.traffic p).1 ≡ of_side k d codec plan m xs (λ p x. length (bytes_back k d codec plan m xs p x)) p (slice_get xs p)
      backs_are p l = let x = get_below xs p l in ap (λ (bs : List ℕ). length bs) (final_back k d codec plan laws laws' coded m xs fit p x.0 x.1) ∙ sym (at_side (λ p x. length (bytes_back k d codec plan m xs p x)) p x.0 x.1)

  pub bounded : IsBounded k d codec plan m xs
  bounded ss =
      let most = (run_result k d codec plan laws laws' coded m xs fit).bound ss in
      let moves : moves_taken (star_of e) (calm_start (hub_start k d codec plan laws laws' coded m xs fit) (leaf_starts k d codec plan laws laws' coded m xs fit)) (run_moves k d codec plan laws laws' coded m xs fit) ≡ packet_turns e (begins k d codec plan laws laws' coded m xs fit) (run_moves k d codec plan laws laws' coded m xs fit) =
      ap (λ c. moves_taken (star_of e) c (run_moves k d codec plan laws laws' coded m xs fit)) (start_in_bytes e coded.decided (machine_start F m (length xs) plan) (leaves_of k d codec plan xs))
      ∙ turns_in_bytes e coded.decided (begins k d codec plan laws laws' coded m xs fit) (run_moves k d codec plan laws laws' coded m xs fit) (good_moves k d codec plan laws laws' coded m xs fit) in
      let ports : length (leaf_starts k d codec plan laws laws' coded m xs fit) ≡ length xs = length-map _ _ ∙ length-map xs (λ (x : Side × S). device_start F x.0 x.1) in
      let sum : sum_below (length (leaf_starts k d codec plan laws laws' coded m xs fit)) (λ p. length (traffic_at final.traffic p).0 + length (traffic_at final.traffic p).1) ≡ sum_below (length xs) (λ p. length (traffic_at final.traffic p).0 + length (traffic_at final.traffic p).1) = ap (λ n. sum_below n (λ p. length (traffic_at final.traffic p).0 + length (traffic_at final.traffic p).1)) ports in
      let bytes = bytes_are in
      let t = turns in
      omega arith
