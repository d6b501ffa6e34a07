-- Each device's last move in the run sends.
use Rattle.std.proofs.Common.{◌≡◌, ℕ, zero, suc, ◌+◌, ◌<◌, ◌⊎◌, inl, inr, Bool, true, false, List, [], ◌∷◌, ◌++◌, length, map, Option, Some, None, slice_get, refl, sym, ap, ap₂, ◌∙◌, subst, arith, append_assoc, append-nil, length-append}
use Rattle.std.proofs.lemmas.List.{map-append, length-map}
use Rattle.std.proofs.lemmas.Option.{same_Some, slice_get_within, get_or_from_slice_get}
use Rattle.process_network.specs.Network.{IsPrefix}
use Rattle.process_network.specs.CalmRun.{Move, Calm, traffic_at, no_traffic, calm_all, calm_start, leaf_moves_taken, EndsBySending}
use Rattle.process_network.specs.CalmRun.Move.{LeafMoves}
use Rattle.process_network.specs.PacketStar.{LeafOutlook, Ends, HubEnd, LeafEnd, PacketLink, PacketWorld, packets_after, packets_all, star_of, written, in_bytes, link_traffic, fresh_link, fresh_leaf, AllReadable, leaf_count_at, leaf_count, waiting_count, packet_move_at, leaf_packet_move, leaf_takes, packet_leaf_turns}
use Rattle.process_network.specs.PacketStar.LeafOutlook.{LeafActs, LeafWaits, LeafHalts}
use Rattle.process_network.proofs.MovesAtPort.{get_set, packets_append}
use Rattle.process_network.proofs.PacketRuns.{written_append, packets_in_bytes, start_in_bytes, leaf_turns_in_bytes}
use Rattle.cosim_model.specs.Parts.{DeviceModel, MasterModel, IsDevice, IsMaster}
use Rattle.cosim_model.specs.Packets.{Packet, Decoded, Codec, IsCodec, spell}
use Rattle.cosim_model.specs.Packets.Decoded.{Valid}
use Rattle.cosim_model.specs.declared.session.EndFault.{EndFault}
use Rattle.ends_model.specs.DeviceTurn.{DeviceEnd, device_takes, device_looks}
use Rattle.cosim_model.specs.declared.values.Plan.{Plan}
use Rattle.ends_model.specs.MachineTurn.{MachineEnd}
use Rattle.ends_model.specs.World.{Side}
use Rattle.every_schedule.specs.Wires.{Wire, unsettled, open_if}
use Rattle.ends_model.specs.World.{ends, machine_start, device_start, Fit}
use Rattle.every_schedule.specs.Mirror.{post_of}
use Rattle.every_schedule.proofs.Lists.{Each, each_at, get_mid, unmapped, get_mapped}
use Rattle.every_schedule.proofs.Tails.{IsMatched}
use Rattle.every_schedule.proofs.Spelt.{HasTail}
use Rattle.every_schedule.proofs.Whole.{IsSpent}
use Rattle.every_schedule.proofs.Sent.{Holds}
use Rattle.every_schedule.proofs.Greeting.{leaves_of}
use Rattle.every_schedule.proofs.Endings.{LastTurn, last_turn, quiet_kept, moves_grown, run_inv}
use Rattle.every_schedule.proofs.Tidy.{Tail_inv, inv_acts, inv_takes, tail_sends}
use Rattle.every_schedule.proofs.Headline.{IsSound, hub_start, leaf_starts, run_moves, run_posts, good_moves, all_holds, begins, last, ran, mirrored, spent_rests}

get_below : {A : Type 0} (xs : List A) (p : ℕ) → p < length xs → (x : A) × (slice_get xs p ≡ Some x)
get_below [] p l = absurd (omega arith)
get_below (x ∷ xs) zero l = (x, refl)
get_below (x ∷ xs) (suc p) l = get_below xs p (omega arith)

good_front : {H L P : Type 0} (e : Ends H L P) (c : PacketWorld H L P) (a b : List Move) → AllReadable e c (a ++ b) → AllReadable e c a
good_front e c [] b g = tt
good_front e c (m ∷ a) b g = (g.0, good_front e (packets_after e c m) a b g.1)

never : {A : Type 0} (pre : List A) (s : A) (reps : List A) → [] ≡ pre ++ s ∷ reps → ⊥
never [] s reps e = cc
never (p ∷ pre) s reps e = cc

module _ {M S F : Type 0} (k : MasterModel M) (d : DeviceModel S) (codec : Codec F) (plan : Plan) (laws : IsDevice d) (laws' : IsMaster k) (coded : IsCodec codec) (m : M) (xs : List (Side × S)) (fit : Fit k d plan m xs) where
  abbrev e : Ends (MachineEnd M F) (DeviceEnd S F) (Decoded F)
  e = ends k d codec

  abbrev c0 : PacketWorld (MachineEnd M F) (DeviceEnd S F) (Decoded F)
  c0 = begins k d codec plan laws laws' coded m xs fit

  abbrev ms : List Move
  ms = run_moves k d codec plan laws laws' coded m xs fit

  abbrev hub0 : HubEnd (MachineEnd M F)
  hub0 = hub_start k d codec plan laws laws' coded m xs fit

  abbrev leaves0 : List (LeafEnd (DeviceEnd S F))
  leaves0 = leaf_starts k d codec plan laws laws' coded m xs fit

  abbrev wires : List (Wire S)
  wires = (ran k d codec plan laws laws' coded m xs fit).devices

  Po : Type 0
  Po = PacketLink (DeviceEnd S F) (Decoded F)

  abbrev back_of : PacketLink (DeviceEnd S F) (Decoded F) → List (Decoded F)
  back_of q = q.back_taken ++ q.back_waiting

  abbrev starts_in : (ss : List Move) → AllReadable e c0 ss → Type 0
  starts_in ss g = calm_all (star_of e) (calm_start hub0 leaves0) ss ≡ in_bytes e (packets_all e c0 ss)

  in_packets : (ss : List Move) (g : AllReadable e c0 ss) → starts_in ss g
  in_packets ss g = ap (λ c. calm_all (star_of e) c ss) (start_in_bytes e coded.decided (machine_start F m (length xs) plan) (leaves_of k d codec plan xs)) ∙ packets_in_bytes e coded.decided c0 ss g

  counted_in : (p : ℕ) (ss : List Move) → AllReadable e c0 ss → leaf_moves_taken (star_of e) (calm_start hub0 leaves0) p ss ≡ packet_leaf_turns e c0 p ss
  counted_in p ss g = ap (λ c. leaf_moves_taken (star_of e) c p ss) (start_in_bytes e coded.decided (machine_start F m (length xs) plan) (leaves_of k d codec plan xs)) ∙ leaf_turns_in_bytes e coded.decided c0 p ss g

  back_bytes : (p : ℕ) (ss : List Move) (g : AllReadable e c0 ss) (q : PacketLink (DeviceEnd S F) (Decoded F)) → slice_get (packets_all e c0 ss).links p ≡ Some q → (traffic_at (calm_all (star_of e) (calm_start hub0 leaves0) ss).traffic p).1 ≡ written e.write (back_of q)
  back_bytes p ss g q f = ap (λ (c : Calm (HubEnd (MachineEnd M F)) (LeafEnd (DeviceEnd S F))). (traffic_at c.traffic p).1) (in_packets ss g)
      ∙ ap (λ (t : List ℕ × List ℕ). t.1) (get_or_from_slice_get (map (link_traffic e) (packets_all e c0 ss).links) p (link_traffic e q) no_traffic (get_mapped (link_traffic e) (packets_all e c0 ss).links p q f))

  -- a packet that is sent has bytes
  longer : (x : Decoded F) → IsSound x → 0 < length (e.write x)
  longer x s =
      let r = coded.decided (codec.write s.0 ++ []) [] (Valid s.0, length (codec.write s.0)) (coded.reads_back s.0 [] s.2) in
      subst (λ (x : Decoded F). 0 < length (spell codec x)) (sym s.1) r.0

  more_back : (a : List (Decoded F)) (x : Decoded F) (sent : List (Decoded F)) (b : List (Decoded F)) → IsPrefix (a ++ x ∷ sent) b → Each IsSound b → length (written e.write a) < length (written e.write b)
  more_back a x sent b w sound =
      let parts : a ++ (x ∷ (sent ++ w.0)) ≡ b = sym (append_assoc a (x ∷ sent) w.0) ∙ w.1 in
      let one : IsSound x = each_at IsSound b (length a) x sound (ap (λ t. slice_get t (length a)) (sym parts) ∙ get_mid a (sent ++ w.0) x) in
      let l = longer x one in
      let n : length (written e.write b) ≡ length (written e.write a) + (length (e.write x) + length (written e.write (sent ++ w.0))) = ap (λ t. length (written e.write t)) (sym parts) ∙ ap length (written_append e.write a (x ∷ (sent ++ w.0))) ∙ length-append (written e.write a) (e.write x ++ written e.write (sent ++ w.0)) ∙ ap (λ t. length (written e.write a) + t) (length-append (e.write x) (written e.write (sent ++ w.0))) in
      omega arith

  module _ (p : ℕ) (w : Wire S) (qn : PacketLink (DeviceEnd S F) (Decoded F)) (gw : slice_get wires p ≡ Some w) (is_n : post_of F d w ≡ qn) (gn : slice_get (packets_all e c0 ms).links p ≡ Some qn) where
    spent : IsSpent k d codec plan laws laws' w
    spent = each_at (IsSpent k d codec plan laws laws') wires p w (mirrored k d codec plan laws laws' coded m xs fit).1 gw

    leaf_n : qn.leaf ≡ unsettled w
    leaf_n = ap (λ (q : PacketLink (DeviceEnd S F) (Decoded F)). q.leaf) (sym is_n) ∙ ap (λ (r : DeviceEnd S F × List Packet). r.0) (spent_rests k d codec plan laws laws' coded m xs fit w spent)

    fault_n : qn.leaf.fault ≡ None
    fault_n = ap (λ (l : DeviceEnd S F). l.fault) leaf_n

    open_n : qn.leaf.open_sync ≡ None
    open_n = ap (λ (l : DeviceEnd S F). l.open_sync) leaf_n ∙ ap (λ b. open_if b w.sync_id w.last) spent.1.0.0.synced

    sound_n : Each IsSound (back_of qn)
    sound_n = (each_at (Holds e IsSound) (last k d codec plan laws laws' coded m xs fit).links p qn (all_holds k d codec plan laws laws' coded m xs fit) (ap (λ (c : PacketWorld (MachineEnd M F) (DeviceEnd S F) (Decoded F)). slice_get c.links p) (sym (run_posts k d codec plan laws laws' coded m xs fit)) ∙ gn)).1

    out_n : qn.out_taken ≡ map Valid w.out
    out_n = ap (λ (q : PacketLink (DeviceEnd S F) (Decoded F)). q.out_taken) (sym is_n)

    out_new_n : qn.out_waiting ≡ []
    out_new_n = ap (λ (q : PacketLink (DeviceEnd S F) (Decoded F)). q.out_waiting) (sym is_n)

    abbrev t : HasTail w
    t = spent.1.2

    abbrev all : List (Decoded F)
    all = map Valid t.0 ++ Valid t.1 ∷ map Valid t.2

    all_is : qn.out_taken ≡ all
    all_is = out_n ∙ ap (map Valid) t.3 ∙ map-append Valid t.0 (t.1 ∷ t.2)

    module _ (q0 : PacketLink (DeviceEnd S F) (Decoded F)) (g0 : slice_get c0.links p ≡ Some q0) (start : Tail_inv {F = F} d t.0 t.1 t.2 t.4 t.5 q0.leaf q0.out_taken) where
      abbrev Q : DeviceEnd S F → List (Decoded F) → Type 0
      Q = Tail_inv d t.0 t.1 t.2 t.4 t.5

      -- where leaf p takes no further turn, what it is and has taken is so at the end
      sends_last : (before behind : List Move) → ms ≡ before ++ LeafMoves p ∷ behind → (q q2 : PacketLink (DeviceEnd S F) (Decoded F)) → slice_get (packets_all e c0 before).links p ≡ Some q → slice_get (packets_after e (packets_all e c0 before) (LeafMoves p)).links p ≡ Some q2 → (x : Decoded F) (sent : List (Decoded F)) → back_of q2 ≡ q.back_taken ++ (q.back_waiting ++ x ∷ sent) → length (written e.write (back_of q)) < length (written e.write (back_of qn))
      sends_last before behind em q q2 g g2 x sent eb =
          let grown = moves_grown e (packets_after e (packets_all e c0 before) (LeafMoves p)) behind p q2 g2 in
          let all_moves : packets_all e (packets_after e (packets_all e c0 before) (LeafMoves p)) behind ≡ packets_all e c0 ms = sym (ap (packets_all e c0) em ∙ packets_append e c0 before (LeafMoves p ∷ behind)) in
          let same : grown.0 ≡ qn = same_Some grown.0 qn (sym grown.1 ∙ ap (λ (c : PacketWorld (MachineEnd M F) (DeviceEnd S F) (Decoded F)). slice_get c.links p) all_moves ∙ gn) in
          let front : IsPrefix (back_of q2) (back_of qn) = subst (λ (n : PacketLink (DeviceEnd S F) (Decoded F)). IsPrefix (back_of q2) (back_of n)) same grown.2.1 in
          more_back (back_of q) x sent (back_of qn) (subst (λ t. IsPrefix t (back_of qn)) (eb ∙ sym (append_assoc q.back_taken q.back_waiting (x ∷ sent))) front) sound_n

      kept_last : (before behind : List Move) → ms ≡ before ++ LeafMoves p ∷ behind → packet_leaf_turns e (packets_after e (packets_all e c0 before) (LeafMoves p)) p behind ≡ 0 → (q2 : PacketLink (DeviceEnd S F) (Decoded F)) → slice_get (packets_after e (packets_all e c0 before) (LeafMoves p)).links p ≡ Some q2 → (qn.leaf ≡ q2.leaf) × (qn.out_taken ≡ q2.out_taken)
      kept_last before behind em z q2 g2 =
          let kept = quiet_kept e (packets_after e (packets_all e c0 before) (LeafMoves p)) p behind z q2 g2 in
          let all_moves : packets_all e (packets_after e (packets_all e c0 before) (LeafMoves p)) behind ≡ packets_all e c0 ms = sym (ap (packets_all e c0) em ∙ packets_append e c0 before (LeafMoves p ∷ behind)) in
          let same : kept.0 ≡ qn = same_Some kept.0 qn (sym kept.1 ∙ ap (λ (c : PacketWorld (MachineEnd M F) (DeviceEnd S F) (Decoded F)). slice_get c.links p) all_moves ∙ gn) in
          (ap (λ (q : PacketLink (DeviceEnd S F) (Decoded F)). q.leaf) (sym same) ∙ kept.2.0, ap (λ (q : PacketLink (DeviceEnd S F) (Decoded F)). q.out_taken) (sym same) ∙ kept.2.1)

      holds_before : (before behind : List Move) → ms ≡ before ++ LeafMoves p ∷ behind → (q : PacketLink (DeviceEnd S F) (Decoded F)) → slice_get (packets_all e c0 before).links p ≡ Some q → Q q.leaf q.out_taken
      holds_before before behind em q g =
          let grown = moves_grown e (packets_all e c0 before) (LeafMoves p ∷ behind) p q g in
          let same : grown.0 ≡ qn = same_Some grown.0 qn (sym grown.1 ∙ ap (λ (c : PacketWorld (MachineEnd M F) (DeviceEnd S F) (Decoded F)). slice_get c.links p) (sym (ap (packets_all e c0) em ∙ packets_append e c0 before (LeafMoves p ∷ behind))) ∙ gn) in
          let front : IsPrefix (q.out_taken ++ q.out_waiting) (qn.out_taken ++ qn.out_waiting) = subst (λ (n : PacketLink (DeviceEnd S F) (Decoded F)). IsPrefix (q.out_taken ++ q.out_waiting) (n.out_taken ++ n.out_waiting)) same grown.2.0 in
          run_inv e p Q all (inv_acts d t.0 t.1 t.2 t.4 t.5) (inv_takes d t.0 t.1 t.2 t.4 t.5) c0 before q0 g0 start q g
          (subst (IsPrefix (q.out_taken ++ q.out_waiting)) (ap₂ ◌++◌ all_is out_new_n ∙ append-nil all) front)

      sends_at : (before behind : List Move) → ms ≡ before ++ LeafMoves p ∷ behind → packet_leaf_turns e (packets_after e (packets_all e c0 before) (LeafMoves p)) p behind ≡ 0 → (q : PacketLink (DeviceEnd S F) (Decoded F)) → slice_get (packets_all e c0 before).links p ≡ Some q → leaf_count q (e.leaf_outlook q.leaf) ≡ 1 → length (written e.write (back_of q)) < length (written e.write (back_of qn))
      sends_at before behind em z q g one = looks (e.leaf_outlook q.leaf) refl one
        where
          c1 : PacketWorld (MachineEnd M F) (DeviceEnd S F) (Decoded F)
          c1 = packets_all e c0 before

          inside : p < length c1.links
          inside = slice_get_within c1.links p q g

          after_is : (v : LeafOutlook (DeviceEnd S F) (Decoded F)) → e.leaf_outlook q.leaf ≡ v → packets_after e c1 (LeafMoves p) ≡ leaf_packet_move e c1 p q v
          after_is v f = ap (packet_move_at e c1 p) g ∙ ap (leaf_packet_move e c1 p q) f

          greets : (next : DeviceEnd S F) (sends : List (Decoded F)) → (o : Option (EndFault F)) (went : Bool) → device_looks q.leaf o went ≡ LeafActs next sends → (x : Decoded F) × (sends ≡ x ∷ [])
          greets next sends None false f = (_, sym (acts_sends f))
            where
              acts_sends : {n n' : DeviceEnd S F} {a b : List (Decoded F)} → ◌≡◌ {A = LeafOutlook (DeviceEnd S F) (Decoded F)} (LeafActs n a) (LeafActs n' b) → a ≡ b
              acts_sends e = cc
          greets next sends None true f = absurd (cc)
          greets next sends (Some y) went f = absurd (cc)

          took : (ms' : List (Decoded F)) → q.out_waiting ≡ ms' → e.leaf_outlook q.leaf ≡ LeafWaits → waiting_count ms' ≡ 1 → length (written e.write (back_of q)) < length (written e.write (back_of qn))
          took [] n f c = absurd (omega arith)
          took (x ∷ rest) n f c = sent (device_takes d q.leaf x).1 refl
            where
              q2 : PacketLink (DeviceEnd S F) (Decoded F)
              q2 = record { leaf = (device_takes d q.leaf x).0; out_taken = q.out_taken ++ x ∷ []; out_waiting = rest; back_taken = q.back_taken; back_waiting = q.back_waiting ++ map Valid (device_takes d q.leaf x).1 }

              g2 : slice_get (packets_after e c1 (LeafMoves p)).links p ≡ Some q2
              g2 = ap (λ (c : PacketWorld (MachineEnd M F) (DeviceEnd S F) (Decoded F)). slice_get c.links p) (after_is LeafWaits f ∙ ap (leaf_takes e c1 p q) n) ∙ get_set c1.links p q2 inside

              kept : (qn.leaf ≡ q2.leaf) × (qn.out_taken ≡ q2.out_taken)
              kept = kept_last before behind em z q2 g2

              sent : (ps : List Packet) → (device_takes d q.leaf x).1 ≡ ps → length (written e.write (back_of q)) < length (written e.write (back_of qn))
              sent [] s = absurd (tail_sends d t.0 t.1 t.2 t.4 t.5 q.leaf q.out_taken x f (holds_before before behind em q g) (sym kept.1 ∙ all_is) (ap (λ (l : DeviceEnd S F). l.fault) (sym kept.0) ∙ fault_n) (ap (λ (l : DeviceEnd S F). l.open_sync) (sym kept.0) ∙ open_n) s)
              sent (y ∷ ys) s = sends_last before behind em q q2 g g2 (Valid y) (map Valid ys) (ap (λ (ps : List Packet). q.back_taken ++ (q.back_waiting ++ map Valid ps)) s)

          looks : (v : LeafOutlook (DeviceEnd S F) (Decoded F)) → e.leaf_outlook q.leaf ≡ v → leaf_count q v ≡ 1 → length (written e.write (back_of q)) < length (written e.write (back_of qn))
          looks (LeafActs next sends) f c =
              let h = greets next sends q.leaf.fault q.leaf.session.hello_went f in
              let q2 : PacketLink (DeviceEnd S F) (Decoded F) = record { leaf = next; out_taken = q.out_taken; out_waiting = q.out_waiting; back_taken = q.back_taken; back_waiting = q.back_waiting ++ sends } in
              sends_last before behind em q q2 g (ap (λ (c : PacketWorld (MachineEnd M F) (DeviceEnd S F) (Decoded F)). slice_get c.links p) (after_is (LeafActs next sends) f) ∙ get_set c1.links p q2 inside) h.0 [] (ap (λ (s : List (Decoded F)). q.back_taken ++ (q.back_waiting ++ s)) h.1)
          looks LeafWaits f c = took q.out_waiting refl f c
          looks LeafHalts f c = absurd (omega arith)

      port_ends : EndsBySending (star_of e) hub0 leaves0 ms p
      port_ends = by (last_turn e c0 p ms)
        where
          good : AllReadable e c0 ms
          good = good_moves k d codec plan laws laws' coded m xs fit

          by : (packet_leaf_turns e c0 p ms ≡ 0) ⊎ LastTurn e c0 p ms → EndsBySending (star_of e) hub0 leaves0 ms p
          by (inl z) = inl (counted_in p ms good ∙ z)
          by (inr l) =
              let gb : AllReadable e c0 l.0 = good_front e c0 l.0 (LeafMoves p ∷ l.1) (subst (AllReadable e c0) l.2 good) in
              let at = moves_grown e c0 l.0 p q0 g0 in
              let count : leaf_count at.0 (e.leaf_outlook at.0.leaf) ≡ 1 = sym (ap (leaf_count_at e) at.1) ∙ l.4 in
              let z : packet_leaf_turns e (packets_after e (packets_all e c0 l.0) (LeafMoves p)) p l.1 ≡ 0 = ap (λ c. packet_leaf_turns e c p l.1) (sym (packets_append e c0 l.0 (LeafMoves p ∷ []))) ∙ l.5 in
              inr (
                l.0,
                counted_in p ms good ∙ l.3 ∙ ap suc (sym (counted_in p l.0 gb)),
                subst (λ (a : List ℕ). length a < length (traffic_at (calm_all (star_of e) (calm_start hub0 leaves0) ms).traffic p).1) (sym (back_bytes p l.0 gb at.0 at.1))
                    (subst (λ (a : List ℕ). length (written e.write (back_of at.0)) < length a) (sym (back_bytes p ms good qn gn)) (sends_at l.0 l.1 l.2 z at.0 at.1 count)),
              )

  -- Every port.
  pub each_ends : (p : ℕ) → p < length leaves0 → EndsBySending (star_of e) hub0 leaves0 ms p
  each_ends p l =
      let a = get_below c0.links p (let n = length-map (leaves_of k d codec plan xs) (fresh_leaf {L = DeviceEnd S F}) in let n' = length-map (leaves_of k d codec plan xs) (fresh_link {L = DeviceEnd S F} {P = Decoded F}) in omega arith) in
      let u = unmapped fresh_link (leaves_of k d codec plan xs) p a.0 a.1 in
      let v = unmapped (λ (x : Side × S). device_start F x.0 x.1) xs p u.0 u.1 in
      let n = moves_grown e c0 ms p a.0 a.1 in
      let at_last : slice_get (last k d codec plan laws laws' coded m xs fit).links p ≡ Some n.0 = ap (λ (c : PacketWorld (MachineEnd M F) (DeviceEnd S F) (Decoded F)). slice_get c.links p) (sym (run_posts k d codec plan laws laws' coded m xs fit)) ∙ n.1 in
      let w = unmapped (post_of F d) wires p n.0 at_last in
      port_ends p w.0 n.0 w.1 w.2 n.1 a.0 a.1 (
        inr (subst (λ (q : PacketLink (DeviceEnd S F) (Decoded F)). IsMatched q.leaf) u.2 (subst (λ (l : DeviceEnd S F). IsMatched l) v.2 (λ h. refl))),
        λ r f. absurd (never _ _ _ (ap (λ (q : PacketLink (DeviceEnd S F) (Decoded F)). q.out_taken) u.2 ∙ f)),
      )
