-- A boundary, and a unit.
use Rattle.ends_model.specs.World.{Side}
use Rattle.ends_model.specs.MachineTurn.{machine_outlook}
use Rattle.every_schedule.specs.Counts.{lonely_in}
use Rattle.every_schedule.proofs.Leads.{LeadsBy, arrives, hub_alone}
use Rattle.every_schedule.proofs.Counted.{IsCount, Counted, counted_on, count_one}
use Rattle.every_schedule.proofs.WireTraffic.{advance_sides}
use Rattle.every_schedule.proofs.Moves.{still_there, arrive}
use Rattle.std.proofs.Common.{◌≡◌, ℕ, ◌^◌, ◌<◌, ◌⊎◌, inl, inr, Bool, true, false, List, [], ◌∷◌, map, Some, None, is_some, refl, sym, ap, ◌∙◌, arith}
use Rattle.std.specs.Prelude.{◌++◌, if◌then◌else◌}
use Rattle.std.proofs.lemmas.Option.{none-some}
use Rattle.process_network.specs.PacketStar.{PacketWorld, hub_packet_move}
use Rattle.cosim_model.specs.declared.values.Want.{Want}
use Rattle.cosim_model.specs.declared.values.Call.{Call}
use Rattle.cosim_model.specs.Values.{all_on}
use Rattle.cosim_model.specs.Parts.{DeviceModel, MasterModel, IsDevice, IsMaster}
use Rattle.cosim_model.specs.Packets.{Decoded, Codec}
use Rattle.ends_model.specs.DeviceTurn.{DeviceEnd}
use Rattle.ends_model.specs.declared.ends.Phase.{Phase}
use Rattle.cosim_model.specs.declared.values.Plan.{Plan}
use Rattle.ends_model.specs.MachineTurn.{MachineEnd, is_clear, is_last_boundary, is_boundary_due}
use Rattle.ends_model.specs.declared.ends.Phase.TheVariants.{Gather, Run, Done}
use Rattle.every_schedule.specs.Wires.{Wire, gathered, sync_sent, wired}
use Rattle.cosim_model.specs.Direct.Moment.{Boundary}
use Rattle.cosim_model.specs.Direct.{Direct, mark, boundary, advance_all, serve_left}
use Rattle.ends_model.specs.World.{ends}
use Rattle.every_schedule.specs.Mirror.{port_of}
use Rattle.every_schedule.proofs.Lists.{map_both, Each, each_to, each_map, off_mid}
use Rattle.every_schedule.proofs.AtPort.{IsFine}
use Rattle.every_schedule.proofs.Syncs.{state, half, restarted}
use Rattle.every_schedule.proofs.AllSyncs.{sync_rest}
use Rattle.every_schedule.proofs.Boundary.{IsPort, IsOpenAt, IsKnown, bound, open_unclear, gathered_all}
use Rattle.every_schedule.proofs.Loops.{gather_rest, serves_all, not_over, clears}
use Rattle.cosim_model.specs.Packets.Body.{Sync}
use Rattle.every_schedule.proofs.Takes.{packet}
use Rattle.every_schedule.proofs.Spelt.{HasTail, one_more, sync_fits, number_fits}
use Rattle.every_schedule.proofs.Moves.{Leads, leads_on, frame}
use Rattle.every_schedule.proofs.Outlooks.{run_outlook}

true_false : true ≡ false → ⊥
true_false e = cc

-- A port between boundaries, with what never changes.
abbrev pub IsReady : {S : Type 0} → DeviceModel S → ℕ → Wire S → Type 0
IsReady d t w = IsFine d t w × IsPort d w

module _ {M S F : Type 0} (k : MasterModel M) (d : DeviceModel S) (codec : Codec F) (plan : Plan) (laws : IsDevice d) (laws' : IsMaster k) where
  abbrev Lead : PacketWorld (MachineEnd M F) (DeviceEnd S F) (Decoded F) → PacketWorld (MachineEnd M F) (DeviceEnd S F) (Decoded F) → Type 0
  Lead = Leads k d codec plan

  abbrev pub at : Phase → Bool → Direct M (Wire S) → PacketWorld (MachineEnd M F) (DeviceEnd S F) (Decoded F)
  at phase mk r = state k d codec plan laws phase r.master r.calls r.tick mk r.devices

  opens : (t : ℕ) → t < 2 ^ 64 → (w : Wire S) → IsReady d t w → IsOpenAt d t (sync_sent F d w t)
  opens t small w f = record {
    port = (laws.advance_needs w.device t ∙ f.1.0, f.1.1, (one_more w.out (packet w.next 0 (Sync t)) f.1.2.0 (sync_fits w.next 0 t f.1.2.2 (omega arith) small), f.1.2.1, number_fits w.next, f.1.2.3, f.1.2.2));
    small = small;
    tail = (w.out, packet w.next 0 (Sync t), [], refl, (refl, (t, refl)), tt);
    seen = laws.advance_seen w.device t f.0.seen;
    last = refl;
    synced = refl;
    heard = (let a = f.0.heard in let b = laws.advance_due w.device t f.0.seen in omega arith);
    held = λ h. let v = f.0.held h in ap is_some (laws.advance_keeps w.device t v.0 f.0.seen v.1).0;
    room = (let a = laws.left_most (d.advance w.device t) in omega arith);
  }

  closes : (t : ℕ) (w : Wire S) → IsKnown d t w → d.want w.device ≡ None → IsReady d t w
  closes t w n e = (by n.kind, n.port)
    where
      by : ((v : Want) × (d.want w.device ≡ Some v) × (w.synced ≡ true) × (w.held ≡ true)) ⊎ ((d.want w.device ≡ None) × (w.synced ≡ false) × (w.held ≡ false)) → IsFine d t w
      by (inl q) = absurd (none-some q.0 (sym e ∙ q.1))
      by (inr q) = record { seen = (let a = n.seen in omega arith); last = (let a = n.last in omega arith); heard = n.heard; synced = q.1; held = λ h. absurd (true_false (sym h ∙ q.2)) }

  all_close : (t : ℕ) (ws : List (Wire S)) → Each (IsKnown d t) ws → Each (λ w. d.want w.device ≡ None) ws → Each (IsReady d t) ws
  all_close t [] n e = tt
  all_close t (w ∷ ws) n e = (closes t w n.0 e.0, all_close t ws n.1 e.1)

  -- with a port at least
  many : (sides : List Side) (r : Direct M (Wire S)) → r.tick < 2 ^ 64 → is_boundary_due k plan r.master r.tick false ≡ true → (w : Wire S) (b : List (Wire S)) → map (λ (w : Wire S). w.side) (w ∷ b) ≡ sides → Each (IsReady d r.tick) (w ∷ b) → Counted k d codec sides r.tick r.tick r.history (boundary k (wired F d) plan (record r { devices = w ∷ b })).history (at Run false (record r { devices = w ∷ b })) (at (if is_last_boundary k plan (boundary k (wired F d) plan (record r { devices = w ∷ b })).master r.tick then Done else Run) true (boundary k (wired F d) plan (record r { devices = w ∷ b }))) × Each (IsReady d r.tick) (boundary k (wired F d) plan (record r { devices = w ∷ b })).devices × ((boundary k (wired F d) plan (record r { devices = w ∷ b })).tick ≡ r.tick) × Each (λ w. d.want w.device ≡ None) (boundary k (wired F d) plan (record r { devices = w ∷ b })).devices × Each HasTail (boundary k (wired F d) plan (record r { devices = w ∷ b })).devices
  many sides r small due w b same ready = (
    counted_on k d codec sides t t t _ _ _ _ _ _ (
      0,
      leads_on k d codec plan _ _ _ synced
          (leads_on k d codec plan _ _ _ (still_there k d codec plan _ _ (ap (λ us. state k d codec plan laws Gather m calls t false us) opened))
          (leads_on k d codec plan _ _ _ (still_there k d codec plan _ _ (sym (not_over k d codec plan laws laws' t false m calls (map sent ws) unclear)))
          (arrive k d codec plan _ _ _ (gather_rest k d codec plan laws laws' t false m calls [] (map sent ws) tt (each_map (IsReady d t) (IsOpenAt d t) sent (opens t small) ws ready))
          (ap (bound k d codec plan laws laws' t false m calls) gathered_are)))),
      marks,
    )
        (served_all.0.0, arrives k d codec served_all.0.0 _ _ _ served_all.0.1 (ap (λ n. state k d codec plan laws (if is_last_boundary k plan last.master t then Done else Run) last.master last.calls n true last.devices) (sym served_all.3)), served_all.0.2),
    all_close t last.devices served_all.1 served_all.2,
    served_all.3,
    served_all.2,
    each_to (IsKnown d t) HasTail (λ w n. n.tail) last.devices served_all.1,
  )
    where
      m : M
      m = r.master

      calls : List Call
      calls = r.calls

      t : ℕ
      t = r.tick

      ws : List (Wire S)
      ws = w ∷ b

      sent : Wire S → Wire S
      sent w = sync_sent F d w t

      last : Direct M (Wire S)
      last = serve_left k (wired F d) plan (advance_all k (wired F d) plan (mark k (wired F d) plan (record r { devices = ws })))

      synced : Lead (state k d codec plan laws Run m calls t false ws) (state k d codec plan laws Gather m calls t false (map restarted (map (λ w. half F d w t) ws)))
      synced = sync_rest k d codec plan laws m calls t false [] w b (each_to (IsReady d t) (IsFine d t) (λ w f. f.0) ws ready) Run (ap (λ v. run_outlook k (frame k d codec plan Run m calls t false (map (port_of F d) ws)) v (map (port_of F d) ws)) due)

      opened : map restarted (map (λ w. half F d w t) ws) ≡ map sent ws
      opened = map_both restarted (λ w. half F d w t) sent (λ w. refl) ws

      unclear : all_on (map is_clear (map (port_of F d) (map sent ws))) ≡ false
      unclear = ap all_on (clears k d codec plan laws laws' t false (map sent ws)) ∙ off_mid (λ w. is_clear (port_of F d w)) [] (map sent b) (sent w) (open_unclear k d codec plan laws laws' t false (sent w) refl)

      gathered_are : map (gathered F d) (map sent ws) ≡ map (λ w. (wired F d).advance w t) ws
      gathered_are = map_both (gathered F d) sent (λ w. (wired F d).advance w t) (λ w. refl) ws

      known : Each (IsKnown d t) (map (λ w. (wired F d).advance w t) ws)
      known = each_map (IsReady d t) (IsKnown d t) (λ w. (wired F d).advance w t) (λ w f. gathered_all k d codec plan laws laws' t false (sync_sent F d w t) (opens t small w f)) ws ready

      marks : IsCount sides 0 t t r.history (r.history ++ Boundary t ∷ [])
      marks =
          let lone : lonely_in sides (Boundary t ∷ []) ≡ 0 = ap (λ (ss : List Side). lonely_in ss (Boundary t ∷ [])) (sym same) in
          count_one sides 0 t t r.history (Boundary t) (omega arith)

      sides_now : map (λ (w : Wire S). w.side) (map (λ w. (wired F d).advance w t) ws) ≡ sides
      sides_now = advance_sides F k d plan laws t ws ∙ same

      served_all : Counted k d codec sides t t (r.history ++ Boundary t ∷ []) last.history (bound k d codec plan laws laws' t false m calls (map (λ w. (wired F d).advance w t) ws)) (state k d codec plan laws (if is_last_boundary k plan last.master t then Done else Run) last.master last.calls t true last.devices) × Each (IsKnown d t) last.devices × Each (λ w. d.want w.device ≡ None) last.devices × (last.tick ≡ t)
      served_all = serves_all k d codec plan laws laws' t false sides m calls (map (λ w. (wired F d).advance w t) ws) (r.history ++ Boundary r.tick ∷ []) sides_now known

  -- A boundary that is due.
  pub boundary_leads : (sides : List Side) (r : Direct M (Wire S)) → r.tick < 2 ^ 64 → is_boundary_due k plan r.master r.tick false ≡ true → map (λ (w : Wire S). w.side) r.devices ≡ sides → Each (IsReady d r.tick) r.devices → Counted k d codec sides r.tick r.tick r.history (boundary k (wired F d) plan r).history (at Run false r) (at (if is_last_boundary k plan (boundary k (wired F d) plan r).master r.tick then Done else Run) true (boundary k (wired F d) plan r)) × Each (IsReady d r.tick) (boundary k (wired F d) plan r).devices × ((boundary k (wired F d) plan r).tick ≡ r.tick) × Each (λ w. d.want w.device ≡ None) (boundary k (wired F d) plan r).devices × Each HasTail (boundary k (wired F d) plan r).devices
  boundary_leads sides r small due same ready = by r.devices same ready
    where
      t : ℕ
      t = r.tick

      by : (ws : List (Wire S)) → map (λ (w : Wire S). w.side) ws ≡ sides → Each (IsReady d r.tick) ws → Counted k d codec sides r.tick r.tick r.history (boundary k (wired F d) plan (record r { devices = ws })).history (at Run false (record r { devices = ws })) (at (if is_last_boundary k plan (boundary k (wired F d) plan (record r { devices = ws })).master r.tick then Done else Run) true (boundary k (wired F d) plan (record r { devices = ws }))) × Each (IsReady d r.tick) (boundary k (wired F d) plan (record r { devices = ws })).devices × ((boundary k (wired F d) plan (record r { devices = ws })).tick ≡ r.tick) × Each (λ w. d.want w.device ≡ None) (boundary k (wired F d) plan (record r { devices = ws })).devices × Each HasTail (boundary k (wired F d) plan (record r { devices = ws })).devices
      by [] same ready = ((1, alone, marks), tt, refl, tt, tt)
        where
          looks : machine_outlook k (frame k d codec plan Run r.master r.calls r.tick false []) ≡ run_outlook k (frame k d codec plan Run r.master r.calls r.tick false []) true []
          looks = ap (λ b. run_outlook k (frame k d codec plan Run r.master r.calls r.tick false []) b []) due

          alone : LeadsBy k d codec 1 (at Run false (record r { devices = [] })) (at (if is_last_boundary k plan (boundary k (wired F d) plan (record r { devices = [] })).master r.tick then Done else Run) true (boundary k (wired F d) plan (record r { devices = [] })))
          alone = hub_alone k d codec _ _ _ looks (ap (hub_packet_move (ends k d codec) (at Run false (record r { devices = [] }))) looks)

          marks : IsCount sides 1 r.tick r.tick r.history (r.history ++ Boundary r.tick ∷ [])
          marks =
              let lone : lonely_in sides (Boundary r.tick ∷ []) ≡ 1 = ap (λ (ss : List Side). lonely_in ss (Boundary r.tick ∷ [])) (sym same) in
              count_one sides 1 r.tick r.tick r.history (Boundary r.tick) (omega arith)
      by (w ∷ b) same ready = many sides r small due w b same ready
