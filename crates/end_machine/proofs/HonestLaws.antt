-- Over honest links driving ends as the direct machine does.
use Rattle.std.proofs.Common.{◌≡◌, ℕ, zero, suc, List, ◌++◌, drop, length, get_or, map, refl, sym, ap, ◌∙◌, subst}
use Rattle.std.proofs.Common.{Result, Ok, Err}
use Rattle.std.specs.Prelude.{Option, Some, None, IfSome, slice_get}
use Rattle.std.proofs.lemmas.Option.{none-some}
use Rattle.std.proofs.lemmas.List.{length-map}
use Rattle.process_network.specs.Network.{Streams}
use Rattle.process_network.specs.PacketStar.{HubOutlook, fresh_hub, hub_after_take, hub_turn_by, star_of}
use Rattle.process_network.specs.PacketStar.HubOutlook.{HubActs, HubWaits, HubHalts}
use Rattle.process_network.specs.StarTalk.{IsHubRun, StarTalk}
use Rattle.cos_base.specs.Links.{Wire, IsWire}
use Rattle.cosim_model.specs.declared.session.EndFault.{EndFault}
use Rattle.cosim_model.specs.declared.session.EndFault.TheVariants as fault
use Rattle.cosim_model.specs.declared.values.Plan.{Plan}
use Rattle.cosim_model.specs.Packets.{Decoded}
use Rattle.cosim_model.specs.Parts.{DeviceModel, IsDevice, IsMaster, MasterModel}
use Rattle.ends_model.specs.declared.ends.Phase.TheVariants.{Done}
use Rattle.ends_model.specs.MachineTurn.{MachineEnd, machine_outlook}
use Rattle.ends_model.specs.World.{Fit, Side, ends as both, machine_start}
use Rattle.every_schedule.specs.Schedules.{IsDriven as IsDone, IsHonest, back_at}
use Rattle.every_schedule.proofs.OverLinks.{over_links}
use Rattle.rp_packet.specs.declared.fault.Cause.{Cause}
use Rattle.rp_packet.specs.declared.fault.PacketFault.{PacketFault}
use Rattle.rp_packet.specs.CodecLaws.{codec-laws}
use Rattle.rp_packet.specs.Streams.{packet_codec}
use Rattle.machine_turns.specs.declared.fault.TurnFault.{TurnFault}
use Rattle.machine_turns.specs.declared.fault.TurnFault.TheVariants as turn_fault
use Rattle.machine_turns.specs.Runs.{IsRun, Rests, Taking, machine_alone}
use Rattle.end_machine.specs.Wires.{AllTell, Said, said_on}
use Rattle.end_machine.specs.Talk.{ByTalk, EndsSo, FailsSo, TalkEnds}
use Rattle.end_machine.specs.Driving.{EndsDirectly, Leaves}
use Rattle.end_machine.proofs.DriveLaws.{leaves-talk, looks-done, not-halts, telling-on}
use Rattle.end_machine.proofs.RunLaws.{wires-at}
use Rattle.end_machine.proofs.WireLaws.{tell-size, tell-some}

module _ {M S : Type 0} (k : MasterModel M) (d : DeviceModel S) where
  -- a machine end alone takes the turns of the one among device ends

  take-same : (h : Taking M) (p : ℕ) (o : Option (Decoded Cause × ℕ))
      → hub_after_take (machine_alone k packet_codec) h p o ≡ hub_after_take (both k d packet_codec) h p o
  take-same h p None = refl
  take-same h p (Some m) = refl

  turn-same : (h : Taking M) (x : Streams) (v : HubOutlook (MachineEnd M Cause) (Decoded Cause))
      → hub_turn_by (machine_alone k packet_codec) h x v ≡ hub_turn_by (both k d packet_codec) h x v
  turn-same h x (HubActs next None) = refl
  turn-same h x (HubActs next (Some m)) = refl
  turn-same h x (HubWaits p) = take-same h p (packet_codec.first (drop (get_or h.taken p 0) (x p)))
  turn-same h x HubHalts = refl

  hub-same : (h : Taking M) (x : Streams)
      → (star_of (machine_alone k packet_codec)).hub_turn h x ≡ (star_of (both k d packet_codec)).hub_turn h x
  hub-same h x = turn-same h x (machine_outlook k h.core)

  run-same : (start : MachineEnd M Cause) (n : ℕ) (x : Streams) (turns : ℕ) (h : Taking M) (sent : Streams)
      → IsRun k start n x turns h sent → IsHubRun (star_of (both k d packet_codec)) n (fresh_hub start n) x turns h sent
  run-same start n x zero h sent run = run
  run-same start n x (suc turns) h sent run =
      (run.0, run.1, run.2, run-same start n x turns run.0 run.1 run.3, sym (hub-same run.0 x) ∙ run.4, run.5)

  talk-same : (start : MachineEnd M Cause) (n : ℕ) (said : Said) (rounds : ℕ) (x : Streams)
      → StarTalk (star_of (machine_alone k packet_codec)) n (fresh_hub start n) said rounds x
      → StarTalk (star_of (both k d packet_codec)) n (fresh_hub start n) said rounds x
  talk-same start n said zero x talk = talk
  talk-same start n said (suc r) x talk = (
    talk.0,
    talk.1,
    talk.2,
    talk.3,
    talk-same start n said r talk.0 talk.4,
    run-same start n talk.0 talk.1 talk.2 talk.3 talk.5,
    sym (hub-same talk.2 talk.0) ∙ talk.6,
    talk.7,
  )

  module _ (plan : Plan) (m : M) (xs : List (Side × S)) where
    done-directly : (said : Said) (e : MachineEnd M Cause) (r : Result Unit TurnFault)
        → TalkEnds k (machine_start Cause m (length xs) plan) (length xs) said e r → IsDevice d → IsMaster k
        → Fit k d plan m xs → IsHonest k d packet_codec plan m xs said → EndsDirectly k d plan m xs e r
    done-directly said e r talk device master fit honest = by r talk.ends
      where
        over : IsDone k d packet_codec plan m xs talk.hub talk.sent
            × ((p : ℕ) → talk.received p ≡ back_at k d packet_codec plan m xs p (slice_get xs p))
        over =
            (over_links k d packet_codec plan device master codec-laws m xs fit said honest).talk talk.rounds
            talk.received
            (talk-same (machine_start Cause m (length xs) plan) (length xs) said talk.rounds talk.received talk.talk)
            talk.turns talk.hub
            talk.sent (run-same (machine_start Cause m (length xs) plan) (length xs) talk.received talk.turns
            talk.hub talk.sent talk.run)
            (sym (hub-same talk.hub talk.received) ∙ talk.rests) talk.fixed

        done : IsDone k d packet_codec plan m xs talk.hub talk.sent
        done = over.0

        halted : (p : ℕ) → machine_outlook k talk.hub.core ≡ HubWaits p → ⊥
        halted p is = not-halts p (sym (looks-done k talk.hub.core done.phase done.sound) ∙ is)

        faulty : (f : ℕ × EndFault Cause) → talk.hub.core.fault ≡ Some f → ⊥
        faulty f is = none-some f (sym done.sound ∙ is)

        fails : (p : ℕ) (x : EndFault PacketFault) → FailsSo k talk.hub talk.received p x → ⊥
        fails p (fault.Ended n) ends = halted p ends.0
        fails p (fault.Truncated a b) ends = halted p ends.0
        fails p (fault.Malformed f) ends = faulty _ ends.0
        fails p (fault.Session f) ends = faulty _ ends
        fails p (fault.LateWant at got) ends = faulty _ ends
        fails p (fault.TooMuch n) ends = ends
        fails p (fault.Link n) ends = ends
        fails p (fault.Astray n) ends = ends
        fails p fault.NoMemory ends = ends

        by : (r : Result Unit TurnFault) → EndsSo k talk.hub talk.received r → EndsDirectly k d plan m xs e r
        by (Ok u) ends = record {
          master = talk.parts.0 ∙ done.master;
          calls = talk.parts.1 ∙ done.calls;
          tick = talk.parts.2 ∙ done.tick;
        }
        by (Err turn_fault.NoMemory) ends = tt
        by (Err (turn_fault.Port f)) ends = absurd (fails f.port f.fault ends)

    -- the same of an answer by Talk
    pub ends-directly : (said : Said) (e : MachineEnd M Cause) (r : Result Unit TurnFault)
        → ByTalk k (machine_start Cause m (length xs) plan) (length xs) said e r → IsDevice d → IsMaster k
        → Fit k d plan m xs → IsHonest k d packet_codec plan m xs said → EndsDirectly k d plan m xs e r
    ends-directly said e (Ok u) talk device master fit honest = done-directly said e (Ok u) talk device master fit
        honest
    ends-directly said e (Err turn_fault.NoMemory) talk device master fit honest = tt
    ends-directly said e (Err (turn_fault.Port f)) talk device master fit honest = by f.port f.fault talk
      where
        by : (p : ℕ) (x : EndFault PacketFault)
            → ByTalk k (machine_start Cause m (length xs) plan) (length xs) said e (Err (turn_fault.Port (record {
              port = p;
              fault = x;
            })))
            → EndsDirectly k d plan m xs e (Err (turn_fault.Port (record { port = p; fault = x })))
        by p (fault.Link n) talk = tt
        by p (fault.Ended n) talk = done-directly said e _ talk device master fit honest
        by p (fault.Truncated a b) talk = done-directly said e _ talk device master fit honest
        by p (fault.Malformed f) talk = done-directly said e _ talk device master fit honest
        by p (fault.Session f) talk = done-directly said e _ talk device master fit honest
        by p (fault.LateWant at got) talk = done-directly said e _ talk device master fit honest
        by p (fault.TooMuch n) talk = done-directly said e _ talk device master fit honest
        by p (fault.Astray n) talk = done-directly said e _ talk device master fit honest
        by p fault.NoMemory talk = done-directly said e _ talk device master fit honest

-- What drive promises of lists of links.

module _ {M X : Type 0} (k : MasterModel M) (plan : Plan) (m : M) (told : X → Option Wire) (law : (l : X)
    → IfSome (told l) IsWire)
    (ls ns : List X) (size : length ns ≡ length ls) (start : MachineEnd M Cause) (ws : List Wire) (tell : AllTell
    (map told ls) ws)
    (is : start ≡ machine_start Cause m (length ls) plan) where
  count : length (map told ns) ≡ length ws
  count = length-map ns told ∙ size ∙ sym (length-map ls told) ∙ tell-size (map told ls) ws tell

  given : (p : ℕ) (w : Wire) → slice_get ws p ≡ Some w → IsWire w
  given p w here = wires-at told law ls p w (tell-some (map told ls) ws p w tell here)

  pub drives-talk : (e : MachineEnd M Cause) (r : Result Unit TurnFault) → Leaves k start (said_on ws) e r (map told ns)
      → ByTalk k start (length ws) (said_on ws) e r
  drives-talk e r left =
      let now = length-map ns told ∙ size in
      let here : start ≡ machine_start Cause m (length (map told ns)) plan = is
      ∙ ap (λ n. machine_start Cause m n plan) (sym now) in
      subst (λ s. ByTalk k s (length ws) (said_on ws) e r) (sym here)
      (subst (λ n. ByTalk k (machine_start Cause m (length (map told ns)) plan) n (said_on ws) e r) count
      (leaves-talk k plan m (said_on ws) e r (map told ns) (telling-on ws given) (λ p w here. wires-at told law ns p
      w here)
      (subst (λ s. Leaves k s (said_on ws) e r (map told ns)) here left)))

  pub drives-directly : {S : Type 0} (d : DeviceModel S) (xs : List (Side × S)) (e : MachineEnd M Cause) (r : Result
      Unit TurnFault)
      → Leaves k start (said_on ws) e r (map told ns) → length xs ≡ length ws → IsDevice d → IsMaster k
      → Fit k d plan m xs
      → IsHonest k d packet_codec plan m xs (said_on ws) → EndsDirectly k d plan m xs e r
  drives-directly d xs e r left fits device master fit honest =
      let ports : length ls ≡ length xs = sym (length-map ls told) ∙ tell-size (map told ls) ws tell ∙ sym fits in
      let here : start ≡ machine_start Cause m (length xs) plan = is ∙ ap (λ n. machine_start Cause m n plan) ports in
      ends-directly k d plan m xs (said_on ws) e r
      (subst (λ s. ByTalk k s (length xs) (said_on ws) e r) here
      (subst (λ n. ByTalk k start n (said_on ws) e r) (sym fits) (drives-talk e r left))) device master fit honest
