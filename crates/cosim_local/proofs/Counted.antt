-- The counts of a world that is over are those of the direct machine's traffic.
use Rattle.std.proofs.Common.{◌≡◌, ℕ, suc, ◌+◌, ◌<◌, List, [], ◌∷◌, ◌++◌, length, drop, Some, slice_get, refl, sym, ap, ap₂, ◌∙◌, subst, append_assoc, arith}
use Rattle.process_network.specs.Star.{link}
use Rattle.cosim_model.specs.Packets.{IsWritable, Packet}
use Rattle.cos_parts.specs.declared.any_device.AnyDevice.{AnyDevice}
use Rattle.cos_parts.specs.declared.any_master.AnyMaster.{AnyMaster}
use Rattle.cos_parts.specs.AnyDevices as devices
use Rattle.cos_parts.specs.AnyMasters as masters
use Rattle.ends_model.specs.PortTraffic.{traffic_out}
use Rattle.ends_model.specs.Traffic.{wire_out}
use Rattle.ends_model.specs.World.{Side, Fit}
use Rattle.every_schedule.specs.Counts.{packets_in}
use Rattle.every_schedule.specs.Schedules.{IsEnd}
use Rattle.every_schedule.specs.Wires.{Wire}
use Rattle.every_schedule.proofs.Bounded.{packets_written}
use Rattle.every_schedule.proofs.Headline.{IsSpelled, ran, all_spelled}
use Rattle.every_schedule.proofs.Lists.{Each, each_at, get_mapped, unmapped}
use Rattle.every_schedule.proofs.Schedules.{wire_is, run_sides}
use Rattle.every_schedule.proofs.Units.{get_below}
use Rattle.link_lines.specs.declared.lines.LinkCounts.{LinkCounts}
use Rattle.rp_packet.specs.CodecLaws.{codec-laws}
use Rattle.rp_packet.specs.Streams.{packet_codec}
use Rattle.world.specs.Stars.{Ends}
use Rattle.world.specs.Worlds.{Start}
use Rattle.cosim_local.specs.Steps.{direct_at, counts_of, counts_from}
use Rattle.cosim_local.specs.Traffic.{link_of, links_from, links_of}
use Rattle.cosim_local.proofs.Places.{drop-at}

-- One link more is counted.
pub counts-step : {X : Type 0} (w : Ends AnyMaster AnyDevice) (xs : List X) (n : ℕ) (items more all : List LinkCounts)
    → n < length xs → more ≡ items ++ counts_of (link w n) ∷ [] → items ++ counts_from w n (drop n xs) ≡ all
    → more ++ counts_from w (n + 1) (drop (n + 1) xs) ≡ all
counts-step w xs n items more all small is whole =
    let x = get_below xs n small in
    ap (λ l. l ++ counts_from w (n + 1) (drop (n + 1) xs)) is
    ∙ append_assoc items (counts_of (link w n) ∷ []) (counts_from w (n + 1) (drop (n + 1) xs))
    ∙ ap (λ l. items ++ counts_from w n l) (sym (drop-at xs n x.0 x.1)) ∙ whole

module _ (s : Start AnyMaster AnyDevice) (fit : Fit masters.any_model devices.any_model s.plan s.master s.ports) where
  abbrev wires : List (Wire AnyDevice)
  wires =
      (ran masters.any_model devices.any_model packet_codec s.plan devices.any_lawful masters.any_lawful codec-laws
      s.master s.ports fit).devices

  -- The packets to a device end can be written, and are counted right.
  out-packets : (p : ℕ) (x : Side × AnyDevice) → slice_get s.ports p ≡ Some x
      → packets_in packet_codec (traffic_out devices.any_model packet_codec (direct_at s).history p x)
      ≡ length (wire_out x.0 p (direct_at s).history)
  out-packets p x at =
      let sides =
      run_sides masters.any_model devices.any_model packet_codec s.plan devices.any_lawful masters.any_lawful codec-laws
      s.master s.ports fit in
      let w =
      unmapped (λ (w : Wire AnyDevice). w.side) wires p x.0
      (ap (λ (ss : List Side). slice_get ss p) sides ∙ get_mapped (λ (x : Side × AnyDevice). x.0) s.ports p x at) in
      let is : w.0.out ≡ wire_out x.0 p (direct_at s).history =
      wire_is masters.any_model devices.any_model packet_codec s.plan devices.any_lawful masters.any_lawful codec-laws
      s.master s.ports fit p w.0 w.1
      ∙ ap (λ (d : Side). wire_out d p (direct_at s).history) w.2 in
      let spelled =
      each_at IsSpelled wires p w.0
      (all_spelled masters.any_model devices.any_model packet_codec s.plan devices.any_lawful masters.any_lawful codec-laws
      s.master s.ports fit)
      w.1 in
      packets_written packet_codec codec-laws (wire_out x.0 p (direct_at s).history)
      (subst (λ (ps : List Packet). Each IsWritable ps) is spelled.0)

  module _ (w : Ends AnyMaster AnyDevice)
      (over : IsEnd masters.any_model devices.any_model packet_codec s.plan s.master s.ports w) where
    counted-at : (p : ℕ) (x : Side × AnyDevice) → slice_get s.ports p ≡ Some x
        → counts_of (link w p) ≡ link_of (direct_at s).history p x
    counted-at p x at =
        ap₂ {C = LinkCounts} (λ (o : List ℕ) (b : List ℕ). record {
          out_packets = packets_in packet_codec o;
          out_bytes = length o;
          back_packets = packets_in packet_codec b;
          back_bytes = length b;
        }) (over.out p x at) (over.back p x at)
        ∙ ap (λ n. record (link_of (direct_at s).history p x) { out_packets = n }) (out-packets p x at)

    counted-from : (q : ℕ) (xs : List (Side × AnyDevice))
        → ((i : ℕ) (x : Side × AnyDevice) → slice_get xs i ≡ Some x → slice_get s.ports (q + i) ≡ Some x)
        → counts_from w q xs ≡ links_from (direct_at s).history q xs
    counted-from q [] there = refl
    counted-from q (x ∷ xs) there =
        ap₂ ◌∷◌ (counted-at q x (subst (λ n. slice_get s.ports n ≡ Some x) (omega arith) (there 0 x refl)))
        (counted-from (q + 1) xs (λ i y at. subst (λ n. slice_get s.ports n ≡ Some y) (omega arith) (there (suc i) y at)))

    pub all-counted : counts_from w 0 s.ports ≡ links_of (direct_at s).history s.ports
    all-counted = counted-from 0 s.ports (λ i x at. subst (λ n. slice_get s.ports n ≡ Some x) (omega arith) at)
