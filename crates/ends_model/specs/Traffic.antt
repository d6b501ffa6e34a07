-- What crosses each port: what the machine end sends is made from the run of the direct machine, and what a device
-- end sends is its answer to that.
use Rattle.std.specs.Prelude.{ℕ, zero, suc, Bool, true, false, ◌&&◌, if◌then◌else◌, nat_eq, List, [], ◌∷◌, ◌++◌, length}
use Rattle.std.specs.Prelude.{take, Option, Some, None}
use Rattle.process_network.specs.PacketStar.{Ends, LeafEnd, leaf_turn_by, fresh_leaf}
use Rattle.process_network.specs.PacketStar.HubOutlook.{HubHalts}
use Rattle.cosim_model.specs.declared.session.Role.TheVariants.{Machine}
use Rattle.cosim_model.specs.declared.values.Call.{Call}
use Rattle.cosim_model.specs.declared.values.Call.TheVariants as call
use Rattle.cosim_model.specs.declared.values.Reply.{Reply}
use Rattle.cosim_model.specs.declared.values.Want.{Want}
use Rattle.cosim_model.specs.Values.{all_caps, no_caps}
use Rattle.cosim_model.specs.Parts.{DeviceModel}
use Rattle.cosim_model.specs.Packets.{Body, Packet, Decoded, Codec, spell}
use Rattle.cosim_model.specs.Packets.Body.{Read, Write, Sync}
use Rattle.cosim_model.specs.Sessions.{fresh_session, next_number, hello_of, request_flags, answer_of, ticket_of}
use Rattle.ends_model.specs.DeviceTurn.{DeviceEnd, answer_fields, want_body, is_answered, device_outlook, device_hears}
use Rattle.ends_model.specs.MachineTurn.{access_body}
use Rattle.cosim_model.specs.Direct.{Moment}
use Rattle.cosim_model.specs.Direct.Moment.{Called, Boundary}
use Rattle.ends_model.specs.World.{Side}

-- What the machine end has sent on a port. `next` is the number of its next request there, and `asks` that of the
-- device's next request, posted ones counted.
pub record Sent : Type 0 where
  pub next : ℕ
  pub asks : ℕ
  pub out : List Packet

abbrev pub numbered : ℕ → Bool → Body → Packet
numbered id posted b = record { id = id; flags = request_flags posted; dev = 0; body = b }

-- The answer to a want's request says the reply.

abbrev pub reply_body : Reply → Body → Body
reply_body r (Read f) = Read (answer_fields f r.code f.len (take f.len r.bytes))
reply_body r (Write f) = Write (answer_fields f r.code f.len [])
reply_body r b = b

abbrev pub reply_packet : Packet → Reply → Packet
reply_packet m r = answer_of (ticket_of m) (reply_body r m.body)

-- The Boolean says that the want is answered.
abbrev pub replies : Side → ℕ → ℕ → Want → Reply → Bool → List Packet
replies side id due w r true = reply_packet (numbered id false (want_body side.offer due w)) r ∷ []
replies side id due w r false = []

abbrev pub with_request : Sent → Bool → Body → Sent
with_request s posted b = record {
  next = next_number s.next;
  asks = s.asks;
  out = s.out ++ numbered s.next posted b ∷ [];
}

abbrev pub with_reply : Side → Sent → ℕ → Want → Reply → Sent
with_reply side s due w r = record {
  next = s.next;
  asks = next_number s.asks;
  out = s.out ++ replies side s.asks due w r (is_answered (side.offer.posted && side.answered_lines) w);
}

-- In the order of the run: a request for each access of the port; at each boundary a sync at its tick; an answer for
-- each answered want of the port that was served. A machine end offers all capabilities, so what the device end
-- offers is common.

abbrev pub after_call : Side → ℕ → Sent → Call → Sent
after_call side p s (call.Access t q a x) =
    if nat_eq q p then with_request s a.posted (access_body side.offer t a) else s
after_call side p s (call.Served t q due w r) = if nat_eq q p then with_reply side s due w r else s

abbrev pub after_moment : Side → ℕ → Sent → Moment → Sent
after_moment side p s (Called c) = after_call side p s c
after_moment side p s (Boundary t) = with_request s false (Sync t)

abbrev pub after_history : Side → ℕ → Sent → List Moment → Sent
after_history side p s [] = s
after_history side p s (e ∷ es) = after_history side p (after_moment side p s e) es

abbrev pub after_hello : Sent
after_hello = record { next = 1; asks = 1; out = hello_of (fresh_session Machine all_caps no_caps) ∷ [] }

-- The packets that the machine end sends on port p.
abbrev pub wire_out : Side → ℕ → List Moment → List Packet
wire_out side p history = (after_history side p after_hello history).out

-- What a device end sends when it takes every turn that it can over received bytes. The first turn sends the hello,
-- and every later one takes a packet, so there is at most one more than there are bytes.

abbrev pub leaf_after : {L : Type 0} → L → Option (L × List ℕ) → L
leaf_after l None = l
leaf_after l (Some r) = r.0

abbrev pub leaf_sends : {L : Type 0} → Option (L × List ℕ) → List ℕ
leaf_sends None = []
leaf_sends (Some r) = r.1

module _ {S F : Type 0} (d : DeviceModel S) (codec : Codec F) where
  -- a device end with no machine end
  abbrev pub device_alone : Ends (Unit {0}) (DeviceEnd S F) (Decoded F)
  device_alone = record {
    hub_outlook = λ h. HubHalts;
    hub_take = λ h p m. h;
    leaf_outlook = device_outlook;
    leaf_take = device_hears d;
    first = codec.first;
    write = spell codec;
  }

  abbrev pub device_turn : LeafEnd (DeviceEnd S F) → List ℕ → Option (LeafEnd (DeviceEnd S F) × List ℕ)
  device_turn l x = leaf_turn_by device_alone l x (device_outlook l.core)

  -- at most so many turns
  abbrev pub sent_in : ℕ → LeafEnd (DeviceEnd S F) → List ℕ → List ℕ
  sent_in zero l x = []
  sent_in (suc n) l x = leaf_sends (device_turn l x) ++ sent_in n (leaf_after l (device_turn l x)) x

  abbrev pub out_device : DeviceEnd S F → List ℕ → List ℕ
  out_device e x = sent_in (suc (length x)) (fresh_leaf e) x
