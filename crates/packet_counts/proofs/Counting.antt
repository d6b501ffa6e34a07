-- How far the count of packets has come: those behind are counted with enough fuel.
use Rattle.std.proofs.Common.{◌≡◌, ℕ, zero, suc, ◌+◌, ◌<◌, ◌≤◌, List, [], length, drop, Option, Some, None, refl, sym, ap, ◌∙◌, arith}
use Rattle.std.proofs.lemmas.List.{length-drop}
use Rattle.cosim_model.specs.Packets.{Decoded}
use Rattle.rp_packet.specs.declared.fault.Cause.{Cause}
use Rattle.rp_packet.specs.CodecLaws.{codec-laws}
use Rattle.rp_packet.specs.Refusals.{first}
use Rattle.rp_packet.specs.Streams.{packet_codec}
use Rattle.every_schedule.specs.Counts.{one_if_whole, rest_after, whole_packets, packets_in}
use Rattle.every_schedule.proofs.Bounded.{nothing_first}
use Rattle.packet_counts.specs.Sizes.{size_in}

pub record Counting (all rest : List ℕ) (count : ℕ) : Type 0 where
  pub fuel : ℕ
  pub enough : length rest ≤ fuel
  pub few : count + length rest ≤ length all
  pub same : count + whole_packets packet_codec fuel rest ≡ packets_in packet_codec all

pub counting-begins : (all : List ℕ) → Counting all all 0
counting-begins all = record { fuel = length all; enough = omega arith; few = omega arith; same = omega arith }

-- the packet of a size that was found has bytes, and stands within
pub record Found (rest : List ℕ) (size : ℕ) : Type 0 where
  pub packet : Decoded Cause × ℕ
  pub is : first rest ≡ Some packet
  pub size_is : packet.1 ≡ size
  pub some : 0 < size
  pub within : size ≤ length rest

pub found : (rest : List ℕ) (size : ℕ) → size_in (first rest) ≡ Some size → Found rest size
found rest size e = by (first rest) refl e
  where
    by : (o : Option (Decoded Cause × ℕ)) → first rest ≡ o → size_in o ≡ Some size → Found rest size
    by None f e = absurd (cc e)
    by (Some p) f e =
        let size_is : p.1 ≡ size = cc e in
        let d = codec-laws.decided rest [] p f in
        record {
          packet = p;
          is = f;
          size_is = size_is;
          some = (let a = d.0 in omega arith);
          within = (let b = d.1 in omega arith);
        }

pub counting-goes : (all rest : List ℕ) (count size : ℕ) → size_in (first rest) ≡ Some size → Counting all rest count
    → Counting all (drop size rest) (count + 1)
counting-goes all rest count size e is = by is.fuel is.enough is.same
  where
    f : Found rest size
    f = found rest size e

    by : (fuel : ℕ) → length rest ≤ fuel → count + whole_packets packet_codec fuel rest ≡ packets_in packet_codec all
        → Counting all (drop size rest) (count + 1)
    by zero enough same = absurd (let a = f.some in let b = f.within in omega arith)
    by (suc n) enough same =
        let less = length-drop size rest in
        let a = f.some in
        let b = f.within in
        let c = is.few in
        let one : whole_packets packet_codec (suc n) rest ≡ 1 + whole_packets packet_codec n (drop size rest) =
        ap (λ o. one_if_whole o + whole_packets packet_codec n (rest_after rest o)) f.is
        ∙ ap (λ m. 1 + whole_packets packet_codec n (drop m rest)) f.size_is in
        record { fuel = n; enough = omega arith; few = omega arith; same = omega arith }

pub none-found : (rest : List ℕ) (o : Option ℕ) → o ≡ size_in (first rest) → ((n : ℕ) → o ≡ Some n → ⊥)
    → size_in (first rest) ≡ None
none-found rest None e never = sym e
none-found rest (Some n) e never = absurd (never n refl)

none-whole : (n : ℕ) → whole_packets packet_codec n [] ≡ 0
none-whole zero = refl
none-whole (suc n) =
    ap (λ o. one_if_whole o + whole_packets packet_codec n (rest_after [] o)) (nothing_first packet_codec codec-laws)
    ∙ (let e = none-whole n in omega arith)

pub counting-ends : (all rest : List ℕ) (count : ℕ) → size_in (first rest) ≡ None → Counting all rest count
    → count ≡ packets_in packet_codec all
counting-ends all rest count e is = by is.fuel is.same
  where
    nothing : (o : Option (Decoded Cause × ℕ)) → size_in o ≡ None → o ≡ None
    nothing None e = refl
    nothing (Some p) e = absurd (cc e)

    by : (fuel : ℕ) → count + whole_packets packet_codec fuel rest ≡ packets_in packet_codec all
        → count ≡ packets_in packet_codec all
    by zero same = omega arith
    by (suc n) same =
        let none : whole_packets packet_codec (suc n) rest ≡ whole_packets packet_codec n [] =
        ap (λ o. one_if_whole o + whole_packets packet_codec n (rest_after rest o)) (nothing (first rest) e)
        ∙ (omega arith) in
        let zero_more = none-whole n in
        omega arith
