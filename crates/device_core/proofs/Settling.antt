-- Settling, one step after the other.
use Rattle.std.proofs.Common.{◌≡◌, ℕ, zero, suc, ◌+◌, ◌*◌, ◌<◌, ◌≤◌, true, false, List, [], ◌∷◌, ◌++◌, refl, sym, ap, ◌∙◌, subst, arith, Result, Ok}
use Rattle.std.proofs.lemmas.List.{append-nil, append_assoc}
use Rattle.cosim_model.specs.declared.session.Event.{Event}
use Rattle.cosim_model.specs.declared.session.SessionFault.{SessionFault}
use Rattle.cosim_model.specs.Parts.{DeviceModel, IsDevice}
use Rattle.cosim_model.specs.Packets.{Packet}
use Rattle.cosim_model.specs.Sessions.{take_packet}
use Rattle.ends_model.specs.DeviceTurn.{DeviceEnd, Settling, Ends, Goes_on, joined, next_of, settle, settle_one, settled, then_settled, acts, device_judges, device_took}
use Rattle.rp_packet.specs.declared.fault.Cause.{Cause}
use Rattle.rp_packet.specs.Spelling.{packet_bytes}
use Rattle.device_core.specs.Cores.{Core, Does, Settled, spelled}

pub spelled-both : (xs ys : List Packet) → spelled (xs ++ ys) ≡ spelled xs ++ spelled ys
spelled-both [] ys = refl
spelled-both (x ∷ xs) ys = ap (λ rest. packet_bytes x ++ rest) (spelled-both xs ys)
    ∙ sym (append_assoc (packet_bytes x) (spelled xs) (spelled ys))

-- sent one after the other
pub sent-both : (before middle after : List ℕ) (xs ys : List Packet) → middle ≡ before ++ spelled xs
    → after ≡ middle ++ spelled ys → after ≡ before ++ spelled (xs ++ ys)
sent-both before middle after xs ys first then_ =
    then_ ∙ ap (λ b. b ++ spelled ys) first ∙ append_assoc before (spelled xs) (spelled ys)
    ∙ ap (λ b. before ++ b) (sym (spelled-both xs ys))

spelled-one : (x : Packet) → packet_bytes x ≡ spelled (x ∷ [])
spelled-one x = sym (append-nil (packet_bytes x))

-- From an end, with room for this much: it has come to another, and has sent these packets behind what was there.
pub record Settles {S : Type 0} (d : DeviceModel S) (start : DeviceEnd S Cause) (before : List ℕ) (now : Core S)
    (after : List ℕ) (spare : ℕ) : Type 0 where
  pub n : ℕ
  pub few : d.left now.end.device ≤ n
  pub calls : n ≤ now.room
  pub room : 41 * n + 208 ≤ spare
  pub greeted : now.end.session.hello_went ≡ true
  pub sent : List Packet
  pub end : (settled d start).0 ≡ (settle d (suc n) now.end).0
  pub packets : (settled d start).1 ≡ sent ++ (settle d (suc n) now.end).1
  pub bytes : after ≡ before ++ spelled sent

module _ {S : Type 0} (d : DeviceModel S) where
  pub settles-first : IsDevice d → (now : Core S) (before : List ℕ) (spare : ℕ) → now.end.session.hello_went ≡ true
      → 4096 ≤ now.room → 168172 ≤ spare → Settles d now.end before now before spare
  settles-first lawful now before spare greeted calls room =
      let most = lawful.left_most now.end.device in
      record {
        n = d.left now.end.device;
        few = omega arith;
        calls = omega (arith, most, calls);
        room = omega (arith, most, room);
        greeted = greeted;
        sent = [];
        end = refl;
        packets = refl;
        bytes = sym (append-nil before);
      }

  went-on : (k : ℕ) (e next : DeviceEnd S Cause) (s : Packet) → settle_one d e ≡ Goes_on next s
      → settle d (suc k) e ≡ ((settle d k next).0, s ∷ (settle d k next).1)
  went-on k e next s is = ap (λ r. joined r (settle d k (next_of r))) is

  ended : (k : ℕ) (e next : DeviceEnd S Cause) (ss : List Packet) → settle_one d e ≡ Ends next ss
      → settle d (suc k) e ≡ (next, ss)
  ended k e next ss is = ap (λ r. joined r (settle d k (next_of r))) is

  -- how far it has come, less the bounds
  record Comes (start : DeviceEnd S Cause) (n : ℕ) (sent : List Packet) (now : DeviceEnd S Cause) : Type 0 where
    end : (settled d start).0 ≡ (settle d (suc n) now).0
    packets : (settled d start).1 ≡ sent ++ (settle d (suc n) now).1

  comes-on : (start : DeviceEnd S Cause) (m : ℕ) (sent : List Packet) (now next new : DeviceEnd S Cause) (s : Packet)
      → settle_one d now ≡ Goes_on next s → new ≡ next → Comes start (suc m) sent now → Comes start m (sent ++ s ∷ []) new
  comes-on start m sent now next new s is new_is comes =
      let one = went-on (suc m) now next s is in
      let same : settle d (suc m) next ≡ settle d (suc m) new = ap (settle d (suc m)) (sym new_is) in
      record {
        end = comes.end ∙ ap (λ r. r.0) one ∙ ap (λ r. r.0) same;
        packets = comes.packets ∙ ap (λ r. sent ++ r.1) one ∙ ap (λ r. sent ++ s ∷ r.1) same
            ∙ sym (append_assoc sent (s ∷ []) (settle d (suc m) new).1);
      }

  on-by : (start : DeviceEnd S Cause) (before : List ℕ) (now new : Core S) (after later : List ℕ) (spare more n : ℕ)
      (r : Settling S Cause) → settle_one d now.end ≡ r → Settled r new after later true → (inv : Settles d start before now after spare)
      → inv.n ≡ n → d.left new.end.device < d.left now.end.device → now.room ≤ new.room + 1 → spare ≤ more + 41
      → new.end.session.hello_went ≡ true → Settles d start before new later more
  on-by start before now new after later spare more n (Ends e ss) is settled inv n_is less calls room greeted = absurd (cc (settled.0))
  on-by start before now new after later spare more zero (Goes_on e s) is settled inv n_is less calls room greeted =
      let few = inv.few in absurd (omega (arith, few, n_is, less))
  on-by start before now new after later spare more (suc m) (Goes_on e s) is settled inv n_is less calls room greeted =
      let few = inv.few in
      let had = inv.calls in
      let space = inv.room in
      let comes : Comes start (suc m) inv.sent now.end = record {
        end = inv.end ∙ ap (λ k. (settle d (suc k) now.end).0) n_is;
        packets = inv.packets ∙ ap (λ k. inv.sent ++ (settle d (suc k) now.end).1) n_is;
      } in
      let went = comes-on start m inv.sent now.end e new.end s is settled.1 comes in
      record {
        n = m;
        few = omega (arith, few, n_is, less);
        calls = omega (arith, had, n_is, calls);
        room = omega (arith, space, n_is, room);
        greeted = greeted;
        sent = inv.sent ++ s ∷ [];
        end = went.end;
        packets = went.packets;
        bytes = sent-both before after later inv.sent (s ∷ []) inv.bytes (settled.2 ∙ ap (λ b. after ++ b) (spelled-one s));
      }

  pub settles-on : (start : DeviceEnd S Cause) (before : List ℕ) (now new : Core S) (after later : List ℕ) (spare more : ℕ)
      → Settled (settle_one d now.end) new after later true → Settles d start before now after spare
      → d.left new.end.device < d.left now.end.device → now.room ≤ new.room + 1 → spare ≤ more + 41
      → new.end.session.hello_went ≡ true → Settles d start before new later more
  settles-on start before now new after later spare more one inv less calls room greeted =
      on-by start before now new after later spare more inv.n (settle_one d now.end) refl one inv refl less calls room greeted

  ends-by : (start : DeviceEnd S Cause) (before : List ℕ) (now new : Core S) (after later : List ℕ) (spare : ℕ)
      (r : Settling S Cause) → settle_one d now.end ≡ r → Settled r new after later false
      → Settles d start before now after spare → Does (settled d start) new before later
  ends-by start before now new after later spare (Goes_on e s) is one inv = absurd (cc (one.0))
  ends-by start before now new after later spare (Ends e ss) is one inv =
      let last = ended inv.n now.end e ss is in (
        one.1 ∙ sym (inv.end ∙ ap (λ r. r.0) last),
        sent-both before after later inv.sent ss inv.bytes one.2
            ∙ ap (λ ps. before ++ spelled ps) (sym (inv.packets ∙ ap (λ r. inv.sent ++ r.1) last)),
      )

  pub settles-last : (start : DeviceEnd S Cause) (before : List ℕ) (now new : Core S) (after later : List ℕ) (spare : ℕ)
      → Settled (settle_one d now.end) new after later false → Settles d start before now after spare
      → Does (settled d start) new before later
  settles-last start before now new after later spare one inv =
      ends-by start before now new after later spare (settle_one d now.end) refl one inv

  -- A packet is taken, acted on, and then the end settles.

  acts-settled : (r : DeviceEnd S Cause × List Packet) (acted new : Core S) (before middle after : List ℕ)
      → Does r acted before middle → Does (settled d acted.end) new middle after → Does (then_settled d r) new before after
  acts-settled r acted new before middle after does rest =
      let same : settled d acted.end ≡ settled d r.0 = ap (settled d) does.0 in (
        rest.0 ∙ ap (λ x. x.0) same,
        sent-both before middle after r.1 (settled d r.0).1 does.1 (rest.1 ∙ ap (λ x. middle ++ spelled x.1) same),
      )

  pub hears-by : (old : DeviceEnd S Cause) (p : Packet) (v : Event) (taken acted new : Core S) (before middle after : List ℕ)
      → taken.end ≡ record old { session = (take_packet old.session p).0 } → Ok v ≡ (take_packet old.session p).1
      → Does (acts d taken.end p.body v) acted before middle → Does (settled d acted.end) new middle after
      → Does (device_took d old p (take_packet old.session p)) new before after
  hears-by old p v taken acted new before middle after taken_is event does rest =
      let s = (take_packet old.session p).0 in
      subst (λ (x : Result Event SessionFault). Does (device_judges d old p s x) new before after) event
      (acts-settled (acts d (record old { session = s }) p.body v) acted new before middle after
      (subst (λ e. Does (acts d e p.body v) acted before middle) taken_is does) rest)
