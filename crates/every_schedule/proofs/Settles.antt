-- What a device end does at a port, by what its device wants.
use Rattle.std.proofs.Common.{◌≡◌, ℕ, zero, suc, ◌<◌, Bool, true, false, ◌&&◌, List, [], ◌∷◌, Option, Some, None, refl, ap, ◌∙◌, arith}
use Rattle.cosim_model.specs.declared.values.Want.{Want}
use Rattle.cosim_model.specs.Parts.{DeviceModel, IsDevice}
use Rattle.cosim_model.specs.Packets.{Packet}
use Rattle.ends_model.specs.declared.ends.OpenSync.{OpenSync}
use Rattle.ends_model.specs.DeviceTurn.{DeviceEnd, is_answered, settled, settle, next_of, joined, asked, told, closed, sync_answer, own_request, bare_reply}
use Rattle.every_schedule.specs.Wires.{Wire, unsettled, open_if, sync_ticket}
use Rattle.every_schedule.proofs.Outlooks.{settle_by, settle_want}

module _ {S : Type 0} (F : Type 0) (d : DeviceModel S) where
  abbrev E : Type 0
  E = DeviceEnd S F

  abbrev at : Wire S → E
  at w = unsettled w

  -- settling by what is wanted and open
  abbrev by : Wire S → ℕ → Option Want → Option OpenSync → E × List Packet
  by w n o s = joined (settle_by d (at w) true None o s) (settle d n (next_of (settle_by d (at w) true None o s)))

  pub settles : (w : Wire S) (o : Option Want) → d.want w.device ≡ o → settled d (at w) ≡ by w (d.left w.device) o (open_if w.synced w.sync_id w.last)
  settles w o e = ap (λ o. by w (d.left w.device) o (open_if w.synced w.sync_id w.last)) e

  -- No sync is open and nothing is wanted.
  pub settles_idle : (w : Wire S) → w.synced ≡ false → d.want w.device ≡ None → settled d (at w) ≡ (at w, [])
  settles_idle w s e = settles w None e ∙ ap (λ b. by w (d.left w.device) None (open_if b w.sync_id w.last)) s

  -- A posted want waits for a sync.
  pub settles_waiting : (w : Wire S) (v : Want) → w.synced ≡ false → d.want w.device ≡ Some v → is_answered (w.side.offer.posted && w.side.answered_lines) v ≡ false → settled d (at w) ≡ (at w, [])
  settles_waiting w v s e a = settles w (Some v) e ∙ ap (λ b. by w (d.left w.device) (Some v) (open_if b w.sync_id w.last)) s
      ∙ ap (λ b. joined (settle_want d (at w) v None b) (settle d (d.left w.device) (next_of (settle_want d (at w) v None b)))) a

  -- An answered want is sent.
  pub settles_asking : (w : Wire S) (v : Want) → d.want w.device ≡ Some v → is_answered (w.side.offer.posted && w.side.answered_lines) v ≡ true → settled d (at w) ≡ (asked d (at w) v, own_request d (at w) false v ∷ [])
  settles_asking w v e a = settles w (Some v) e
      ∙ ap (λ b. joined (settle_want d (at w) v (open_if w.synced w.sync_id w.last) b) (settle d (d.left w.device) (next_of (settle_want d (at w) v (open_if w.synced w.sync_id w.last) b)))) a

  -- A sync is answered.
  pub settles_synced : (w : Wire S) → w.synced ≡ true → d.want w.device ≡ None → settled d (at w) ≡ (closed (at w), sync_answer (record { ticket = sync_ticket w.sync_id; time = w.last }) ∷ [])
  settles_synced w s e = settles w None e ∙ ap (λ b. by w (d.left w.device) None (open_if b w.sync_id w.last)) s

  -- More steps than wants change nothing.
  settle_more : IsDevice d → (n k : ℕ) (e : E) → d.left e.device < n → d.left e.device < k → settle d n e ≡ settle d k e
  settle_more laws zero k e l l' = absurd (omega arith)
  settle_more laws (suc n) zero e l l' = absurd (omega arith)
  settle_more laws (suc n) (suc k) e l l' = go e.session.hello_came e.own (d.want e.device) e.open_sync refl (λ v f. let less = laws.feed_left e.device (bare_reply 0) v f in settle_more laws n k (told d e v) (omega arith) (omega arith))
    where
      wanted : (v : Want) (s : Option OpenSync) (b : Bool) → settle d n (told d e v) ≡ settle d k (told d e v) → joined (settle_want d e v s b) (settle d n (next_of (settle_want d e v s b))) ≡ joined (settle_want d e v s b) (settle d k (next_of (settle_want d e v s b)))
      wanted v s true ih = refl
      wanted v None false ih = refl
      wanted v (Some o) false ih = ap (λ (r : E × List Packet). (r.0, own_request d e true v ∷ r.1)) ih

      go : (b : Bool) (own o : Option Want) (s : Option OpenSync) → d.want e.device ≡ o → ((v : Want) → d.want e.device ≡ Some v → settle d n (told d e v) ≡ settle d k (told d e v)) → joined (settle_by d e b own o s) (settle d n (next_of (settle_by d e b own o s))) ≡ joined (settle_by d e b own o s) (settle d k (next_of (settle_by d e b own o s)))
      go false own o s f ih = refl
      go true (Some w) o s f ih = refl
      go true None None None f ih = refl
      go true None None (Some q) f ih = refl
      go true None (Some v) s f ih = wanted v s (is_answered (e.session.common.posted && e.answered_lines) v) (ih v f)

  -- A posted want is sent and fed while a sync is open.
  pub settles_posting : IsDevice d → (w : Wire S) (v : Want) → w.synced ≡ true → d.want w.device ≡ Some v → is_answered (w.side.offer.posted && w.side.answered_lines) v ≡ false → settled d (at w) ≡ ((settled d (told d (at w) v)).0, own_request d (at w) true v ∷ (settled d (told d (at w) v)).1)
  settles_posting laws w v s e a = settles w (Some v) e ∙ ap (λ b. by w (d.left w.device) (Some v) (open_if b w.sync_id w.last)) s
      ∙ ap (λ b. joined (settle_want d (at w) v (Some (record { ticket = sync_ticket w.sync_id; time = w.last })) b) (settle d (d.left w.device) (next_of (settle_want d (at w) v (Some (record { ticket = sync_ticket w.sync_id; time = w.last })) b)))) a
      ∙ ap (λ (r : E × List Packet). (r.0, own_request d (at w) true v ∷ r.1))
      (settle_more laws (d.left w.device) (suc (d.left (d.feed w.device (bare_reply 0)))) (told d (at w) v) (laws.feed_left w.device (bare_reply 0) v e) (omega arith))
