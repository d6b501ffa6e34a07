-- What a device end sends over received bytes is what it sends in any run of its turns that can't go on.
use Rattle.std.proofs.Common.{◌≡◌, ℕ, zero, suc, ◌+◌, ◌-◌, ◌≤◌, Bool, true, false, ◌&&◌, List, [], ◌++◌, length, drop, Option, Some, None, Result, Ok, Err, refl, sym, ap, ap₂, ◌∙◌, subst, arith, append_assoc, append-nil}
use Rattle.std.proofs.lemmas.Option.{none-some, same_Some}
use Rattle.process_network.specs.PacketProcesses.{IsDecided}
use Rattle.process_network.specs.PacketStar.{Ends, LeafEnd, star_of, fresh_leaf, leaf_after_take, leaf_turn_by}
use Rattle.process_network.specs.StarTalk.{IsLeafRun}
use Rattle.process_network.proofs.PacketCursors.{leaf_stays}
use Rattle.cosim_model.specs.declared.session.EndFault.{EndFault}
use Rattle.cosim_model.specs.declared.session.Event.{Event}
use Rattle.cosim_model.specs.declared.session.Event.TheVariants.{Asked, Told, Answered}
use Rattle.ends_model.specs.declared.ends.OpenSync.{OpenSync}
use Rattle.cosim_model.specs.declared.session.SessionFault.{SessionFault}
use Rattle.cosim_model.specs.declared.values.Want.{Want}
use Rattle.cosim_model.specs.Parts.{DeviceModel, MasterModel}
use Rattle.cosim_model.specs.Packets.{Body, Packet, Decoded, Codec, is_response}
use Rattle.cosim_model.specs.Packets.Body.{Nop, Hello, Cfg, Read, Write, Interrupt, Sync}
use Rattle.cosim_model.specs.Packets.Decoded.{Valid, Malformed}
use Rattle.cosim_model.specs.Sessions.{Session, is_posted, fault_of, counted, asked_at, event_of, judged, take_kept, take_packet, is_posted_body, unless_posted, request_sent}
use Rattle.ends_model.specs.DeviceTurn.{DeviceEnd, body_len, is_answered, is_device_size, want_body, answer_read, answer_write, do_posted, answered_own, acts, own_sent, told, settle, joined, next_of, device_judges, device_takes, device_looks}
use Rattle.ends_model.specs.MachineTurn.{MachineEnd}
use Rattle.ends_model.specs.Traffic.{leaf_after, leaf_sends, sent_in, out_device}
use Rattle.ends_model.specs.World.{ends}
use Rattle.every_schedule.proofs.Outlooks.{settle_want, settle_by}

-- No packet changes whether the hello went.

asked_went : (s : Session) (p : Packet) (b : Bool) (t : ℕ) → (asked_at s p b t).0.hello_went ≡ s.hello_went
asked_went s p true t = refl
asked_went s p false t = refl

event_went : (s : Session) (p : Packet) (r : Bool) (b : Body) → (event_of s p r b).0.hello_went ≡ s.hello_went
event_went s p r Nop = refl
event_went s p r (Cfg opt set) = refl
event_went s p r (Hello major minor caps) = refl
event_went s p true (Sync t) = refl
event_went s p true (Read f) = refl
event_went s p true (Write f) = refl
event_went s p true (Interrupt t v l x) = refl
event_went s p false (Sync t) = refl
event_went s p false (Read f) = asked_went s p (is_posted s.common p) f.time
event_went s p false (Write f) = asked_went s p (is_posted s.common p) f.time
event_went s p false (Interrupt t v l x) = asked_went s p (is_posted s.common p) t

take_went : (s : Session) (p : Packet) → (take_packet s p).0.hello_went ≡ s.hello_went
take_went s p = kept s.fault
  where
    judges : (o : Option SessionFault) → (judged s p o).0.hello_went ≡ s.hello_went
    judges (Some f) = refl
    judges None = event_went (record s { count = counted s.role s.count }) p (is_response p) p.body

    kept : (o : Option SessionFault) → (take_kept s p o).0.hello_went ≡ s.hello_went
    kept (Some f) = refl
    kept None = judges (fault_of s p)

unless_went : (posted : Bool) (s : Session) (x : Body) (n : ℕ) → (unless_posted posted s x n).hello_went ≡ s.hello_went
unless_went true s x n = refl
unless_went false s (Sync t) n = refl
unless_went false s Nop n = refl
unless_went false s (Hello a b c) n = refl
unless_went false s (Cfg a b) n = refl
unless_went false s (Read f) n = refl
unless_went false s (Write f) n = refl
unless_went false s (Interrupt a b c x) n = refl

request_went : (s : Session) (flag : Bool) (x : Body) (n : ℕ) → (request_sent s flag x n).hello_went ≡ s.hello_went
request_went s flag x n = unless_went (is_posted_body s.common flag x) s x n

module _ {S F : Type 0} (d : DeviceModel S) where
  abbrev went : DeviceEnd S F → Bool
  went e = e.session.hello_went

  sent_went : (e : DeviceEnd S F) (b : Bool) (v : Want) → (own_sent d e b v).hello_went ≡ went e
  sent_went e b v = request_went e.session b (want_body e.session.common (d.due e.device) v) (body_len (want_body e.session.common (d.due e.device) v))

  settle_went : (n : ℕ) (e : DeviceEnd S F) → went (settle d n e).0 ≡ went e
  settle_went zero e = refl
  settle_went (suc n) e = go e.session.hello_came e.own (d.want e.device) e.open_sync (λ e'. settle_went n e')
    where
      wanted : (v : Want) (s : Option OpenSync) (b : Bool) → ((e' : DeviceEnd S F) → went (settle d n e').0 ≡ went e') → went (joined (settle_want d e v s b) (settle d n (next_of (settle_want d e v s b)))).0 ≡ went e
      wanted v s true ih = sent_went e false v
      wanted v None false ih = refl
      wanted v (Some o) false ih = ih (told d e v) ∙ sent_went e true v

      go : (b : Bool) (own o : Option Want) (s : Option OpenSync) → ((e' : DeviceEnd S F) → went (settle d n e').0 ≡ went e') → went (joined (settle_by d e b own o s) (settle d n (next_of (settle_by d e b own o s)))).0 ≡ went e
      go false own o s ih = refl
      go true (Some w) o s ih = refl
      go true None None None ih = refl
      go true None None (Some q) ih = refl
      go true None (Some v) s ih = wanted v s (is_answered (e.session.common.posted && e.answered_lines) v) ih

  acts_went : (e : DeviceEnd S F) (b : Body) (v : Event) → went (acts d e b v).0 ≡ went e
  acts_went e (Read f) (Asked t) = reads (is_device_size f)
    where
      reads : (c : Bool) → went (answer_read d e t f c).0 ≡ went e
      reads true = refl
      reads false = refl
  acts_went e (Write f) (Asked t) = writes (is_device_size f)
    where
      writes : (c : Bool) → went (answer_write d e t f c).0 ≡ went e
      writes true = refl
      writes false = refl
  acts_went e (Write f) Told = does (is_device_size f)
    where
      does : (c : Bool) → went (do_posted d e f c).0 ≡ went e
      does true = refl
      does false = refl
  acts_went e (Sync time) (Asked t) = refl
  acts_went e b Answered = feeds e.own
    where
      feeds : (o : Option Want) → went (answered_own d e b o).0 ≡ went e
      feeds None = refl
      feeds (Some v) = refl
  acts_went e b _ = refl

  pub takes_went : (e : DeviceEnd S F) (m : Decoded F) → (device_takes d e m).0.session.hello_went ≡ e.session.hello_went
  takes_went e (Malformed c) = refl
  takes_went e (Valid p) = by (take_packet e.session p).1 ∙ take_went e.session p
    where
      by : (r : Result Event SessionFault) → went (device_judges d e p (take_packet e.session p).0 r).0 ≡ (take_packet e.session p).0.hello_went
      by (Err f) = refl
      by (Ok v) =
          let e' : DeviceEnd S F = record e { session = (take_packet e.session p).0 } in
          settle_went (suc (d.left (acts d e' p.body v).0.device)) (acts d e' p.body v).0 ∙ acts_went e' p.body v

-- Each turn but the first one takes bytes.

abbrev pub one_if : Bool → ℕ
one_if true = 1
one_if false = 0

module _ {M S F : Type 0} (k : MasterModel M) (d : DeviceModel S) (codec : Codec F) (decided : IsDecided codec.first) where
  abbrev e : Ends (MachineEnd M F) (DeviceEnd S F) (Decoded F)
  e = ends k d codec

  turns_taken : (l l' : LeafEnd (DeviceEnd S F)) (more y : List ℕ) (n : ℕ) → n ≤ one_if l.core.session.hello_went + l.taken → (star_of e).leaf_turn l y ≡ Some (l', more) → suc n ≤ one_if l'.core.session.hello_went + l'.taken
  turns_taken l l' more y n le t = by l.core.fault l.core.session.hello_went refl t (λ b f. subst (λ b. n ≤ one_if b + l.taken) f le)
    where
      took : (o : Option (Decoded F × ℕ)) → codec.first (drop l.taken y) ≡ o → n ≤ 1 + l.taken → l.core.session.hello_went ≡ true → leaf_after_take e l o ≡ Some (l', more) → suc n ≤ one_if l'.core.session.hello_went + l'.taken
      took None f le went t = absurd (none-some (l', more) t)
      took (Some r) f le went t =
          let more_bytes = (decided (drop l.taken y) [] r f).0 in
          let was : l'.core.session.hello_went ≡ true = ap (λ (x : LeafEnd (DeviceEnd S F) × List ℕ). x.0.core.session.hello_went) (sym (same_Some _ (l', more) t)) ∙ takes_went d l.core r.0 ∙ went in
          let taken : l'.taken ≡ l.taken + r.1 = ap (λ (x : LeafEnd (DeviceEnd S F) × List ℕ). x.0.taken) (sym (same_Some _ (l', more) t)) in
          subst (λ b. suc n ≤ one_if b + l'.taken) (sym was) (omega arith)

      by : (o : Option (EndFault F)) (b : Bool) → l.core.session.hello_went ≡ b → leaf_turn_by e l y (device_looks l.core o b) ≡ Some (l', more) → ((b : Bool) → l.core.session.hello_went ≡ b → n ≤ one_if b + l.taken) → suc n ≤ one_if l'.core.session.hello_went + l'.taken
      by (Some f) b w t le = absurd (none-some (l', more) t)
      by None false w t le =
          let a = le false w in
          subst (λ (x : LeafEnd (DeviceEnd S F)). suc n ≤ one_if x.core.session.hello_went + x.taken) (ap (λ (x : LeafEnd (DeviceEnd S F) × List ℕ). x.0) (same_Some _ (l', more) t)) (omega arith)
      by None true w t le = took _ refl (le true w) w t

  -- a run's turns are no more than the bytes and one
  run_short : (leaf : DeviceEnd S F) (y : List ℕ) (n : ℕ) (l : LeafEnd (DeviceEnd S F)) (o : List ℕ) → leaf.session.hello_went ≡ false → IsLeafRun (star_of e) (fresh_leaf leaf) y n l o → (n ≤ one_if l.core.session.hello_went + l.taken) × (l.taken ≤ length y)
  run_short leaf y zero l o fresh run = (omega arith, subst (λ (x : LeafEnd (DeviceEnd S F)). x.taken ≤ length y) (sym run.0) (omega arith))
  run_short leaf y (suc n) l o fresh run =
      let before = run_short leaf y n run.0 run.1 fresh run.3 in (
        turns_taken run.0 l run.2 y n before.0 run.4,
        leaf_stays e decided run.0 y (l, run.2) before.1 _ run.4,
      )

  -- what is sent does not depend on how many more turns are tried
  rests : (n : ℕ) (l : LeafEnd (DeviceEnd S F)) (y : List ℕ) → (star_of e).leaf_turn l y ≡ None → sent_in d codec n l y ≡ []
  rests zero l y t = refl
  rests (suc n) l y t =
      ap (λ (r : Option (LeafEnd (DeviceEnd S F) × List ℕ)). leaf_sends r ++ sent_in d codec n (leaf_after l r) y) t ∙ rests n l y t

  run_sends : (leaf : LeafEnd (DeviceEnd S F)) (y : List ℕ) (n : ℕ) (l : LeafEnd (DeviceEnd S F)) (o : List ℕ) → IsLeafRun (star_of e) leaf y n l o → (more all : ℕ) → all ≡ n + more → sent_in d codec all leaf y ≡ o ++ sent_in d codec more l y
  run_sends leaf y zero l o run more all f =
      ap (λ n. sent_in d codec n leaf y) (let g : all ≡ more = omega arith in g)
      ∙ ap₂ (λ (o : List ℕ) (l : LeafEnd (DeviceEnd S F)). o ++ sent_in d codec more l y) (sym run.1) (sym run.0)
  run_sends leaf y (suc n) l o run more all f =
      run_sends leaf y n run.0 run.1 run.3 (suc more) all (omega arith)
      ∙ ap (λ (r : Option (LeafEnd (DeviceEnd S F) × List ℕ)). run.1 ++ (leaf_sends r ++ sent_in d codec more (leaf_after run.0 r) y)) run.4
      ∙ sym (append_assoc run.1 run.2 (sent_in d codec more l y))
      ∙ ap (λ (o : List ℕ). o ++ sent_in d codec more l y) (sym run.5)

  pub run_is_out : (leaf : DeviceEnd S F) (y : List ℕ) (n : ℕ) (l : LeafEnd (DeviceEnd S F)) (o : List ℕ) → leaf.session.hello_went ≡ false → IsLeafRun (star_of e) (fresh_leaf leaf) y n l o → (star_of e).leaf_turn l y ≡ None → o ≡ out_device d codec leaf y
  run_is_out leaf y n l o fresh run stops =
      let short = run_short leaf y n l o fresh run in
      sym (
      run_sends (fresh_leaf leaf) y n l o run (suc (length y) - n) (suc (length y)) (let b = few l.core.session.hello_went in let c = short.0 in let g = short.1 in omega arith)
      ∙ ap (λ (z : List ℕ). o ++ z) (rests (suc (length y) - n) l y stops)
      ∙ append-nil o
      )
    where
      few : (b : Bool) → one_if b ≤ 1
      few true = omega arith
      few false = omega arith

  -- There is such a run.

  HasRun : DeviceEnd S F → List ℕ → Type 0
  HasRun leaf y = (n : ℕ) × (l : LeafEnd (DeviceEnd S F)) × (o : List ℕ) × IsLeafRun (star_of e) (fresh_leaf leaf) y n l o × ((star_of e).leaf_turn l y ≡ None)

  run_on : (leaf : DeviceEnd S F) (y : List ℕ) → leaf.session.hello_went ≡ false → (n i : ℕ) (l : LeafEnd (DeviceEnd S F)) (o : List ℕ) → IsLeafRun (star_of e) (fresh_leaf leaf) y i l o → i + n ≡ suc (suc (length y)) → HasRun leaf y
  unfolding HasRun
  run_on leaf y fresh zero i l o run f = absurd (let s = run_short leaf y i l o fresh run in let a = s.0 in let b = s.1 in let c = few l.core.session.hello_went in omega arith)
    where
      few : (b : Bool) → one_if b ≤ 1
      few true = omega arith
      few false = omega arith
  run_on leaf y fresh (suc n) i l o run f = by ((star_of e).leaf_turn l y) refl (λ l' o' run'. run_on leaf y fresh n (suc i) l' o' run' (omega arith))
    where
      by : (r : Option (LeafEnd (DeviceEnd S F) × List ℕ)) → (star_of e).leaf_turn l y ≡ r → ((l' : LeafEnd (DeviceEnd S F)) (o' : List ℕ) → IsLeafRun (star_of e) (fresh_leaf leaf) y (suc i) l' o' → HasRun leaf y) → HasRun leaf y
      by None t more = (i, l, o, run, t)
      by (Some r) t more = more r.0 (o ++ r.1) (l, o, r.1, run, t, refl)

  pub out_is_run : (leaf : DeviceEnd S F) (y : List ℕ) → leaf.session.hello_went ≡ false → (n : ℕ) × (l : LeafEnd (DeviceEnd S F)) × IsLeafRun (star_of e) (fresh_leaf leaf) y n l (out_device d codec leaf y) × ((star_of e).leaf_turn l y ≡ None)
  unfolding HasRun
  out_is_run leaf y fresh =
      let r = run_on leaf y fresh (suc (suc (length y))) 0 (fresh_leaf leaf) [] (refl, refl) (omega arith) in
      (r.0, r.1, subst (IsLeafRun (star_of e) (fresh_leaf leaf) y r.0 r.1) (run_is_out leaf y r.0 r.1 r.2 fresh r.3 r.4) r.3, r.4)
