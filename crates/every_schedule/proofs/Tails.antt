-- A device end that takes a sync and then answers of its own requests ends by sending.
use Rattle.std.proofs.Common.{◌≡◌, ℕ, zero, suc, ◌⊎◌, inl, inr, Bool, true, false, not, ◌&&◌, List, [], ◌∷◌, ◌++◌, Option, Some, None, is_some, refl, sym, ap, ap₂, ◌∙◌, subst}
use Rattle.std.proofs.lemmas.Option.{none-some}
use Rattle.cosim_model.specs.declared.values.Want.{Want}
use Rattle.cosim_model.specs.declared.values.Want.TheVariants.{Fetch, Store, Line}
use Rattle.cosim_model.specs.Parts.{DeviceModel}
use Rattle.cosim_model.specs.Packets.{Body, Packet, is_response, cmd_of}
use Rattle.cosim_model.specs.Packets.Body.{Nop, Hello, Cfg, Read, Write, Interrupt, Sync}
use Rattle.cosim_model.specs.Packets.Decoded.{Valid}
use Rattle.cosim_model.specs.declared.session.SessionFault.{SessionFault}
use Rattle.cosim_model.specs.declared.session.OwnRequest.{OwnRequest}
use Rattle.cosim_model.specs.declared.session.Event.{Event}
use Rattle.cosim_model.specs.Sessions.{Session, fault_of, or_else, fault_if, judged, take_kept, event_of, asked_at, is_posted, counted, ticket_of, flood, hello_missing, hello_again, wrong_version, hello_lacks, unsupported, stray_answer, is_answer_of}
use Rattle.cosim_model.specs.declared.session.SessionFault.TheVariants as session_fault
use Rattle.ends_model.specs.declared.ends.OpenSync.{OpenSync}
use Rattle.ends_model.specs.DeviceTurn.{DeviceEnd, is_device_size, is_answered, told, settle, next_of, joined, then_settled, acts, answer_read, answer_write, do_posted, answered_own, device_takes, device_took}
use Rattle.every_schedule.proofs.Outlooks.{settle_by, settle_want}

-- No own request is out, also for the session.
abbrev pub IsMatched : {S F : Type 0} → DeviceEnd S F → Type 0
IsMatched e = e.own ≡ None → e.session.own_other ≡ None

-- A sync is open, or no own request is out.
abbrev pub IsHeld : {S F : Type 0} → DeviceEnd S F → Type 0
IsHeld e = (is_some e.open_sync ≡ true) ⊎ (e.own ≡ None)

abbrev event_at : Session → Packet → Bool → Body → Session × Event
event_at s p r b = ((event_of (record s { count = counted s.role s.count }) p r b).0, (event_of s p r b).1)

-- Answers of own requests.
abbrev pub IsReplyBody : Body → Type 0
IsReplyBody (Read f) = Unit {0}
IsReplyBody (Write f) = Unit {0}
IsReplyBody (Interrupt a b x y) = Unit {0}
IsReplyBody _ = ⊥

or_some : (a b : Option SessionFault) → is_some b ≡ true → is_some (or_else a b) ≡ true
or_some None b f = f
or_some (Some x) b f = refl

-- one that nobody awaits is a fault
stray_fault : (s : Session) (p : Packet) (b : Body) → p.body ≡ b → is_response p ≡ true → IsReplyBody b → s.own_other ≡ None → is_some (fault_of s p) ≡ true
stray_fault s p b eb er reply f =
    or_some (flood s) _ (or_some (hello_missing s.hello_came p.body) _ (or_some (hello_again s.hello_came p.body) _ (or_some (wrong_version p.body) _ (or_some (hello_lacks s.needs p.body) _ (or_some (unsupported s.role (is_response p) p.body) _ (or_first (stray_answer (is_response p) s p.id p.body) _ (by b eb reply)))))))
  where
    or_first : (a b : Option SessionFault) → is_some a ≡ true → is_some (or_else a b) ≡ true
    or_first None b f = absurd (true_false (sym f))
      where
        true_false : true ≡ false → ⊥
        true_false e = cc
    or_first (Some x) b f = refl

    own_none : (b : Body) → s.own_other ≡ None → is_some (fault_if (not (is_answer_of s.own_other p.id b)) (session_fault.StrayAnswer p.id (cmd_of b))) ≡ true
    own_none b o = ap (λ (o : Option OwnRequest). is_some (fault_if (not (is_answer_of o p.id b)) (session_fault.StrayAnswer p.id (cmd_of b)))) o

    by : (b : Body) → p.body ≡ b → IsReplyBody b → is_some (stray_answer (is_response p) s p.id p.body) ≡ true
    by (Read x) eb reply = ap₂ (λ r b. is_some (stray_answer r s p.id b)) er eb ∙ own_none (Read x) f
    by (Write x) eb reply = ap₂ (λ r b. is_some (stray_answer r s p.id b)) er eb ∙ own_none (Write x) f
    by (Interrupt a b x y) eb reply = ap₂ (λ r b. is_some (stray_answer r s p.id b)) er eb ∙ own_none (Interrupt a b x y) f
    by Nop eb reply = absurd reply
    by (Hello a b c) eb reply = absurd reply
    by (Cfg a b) eb reply = absurd reply
    by (Sync t) eb reply = absurd reply

tf : true ≡ false → ⊥
tf e = cc

is_none_some : {A : Type 0} (o : Option A) → o ≡ None → is_some o ≡ true → ⊥
is_none_some o e s = tf (sym s ∙ ap is_some e)

back_nil : {A : Type 0} (xs ys : List A) → xs ++ ys ≡ [] → ys ≡ []
back_nil [] ys e = e
back_nil (x ∷ xs) ys e = absurd (cons_nil x (xs ++ ys) e)
  where
    cons_nil : {A : Type 0} (x : A) (xs : List A) → x ∷ xs ≡ [] → ⊥
    cons_nil x xs e = cc

module _ {S F : Type 0} (d : DeviceModel S) where
  -- settling
  settle_matched : (n : ℕ) (e : DeviceEnd S F) → IsMatched e → IsMatched (settle d n e).0
  settle_matched zero e c = c
  settle_matched (suc n) e c = go e.session.hello_came e.own refl (d.want e.device) e.open_sync (λ e' c'. settle_matched n e' c')
    where
      answered : Bool
      answered = e.session.common.posted && e.answered_lines

      wanted : e.own ≡ None → (v : Want) (s : Option OpenSync) (b : Bool) → is_answered answered v ≡ b → ((e' : DeviceEnd S F) → IsMatched e' → IsMatched (settle d n e').0) → IsMatched (joined (settle_want d e v s b) (settle d n (next_of (settle_want d e v s b)))).0
      wanted f v s true eb ih = λ h. absurd (none-some v (sym h))
      wanted f v None false eb ih = c
      wanted f (Line number level) (Some o) false eb ih = ih (told d e (Line number level)) (λ h. c f)
      wanted f (Fetch addr size) (Some o) false eb ih = absurd (tf eb)
      wanted f (Store addr size bytes mask) (Some o) false eb ih = absurd (tf eb)

      go : (b : Bool) (own : Option Want) → e.own ≡ own → (o : Option Want) (s : Option OpenSync) → ((e' : DeviceEnd S F) → IsMatched e' → IsMatched (settle d n e').0) → IsMatched (joined (settle_by d e b own o s) (settle d n (next_of (settle_by d e b own o s)))).0
      go false own f o s ih = c
      go true (Some w) f o s ih = c
      go true None f None None ih = c
      go true None f None (Some q) ih = c
      go true None f (Some v) s ih = wanted f v s (is_answered answered v) refl ih

  settle_held : (n : ℕ) (e : DeviceEnd S F) → is_some e.open_sync ≡ true → IsHeld (settle d n e).0
  settle_held zero e h = inl h
  settle_held (suc n) e h = go e.session.hello_came e.own refl (d.want e.device) e.open_sync refl (λ e' h'. settle_held n e' h')
    where
      wanted : (v : Want) (s : Option OpenSync) (b : Bool) → ((e' : DeviceEnd S F) → is_some e'.open_sync ≡ true → IsHeld (settle d n e').0) → IsHeld (joined (settle_want d e v s b) (settle d n (next_of (settle_want d e v s b)))).0
      wanted v s true ih = inl h
      wanted v None false ih = inl h
      wanted v (Some o) false ih = ih (told d e v) h

      go : (b : Bool) (own : Option Want) → e.own ≡ own → (o : Option Want) (s : Option OpenSync) → e.open_sync ≡ s → ((e' : DeviceEnd S F) → is_some e'.open_sync ≡ true → IsHeld (settle d n e').0) → IsHeld (joined (settle_by d e b own o s) (settle d n (next_of (settle_by d e b own o s)))).0
      go false own f o s g ih = inl h
      go true (Some w) f o s g ih = inl h
      go true None f None None g ih = inl h
      go true None f None (Some q) g ih = inr f
      go true None f (Some v) s g ih = wanted v s (is_answered (e.session.common.posted && e.answered_lines) v) ih

  -- closing a sync sends
  settle_sends : (n : ℕ) (e : DeviceEnd S F) → is_some e.open_sync ≡ true → (settle d n e).0.open_sync ≡ None → (settle d n e).1 ≡ [] → ⊥
  settle_sends zero e h o s = true_false (sym h ∙ ap is_some o)
    where
      true_false : true ≡ false → ⊥
      true_false e = cc
  settle_sends (suc n) e h o z = go e.session.hello_came e.own (d.want e.device) e.open_sync o z
    where
      true_false : true ≡ false → ⊥
      true_false e = cc

      some_cons : {A : Type 0} (x : A) (xs : List A) → x ∷ xs ≡ [] → ⊥
      some_cons x xs e = cc

      still : e.open_sync ≡ None → ⊥
      still o = true_false (sym h ∙ ap is_some o)

      wanted : (v : Want) (s : Option OpenSync) (b : Bool) → (joined (settle_want d e v s b) (settle d n (next_of (settle_want d e v s b)))).0.open_sync ≡ None → (joined (settle_want d e v s b) (settle d n (next_of (settle_want d e v s b)))).1 ≡ [] → ⊥
      wanted v s true o z = still o
      wanted v None false o z = still o
      wanted v (Some q) false o z = some_cons _ _ z

      go : (b : Bool) (own w : Option Want) (s : Option OpenSync) → (joined (settle_by d e b own w s) (settle d n (next_of (settle_by d e b own w s)))).0.open_sync ≡ None → (joined (settle_by d e b own w s) (settle d n (next_of (settle_by d e b own w s)))).1 ≡ [] → ⊥
      go false own w s o z = still o
      go true (Some x) w s o z = still o
      go true None None None o z = still o
      go true None None (Some q) o z = some_cons _ _ z
      go true None (Some v) s o z = wanted v s (is_answered (e.session.common.posted && e.answered_lines) v) o z

  -- A packet that is taken with no fault.
  abbrev acted : DeviceEnd S F → Packet → Bool → Body → DeviceEnd S F × List Packet
  acted e p r b = acts d (record e { session = (event_at e.session p r b).0 }) b (event_at e.session p r b).1

  took_cases : (e : DeviceEnd S F) (p : Packet) → (is_some (device_takes d e (Valid p)).0.fault ≡ true) ⊎ ((fault_of e.session p ≡ None) × (device_takes d e (Valid p) ≡ then_settled d (acted e p (is_response p) p.body)))
  took_cases e p = kept e.session.fault refl
    where
      judge : (o : Option SessionFault) → fault_of e.session p ≡ o → e.session.fault ≡ None → (is_some (device_takes d e (Valid p)).0.fault ≡ true) ⊎ ((fault_of e.session p ≡ None) × (device_takes d e (Valid p) ≡ then_settled d (acted e p (is_response p) p.body)))
      judge None g f = inr (g, ap (λ o. device_took d e p (take_kept e.session p o)) f ∙ ap (λ o. device_took d e p (judged e.session p o)) g)
      judge (Some x) g f = inl (ap (λ o. is_some (device_took d e p (take_kept e.session p o)).0.fault) f ∙ ap (λ o. is_some (device_took d e p (judged e.session p o)).0.fault) g)

      kept : (o : Option SessionFault) → e.session.fault ≡ o → (is_some (device_takes d e (Valid p)).0.fault ≡ true) ⊎ ((fault_of e.session p ≡ None) × (device_takes d e (Valid p) ≡ then_settled d (acted e p (is_response p) p.body)))
      kept None f = judge (fault_of e.session p) refl f
      kept (Some x) f = inl (ap (λ o. is_some (device_took d e p (take_kept e.session p o)).0.fault) f)

  acted_matched : (e : DeviceEnd S F) (p : Packet) (r : Bool) (b : Body) → IsMatched e → IsMatched (acted e p r b).0
  acted_matched e p r Nop c = c
  acted_matched e p r (Cfg opt set) c = c
  acted_matched e p r (Hello major minor caps) c = c
  acted_matched e p true (Sync t) c = c
  acted_matched e p true (Read f) c = by e.own
    where
      by : (o : Option Want) → IsMatched (answered_own d (record e { session = (event_at e.session p true (Read f)).0 }) (Read f) o).0
      by None = λ h. refl
      by (Some v) = λ h. refl
  acted_matched e p true (Write f) c = by e.own
    where
      by : (o : Option Want) → IsMatched (answered_own d (record e { session = (event_at e.session p true (Write f)).0 }) (Write f) o).0
      by None = λ h. refl
      by (Some v) = λ h. refl
  acted_matched e p true (Interrupt a b x y) c = by e.own
    where
      by : (o : Option Want) → IsMatched (answered_own d (record e { session = (event_at e.session p true (Interrupt a b x y)).0 }) (Interrupt a b x y) o).0
      by None = λ h. refl
      by (Some v) = λ h. refl
  acted_matched e p false (Sync t) c = c
  acted_matched e p false (Read f) c = by (is_posted e.session.common p)
    where
      sized : (z : Bool) → IsMatched (answer_read d (record e { session = (asked_at (record e.session { count = counted e.session.role e.session.count }) p false f.time).0 }) (ticket_of p) f z).0
      sized true = c
      sized false = c

      by : (z : Bool) → IsMatched (acts d (record e { session = (asked_at (record e.session { count = counted e.session.role e.session.count }) p z f.time).0 }) (Read f) (asked_at e.session p z f.time).1).0
      by true = c
      by false = sized (is_device_size f)
  acted_matched e p false (Write f) c = by (is_posted e.session.common p)
    where
      sized : (z : Bool) → IsMatched (answer_write d (record e { session = (asked_at (record e.session { count = counted e.session.role e.session.count }) p false f.time).0 }) (ticket_of p) f z).0
      sized true = c
      sized false = c

      links : (z : Bool) → IsMatched (do_posted d (record e { session = (asked_at (record e.session { count = counted e.session.role e.session.count }) p true f.time).0 }) f z).0
      links true = c
      links false = c

      by : (z : Bool) → IsMatched (acts d (record e { session = (asked_at (record e.session { count = counted e.session.role e.session.count }) p z f.time).0 }) (Write f) (asked_at e.session p z f.time).1).0
      by true = links (is_device_size f)
      by false = sized (is_device_size f)
  acted_matched e p false (Interrupt t x y z) c = by (is_posted e.session.common p)
    where
      by : (q : Bool) → IsMatched (acts d (record e { session = (asked_at (record e.session { count = counted e.session.role e.session.count }) p q t).0 }) (Interrupt t x y z) (asked_at e.session p q t).1).0
      by true = c
      by false = c

  acted_open : (e : DeviceEnd S F) (p : Packet) (b : Body) → (acted e p true b).0.open_sync ≡ e.open_sync
  acted_open e p Nop = refl
  acted_open e p (Cfg opt set) = refl
  acted_open e p (Hello major minor caps) = refl
  acted_open e p (Sync t) = refl
  acted_open e p (Read f) = by e.own
    where
      by : (o : Option Want) → (answered_own d (record e { session = (event_at e.session p true (Read f)).0 }) (Read f) o).0.open_sync ≡ e.open_sync
      by None = refl
      by (Some v) = refl
  acted_open e p (Write f) = by e.own
    where
      by : (o : Option Want) → (answered_own d (record e { session = (event_at e.session p true (Write f)).0 }) (Write f) o).0.open_sync ≡ e.open_sync
      by None = refl
      by (Some v) = refl
  acted_open e p (Interrupt a b x y) = by e.own
    where
      by : (o : Option Want) → (answered_own d (record e { session = (event_at e.session p true (Interrupt a b x y)).0 }) (Interrupt a b x y) o).0.open_sync ≡ e.open_sync
      by None = refl
      by (Some v) = refl

  -- What a turn keeps, where it ends without a fault.

  pub keeps_matched : (e : DeviceEnd S F) (p : Packet) → IsMatched e → (device_takes d e (Valid p)).0.fault ≡ None → IsMatched (device_takes d e (Valid p)).0
  keeps_matched e p c ok = by (took_cases e p)
    where
      by : (is_some (device_takes d e (Valid p)).0.fault ≡ true) ⊎ ((fault_of e.session p ≡ None) × (device_takes d e (Valid p) ≡ then_settled d (acted e p (is_response p) p.body))) → IsMatched (device_takes d e (Valid p)).0
      by (inl f) = absurd (is_none_some (device_takes d e (Valid p)).0.fault ok f)
      by (inr g) = subst (λ (r : DeviceEnd S F × List Packet). IsMatched r.0) (sym g.1) (settle_matched (suc (d.left (acted e p (is_response p) p.body).0.device)) (acted e p (is_response p) p.body).0 (acted_matched e p (is_response p) p.body c))

  -- what a reply finds: a sync that is open
  reply_open : (e : DeviceEnd S F) (p : Packet) → IsMatched e → IsHeld e → is_response p ≡ true → IsReplyBody p.body → fault_of e.session p ≡ None → is_some e.open_sync ≡ true
  reply_open e p c (inl o) er b f = o
  reply_open e p c (inr n) er b f = absurd (is_none_some (fault_of e.session p) f (stray_fault e.session p p.body refl er b (c n)))

  -- after acting, a sync is open
  reply_acts_open : (e : DeviceEnd S F) (p : Packet) → is_response p ≡ true → is_some e.open_sync ≡ true → is_some (acted e p (is_response p) p.body).0.open_sync ≡ true
  reply_acts_open e p er o = ap (λ r. is_some (acted e p r p.body).0.open_sync) er ∙ ap is_some (acted_open e p p.body) ∙ o

  sync_acts_open : (e : DeviceEnd S F) (p : Packet) (t : ℕ) → is_response p ≡ false → p.body ≡ Sync t → is_some (acted e p (is_response p) p.body).0.open_sync ≡ true
  sync_acts_open e p t er eb = ap₂ (λ r b. is_some (acted e p r b).0.open_sync) er eb

  -- A sync, or an answer of an own request.
  abbrev pub IsTail : DeviceEnd S F → Packet → Type 0
  IsTail e p = ((is_response p ≡ false) × ((t : ℕ) × (p.body ≡ Sync t))) ⊎ ((is_response p ≡ true) × IsReplyBody p.body × IsHeld e)

  tail_acts_open : (e : DeviceEnd S F) (p : Packet) → IsMatched e → IsTail e p → fault_of e.session p ≡ None → is_some (acted e p (is_response p) p.body).0.open_sync ≡ true
  tail_acts_open e p c (inl s) f = sync_acts_open e p s.1.0 s.0 s.1.1
  tail_acts_open e p c (inr r) f = reply_acts_open e p r.0 (reply_open e p c r.2 r.0 r.1 f)

  pub keeps_held : (e : DeviceEnd S F) (p : Packet) → IsMatched e → IsTail e p → (device_takes d e (Valid p)).0.fault ≡ None → IsHeld (device_takes d e (Valid p)).0
  keeps_held e p c tail ok = by (took_cases e p)
    where
      by : (is_some (device_takes d e (Valid p)).0.fault ≡ true) ⊎ ((fault_of e.session p ≡ None) × (device_takes d e (Valid p) ≡ then_settled d (acted e p (is_response p) p.body))) → IsHeld (device_takes d e (Valid p)).0
      by (inl f) = absurd (is_none_some (device_takes d e (Valid p)).0.fault ok f)
      by (inr g) = subst (λ (r : DeviceEnd S F × List Packet). IsHeld r.0) (sym g.1) (settle_held (suc (d.left (acted e p (is_response p) p.body).0.device)) (acted e p (is_response p) p.body).0 (tail_acts_open e p c tail g.0))

  -- The turn after which no sync is open sends.
  pub last_sends : (e : DeviceEnd S F) (p : Packet) → IsMatched e → IsTail e p → (device_takes d e (Valid p)).0.fault ≡ None → (device_takes d e (Valid p)).0.open_sync ≡ None → (device_takes d e (Valid p)).1 ≡ [] → ⊥
  last_sends e p c tail ok closed_now none = by (took_cases e p)
    where
      by : (is_some (device_takes d e (Valid p)).0.fault ≡ true) ⊎ ((fault_of e.session p ≡ None) × (device_takes d e (Valid p) ≡ then_settled d (acted e p (is_response p) p.body))) → ⊥
      by (inl f) = is_none_some (device_takes d e (Valid p)).0.fault ok f
      by (inr g) = settle_sends (suc (d.left (acted e p (is_response p) p.body).0.device)) (acted e p (is_response p) p.body).0 (tail_acts_open e p c tail g.0)
          (ap (λ (r : DeviceEnd S F × List Packet). r.0.open_sync) (sym g.1) ∙ closed_now)
          (back_nil (acted e p (is_response p) p.body).1 _ (ap (λ (r : DeviceEnd S F × List Packet). r.1) (sym g.1) ∙ none))
