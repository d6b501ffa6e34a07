-- What always holds of an end stays as it acts and settles.
use Rattle.std.proofs.Common.{◌≡◌, ℕ, ◌≤◌, Bool, true, false, refl, sym, ap, ◌∙◌, subst, arith}
use Rattle.std.specs.Prelude.{Some, None}
use Rattle.cosim_model.specs.declared.values.Access.{Access}
use Rattle.cosim_model.specs.declared.values.Reply.{Reply}
use Rattle.cosim_model.specs.declared.values.Want.{Want}
use Rattle.cosim_model.specs.declared.session.Command.TheVariants as command
use Rattle.cosim_model.specs.declared.session.Ticket.{Ticket}
use Rattle.cosim_model.specs.Packets.{Body, Packet}
use Rattle.cosim_model.specs.Packets.Body.{Nop, Hello, Cfg, Read, Write, Interrupt, Sync}
use Rattle.cosim_model.specs.Parts.{DeviceModel, IsDevice}
use Rattle.cosim_model.specs.Sessions.{Session, take_packet, unless_posted, awaiting, is_posted_body, hello_sent, other_answered}
use Rattle.ends_model.specs.declared.ends.OpenSync.{OpenSync}
use Rattle.ends_model.specs.DeviceTurn.{DeviceEnd, accessed, fed, asked, closed, sent_body, body_len, want_body}
use Rattle.rp_packet.specs.declared.fault.Cause.{Cause}
use Rattle.device_core.specs.Cores.{IsCore}
use Rattle.device_core.proofs.Taking.{Keeps, take-keeps}

-- What a session keeps as a request is sent.
pub record Stays (s r : Session) : Type 0 where
  pub time : r.peer_time ≡ s.peer_time
  pub sync : r.peer_sync ≡ s.peer_sync
  pub greeted : r.hello_went ≡ s.hello_went

awaiting-stays : (s : Session) (b : Body) (len : ℕ) → Stays s (awaiting s b len)
awaiting-stays s (Sync time) len = record { time = refl; sync = refl; greeted = refl }
awaiting-stays s Nop len = record { time = refl; sync = refl; greeted = refl }
awaiting-stays s (Hello major minor caps) len = record { time = refl; sync = refl; greeted = refl }
awaiting-stays s (Cfg opt set) len = record { time = refl; sync = refl; greeted = refl }
awaiting-stays s (Read f) len = record { time = refl; sync = refl; greeted = refl }
awaiting-stays s (Write f) len = record { time = refl; sync = refl; greeted = refl }
awaiting-stays s (Interrupt time vector line val) len = record { time = refl; sync = refl; greeted = refl }

sent-stays : (s : Session) (posted : Bool) (b : Body) (len : ℕ) → Stays s (unless_posted posted s b len)
sent-stays s true b len = record { time = refl; sync = refl; greeted = refl }
sent-stays s false b len = awaiting-stays s b len

pub request-stays : (s : Session) (posted : Bool) (b : Body) → Stays s (sent_body s posted b)
request-stays s posted b = sent-stays s (is_posted_body s.common posted b) b (body_len b)

some-same : (o q : OpenSync) → Some o ≡ Some q → o ≡ q
some-same o q e = cc (e)

module _ {S : Type 0} (d : DeviceModel S) (lawful : IsDevice d) where
  -- another session that keeps what was known of the one before
  pub with-session : (e : DeviceEnd S Cause) (r : Session) → Keeps e.session r → IsCore d e
      → IsCore d (record e { session = r })
  with-session e r keeps core = record {
    seen = let before = core.seen in let time = keeps.time in omega (arith, before, time);
    wanted = core.wanted;
    free = λ none. keeps.own (core.free none);
    opened = λ o is. ((core.opened o is).0, keeps.sync o.ticket (core.opened o is).1);
  }

  pub taken-core : (e : DeviceEnd S Cause) (p : Packet) → IsCore d e
      → IsCore d (record e { session = (take_packet e.session p).0 })
  taken-core e p core = with-session e (take_packet e.session p).0 (take-keeps e.session p) core

  pub answered-core : (e : DeviceEnd S Cause) → IsCore d e → IsCore d (record e { session = other_answered e.session })
  answered-core e core = record { seen = core.seen; wanted = core.wanted; free = core.free; opened = core.opened }

  pub greeted-core : (e : DeviceEnd S Cause) → IsCore d e → IsCore d (record e { session = hello_sent e.session })
  greeted-core e core = record { seen = core.seen; wanted = core.wanted; free = core.free; opened = core.opened }

  early : (e : DeviceEnd S Cause) (t : ℕ) → e.session.peer_time ≡ t → IsCore d e → d.seen e.device ≤ t
  early e t now core = subst (λ n. d.seen e.device ≤ n) now core.seen

  pub accessed-core : (e : DeviceEnd S Cause) (t : ℕ) (a : Access) → e.session.peer_time ≡ t → IsCore d e
      → IsCore d (accessed d e t a)
  accessed-core e t a now core = record {
    seen = let is = lawful.access_seen e.device t a (early e t now core) in omega (arith, is, now);
    wanted = λ w own. (lawful.access_keeps e.device t a w (early e t now core) (core.wanted w own)).0;
    free = core.free;
    opened = core.opened;
  }

  pub synced-core : (e : DeviceEnd S Cause) (ticket : Ticket) (t : ℕ) → e.session.peer_time ≡ t
      → ticket.cmd ≡ command.Sync → e.session.peer_sync ≡ Some ticket → IsCore d e
      → IsCore d (record e { device = d.advance e.device t; open_sync = Some (record { ticket = ticket; time = t }) })
  synced-core e ticket t now class peer core = record {
    seen = let is = lawful.advance_seen e.device t (early e t now core) in omega (arith, is, now);
    wanted = λ w own. (lawful.advance_keeps e.device t w (early e t now core) (core.wanted w own)).0;
    free = core.free;
    opened = λ o is. let same = some-same _ o is in (ap (λ x. x.ticket.cmd) (sym same) ∙ class, peer ∙ ap (λ x. Some x.ticket) same);
  }

  pub fed-core : (e : DeviceEnd S Cause) (w : Want) (r : Reply) → e.session.own_other ≡ None → IsCore d e
      → IsCore d (fed d e w r)
  fed-core e w r free core = record {
    seen = let is = lawful.feed_seen e.device r in let before = core.seen in omega (arith, is, before);
    wanted = λ v own. absurd (cc (own));
    free = λ none. free;
    opened = core.opened;
  }

  pub asked-core : (e : DeviceEnd S Cause) (w : Want) → d.want e.device ≡ Some w → IsCore d e → IsCore d (asked d e w)
  asked-core e w want core =
      let stays = request-stays e.session false (want_body e.session.common (d.due e.device) w) in
      record {
        seen = let before = core.seen in let time = stays.time in omega (arith, before, time);
        wanted = λ v own. want ∙ own;
        free = λ none. absurd (cc (none));
        opened = λ o is. ((core.opened o is).0, stays.sync ∙ (core.opened o is).1);
      }

  pub closed-core : (e : DeviceEnd S Cause) → IsCore d e → IsCore d (closed e)
  closed-core e core = record { seen = core.seen; wanted = core.wanted; free = core.free; opened = λ o is. absurd (cc (is)) }
