-- What a served link is left with is by Talk.
use Rattle.std.proofs.Common.{◌≡◌, ℕ, suc, List, ◌++◌, refl, ap, sym, ◌∙◌, subst, IfSome, Result, Ok, Err}
use Rattle.std.specs.Prelude.{Option, Some, None}
use Rattle.byte_streams.specs.Prefixes.{IsPrefix, Grows}
use Rattle.byte_streams.specs.Talks.{talk}
use Rattle.byte_streams.proofs.Prefixes.{IsPrefix-trans}
use Rattle.byte_streams.proofs.Talks.{talk-fixed, talk-stuck, talk-grows}
use Rattle.cos_base.specs.Links.{Wire, IsWire}
use Rattle.cosim_model.specs.declared.session.EndFault.{EndFault}
use Rattle.cosim_model.specs.declared.session.EndFault.TheVariants as fault
use Rattle.cosim_model.specs.Parts.{DeviceModel}
use Rattle.ends_model.specs.DeviceTurn.{DeviceEnd, device_looks}
use Rattle.ends_model.specs.Traffic as traffic
use Rattle.process_network.specs.PacketStar.{leaf_turn_by}
use Rattle.rp_packet.specs.declared.fault.Cause.{Cause}
use Rattle.rp_packet.specs.Streams.{packet_codec}
use Rattle.end_answers.specs.Faults.{placed-longer}
use Rattle.device_turns.specs.Runs.{Taking, IsWholeRun, out_device}
use Rattle.device_turns.specs.Ends.{Fault}
use Rattle.device_turns.specs.RunLaws.{out-grows, run-longer, whole-sends}
use Rattle.end_device.specs.Talk.{EndsSo, TalkEnds, ByTalk, IsByTalk}
use Rattle.end_device.specs.Serving.{EndsThere, RefusesThere, Leaves, Serves, Tells}

module _ {S : Type 0} (d : DeviceModel S) (start : DeviceEnd S Cause) where
  halted-by : (l : Taking S) (x : List ℕ) (k : Option (EndFault Cause)) (f : EndFault Cause) → k ≡ Some f
      → leaf_turn_by (traffic.device_alone d packet_codec) l x (device_looks l.core k l.core.session.hello_went) ≡ None
  halted-by l x (Some g) f is = refl
  halted-by l x None f is = absurd (cc (is))

  -- an end that keeps a fault does nothing more, whatever comes
  whole-longer : (x y : List ℕ) (l : Taking S) (sent : List ℕ) (f : EndFault Cause) → l.core.fault ≡ Some f
      → IsWholeRun d start x l sent → IsWholeRun d start (x ++ y) l sent
  whole-longer x y l sent f kept whole = record {
    turns = whole.turns;
    run = run-longer d start x y whole.turns l sent whole.run;
    rests = halted-by l (x ++ y) l.core.fault f kept;
  }

  -- where all was received, Talk ends
  fixed-talk : (said : List ℕ → List ℕ) (e : DeviceEnd S Cause) (r : Result Unit Fault) (now : Option Wire) → Grows said
      → Tells now (EndsThere d start said e r) → TalkEnds d start said e r
  fixed-talk said e r now grows (n, told, there) =
      let served = there.served in
      let sent = whole-sends d start n.received there.leaf n.sent served.whole in
      record {
        received = n.received;
        sent = n.sent;
        leaf = there.leaf;
        talk = talk-fixed said (out_device d start) n.received served.in_time.0 grows (out-grows d start) served.in_time.1
            (there.all ∙ ap said sent);
        whole = served.whole;
        ends = there.ends;
        parts = served.parts;
      }

  -- After a refusal more bytes change nothing, so Talk ends too.
  stuck-talk : (said : List ℕ → List ℕ) (e : DeviceEnd S Cause) (f : Fault) (c : EndFault Cause) (now : Option Wire) → Grows said
      → ((l : Taking S) (x : List ℕ) → EndsSo l x (Err f) → l.core.fault ≡ Some c)
      → ((l : Taking S) (x y : List ℕ) → EndsSo l x (Err f) → EndsSo l (x ++ y) (Err f))
      → Tells now (RefusesThere d start said e (Err f)) → TalkEnds d start said e (Err f)
  stuck-talk said e f c now grows faulty longer (n, told, there) =
      let served = there.served in
      let l = there.leaf in
      let k = served.in_time.0 in
      let kept = faulty l n.received there.ends in
      let out = out_device d start in
      let same : (y : List ℕ) → IsPrefix n.received y → out y ≡ out n.received =
      λ y p.
      sym (whole-sends d start y l n.sent
      (subst (λ z. IsWholeRun d start z l n.sent) p.1 (whole-longer n.received p.0 l n.sent c kept served.whole)))
      ∙ whole-sends d start n.received l n.sent served.whole in
      let more : IsPrefix n.received (talk said out (suc k)) =
      IsPrefix-trans n.received _ _ served.in_time.1 (talk-grows said out k grows (out-grows d start)) in
      record {
        received = talk said out (suc k);
        sent = n.sent;
        leaf = l;
        talk = talk-stuck said out n.received k grows (out-grows d start) served.in_time.1 same;
        whole = subst (λ z. IsWholeRun d start z l n.sent) more.1 (whole-longer n.received more.0 l n.sent c kept served.whole);
        ends = subst (λ z. EndsSo l z (Err f)) more.1 (longer l n.received more.0 there.ends);
        parts = served.parts;
      }

  leaves-talk : (said : List ℕ → List ℕ) (e : DeviceEnd S Cause) (r : Result Unit Fault) (now : Option Wire) → Grows said
      → Leaves d start said e r now → ByTalk d start said e r
  leaves-talk said e (Ok u) now grows left = fixed-talk said e (Ok u) now grows left
  leaves-talk said e (Err (fault.Ended n)) now grows left = fixed-talk said e (Err (fault.Ended n)) now grows left
  leaves-talk said e (Err (fault.Truncated a b)) now grows left = fixed-talk said e (Err (fault.Truncated a b)) now grows left
  leaves-talk said e (Err (fault.Malformed f)) now grows left =
      stuck-talk said e (fault.Malformed f) (fault.Malformed f.cause) now grows (λ l x is. is.0)
      (λ l x y is. (is.0, placed-longer x y (fault.Malformed f) is.1)) left
  leaves-talk said e (Err (fault.Session f)) now grows left =
      stuck-talk said e (fault.Session f) (fault.Session f) now grows (λ l x is. is) (λ l x y is. is) left
  leaves-talk said e (Err (fault.TooMuch taken)) now grows (n, told, there) = record {
    received = n.received;
    sent = n.sent;
    leaf = there.leaf;
    rounds = there.served.in_time.0;
    within = there.served.in_time.1;
    whole = there.served.whole;
    clear = there.clear;
    count = there.count;
    much = there.much;
    parts = there.served.parts;
  }
  leaves-talk said e (Err (fault.Link n)) now grows left = tt
  leaves-talk said e (Err fault.NoMemory) now grows left = tt
  leaves-talk said e (Err (fault.LateWant a b)) now grows left = left
  leaves-talk said e (Err (fault.Astray n)) now grows left = left

  pub serves-talk : (w now : Option Wire) (e : DeviceEnd S Cause) (r : Result Unit Fault) → IfSome w IsWire
      → Serves d start w now e r → IsByTalk d start w e r
  serves-talk None now e r wire left = tt
  serves-talk (Some w) now e r wire left = leaves-talk w.said e r now wire.grows left
