-- How far a link and its end have come, from call to call of serve.
use Rattle.std.proofs.Common.{◌≡◌, ℕ, zero, suc, ◌+◌, ◌<◌, ◌≤◌, List, [], ◌∷◌, ◌++◌, length, drop, refl, ap, sym, ◌∙◌, subst, arith, IfSome, length-append, Result, Ok, Err}
use Rattle.std.specs.Prelude.{Option, Some, None}
use Rattle.std.proofs.lemmas.List.{append-nil}
use Rattle.byte_streams.specs.Prefixes.{IsPrefix, Grows}
use Rattle.byte_streams.specs.Talks.{talk}
use Rattle.byte_streams.proofs.Prefixes.{IsPrefix-front, IsPrefix-trans, IsPrefix-behind}
use Rattle.byte_streams.proofs.Talks.{within-talk}
use Rattle.cos_base.specs.Links.{Wire, IsWire, IsFresh}
use Rattle.cosim_model.specs.declared.session.EndFault.TheVariants as fault
use Rattle.cosim_model.specs.Parts.{DeviceModel}
use Rattle.ends_model.specs.DeviceTurn.{DeviceEnd}
use Rattle.rp_framing.specs.Framing.{counted}
use Rattle.rp_framing.specs.Receiving.{Came, CameAll, CamePartly}
use Rattle.rp_framing.specs.Sending.{Sends}
use Rattle.rp_framing.specs.declared.sender.SendFault.{SendFault}
use Rattle.rp_packet.specs.declared.fault.Cause.{Cause}
use Rattle.end_answers.specs.Faults.{IsPlaced}
use Rattle.device_turns.specs.Runs.{Taking, IsWholeRun, out_device}
use Rattle.device_turns.specs.Ends.{End, Fault, GoesOn, FedAt, HasRun, IsWaiting, Turns, core_of, is_clean, kept_cause}
use Rattle.device_turns.specs.RunLaws.{out-grows, run-prefix, run-within, whole-sends}
use Rattle.device_turns.specs.EndLaws.{call-runs, feeds-run, waits-clear, waits-whole, kept-whole}
use Rattle.end_device.specs.Talk.{EndsSo, HasParts}
use Rattle.end_device.specs.Serving.{IsServed, EndsThere, RefusesThere, Serves, Tells}
use Rattle.end_device.specs.Going.{IsGoing, Going, FaultLeaves, IsAtEnd, AtEnd, FinishesSo}

parts-of : {S : Type 0} (e : End S) (l : Taking S) → core_of e ≡ l.core → HasParts e.clear l
parts-of e l core = (ap (λ c. c.device) core, ap (λ c. c.calls) core)

module _ {S : Type 0} (d : DeviceModel S) (start : DeviceEnd S Cause) where
  -- a part of what is to be sent was sent, where the link still tells
  abbrev pub OnlyPart : Option Wire → Option Wire → Type 0
  OnlyPart None after = Unit {0}
  OnlyPart (Some w) after = IfSome after (λ n. IsPrefix n.sent (out_device d start n.received))

  pub part-link : (w : Option Wire) (e : DeviceEnd S Cause) (count : ℕ) (after : Option Wire) → OnlyPart w after
      → FaultLeaves d start w e (fault.Link count) after
  part-link None e count after part = tt
  part-link (Some w) e count after part = part

  pub part-memory : (w : Option Wire) (e : DeviceEnd S Cause) (after : Option Wire) → OnlyPart w after
      → FaultLeaves d start w e fault.NoMemory after
  part-memory None e after part = tt
  part-memory (Some w) e after part = part

  has-prefix : (x sent : List ℕ) (e : End S) → HasRun d start x sent e → IsPrefix sent (out_device d start x)
  has-prefix x sent e run = run-prefix d start x run.turns run.leaf sent run.run

  -- all that a turn sends was sent
  pub going-sent : (w : Option Wire) (count : ℕ) (e new : End S) (now after : Option Wire) (before out bytes : List ℕ)
      → GoesOn d e new before out → bytes ≡ drop (length before) out → Sends now after bytes (Ok tt)
      → Going d start w count e now → Going d start w count new after
  going-sent None count e new now after before out bytes goes is sent going = tt
  going-sent (Some w) count e new now after before out bytes goes is sent (n, told, g) =
      let there : Sends (Some n) after bytes (Ok tt) = subst (λ o. Sends o after bytes (Ok tt)) told sent in (
        record n { sent = n.sent ++ bytes },
        there,
        record {
          same = g.same;
          read = g.read;
          run = subst (λ s. HasRun d start n.received (n.sent ++ s) new) (sym is) (goes start n.received n.sent g.run);
          in_time = g.in_time;
        },
      )

  part-of : (n : Wire) (bytes : List ℕ) (after : Option Wire) → IsPrefix (n.sent ++ bytes) (out_device d start n.received)
      → IfSome after (λ m. (part : List ℕ) × IsPrefix part bytes × (m ≡ record n { sent = n.sent ++ part }))
      → IfSome after (λ n. IsPrefix n.sent (out_device d start n.received))
  part-of n bytes None whole some = tt
  part-of n bytes (Some m) whole (part, p, is) =
      subst (λ v. IsPrefix v.sent (out_device d start v.received)) (sym is)
      (IsPrefix-trans (n.sent ++ part) (n.sent ++ bytes) (out_device d start n.received) (IsPrefix-behind n.sent part bytes p) whole)

  -- a part of what a turn sends was sent
  pub going-part : (w : Option Wire) (count : ℕ) (e new : End S) (now after : Option Wire) (before out bytes : List ℕ)
      (x : SendFault) → GoesOn d e new before out → bytes ≡ drop (length before) out → Sends now after bytes (Err x)
      → Going d start w count e now → OnlyPart w after
  going-part None count e new now after before out bytes x goes is sent going = tt
  going-part (Some w) count e new now after before out bytes x goes is sent (n, told, g) =
      let there : Sends (Some n) after bytes (Err x) = subst (λ o. Sends o after bytes (Err x)) told sent in
      let run = subst (λ s. HasRun d start n.received (n.sent ++ s) new) (sym is) (goes start n.received n.sent g.run) in
      part-of n bytes after (has-prefix n.received (n.sent ++ bytes) new run) there

  going-still : (w : Option Wire) (count : ℕ) (e : End S) (now : Option Wire) → Going d start w count e now → OnlyPart w now
  going-still None count e now going = tt
  going-still (Some w) count e now (n, told, g) =
      subst (λ o. IfSome o (λ n. IsPrefix n.sent (out_device d start n.received))) (sym told)
      (has-prefix n.received n.sent e g.run)

  -- an end that can't move has sent all
  served-by : (said : List ℕ → List ℕ) (count : ℕ) (e : End S) (n : Wire) (g : IsGoing d start said count e n)
      → IsWholeRun d start n.received g.run.leaf n.sent → IsServed d start said e.clear g.run.leaf n
  served-by said count e n g whole = record {
    same = g.same;
    whole = whole;
    parts = parts-of e g.run.leaf g.run.core;
    in_time = g.in_time;
  }

  drop-all : (xs ys : List ℕ) → ys ≡ xs → drop (length xs) ys ≡ []
  drop-all xs ys is = ap (drop (length xs)) is ∙ drop-own xs
    where
      drop-own : (xs : List ℕ) → drop (length xs) xs ≡ []
      drop-own [] = refl
      drop-own (x ∷ xs) = drop-own xs

  -- a turn that refuses what stands at the front
  refused : (w : Wire) (count : ℕ) (e new : End S) (now : Option Wire) (before out : List ℕ) (f : Fault)
      → GoesOn d e new before out → out ≡ before → new.kept ≡ Some f
      → ((l : Taking S) (x : List ℕ) → l.core.fault ≡ kept_cause (Some f) → IsPlaced x (Some f) → EndsSo l x (Err f))
      → Tells now (IsGoing d start w.said count e) → Tells now (RefusesThere d start w.said new.clear (Err f))
  refused w count e new now before out f goes quiet kept ends (n, told, g) =
      let ran = goes start n.received n.sent g.run in
      let run = subst (λ s. HasRun d start n.received s new)
      (ap (λ b. n.sent ++ b) (drop-all before out quiet) ∙ append-nil n.sent) ran in
      let going : IsGoing d start w.said count new n =
      record { same = g.same; read = g.read; run = run; in_time = g.in_time } in (
        n,
        told,
        record {
          leaf = run.leaf;
          served = served-by w.said count new n going (kept-whole d start n.received n.sent new f kept run);
          ends = ends run.leaf n.received (sym (ap (λ c. c.fault) run.core) ∙ ap kept_cause kept)
              (subst (λ (k : Option Fault). IsPlaced n.received k) kept run.placed);
        },
      )

  -- a turn that answers a fault
  pub turn-fault : (w : Option Wire) (count : ℕ) (e new : End S) (now : Option Wire) (before out : List ℕ) (f : Fault)
      → e.kept ≡ None → Turns d e new before out (Err f) → Going d start w count e now → FaultLeaves d start w new.clear f now
  turn-fault w count e new now before out fault.NoMemory clear call going =
      part-memory w new.clear now (going-still w count e now going)
  turn-fault None count e new now before out (fault.Malformed f) clear call going = tt
  turn-fault (Some w) count e new now before out (fault.Malformed f) clear call going =
      refused w count e new now before out (fault.Malformed f) (call-runs d e new before out (Err (fault.Malformed f)) call)
      call.quiet call.keeps (λ l x core placed. (core, placed)) going
  turn-fault None count e new now before out (fault.Session f) clear call going = tt
  turn-fault (Some w) count e new now before out (fault.Session f) clear call going =
      refused w count e new now before out (fault.Session f) (call-runs d e new before out (Err (fault.Session f)) call)
      call.quiet call.keeps (λ l x core placed. core) going
  turn-fault w count e new now before out (fault.Truncated a b) clear call going = absurd (call.front clear)
  turn-fault w count e new now before out (fault.Ended n) clear call going = absurd (call.front clear)
  turn-fault w count e new now before out (fault.TooMuch n) clear call going = absurd (call.front clear)
  turn-fault w count e new now before out (fault.Link n) clear call going = absurd (call.front clear)
  turn-fault w count e new now before out (fault.LateWant a b) clear call going = absurd (call.front clear)
  turn-fault w count e new now before out (fault.Astray n) clear call going = absurd (call.front clear)

  -- a fresh end on a fresh link
  pub going-fresh : (w : Option Wire) (e : End S) → HasRun d start [] [] e → IfSome w IsFresh → Going d start w 0 e w
  going-fresh None e run f = tt
  going-fresh (Some w) e run f = (
    w,
    refl,
    record {
      same = refl;
      read = ap length f.received;
      run = subst (λ r. HasRun d start r w.sent e) (sym f.received) (subst (λ s. HasRun d start [] s e) (sym f.sent) run);
      in_time = (zero, subst (λ r. IsPrefix r (talk w.said (out_device d start) zero)) (sym f.received) (IsPrefix-front [] (w.said [])));
    },
  )

  -- too much was received
  pub much-leaves : (w : Option Wire) (count : ℕ) (e : End S) (now : Option Wire) → IsWaiting d e → 1099511627776 ≤ count
      → Going d start w count e now → FaultLeaves d start w e.clear (fault.TooMuch count) now
  much-leaves None count e now waits much going = tt
  much-leaves (Some w) count e now waits much (n, told, g) = (
    n,
    told,
    record {
      leaf = g.run.leaf;
      served = served-by w.said count e n g (waits-whole d start n.received n.sent e g.run waits);
      clear = sym (ap (λ c. c.fault) g.run.core) ∙ ap kept_cause (waits-clear d e waits);
      count = g.read;
      much = much;
    },
  )

  -- Bytes were read.

  fed-run : (x sent piece : List ℕ) (e new : End S) → e.kept ≡ None → new ≡ record e { held = e.held ++ piece }
      → HasRun d start x sent e → HasRun d start (x ++ piece) sent new
  fed-run x sent piece e new clear is run =
      feeds-run d piece e new (subst (λ (k : Option Fault). FedAt k piece e new) (sym clear) is) start x sent run

  pub going-read : (w : Option Wire) (count more : ℕ) (e new : End S) (now after : Option Wire) (piece : List ℕ) → IsWaiting d e
      → new ≡ record e { held = e.held ++ piece } → more ≡ length piece → IfSome after IsWire → Came now after piece
      → Going d start w count e now → Going d start w (count + more) new after
  going-read None count more e new now after piece waits is long wire came going = tt
  going-read (Some w) count more e new now after piece waits is long wire came (n, told, g) =
      let there : Came (Some n) after piece = subst (λ o. Came o after piece) told came in
      let m : Wire = record n { received = n.received ++ piece } in
      let law : IsWire m = subst (λ o. IfSome o IsWire) there wire in
      let whole = waits-whole d start n.received n.sent e g.run waits in
      let all = whole-sends d start n.received g.run.leaf n.sent whole in
      let grows : Grows w.said = subst Grows g.same law.grows in
      let within : IsPrefix m.received (w.said (out_device d start n.received)) =
      subst (λ s. IsPrefix m.received (w.said s)) all (subst (λ f. IsPrefix m.received (f n.sent)) g.same law.within) in (
        m,
        there,
        record {
          same = g.same;
          read = omega (arith, g.read, long, length-append n.received piece);
          run = fed-run n.received n.sent piece e new (waits-clear d e waits) is g.run;
          in_time = (suc g.in_time.0, within-talk w.said (out_device d start) n.received m.received g.in_time.0 grows (out-grows d start) g.in_time.1 within);
        },
      )

  -- nothing was read
  pub going-partly : (w : Option Wire) (count : ℕ) (e : End S) (now after : Option Wire) → CamePartly now after []
      → Going d start w count e now → OnlyPart w after
  going-partly None count e now after came going = tt
  going-partly (Some w) count e now after came (n, told, g) =
      by after (subst (λ o. CamePartly o after []) told came)
    where
      by : (after : Option Wire) → CamePartly (Some n) after [] → IfSome after (λ m. IsPrefix m.sent (out_device d start m.received))
      by None came = tt
      by (Some m) came =
          subst (λ v. IsPrefix v.sent (out_device d start v.received))
          (ap (λ r. record n { received = r }) (sym (append-nil n.received)) ∙ sym came)
          (has-prefix n.received n.sent e g.run)

  -- nothing is left to read
  pub going-end : (w : Option Wire) (count : ℕ) (e : End S) (now after : Option Wire) → CameAll now after []
      → Going d start w count e now → AtEnd d start w count e after
  going-end None count e now after came going = tt
  going-end (Some w) count e now after came (n, told, g) =
      let there : CameAll (Some n) after [] = subst (λ o. CameAll o after []) told came in
      let same = append-nil n.received in (
        n,
        there.0 ∙ ap (λ r. Some (record n { received = r })) same,
        record { going = g; all = sym same ∙ there.1 ∙ ap (λ f. f n.sent) g.same },
      )

  -- all was received: the answer is how the input ends

  ends-so : (count : ℕ) (x : List ℕ) (e : End S) (sent : List ℕ) (r : Result Unit Fault) (run : HasRun d start x sent e)
      → e.kept ≡ None → length x ≡ count → count < 1099511627776 → FinishesSo e count r → EndsSo run.leaf x r
  ends-so count x e sent (Ok u) run clear read few is = (
    sym (ap (λ c. c.fault) run.core) ∙ ap kept_cause clear,
    sym (run.held clear) ∙ is.0,
    ap is_clean (sym run.core) ∙ is.1,
  )
  ends-so count x e sent (Err (fault.Ended taken)) run clear read few is = (
    sym (ap (λ c. c.fault) run.core) ∙ ap kept_cause clear,
    sym (run.held clear) ∙ is.0,
    ap is_clean (sym run.core) ∙ is.1,
    is.2 ∙ sym read,
  )
  ends-so count x e sent (Err (fault.Truncated at held)) run clear read few is =
      let within = run-within d start x run.turns run.leaf sent run.run in
      let small : counted run.leaf.taken ≡ run.leaf.taken = omega (arith, within, read, few) in (
        sym (ap (λ c. c.fault) run.core) ∙ ap kept_cause clear,
        is.0 ∙ run.taken clear ∙ small,
        is.1 ∙ ap length (run.held clear),
        is.2,
      )
  ends-so count x e sent (Err (fault.Malformed f)) run clear read few is = absurd is
  ends-so count x e sent (Err (fault.Session f)) run clear read few is = absurd is
  ends-so count x e sent (Err (fault.TooMuch n)) run clear read few is = absurd is
  ends-so count x e sent (Err (fault.Link n)) run clear read few is = absurd is
  ends-so count x e sent (Err (fault.LateWant a b)) run clear read few is = absurd is
  ends-so count x e sent (Err (fault.Astray n)) run clear read few is = absurd is
  ends-so count x e sent (Err fault.NoMemory) run clear read few is = absurd is

  ends-there : (said : List ℕ → List ℕ) (count : ℕ) (e : End S) (r : Result Unit Fault) (now : Option Wire) → IsWaiting d e
      → count < 1099511627776 → FinishesSo e count r → Tells now (IsAtEnd d start said count e)
      → Tells now (EndsThere d start said e.clear r)
  ends-there said count e r now waits few is (n, told, at) =
      let g = at.going in (
        n,
        told,
        record {
          leaf = g.run.leaf;
          served = served-by said count e n g (waits-whole d start n.received n.sent e g.run waits);
          all = at.all;
          below = let read = g.read in omega (arith, read, few);
          ends = ends-so count n.received e n.sent r g.run (waits-clear d e waits) g.read few is;
        },
      )

  pub end-leaves : (w : Option Wire) (count : ℕ) (e : End S) (now : Option Wire) (r : Result Unit Fault) → IsWaiting d e
      → count < 1099511627776 → FinishesSo e count r → AtEnd d start w count e now → Serves d start w now e.clear r
  end-leaves None count e now r waits few is end = tt
  end-leaves (Some w) count e now (Ok u) waits few is end = ends-there w.said count e (Ok u) now waits few is end
  end-leaves (Some w) count e now (Err (fault.Ended n)) waits few is end = ends-there w.said count e (Err (fault.Ended n)) now waits few is end
  end-leaves (Some w) count e now (Err (fault.Truncated a b)) waits few is end =
      ends-there w.said count e (Err (fault.Truncated a b)) now waits few is end
  end-leaves (Some w) count e now (Err (fault.Malformed f)) waits few is end = absurd is
  end-leaves (Some w) count e now (Err (fault.Session f)) waits few is end = absurd is
  end-leaves (Some w) count e now (Err (fault.TooMuch n)) waits few is end = absurd is
  end-leaves (Some w) count e now (Err (fault.Link n)) waits few is end = absurd is
  end-leaves (Some w) count e now (Err (fault.LateWant a b)) waits few is end = absurd is
  end-leaves (Some w) count e now (Err (fault.Astray n)) waits few is end = absurd is
  end-leaves (Some w) count e now (Err fault.NoMemory) waits few is end = absurd is

  -- a fault of a link that told at first
  pub fault-serves : (w : Option Wire) (e : DeviceEnd S Cause) (f : Fault) (now : Option Wire) → FaultLeaves d start w e f now
      → Serves d start w now e (Err f)
  fault-serves None e f now left = tt
  fault-serves (Some w) e f now left = left
