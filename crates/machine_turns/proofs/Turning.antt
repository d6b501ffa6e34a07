-- What each kind of turn leaves is what the definitions say.
use Rattle.std.proofs.Common.{◌≡◌, ℕ, zero, suc, ◌+◌, ◌<◌, ◌≤◌, true, false, List, [], ◌∷◌, ◌++◌, length, drop, get_or, map, set, replicate, All, refl, sym, ap, ◌∙◌, subst, arith, Result, Ok, Err}
use Rattle.std.specs.Prelude.{Option, Some, None, is_some, option_map, slice_get, OnOk}
use Rattle.std.proofs.lemmas.List.{append-nil, length-set, map-set}
use Rattle.std.proofs.lemmas.Option.{slice_get-map, slice_get_within, get_or_from_slice_get, none-some, same_Some}
use Rattle.process_network.specs.PacketStar.{HubEnd, hub_after_take, hub_turn_by, fresh_hub}
use Rattle.cosim_model.specs.declared.session.EndFault.{EndFault}
use Rattle.cosim_model.specs.declared.session.EndFault.TheVariants as fault
use Rattle.cosim_model.specs.Parts.{MasterModel}
use Rattle.cosim_model.specs.Packets.{Packet, Decoded}
use Rattle.cosim_model.specs.Packets.Decoded.{Valid, Malformed}
use Rattle.ends_model.specs.declared.ends.Turn.{Turn}
use Rattle.ends_model.specs.declared.ends.Turn.TheVariants as turn
use Rattle.ends_model.specs.Answers.{answer_by, take_answer, unless_faulty}
use Rattle.ends_model.specs.MachineTurn.{Act, MachineEnd, machine_acts, machine_hears_at, machine_takes, outlook_of}
use Rattle.ends_model.specs.MachineTurn.Act.{Works, Sends, Awaits, Serves, Marks, Rests, Fails, Lost}
use Rattle.rp_packet.specs.declared.fault.Cause.{Cause}
use Rattle.rp_packet.specs.declared.fault.PacketFault.{PacketFault}
use Rattle.rp_packet.specs.Refusals.{first}
use Rattle.rp_packet.specs.Streams.{packet_codec}
use Rattle.rp_framing.specs.Framing.{Frames, Feeds, FedAt, after_skip, counted}
use Rattle.machine_core.specs.Machines.{Core, Becomes, Does, awaited}
use Rattle.machine_core.specs.declared.fault.HearFault.{HearFault}
use Rattle.machine_core.specs.declared.fault.HearFault.TheVariants as hear
use Rattle.machine_turns.specs.declared.fault.PortFault.{PortFault}
use Rattle.machine_turns.specs.Runs.{machine_alone}
use Rattle.machine_turns.specs.StepLaws.{clear-core, some-not, there-some, zeros}
use Rattle.machine_turns.specs.Ends.{End, Goes, Holds, IsOpen, IsTurn, Received, answer_of, core_of, fed_at, fresh, heard_fault, held_at, more, moves, port_cause, put, received, sent_by, taken_of}

-- an end by what it is made of
abbrev pub made : {M : Type 0} → MachineEnd M Cause → Option PortFault → List Frames → End M
made clear kept fs = record { clear = clear; kept = kept; ports = map received fs }

-- Counts of bytes stand at most at their last value.
abbrev pub Counted : List Received → Type 0
Counted rs = (p : ℕ) (r : Received) → slice_get rs p ≡ Some r → r.taken ≤ 18446744073709551615

mapped : {A B : Type 0} (f : A → B) (o : Option A) (y : B) → option_map f o ≡ Some y → (x : A) × (o ≡ Some x) × (y ≡ f x)
mapped f None y e = absurd (none-some y e)
mapped f (Some x) y e = (x, refl, sym (same_Some (f x) y e))

pub all-counted : (fs : List Frames) → All IsOpen fs → Counted (map received fs)
all-counted fs open_all p r e =
    let at = mapped received (slice_get fs p) r (sym (slice_get-map received fs p) ∙ e) in
    let within = slice_get_within fs p at.0 at.1 in
    let f_open = open_all p at.0 within in
    let most = subst IsOpen (get_or_from_slice_get fs p at.0 at.0 at.1) f_open in
    subst (λ x. x.taken ≤ 18446744073709551615) (sym at.2) most.1

taken-none : (r : Received) → r.taken ≤ 18446744073709551615 → r ≡ taken_of 0 r
taken-none r most =
    let same : r.taken ≡ counted (r.taken + 0) = omega (arith, most) in
    ap (λ n. record { taken = n; held = r.held }) same

holds-same : (rs : List Received) (n p : ℕ) → Counted rs
    → slice_get rs p ≡ option_map (taken_of (get_or (replicate n 0) p 0)) (slice_get rs p)
holds-same rs n p counts = by (slice_get rs p) (counts p) ∙ ap (λ k. option_map (taken_of k) (slice_get rs p)) (sym (zeros n p))
  where
    by : (o : Option Received) → ((r : Received) → o ≡ Some r → r.taken ≤ 18446744073709551615) → o ≡ option_map (taken_of 0) o
    by None count = refl
    by (Some r) count = ap (λ x. Some x) (taken-none r (count r refl))

holds-taken : (rs : List Received) (p q size : ℕ) (r : Received) → slice_get rs p ≡ Some r → Counted rs
    → slice_get (set rs p (taken_of size r)) q
    ≡ option_map (taken_of (get_or (set (replicate (length rs) 0) p size) q 0)) (slice_get rs q)
holds-taken [] p q size r e counts = absurd (none-some r e)
holds-taken (x ∷ rs) zero zero size r e counts = ap (λ y. Some (taken_of size y)) (sym (same_Some x r e))
holds-taken (x ∷ rs) zero (suc q) size r e counts = holds-same rs (length rs) q (λ p. counts (suc p))
holds-taken (x ∷ rs) (suc p) zero size r e counts = ap (λ y. Some y) (taken-none x (counts zero x refl))
holds-taken (x ∷ rs) (suc p) (suc q) size r e counts = holds-taken rs p q size r e (λ i. counts (suc i))

-- bytes that a port holds, by its framer
pub held-there : (fs : List Frames) (p : ℕ) (f : Frames) → slice_get fs p ≡ Some f → slice_get (map received fs) p ≡ Some (received f)
held-there fs p f e = slice_get-map received fs p ∙ ap (option_map received) e

awaited-is : {M : Type 0} (a : Act M Cause) (p : ℕ) → awaited a ≡ Some p → a ≡ Awaits p
awaited-is (Works next) p e = absurd (none-some p e)
awaited-is (Sends q x next) p e = absurd (none-some p e)
awaited-is (Awaits q) p e = ap (λ n. Awaits n) (same_Some q p e)
awaited-is (Serves q next) p e = absurd (none-some p e)
awaited-is (Marks next) p e = absurd (none-some p e)
awaited-is Rests p e = absurd (none-some p e)
awaited-is (Fails q f) p e = absurd (none-some p e)
awaited-is Lost p e = absurd (none-some p e)

-- Bytes of a port are received.

pub fed-framer : (bytes : List ℕ) (f g : Frames) → f.kept ≡ None → Feeds bytes f g → received g ≡ more bytes (received f)
fed-framer bytes f g kept feeds =
    let fed : FedAt None bytes f g = subst (λ k. FedAt k bytes f g) kept feeds in
    ap (λ h. record { taken = g.taken; held = h }) fed.0 ∙ ap (λ n. record { taken = n; held = f.held ++ bytes }) fed.1

pub fed-end : {M : Type 0} (clear : MachineEnd M Cause) (kept : Option PortFault) (fs : List Frames) (p : ℕ) (f g : Frames)
    (bytes : List ℕ) → kept ≡ None → slice_get fs p ≡ Some f → f.kept ≡ None → Feeds bytes f g
    → ◌≡◌ {A = End M} (record { clear = clear; kept = kept; ports = map received (set fs p g) })
    (fed_at kept p bytes (record { clear = clear; kept = kept; ports = map received fs }))
fed-end {M} clear kept fs p f g bytes none there f_kept feeds =
    subst (λ k. ◌≡◌ {A = End M} (record { clear = clear; kept = k; ports = map received (set fs p g) })
    (fed_at k p bytes (record { clear = clear; kept = k; ports = map received fs }))) (sym none)
    (ap (λ rs. record { clear = clear; kept = None; ports = rs }) (map-set received fs p g
    ∙ ap (set (map received fs) p) (fed-framer bytes f g f_kept feeds))
    ∙ ap (λ o. put (record { clear = clear; kept = None; ports = map received fs }) p (option_map (more bytes) o))
    (sym (held-there fs p f there)))

pub on-ok : {A E P Q : Type 0} (r : Result A E) → (P → Q) → OnOk r P → OnOk r Q
on-ok (Ok a) f is = f is
on-ok (Err e) f is = tt

pub none-of : {A : Type 0} (o : Option A) → is_some o ≡ false → o ≡ None
none-of None is = refl
none-of (Some a) is = absurd (cc (is))

pub open-skipped : (f g : Frames) (size : ℕ) → g ≡ after_skip size f → IsOpen g
open-skipped f g size is = subst IsOpen (sym is) (refl, omega arith)

module _ {M : Type 0} (k : MasterModel M) where
  pub acts-at : (e : End M) (a : Act M Cause) → e.kept ≡ None → e.clear.fault ≡ None → machine_acts k e.clear ≡ a
      → machine_acts k (core_of e) ≡ a
  acts-at e a kept clear is = ap (machine_acts k) (clear-core e kept clear) ∙ is

  abbrev turn-by : (e : End M) → Act M Cause → Option (HubEnd (MachineEnd M Cause) × Option (ℕ × List ℕ))
  turn-by e a =
      hub_turn_by (machine_alone k packet_codec) (fresh_hub (core_of e) (length e.ports)) (held_at e) (outlook_of a)

  -- a turn of an end that does this
  turn-of : (e new : End M) (before after : List ℕ) (a : Act M Cause) (answer : Result Turn (ℕ × EndFault Cause))
      (kept : Option PortFault) → machine_acts k (core_of e) ≡ a
      → answer_by k (core_of e) (λ p. option_map (λ r. r.0) (first (held_at e p))) a ≡ Some answer → new.kept ≡ kept
      → length new.ports ≡ length e.ports → Goes (turn-by e a) e new before after → IsTurn k e new before after answer kept
  turn-of e new before after a answer kept acts answers keeps size goes = record {
    answers = ap (answer_by k (core_of e) (λ p. option_map (λ r. r.0) (first (held_at e p)))) acts ∙ answers;
    keeps = keeps;
    size = size;
    goes = subst (λ x. Goes (turn-by e x) e new before after) (sym acts) goes;
  }

  holds-all : (e new : End M) (n : ℕ) → Counted e.ports → new.ports ≡ e.ports → Holds e new (replicate n 0)
  holds-all e new n counts ports none p = ap (λ rs. slice_get rs p) ports ∙ holds-same e.ports n p counts

  -- an end after a turn that took no packet, whose core is n
  pub record Follows (e new : End M) (n : Core M) : Type 0 where
    pub kept : e.kept ≡ None
    pub clear : e.clear.fault ≡ None
    pub counts : Counted e.ports
    pub new_kept : new.kept ≡ None
    pub core : new.clear ≡ n.end
    pub new_clear : n.end.fault ≡ None
    pub ports : new.ports ≡ e.ports

  follows-core : (e new : End M) (n : Core M) → Follows e new n → core_of new ≡ n.end
  follows-core e new n is =
      clear-core new is.new_kept (ap (λ (c : MachineEnd M Cause). c.fault) is.core ∙ is.new_clear) ∙ is.core

  moved : (e new : End M) (n : Core M) (before after : List ℕ) (a : Act M Cause) (next : MachineEnd M Cause)
      (sent : Option (ℕ × List ℕ)) (bytes : List ℕ) (t : Turn) → Follows e new n → machine_acts k (core_of e) ≡ a
      → turn-by e a ≡ Some (record { core = next; taken = replicate (length e.ports) 0 }, sent)
      → answer_by k (core_of e) (λ p. option_map (λ r. r.0) (first (held_at e p))) a ≡ Some (Ok t) → n.end ≡ next
      → after ≡ before ++ sent_by sent → IsTurn k e new before after (Ok t) None
  moved e new n before after a next sent bytes t is acts turns answers end out =
      turn-of e new before after a (Ok t) None acts answers is.new_kept (ap (λ rs. length rs) is.ports)
      (subst (λ (o : Option (HubEnd (MachineEnd M Cause) × Option (ℕ × List ℕ))). Goes o e new before after) (sym turns) (
        follows-core e new n is ∙ end,
        holds-all e new (length e.ports) is.counts is.ports,
        out,
      ))

  same-end : (e new : End M) (n o : Core M) → Follows e new n → n ≡ o → e.clear ≡ o.end → new ≡ e
  same-end e new n o is core old =
      ap (λ c. record { clear = c; kept = new.kept; ports = new.ports }) (is.core ∙ ap (λ (c : Core M). c.end) core ∙ sym old)
      ∙ ap (λ f. record { clear = e.clear; kept = f; ports = new.ports }) (is.new_kept ∙ sym is.kept)
      ∙ ap (λ rs. record { clear = e.clear; kept = e.kept; ports = rs }) is.ports

  told : (t u : Turn) → t ≡ u → ◌≡◌ {A = Option (Result Turn (ℕ × EndFault Cause))} (Some (Ok u)) (Some (Ok t))
  told t u is = ap (λ x. Some (Ok x)) (sym is)

  -- a turn that takes no packet
  pub acted : (e new : End M) (o n : Core M) (before after : List ℕ) (a : Act M Cause) (t : Turn) → Follows e new n
      → e.clear ≡ o.end → machine_acts k (core_of e) ≡ a → awaited a ≡ None → Does a o n before after t
      → IsTurn k e new before after (Ok t) None
  acted e new o n before after (Works next) t is old acts none does =
      moved e new n before after (Works next) next None [] t is acts refl (told t turn.Unit does.0) does.1
      (does.2 ∙ sym (append-nil before))
  acted e new o n before after (Sends p x next) t is old acts none does =
      moved e new n before after (Sends p x next) next _ [] t is acts refl (told t (turn.Sent p) does.0) does.1 does.2
  acted e new o n before after (Awaits p) t is old acts none does = absurd (none-some p (sym none))
  acted e new o n before after (Serves p next) t is old acts none does =
      moved e new n before after (Serves p next) next None [] t is acts refl (told t (turn.Served p) does.0) does.1
      (does.2 ∙ sym (append-nil before))
  acted e new o n before after (Marks next) t is old acts none does =
      moved e new n before after (Marks next) next None [] t is acts refl (told t turn.Marked does.0) does.1
      (does.2 ∙ sym (append-nil before))
  acted e new o n before after Rests t is old acts none does =
      turn-of e new before after Rests (Ok t) None acts (told t turn.Done does.0) is.new_kept
      (ap (λ rs. length rs) is.ports)
      (same-end e new n o is does.1 old, does.2)
  acted e new o n before after (Fails p f) t is old acts none does = absurd does
  acted e new o n before after Lost t is old acts none does = absurd does

  -- A turn that awaits a packet of a port, by what stands at the front of that port's bytes.

  abbrev taken-by : (e : End M) (p : ℕ) → Option (Decoded Cause × ℕ) → Option (HubEnd (MachineEnd M Cause) × Option (ℕ × List ℕ))
  taken-by e p m = hub_after_take (machine_alone k packet_codec) (fresh_hub (core_of e) (length e.ports)) p m

  taking-at : (e : End M) (p : ℕ) (m : Option (Decoded Cause × ℕ)) → first (held_at e p) ≡ m
      → turn-by e (Awaits p) ≡ taken-by e p m
  taking-at e p m front =
      ap (λ n. taken-by e p (first (drop n (held_at e p)))) (zeros (length e.ports) p) ∙ ap (taken-by e p) front

  waited : (e new : End M) (p : ℕ) (m : Option (Decoded Cause × ℕ)) (before after : List ℕ)
      (answer : Result Turn (ℕ × EndFault Cause)) (kept : Option PortFault) → e.kept ≡ None → e.clear.fault ≡ None
      → awaited (machine_acts k e.clear) ≡ Some p → first (held_at e p) ≡ m
      → take_answer k (core_of e) p (option_map (λ r. r.0) m) ≡ answer → new.kept ≡ kept
      → length new.ports ≡ length e.ports → Goes (taken-by e p m) e new before after
      → IsTurn k e new before after answer kept
  waited e new p m before after answer kept was clear awaits front answers keeps size goes =
      turn-of e new before after (Awaits p) answer kept
      (acts-at e (Awaits p) was clear (awaited-is (machine_acts k e.clear) p awaits))
      (ap (λ (x : Option (Decoded Cause × ℕ)). Some (take_answer k (core_of e) p (option_map (λ r. r.0) x))) front
      ∙ ap (λ x. Some x) answers) keeps size
      (subst (λ (o : Option (HubEnd (MachineEnd M Cause) × Option (ℕ × List ℕ))). Goes o e new before after)
      (sym (taking-at e p m front)) goes)

  pub unready : (e : End M) (p : ℕ) (bytes : List ℕ) → e.kept ≡ None → e.clear.fault ≡ None
      → awaited (machine_acts k e.clear) ≡ Some p → first (held_at e p) ≡ None
      → IsTurn k e e bytes bytes (Ok (turn.NotYet p)) None
  unready e p bytes kept clear awaits front =
      waited e e p None bytes bytes (Ok (turn.NotYet p)) None kept clear awaits front refl kept refl
      (refl, refl)

  takes-at : (e : End M) (p : ℕ) (m : Decoded Cause) → e.kept ≡ None → e.clear.fault ≡ None
      → machine_takes k e.clear p m ≡ machine_takes k (core_of e) p m
  takes-at e p m kept clear = ap (λ (c : MachineEnd M Cause). machine_takes k c p m) (sym (clear-core e kept clear))

  pub took : (e new : End M) (p size : ℕ) (m : Packet) (r : Received) (bytes : List ℕ) → e.kept ≡ None
      → e.clear.fault ≡ None → awaited (machine_acts k e.clear) ≡ Some p → first (held_at e p) ≡ Some (Valid m, size)
      → Counted e.ports → slice_get e.ports p ≡ Some r → new.ports ≡ set e.ports p (taken_of size r) → new.kept ≡ None
      → new.clear ≡ machine_takes k e.clear p (Valid m) → new.clear.fault ≡ None
      → IsTurn k e new bytes bytes (Ok (turn.Took p)) None
  took e new p size m r bytes kept clear awaits front counts there ports new_kept core new_clear =
      let takes = takes-at e p (Valid m) kept clear in
      let fault = ap (λ (c : MachineEnd M Cause). c.fault) (sym takes ∙ sym core) ∙ new_clear in
      let n = length e.ports in
      let none_taken = zeros n p in
      let size_is : size ≡ get_or (replicate n 0) p 0 + size = omega (arith, none_taken) in
      waited e new p (Some (Valid m, size)) bytes bytes (Ok (turn.Took p)) None kept clear awaits front
      (ap (unless_faulty (turn.Took p)) fault) new_kept
      (ap (λ rs. length rs) ports ∙ length-set e.ports p (taken_of size r)) (
        clear-core new new_kept new_clear ∙ core ∙ takes,
        λ none q. ap (λ rs. slice_get rs q) ports ∙ holds-taken e.ports p q size r there counts
            ∙ ap (λ s. option_map (taken_of (get_or (set (replicate n 0) p s) q 0)) (slice_get e.ports q)) size_is,
        sym (append-nil bytes),
      )

  -- a packet after which the end keeps this fault
  faulted : (e new : End M) (p size : ℕ) (m : Decoded Cause) (f : PortFault) (bytes : List ℕ) → e.kept ≡ None
      → e.clear.fault ≡ None → awaited (machine_acts k e.clear) ≡ Some p → first (held_at e p) ≡ Some (m, size)
      → new.kept ≡ Some f → length new.ports ≡ length e.ports
      → record new.clear { fault = Some (port_cause f) } ≡ machine_takes k e.clear p m
      → IsTurn k e new bytes bytes (Err (port_cause f)) (Some f)
  faulted e new p size m f bytes kept clear awaits front new_kept long core =
      let takes = takes-at e p m kept clear in
      let now = core ∙ takes in
      let fault = ap (λ (c : MachineEnd M Cause). c.fault) (sym now) in
      waited e new p (Some (m, size)) bytes bytes (Err (port_cause f)) (Some f) kept clear awaits front
      (ap (unless_faulty (turn.Took p)) fault) new_kept long (
        ap (λ (x : Option PortFault). record new.clear { fault = option_map port_cause x }) new_kept ∙ now,
        λ none. absurd (some-not new.kept f new_kept none),
        sym (append-nil bytes),
      )

  refused : (e new : End M) (p size : ℕ) (m : Packet) (f : HearFault) (bytes : List ℕ) → e.kept ≡ None
      → e.clear.fault ≡ None → awaited (machine_acts k e.clear) ≡ Some p → first (held_at e p) ≡ Some (Valid m, size)
      → new.kept ≡ Some (record { port = p; fault = heard_fault f }) → length new.ports ≡ length e.ports
      → Becomes (machine_takes k e.clear p (Valid m)) new.clear p (Err f)
      → IsTurn k e new bytes bytes (Err (port_cause (record { port = p; fault = heard_fault f })))
      (Some (record { port = p; fault = heard_fault f }))
  refused e new p size m (hear.Session f) bytes kept clear awaits front new_kept long core =
      faulted e new p size (Valid m) _ bytes kept clear awaits front new_kept long core
  refused e new p size m (hear.LateWant at got) bytes kept clear awaits front new_kept long core =
      faulted e new p size (Valid m) _ bytes kept clear awaits front new_kept long core

  -- the same, of a fault that was made of it
  pub refused-as : (e : End M) (clear : MachineEnd M Cause) (fs : List Frames) (p size : ℕ) (m : Packet) (f : HearFault)
      (x : EndFault PacketFault) (bytes : List ℕ) → e.kept ≡ None → e.clear.fault ≡ None
      → awaited (machine_acts k e.clear) ≡ Some p → first (held_at e p) ≡ Some (Valid m, size) → x ≡ heard_fault f
      → length (map received fs) ≡ length e.ports → Becomes (machine_takes k e.clear p (Valid m)) clear p (Err f)
      → IsTurn k e (made clear (Some (record { port = p; fault = x })) fs) bytes bytes
      (Err (port_cause (record { port = p; fault = x }))) (Some (record { port = p; fault = x }))
  refused-as e clear fs p size m f x bytes kept core_clear awaits front is long core =
      subst (λ (y : EndFault PacketFault). IsTurn k e (made clear (Some (record { port = p; fault = y })) fs) bytes bytes
      (Err (port_cause (record { port = p; fault = y }))) (Some (record { port = p; fault = y }))) (sym is)
      (refused e (made clear (Some (record { port = p; fault = heard_fault f })) fs) p size m f bytes kept core_clear awaits
      front refl long core)

  pub malformed : (e new : End M) (p size : ℕ) (f : PacketFault) (bytes : List ℕ) → e.kept ≡ None
      → e.clear.fault ≡ None → awaited (machine_acts k e.clear) ≡ Some p
      → first (held_at e p) ≡ Some (Malformed f.cause, size) → p < length e.clear.ports
      → new.kept ≡ Some (record { port = p; fault = fault.Malformed f }) → length new.ports ≡ length e.ports
      → new.clear ≡ e.clear
      → IsTurn k e new bytes bytes (Err (port_cause (record { port = p; fault = fault.Malformed f })))
      (Some (record { port = p; fault = fault.Malformed f }))
  malformed e new p size f bytes kept clear awaits front within new_kept long core =
      let there = there-some e.clear.ports p within in
      faulted e new p size (Malformed f.cause) _ bytes kept clear awaits front new_kept long
      (ap (λ (c : MachineEnd M Cause). record c { fault = Some (p, fault.Malformed f.cause) }) core
      ∙ ap (machine_hears_at k e.clear p (Malformed f.cause)) (sym there.1))

  -- an end that is the same
  pub of-same : (e same new : End M) (before after : List ℕ) (r : Result Turn (ℕ × EndFault Cause)) (kept : Option PortFault)
      → e ≡ same → IsTurn k e new before after r kept → IsTurn k same new before after r kept
  of-same e same new before after r kept is turn = subst (λ x. IsTurn k x new before after r kept) is turn

  -- whether it can move

  moves-unless : (p : ℕ) (f : Option (ℕ × EndFault Cause)) → moves (Some (unless_faulty (turn.Took p) f)) ≡ true
  moves-unless p None = refl
  moves-unless p (Some f) = refl

  moves-whole : (h : MachineEnd M Cause) (p : ℕ) (m : Option (Decoded Cause × ℕ))
      → moves (Some (take_answer k h p (option_map (λ r. r.0) m))) ≡ is_some m
  moves-whole h p None = refl
  moves-whole h p (Some m) = moves-unless p (machine_takes k h p m.0).fault

  pub moves-awaiting : (e : End M) (p : ℕ) → e.kept ≡ None → e.clear.fault ≡ None
      → awaited (machine_acts k e.clear) ≡ Some p → moves (answer_of k e) ≡ is_some (first (held_at e p))
  moves-awaiting e p kept clear awaits =
      ap (λ a. moves (answer_by k (core_of e) (λ p. option_map (λ r. r.0) (first (held_at e p))) a))
      (acts-at e (Awaits p) kept clear (awaited-is (machine_acts k e.clear) p awaits))
      ∙ moves-whole (core_of e) p (first (held_at e p))

-- a fresh end
map-same : (n : ℕ) (f : Frames) → map received (replicate n f) ≡ replicate n (received f)
map-same zero f = refl
map-same (suc n) f = ap (λ rs. received f ∷ rs) (map-same n f)

pub made-fresh : {M : Type 0} (clear start : MachineEnd M Cause) (fs : List Frames) (n : ℕ) → clear ≡ start
    → fs ≡ replicate n (record { held = []; taken = 0; room = 0; kept = None }) → made clear None fs ≡ fresh start n
made-fresh clear start fs n core frames =
    ap (λ c. made c None fs) core ∙ ap (made start None) frames
    ∙ ap (λ rs. record { clear = start; kept = None; ports = rs }) (map-same n (record { held = []; taken = 0; room = 0; kept = None }))
