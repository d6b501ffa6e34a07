-- How one read after another comes to what receiving says.
use Rattle.std.proofs.Common.{◌≡◌, inl, inr, ℕ, ◌<◌, ◌≤◌, List, [], ◌++◌, length, take, refl, sym, ap, ◌∙◌, arith, subst}
use Rattle.std.specs.Prelude.{Option, Some, None, Ok, Err, IfSome}
use Rattle.std.proofs.lemmas.List.{append_assoc, append-nil, length-append}
use Rattle.cos_base.specs.Links.{Wire, GotTold}
use Rattle.cos_base.specs.declared.links.Got.TheVariants as got
use Rattle.rp_packet.specs.declared.fault.PacketFault.{PacketFault}
use Rattle.rp_packet.specs.Refusals.{first}
use Rattle.rp_framing.specs.declared.fault.Truncated.{Truncated}
use Rattle.rp_framing.specs.declared.receiver.ReceiveFault.{ReceiveFault}
use Rattle.rp_framing.specs.declared.receiver.ReceiveFault.TheVariants as receive
use Rattle.rp_framing.specs.declared.receiver.Pulled.TheVariants as pulled
use Rattle.rp_framing.specs.Framing.{Frames, Feeds, FedAt, Nexts, NextAt}
use Rattle.rp_framing.specs.Receiving.{Came, CamePartly, CameAll, Receives, Goes, Pulls}

-- what one read gave
pub came-read : (was now : Option Wire) (into piece : List ℕ) (count : ℕ) → piece ≡ take count into → GotTold was now (got.Bytes count) into → Came was now piece
came-read None now into piece count is read = tt
came-read (Some w) now into piece count is read = read ∙ ap (λ x. Some (record w { received = w.received ++ x })) (sym is)

pub came-none : (w : Option Wire) → Came w w []
came-none None = tt
came-none (Some w) = ap (λ x. Some (record w { received = x })) (sym (append-nil w.received))

came-nothing : (w v : Wire) → v ≡ w → v ≡ record w { received = w.received ++ [] }
came-nothing w v is = is ∙ ap (λ x. record w { received = x }) (sym (append-nil w.received))

partly-nothing : (w : Wire) (now : Option Wire) → IfSome now (λ v. v ≡ w) → IfSome now (λ n. n ≡ record w { received = w.received ++ [] })
partly-nothing w None is = tt
partly-nothing w (Some v) is = came-nothing w v is

pub partly-none : (w : Option Wire) → CamePartly w w []
partly-none None = tt
partly-none (Some w) = came-nothing w w refl

pub came-failed : (was now : Option Wire) (into : List ℕ) → GotTold was now got.Failed into → CamePartly was now []
came-failed None now into read = tt
came-failed (Some w) now into read = partly-nothing w now read

pub came-memory : (was now : Option Wire) (into : List ℕ) → GotTold was now got.NoMemory into → CamePartly was now []
came-memory None now into read = tt
came-memory (Some w) now into read = partly-nothing w now read

pub came-end : (was now : Option Wire) (into : List ℕ) → GotTold was now got.End into → CameAll was now []
came-end None now into read = tt
came-end (Some w) now into (same, all) =
    (same ∙ ap (λ x. Some (record w { received = x })) (sym (append-nil w.received)), append-nil w.received ∙ all)

-- one read behind others
came-more : (was mid now : Option Wire) (a b : List ℕ) → Came was mid a → Came mid now b → Came was now (a ++ b)
came-more None mid now a b one two = tt
came-more (Some w) mid now a b one two =
    let there : Came (Some (record w { received = w.received ++ a })) now b = subst (λ (m : Option Wire). Came m now b) one two in
    there ∙ ap (λ x. Some (record w { received = x })) (append_assoc w.received a b)

partly-more : (was mid now : Option Wire) (a : List ℕ) → Came was mid a → CamePartly mid now [] → CamePartly was now a
partly-more None mid now a one two = tt
partly-more (Some w) mid now a one two =
    let there : CamePartly (Some (record w { received = w.received ++ a })) now [] = subst (λ (m : Option Wire). CamePartly m now []) one two in
    subst (λ (x : List ℕ). IfSome now (λ n. n ≡ record w { received = x })) (append-nil (w.received ++ a)) there

all-more : (was mid now : Option Wire) (a : List ℕ) → Came was mid a → CameAll mid now [] → CameAll was now a
all-more None mid now a one two = tt
all-more (Some w) mid now a one two =
    let there : CameAll (Some (record w { received = w.received ++ a })) now [] = subst (λ (m : Option Wire). CameAll m now []) one two in
    (there.0 ∙ ap (λ x. Some (record w { received = x })) (append-nil (w.received ++ a)), sym (append-nil (w.received ++ a)) ∙ there.1)

-- what a framer is fed, piece by piece
fed-none : (k : Option PacketFault) (f : Frames) → f.kept ≡ k → FedAt k [] f f
fed-none None f kept = (sym (append-nil f.held), refl, kept, omega arith)
fed-none (Some fault) f kept = refl

pub feeds-none : (f : Frames) → Feeds [] f f
feeds-none f = fed-none f.kept f refl

fed-more : (k : Option PacketFault) (a b : List ℕ) (old mid new : Frames) → old.kept ≡ k → FedAt k a old mid → Feeds b mid new → FedAt k (a ++ b) old new
fed-more None a b old mid new kept (held, taken, none, room) then =
    let two = subst (λ (k : Option PacketFault). FedAt k b mid new) none then in
    (two.0 ∙ ap (λ x. x ++ b) held ∙ append_assoc old.held a b, two.1 ∙ taken, two.2, omega (arith, room, two.3))
fed-more (Some fault) a b old mid new kept same then =
    let two = subst (λ (k : Option PacketFault). FedAt k b mid new) (ap (λ f. f.kept) same ∙ kept) then in
    two ∙ same

pub feeds-more : (a b : List ℕ) (old mid new : Frames) → Feeds a old mid → Feeds b mid new → Feeds (a ++ b) old new
feeds-more a b old mid new one two = fed-more old.kept a b old mid new refl one two

-- a framer with more room
pub feeds-room : (old new : Frames) → old.kept ≡ None → new.held ≡ old.held → new.taken ≡ old.taken → new.kept ≡ old.kept → old.room ≤ new.room → Feeds [] old new
feeds-room old new none held taken kept room =
    subst (λ (k : Option PacketFault). FedAt k [] old new) (sym none)
    (held ∙ sym (append-nil old.held), taken, kept ∙ none, omega (arith, ap length held, room))

-- a framer that has no whole packet
pub record Waits (f : Frames) : Type 0 where
  pub kept : f.kept ≡ None
  pub front : first f.held ≡ None

none-at : (k : Option PacketFault) (old new : Frames) → old.kept ≡ k → NextAt k old new (Ok None) → Waits old × (new ≡ old)
none-at None old new kept (front, same) = (record { kept = kept; front = front }, same)
none-at (Some fault) old new kept (same, wrong) = absurd (cc wrong)

pub nexts-none : (old new : Frames) → Nexts old new (Ok None) → Waits old × (new ≡ old)
nexts-none old new is = none-at old.kept old new refl is

pub waits-nexts : (f : Frames) → Waits f → Nexts f f (Ok None)
waits-nexts f w = subst (λ (k : Option PacketFault). NextAt k f f (Ok None)) (sym w.kept) (w.front, refl)

fed-waits : (old new : Frames) → Waits old → Feeds [] old new → Waits new
fed-waits old new w is =
    let fed = subst (λ (k : Option PacketFault). FedAt k [] old new) w.kept is in
    record { kept = fed.2; front = ap first (fed.0 ∙ append-nil old.held) ∙ w.front }

-- the framer waited from the start on
waited-at : (k : Option PacketFault) (bytes : List ℕ) (old mid : Frames) → old.kept ≡ k → FedAt k bytes old mid → Waits mid → (old.kept ≡ None) × (mid.held ≡ old.held ++ bytes)
waited-at None bytes old mid kept fed w = (kept, fed.0)
waited-at (Some fault) bytes old mid kept same w = let wrong = sym kept ∙ sym (ap (λ f. f.kept) same) ∙ w.kept in absurd (cc wrong)

-- what receiving begins with
pub goes-start : (w : Option Wire) (f : Frames) → Goes w w f f
goes-start w f = record { bytes = []; came = came-none w; feeds = feeds-none f; wanted = inl refl }

-- one read more
pub goes-more : (was mid now : Option Wire) (old f waiting new : Frames) → Goes was mid old f → Nexts f waiting (Ok None) → Pulls mid now waiting new (Ok pulled.More) → Goes was now old new
goes-more was mid now old f waiting new g none (piece, some, few, came, feeds) =
    let (w, same) = nexts-none f waiting none in
    let (kept, held) = waited-at old.kept g.bytes old f refl g.feeds w in
    let fed : Feeds piece f new = subst (λ (x : Frames). Feeds piece x new) same feeds in
    record {
      bytes = g.bytes ++ piece;
      came = came-more was mid now g.bytes piece g.came came;
      feeds = feeds-more g.bytes piece old f new g.feeds fed;
      wanted = inr (g.bytes, piece, refl, few, kept, ap first (sym held) ∙ w.front);
    }

-- fewer bytes are missing after it
pub pulls-longer : (was now : Option Wire) (old new : Frames) → Waits old → Pulls was now old new (Ok pulled.More) → length old.held < length new.held
pulls-longer was now old new w (piece, some, few, came, feeds) =
    let fed = subst (λ (k : Option PacketFault). FedAt k piece old new) w.kept feeds in
    omega (arith, ap length fed.0, length-append old.held piece, some)

-- what is answered after a read that gave nothing
record Still (was now : Option Wire) (old : Frames) (bytes : List ℕ) (new : Frames) : Type 0 where
  feeds : Feeds bytes old new
  waits : Waits new

still : (was mid now : Option Wire) (old f waiting new : Frames) (g : Goes was mid old f) → Nexts f waiting (Ok None) → Feeds [] waiting new → Still was now old g.bytes new
still was mid now old f waiting new g none is =
    let (w, same) = nexts-none f waiting none in
    let fed : Feeds [] f new = subst (λ (x : Frames). Feeds [] x new) same is in
    record {
      feeds = subst (λ (x : List ℕ). Feeds x old new) (append-nil g.bytes) (feeds-more g.bytes [] old f new g.feeds fed);
      waits = fed-waits f new w fed;
    }

pub gives-link : (was mid now : Option Wire) (old f waiting new : Frames) (count : ℕ) → Goes was mid old f → Nexts f waiting (Ok None) → Pulls mid now waiting new (Err (receive.Link count)) → Receives was now old new (Err (receive.Link count))
gives-link was mid now old f waiting new count g none (came, fed) =
    let s = still was mid now old f waiting new g none fed in
    record { bytes = g.bytes; fed = new; reads = partly-more was mid now g.bytes g.came came; feeds = s.feeds; wanted = g.wanted; answers = waits-nexts new s.waits }

pub gives-no-room : (was mid now : Option Wire) (old f waiting new : Frames) → Goes was mid old f → Nexts f waiting (Ok None) → Pulls mid now waiting new (Err receive.NoMemory) → Receives was now old new (Err receive.NoMemory)
gives-no-room was mid now old f waiting new g none (came, fed) =
    let s = still was mid now old f waiting new g none fed in
    record { bytes = g.bytes; fed = new; reads = partly-more was mid now g.bytes g.came came; feeds = s.feeds; wanted = g.wanted; answers = (s.waits.kept, refl) }

-- any fault of a read
pub gives-failure : (was mid now : Option Wire) (old f waiting new : Frames) (fault : ReceiveFault) → Goes was mid old f → Nexts f waiting (Ok None) → Pulls mid now waiting new (Err fault) → Receives was now old new (Err fault)
gives-failure was mid now old f waiting new (receive.Link count) g none p = gives-link was mid now old f waiting new count g none p
gives-failure was mid now old f waiting new receive.NoMemory g none p = gives-no-room was mid now old f waiting new g none p
gives-failure was mid now old f waiting new (receive.Malformed fault) g none p = absurd p
gives-failure was mid now old f waiting new (receive.Truncated rest) g none p = absurd p
