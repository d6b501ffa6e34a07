-- Lists of links of which the one of a port was called.
use Rattle.std.proofs.Common.{◌≡◌, ℕ, zero, suc, ◌<◌, Bool, true, false, List, [], ◌∷◌, ◌++◌, length, get_or, map}
use Rattle.std.proofs.Common.{set, refl, sym, ap, ◌∙◌, subst, Result, Ok, Err}
use Rattle.std.specs.Prelude.{Option, Some, None, IfSome, if◌then◌else◌, nat_eq, slice_get}
use Rattle.std.proofs.lemmas.List.{get_or-set_other, get_or-set_same, length-map, length-set, map-set}
use Rattle.std.proofs.lemmas.Option.{get_or_from_slice_get, none-some, same_Some, slice_get-get_or}
use Rattle.byte_streams.specs.Prefixes.{IsPrefix}
use Rattle.byte_streams.proofs.Prefixes.{IsPrefix-behind}
use Rattle.process_network.proofs.PacketRuns.{mapped_get, mapped_kept}
use Rattle.cos_base.specs.Counts.{Rises}
use Rattle.cos_base.specs.Links.{Wire}
use Rattle.rp_framing.specs.Receiving.{ReceiveCounts}
use Rattle.rp_framing.specs.Sending.{Sends}
use Rattle.rp_framing.specs.declared.receiver.Pulled.{Pulled}
use Rattle.rp_framing.specs.declared.receiver.ReceiveFault.{ReceiveFault}
use Rattle.rp_framing.specs.declared.receiver.ReceiveFault.TheVariants as receive
use Rattle.rp_framing.specs.declared.sender.SendFault.{SendFault}
use Rattle.machine_turns.specs.Runs.{only_at}
use Rattle.end_machine.specs.Wires.{AllTell, received_of, received_on, sent_of, sent_on}
use Rattle.end_machine.specs.Driving.{CountsIf}
use Rattle.end_machine.specs.Going.{AreSent, SendsOn, with_sent}
use Rattle.end_machine.proofs.WireLaws.{all-set, equal, itself, tell-at, tell-set, tell-size, unequal}

-- Counts of faults.

module _ {X : Type 0} (count : X → ℕ) (ls : List X) (p : ℕ) (d l : X) (within : p < length ls) where
  there : slice_get ls p ≡ Some (get_or ls p d)
  there = slice_get-get_or ls p d within

  pub counts-same : count l ≡ count (get_or ls p d)
      → (length (map count (set ls p l)) ≡ length (map count ls))
      × ((q : ℕ) → q < length (map count ls) → get_or (map count (set ls p l)) q 0 ≡ get_or (map count ls) q 0)
  counts-same same =
      let all = mapped_kept count ls p (get_or ls p d) l there same in
      (ap length all, λ q here. ap (λ xs. get_or xs q 0) all)

  -- the port's count rose, and is told
  pub counts-rise : (told : ℕ) → Rises (count (get_or ls p d)) (count l) × (told ≡ count l)
      → (length (map count (set ls p l)) ≡ length (map count ls))
      × ((q : ℕ) → q < length (map count ls)
      → CountsIf (nat_eq p q) told (get_or (map count ls) q 0) (get_or (map count (set ls p l)) q 0))
  counts-rise told rises = (
    ap length (map-set count ls p l) ∙ length-set (map count ls) p (count l),
    λ q here. by q (nat_eq p q) refl,
  )
    where
      by : (q : ℕ) (b : Bool) → nat_eq p q ≡ b
          → CountsIf b told (get_or (map count ls) q 0) (get_or (map count (set ls p l)) q 0)
      by q true is =
          let same : q ≡ p = sym (equal q p is) in
          let was : get_or (map count ls) q 0 ≡ count (get_or ls p d) =
          ap (λ i. get_or (map count ls) i 0) same
          ∙ get_or_from_slice_get (map count ls) p (count (get_or ls p d)) 0 (mapped_get count ls p (get_or ls p d)
          there) in
          let now : get_or (map count (set ls p l)) q 0 ≡ count l =
          ap (λ i. get_or (map count (set ls p l)) i 0) same ∙ ap (λ xs. get_or xs p 0) (map-set count ls p l)
          ∙ get_or-set_same (map count ls) p (count l) 0 (subst (λ n. p < n) (sym (length-map ls count)) within) in
          subst (λ n. Rises (get_or (map count ls) q 0) n × (told ≡ n)) (sym now)
          (subst (λ n. Rises n (count l) × (told ≡ count l)) (sym was) rises)
      by q false is =
          ap (λ xs. get_or xs q 0) (map-set count ls p l)
          ∙ get_or-set_other (map count ls) p q (count l) 0 (λ same. unequal q p is (sym same))

-- what a read that failed did to the count

pub read-rise : (before now n : ℕ) (x : ReceiveFault) → x ≡ receive.Link n
    → ReceiveCounts {A = Pulled} before now (Err x)
    → Rises before now × (n ≡ now)
read-rise before now n x is counts = subst (λ (x : ReceiveFault). ReceiveCounts {A = Pulled} before now (Err x)) is
    counts

pub read-same : (before now : ℕ) (x : ReceiveFault) → x ≡ receive.NoMemory
    → ReceiveCounts {A = Pulled} before now (Err x) → now ≡ before
read-same before now x is counts = subst (λ (x : ReceiveFault). ReceiveCounts {A = Pulled} before now (Err x)) is counts

-- What links tell.

module _ {X : Type 0} (told : X → Option Wire) (ls : List X) (p : ℕ) (d l : X) (within : p < length ls) where
  pub told-there : slice_get (map told ls) p ≡ Some (told (get_or ls p d))
  told-there = mapped_get told ls p (get_or ls p d) (slice_get-get_or ls p d within)

  pub told-set : map told (set ls p l) ≡ set (map told ls) p (told l)
  told-set = map-set told ls p l

  pub sends-all : (bytes : List ℕ) → Sends (told (get_or ls p d)) (told l) bytes (Ok tt)
      → SendsOn (map told ls) (map told (set ls p l)) p bytes (Ok tt)
  sends-all bytes sends ws tell =
      let at = tell-at (map told ls) ws p (told (get_or ls p d)) tell told-there in
      let is : told l ≡ Some (record at.0 { sent = at.0.sent ++ bytes }) = subst (λ o. Sends o (told l) bytes (Ok
      tt)) at.1 sends in
      subst (λ o. AllTell (map told (set ls p l)) (with_sent ws p bytes o)) (sym at.2)
      (told-set ∙ ap (set (map told ls) p) is ∙ tell-set (map told ls) ws p (record at.0 {
        sent = at.0.sent ++ bytes;
      }) tell)

  sent-part : (bytes : List ℕ) (x : SendFault) (ws : List Wire) (w : Wire) (o : Option Wire) → slice_get ws p ≡ Some w
      → Sends (Some w) o bytes (Err x) → (n : Wire) → o ≡ Some n
      → (n.received ≡ received_on ws p) × IsPrefix n.sent (sent_on ws p ++ only_at p bytes p)
  sent-part bytes x ws w None there sends n is = absurd (none-some n is)
  sent-part bytes x ws w (Some v) there sends n is =
      let part = sends.0 in
      let same : record w { sent = w.sent ++ part } ≡ n = sym sends.2 ∙ same_Some v n is in
      let here : only_at p bytes p ≡ bytes = ap (λ b. if b then bytes else []) (itself p) in (
        ap (λ (w : Wire). w.received) (sym same) ∙ sym (ap received_of there),
        subst (λ s. IsPrefix s (sent_on ws p ++ only_at p bytes p)) (ap (λ (w : Wire). w.sent) same)
            (subst (λ a. IsPrefix (w.sent ++ part) (a ++ only_at p bytes p)) (sym (ap sent_of there))
            (subst (λ b. IsPrefix (w.sent ++ part) (w.sent ++ b)) (sym here) (IsPrefix-behind w.sent part bytes sends.1))),
      )

  unsent : (bytes : List ℕ) (ws : List Wire) → AllTell (map told ls) ws → (q : ℕ) (n : Wire)
      → slice_get (map told ls) q ≡ Some (Some n)
      → (n.received ≡ received_on ws q) × IsPrefix n.sent (sent_on ws q ++ only_at p bytes q)
  unsent bytes ws tell q n is =
      let at = tell-at (map told ls) ws q (Some n) tell is in
      let here : slice_get ws q ≡ Some n = at.2 ∙ sym at.1 in (
        sym (ap received_of here),
        subst (λ s. IsPrefix n.sent (s ++ only_at p bytes q)) (sym (ap sent_of here)) (only_at p bytes q, refl),
      )

  pub sends-part : (bytes : List ℕ) (x : SendFault) → Sends (told (get_or ls p d)) (told l) bytes (Err x)
      → (ws : List Wire) → AllTell (map told ls) ws → AreSent ws p bytes (map told (set ls p l))
  sends-part bytes x sends ws tell =
      let at = tell-at (map told ls) ws p (told (get_or ls p d)) tell told-there in
      let sent = subst (λ o. Sends o (told l) bytes (Err x)) at.1 sends in
      record {
        size = ap length told-set ∙ length-set (map told ls) p (told l) ∙ tell-size (map told ls) ws tell;
        links = λ q n is. all-set
            (λ q o. (n : Wire) → o ≡ Some (Some n)
            → (n.received ≡ received_on ws q) × IsPrefix n.sent (sent_on ws q ++ only_at p bytes q))
            (map told ls) p (told l) (told (get_or ls p d)) told-there
            (λ n is. sent-part bytes x ws at.0 (told l) at.2 sent n (same_Some (told l) (Some n) is))
            (λ q n is. unsent bytes ws tell q n is) q n (ap (λ xs. slice_get xs q) (sym told-set) ∙ is);
      }
