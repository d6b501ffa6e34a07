-- A link in memory keeps what always holds of a wire.
use Rattle.std.specs.Prelude.{◌≡◌, ℕ, ◌-◌, List, ◌++◌, length, take, drop, min, IfSome, refl, unwrap_or}
use Rattle.std.proofs.Common.{ap, sym, ◌∙◌, subst}
use Rattle.std.specs.Option.{ForSome}
use Rattle.std.specs.declared.option.Option.{Option}
use Rattle.std.specs.declared.option.Option.TheVariants.{Some, None}
use Rattle.cos_base.specs.Links.{IsWire, Grows}
use Rattle.cos_memory.specs.Peers.{Spoken, said_of, hears}
use Rattle.cos_memory.specs.MemLinks.{IsFront, wire_of}
use Rattle.byte_streams.specs.Prefixes.{IsPrefix}
use Rattle.byte_streams.proofs.Prefixes.{IsPrefix-trans, IsPrefix-longer, IsPrefix-front_of, front-IsPrefix}

-- what it tells is a wire
pub wire_is : (o : Option Spoken) (received : List ℕ) → IfSome o (λ s. Grows s.says)
    → ForSome o (λ s. IsFront received (said_of s)) → IfSome (wire_of o received) IsWire
wire_is None received grows within = tt
wire_is (Some s) received grows within =
    record { within = front-IsPrefix received (said_of s) (within s refl); grows = grows }

-- what was received stays a prefix of what is said, whatever else the peer hears
pub within-hears : (o new : Option Spoken) (received bytes : List ℕ) → new ≡ hears bytes o
    → IfSome o (λ s. Grows s.says) → ForSome o (λ s. IsFront received (said_of s))
    → ForSome new (λ s. IsFront received (said_of s))
within-hears None new received bytes is grows within = λ s e. let bad = sym is ∙ e in cc
within-hears (Some t) new received bytes is grows within = λ s e.
    let two = ap (λ o. unwrap_or o s) (sym e ∙ is) in
    subst (λ x. IsFront received (said_of x)) (sym two)
    (IsPrefix-front_of received (t.says (t.heard ++ bytes))
    (IsPrefix-trans received (said_of t) (t.says (t.heard ++ bytes))
    (front-IsPrefix received (said_of t) (within t refl)) (grows t.heard bytes)))

-- and so when a piece of what is said was received
pub within-reads : (o : Option Spoken) (received mid now front into : List ℕ) (at n m : ℕ) → mid ≡ received → at
    ≡ length mid → front ≡ take n into → now ≡ mid ++ front
    → IfSome o (λ s. (n ≡ min m (length (said_of s) - at)) × (take n into ≡ take n (drop at (said_of s))))
    → ForSome o (λ s. IsFront received (said_of s)) → ForSome o (λ s. IsFront now (said_of s))
within-reads None received mid now front into at n m same place piece longer copied within = λ s e. cc
within-reads (Some t) received mid now front into at n m same place piece longer copied within = λ s e.
    let two = ap (λ o. unwrap_or o s) e in
    let at-end : at ≡ length received = place ∙ ap length same in
    let is : now ≡ received ++ take n (drop (length received) (said_of t)) =
    longer ∙ ap (λ l. l ++ front) same
    ∙ ap (λ l. received ++ l) (piece ∙ copied.1 ∙ ap (λ a. take n (drop a (said_of t))) at-end) in
    subst (λ x. IsFront now (said_of x)) two (IsPrefix-front_of now (said_of t)
    (subst (λ l. IsPrefix l (said_of t)) (sym is)
    (IsPrefix-longer received (said_of t) n (front-IsPrefix received (said_of t) (within t refl)))))
