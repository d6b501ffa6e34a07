-- What a link tells, and what its calls do to it.
use Rattle.std.specs.Prelude.{◌≡◌, ℕ, ◌<◌, ◌≤◌, List, [], ◌++◌, length, take, IfSome, Bool, false, ◌&&◌, nat_eq}
use Rattle.std.specs.declared.option.Option.{Option}
use Rattle.std.specs.declared.option.Option.TheVariants.{Some, None}
use Rattle.cos_base.specs.declared.links.Got.{Got}
use Rattle.cos_base.specs.declared.links.Got.TheVariants as got
use Rattle.cos_base.specs.declared.links.Put.{Put}
use Rattle.cos_base.specs.declared.links.Put.TheVariants as put
use Rattle.cos_base.specs.Counts.{Rises}
pub use Rattle.byte_streams.specs.Prefixes.{IsPrefix, Grows}

-- What a link tells: the bytes sent on it, those received, and all that it gives for any bytes sent.
pub record Wire : Type 0 where
  pub sent : List ℕ
  pub received : List ℕ
  pub said : List ℕ → List ℕ

-- What always holds of a wire: nothing is received that isn't said for the bytes sent, and what is said grows with
-- them.
pub record IsWire (w : Wire) : Type 0 where
  pub within : IsPrefix w.received (w.said w.sent)
  pub grows : Grows w.said

-- a wire on which nothing was sent or received yet
pub record IsFresh (w : Wire) : Type 0 where
  pub sent : w.sent ≡ []
  pub received : w.received ≡ []

-- whether it tells, and nothing was sent or received yet
abbrev pub is_fresh : Option Wire → Bool
is_fresh None = false
is_fresh (Some w) = nat_eq (length w.sent) 0 && nat_eq (length w.received) 0

-- the count of faults, by what a read answered
abbrev pub GotCounts : ℕ → ℕ → Got → Type 0
GotCounts before now got.Failed = Rises before now
GotCounts before now (got.Bytes count) = now ≡ before
GotCounts before now got.End = now ≡ before
GotCounts before now got.NoMemory = now ≡ before

-- how many bytes a read gave
abbrev pub GotBound : Got → List ℕ → Type 0
GotBound (got.Bytes count) into = (0 < count) × (count ≤ length into)
GotBound got.End into = Unit {0}
GotBound got.Failed into = Unit {0}
GotBound got.NoMemory into = Unit {0}

-- What a read did to what is told. An end of input is told only where all that is said was received.
abbrev pub GotTold : Option Wire → Option Wire → Got → List ℕ → Type 0
GotTold None new answer into = Unit {0}
GotTold (Some w) new (got.Bytes count) into = new ≡ Some (record w { received = w.received ++ take count into })
GotTold (Some w) new got.End into = (new ≡ Some w) × (w.received ≡ w.said w.sent)
GotTold (Some w) new got.Failed into = IfSome new (λ v. v ≡ w)
GotTold (Some w) new got.NoMemory into = IfSome new (λ v. v ≡ w)

-- a read of a sound link doesn't fail
abbrev pub GotSound : Got → Type 0
GotSound (got.Bytes count) = Unit {0}
GotSound got.End = Unit {0}
GotSound got.Failed = ⊥
GotSound got.NoMemory = Unit {0}

-- the count of faults, by what a write answered
abbrev pub PutCounts : ℕ → ℕ → Put → Type 0
PutCounts before now put.Failed = Rises before now
PutCounts before now (put.Bytes count) = now ≡ before
PutCounts before now put.NoMemory = now ≡ before

-- how many bytes a write took
abbrev pub PutBound : Put → List ℕ → Type 0
PutBound (put.Bytes count) from = (0 < count) × (count ≤ length from)
PutBound put.Failed from = Unit {0}
PutBound put.NoMemory from = Unit {0}

-- What a write did to what is told.
abbrev pub PutTold : Option Wire → Option Wire → Put → List ℕ → Type 0
PutTold None new answer from = Unit {0}
PutTold (Some w) new (put.Bytes count) from = new ≡ Some (record w { sent = w.sent ++ take count from })
PutTold (Some w) new put.Failed from = IfSome new (λ v. v ≡ w)
PutTold (Some w) new put.NoMemory from = IfSome new (λ v. v ≡ w)

-- a write to a sound link doesn't fail
abbrev pub PutSound : Put → Type 0
PutSound (put.Bytes count) = Unit {0}
PutSound put.Failed = ⊥
PutSound put.NoMemory = Unit {0}
