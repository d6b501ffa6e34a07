-- What sending bytes over a link does to what the link tells, to its count of faults and to its soundness.
use Rattle.std.specs.Prelude.{◌≡◌, ℕ, List, ◌++◌, IfSome, MatchResult, Result, Ok, Err, Option, Some, None}
use Rattle.cos_base.specs.Counts.{Rises}
use Rattle.cos_base.specs.Links.{Wire}
use Rattle.cos_base.specs.Prefixes.{IsPrefix}
use Rattle.rp_framing.specs.declared.sender.SendFault.{SendFault}
use Rattle.rp_framing.specs.declared.sender.SendFault.TheVariants.{Link, NoMemory}

-- a wire that told before, with these bytes sent besides
abbrev pub Sent : Option Wire → Option Wire → List ℕ → Type 0
Sent None new bytes = Unit {0}
Sent (Some w) new bytes = new ≡ Some (record w { sent = w.sent ++ bytes })

-- all was sent, or after a fault a part of it
abbrev pub Sends : Option Wire → Option Wire → List ℕ → Result Unit SendFault → Type 0
Sends None new bytes result = Unit {0}
Sends (Some w) new bytes result =
    MatchResult result
    (λ _. new ≡ Some (record w { sent = w.sent ++ bytes }))
    (λ _. IfSome new (λ n. (part : List ℕ) × IsPrefix part bytes × (n ≡ record w { sent = w.sent ++ part })))

-- the count of faults rose exactly where the link is blamed, and is told
abbrev pub SendCounts : ℕ → ℕ → Result Unit SendFault → Type 0
SendCounts before now (Ok u) = now ≡ before
SendCounts before now (Err (Link count)) = Rises before now × (count ≡ now)
SendCounts before now (Err NoMemory) = now ≡ before

-- a sound link isn't to blame
abbrev pub SendSound : Result Unit SendFault → Type 0
SendSound (Ok u) = Unit {0}
SendSound (Err (Link count)) = ⊥
SendSound (Err NoMemory) = Unit {0}
