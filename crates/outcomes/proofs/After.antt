-- Steps behind files that were read are steps of the whole call.
use Rattle.std.proofs.Common.{ℕ, ◌≡◌, ◌≤◌, List, IfSome, IsSomeAnd, IsSome, sym, ◌∙◌, subst}
use Rattle.std.specs.declared.option.Option.{Option}
use Rattle.std.specs.declared.option.Option.TheVariants.{Some, None}
use Rattle.cos_base.specs.Counts.{Rose}
use Rattle.cos_base.specs.Stores.{Store}
use Rattle.outcomes.specs.declared.failures.FilesFailure.{FilesFailure}
use Rattle.outcomes.specs.declared.failures.FilesFailure.TheVariants.{Failed, NoMemory}
use Rattle.outcomes.specs.Seen.{Seen}
use Rattle.outcomes.specs.Steps.{IsStanding, IsRead, IsUnread, IsLacking}

-- an object from the beginning of one step to the end of a later one
abbrev pub both : {T : Type 0} → Seen T → Seen T → Seen T
both f g = record { before = f.before; now = g.now; old = f.old; new = g.new }

-- What is told of the files in between is told of them at first.
pub joined-told : (f g : Seen Store) → IsStanding f → g.old ≡ f.new → IfSome f.old (λ m. g.old ≡ Some m)
joined-told f g stands same = subst (λ o. IfSome f.old (λ m. o ≡ Some m)) (sym same) stands.told

pub stand-after-of : (old mid new : Option Store) → IfSome old (λ m. mid ≡ Some m) → IfSome mid (λ m. IfSome new (λ n. n ≡ m)) → IfSome old (λ m. IfSome new (λ n. n ≡ m))
stand-after-of None mid new first then = tt
stand-after-of (Some m) mid new first then = subst (λ o. IfSome o (λ m. IfSome new (λ n. n ≡ m))) first then

pub stand-told-after-of : (old mid new : Option Store) → IfSome old (λ m. mid ≡ Some m) → IfSome mid (λ m. new ≡ Some m) → IfSome old (λ m. new ≡ Some m)
stand-told-after-of None mid new first then = tt
stand-told-after-of (Some m) mid new first then = subst (λ o. IfSome o (λ m. new ≡ Some m)) first then

pub found-after-of : (old mid : Option Store) (name bytes : List ℕ) → IfSome old (λ m. mid ≡ Some m) → IfSome mid (λ m. m name ≡ Some bytes) → IfSome old (λ m. m name ≡ Some bytes)
found-after-of None mid name bytes first then = tt
found-after-of (Some m) mid name bytes first then = subst (λ o. IfSome o (λ m. m name ≡ Some bytes)) first then

pub lacking-after-of : (old mid : Option Store) (name : List ℕ) → IsSome old → IfSome old (λ m. mid ≡ Some m) → IsSomeAnd mid (λ m. m name ≡ None) → IsSomeAnd old (λ m. m name ≡ None)
lacking-after-of None mid name told first then = absurd (cc)
lacking-after-of (Some m) mid name told first then = subst (λ o. IsSomeAnd o (λ m. m name ≡ None)) first then

pub blamed-after : (before mid now n : ℕ) → mid ≡ before → Rose mid n × (n ≤ now) → Rose before n × (n ≤ now)
blamed-after before mid now n same blamed = subst (λ b. Rose b n × (n ≤ now)) same blamed

-- the files stand, after one step and another
pub stands-after : (f g : Seen Store) → IsStanding f → g.before ≡ f.now → g.old ≡ f.new → IsStanding g → IsStanding (both f g)
stands-after f g stands joined same then = record {
  count = then.count ∙ joined ∙ stands.count;
  told = stand-told-after-of f.old g.old g.new (joined-told f g stands same) then.told;
}

-- another file is read
pub read-after : (f g : Seen Store) (name bytes : List ℕ) → IsStanding f → g.before ≡ f.now → g.old ≡ f.new → IsRead g name bytes → IsRead (both f g) name bytes
read-after f g name bytes stands joined same read = record {
  stands = stands-after f g stands joined same read.stands;
  found = found-after-of f.old g.old name bytes (joined-told f g stands same) read.found;
}

-- another file isn't read
pub unread-after : (f g : Seen Store) (e : FilesFailure) → IsStanding f → g.before ≡ f.now → g.old ≡ f.new → IsUnread g e → IsUnread (both f g) e
unread-after f g (Failed n) stands joined same unread = (
  blamed-after f.before g.before g.now n (joined ∙ stands.count) unread.0,
  stand-after-of f.old g.old g.new (joined-told f g stands same) unread.1,
)
unread-after f g NoMemory stands joined same unread =
    (unread.0 ∙ joined ∙ stands.count, stand-after-of f.old g.old g.new (joined-told f g stands same) unread.1)

pub lacking-after : (f g : Seen Store) (name : List ℕ) (e : FilesFailure) → IsSome f.old → IsStanding f → g.old ≡ f.new → IsLacking g.old name e → IsLacking f.old name e
lacking-after f g name (Failed n) told stands same lacking = lacking-after-of f.old g.old name told (joined-told f g stands same) lacking
lacking-after f g name NoMemory told stands same lacking = tt
