-- What a sound sink has room for.
use Rattle.std.specs.Prelude.{ℕ, ◌≡◌, ◌+◌, ◌<◌, ◌≤◌, List, ◌++◌, length, IsSome}
use Rattle.std.specs.declared.option.Option.{Option}
use Rattle.std.specs.declared.option.Option.TheVariants.{Some, None}
use Rattle.std.specs.declared.result.Result.{Result}
use Rattle.std.specs.declared.result.Result.TheVariants.{Ok, Err}
use Rattle.std.specs.Borrow.{Bor}
use Rattle.std.proofs.Common.{ap, sym, ◌∙◌, subst, take, drop, arith}
use Rattle.std.proofs.lemmas.List.{take-append-drop, length-append}
use Rattle.cos_base.specs.Counts.{Counts}
use Rattle.cos_base.specs.Prefixes.{IsPrefix-front}
use Rattle.cos_base.specs.Sinks.{PutsSoundly, written}
use Rattle.cos_base.specs.declared.sinks.Failed.{Failed}
use Rattle.outcomes.specs.Outcomes.{IsPut}
use Rattle.statuses.specs.Lines.{texts}
use Rattle.statuses.specs.Takes.{Takes, PutsPieces}
use Rattle.statuses.proofs.Putting.{PutsAll, puts-both, puts-longer, texts-append}

-- a line that is given by an equation
pub put-line : {S : Type 0} (told : S → Option (List ℕ)) (count room : S → ℕ) (sound : S → Type 0) (old new : S) (p q : List ℕ) → q ≡ p → Takes told count room sound old new p → Takes told count room sound old new q
put-line told count room sound old new p q is took = subst (λ t. Takes told count room sound old new t) (sym is) took

-- what stands in a sink after a piece that it took
pub written-more : (a b : Option (List ℕ)) (p : List ℕ) → IsSome a → PutsAll a b p → length (written b) ≡ length (written a) + length p
written-more None b p told puts = absurd (cc)
written-more (Some x) b p told puts = ap (λ o. length (written o)) puts ∙ length-append x p

-- A sound sink whose room was lowered by what stands in it had that room for a piece that it took.
pub room-lowered : (a b : Option (List ℕ)) (before now : ℕ) (p : List ℕ) → IsSome a → PutsAll a b p → now + length (written b) ≡ before + length (written a) → now + length p ≡ before
room-lowered a b before now p told puts lowers = let reached = written-more a b p told puts in omega (arith, reached, lowers)

-- pieces up to one are no longer than all
pub texts-short : (ps : List (Bor (List ℕ))) (i : ℕ) → length (texts (take i ps)) ≤ length (texts ps)
texts-short ps i =
    let whole : length (texts ps) ≡ length (texts (take i ps)) + length (texts (drop i ps)) =
    ap (λ l. length (texts l)) (sym (take-append-drop i ps)) ∙ ap length (texts-append (take i ps) (drop i ps)) ∙ length-append (texts (take i ps)) (texts (drop i ps)) in
    omega (arith, whole)

-- Pieces that a sound sink took, and their room.
pub took-soundly : (a b : Option (List ℕ)) (before now : ℕ) (p : List ℕ) → IsSome a → PutsAll a b p → now + length p ≡ before → PutsSoundly a b before now p (Ok tt)
took-soundly a b before now p told puts lowered =
    let reached = written-more a b p told puts in
    record { cause = omega (arith, lowered); lowers = omega (arith, reached, lowered) }

-- A piece behind others for which a sound sink had no room: it had none for all.
pub lacked-soundly : (a b c : Option (List ℕ)) (before mid now : ℕ) (p q all : List ℕ) (e : Failed) → IsSome a → PutsAll a b p → mid + length p ≡ before → length (p ++ q) ≤ length all → PutsSoundly b c mid now q (Err e) → PutsSoundly a c before now all (Err e)
lacked-soundly a b c before mid now p q all e told puts lowered short stopped =
    let reached = written-more a b p told puts in
    let both = length-append p q in
    let lacks : mid < length q = stopped.cause in
    let lowers : now + length (written c) ≡ mid + length (written b) = stopped.lowers in
    record { cause = omega (arith, both, lowered, short, lacks); lowers = omega (arith, reached, lowered, lowers) }

-- the room after one more piece
pub room-left : (before mid now : ℕ) (p q all : List ℕ) → all ≡ p ++ q → mid + length p ≡ before → now + length q ≡ mid → now + length all ≡ before
room-left before mid now p q all is first then = let both = ap length is ∙ length-append p q in omega (arith, both, first, then)

-- pieces that are a whole line
pub puts-line : {S : Type 0} (told : S → Option (List ℕ)) (count room : S → ℕ) (sound : S → Type 0) (old new : S) (p : List ℕ) (r : Result Unit Failed) → PutsPieces told count room sound old new p r → Takes told count room sound old new p
puts-line told count room sound old new p (Ok u) puts = record { put = (Ok u, puts.counts, puts.tells); takes = λ is fits. puts.tells }
puts-line told count room sound old new p (Err e) puts = record {
  put = (Err e, puts.counts, puts.tells);
  takes = λ is fits. let lacks : room old < length p = (puts.is_sound is).1.cause in absurd (omega (arith, lacks, fits));
}

-- the beginning of a line was put, and then its rest
pub put-both : (before mid now : ℕ) (a b c : Option (List ℕ)) (p q : List ℕ) → mid ≡ before → PutsAll a b p → IsPut (record { before = mid; now = now; old = b; new = c }) q → IsPut (record { before = before; now = now; old = a; new = c }) (p ++ q)
put-both before mid now a b c p q same first (r, counts, then) = (r, subst (λ n. Counts n now r) same counts, puts-both a b c p q r first then)

pub put-rest : {S : Type 0} (told : S → Option (List ℕ)) (count room : S → ℕ) (sound : S → Type 0) (old mid new : S) (p q : List ℕ) → ((s : S) → sound s → IsSome (told s)) → PutsPieces told count room sound old mid p (Ok tt) → Takes told count room sound mid new q → Takes told count room sound old new (p ++ q)
put-rest told count room sound old mid new p q tells front rest = record {
  put = put-both (count old) (count mid) (count new) (told old) (told mid) (told new) p q front.counts front.tells rest.put;
  takes = λ is fits.
      let after = front.is_sound is in
      let lowered = room-lowered (told old) (told mid) (room old) (room mid) p (tells old is) front.tells after.1.lowers in
      let both = length-append p q in
      puts-both (told old) (told mid) (told new) p q (Ok tt) front.tells (rest.takes after.0 (omega (arith, lowered, both, fits)));
}

-- the beginning of a line couldn't be put
pub put-stopped : {S : Type 0} (told : S → Option (List ℕ)) (count room : S → ℕ) (sound : S → Type 0) (old new : S) (p q : List ℕ) (e : Failed) → PutsPieces told count room sound old new p (Err e) → Takes told count room sound old new (p ++ q)
put-stopped told count room sound old new p q e front = record {
  put = (Err e, front.counts, puts-longer (told old) (told new) p (p ++ q) e (IsPrefix-front p q) front.tells);
  takes = λ is fits.
      let lacks : room old < length p = (front.is_sound is).1.cause in
      let both = length-append p q in
      absurd (omega (arith, lacks, both, fits));
}
