-- Waiting for one child more.
use Rattle.std.proofs.Common.{ℕ, ◌≡◌, ◌+◌, ◌<◌, ◌≤◌, zero, suc, List, [], ◌∷◌, ◌++◌, length, drop, refl, ap, sym, ◌∙◌, subst, arith, get_or, true, false, add-one, drop-cons}
use Rattle.std.specs.Prelude.{IfSome, Option, Some, None}
use Rattle.std.specs.Result.{is_ok}
use Rattle.std.specs.declared.result.Result.{Result}
use Rattle.std.specs.declared.result.Result.TheVariants.{Ok, Err}
use Rattle.cos_base.specs.Counts.{Rose}
use Rattle.std.proofs.lemmas.List.{length-append}
use Rattle.cos_children.specs.Children.{Children, Runs, times, without, with_stopped}
use Rattle.cos_children.specs.declared.spawners.SpawnFault.TheVariants as spawn
use Rattle.outcomes.specs.Seen.{Seen}
use Rattle.port_children.specs.declared.fault.WaitFault.{WaitFault}
use Rattle.port_children.specs.declared.fault.WaitFault.TheVariants.{Status, Spawner, NoMemory}
use Rattle.port_children.specs.Waited.{StillTold, Given, with_wait, with_waits, ComesTo, Blames, IsWaited, IsOneWaited, AllRun, NotSpawner}

-- the first of what waits came to that is no status 0
abbrev pub first_of_both : Result Unit WaitFault → Result Unit WaitFault → Result Unit WaitFault
first_of_both (Ok u) waited = waited
first_of_both (Err f) waited = Err f

pub waits-more : (c : Children) (ns : List ℕ) (n : ℕ) (gs : List Given) (g : Given) → length gs ≡ length ns
    → with_waits c (ns ++ n ∷ []) (gs ++ g ∷ []) ≡ with_wait (with_waits c ns gs) n g
waits-more c [] n [] g each = refl
waits-more c [] n (h ∷ gs) g each = absurd (omega (arith, each))
waits-more c (m ∷ ns) n [] g each = absurd (omega (arith, each))
waits-more c (m ∷ ns) n (h ∷ gs) g each = waits-more (with_wait c m h) ns n gs g (omega (arith, each))

first-more : (r s : Result Unit WaitFault) → r ≡ Ok tt → first_of_both r s ≡ s
first-more (Ok u) s is = refl
first-more (Err f) s is = absurd (cc)

pub comes-more : (port : ℕ) (gs : List Given) (g : Given) (r s : Result Unit WaitFault) → ComesTo port gs r
    → ComesTo (port + length gs) (g ∷ []) s → ComesTo port (gs ++ g ∷ []) (first_of_both r s)
comes-more port [] g r s first next =
    let none : port + 0 ≡ port = omega arith in
    subst (λ x. ComesTo port (g ∷ []) x) (sym (first-more r s first)) (subst (λ p. ComesTo p (g ∷ []) s) none next)
comes-more port (Ok zero ∷ gs) g r s first next =
    let one : port + suc (length gs) ≡ (port + 1) + length gs = omega arith in
    comes-more (port + 1) gs g r s first (subst (λ p. ComesTo p (g ∷ []) s) one next)
comes-more port (Ok (suc n) ∷ gs) g r s first next = ap (λ x. first_of_both x s) first
comes-more port (Err spawn.Failed ∷ gs) g r s (n, first) next = (n, ap (λ x. first_of_both x s) first)
comes-more port (Err spawn.NoMemory ∷ gs) g r s first next = ap (λ x. first_of_both x s) first

-- the counts of two parts of a call
abbrev pub between : {T : Type 0} → ℕ → ℕ → Option T → Option T → Seen T
between x y a b = record { before = x; now = y; old = a; new = b }

pub blames-grow : (x y z : ℕ) (a b c : Option Children) (r s : Result Unit WaitFault) → Blames (between x y a b) r → x ≤ y
    → Blames (between y z b c) s → y ≤ z → Blames (between x z a c) (first_of_both r s)
blames-grow x y z a b c (Ok u) (Ok v) first grew next grows = next ∙ first
blames-grow x y z a b c (Ok u) (Err (Status p n)) first grew next grows = omega (arith, grew, grows)
blames-grow x y z a b c (Ok u) (Err (Spawner n)) first grew next grows = (subst (λ k. Rose k n) first next.0, next.1)
blames-grow x y z a b c (Ok u) (Err NoMemory) first grew next grows = omega (arith, grew, grows)
blames-grow x y z a b c (Err (Status p n)) s first grew next grows = omega (arith, grew, grows)
blames-grow x y z a b c (Err (Spawner n)) s first grew next grows = (first.0, omega (arith, first.1, grows))
blames-grow x y z a b c (Err NoMemory) s first grew next grows = omega (arith, grew, grows)

pub told-more : (a b c : Option Children) (ns : List ℕ) (n : ℕ) (gs : List Given) (g : Given) → length gs ≡ length ns
    → IfSome a (λ o. IfSome b (λ p. p ≡ with_waits o ns gs)) → (b ≡ None → c ≡ None)
    → IfSome b (λ o. IfSome c (λ p. p ≡ with_wait o n g))
    → IfSome a (λ o. IfSome c (λ p. p ≡ with_waits o (ns ++ n ∷ []) (gs ++ g ∷ [])))
told-more None b c ns n gs g each first un next = tt
told-more (Some o) None c ns n gs g each first un next =
    subst (λ x. IfSome x (λ p. p ≡ with_waits o (ns ++ n ∷ []) (gs ++ g ∷ []))) (sym (un refl)) tt
told-more (Some o) (Some p) None ns n gs g each first un next = tt
told-more (Some o) (Some p) (Some q) ns n gs g each first un next =
    next ∙ ap (λ d. with_wait d n g) first ∙ sym (waits-more o ns n gs g each)

still-more : (x y z : ℕ) (a b c : Option Children) (r s : Result Unit WaitFault) → StillTold (between x y a b) r
    → StillTold (between y z b c) s → StillTold (between x z a c) (first_of_both r s)
still-more x y z a b c (Err f) s first next = tt
still-more x y z a b c (Ok u) (Err f) first next = tt
still-more x y z None b c (Ok u) (Ok v) first next = tt
still-more x y z (Some o) None c (Ok u) (Ok v) first next = absurd (cc)
still-more x y z (Some o) (Some p) c (Ok u) (Ok v) first next = next

-- children were waited for, and then one more
pub waited-more : (x y z : ℕ) (a b c : Option Children) (ns : List ℕ) (n port : ℕ) (all : List ℕ)
    (r s t : Result Unit WaitFault) → all ≡ ns ++ n ∷ [] → port ≡ length ns → t ≡ first_of_both r s
    → IsWaited ns (between x y a b) r → x ≤ y → IsOneWaited port n (between y z b c) s → y ≤ z
    → IsWaited all (between x z a c) t
waited-more x y z a b c ns n port all r s t all-are at is first grew next grows =
    subst (λ l. IsWaited l (between x z a c) t) (sym all-are)
    (subst (λ u. IsWaited (ns ++ n ∷ []) (between x z a c) u) (sym is)
    (record {
      given = first.given ++ next.given ∷ [];
      each = omega (arith, length-append first.given (next.given ∷ []), length-append ns (n ∷ []), first.each);
      comes = comes-more 0 first.given next.given r s first.comes
          (let here : port ≡ 0 + length first.given = omega (arith, at, first.each) in
          subst (λ p. ComesTo p (next.given ∷ []) s) here next.comes);
      blames = blames-grow x y z a b c r s first.blames grew next.blames grows;
      waits = told-more a b c ns n first.given next.given first.each first.waits next.untold next.waits;
      still_told = still-more x y z a b c r s first.still_told next.still_told;
      untold = λ none. next.untold (first.untold none);
    }))

-- what the waits came to so far: that of the last where those before it came to status 0
pub came-ok : (r s t : Result Unit WaitFault) → is_ok r ≡ true → t ≡ s → t ≡ first_of_both r s
came-ok (Ok u) s t ok is = is
came-ok (Err f) s t ok is = absurd (cc)

pub came-err : (r s t : Result Unit WaitFault) → is_ok r ≡ false → t ≡ r → t ≡ first_of_both r s
came-err (Ok u) s t ok is = absurd (cc)
came-err (Err f) s t ok is = is

pub drop-next : (ns : List ℕ) (i : ℕ) → i < length ns → drop i ns ≡ get_or ns i 0 ∷ drop (i + 1) ns
drop-next ns i small = rw (add-one, drop-cons ns i 0)

-- those that run after a wait

runs-same : (ns : List ℕ) (c d : Children) → d.running ≡ c.running → AllRun ns c → AllRun ns d
runs-same [] c d same run = tt
runs-same (n ∷ ns) c d same run = (
  subst (λ l. 0 < times n l) (sym same) run.0,
  runs-same ns (with_stopped c n) (with_stopped d n) (ap (without n) same) run.1,
)

wait-running : (c : Children) (n : ℕ) (g : Given) → (with_wait c n g).running ≡ without n c.running
wait-running c n (Ok status) = refl
wait-running c n (Err e) = refl

pub run-left : (a b : Option Children) (n : ℕ) (ns : List ℕ) (g : Given) → IfSome a (AllRun (n ∷ ns))
    → IfSome a (λ o. IfSome b (λ p. p ≡ with_wait o n g)) → (a ≡ None → b ≡ None) → IfSome b (AllRun ns)
run-left None b n ns g run waits un = subst (λ x. IfSome x (AllRun ns)) (sym (un refl)) tt
run-left (Some o) None n ns g run waits un = tt
run-left (Some o) (Some p) n ns g run waits un =
    runs-same ns (with_stopped o n) p (ap (λ (d : Children). d.running) waits ∙ wait-running o n g) run.1

pub run-first : (a : Option Children) (n : ℕ) (ns : List ℕ) → IfSome a (AllRun (n ∷ ns)) → IfSome a (λ c. Runs c n)
run-first None n ns run = tt
run-first (Some c) n ns run = run.0

pub not-first : (r s : Result Unit WaitFault) → NotSpawner r → NotSpawner s → NotSpawner (first_of_both r s)
not-first (Ok u) s first next = next
not-first (Err f) s first next = first
