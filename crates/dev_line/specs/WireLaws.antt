-- What the line rule keeps of a want that is there, and of due times.
use Rattle.std.specs.Prelude.{◌≡◌, ℕ, ◌<◌, ◌≤◌, Bool, true, false, not, ◌||◌, nat_le, min, max, if◌then◌else◌, ◌⊎◌, Option, Some, None, refl}
use Rattle.std.proofs.Common.{arith, ap, sym, subst, inl, inr, ⊎_elim, ◌∙◌}
use Rattle.std.proofs.lemmas.Bool.{leb-true}
use Rattle.cosim_model.specs.declared.values.Caps.{Caps}
use Rattle.cosim_model.specs.declared.values.Want.{Want}
use Rattle.cosim_model.specs.declared.values.Want.TheVariants as want
use Rattle.cosim_model.specs.Parts.{IsWant}
use Rattle.dev_line.specs.Wires.{wanted_before, WireState, due_of, moved, differ, ruled_by, ruled, answered, risen, passed, levels_by, levels_left}

-- From one state to a later one a pending level stays, with its due time, and due times don't fall.
pub record Follows (w v : WireState) : Type 0 where
  pub pending : w.pending ≡ true → v.pending ≡ true
  pub shown : w.pending ≡ true → v.shown ≡ w.shown
  pub line : v.line ≡ w.line
  pub same_due : w.pending ≡ true → due_of v ≡ due_of w
  pub due : due_of w ≤ due_of v

pub Follows-same : (w : WireState) → Follows w w
Follows-same w = record { pending = λ p. p; shown = λ p. refl; line = refl; same_due = λ p. refl; due = omega arith }

pub Follows-both : (u v w : WireState) → Follows u v → Follows v w → Follows u w
Follows-both u v w f g = record {
  pending = λ p. g.pending (f.pending p);
  shown = λ p. g.shown (f.pending p) ∙ f.shown p;
  line = g.line ∙ f.line;
  same_due = λ p. g.same_due (f.pending p) ∙ f.same_due p;
  due = let a = f.due in let b = g.due in omega arith;
}

pub Follows-moved : (w : WireState) (tick : ℕ) → w.seen ≤ tick → Follows w (moved w tick)
Follows-moved w tick later = record { pending = λ p. p; shown = λ p. refl; line = refl; same_due = λ p. omega arith; due = omega arith }

pub Follows-ruled : (w : WireState) (wanted level works : Bool) → Follows w (ruled w wanted level works)
Follows-ruled w wanted level works = go w.line w.shown w.pending w.due w.seen wanted level works
  where
    by : (line : ℕ) (shown pending : Bool) (due seen : ℕ) (held differs works : Bool) → (pending ≡ true → held ≡ true) → Follows (record { line = line; shown = shown; pending = pending; due = due; seen = seen }) (ruled_by (record { line = line; shown = shown; pending = pending; due = due; seen = seen }) held differs works)
    by line shown pending due seen true differs works h = Follows-same _
    by line shown pending due seen false true works h = record { pending = λ p. refl; shown = λ p. refl; line = refl; same_due = λ p. absurd (let f = h p in cc); due = omega arith }
    by line shown pending due seen false false true h = record { pending = λ p. p; shown = λ p. refl; line = refl; same_due = λ p. absurd (let f = h p in cc); due = omega arith }
    by line shown pending due seen false false false h = Follows-same _

    holds : (pending wanted : Bool) → pending ≡ true → pending || wanted ≡ true
    holds true wanted p = refl
    holds false wanted p = absurd (cc)

    go : (line : ℕ) (shown pending : Bool) (due seen : ℕ) (wanted level works : Bool) → Follows (record { line = line; shown = shown; pending = pending; due = due; seen = seen }) (ruled (record { line = line; shown = shown; pending = pending; due = due; seen = seen }) wanted level works)
    go line shown pending due seen wanted level works = by line shown pending due seen (pending || wanted) (differ shown level) works (holds pending wanted)

pub ruled_by-seen : (w : WireState) (held differs works : Bool) → (ruled_by w held differs works).seen ≡ w.seen
ruled_by-seen w true differs works = refl
ruled_by-seen w false true works = refl
ruled_by-seen w false false true = refl
ruled_by-seen w false false false = refl

pub ruled-seen : (w : WireState) (wanted level works : Bool) → (ruled w wanted level works).seen ≡ w.seen
ruled-seen w wanted level works = ruled_by-seen w (w.pending || wanted) (differ w.shown level) works

pub passed-seen : (w : WireState) (rises : Option ℕ) (tick : ℕ) → (passed w rises tick).seen ≡ tick
passed-seen w None tick = refl
passed-seen w (Some rises) tick = refl

pub Follows-passed : (w : WireState) (rises : Option ℕ) (tick : ℕ) → w.seen ≤ tick → Follows w (passed w rises tick)
Follows-passed w None tick later = Follows-moved w tick later
Follows-passed w (Some rises) tick later = go (nat_le rises tick) (leb-true rises tick)
  where
    go : (rose : Bool) → (rose ≡ true → rises ≤ tick) → Follows w (moved (risen w rises rose) tick)
    go false early = Follows-moved w tick later
    go true early =
        let at_rise = moved w (max rises w.seen) in
        let to_rise : Follows w at_rise = Follows-moved w (max rises w.seen) (omega arith) in
        let by_rule : Follows at_rise (ruled at_rise false true false) = Follows-ruled at_rise false true false in
        let rise_first : max rises w.seen ≤ tick = (let e = early refl in omega arith) in
        let before : (ruled at_rise false true false).seen ≤ tick = rw (ruled-seen at_rise false true false) rise_first in
        Follows-both _ _ _ (Follows-both _ _ _ to_rise by_rule) (Follows-moved (ruled at_rise false true false) tick before)

-- An answer lowers how many levels are left.
pub answered-left : (w : WireState) (level works : Bool) → w.pending ≡ true → levels_left (answered w level works) level < levels_left w level
answered-left w level works p = go w.shown level works w.pending p
  where
    go : (shown level works pending : Bool) → pending ≡ true → levels_left (answered (record w { shown = shown; pending = pending }) level works) level < levels_left (record w { shown = shown; pending = pending }) level
    go shown level works false p = absurd (cc)
    go true true true true p = omega arith
    go true true false true p = omega arith
    go true false true true p = omega arith
    go true false false true p = omega arith
    go false true true true p = omega arith
    go false true false true p = omega arith
    go false false true true p = omega arith
    go false false false true p = omega arith

pub answered-seen : (w : WireState) (level works : Bool) → (answered w level works).seen ≡ w.seen
answered-seen w level works = ruled-seen (record w { shown = not w.shown; pending = false }) false level works

pub answered-due : (w : WireState) (level works : Bool) → due_of w ≤ due_of (answered w level works)
answered-due w level works = (Follows-ruled (record w { shown = not w.shown; pending = false }) false level works).due

pub levels_left-most : (w : WireState) (level : Bool) → levels_left w level ≤ 2
levels_left-most w level = go w.pending (differ w.shown level)
  where
    go : (pending differs : Bool) → levels_by pending differs ≤ 2
    go true true = omega arith
    go true false = omega arith
    go false differs = omega arith

-- A level is left exactly where one is pending.
pub levels_left-zero : (w : WireState) (level : Bool) → levels_left w level ≡ 0 → w.pending ≡ false
levels_left-zero w level e = go w.pending (differ w.shown level) e
  where
    go : (pending differs : Bool) → levels_by pending differs ≡ 0 → pending ≡ false
    go true true e = absurd (omega arith)
    go true false e = absurd (omega arith)
    go false differs e = refl

pub quiet-levels_left : (w : WireState) (level : Bool) → w.pending ≡ false → levels_left w level ≡ 0
quiet-levels_left w level e = ap (λ pending. levels_by pending (differ w.shown level)) e

-- From one state to a later one the want stays, where `job` and `next` are what is wanted after a pending level.
pub record KeepsWant (w v : WireState) (job next : Option Want) : Type 0 where
  pub wire : Follows w v
  pub work : (x : Want) → w.pending ≡ false → job ≡ Some x → (v.pending ≡ false) × (next ≡ Some x) × (due_of v ≡ due_of w)

-- Where nothing is wanted after a level, it is enough that the level stays.
pub KeepsWant-levels : (w v : WireState) (next : Option Want) → Follows w v → KeepsWant w v None next
KeepsWant-levels w v next f = record { wire = f; work = λ x p e. absurd (cc) }

pub wanted_before-pending : (w : WireState) (rest : Option Want) → w.pending ≡ true → wanted_before w rest ≡ Some (want.Line (min w.line 4294967295) (not w.shown))
wanted_before-pending w rest p = ap (λ pending. if pending then Some (want.Line (min w.line 4294967295) (not w.shown)) else rest) p

pub wanted_before-quiet : (w : WireState) (rest : Option Want) → w.pending ≡ false → wanted_before w rest ≡ rest
wanted_before-quiet w rest p = ap (λ pending. if pending then Some (want.Line (min w.line 4294967295) (not w.shown)) else rest) p

pub KeepsWant-same : (w v : WireState) (job next : Option Want) (x : Want) → KeepsWant w v job next → wanted_before w job ≡ Some x → (wanted_before v next ≡ Some x) × (due_of v ≡ due_of w)
KeepsWant-same w v job next x k e = go w.pending refl
  where
    go : (pending : Bool) → w.pending ≡ pending → (wanted_before v next ≡ Some x) × (due_of v ≡ due_of w)
    go true p = (
      wanted_before-pending v next (k.wire.pending p)
          ∙ ap (λ line. Some (want.Line (min line 4294967295) (not v.shown))) k.wire.line
          ∙ ap (λ shown. Some (want.Line (min w.line 4294967295) (not shown))) (k.wire.shown p)
          ∙ sym (wanted_before-pending w job p)
          ∙ e,
      k.wire.same_due p,
    )
    go false p =
        let kept = k.work x p (sym (wanted_before-quiet w job p) ∙ e) in
        (wanted_before-quiet v next kept.0 ∙ kept.1, kept.2)

-- Nothing is wanted exactly where no level is pending and nothing comes after it.
pub wanted_before-none : (w : WireState) (rest : Option Want) → wanted_before w rest ≡ None → (w.pending ≡ false) × (rest ≡ None)
wanted_before-none w rest e = go w.pending refl
  where
    go : (pending : Bool) → w.pending ≡ pending → (w.pending ≡ false) × (rest ≡ None)
    go true p = absurd (let is = wanted_before-pending w rest p in cc)
    go false p = (p, sym (wanted_before-quiet w rest p) ∙ e)

pub wanted_before-some : (w : WireState) (rest : Option Want) (x : Want) → wanted_before w rest ≡ Some x → (w.pending ≡ true) ⊎ ((w.pending ≡ false) × (rest ≡ Some x))
wanted_before-some w rest x e = go w.pending refl
  where
    go : (pending : Bool) → w.pending ≡ pending → (w.pending ≡ true) ⊎ ((w.pending ≡ false) × (rest ≡ Some x))
    go true p = inl p
    go false p = inr (p, sym (wanted_before-quiet w rest p) ∙ e)

-- A level is a want as devices have them, and so is what comes after it.
pub wanted_before-is : (w : WireState) (needs : Caps) (rest : Option Want) (x : Want) → ((y : Want) → rest ≡ Some y → IsWant needs y) → wanted_before w rest ≡ Some x → IsWant needs x
wanted_before-is w needs rest x by_rest e = go w.pending refl
  where
    is_level : IsWant needs (want.Line (min w.line 4294967295) (not w.shown))
    is_level = omega arith

    go : (pending : Bool) → w.pending ≡ pending → IsWant needs x
    go true p =
        let same : want.Line (min w.line 4294967295) (not w.shown) ≡ x = (let is = wanted_before-pending w rest p in cc) in
        subst (IsWant needs) same is_level
    go false p = by_rest x (sym (wanted_before-quiet w rest p) ∙ e)

-- With nothing after a level, what is wanted is a level.
pub wanted_before-level : (w : WireState) (x : Want) → wanted_before w None ≡ Some x → w.pending ≡ true
wanted_before-level w x e = ⊎_elim (λ p. p) (λ q. absurd (let none = q.1 in cc)) (wanted_before-some w None x e)

-- While another want than a level is there, the line rule does nothing.
pub ruled-held : (w : WireState) (level works : Bool) → ruled w true level works ≡ w
ruled-held w level works = go w.pending
  where
    go : (pending : Bool) → ruled_by w (pending || true) (differ w.shown level) works ≡ w
    go true = refl
    go false = refl

-- Where no level is pending, the line rule makes at most one pending, the level now.
pub ruled-left : (w : WireState) (level works : Bool) → w.pending ≡ false → levels_left (ruled w false level works) level ≤ 1
ruled-left w level works p = rw p (go w.shown level works)
  where
    go : (shown level works : Bool) → levels_left (ruled_by (record w { shown = shown; pending = false }) (false || false) (differ shown level) works) level ≤ 1
    go true true true = omega arith
    go true true false = omega arith
    go true false works = omega arith
    go false true works = omega arith
    go false false true = omega arith
    go false false false = omega arith

-- An access of a device that does other work than its levels: its want stays where the work stays while it is there.
pub KeepsWant-work : (w : WireState) (tick : ℕ) (busy level works : Bool) (job next : Option Want) → w.seen ≤ tick → ((x : Want) → job ≡ Some x → (busy ≡ true) × (next ≡ Some x)) → KeepsWant w (ruled (moved w tick) busy level works) job next
KeepsWant-work w tick busy level works job next later stays = record {
  wire = Follows-both _ _ _ (Follows-moved w tick later) (Follows-ruled (moved w tick) busy level works);
  work = λ x p e.
      let held : ruled (moved w tick) busy level works ≡ moved w tick = ap (λ b. ruled (moved w tick) b level works) (stays x e).0 ∙ ruled-held (moved w tick) level works in
      (ap (λ v. v.pending) held ∙ p, (stays x e).1, ap due_of held ∙ omega arith);
}
