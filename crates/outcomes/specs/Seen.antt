-- An object of the outside, as it is seen before a call and after it.
use Rattle.std.specs.Prelude.{ℕ, ◌≡◌, ◌≤◌}
use Rattle.std.specs.declared.option.Option.{Option}
use Rattle.cos_base.specs.Counts.{Rose}

-- its count of faults, and what it holds, where that is told
pub record Seen (T : Type 0) : Type 0 where
  pub before : ℕ
  pub now : ℕ
  pub old : Option T
  pub new : Option T

abbrev pub seen : {X T : Type 0} → (X → ℕ) → (X → Option T) → X → X → Seen T
seen count told x y = record { before = count x; now = count y; old = told x; new = told y }

-- nothing happened to it
pub record IsUntouched {T : Type 0} (o : Seen T) : Type 0 where
  pub count : o.now ≡ o.before
  pub same : o.new ≡ o.old

-- no call of it failed
abbrev pub CountStands : {T : Type 0} → Seen T → Type 0
CountStands o = o.now ≡ o.before

-- its count rose in this call, up to the count that is shown
abbrev pub IsBlamed : {T : Type 0} → Seen T → ℕ → Type 0
IsBlamed o shown = Rose o.before shown × (shown ≤ o.now)
