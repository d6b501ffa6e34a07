-- When one list is a beginning of another. The empty list and the whole list are among its beginnings.
use Rattle.std.specs.Prelude.{◌≡◌, List, ◌++◌}

abbrev pub IsPrefix : {X : Type 0} → List X → List X → Type 0
IsPrefix {X} xs ys = (rest : List X) × (xs ++ rest ≡ ys)

-- A function of lists grows: for more bytes it gives more.
abbrev pub Grows : {X Y : Type 0} → (List X → List Y) → Type 0
Grows {X} f = (x y : List X) → IsPrefix (f x) (f (x ++ y))
