-- What the access of a hart is: one, two or four bytes.
use Rattle.std.specs.Prelude.{◌≡◌, ◌^◌, ◌<◌, ◌⊎◌, false}
use Rattle.rv_core.specs.declared.hart.HartAccess.{HartAccess}

pub record IsHartAccess (a : HartAccess) : Type 0 where
  pub size : (a.size ≡ 1) ⊎ (a.size ≡ 2) ⊎ (a.size ≡ 4)
  pub addr : a.addr < 2 ^ 32
  pub value : a.value < 256 ^ a.size
  pub read : a.write ≡ false → a.value ≡ 0
