-- The ends of ports and devices that are gone through together.
use Rattle.std.proofs.Common.{◌≡◌, ℕ, zero, suc, ◌<◌, All, List, [], ◌∷◌, length, get_or, map, refl, sym, ap, subst, arith}
use Rattle.std.specs.Prelude.{zip}
use Rattle.std.proofs.lemmas.List.Elements.{All-head, All-tail}
use Rattle.cos_config.specs.declared.config.PortConfig.{PortConfig}
use Rattle.cos_parts.specs.declared.any_device.AnyDevice.{AnyDevice}
use Rattle.cos_parts.specs.AnyDevices.{any_seen}
use Rattle.cosim_ends.specs.Sides.{port_side, end_of}

-- a device beside its port is at tick 0
pub fresh-at : (ps : List PortConfig) (ds : List AnyDevice) (n : ℕ) (x : PortConfig × AnyDevice)
    → n < length (zip ps ds) → x ≡ get_or (zip ps ds) n x → All (λ d. any_seen d ≡ 0) ds → any_seen x.1 ≡ 0
fresh-at [] ds n x small is fresh = absurd (omega (arith, small))
fresh-at (p ∷ ps) [] n x small is fresh = absurd (omega (arith, small))
fresh-at (p ∷ ps) (d ∷ ds) zero x small is fresh =
    subst (λ (y : PortConfig × AnyDevice). any_seen y.1 ≡ 0) (sym is) (All-head (λ d. any_seen d ≡ 0) d ds fresh)
fresh-at (p ∷ ps) (d ∷ ds) (suc n) x small is fresh =
    fresh-at ps ds n x (omega (arith, small)) is (All-tail (λ d. any_seen d ≡ 0) d ds fresh)

-- the ends of pairs, as the ends of their sides
pub ends-of : {A : Type 0} (f : A → PortConfig × AnyDevice) (ys : List A)
    → map (λ y. end_of (port_side (f y))) ys ≡ map end_of (map port_side (map f ys))
ends-of f [] = refl
ends-of f (y ∷ ys) = ap (λ es. end_of (port_side (f y)) ∷ es) (ends-of f ys)
