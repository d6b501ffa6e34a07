-- The ends that a world of a configuration's machine begins with.
use Rattle.std.proofs.Common.{◌≡◌, zero, suc, All, List, [], ◌∷◌, map, refl, sym, ap, ◌∙◌, subst, arith}
use Rattle.cos_config.specs.declared.config.PortConfig.{PortConfig}
use Rattle.cos_parts.specs.declared.any_device.AnyDevice.{AnyDevice}
use Rattle.cosim_ends.specs.Sides.{sides_of, end_of}
use Rattle.device_turns.specs.Ends.{End}
use Rattle.ends_model.specs.World.{Side}
use Rattle.world.specs.Worlds.{IsStart, side_of}

starts : (xs : List (Side × AnyDevice)) → All IsStart (map end_of xs)
starts [] zero e small = absurd (omega (arith, small))
starts [] (suc n) e small = absurd (omega (arith, small))
starts (x ∷ xs) zero e small = refl
starts (x ∷ xs) (suc n) e small = starts xs n e (omega (arith, small))

pub ends-start : (ends : List (End AnyDevice)) (xs : List (Side × AnyDevice)) → ends ≡ map end_of xs
    → All IsStart ends
ends-start ends xs same = subst (λ es. All IsStart es) (sym same) (starts xs)

sides : (xs : List (Side × AnyDevice)) → map side_of (map end_of xs) ≡ xs
sides [] = refl
sides (x ∷ xs) = ap (λ ys. x ∷ ys) (sides xs)

pub ends-sides : (ends : List (End AnyDevice)) (xs : List (Side × AnyDevice)) → ends ≡ map end_of xs
    → map side_of ends ≡ xs
ends-sides ends xs same = ap (map side_of) same ∙ sides xs

-- the devices of sides are those that these are of
pub devices-of-sides : (f : PortConfig → AnyDevice) (ports : List PortConfig)
    → map (λ (x : Side × AnyDevice). x.1) (sides_of ports (map f ports)) ≡ map f ports
devices-of-sides f [] = refl
devices-of-sides f (p ∷ ps) = ap (λ ds. f p ∷ ds) (devices-of-sides f ps)
