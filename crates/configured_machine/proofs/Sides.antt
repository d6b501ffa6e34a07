-- The sides of ports and their devices.
use Rattle.std.proofs.Common.{◌≡◌, suc, List, [], ◌∷◌, length, map, refl, ap, arith}
use Rattle.cos_config.specs.declared.config.PortConfig.{PortConfig}
use Rattle.cos_parts.specs.declared.any_device.AnyDevice.{AnyDevice}
use Rattle.cosim_ends.specs.Sides.{sides_of}
use Rattle.ends_model.specs.World.{Side}

-- they are as many as the ports
pub sides-each : (ps : List PortConfig) (ds : List AnyDevice) → length ds ≡ length ps → length (sides_of ps ds) ≡ length ps
sides-each [] ds each = refl
sides-each (p ∷ ps) [] each = absurd (omega (arith, each))
sides-each (p ∷ ps) (d ∷ ds) each = ap suc (sides-each ps ds (omega (arith, each)))

-- and their devices are these
pub sides-devices : (ps : List PortConfig) (ds : List AnyDevice) → length ds ≡ length ps
    → map (λ (x : Side × AnyDevice). x.1) (sides_of ps ds) ≡ ds
sides-devices [] [] each = refl
sides-devices [] (d ∷ ds) each = absurd (omega (arith, each))
sides-devices (p ∷ ps) [] each = absurd (omega (arith, each))
sides-devices (p ∷ ps) (d ∷ ds) each = ap (λ xs. d ∷ xs) (sides-devices ps ds (omega (arith, each)))
