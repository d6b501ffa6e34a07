-- A generated machine's world begins as that of a configuration with its settings.
use Rattle.std.proofs.Common.{◌≡◌, ℕ, ap, ◌∙◌}
use Rattle.cos_config.specs.declared.config.Config.{Config}
use Rattle.cos_config.specs.Plans.{plan_of}
use Rattle.cosim_ends.specs.Sides.{sides_of}
use Rattle.cosim_generator.specs.Programs.{gap_of, input_of, image_of, program_of}
use Rattle.cosim_inputs.specs.Fresh.{master_of}
use Rattle.cosim_local.specs.declared.parts.Parts.{Parts}
use Rattle.cosim_local.specs.Steps.{start_by}
use Rattle.cosim_gen.specs.Generated.{settings_of, files_of, hart_with, devices_with, generated_start}

pub starts : (number : ℕ) (p : Parts) → p.config ≡ settings_of number
    → p.machine.master ≡ hart_with p.config.ram p.config.ports (image_of (program_of number))
    → p.machine.devices.items ≡ devices_with (input_of number) (gap_of number) → start_by p ≡ generated_start number
starts number p is hart are =
    ap (λ a. record { plan = plan_of p.config; master = a; ports = sides_of p.config.ports p.machine.devices.items })
    (hart ∙ ap (λ (c : Config). hart_with c.ram c.ports (image_of (program_of number))) is)
    ∙ ap (λ ds. record { plan = plan_of p.config; master = master_of (files_of number) (settings_of number); ports = sides_of p.config.ports ds }) are
    ∙ ap (λ (c : Config). record { plan = plan_of c; master = master_of (files_of number) (settings_of number); ports = sides_of c.ports (devices_with (input_of number) (gap_of number)) }) is
