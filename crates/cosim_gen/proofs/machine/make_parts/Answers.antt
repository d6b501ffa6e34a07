use Rattle.std.proofs.Common.{◌≡◌, length, ap, ap₂, ◌∙◌, arith}
use Rattle.cos_config.specs.declared.config.Config.{Config}
use Rattle.cosim_generator.specs.Programs.{gap_of}
use Rattle.cosim_gen.specs.Generated.{settings_with, settings_of, hart_with, devices_with}
use Rattle.cosim_gen.proofs.Making.{starts}
use Rattle.cosim_gen.proofs.Sizes.{image-size}
use Rattle.cosim_gen.proofs.machine.make_parts.Goals as goal

pub make_machine-requires-clause-fits : goal.make_machine-requires-clause-fits
make_machine-requires-clause-fits c =
    let ram : c.in_ok-config.config.ram ≡ 131072 = ap (λ (s : Config). s.ram) c.in_ok-config.ensures in
    let size : length c.in_ok-generated.generated.image.bytes ≡ 16076 =
    ap length c.in_ok-generated.ensures.image ∙ image-size c.args.number in
    omega (arith, ram, size)

pub returns-clause-start : goal.returns-clause-start
returns-clause-start c =
    starts c.args.number (record { config = c.in_ok-config.config; machine = c.in_ok-machine.machine })
    (c.in_ok-config.ensures
    ∙ ap₂ settings_with c.in_ok-generated.ensures.quantum c.in_ok-generated.ensures.gap)
    (c.in_ok-machine.ensures.master
    ∙ ap (hart_with c.in_ok-config.config.ram c.in_ok-config.config.ports) c.in_ok-generated.ensures.image)
    (c.in_ok-machine.ensures.devices
    ∙ ap₂ devices_with c.in_ok-generated.ensures.input c.in_ok-generated.ensures.gap)
