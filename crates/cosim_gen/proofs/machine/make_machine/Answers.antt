use Rattle.std.proofs.Common.{◌≡◌, None, length, sym, subst}
use Rattle.cosim_inputs.specs.Fresh.{windows_of}
use Rattle.cosim_inputs.proofs.Mapping.{makes-map}
use Rattle.sys_bus.specs.Maps.{fault_found}
use Rattle.cosim_gen.proofs.machine.make_machine.Goals as goal

pub make_hart-requires : goal.make_hart-requires
make_hart-requires c =
    subst (λ ps. fault_found (windows_of ps) (length c.in_ok-ram.ram) ≡ None) (sym c.as_slice-2.ensures)
    (makes-map c.args.config.now _ c.requires.limits c.in_ok-ram.ensures.size)
