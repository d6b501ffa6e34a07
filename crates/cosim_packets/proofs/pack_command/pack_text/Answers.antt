use Rattle.cosim_packets.specs.Packed.{NoText}
use Rattle.cosim_packets.proofs.PackSteps.{packs-text}
use Rattle.cosim_packets.proofs.pack_command.pack_text.Goals as goal

pub returns-in-Ok : goal.returns-in-Ok
returns-in-Ok c = packs-text c.args.text.now c.pack_lines.new.out.bytes c.pack_lines.result c.in-Ok.ensures.cases.1 c.pack_lines.ensures

pub returns-in-Err : goal.returns-in-Err
returns-in-Err c = NoText c.in-Err.ensures.cases.0
