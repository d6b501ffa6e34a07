use Rattle.std.proofs.Common.{refl, inr, subst}
use Rattle.outcomes.specs.Asked.{asking}
use Rattle.outcomes.specs.Seen.{seen}
use Rattle.outcomes.proofs.After.{both, joined-told}
use Rattle.outcomes.proofs.Asking.{both_asked}
use Rattle.cos_parts.specs.AnyDevices.{any_model}
use Rattle.cosim_serve.specs.Serves.{Serves}
use Rattle.cosim_device.specs.Ports.{port_names, result_of}
use Rattle.cosim_device.specs.Served.{Finishes}
use Rattle.cosim_device.proofs.Finishing.{finishes-after}
use Rattle.cosim_device.proofs.port.serve_port.Goals as goal

pub returns-in-Ok : goal.returns-in-Ok
returns-in-Ok g c =
    let made = c.in-Ok.ensures.ok in
    let serves = c.serve_made.ensures in
    let f = seen g.F.Files.count g.F.Files.told c.args.files.now c.read_port.new.files in
    let h = seen g.F.Files.count g.F.Files.told c.read_port.new.files c.serve_made.new.files in
    let a = asking g.F.Files.told g.F.Files.asked c.args.files.now c.read_port.new.files in
    let b = asking g.F.Files.told g.F.Files.asked c.read_port.new.files c.serve_made.new.files in
    let finishes = finishes-after (result_of c.in-Ok.made.result serves.left.device) (port_names c.args.config.now c.args.port) f h a b
    (g.F.Files.sound c.args.files.now) (g.F.Files.sound c.read_port.new.files) serves.served c.serve_made.result made.stands refl refl (joined-told f h made.stands refl, refl)
    c.in-Ok.ensures.asks (λ is. (c.in-Ok.ensures.is_sound is).0) serves.finishes in
    inr (record {
      settings = made.settings;
      device = c.in-Ok.made.end.clear.device;
      is_found = made.is_found;
      left = serves.left;
      served = serves.served;
      serves = subst (λ e. Serves any_model e.clear serves.left c.args.port (record {
        told = g.N.Link.Link.told;
        count = g.N.Link.Link.count;
        is_sound = g.N.Network.sound c.args.net.now;
      }) c.args.socket.now (seen g.N.Network.count g.N.Network.told c.args.net.now c.serve_made.new.net) serves.served) made.end serves.serves;
      finishes = subst (λ n. Finishes (result_of n serves.left.device) (port_names c.args.config.now c.args.port) (both f h) (both_asked a b) (g.F.Files.sound c.args.files.now) serves.served c.serve_made.result) made.result finishes;
    })
