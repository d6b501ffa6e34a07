use Rattle.std.proofs.Common.{refl, subst}
use Rattle.outcomes.specs.Seen.{seen}
use Rattle.device_turns.specs.Ends.{core_of}
use Rattle.cosim_serve.specs.Serves.{Serves}
use Rattle.cosim_device.specs.Starts.{plain_start}
use Rattle.cosim_device.proofs.Unserved.{unserved}
use Rattle.cosim_device.proofs.plain.serve_plain.Goals as goal

pub returns-in-Err : goal.returns-in-Err
returns-in-Err g c =
    let start = plain_start g.D.Device.model c.args.device in (
      start,
      unserved g.D.Device.model start 0 (record {
        told = g.N.Link.Link.told;
        count = g.N.Link.Link.count;
        is_sound = g.N.Network.sound c.args.net.now;
      }) c.args.socket.now (seen g.N.Network.count g.N.Network.told c.args.net.now c.args.net.now) refl refl,
    )

pub returns : goal.returns
returns g c = (
  c.serve_socket.new.end.clear,
  subst (λ e. Serves g.D.Device.model (core_of e) c.serve_socket.new.end.clear 0 (record {
    told = g.N.Link.Link.told;
    count = g.N.Link.Link.count;
    is_sound = g.N.Network.sound c.args.net.now;
  }) c.args.socket.now (seen g.N.Network.count g.N.Network.told c.args.net.now c.serve_socket.new.net) c.serve_socket.result) c.in-Ok.ensures c.serve_socket.ensures,
)
