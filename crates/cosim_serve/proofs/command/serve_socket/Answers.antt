use Rattle.outcomes.specs.Seen.{seen}
use Rattle.device_turns.specs.Ends.{core_of}
use Rattle.cosim_serve.proofs.Completing.{first-sound, hands-completes, sound-result}
use Rattle.cosim_serve.proofs.Handing.{hands-talk, hands-blames, hands-names, hands-lacks}
use Rattle.cosim_serve.proofs.command.serve_socket.Goals as goal

pub returns-in-Ok : goal.returns-in-Ok
returns-in-Ok g c =
    let net = seen g.N.Network.count g.N.Network.told c.args.net.now c.connect.new.self in
    let start = core_of c.args.end.now in
    let hands = c.in-Ok.ensures.tells in
    let is_sound : g.N.Network.sound c.args.net.now → g.N.Link.Link.sound c.in-Ok.link =
    λ is. first-sound g.N.Link.Link.sound net.old net.new _ _ (g.met.N.Network.sound_tells c.args.net.now is) hands in
    record {
      talks = hands-talk g.D.Device.model start c.serve_link.new.end.clear c.args.port _ _ _ _ _ _ hands c.serve_link.ensures.talks;
      blames = hands-blames c.args.port _ _ net _ _ _ hands c.in-Ok.ensures.counts c.serve_link.ensures.blames;
      names = hands-names c.args.port _ _ _ _ _ _ _ hands c.serve_link.ensures.blames;
      lacks = hands-lacks _ _ _ _ _ hands;
      sound = λ is. sound-result _ _ (c.serve_link.ensures.sound (is_sound is));
      complete = λ is. hands-completes g.D.Device.model start _ _ _ _ _ _ hands (c.serve_link.ensures.complete (is_sound is));
    }
