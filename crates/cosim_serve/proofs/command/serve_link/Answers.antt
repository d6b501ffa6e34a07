use Rattle.cosim_serve.proofs.Completing.{result-talks, result-blames, result-sound, link-completes}
use Rattle.device_turns.specs.Ends.{core_of}
use Rattle.cosim_serve.proofs.command.serve_link.Goals as goal

pub returns-clause-talks : goal.returns-clause-talks
returns-clause-talks g c =
    result-talks g.D.Device.model (core_of c.args.end.now) c.serve-served.new.end.clear c.args.port (g.L.Link.told c.args.link.now)
    c.serve-served.result c.result_of.result c.result_of.ensures c.serve-served.ensures.talk

pub returns-clause-blames : goal.returns-clause-blames
returns-clause-blames g c = result-blames c.args.port _ _ c.serve-served.result c.result_of.result c.result_of.ensures c.serve-served.ensures.counts

pub returns-clause-sound : goal.returns-clause-sound
returns-clause-sound g c = λ sound.
    result-sound c.args.port c.serve-served.result c.result_of.result c.result_of.ensures (c.serve-served.ensures.is_sound sound).1

pub returns-clause-complete : goal.returns-clause-complete
returns-clause-complete g c = λ sound w tells clean.
    link-completes g.D.Device.model (core_of c.args.end.now) c.serve-served.new.end.clear c.args.port (g.L.Link.told c.args.link.now) w
    c.result_of.result (g.met.L.Link.is_wire c.args.link.now) tells
    (result-sound c.args.port c.serve-served.result c.result_of.result c.result_of.ensures (c.serve-served.ensures.is_sound sound).1)
    (result-talks g.D.Device.model (core_of c.args.end.now) c.serve-served.new.end.clear c.args.port (g.L.Link.told c.args.link.now)
    c.serve-served.result c.result_of.result c.result_of.ensures c.serve-served.ensures.talk) clean
