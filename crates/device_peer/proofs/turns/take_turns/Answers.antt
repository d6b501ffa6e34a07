use Rattle.std.proofs.Common.{sym, ◌∙◌}
use Rattle.device_peer.specs.TurnLaws.{continues-on, faulty-all, ready-lowers, unready-all}
use Rattle.device_peer.proofs.turns.take_turns.Goals as goal

pub turns-preserved : goal.turns-preserved
turns-preserved g c =
    continues-on g.D.Device.model c.args.end.now c.turns.end c.turn.new.self c.args.said.now.bytes c.turns.said.bytes
    c.turn.new.out.bytes c.turn.result c.turns.invariant c.turn.ensures.turns c.turn.ensures.runs

pub turns-smaller : goal.turns-smaller
turns-smaller g c =
    ready-lowers g.D.Device.model c.turns.end c.turn.new.self c.turns.said.bytes c.turn.new.out.bytes c.in-Ok.field-0
    (sym c.ready.ensures ∙ c.turns-test.true) c.in-Ok.ensures.turns

pub returns-in-Err-clause-runs : goal.returns-in-Err-clause-runs
returns-in-Err-clause-runs g c =
    continues-on g.D.Device.model c.args.end.now c.turns.end c.turn.new.self c.args.said.now.bytes c.turns.said.bytes
    c.turn.new.out.bytes c.turn.result c.turns.invariant c.turn.ensures.turns c.turn.ensures.runs

pub returns-in-Err-clause-all : goal.returns-in-Err-clause-all
returns-in-Err-clause-all g c =
    faulty-all g.D.Device.model c.turn.new.self c.in-Err.fault c.only_memory.result c.only_memory.ensures c.in-Err.ensures.all

pub returns-clause-all : goal.returns-clause-all
returns-clause-all g c = unready-all g.D.Device.model c.turns.end (sym c.ready.ensures ∙ c.turns-test.false)
