use Rattle.device_turns.specs.EndLaws.{feeds-run}
use Rattle.device_turns.proofs.device.DeviceEnd.feed.Goals as goal

pub returns-in-Ok-clause-runs : goal.returns-in-Ok-clause-runs
returns-in-Ok-clause-runs g c =
    feeds-run g.D.Device.model c.args.bytes.now c.args.self.now c.hold.new.self c.in-Ok.ensures.ok
