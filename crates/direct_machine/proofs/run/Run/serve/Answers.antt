use Rattle.std.proofs.Common.{refl, sym, ◌∙◌}
use Rattle.direct_machine.proofs.Serving.{has-size, served-now}
use Rattle.direct_machine.proofs.run.Run.serve.Goals as goal

pub serve-requires : goal.serve-requires
serve-requires g c = has-size g.D.Device.model g.met.D.Device.lawful _ _ (sym c.want.ensures ∙ c.in-Some.is)

pub returns-in-Ok-clause-serves : goal.returns-in-Ok-clause-serves
returns-in-Ok-clause-serves g c = served-now g.M.Master.model g.D.Device.model c.args.port c.args.self.now _ _ _ _ _ _ _ c.requires.there c.index.ensures c.index_mut-device.ensures.value (sym c.want.ensures ∙ c.in-Some.is) c.in_ok-reply.ensures c.due-due.ensures c.feed.ensures refl c.in-Ok.ensures.ok refl
