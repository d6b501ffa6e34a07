use Rattle.cos_api.proofs.Lanes.{fetched}
use Rattle.cos_api.proofs.service.fetch.Goals as goal

pub returns-clause-bytes : goal.returns-clause-bytes
returns-clause-bytes g c = fetched (λ n. g.M.Master.model.read c.args.master.now c.args.addr n) _ _ _ _ _ (λ n. (g.met.M.Master.lawful.read_is c.args.master.now c.args.addr n).0) c.zeros-bytes.ensures c.from.ensures c.requires c.read-code.ensures
