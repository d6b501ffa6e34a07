use Rattle.std.proofs.Common.{◌≡◌, subst, IfOk}
use Rattle.cos_api.proofs.Lanes.{enabled-mask}
use Rattle.cos_api.proofs.service.store.Goals as goal

pub returns : goal.returns
returns g c = subst (λ ons. IfOk c.write.result (λ code. g.M.Master.model.write c.args.master.now c.args.addr c.args.bytes.now ons ≡ (c.write.new.self, code))) (enabled-mask c.write_enables.new.out _ c.args.mask _ c.write_enables.ensures c.zeros-enables.ensures c.requires.few) c.write.ensures.ok
