use Rattle.std.proofs.Common.{arith}
use Rattle.cosim_packets.proofs.ListLaws.{listed-start, listed-next, listed-all, lists-until, adds-some}
use Rattle.cosim_packets.proofs.listing.list.Goals as goal

pub packets-init : goal.packets-init
packets-init c = listed-start _ _ c.requires

pub packets-preserved : goal.packets-preserved
packets-preserved c = listed-next _ _ _ _ _ _ c.split_at.ensures.back c.packets.invariant c.in-Ok.ensures

pub packets-smaller : goal.packets-smaller
packets-smaller c = let some = adds-some _ _ _ _ c.in-Ok.ensures in omega (arith, some, c.packets-test.true)

pub returns-in-Err : goal.returns-in-Err
returns-in-Err c = lists-until _ _ _ _ _ _ c.split_at.ensures.back c.packets-test.true c.packets.invariant c.in-Err.ensures

pub returns : goal.returns
returns c = listed-all _ _ _ c.packets-test.false c.packets.invariant
