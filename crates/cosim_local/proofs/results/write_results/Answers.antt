use Rattle.std.proofs.Common.{◌<◌, ◌+◌, length, drop, refl, arith}
use Rattle.outcomes.specs.Asked.{asking}
use Rattle.outcomes.specs.Seen.{seen}
use Rattle.world.specs.Seats.{leaf_of}
use Rattle.cosim_local.specs.Results.{result_of, results_of}
use Rattle.cosim_local.specs.Steps.{devices_in}
use Rattle.cosim_local.proofs.Writing.{has-next, has-more, stopped-writes, stopped-asks}
use Rattle.cosim_local.proofs.results.write_results.Goals as goal

pub returns-in-Err-clause-writes : goal.returns-in-Err-clause-writes
returns-in-Err-clause-writes g c =
    let n = c.loop-port.port in
    let p = c.index-ports-port.result in
    let whole = results_of c.args.ports.now (devices_in c.args.world.now) in
    let left = results_of (drop (n + 1) c.args.ports.now) (drop (n + 1) (devices_in c.args.world.now)) in
    let one = result_of p.result c.device.result.now in
    let f = seen g.F.Files.count g.F.Files.told c.args.files.now c.loop-port.files in
    let h = seen g.F.Files.count g.F.Files.told c.loop-port.files c.write_result.new.files in
    let a = asking g.F.Files.told g.F.Files.asked c.args.files.now c.loop-port.files in
    let b = asking g.F.Files.told g.F.Files.asked c.loop-port.files c.write_result.new.files in
    let S = g.F.Files.sound c.args.files.now in
    let T = g.F.Files.sound c.loop-port.files in
    let small : n < length c.args.ports.now = omega (arith, c.loop-port-test.true) in
    let has = has-next whole f a S T c.args.ports.now c.args.world.now n p c.device.result.now
    (leaf_of c.device-end.result.now) small c.index-ports-port.is c.device.ensures c.device-end.ensures
    c.loop-port.invariant in
    stopped-writes whole one left f h a S T c.in-Err.failure has refl refl c.in-Err.ensures.writes

pub returns-in-Err-clause-asks : goal.returns-in-Err-clause-asks
returns-in-Err-clause-asks g c =
    let n = c.loop-port.port in
    let p = c.index-ports-port.result in
    let whole = results_of c.args.ports.now (devices_in c.args.world.now) in
    let left = results_of (drop (n + 1) c.args.ports.now) (drop (n + 1) (devices_in c.args.world.now)) in
    let one = result_of p.result c.device.result.now in
    let f = seen g.F.Files.count g.F.Files.told c.args.files.now c.loop-port.files in
    let h = seen g.F.Files.count g.F.Files.told c.loop-port.files c.write_result.new.files in
    let a = asking g.F.Files.told g.F.Files.asked c.args.files.now c.loop-port.files in
    let b = asking g.F.Files.told g.F.Files.asked c.loop-port.files c.write_result.new.files in
    let S = g.F.Files.sound c.args.files.now in
    let T = g.F.Files.sound c.loop-port.files in
    let small : n < length c.args.ports.now = omega (arith, c.loop-port-test.true) in
    let has = has-next whole f a S T c.args.ports.now c.args.world.now n p c.device.result.now
    (leaf_of c.device-end.result.now) small c.index-ports-port.is c.device.ensures c.device-end.ensures
    c.loop-port.invariant in
    stopped-asks whole one left f h a b S T has refl refl refl refl c.in-Err.ensures.asks

pub loop-port-preserved : goal.loop-port-preserved
loop-port-preserved g c =
    let n = c.loop-port.port in
    let p = c.index-ports-port.result in
    let whole = results_of c.args.ports.now (devices_in c.args.world.now) in
    let left = results_of (drop (n + 1) c.args.ports.now) (drop (n + 1) (devices_in c.args.world.now)) in
    let one = result_of p.result c.device.result.now in
    let f = seen g.F.Files.count g.F.Files.told c.args.files.now c.loop-port.files in
    let h = seen g.F.Files.count g.F.Files.told c.loop-port.files c.write_result.new.files in
    let a = asking g.F.Files.told g.F.Files.asked c.args.files.now c.loop-port.files in
    let b = asking g.F.Files.told g.F.Files.asked c.loop-port.files c.write_result.new.files in
    let S = g.F.Files.sound c.args.files.now in
    let T = g.F.Files.sound c.loop-port.files in
    let small : n < length c.args.ports.now = omega (arith, c.loop-port-test.true) in
    let has = has-next whole f a S T c.args.ports.now c.args.world.now n p c.device.result.now
    (leaf_of c.device-end.result.now) small c.index-ports-port.is c.device.ensures c.device-end.ensures
    c.loop-port.invariant in
    has-more whole one left f h a b S T (g.F.Files.sound c.write_result.new.files) has refl refl refl refl refl
    c.in-Ok.ensures.writes c.in-Ok.ensures.asks (λ s. (c.in-Ok.ensures.is_sound s).0)
