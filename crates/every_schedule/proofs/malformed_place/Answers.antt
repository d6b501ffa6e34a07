use Rattle.cosim_model.proofs.Streams.{one_place, still_malformed}
use Rattle.every_schedule.proofs.Places.{device_placed, machine_placed}
use Rattle.every_schedule.proofs.malformed_place.Goals as goal

pub returns-clause-device : goal.returns-clause-device
returns-clause-device g c side s x turns l sent run = device_placed g.M.System.master g.M.System.device g.M.System.codec x side s turns l sent run

pub returns-clause-machine : goal.returns-clause-machine
returns-clause-machine g c plan m ports x turns h sent run p = (machine_placed g.M.System.master g.M.System.device g.M.System.codec x plan m ports turns h sent run).1 p

pub returns-clause-one_place : goal.returns-clause-one_place
returns-clause-one_place g c x start other cause another is also = let same = one_place g.M.System.codec x start other cause another is also in (same.1, same.2)

pub returns-clause-lasting : goal.returns-clause-lasting
returns-clause-lasting g c x more start cause is = still_malformed g.M.System.codec g.met.M.System.codec_laws.decided x more start cause is
