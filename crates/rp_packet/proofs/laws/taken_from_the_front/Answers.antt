use Rattle.rp_packet.specs.WalkLaws.{first-taken, first-nothing, first-refused, Spelled-more}
use Rattle.rp_packet.proofs.laws.taken_from_the_front.Goals as goal

pub returns-clause-taken : goal.returns-clause-taken
returns-clause-taken c = first-taken

pub returns-clause-more : goal.returns-clause-more
returns-clause-more c = Spelled-more

pub returns-clause-unfinished : goal.returns-clause-unfinished
returns-clause-unfinished c = first-nothing

pub returns-clause-refused : goal.returns-clause-refused
returns-clause-refused c = first-refused
