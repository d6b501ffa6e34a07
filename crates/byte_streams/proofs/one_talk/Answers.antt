use Rattle.byte_streams.proofs.Talks.{talk-once}
use Rattle.byte_streams.proofs.one_talk.Goals as goal

pub returns : goal.returns
returns c = talk-once
