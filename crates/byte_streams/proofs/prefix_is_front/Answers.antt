use Rattle.byte_streams.proofs.Prefixes.{IsPrefix-front_of, front-IsPrefix}
use Rattle.byte_streams.proofs.prefix_is_front.Goals as goal

pub returns : goal.returns
returns c = λ xs ys. (IsPrefix-front_of xs ys, front-IsPrefix xs ys)
