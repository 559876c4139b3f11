-- `parameters::unpack_into` meets its contract: 7, or what unpack says, with the modes kept. Assumes nothing.
use Rattle.parameters.proofs.Job.{listed_most, told_small, into_short, into_told}
use Rattle.parameters.proofs.unpack_into.Goals as goal

pub returns-then-has_more : goal.returns-then-has_more
returns-then-has_more c = search into_short

pub write_accepted-requires : goal.write_accepted-requires
write_accepted-requires c = search listed_most

pub answer-requires : goal.answer-requires
answer-requires c = search told_small

pub returns : goal.returns
returns c = search into_told
