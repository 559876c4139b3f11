-- `forest::size` meets its contract. Assumes nothing.
use borrow.Author.Rules.{rules}
use Rattle.forest.specs.Forest.{size_of}
use Rattle.forest.proofs.size.Goals as goal

pub half-requires : goal.half-requires
unfolding size_of
half-requires c = search rules

pub returns : goal.returns
unfolding size_of
returns c = search rules
