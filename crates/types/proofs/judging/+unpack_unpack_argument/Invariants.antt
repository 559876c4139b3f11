-- What decreases, and what the loops keep.
use Rattle.forest.specs.Forest.{span_of, tree_of}
use Rattle.types.specs.Types.{«unpack», unpack_argument}
use Rattle.types.specs.declared.How.TheVariants.{AsArgument}
use Rattle.types.proofs.Reading.{Judging}
use Rattle.types.proofs.judging.+unpack_unpack_argument.Given as goal

abbrev pub decreases-unpack : goal.decreases-unpack
decreases-unpack l = span_of l.t.now

abbrev pub decreases-unpack_argument : goal.decreases-unpack_argument
decreases-unpack_argument l = span_of l.t.now

abbrev pub invariant-unpack-loop-place : goal.invariant-unpack-loop-place
invariant-unpack-loop-place l =
    Judging l.edition l.names l.reads.others l.t («unpack» l.edition l.names (tree_of l.node l.t))
    l.place-iterator.left.now l.place-iterator.at l.how

abbrev pub invariant-unpack_argument-loop-place : goal.invariant-unpack_argument-loop-place
invariant-unpack_argument-loop-place l =
    Judging l.edition l.names AsArgument l.t (unpack_argument l.edition l.names (tree_of l.node l.t))
    l.place-iterator.left.now l.place-iterator.at AsArgument
