-- What decreases, and what the loops keep.
use lib.ListN.{length}
use Rattle.forest.specs.Forest.{span_of}
use Rattle.types.specs.Forms.{arguments_only}
use Rattle.types.specs.declared.How.TheVariants.{AsArgument}
use Rattle.shapes.proofs.Writing.{Writing, kids_written}
use Rattle.shapes.proofs.walk.+write_write_argument.Given as goal

abbrev pub decreases-write : goal.decreases-write
decreases-write l = span_of l.t.now

abbrev pub decreases-write_argument : goal.decreases-write_argument
decreases-write_argument l = span_of l.t.now

abbrev pub invariant-write-loop-here : goal.invariant-write-loop-here
invariant-write-loop-here l =
    Writing l.reads.others l.t l.at (kids_written l.reads l.at l.t l.e l.initial.shapes) (length l.initial.shapes)
    l.here-iterator.left.now l.here-iterator.at l.how l.shapes

abbrev pub invariant-write_argument-loop-here : goal.invariant-write_argument-loop-here
invariant-write_argument-loop-here l =
    Writing AsArgument l.t l.at (kids_written arguments_only l.at l.t l.e l.initial.shapes) (length l.initial.shapes)
    l.here-iterator.left.now l.here-iterator.at AsArgument l.shapes
