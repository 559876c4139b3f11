-- What the loop keeps.
use Rattle.parameters.proofs.Lists.{Writing}
use Rattle.parameters.proofs.write_modes.Given as goal

abbrev pub invariant-loop-left : goal.invariant-loop-left
invariant-loop-left l =
    Writing l.kids l.initial.modes l.initial.state l.modes l.left-iterator.nodes.left.now l.state
    l.flat.0
