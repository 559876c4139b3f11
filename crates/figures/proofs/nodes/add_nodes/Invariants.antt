-- What the loop keeps.
use Rattle.figures.proofs.ByKind.{Walk}
use Rattle.figures.proofs.nodes.add_nodes.Given as goal

abbrev pub invariant-loop-i : goal.invariant-loop-i
invariant-loop-i l = Walk l.table l.names l.initial.figures l.count l.figures l.i
