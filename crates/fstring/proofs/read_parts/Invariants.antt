-- What the loop keeps.
use lib.ListN.{length}
use Rattle.fstring.proofs.Storing.{Stored}
use Rattle.fstring.proofs.read_parts.Given as goal

abbrev pub invariant-loop-left : goal.invariant-loop-left
invariant-loop-left l =
    Stored l.text l.initial.parts l.initial.texts
    l.left l.parts l.texts l.count l.bytes l.run

abbrev pub decreases-loop-left : goal.decreases-loop-left
decreases-loop-left l = length l.left
