-- What the loop keeps.
use lib.ListN.{length}
use Rattle.fstring.proofs.Tallying.{Tally}
use Rattle.fstring.proofs.judge_text.Given as goal

abbrev pub invariant-loop-left : goal.invariant-loop-left
invariant-loop-left l = Tally l.text l.left l.parts l.bytes l.run l.long

abbrev pub decreases-loop-left : goal.decreases-loop-left
decreases-loop-left l = length l.left
