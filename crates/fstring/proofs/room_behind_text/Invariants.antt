-- What the loop keeps.
use Rattle.fstring.proofs.Sizes.{Sizing}
use Rattle.fstring.proofs.room_behind_text.Given as goal

abbrev pub invariant-loop-c : goal.invariant-loop-c
invariant-loop-c l = Sizing l.bytes l.room l.spare l.c-index
