-- What the loop keeps.
use Rattle.books.proofs.Laws.{Sounding}
use Rattle.books.proofs.places.sound_places.Given as goal

abbrev pub invariant-loop-p : goal.invariant-loop-p
invariant-loop-p l = Sounding l.line l.book l.p
