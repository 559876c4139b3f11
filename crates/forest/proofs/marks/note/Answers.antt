-- `forest::marks::note` meets its contract: a place is read and written as the definitions say. Assumes nothing.
use borrow.Author.Rules.{rules}
use Rattle.forest.proofs.Marked.{place_in, note_none, note_may, note_set}
use Rattle.forest.proofs.marks.note.Goals as goal

pub returns-then-n-eq0 : goal.returns-then-n-eq0
returns-then-n-eq0 c = let all = note_none _ _ (search rules) in record { value = all.0; marks_after = all.1 }

pub bounds-marks-at : goal.bounds-marks-at
bounds-marks-at c = search place_in

pub bounds-marks-at-2 : goal.bounds-marks-at-2
bounds-marks-at-2 c = search place_in

pub returns : goal.returns
returns c = search (note_may, note_set)
