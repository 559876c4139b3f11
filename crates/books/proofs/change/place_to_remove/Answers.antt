-- `books::change::place_to_remove` meets its contract: 95, 96, 97, or the place. Assumes nothing.
use Rattle.books.proofs.Changing.{remove_unsound, remove_twice, remove_none, remove_placed}
use Rattle.books.proofs.change.place_to_remove.Goals as goal

pub returns-then-not-sound_book : goal.returns-then-not-sound_book
returns-then-not-sound_book c = search remove_unsound

pub returns-then-twice_in : goal.returns-then-twice_in
returns-then-twice_in c = search remove_twice

pub returns-then-first-eq0 : goal.returns-then-first-eq0
returns-then-first-eq0 c = search remove_none

pub returns : goal.returns
returns c = search remove_placed
