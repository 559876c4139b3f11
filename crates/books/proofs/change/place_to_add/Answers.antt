-- `books::change::place_to_add` meets its contract: 95, 96, 98, or the first empty place. Assumes nothing.
use Rattle.books.proofs.Changing.{add_unsound, add_twice, add_again, add_full, add_placed}
use Rattle.books.proofs.change.place_to_add.Goals as goal

pub returns-then-not-sound_book : goal.returns-then-not-sound_book
returns-then-not-sound_book c = search add_unsound

pub returns-then-twice_in : goal.returns-then-twice_in
returns-then-twice_in c = search add_twice

pub returns-then-seen : goal.returns-then-seen
returns-then-seen c = search add_again

pub returns-then-first-eq0 : goal.returns-then-first-eq0
returns-then-first-eq0 c = search add_full

pub returns : goal.returns
returns c = search add_placed
