-- `books::places::sound_book` meets its contract: the length, the blocks, the places. Assumes nothing.
use Rattle.books.proofs.Laws.{book_length, book_blocks, book_places}
use Rattle.books.proofs.places.sound_book.Goals as goal

pub returns-then-not-size : goal.returns-then-not-size
returns-then-not-size c = search book_length

pub returns-then-not-sound_blocks : goal.returns-then-not-sound_blocks
returns-then-not-sound_blocks c = search book_blocks

pub returns : goal.returns
returns c = search book_places
