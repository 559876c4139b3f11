-- `books::places::piece` meets its contract: no bytes, fewer than n, or n. Assumes nothing.
use Rattle.books.proofs.Laws.{piece_none, piece_cut, piece_whole}
use Rattle.books.proofs.places.piece.Goals as goal

pub returns-then-bytes-at : goal.returns-then-bytes-at
returns-then-bytes-at c = search piece_none

pub returns-then-rest-n : goal.returns-then-rest-n
returns-then-rest-n c = search piece_cut

pub returns : goal.returns
returns c = search piece_whole
