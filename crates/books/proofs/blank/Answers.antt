-- `books::blank` meets its contract: 95, or an empty book. Assumes nothing.
use Rattle.books.proofs.Blanks.{blank_refused, blank_stays, blank_blocks_lem, blank_accepted, blank_made}
use Rattle.books.proofs.blank.Goals as goal

pub returns-then-not-sound_length : goal.returns-then-not-sound_length
returns-then-not-sound_length c = search (blank_refused, blank_stays)

pub blank_blocks-requires : goal.blank_blocks-requires
blank_blocks-requires c = search blank_blocks_lem

pub returns : goal.returns
returns c = search (blank_accepted, blank_made)
