-- `books::search::fits` meets its contract: two fields, and whether it is empty. Assumes nothing.
use Rattle.books.proofs.Laws.{fits_is}
use Rattle.books.proofs.search.fits.Goals as goal

pub returns : goal.returns
returns c = search fits_is
