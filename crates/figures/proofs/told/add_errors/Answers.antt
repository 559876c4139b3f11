-- `figures::told::add_errors` meets its contract: the number of each error is counted. Assumes nothing.
use Rattle.figures.proofs.Occurring.{numbers_there, errors_added}
use Rattle.figures.proofs.told.add_errors.Goals as goal

pub slice_bounds-add_numbers-end : goal.slice_bounds-add_numbers-end
slice_bounds-add_numbers-end c = search numbers_there

pub returns : goal.returns
returns c = search errors_added
