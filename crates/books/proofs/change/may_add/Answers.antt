-- `books::change::may_add` meets its contract: three tests. Assumes nothing.
use Rattle.books.proofs.Changing.{may_add_is}
use Rattle.books.proofs.change.may_add.Goals as goal

pub returns : goal.returns
returns c = search may_add_is
