-- `books::change::two` meets its contract: byte by byte, the low one first. Assumes nothing.
use Rattle.fields.specs.Field.{bytes_of}
use borrow.Author.Rules.{rules}
use Rattle.books.proofs.change.two.Goals as goal

pub returns : goal.returns
unfolding bytes_of
returns c = search rules
