-- `books::change::remove_from` meets its contract: the removal is judged first and then written. Assumes nothing.
use Rattle.books.proofs.Changing.{remove_inside, removed}
use borrow.Author.Rules.{rules}
use Rattle.books.proofs.change.remove_from.Goals as goal

pub put_entry-requires : goal.put_entry-requires
put_entry-requires c = search (rules, remove_inside)

pub returns-in-Placed : goal.returns-in-Placed
returns-in-Placed c = search removed

pub returns-in-Refused : goal.returns-in-Refused
returns-in-Refused c = search removed

pub returns-in-Bare : goal.returns-in-Bare
returns-in-Bare c = search removed
