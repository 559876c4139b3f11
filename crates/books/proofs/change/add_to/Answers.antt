-- `books::change::add_to` meets its contract: the entry is judged first and then written. Assumes nothing.
use Rattle.books.proofs.Changing.{may_nine, add_inside, add_away, add_to, written}
use borrow.Author.Rules.{rules}
use Rattle.books.proofs.change.add_to.Goals as goal

pub returns-then-not-may_add : goal.returns-then-not-may_add
returns-then-not-may_add c = search add_away

pub entry_of-e-requires : goal.entry_of-e-requires
entry_of-e-requires c = search may_nine

pub put_entry-requires : goal.put_entry-requires
put_entry-requires c = search (rules, add_inside)

pub returns-in-Placed : goal.returns-in-Placed
returns-in-Placed c = search (add_to, written)

pub returns-in-Refused : goal.returns-in-Refused
returns-in-Refused c = search add_to

pub returns-in-Bare : goal.returns-in-Bare
returns-in-Bare c = search add_to
