-- `table::length_sound` meets its contract: it is the definition. Assumes nothing.
use borrow.Author.Rules.{rules}
use Rattle.table.specs.Check.{length_sound}
use Rattle.table.proofs.length_sound.Goals as goal

pub returns : goal.returns
unfolding length_sound
returns c = search rules
