-- `fields::byte` meets its contract: past the end a list reads as its default. Assumes nothing.
use lib.ListN.{get_or-eq_default}
use Rattle.fields.proofs.byte.Goals as goal

pub returns-else-at-b : goal.returns-else-at-b
returns-else-at-b c = search get_or-eq_default
