-- `fields::half` meets its contract: two bytes, low byte first. Assumes nothing.
use borrow.Author.Rules.{rules}
use Rattle.fields.specs.Field.{field}
use Rattle.fields.proofs.Fields.{field_past}
use Rattle.fields.proofs.half.Goals as goal

pub returns-then-b-at : goal.returns-then-b-at
returns-then-b-at c = search field_past

pub returns : goal.returns
unfolding field
returns c = search rules
