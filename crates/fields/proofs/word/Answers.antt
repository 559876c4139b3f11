-- `fields::word` meets its contract: two halves of the part from its start on. Assumes nothing.
use Rattle.fields.proofs.Fields.{field_past, field_halves}
use Rattle.fields.proofs.word.Goals as goal

pub returns-then-b-at : goal.returns-then-b-at
returns-then-b-at c = search field_past

pub returns : goal.returns
returns c = search field_halves
