-- `fields::long` meets its contract: two fields of four bytes of the part from its start on. Assumes nothing.
use Rattle.fields.proofs.Fields.{field_past, field_words}
use Rattle.fields.proofs.long.Goals as goal

pub returns-then-b-at : goal.returns-then-b-at
returns-then-b-at c = search field_past

pub returns : goal.returns
returns c = search field_words
