-- `fstring::first_form` meets its contract: the tests are those of the definition, in its order. Assumes nothing.
use Rattle.fstring.proofs.Forms.{form_plain, form_doubled, form_empty, form_converted, form_stray}
use Rattle.fstring.proofs.first_form.Goals as goal

pub returns-then-not-is_brace : goal.returns-then-not-is_brace
returns-then-not-is_brace c = search form_plain

pub returns-then-b-a : goal.returns-then-b-a
returns-then-b-a c = search form_doubled

pub returns-then-a-b : goal.returns-then-a-b
returns-then-a-b c = search form_empty

pub returns-then-a-b-2 : goal.returns-then-a-b-2
returns-then-a-b-2 c = search form_converted

pub returns : goal.returns
returns c = search form_stray
