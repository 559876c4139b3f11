-- `types::forms::form` meets its contract: the form of the record's kind and detail. Assumes nothing.
use Rattle.types.proofs.FormOf.{form_same}
use Rattle.types.proofs.forms.form.Goals as goal

pub returns : goal.returns
returns c = search form_same
