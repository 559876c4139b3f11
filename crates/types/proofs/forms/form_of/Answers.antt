-- `types::forms::form_of` meets its contract: the tests in the order of the definition. Assumes nothing.
use Rattle.types.proofs.FormOf.{form_ellipsis, form_path, form_index, form_index2, form_list, form_tuple}
use Rattle.types.proofs.FormOf.{form_union, form_other}
use Rattle.types.proofs.forms.form_of.Goals as goal

pub returns-then-kind-eq-ELLIPSIS : goal.returns-then-kind-eq-ELLIPSIS
returns-then-kind-eq-ELLIPSIS c = form_ellipsis _ _ c.if-kind-eq-ELLIPSIS.true

pub returns-then-kind : goal.returns-then-kind
returns-then-kind c = search form_path

pub returns-then-kind-eq-INDEX : goal.returns-then-kind-eq-INDEX
returns-then-kind-eq-INDEX c = form_index _ _ c.if-kind-eq-INDEX.true

pub returns-then-kind-eq-INDEX2 : goal.returns-then-kind-eq-INDEX2
returns-then-kind-eq-INDEX2 c = form_index2 _ _ c.if-kind-eq-INDEX2.true

pub returns-then-kind-eq-LIST : goal.returns-then-kind-eq-LIST
returns-then-kind-eq-LIST c = form_list _ _ c.if-kind-eq-LIST.true

pub returns-then-kind-eq-TUPLE : goal.returns-then-kind-eq-TUPLE
returns-then-kind-eq-TUPLE c = form_tuple _ _ c.if-kind-eq-TUPLE.true

pub returns-then-kind-detail : goal.returns-then-kind-detail
returns-then-kind-detail c = search form_union

pub returns : goal.returns
returns c = search form_other
