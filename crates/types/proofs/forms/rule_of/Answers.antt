-- `types::forms::rule_of` meets its contract: an argument is a List, or is read as a type. Assumes nothing.
use Rattle.types.proofs.FormOf.{rule_unread, rule_type, rule_list, rule_other}
use Rattle.types.proofs.forms.rule_of.Goals as goal

pub returns-then-kind-eq-LIST : goal.returns-then-kind-eq-LIST
returns-then-kind-eq-LIST c = search rule_list

pub returns-in-Unread : goal.returns-in-Unread
returns-in-Unread c = search rule_unread

pub returns-in-AsType : goal.returns-in-AsType
returns-in-AsType c = search rule_type

pub returns-else-kind-eq-LIST : goal.returns-else-kind-eq-LIST
returns-else-kind-eq-LIST c = search rule_other
