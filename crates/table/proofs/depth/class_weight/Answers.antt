-- `table::depth::class_weight` meets its contract: a law for each class. Assumes nothing.
use borrow.Author.Rules.{rules}
use Rattle.table.proofs.Deep.{statement_weight, expression_weight, parameter_weight, argument_weight, no_weight}
use Rattle.table.proofs.depth.class_weight.Goals as goal

pub returns-in-1 : goal.returns-in-1
returns-in-1 c = search statement_weight

pub returns-in-2 : goal.returns-in-2
returns-in-2 c = search expression_weight

pub returns-in-3 : goal.returns-in-3
returns-in-3 c = search parameter_weight

pub returns-in-4 : goal.returns-in-4
returns-in-4 c = search argument_weight

pub returns-in_default : goal.returns-in_default
returns-in_default c = no_weight (search rules) (search rules)
