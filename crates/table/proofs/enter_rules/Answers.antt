-- `table::enter_rules` meets its contract: 1 to 5 for the dialect bytes, then 5 for the edition. Assumes nothing.
use Rattle.std.proofs.Common.{rules}
use Rattle.table.proofs.Ruling.{rules_away, rules_in_lem, rules_bad}
use Rattle.table.specs.Check.{rules_of}
use Rattle.table.proofs.enter_rules.Goals as goal

pub returns-in_err-d : goal.returns-in_err-d
returns-in_err-d c = search (rules, rules_away)

pub returns-in_err-e : goal.returns-in_err-e
unfolding rules_of
returns-in_err-e c = search (rules, rules_bad)

pub returns : goal.returns
unfolding rules_of
returns c = search (rules, rules_in_lem)
