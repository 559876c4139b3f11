-- `namesakes::enter` meets its contract: 1 to 4, then 6 for either node, then 7. Assumes nothing.
use Rattle.std.proofs.Common.{rules}
use Rattle.namesakes.proofs.Steps.{enter_refused, enter_no_def, enter_short, enter_passed}
use Rattle.namesakes.proofs.enter.Goals as goal

pub returns-in_err-enter : goal.returns-in_err-enter
returns-in_err-enter c = search (rules, enter_refused)

pub returns-then-not-is_def : goal.returns-then-not-is_def
returns-then-not-is_def c = search (enter_no_def, c.in_ok-enter.was)

pub returns-then-room-argument_count : goal.returns-then-room-argument_count
returns-then-room-argument_count c = search (enter_short, c.in_ok-enter.was)

pub returns : goal.returns
returns c = search (enter_passed, c.in_ok-enter.was)
