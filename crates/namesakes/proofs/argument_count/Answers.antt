-- `namesakes::argument_count` meets its contract: the arguments follow the callee. Assumes nothing.
use Rattle.namesakes.proofs.Whole.{count_told}
use Rattle.namesakes.proofs.argument_count.Goals as goal

pub returns : goal.returns
returns c =
    let counted = c.count.ensures in
    let all = count_told _ _ c.stretch.ensures c.children-kids.ensures c.span-e.ensures _
    (counted.by_index, counted.result_in_bounds) in
    record { by_index = all.0; result_in_bounds = all.1 }
