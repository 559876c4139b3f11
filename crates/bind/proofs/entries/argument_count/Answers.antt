-- `bind::entries::argument_count` meets its contract: the arguments are counted behind the callee. Assumes nothing.
use Rattle.bind.proofs.Entry.{args_counted, args_few}
use Rattle.bind.proofs.entries.argument_count.Goals as goal

pub returns : goal.returns
returns c = record { by_index = search args_counted; result_in_bounds = search args_few }
