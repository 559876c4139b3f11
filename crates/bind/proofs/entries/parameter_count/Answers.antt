-- `bind::entries::parameter_count` meets its contract: the parameters are counted in the def's children. Assumes
-- nothing.
use Rattle.bind.proofs.Entry.{params_counted, params_few}
use Rattle.bind.proofs.entries.parameter_count.Goals as goal

pub returns : goal.returns
returns c = record { by_index = search params_counted; result_in_bounds = search params_few }
