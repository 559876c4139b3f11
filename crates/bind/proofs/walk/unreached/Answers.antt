-- `bind::walk::unreached` meets its contract: the record's kind says the number. Assumes nothing.
use Rattle.bind.proofs.Steps.{unreached_positional, unreached_named, unreached_args, unreached_kwargs}
use Rattle.bind.specs.Binding.{unreached}
use Rattle.bind.proofs.walk.unreached.Goals as goal

pub returns-in-60 : goal.returns-in-60
unfolding unreached
returns-in-60 c = search unreached_positional

pub returns-in-61 : goal.returns-in-61
unfolding unreached
returns-in-61 c = search unreached_named

pub returns-in-62 : goal.returns-in-62
unfolding unreached
returns-in-62 c = search unreached_args

pub returns-in_default : goal.returns-in_default
unfolding unreached
returns-in_default c = search unreached_kwargs
