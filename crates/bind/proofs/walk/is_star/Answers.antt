-- `bind::walk::is_star` meets its contract: the record's kind says the argument's. Assumes nothing.
use Rattle.bind.proofs.Steps.{star_positional, star_named, star_args_lem, star_kwargs}
use Rattle.bind.proofs.walk.is_star.Goals as goal

pub returns-in-60 : goal.returns-in-60
returns-in-60 c = search star_positional

pub returns-in-61 : goal.returns-in-61
returns-in-61 c = search star_named

pub returns-in-62 : goal.returns-in-62
returns-in-62 c = search star_args_lem

pub returns-in_default : goal.returns-in_default
returns-in_default c = search star_kwargs
