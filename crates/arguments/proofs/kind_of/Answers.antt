-- `arguments::kind_of` meets its contract: the record's kind says the argument's. Assumes nothing.
use Rattle.arguments.proofs.Steps.{kind_positional_lem, kind_named_lem, kind_args, kind_kwargs}
use Rattle.arguments.proofs.kind_of.Goals as goal

pub returns-in-60 : goal.returns-in-60
returns-in-60 c = search kind_positional_lem

pub returns-in-61 : goal.returns-in-61
returns-in-61 c = search kind_named_lem

pub returns-in-62 : goal.returns-in-62
returns-in-62 c = search kind_args

pub returns-in_default : goal.returns-in_default
returns-in_default c = search kind_kwargs
