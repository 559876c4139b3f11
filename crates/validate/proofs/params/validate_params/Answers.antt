-- `validate::params::validate_params` meets its contract: the three checks, each lent what is still free. Assumes
-- nothing.
use Rattle.validate.proofs.Lists.{kids_within, params_all}
use Rattle.validate.proofs.params.validate_params.Goals as goal

pub marks_of-stars-requires : goal.marks_of-stars-requires
marks_of-stars-requires c = search kids_within

pub marks_of-slashes-requires : goal.marks_of-slashes-requires
marks_of-slashes-requires c = search kids_within

pub returns : goal.returns
returns c = search params_all
