-- `bind::fill_words` meets its contract: the parts of the table hold what is bound. Assumes nothing.
use native.Mathlib.Omega.{arith}
use Rattle.bind.proofs.Whole.{call_within_lem, args_within, params_within, words_bound}
use Rattle.bind.proofs.fill_words.Goals as goal

pub first_argument-requires : goal.first_argument-requires
first_argument-requires c = search call_within_lem

pub fill-requires : goal.fill-requires
fill-requires c = (search args_within, search params_within, omega arith)

pub returns : goal.returns
returns c = search words_bound
