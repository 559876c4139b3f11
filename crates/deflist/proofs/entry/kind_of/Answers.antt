-- `deflist::entry::kind_of` meets its contract: the record's kind decides. Assumes nothing.
use Rattle.deflist.proofs.Parts.{kind_normal_lem, kind_no_args_lem, kind_slash_lem, kind_args, kind_kwargs}
use Rattle.deflist.proofs.entry.kind_of.Goals as goal

pub returns-then-kind-eq-NORMAL : goal.returns-then-kind-eq-NORMAL
returns-then-kind-eq-NORMAL c = search kind_normal_lem

pub returns-then-kind-eq-NO_ARGS : goal.returns-then-kind-eq-NO_ARGS
returns-then-kind-eq-NO_ARGS c = search kind_no_args_lem

pub returns-then-kind-eq-SLASH : goal.returns-then-kind-eq-SLASH
returns-then-kind-eq-SLASH c = search kind_slash_lem

pub returns-then-kind-eq-ARGS_PARAM : goal.returns-then-kind-eq-ARGS_PARAM
returns-then-kind-eq-ARGS_PARAM c = search kind_args

pub returns : goal.returns
returns c = search kind_kwargs
