-- `arguments::past_positional` meets its contract: it is the definition, stage by stage. Assumes nothing.
use mathlib.Core.Path.{refl}
use Rattle.arguments.proofs.past_positional.Goals as goal

pub returns-in-Positional : goal.returns-in-Positional
returns-in-Positional c = rw c.in-Positional.is refl

pub returns-in-Named : goal.returns-in-Named
returns-in-Named c = rw c.in-Named.is refl

pub returns-in-Args : goal.returns-in-Args
returns-in-Args c = rw c.in-Args.is refl

pub returns-in-Kwargs : goal.returns-in-Kwargs
returns-in-Kwargs c = rw c.in-Kwargs.is refl
