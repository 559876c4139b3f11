-- `deflist::walk::count` meets its contract: it is the definition, kind by kind. Assumes nothing.
use mathlib.Core.Path.{refl}
use Rattle.deflist.proofs.walk.count.Goals as goal

pub returns-in-Normal : goal.returns-in-Normal
returns-in-Normal c = search (c.in-Normal.is, c.more_positional.ensures, c.one_more.ensures)

pub returns-in-NoArgs : goal.returns-in-NoArgs
returns-in-NoArgs c = rw c.in-NoArgs.is refl

pub returns-in-Slash : goal.returns-in-Slash
returns-in-Slash c = rw c.in-Slash.is refl

pub returns-in-Args : goal.returns-in-Args
returns-in-Args c = search (c.in-Args.is, c.one_more-in-Args.ensures)

pub returns-in-KwArgs : goal.returns-in-KwArgs
returns-in-KwArgs c = search (c.in-KwArgs.is, c.one_more-in-KwArgs.ensures)
