-- `bind::entries::behind_callee` meets its contract: the part behind the first child. Assumes nothing.
use Rattle.bind.proofs.Steps.{behind_part}
use Rattle.bind.proofs.entries.behind_callee.Goals as goal

pub returns : goal.returns
returns c = search behind_part
