-- `deflist::Params::next` meets its contract: it goes on as a walk over nodes while a parameter begins.
-- Assumes nothing.
use Rattle.deflist.proofs.Reading.{gives_param}
use Rattle.deflist.proofs.ParamsIterator.next.Goals as goal

pub returns-clause-steps : goal.returns-clause-steps
returns-clause-steps c = let given = c.next.ensures.steps in search (gives_param, given)
