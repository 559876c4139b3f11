-- `figures::nodes::add_call` meets its contract: one more accepted or refused call. Assumes nothing.
use Rattle.figures.proofs.Lists.{call_accepted, call_refused}
use Rattle.figures.proofs.nodes.add_call.Goals as goal

pub returns-in-Ok : goal.returns-in-Ok
returns-in-Ok c = search call_accepted

pub returns-in-Err : goal.returns-in-Err
returns-in-Err c = search call_refused
