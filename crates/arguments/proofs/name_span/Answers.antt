-- `arguments::name_span` meets its contract: begin and end are the name's, the file is the argument's. Assumes nothing.

use Rattle.arguments.proofs.name_span.Goals as goal

pub returns : goal.returns
returns c = cc
