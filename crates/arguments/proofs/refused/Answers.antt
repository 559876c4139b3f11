-- `arguments::refused` meets its contract: 22 has the name's span and the earlier argument, the others the argument's
-- span. Assumes nothing.
use Rattle.arguments.proofs.Steps.{carried_small, refused_again}
use Rattle.arguments.proofs.refused.Goals as goal

pub overflow_cast-earlier : goal.overflow_cast-earlier
overflow_cast-earlier c = record { fits = search carried_small }

pub returns-in-Broken : goal.returns-in-Broken
returns-in-Broken c = rw c.in-Broken.is c.refused_at.ensures

pub returns-in-Repeated : goal.returns-in-Repeated
returns-in-Repeated c = search refused_again
