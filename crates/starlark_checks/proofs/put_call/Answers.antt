-- `starlark_checks::put_call` meets its contract: it writes the words of the four values. Assumes nothing.
use Rattle.starlark_checks.proofs.Told.{call_laid}
use Rattle.starlark_checks.proofs.put_call.Goals as goal

pub returns : goal.returns
returns c = search call_laid
