-- `starlark_checks::put_kept` meets its contract: six words are written one after the other. Assumes nothing.
use mathlib.Core.Path.{refl}
use Rattle.starlark_checks.proofs.put_kept.Goals as goal

pub returns : goal.returns
returns c = refl
