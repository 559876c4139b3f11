-- `starlark_checks::put_two` meets its contract: the two words are written first. Assumes nothing.
use mathlib.Core.Path.{refl}
use Rattle.starlark_checks.proofs.put_two.Goals as goal

pub returns : goal.returns
returns c = record { value = refl; out_after = refl }
