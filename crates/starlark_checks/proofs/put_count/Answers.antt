-- `starlark_checks::put_count` meets its contract: the one word is written first. Assumes nothing.
use mathlib.Core.Path.{refl}
use Rattle.starlark_checks.proofs.put_count.Goals as goal

pub returns : goal.returns
returns c = record { value = refl; out_after = refl }
