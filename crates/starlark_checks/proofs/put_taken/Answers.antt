-- `starlark_checks::put_taken` meets its contract: the one word is written at its place. Assumes nothing.
use mathlib.Core.Path.{refl}
use borrow.Author.Rules.{rules}
use Rattle.starlark_checks.proofs.put_taken.Goals as goal

pub overflow_cast-out : goal.overflow_cast-out
overflow_cast-out c = record { fits = search rules }

pub returns : goal.returns
returns c = record { value = refl; out_after = refl }
