-- `starlark_checks::put_changed` meets its contract: the answer, arm by arm. Assumes nothing.
use mathlib.Core.Path.{refl}
use Rattle.books.specs.Change.{changed}
use Rattle.starlark_checks.specs.Words.{words}
use Rattle.starlark_checks.proofs.Told.{told}
use Rattle.starlark_checks.proofs.Places.{place_fits}
use Rattle.starlark_checks.proofs.put_changed.Goals as goal

pub overflow_cast-place : goal.overflow_cast-place
overflow_cast-place c =
    record { fits = place_fits {a = c.args.answer} c.requires c.in-Placed.is }

pub returns-in-Placed : goal.returns-in-Placed
returns-in-Placed c =
    let all = told words changed _ _ _ _ _ _ refl c.in-Placed.is
    (c.put_two.ensures.value, c.put_two.ensures.out_after) in
    record { value = all.0; out_after = all.1 }

pub returns-in-Refused : goal.returns-in-Refused
returns-in-Refused c =
    let all = told words changed _ _ _ _ _ _ refl c.in-Refused.is
    (c.put_book.ensures.value, c.put_book.ensures.out_after) in
    record { value = all.0; out_after = all.1 }
