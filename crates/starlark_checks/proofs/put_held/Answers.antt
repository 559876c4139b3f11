-- `starlark_checks::put_held` meets its contract: the words before the edition are written, then the edition. Assumes
-- nothing.
use Rattle.starlark_checks.proofs.Told.{held_laid}
use Rattle.starlark_checks.proofs.put_held.Goals as goal

pub returns : goal.returns
returns c =
    let front = c.put_front in let all = held_laid _ c.args.out.now front.ensures c.stated_edition.ensures
    c.put_edition.ensures in record { value = all.0; out_after = all.1 }
