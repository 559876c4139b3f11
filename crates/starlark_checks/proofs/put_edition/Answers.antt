-- `starlark_checks::put_edition` meets its contract: two words are written from place 6 on. Assumes nothing.
use Rattle.starlark_checks.proofs.Told.{edition_laid}
use Rattle.starlark_checks.proofs.put_edition.Goals as goal

pub returns : goal.returns
returns c = search edition_laid
