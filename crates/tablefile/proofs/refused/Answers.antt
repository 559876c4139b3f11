-- `tablefile::refused` meets its contract: it is the definition. Assumes nothing.
use mathlib.Core.Path.{refl}
use Rattle.tablefile.specs.Loading.{loaded_of}
use Rattle.tablefile.proofs.refused.Goals as goal

pub returns : goal.returns
unfolding loaded_of
returns c = refl
