-- `tablefile::check` meets its contract: a dialect and an edition are given, or the refusal of 1 to 5. Assumes nothing.
use Rattle.tablefile.proofs.Fronts.{sound_refused, sound_passed}
use Rattle.tablefile.proofs.check.Goals as goal

pub returns-in-Ok : goal.returns-in-Ok
returns-in-Ok c = search sound_passed

pub returns-in-Err : goal.returns-in-Err
returns-in-Err c = search sound_refused
