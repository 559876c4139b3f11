-- `figures::answer` meets its contract: the bytes taken, or the number. Assumes nothing.
use Rattle.figures.proofs.Windows.{answer_sound, answer_refused}
use Rattle.figures.proofs.answer.Goals as goal

pub returns-in-Ok : goal.returns-in-Ok
returns-in-Ok c = search answer_sound

pub returns-in-Err : goal.returns-in-Err
returns-in-Err c = search answer_refused
