-- `tablefile::read` meets its contract: each return is one step of the check. Assumes nothing.
use Rattle.tablefile.proofs.Loads.{within_arrays, meets_refused, meets_accepted, front_passed, read_front}
use Rattle.tablefile.proofs.Loads.{read_left, read_unsound, read_sound}
use Rattle.tablefile.proofs.read.Goals as goal

pub returns-in-Err : goal.returns-in-Err
returns-in-Err c =
    let all = meets_refused _ _ _ _ c.refused.ensures (search read_front) in
    record { verdict_value = all.0; value = all.1 }

pub load-l-requires : goal.load-l-requires
load-l-requires c =
    let judge_front = c.judge_front-first in
    let header = c.header-h in
    (header.ensures, front_passed _ header.ensures _ judge_front.ensures c.in_default.is)

pub returns-then-l-file : goal.returns-then-l-file
returns-then-l-file c =
    let all = meets_refused _ _ _ _ c.refused-then-l-file.ensures (search read_left) in
    record { verdict_value = all.0; value = all.1 }

pub check-sound-requires : goal.check-sound-requires
check-sound-requires c = search within_arrays

pub returns-in-Err-sound : goal.returns-in-Err-sound
returns-in-Err-sound c =
    let all = meets_refused _ _ _ _ c.refused-in-Err-sound.ensures (search read_unsound) in
    record { verdict_value = all.0; value = all.1 }

pub returns : goal.returns
returns c =
    let load = c.load-l in
    let all = meets_accepted _ _ _ load.ensures (search read_sound) in
    record { verdict_value = all.0; value = all.1 }
