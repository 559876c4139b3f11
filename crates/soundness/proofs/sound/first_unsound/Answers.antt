-- `soundness::sound::first_unsound` meets its contract: no record, an unsound root, or what the search finds. Assumes
-- nothing.
use native.Mathlib.Omega.{arith}
use Rattle.soundness.specs.Sound.{first_unsound}
use Rattle.soundness.proofs.Search.{look_start, look_end}
use Rattle.soundness.proofs.Records.{root_first, table_found}
use Rattle.soundness.proofs.sound.first_unsound.Goals as goal

pub returns-then-table-eq0 : goal.returns-then-table-eq0
unfolding first_unsound
returns-then-table-eq0 c = look_end (look_start _ _) (omega arith)

pub returns-then-not-root_sound : goal.returns-then-not-root_sound
unfolding first_unsound
returns-then-not-root_sound c = root_first _ _ c.root_sound.ensures c.if-not-root_sound.true (omega arith)

pub returns : goal.returns
unfolding first_unsound
returns c = search table_found
