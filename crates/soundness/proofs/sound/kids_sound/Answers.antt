-- `soundness::sound::kids_sound` meets its contract: the rule of the kind decides. Without children only their number
-- matters; else they are tested by ranges or, where the rule has last ones, by classes. Assumes nothing.
use Rattle.soundness.proofs.Ranges.{ranges_are, no_children}
use Rattle.soundness.proofs.sound.kids_sound.Goals as goal

pub returns-then-t-lt-RECORD : goal.returns-then-t-lt-RECORD
returns-then-t-lt-RECORD c = search no_children

pub row_sound-requires : goal.row_sound-requires
row_sound-requires c = search ranges_are

pub returns-then-detail-backs : goal.returns-then-detail-backs
returns-then-detail-backs c = cc

pub returns : goal.returns
returns c = cc
