-- `soundness::sound::number_sound` meets its contract: each test leads to one case of the number permitted. Assumes
-- nothing.
use Rattle.soundness.proofs.Packing.{number_few, number_any, number_even, number_most}
use Rattle.soundness.proofs.sound.number_sound.Goals as goal

pub returns-then-n-fixed : goal.returns-then-n-fixed
returns-then-n-fixed c = search number_few

pub returns-then-times-eq15 : goal.returns-then-times-eq15
returns-then-times-eq15 c = search number_any

pub returns-then-times-eq14 : goal.returns-then-times-eq14
returns-then-times-eq14 c = search number_even

pub returns : goal.returns
returns c = search number_most
