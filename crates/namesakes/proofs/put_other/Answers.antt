-- `namesakes::put_other` meets its contract: four words, unless the parameter is the one that is reached. Assumes
-- nothing.
use Rattle.namesakes.proofs.Steps.{put_none, put_one, second_fits, third_fits}
use Rattle.namesakes.proofs.put_other.Goals as goal

pub returns-then-p-q : goal.returns-then-p-q
returns-then-p-q c = let all = put_none _ _ _ _ _ c.if-p-q.true in record { value = all.0; list_after = all.1 }

pub bounds-list-1 : goal.bounds-list-1
bounds-list-1 c = search second_fits

pub bounds-list-2 : goal.bounds-list-2
bounds-list-2 c = search third_fits

pub returns : goal.returns
returns c =
    let all = put_one _ _ _ _ _ c.if-p-q.false c.requires c.word.ensures in
    record { value = all.0; list_after = all.1 }
