-- `namesakes::put` meets its contract: without a namesake nothing is written. Assumes nothing.
use Rattle.namesakes.proofs.Steps.{put_at, put_nothing}
use Rattle.namesakes.proofs.put.Goals as goal

pub returns-in-Some : goal.returns-in-Some
returns-in-Some c =
    let other = c.put_other.ensures in
    let all = put_at _ _ _ _ c.in-Some.is (other.value, other.list_after) in
    record { value = all.0; list_after = all.1 }

pub returns-in-None : goal.returns-in-None
returns-in-None c =
    let all = put_nothing _ _ _ _ c.in-None.is in
    record { value = all.0; list_after = all.1 }
