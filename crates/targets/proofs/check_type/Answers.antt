-- `targets::check_type` meets its contract: no type, a type that is allowed, or one on an augmented assignment, a Tuple
-- or a List. Assumes nothing.
use Rattle.targets.proofs.Assignments.{type_unmarked, type_missing, type_augmented, type_tuple, type_good}
use Rattle.targets.proofs.check_type.Goals as goal

pub returns-then-detail-ne1 : goal.returns-then-detail-ne1
returns-then-detail-ne1 c = search type_unmarked

pub returns-then-ty-lt-RECORD : goal.returns-then-ty-lt-RECORD
returns-then-ty-lt-RECORD c = search type_missing

pub returns-then-kind-eq-ASSIGN_MODIFY : goal.returns-then-kind-eq-ASSIGN_MODIFY
returns-then-kind-eq-ASSIGN_MODIFY c =
    let if1 = c.if-detail-ne1 in
    type_augmented _ _ _ _ _ if1.false (search) (search) c.if-kind-eq-ASSIGN_MODIFY.true (search) (search)

pub returns-then-is_group : goal.returns-then-is_group
returns-then-is_group c =
    let kind2 = c.kind-2 in
    let if1 = c.if-detail-ne1 in
    type_tuple _ _ _ _ _ if1.false (search) (search) c.if-kind-eq-ASSIGN_MODIFY.false (search) c.if-is_group.true
    kind2.ensures
    (search) (search)

pub returns : goal.returns
returns c = search type_good
