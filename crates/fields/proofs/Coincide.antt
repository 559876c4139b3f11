-- Two answers that meet the same promise are equal. A promise is an equation `answer ≡ z`, so two answers are both z
-- (`coincide`). Where it is an equation of what the answer means, the answers are equal if no two answers mean the same
-- (`coincide_by`). Every Promises file cites these two. Assumes nothing.
use mathlib.Core.Path.{◌≡◌, sym, ◌∙◌}

-- a promise that is an equation has one answer
pub coincide : {A : Type 0} {x y z : A} → x ≡ z → y ≡ z → x ≡ y
coincide p q = p ∙ sym q

-- a promise that is an equation of what the answer means has one answer, if no two answers mean the same
pub coincide_by : {A B : Type 0} (means : A → B) → ((x y : A) → means x ≡ means y → x ≡ y) → {x y : A} {z : B}
    → means x ≡ z → means y ≡ z → x ≡ y
coincide_by means injective {x} {y} p q = injective x y (coincide p q)
