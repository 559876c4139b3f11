-- Targets and assignments of two trees whose records say the same: the same words are read of the refusal, or there is
-- none in both. The rules read only kinds and details, which are equal, and refuse at records that say the same. The
-- induction is on both trees at once (`assign_same`). Cite `counted_same` and `assignment_same`. Assumes nothing.
use mathlib.Core.Path.{◌≡◌, refl, ap}
use mathlib.Core.Bool.{◌&&◌}
use mathlib.Core.List.{List}
use Prim.Native.Nat.{ℕ}
use lib.Dec.{eqb}
use Rattle.forest.specs.Forest.{Node, Tree, node, Forest, none, ◌then◌}
use Rattle.soundness.specs.KindNumbers.{kind_assign_modify}
use Rattle.table.specs.Numbers.{invalid_lhs, invalid_modify_lhs, type_on_augmented, type_on_tuple}
use Rattle.targets.specs.Targets.{is_leaf, is_group, check_assign, check_each, counted, modify_check, type_check}
use Rattle.targets.specs.Targets.{check_assignment}
use Rattle.parts.specs.Parts.{SameRecord, SameTree, SameTrees}
use Rattle.parts.proofs.Read.{Answers, answers_then, answers_if, answers_at}

module _ (names others : List ℕ) where
  mutual
    unfolding check_assign SameTree

    pub assign_same : (t u : Tree) → SameTree names others t u → Answers (check_assign t) (check_assign u)
    assign_same (node r ks) (node s ls) (h, below) =
        answers_if _ _ (ap is_leaf h.kind) _ _ _ _ refl
        (answers_if _ _ (ap is_group h.kind) _ _ _ _ (each_same ks ls below) (answers_at h invalid_lhs))

    each_same : (ts us : Forest) → SameTrees names others ts us → Answers (check_each ts) (check_each us)
    each_same none none h = refl
    each_same none (u then us) h = absurd h
    each_same (t then ts) none h = absurd h
    each_same (t then ts) (u then us) (here, rest) =
        answers_then (check_assign t) (check_assign u) _ _ (assign_same t u here) (each_same ts us rest)

  -- LAW: a target with its leaves
  pub counted_same : (n : ℕ) (t u : Tree) → SameTree names others t u → Answers (counted n t) (counted n u)
  unfolding counted
  counted_same n t u h = answers_then (check_assign t) (check_assign u) _ _ (assign_same t u h) refl

  -- 31, then 32 and 33
  modify_same : (r s lhs rhs : Node) → SameRecord names others r s → SameRecord names others lhs rhs
      → Answers (modify_check r lhs) (modify_check s rhs)
  modify_same r s lhs rhs h l =
      answers_if _ _ (augmented r.kind s.kind h.kind lhs.kind rhs.kind l.kind) _ _ _ _
      (answers_at l invalid_modify_lhs) refl
    where
      augmented : (k m : ℕ) → k ≡ m → (j n : ℕ) → j ≡ n
          → (eqb k kind_assign_modify && is_group j) ≡ (eqb m kind_assign_modify && is_group n)
      augmented k m e j n d = rw (e, d) refl

  type_same : (r s lhs rhs : Node) (ts us : Forest) → SameRecord names others r s → SameRecord names others lhs rhs
      → SameTrees names others ts us → Answers (type_check r lhs ts) (type_check s rhs us)
  unfolding type_check SameTrees
  type_same r s lhs rhs none none h l rest =
      answers_if _ _ (ap (λ (d : ℕ). eqb d 1) h.detail) _ _ _ _ refl refl
  type_same r s lhs rhs none (u then us) h l rest = absurd rest
  type_same r s lhs rhs (t then ts) none h l rest = absurd rest
  type_same r s lhs rhs (node ty ks then ts) (node uy ls then us) h l ((y, below), rest) =
      answers_if _ _ (ap (λ (d : ℕ). eqb d 1) h.detail) _ _ _ _
      (answers_if _ _ (ap (λ (k : ℕ). eqb k kind_assign_modify) h.kind) _ _ _ _ (answers_at y type_on_augmented)
      (answers_if _ _ (ap is_group l.kind) _ _ _ _ (answers_at y type_on_tuple) refl)) refl

  -- LAW: an assignment
  pub assignment_same : (t u : Tree) → SameTree names others t u
      → Answers (check_assignment t) (check_assignment u)
  unfolding check_assignment SameTree
  assignment_same (node r none) (node s none) h = refl
  assignment_same (node r none) (node s (u then us)) (h, below) = absurd below
  assignment_same (node r (t then ts)) (node s none) (h, below) = absurd below
  assignment_same (node r (node lhs ks then ts)) (node s (node rhs ls then us)) (h, ((l, under), rest)) =
      answers_then (modify_check r lhs) (modify_check s rhs) _ _ (modify_same r s lhs rhs h l)
      (answers_then (check_assign (node lhs ks)) (check_assign (node rhs ls)) _ _
      (assign_same (node lhs ks) (node rhs ls) (l, under))
      (answers_then (type_check r lhs ts) (type_check s rhs us) _ _ (type_same r s lhs rhs ts us h l rest) refl))
