-- The code of the assignment job gives what `check_assignment` of specs/Targets gives, one law for each `return` of
-- check_type (`type_unmarked` .. `type_good`), check_assignment (`assignment_none` .. `assignment_type`), judge_target
-- and judge_assignment (`target_none` .. `assign_here`). There is no induction. The children of the assignment are one
-- part of the table: its first tree is the target, and what follows the target is the type (forest's `forest_tree`,
-- `kids_part`, `rest_part`). So the definition becomes three steps over that part (`steps`), and each test of the code
-- decides the same step of it. The proofs of the functions cite these laws. Assumes nothing.
use Rattle.std.specs.Prelude.{Err, Ok, Result, ℕ}
use mathlib.Core.Path.{◌≡◌, refl, sym, ap, ◌∙◌}
use mathlib.Core.Bool.{Bool, true, false, ◌&&◌}
use mathlib.Core.List.{List, [], ◌∷◌}
use Prim.Native.Nat.{ℕ, ◌+◌, ◌-◌, ◌/◌, ◌<◌, ◌≤◌}
use native.Mathlib.Nat.{zero-add}
use lib.ListN.{length, take, drop}
use lib.Dec.{eqb}
use borrow.Author.Tests.{ne_eqb}
use Rattle.forest.specs.Forest.{Node, node_of, span_of, rest_of, node, Forest, none, forest, tree_of}
use Rattle.forest.proofs.Stretch.{forest_none, forest_tree, kids_part, rest_part}
use Rattle.table.specs.Numbers.{invalid_lhs, invalid_modify_lhs, type_on_augmented, type_on_tuple}
use Rattle.table.specs.Answer.{Answer, accepted, and_then, refused_at, refusal}
use Rattle.table.specs.Check.{is_headed, headed_of}
use Rattle.table.proofs.Heads.{headed_leaf, headed_is}
use Rattle.table.specs.declared.Refusal.{Refusal}
use Rattle.targets.specs.Targets.{is_group, check_assign, leaves, counted, modify_check, type_check}
use Rattle.targets.specs.Targets.{check_assignment}
use Rattle.targets.specs.Jobs.{targeted}
use Rattle.table.proofs.Answers.{first_refused, first_accepted, same_values}

-- the check of an assignment's type, where its target lhs has n leaves
abbrev pub typed : Node → Node → Forest → ℕ → Answer
typed r lhs ts n = and_then (type_check r lhs ts) (λ _. accepted (n ∷ []))

module _ (t lhs : Node) (i : ℕ) (ty : List ℕ) (n : ℕ) {d : ℕ} where
  pub type_unmarked : (d ≡ 1 → ⊥) → d ≡ t.detail → accepted (n ∷ []) ≡ typed t lhs (forest i ty) n
  unfolding type_check
  type_unmarked h d-is = rw (← d-is, ne_eqb d 1 h) refl

  module _ (marked : d ≡ 1) (d-is : d ≡ t.detail) where
    pub type_missing : length ty < 24 → accepted (n ∷ []) ≡ typed t lhs (forest i ty) n
    unfolding type_check
    type_missing h = rw (← d-is, marked, forest_none i ty h) refl

    module _ (big : 24 ≤ length ty) {k : ℕ} where
      pub type_augmented : k ≡ 12 → k ≡ t.kind → {r : Answer} → r ≡ refused_at type_on_augmented (node_of i ty)
          → r ≡ typed t lhs (forest i ty) n
      unfolding type_check
      type_augmented h k_is r-is = r-is ∙ rw (← d-is, marked, forest_tree i ty big, ← k_is, h) refl

      module _ (plain : k ≡ 12 → ⊥) (k_is : k ≡ t.kind) {l : ℕ} {g : Bool} where
        pub type_tuple : g ≡ true → l ≡ lhs.kind → g ≡ is_group l → {r : Answer}
            → r ≡ refused_at type_on_tuple (node_of i ty) → r ≡ typed t lhs (forest i ty) n
        unfolding type_check
        type_tuple h l-is g-is r-is =
            r-is ∙ rw (← d-is, marked, forest_tree i ty big, ← k_is, ne_eqb k 12 plain, ← l-is, ← g-is, h) refl

        pub type_good : g ≡ false → l ≡ lhs.kind → g ≡ is_group l → accepted (n ∷ []) ≡ typed t lhs (forest i ty) n
        unfolding type_check
        type_good h l-is g-is =
            rw (← d-is, marked, forest_tree i ty big, ← k_is, ne_eqb k 12 plain, ← l-is, ← g-is, h) refl

-- what is checked after 31: the target, which the children lhs begin with, then the type after it
abbrev behind : ℕ → List ℕ → List ℕ → Answer
behind i t lhs = and_then (check_assign (tree_of i lhs))
    (λ _. typed (node_of 0 t) (node_of 0 lhs) (forest (i + span_of lhs / 24) (rest_of lhs)) (leaves (tree_of i lhs)))

module _ (i : ℕ) (t : List ℕ) {e : ℕ} (e-is : e ≡ span_of t) where
  pub assignment_none : length (take (e - 24) (drop 24 t)) < 24
      → accepted (0 ∷ []) ≡ check_assignment (tree_of i t)
  unfolding check_assignment
  assignment_none h = rw (← kids_part e t e-is, forest_none (i + 1) (take (e - 24) (drop 24 t)) h) refl

  module _ {lhs : List ℕ} (lhs-is : lhs ≡ take (e - 24) (drop 24 t)) (big : 24 ≤ length lhs) {k l : ℕ} {g : Bool}
      (k_is : k ≡ (node_of 0 t).kind) (l-is : l ≡ (node_of 0 lhs).kind) (g-is : g ≡ is_group l) where
    steps : check_assignment (tree_of i t)
        ≡ and_then (modify_check (node_of i t) (node_of (i + 1) lhs)) (λ _. behind (i + 1) t lhs)
    unfolding check_assignment type_check
    steps = rw (← kids_part e t e-is, ← lhs-is, forest_tree (i + 1) lhs big) refl

    pub assignment_modify : (eqb k 12 && g) ≡ true → {r : Answer}
        → r ≡ refused_at invalid_modify_lhs (node_of (i + 1) lhs) → r ≡ check_assignment (tree_of i t)
    assignment_modify h r-is = r-is ∙ sym (steps ∙ rw (← k_is, ← l-is, ← g-is, h) refl)

    module _ (no : (eqb k 12 && g) ≡ false) (f : Result ℕ Refusal) (f-is : targeted f ≡ counted 0 (tree_of (i + 1) lhs))
      where
        plain : check_assignment (tree_of i t) ≡ behind (i + 1) t lhs
        plain = steps ∙ rw (← k_is, ← l-is, ← g-is, no) refl

        pub assignment_stop : {why : Refusal} → f ≡ Err why → refusal why ≡ check_assignment (tree_of i t)
        unfolding counted
        assignment_stop {why} h = first_refused (check_assign (tree_of (i + 1) lhs)) _ why _ (rw h at f-is)
            ∙ sym plain

        pub assignment_type : {m a : ℕ} {r : Answer} → f ≡ Ok m → a ≡ span_of lhs
            → r ≡ typed (node_of 0 t) (node_of 0 lhs) (forest (i + 1 + a / 24) (take (length lhs - a) (drop a lhs))) m
            → r ≡ check_assignment (tree_of i t)
        unfolding counted
        assignment_type {m} {a} h a-is r-is =
            let accepts = rw (h, zero-add) at f-is in
            let values = same_values (check_assign (tree_of (i + 1) lhs)) _ accepts in
            let m_is : m ≡ leaves (tree_of (i + 1) lhs) = cc in
            r-is ∙ rw (rest_part a lhs a-is, a-is, m_is)
            (sym (plain ∙ first_accepted (check_assign (tree_of (i + 1) lhs)) _ _ accepts))

leaf_none : (i : ℕ) → counted 0 (node (node_of i []) none) ≡ refused_at invalid_lhs (node_of i [])
unfolding counted check_assign
leaf_none i = refl

-- the first tree of any bytes; b is the answer of `is_headed`
module _ (i : ℕ) (t : List ℕ) {b : Bool} (b_is : b ≡ is_headed i t) where
  module _ (no : b ≡ false) where
    pub target_none : {r : Answer} → r ≡ refused_at invalid_lhs (node_of i [])
        → r ≡ counted 0 (tree_of i (headed_of i t))
    target_none r-is = r-is ∙ sym (ap (counted 0) (headed_leaf i t b_is no) ∙ leaf_none i)

    pub assign_none : accepted (0 ∷ []) ≡ check_assignment (tree_of i (headed_of i t))
    unfolding check_assignment
    assign_none = rw (headed_leaf i t b_is no) refl

  module _ (good : b ≡ true) {r : Answer} where
    pub target_here : r ≡ counted 0 (tree_of i t) → r ≡ counted 0 (tree_of i (headed_of i t))
    target_here r-is = r-is ∙ ap (λ (l : List ℕ). counted 0 (tree_of i l)) (sym (headed_is i t b_is good))

    pub assign_here : r ≡ check_assignment (tree_of i t) → r ≡ check_assignment (tree_of i (headed_of i t))
    assign_here r-is = r-is ∙ ap (λ (l : List ℕ). check_assignment (tree_of i l)) (sym (headed_is i t b_is good))
