-- Assignment targets and assignments: check_assign and check_assignment of src/syntax/grammar_util.rs, over trees.
-- These are definitions.
-- Copyright 2018 The Starlark in Rust Authors. Copyright (c) Facebook, Inc. and its affiliates.
-- Licensed under Apache-2.0; changed.
use Rattle.std.specs.Prelude.{Bool, ◌&&◌, ◌||◌, [], ◌∷◌, ℕ, ◌+◌, eqb}
use Rattle.fields.specs.Choice.{if'}
use Rattle.forest.specs.Forest.{Node, Tree, node, Forest, none, ◌then◌}
use Rattle.soundness.specs.KindNumbers.{kind_assign_modify, kind_tuple, kind_dot, kind_index, kind_identifier, kind_list}
use Rattle.table.specs.Numbers.{invalid_lhs, invalid_modify_lhs, type_on_augmented, type_on_tuple}
use Rattle.table.specs.Answer.{Answer, accepted, and_then, refused_at}

-- the leaves of targets: Identifier, Dot and Index
abbrev pub is_leaf : ℕ → Bool
is_leaf k = eqb k kind_identifier || (eqb k kind_dot || eqb k kind_index)

-- what holds targets: Tuple and List
abbrev pub is_group : ℕ → Bool
is_group k = eqb k kind_tuple || eqb k kind_list

-- a target is a leaf, or a Tuple or List of targets, which may be empty; 30 at the first node, left to right, that is
-- neither
unfoldable mutual
  pub check_assign : Tree → Answer
  check_assign (node r ks) =
      if' (is_leaf r.kind) (λ _. accepted []) (λ _.
      if' (is_group r.kind) (λ _. check_each ks) (λ _.
      refused_at invalid_lhs r))

  pub check_each : Forest → Answer
  check_each none = accepted []
  check_each (t then ts) = and_then (check_assign t) (λ _. check_each ts)

-- the number of leaves; nodes inside a leaf do not count
unfoldable mutual
  pub leaves : Tree → ℕ
  leaves (node r ks) = if' (is_leaf r.kind) (λ _. 1) (λ _. if' (is_group r.kind) (λ _. leaves_each ks) (λ _. 0))

  pub leaves_each : Forest → ℕ
  leaves_each none = 0
  leaves_each (t then ts) = leaves t + leaves_each ts

-- the first refusal, else n plus the number of leaves, where n leaves come before
unfoldable pub counted : ℕ → Tree → Answer
counted n t = and_then (check_assign t) (λ _. accepted ((n + leaves t) ∷ []))

unfoldable pub counted_each : ℕ → Forest → Answer
counted_each n ts = and_then (check_each ts) (λ _. accepted ((n + leaves_each ts) ∷ []))

-- 31: an augmented assignment, at a target that is a Tuple or List
abbrev pub modify_check : Node → Node → Answer
modify_check r lhs =
    if' (eqb r.kind kind_assign_modify && is_group lhs.kind) (λ _. refused_at invalid_modify_lhs lhs) (λ _. accepted [])

-- a rule applied to the first of some siblings; accepted if there is none
abbrev pub of_first : Forest → (Node → Answer) → Answer
of_first none rule = accepted []
of_first (node r ks then ts) rule = rule r

-- 32 on an augmented assignment, 33 on a target that is a Tuple or List; both at the type, which follows the target if
-- the detail is 1
unfoldable pub type_check : Node → Node → Forest → Answer
type_check r lhs ts =
    if' (eqb r.detail 1) (λ _. of_first ts (λ ty.
    if' (eqb r.kind kind_assign_modify) (λ _. refused_at type_on_augmented ty) (λ _.
    if' (is_group lhs.kind) (λ _. refused_at type_on_tuple ty) (λ _. accepted [])))) (λ _.
    accepted [])

-- an assignment: 31, 30, then 32 and 33, else the number of leaves of its target; it is 0 without a target, which no
-- sound table has
unfoldable pub check_assignment : Tree → Answer
check_assignment (node r none) = accepted (0 ∷ [])
check_assignment (node r (node lhs ks then ts)) =
    and_then (modify_check r lhs) (λ _.
    and_then (check_assign (node lhs ks)) (λ _.
    and_then (type_check r lhs ts) (λ _.
    accepted (leaves (node lhs ks) ∷ []))))
