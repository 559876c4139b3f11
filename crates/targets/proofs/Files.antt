-- The target job and the assignment job refuse at nodes of the tree that they read. So whatever holds of every node of
-- that tree holds of the node that a refusal names (`told_counted`, `told_assignment`). In a sound table every node of
-- the tree has the source file number of its record and of the job's node, so each refusal carries that number (table's
-- `node_files`). The induction is on the tree: a rule refuses at its own node, or passes on a child's refusal
-- unchanged. Cite `target_files` and `assignment_files`. Assumes nothing.
use mathlib.Core.List.{List}
use Prim.Native.Nat.{ℕ}
use lib.Dec.{eqb}
use mathlib.Core.Bool.{◌&&◌}
use Rattle.forest.specs.Forest.{Node, Tree, node, Forest, none, ◌then◌, nodes, nodes_of}
use Rattle.soundness.specs.KindNumbers.{kind_assign_modify}
use Rattle.table.specs.Numbers.{invalid_lhs, invalid_modify_lhs, type_on_augmented, type_on_tuple}
use Rattle.table.specs.Carrying.{CarriesFile}
use Rattle.table.specs.declared.Wanted.TheVariants.{Assignment, Expression}
use Rattle.table.proofs.Filed.{All, Told, Filed, all_tree, all_row, told_at, told_then, told_if_lem, node_files}
use Rattle.targets.specs.Targets.{is_leaf, is_group, check_assign, check_each, counted, modify_check}
use Rattle.targets.specs.Targets.{type_check, check_assignment}
use Rattle.targets.specs.Jobs.{target_of, assignment_of}

module _ (P : Node → Type 0) where
  mutual
    unfolding check_assign

    told_target : (t : Tree) → All P (nodes_of t) → Told P (check_assign t)
    told_target (node r ks) h =
        let here = all_tree P r ks h in
        told_if_lem P (is_leaf r.kind) _ _ tt
        (told_if_lem P (is_group r.kind) _ _ (told_each ks here.1) (told_at P invalid_lhs r here.0))

    told_each : (ts : Forest) → All P (nodes ts) → Told P (check_each ts)
    told_each none h = tt
    told_each (t then ts) h =
        let both = all_row P t ts h in
        told_then P (check_assign t) _ (told_target t both.0) (told_each ts both.1)

  pub told_counted : (n : ℕ) (t : Tree) → All P (nodes_of t) → Told P (counted n t)
  unfolding counted
  told_counted n t h = told_then P (check_assign t) _ (told_target t h) tt

  told_type : (r lhs : Node) (ts : Forest) → All P (nodes ts) → Told P (type_check r lhs ts)
  unfolding type_check
  told_type r lhs none h = told_if_lem P (eqb r.detail 1) _ _ tt tt
  told_type r lhs (node ty ks then ts) h =
      let here : P ty = (all_tree P ty ks (all_row P (node ty ks) ts h).0).0 in
      told_if_lem P (eqb r.detail 1) _ _
      (told_if_lem P (eqb r.kind kind_assign_modify) _ _ (told_at P type_on_augmented ty here)
      (told_if_lem P (is_group lhs.kind) _ _ (told_at P type_on_tuple ty here) tt)) tt

  pub told_assignment : (t : Tree) → All P (nodes_of t) → Told P (check_assignment t)
  unfolding check_assignment
  told_assignment (node r none) h = tt
  told_assignment (node r (node lhs ks then ts)) h =
      let below = all_row P (node lhs ks) ts (all_tree P r (node lhs ks then ts) h).1 in
      let target : P lhs = (all_tree P lhs ks below.0).0 in
      told_then P (modify_check r lhs) _
      (told_if_lem P (eqb r.kind kind_assign_modify && is_group lhs.kind) _ _
      (told_at P invalid_modify_lhs lhs target) tt)
      (told_then P (check_assign (node lhs ks)) _ (told_target (node lhs ks) below.0)
      (told_then P (type_check r lhs ts) _ (told_type r lhs ts below.1) tt))

-- THEOREM: every refusal from 10 on of the two jobs carries the number of the node that it names
module _ (t names : List ℕ) (i : ℕ) where
  pub target_files : CarriesFile t i (target_of t names i)
  target_files = node_files Expression (counted 0) t names i (told_counted (Filed t i) 0)

  pub assignment_files : CarriesFile t i (assignment_of t names i)
  assignment_files = node_files Assignment check_assignment t names i (told_assignment (Filed t i))
