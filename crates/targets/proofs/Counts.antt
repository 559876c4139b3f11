-- check_assign and check_each count leaves as `counted` and `counted_each` of specs/Targets do. For one node there are
-- three laws, one for each kind of node: a leaf, a group of targets, or anything else (`assign_leaf`, `assign_group`,
-- `assign_other`). check_each is a loop, whose invariant is `Counting`: counting what is left, from the leaves found so
-- far, gives the whole answer. It holds at the start, each target keeps it or ends the loop with its refusal, and at
-- the end nothing is left (`each_start`, `each_on`, `each_stop`, `each_end`). The count fits into a u32 because leaves
-- are nodes (`leaves_tree`, by induction on the tree), and a table has at most 2,100 nodes. Assumes nothing.
use Rattle.std.specs.Prelude.{Err, Ok, Result, ℕ}
use mathlib.Core.Path.{◌≡◌, refl, sym, ap, ◌∙◌}
use mathlib.Core.Bool.{Bool, true, false}
use mathlib.Core.List.{List, [], ◌∷◌}
use Prim.Native.Nat.{ℕ, ◌+◌, ◌-◌, ◌/◌, ◌<◌, ◌≤◌}
use native.Mathlib.Nat.{add-zero, add_assoc}
use native.Mathlib.Omega.{arith}
use lib.ListN.{length, take, drop}
use Rattle.fields.specs.Choice.{if'}
use Rattle.forest.specs.Forest.{node_of, span_of, kids_of, rest_of, Tree, node, Forest, none, ◌then◌, forest}
use Rattle.forest.specs.Forest.{tree_of, count, count_tree}
use Rattle.forest.proofs.Stretch.{forest_none, forest_tree, kids_part, count_forest, length_kids, length_rest}
use Rattle.table.specs.Numbers.{invalid_lhs}
use Rattle.table.specs.Check.{Within}
use Rattle.table.specs.Answer.{Answer, accepted, and_then, refused_at, refusal}
use Rattle.table.specs.declared.Refusal.{Refusal}
use Rattle.table.proofs.Answers.{first_refused, first_accepted, same_values, after_both}
use Rattle.targets.specs.Targets.{is_leaf, is_group, check_assign, check_each, leaves, leaves_each, counted}
use Rattle.targets.specs.Targets.{counted_each}
use Rattle.targets.specs.Jobs.{targeted}

-- LAW: a tree has at most as many leaves as nodes
leaves_choose : (l g : Bool) (m k : ℕ) → m ≤ k → if' l (λ _. 1) (λ _. if' g (λ _. m) (λ _. 0)) ≤ 1 + k
leaves_choose true g m k h = omega arith
leaves_choose false true m k h = omega arith
leaves_choose false false m k h = omega arith

mutual
  unfolding leaves count

  pub leaves_tree : (t : Tree) → leaves t ≤ count_tree t
  leaves_tree (node r ks) = leaves_choose (is_leaf r.kind) (is_group r.kind) (leaves_each ks) (count ks)
      (leaves_each_lem ks)

  pub leaves_each_lem : (ts : Forest) → leaves_each ts ≤ count ts
  leaves_each_lem none = omega arith
  leaves_each_lem (t then ts) = omega (arith, leaves_tree t, leaves_each_lem ts)

-- the first node of a part of the table, by its kind and the two tests of the kind
module _ (n i : ℕ) (t : List ℕ) {kind : ℕ} {leaf : Bool} (kind-is : kind ≡ (node_of 0 t).kind)
    (leaf-is : leaf ≡ is_leaf kind) where
  pub assign_leaf : leaf ≡ true → accepted ((n + 1) ∷ []) ≡ counted n (tree_of i t)
  unfolding counted check_assign leaves
  assign_leaf h = rw (← kind-is, ← leaf-is, h) refl

  module _ {group : Bool} (no-leaf : leaf ≡ false) (group-is : group ≡ is_group kind) where
    pub assign_group : group ≡ true → {e : ℕ} {r : Answer} → e ≡ span_of t
        → r ≡ counted_each n (forest (i + 1) (take (e - 24) (drop 24 t))) → r ≡ counted n (tree_of i t)
    unfolding counted counted_each check_assign leaves
    assign_group h {e} e-is r-is =
        r-is ∙ rw (kids_part e t e-is, ← kind-is, ← leaf-is, no-leaf, ← group-is, h) refl

    pub assign_other : group ≡ false → {r : Answer} → r ≡ refused_at invalid_lhs (node_of i t)
        → r ≡ counted n (tree_of i t)
    unfolding counted check_assign
    assign_other h r-is = r-is ∙ rw (← kind-is, ← leaf-is, no-leaf, ← group-is, h) refl

-- the invariant of the loop over targets: counting what is left from n leaves on gives the whole answer
pub record Counting (t : List ℕ) (node count₀ : ℕ) (left : List ℕ) (at n : ℕ) : Type 0 where
  pub within : Within at left
  pub part : length left ≤ length t
  pub few : n ≤ at
  pub same : counted_each n (forest at left) ≡ counted_each count₀ (forest node t)

module _ {t : List ℕ} {node count₀ : ℕ} where
  pub each_start : Within node t → count₀ ≤ node → Counting t node count₀ t node count₀
  each_start h few = record { within = h; part = omega arith; few = few; same = refl }

  module _ {left : List ℕ} {at n : ℕ} (s : Counting t node count₀ left at n) where
    pub each_end : length left < 24 → accepted (n ∷ []) ≡ counted_each count₀ (forest node t)
    unfolding counted_each check_each leaves_each
    each_end h = rw (forest_none at left h, add-zero) at s.same

    module _ (big : 24 ≤ length left) (first : Result ℕ Refusal)
        (first_is : targeted first ≡ counted n (tree_of at left)) where
      step : counted_each count₀ (forest node t) ≡ and_then (check_assign (tree_of at left))
          (λ _. counted_each (n + leaves (tree_of at left)) (forest (at + span_of left / 24) (rest_of left)))
      unfolding counted_each check_each leaves_each
      step =
          sym s.same
          ∙ ap (counted_each n) (forest_tree at left big)
          ∙ after_both (check_assign (tree_of at left))
          (λ _. check_each (forest (at + span_of left / 24) (rest_of left)))
          (λ _. accepted
          ((n + (leaves (tree_of at left) + leaves_each (forest (at + span_of left / 24) (rest_of left)))) ∷ []))
          ∙ rw add_assoc refl

      pub each_stop : {why : Refusal} → first ≡ Err why → refusal why ≡ counted_each count₀ (forest node t)
      unfolding counted
      each_stop {why} h = first_refused (check_assign (tree_of at left)) _ why _ (rw h at first_is) ∙ sym step

      pub each_on : {m next : ℕ} {after : List ℕ} → first ≡ Ok m → next ≡ at + span_of left / 24
          → after ≡ rest_of left → Counting t node count₀ after next m
      unfolding counted count
      each_on {m} h next-is after-is =
          let values = same_values (check_assign (tree_of at left)) _ (rw h at first_is) in
          let m_is : m ≡ n + leaves (tree_of at left) = cc in
          let less = length_rest left in
          record {
            within = omega (arith, s.within, next-is, ap length after-is, less);
            part = omega (arith, s.part, ap length after-is, less);
            few = omega (
              arith,
              s.few,
              next-is,
              leaves_tree (tree_of at left),
              count_forest (at + 1) (kids_of left),
              length_kids left,
            );
            same = rw (after-is, next-is, m_is)
                (sym (step ∙ first_accepted (check_assign (tree_of at left)) _ _ (rw h at first_is)));
          }
