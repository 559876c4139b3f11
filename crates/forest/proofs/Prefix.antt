-- The first k trees of a stretch are a stretch of their own: taking as many records as these trees have, and decoding
-- them, gives these trees (`forest_firsts`). A part that ends no earlier than the first subtree decodes the same first
-- node and the same children, and what follows is shorter by as much as was left out (`span_part` to `rest_part`); so
-- the induction is on k, with the rest of the stretch. Cite `forest_firsts`. Assumes nothing.
use mathlib.Core.Path.{◌≡◌, refl, ◌∙◌}
use mathlib.Core.List.{List, []}
use Prim.Native.Nat.{ℕ, zero, suc, ◌+◌, ◌-◌, ◌*◌, ◌/◌, ◌≤◌}
use native.Mathlib.Omega.{arith}
use lib.ListN.{length, take, drop}
use lib.Seq.{length-take-le, take-take}
use Rattle.fields.proofs.Basics.{drop_take}
use Rattle.forest.specs.Forest.{node_of, span_of, kids_of, rest_of, node, Forest, none, ◌then◌, forest, count, roots}
use Rattle.forest.specs.Forest.{firsts}
use Rattle.forest.proofs.Stretch.{tree, record_or_none, forest_none, forest_tree, count_forest, length_kids}
use Rattle.forest.proofs.Stretch.{length_rest, node_take, size_take}

-- a part of a stretch that holds its first subtree
module _ (n : ℕ) (bs : List ℕ) (big : 24 ≤ length bs) (there : n ≤ length bs) (holds : span_of bs ≤ n) where
  pub span_part : span_of (take n bs) ≡ span_of bs
  span_part = omega (arith, size_take n bs (omega arith), length-take-le n bs there)

  pub kids_part : kids_of (take n bs) ≡ kids_of bs
  unfolding kids_of
  kids_part = rw (span_part, drop_take 24 n bs) (take-take (span_of bs - 24) (n - 24) (drop 24 bs) (omega arith))

  pub rest_part : rest_of (take n bs) ≡ take (n - span_of bs) (rest_of bs)
  unfolding rest_of
  rest_part = rw span_part (drop_take (span_of bs) n bs)

  pub forest_part : (i : ℕ) → forest i (take n bs) ≡ tree (node_of i bs) (forest (i + 1) (kids_of bs))
      (forest (i + span_of bs / 24) (take (n - span_of bs) (rest_of bs)))
  forest_part i = forest_tree i (take n bs) (omega (arith, length-take-le n bs there))
      ∙ rw (node_take i n bs (omega arith), kids_part, rest_part, span_part) refl

-- the first trees are no more nodes than all, and k trees where there are k
pub firsts_count : (k : ℕ) (f : Forest) → count (firsts k f) ≤ count f
unfolding firsts count
firsts_count zero f = omega arith
firsts_count (suc k) none = omega arith
firsts_count (suc k) (t then ts) = omega (arith, firsts_count k ts)

pub firsts_roots : (k : ℕ) (f : Forest) → k ≤ length (roots f) → length (roots (firsts k f)) ≡ k
unfolding firsts roots
firsts_roots zero f h = refl
firsts_roots (suc k) none h = absurd (omega arith)
firsts_roots (suc k) (node r ks then ts) h = omega (arith, firsts_roots k ts (omega arith))

-- a tree has a node
pub firsts_some : (k : ℕ) (f : Forest) → k ≤ length (roots f) → k ≤ count (firsts k f)
unfolding firsts count roots
firsts_some zero f h = omega arith
firsts_some (suc k) none h = absurd (omega arith)
firsts_some (suc k) (node r ks then ts) h = omega (arith, firsts_some k ts (omega arith))

-- and no tree none
firsts_none : (k : ℕ) (f : Forest) → k ≡ 0 → count (firsts k f) ≡ 0
unfolding firsts count
firsts_none zero f e = refl
firsts_none (suc k) f e = absurd (omega arith)

pub some_child : (f : Forest) (k : ℕ) → (count (firsts k f) ≡ 0 → ⊥) → 1 ≤ k
some_child f zero h = absurd (h (firsts_none 0 f refl))
some_child f (suc k) h = omega arith

-- LAW: the records of the first k trees decode to the first k trees
pub forest_firsts : (k i : ℕ) (bs : List ℕ) → 24 * (length bs / 24) ≡ length bs
    → forest i (take (24 * count (firsts k (forest i bs))) bs) ≡ firsts k (forest i bs)
unfolding firsts count
forest_firsts zero i bs whole = forest_none i [] (omega arith)
forest_firsts (suc k) i bs whole =
    record_or_none bs
    (λ short. rw (forest_none i bs short) (forest_none i [] (omega arith)))
    (λ big.
    let next : Forest = forest (i + span_of bs / 24) (rest_of bs) in
    let c : ℕ = count (firsts k next) in
    let few : 24 * c ≤ length (rest_of bs) = omega
    (arith, firsts_count k next, count_forest (i + span_of bs / 24) (rest_of bs)) in
    let n : 24 * (1 + count (forest (i + 1) (kids_of bs)) + c) ≡ span_of bs + 24 * c = omega
    (arith, count_forest (i + 1) (kids_of bs), length_kids bs) in
    let left : span_of bs + 24 * c - span_of bs ≡ 24 * c = omega arith in
    rw (forest_tree i bs big, n)
    (forest_part (span_of bs + 24 * c) bs big (omega (arith, length_rest bs)) (omega arith) i
    ∙ rw (left, forest_firsts k (i + span_of bs / 24) (rest_of bs) (omega (arith, length_rest bs))) refl))
