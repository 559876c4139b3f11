-- The search for a node that is too deep finds the first of them. List the depths of all nodes in table order: the
-- search down the tree is then the search along that list (`deep_is_over`, by `forest_induction`: own depth, then the
-- children, then what follows). Along a list, the first place at which a test fails is what soundness's Search says
-- (`over_fails`). So `deep_first` and `deep_nowhere` follow: cite these. The node that is found also counts
-- (`deep_counts`, by the same induction): its parent is not too deep, so its own record added to the depth. Assumes
-- nothing.
use Rattle.std.specs.Prelude.{None, Option, Some, ℕ}
use mathlib.Core.Path.{◌≡◌, refl, sym, ap, ◌∙◌}
use mathlib.Core.Bool.{Bool, true, false, not}
use mathlib.Core.List.{List, [], ◌∷◌, ◌++◌}
use Prim.Native.Nat.{ℕ, zero, suc, ◌+◌, ◌-◌, ◌*◌, ◌/◌, ◌<◌, ◌≤◌}
use native.Mathlib.Nat.{zero-add, add-zero}
use native.Mathlib.Omega.{arith}
use lib.ListN.{length, get_or, drop, length-append}
use lib.Seq.{get_or-take, drop-drop}
use lib.Dec.{ltb}
use borrow.Author.Tests.{ltb-true, ltb-false, not-true, not-false}
use Rattle.fields.proofs.Basics.{never, drop_take}
use Rattle.fields.specs.Choice.{if'}
use Rattle.forest.specs.Forest.{node_of, span_of, kids_of, rest_of, forest, Tree, node, Forest, none, ◌then◌, count}
use Rattle.forest.specs.Forest.{count_tree}
use Rattle.forest.proofs.Stretch.{forest_none, forest_tree, forest_induction, count_forest, length_kids}
use Rattle.forest.proofs.Stretch.{length_rest}
use Rattle.soundness.specs.Sound.{first_false}
use Rattle.soundness.proofs.Search.{found}
use Rattle.table.specs.Depth.{most_depth, weight, or_else, first_deep, depths, depths_in, FirstDeeper}
use Rattle.table.proofs.Deep.{weight_little, deep_inside}

-- the first of some depths that is too large, counted from i on
unfoldable pub first_over : ℕ → List ℕ → Option ℕ
first_over i [] = None
first_over i (d ∷ ds) = if' (ltb most_depth d) (λ _. Some i) (λ _. first_over (i + 1) ds)

over_append : (i : ℕ) (ds es : List ℕ)
    → first_over i (ds ++ es) ≡ or_else (first_over i ds) (λ _. first_over (i + length ds) es)
unfolding first_over
over_append i [] es = rw (add-zero i) refl
over_append i (d ∷ ds) es = go (ltb most_depth d) (over_append (i + 1) ds es)
  where
    go : (b : Bool)
        → first_over (i + 1) (ds ++ es) ≡ or_else (first_over (i + 1) ds) (λ _. first_over (i + 1 + length ds) es)
        → if' b (λ _. Some i) (λ _. first_over (i + 1) (ds ++ es))
        ≡ or_else (if' b (λ _. Some i) (λ _. first_over (i + 1) ds)) (λ _. first_over (i + suc (length ds)) es)
    go true rest = refl
    go false rest = let on : i + 1 + length ds ≡ i + suc (length ds) = omega arith in rest ∙ rw on refl

-- there is a depth for each node
mutual
  unfolding depths count

  pub depths_count : (d : ℕ) (f : Forest) → length (depths d f) ≡ count f
  depths_count d none = refl
  depths_count d (t then ts) =
      rw (length-append (depths_in d t) (depths d ts), depths_count_in d t, depths_count d ts) refl

  depths_count_in : (d : ℕ) (t : Tree) → length (depths_in d t) ≡ count_tree t
  depths_count_in d (node r ks) = omega (arith, depths_count (d + weight r.kind) ks)

-- LAW: the first node of a stretch that is too deep is the first whose depth is
pub deep_is_over : (i : ℕ) (bs : List ℕ) (d : ℕ) → first_deep d (forest i bs) ≡ first_over i (depths d (forest i bs))
unfolding first_deep depths first_over
deep_is_over =
    forest_induction (λ i bs. (d : ℕ) → first_deep d (forest i bs) ≡ first_over i (depths d (forest i bs)))
    (λ i bs s d. rw (forest_none i bs s) refl)
    (λ i bs big ks rs d.
    let own : ℕ = d + weight (node_of i bs).kind in
    let kids : Forest = forest (i + 1) (kids_of bs) in
    let long : i + suc (length (depths own kids)) ≡ i + span_of bs / 24 = omega
    (arith, depths_count own kids, count_forest (i + 1) (kids_of bs), length_kids bs) in
    rw (
      forest_tree i bs big,
      over_append i (own ∷ depths own kids) (depths d (forest (i + span_of bs / 24) (rest_of bs))),
      long,
      ks own,
      rs d,
    ) refl)

swapped : (b : Bool) (x y : Unit {0} → Option ℕ) → if' b x y ≡ if' (not b) y x
swapped true x y = refl
swapped false x y = refl

-- it is the first place at which a test of the depths fails
over_fails : (p : ℕ → Bool) (i : ℕ) (ds : List ℕ) → ((j : ℕ) → p (i + j) ≡ not (ltb most_depth (get_or ds j 0)))
    → first_over i ds ≡ first_false p i (length ds)
unfolding first_over first_false
over_fails p i [] h = refl
over_fails p i (d ∷ ds) h =
    let here : p i ≡ not (ltb most_depth d) = rw add-zero at (h 0) in
    let later : (j : ℕ) → p (i + 1 + j) ≡ not (ltb most_depth (get_or ds j 0)) = λ j.
    let on : i + suc j ≡ i + 1 + j = omega arith in rw on at (h (suc j)) in
    rw (here, ← (over_fails p (i + 1) ds later)) (swapped (ltb most_depth d) _ _)

-- LAW: where none is found, no node is too deep
over_none : (i : ℕ) (ds : List ℕ) → first_over i ds ≡ None → (j : ℕ) → get_or ds j 0 ≤ most_depth
unfolding first_over
over_none i [] e j = omega arith
over_none i (d ∷ ds) e j = go (ltb most_depth d) refl e j (over_none (i + 1) ds)
  where
    go : (b : Bool) → ltb most_depth d ≡ b → if' b (λ _. Some i) (λ _. first_over (i + 1) ds) ≡ None → (j : ℕ)
        → (first_over (i + 1) ds ≡ None → (j : ℕ) → get_or ds j 0 ≤ most_depth) → get_or (d ∷ ds) j 0 ≤ most_depth
    go true t e j rest = never (cc)
    go false t e zero rest = ltb-false most_depth d t
    go false t e (suc j) rest = rest e j

-- LAW: the node that is found is the first that is deeper than the largest depth; where none is found, none is
pub deep_first : (t : List ℕ) (k : ℕ) → first_deep 0 (forest 0 t) ≡ Some k → FirstDeeper (forest 0 t) k
deep_first t k e =
    let ds : List ℕ = depths 0 (forest 0 t) in
    let fits : ℕ → Bool = λ j. not (ltb most_depth (get_or ds j 0)) in
    let first = found fits (length ds) k
    (sym (deep_is_over 0 t 0 ∙ over_fails fits 0 ds (λ j. rw zero-add refl)) ∙ e) in
    record {
      within = omega (arith, first.within);
      deeper = ltb-true most_depth _ (not-false _ first.fails);
      before = λ j h. ltb-false most_depth _ (not-true _ (first.before j (omega arith) h));
    }

pub deep_nowhere : (t : List ℕ) → first_deep 0 (forest 0 t) ≡ None → (j : ℕ)
    → get_or (depths 0 (forest 0 t)) j 0 ≤ most_depth
deep_nowhere t e j = over_none 0 (depths 0 (forest 0 t)) (sym (deep_is_over 0 t 0) ∙ e) j

-- a record under the first one, and one behind its subtree, as records of the stretch
module _ (bs : List ℕ) (j : ℕ) where
  kid_kind : j < length (kids_of bs) / 24
      → (node_of 0 (drop (24 * j) (kids_of bs))).kind ≡ (node_of 0 (drop (24 * (1 + j)) bs)).kind
  unfolding kids_of
  kid_kind h =
      let place : 24 + 24 * j ≡ 24 * (1 + j) = omega arith in
      let room : 0 < span_of bs - 24 - 24 * j = omega (arith, length_kids bs) in
      rw (drop_take (24 * j) (span_of bs - 24) (drop 24 bs), drop-drop (24 * j) 24 bs, place)
      (get_or-take (span_of bs - 24 - 24 * j) (drop (24 * (1 + j)) bs) 0 0 room)

  rest_kind : 24 ≤ length bs → j < length (rest_of bs) / 24
      → (node_of 0 (drop (24 * j) (rest_of bs))).kind ≡ (node_of 0 (drop (24 * (span_of bs / 24 + j)) bs)).kind
  unfolding rest_of
  rest_kind big h =
      let whole : span_of bs + 24 * j ≡ 24 * (span_of bs / 24 + j) = omega (arith, length_rest bs) in
      rw (drop-drop (24 * j) (span_of bs) bs, whole) refl

-- the node k of a stretch whose first record has the index i counts
pub record Counts (i : ℕ) (bs : List ℕ) (k : ℕ) : Type 0 where
  pub from : i ≤ k
  pub counts : weight (node_of 0 (drop (24 * (k - i)) bs)).kind ≡ 1

-- the first node of a stretch, one below it, and one behind its subtree
counts_here : (i : ℕ) (bs : List ℕ) (d k : ℕ) → i ≡ k → d ≤ most_depth → most_depth < d + weight (node_of i bs).kind
    → Counts i bs k
counts_here i bs d k here low over =
    let first : 24 * (k - i) ≡ 0 = omega arith in
    record { from = omega arith; counts = rw first (omega (arith, weight_little (node_of i bs).kind, over)) }

counts_below : (i : ℕ) (bs : List ℕ) (k : ℕ) → Counts (i + 1) (kids_of bs) k → k < i + 1 + length (kids_of bs) / 24
    → Counts i bs k
counts_below i bs k below inside =
    let place : 1 + (k - (i + 1)) ≡ k - i = omega (arith, below.from) in
    record {
      from = omega (arith, below.from);
      counts = rw (kid_kind bs (k - (i + 1)) (omega (arith, below.from)), place) at below.counts;
    }

counts_behind : (i : ℕ) (bs : List ℕ) (k : ℕ) → 24 ≤ length bs → Counts (i + span_of bs / 24) (rest_of bs) k
    → k < i + span_of bs / 24 + length (rest_of bs) / 24 → Counts i bs k
counts_behind i bs k big behind inside =
    let place : span_of bs / 24 + (k - (i + span_of bs / 24)) ≡ k - i = omega (arith, behind.from) in
    record {
      from = omega (arith, behind.from);
      counts = rw (rest_kind bs (k - (i + span_of bs / 24)) big (omega (arith, behind.from)), place)
          at behind.counts;
    }

-- what is shown of a stretch: the first node that is too deep counts
abbrev FirstCounts : ℕ → List ℕ → Type 0
FirstCounts i bs = (d k : ℕ) → d ≤ most_depth → first_deep d (forest i bs) ≡ Some k → Counts i bs k

-- it is the first node, one below it, or one behind its subtree
first_counts : (i : ℕ) (bs : List ℕ) → 24 ≤ length bs → FirstCounts (i + 1) (kids_of bs)
    → FirstCounts (i + span_of bs / 24) (rest_of bs) → FirstCounts i bs
unfolding first_deep
first_counts i bs big ks rs d k low f =
    go (ltb most_depth own) refl (first_deep own (forest (i + 1) (kids_of bs))) refl
    (sym (ap (first_deep d) (forest_tree i bs big)) ∙ f)
  where
    own : ℕ
    own = d + weight (node_of i bs).kind

    go : (b : Bool) → ltb most_depth own ≡ b → (x : Option ℕ) → first_deep own (forest (i + 1) (kids_of bs)) ≡ x
        → or_else (if' b (λ _. Some i) (λ _. x)) (λ _. first_deep d (forest (i + span_of bs / 24) (rest_of bs)))
        ≡ Some k
        → Counts i bs k
    go true b_is x x-is f = let here : i ≡ k = cc in counts_here i bs d k here low (ltb-true most_depth own b_is)
    go false b_is (Some j) x-is f =
        let same : j ≡ k = cc in
        let found = x-is ∙ ap Some same in
        counts_below i bs k (ks own k (ltb-false most_depth own b_is) found)
        (deep_inside (i + 1) (kids_of bs) own k found)
    go false b_is None x-is f =
        counts_behind i bs k big (rs d k low f) (deep_inside (i + span_of bs / 24) (rest_of bs) d k f)

-- LAW: the first node that is too deep counts, so it is no parameter and no argument
deep_counts_in : (i : ℕ) (bs : List ℕ) → FirstCounts i bs
unfolding first_deep
deep_counts_in = forest_induction FirstCounts
    (λ i bs s d k low f. never (cc (ap (first_deep d) (forest_none i bs s))))
    first_counts

pub deep_counts : (t : List ℕ) (k : ℕ) → first_deep 0 (forest 0 t) ≡ Some k
    → weight (node_of k (drop (24 * k) t)).kind ≡ 1
deep_counts t k e =
    let place : 24 * (k - 0) ≡ 24 * k = omega arith in rw place at (deep_counts_in 0 t 0 k (omega arith) e).counts
