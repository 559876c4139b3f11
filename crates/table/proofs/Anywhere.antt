-- Whether a stretch has a node that is too deep depends on the depth of what it is in and not on its place in the
-- table: the place is only what a refusal carries. The induction is on the forest of the stretch. Cite `flat_anywhere`.
-- Assumes nothing.
use Rattle.std.specs.Prelude.{None, Option, Some, ℕ}
use mathlib.Core.Path.{◌≡◌, refl, sym, ap, ◌∙◌}
use mathlib.Core.Bool.{Bool, true, false, ◌&&◌}
use mathlib.Core.List.{List}
use Prim.Native.Nat.{ℕ, ◌+◌, ◌/◌, ◌≤◌}
use lib.ListN.{length}
use lib.Dec.{ltb}
use Rattle.fields.specs.Choice.{if'}
use Rattle.forest.specs.Forest.{node_of, span_of, kids_of, rest_of, Forest, forest, tree_of}
use Rattle.forest.proofs.Stretch.{forest_none, forest_tree, forest_induction}
use Rattle.soundness.specs.Sound.{clear}
use Rattle.table.specs.Depth.{most_depth, weight, or_else, first_deep, deep_in}

pub clear_or : (x y : Option ℕ) → clear (or_else x (λ _. y)) ≡ (clear x && clear y)
clear_or (Some i) y = refl
clear_or None y = refl

clear_if : (b : Bool) (i : ℕ) (y : Option ℕ) → clear (if' b (λ _. Some i) (λ _. y)) ≡ if' b (λ _. false) (λ _. clear y)
clear_if true i y = refl
clear_if false i y = refl

flat_tree : (d i : ℕ) (bs : List ℕ) → 24 ≤ length bs → clear (first_deep d (forest i bs))
    ≡ (if' (ltb most_depth (d + weight (node_of i bs).kind)) (λ _. false)
    (λ _. clear (first_deep (d + weight (node_of i bs).kind) (forest (i + 1) (kids_of bs))))
    && clear (first_deep d (forest (i + span_of bs / 24) (rest_of bs))))
unfolding first_deep
flat_tree d i bs big = ap (λ (f : Forest). clear (first_deep d f)) (forest_tree i bs big)
    ∙ clear_or (deep_in d (tree_of i bs)) (first_deep d (forest (i + span_of bs / 24) (rest_of bs)))
    ∙ rw (clear_if (ltb most_depth (d + weight (node_of i bs).kind)) i
    (first_deep (d + weight (node_of i bs).kind) (forest (i + 1) (kids_of bs)))) refl

-- LAW: where a stretch is does not matter
pub flat_anywhere : (i : ℕ) (bs : List ℕ) (j d : ℕ)
    → clear (first_deep d (forest i bs)) ≡ clear (first_deep d (forest j bs))
flat_anywhere =
    forest_induction (λ i bs. (j d : ℕ) → clear (first_deep d (forest i bs)) ≡ clear (first_deep d (forest j bs)))
    (λ i bs s j d. rw (forest_none i bs s, forest_none j bs s) refl)
    (λ i bs big ks rs j d. flat_tree d i bs big
    ∙ rw (ks (j + 1) (d + weight (node_of i bs).kind), rs (j + span_of bs / 24) d) (sym (flat_tree d j bs big)))
