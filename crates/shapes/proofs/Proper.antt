-- An accepted type has a shape from 1 to 7 at each node that is read: 0 is never written. `shape_of` gives 0 only for
-- the form Other, and the type rule refuses a node of that form (`shape_known`). The induction is on the forest
-- (`each_proper`, by forest's `forest_induction`): if the siblings pass, each child that is read passes, and so do its
-- own children. The rule reads the tree from the index i and the shapes are counted from another index j, so the law is
-- stated for both (`ProperFrom`). Cite `type_proper`. Assumes nothing.
use mathlib.Core.Bool.{Bool, true, false}
use mathlib.Core.List as L
use mathlib.Core.List.{◌∷◌, ◌++◌}
use Prim.Native.Nat.{ℕ, ◌+◌, ◌/◌, ◌<◌, ◌≤◌}
use native.Mathlib.Omega.{arith}
use lib.ListN.{length}
use lib.Dec.{eqb}
use Rattle.fields.specs.Choice.{if'}
use Rattle.dialect.specs.declared.Edition.{Edition}
use Rattle.forest.specs.Forest.{Node, node_of, kids_of, rest_of, span_of, Forest, forest, tree_of}
use Rattle.forest.proofs.Stretch.{forest_none, forest_tree, forest_induction}
use Rattle.soundness.specs.KindNumbers.{kind_list}
use Rattle.types.specs.Forms.{form_of, shape_of, list_shape, reads_as, reads_of, arguments_only}
use Rattle.types.specs.Types.{at_node, «unpack», unpack_each}
use Rattle.types.specs.declared.Form.{Form}
use Rattle.types.specs.declared.Form.TheVariants.{Ellipsis, Path, Index, Index2, List, Union, Tuple, Other}
use Rattle.types.specs.declared.How.{How}
use Rattle.types.specs.declared.How.TheVariants.{Unread, AsType, AsArgument}
use Rattle.types.specs.declared.Reads.{Reads}
use Rattle.shapes.specs.Shapes.{Shape, shape_at, shapes_of, shapes_each, Proper}
use Rattle.shapes.proofs.Jobs.{Passes, both_pass}
use Rattle.shapes.proofs.Writing.{shapes_child}
use Rattle.types.proofs.Reading.{unpack_child}

proper_none : Proper L.[]
unfolding Proper
proper_none = tt

proper_one : (r : Node) (v : ℕ) (ss : L.List Shape) → (1 ≤ v) × (v ≤ 7) → Proper ss → Proper (shape_at r v ∷ ss)
unfolding Proper
proper_one r v ss k p = (k.0, (k.1, p))

proper_append : (ss us : L.List Shape) → Proper ss → Proper us → Proper (ss ++ us)
unfolding Proper
proper_append L.[] us p q = q
proper_append (x ∷ ss) us p q = (p.0, (p.1.0, proper_append ss us p.1.1 q))

-- a form that is not refused at its node has a shape
shape_known : (edition : Edition) (names : L.List ℕ) (f : Form) (r : Node) (ks : Forest)
    → Passes (at_node edition names f r ks)
    → (1 ≤ shape_of f) × (shape_of f ≤ 7)
unfolding at_node
shape_known edition names Ellipsis r ks p = omega arith
shape_known edition names Path r ks p = omega arith
shape_known edition names Index r ks p = omega arith
shape_known edition names Index2 r ks p = omega arith
shape_known edition names List r ks p = omega arith
shape_known edition names Union r ks p = omega arith
shape_known edition names Tuple r ks p = omega arith
shape_known edition names Other r ks p = absurd p

-- siblings that pass, counted from i, have proper shapes, counted from any j
abbrev pub ProperFrom : Edition → L.List ℕ → ℕ → L.List ℕ → Type 0
ProperFrom edition names i bs =
    (reads : Reads) (j : ℕ) → Passes (unpack_each reads edition names (forest i bs))
    → Proper (shapes_each reads (forest j bs))

module _ (edition : Edition) (names : L.List ℕ) (i j : ℕ) (bs : L.List ℕ)
    (ks : ProperFrom edition names (i + 1) (kids_of bs)) where
  pub type_proper : Passes («unpack» edition names (tree_of i bs)) → Proper (shapes_of (tree_of j bs))
  unfolding «unpack» shapes_of
  type_proper p =
      let form : Form = form_of (node_of i bs).kind (node_of i bs).detail in
      let both = both_pass (at_node edition names form (node_of i bs) (forest (i + 1) (kids_of bs))) _ p in
      proper_one (node_of j bs) (shape_of form) _ (shape_known edition names form _ _ both.0)
      (ks (reads_of form) (j + 1) both.1)

  child_proper : (how : How) → Passes (unpack_child how edition names (tree_of i bs))
      → Proper (shapes_child how (tree_of j bs))
  unfolding «unpack» shapes_of
  child_proper Unread p = proper_none
  child_proper AsType p = type_proper p
  child_proper AsArgument p = go (eqb (node_of i bs).kind kind_list) p
    where
      go : (b : Bool) → Passes (if' b (λ _. unpack_each arguments_only edition names (forest (i + 1) (kids_of bs)))
          (λ _. «unpack» edition names (tree_of i bs)))
          → Proper (if' b (λ _. shape_at (node_of j bs) list_shape
          ∷ shapes_each arguments_only (forest (j + 1) (kids_of bs)))
          (λ _. shapes_of (tree_of j bs)))
      go true q = proper_one (node_of j bs) list_shape _ (omega arith) (ks arguments_only (j + 1) q)
      go false q = type_proper q

-- LAW: what passes the type rule has proper shapes
pub each_proper : (edition : Edition) (names : L.List ℕ) (i : ℕ) (bs : L.List ℕ) → ProperFrom edition names i bs
unfolding «unpack» shapes_of
each_proper edition names = forest_induction (ProperFrom edition names) few more
  where
    few : (i : ℕ) (bs : L.List ℕ) → length bs < 24 → ProperFrom edition names i bs
    few i bs short reads j p = rw (forest_none j bs short) proper_none

    more : (i : ℕ) (bs : L.List ℕ) → 24 ≤ length bs → ProperFrom edition names (i + 1) (kids_of bs)
        → ProperFrom edition names (i + span_of bs / 24) (rest_of bs) → ProperFrom edition names i bs
    more i bs big ks rs reads j p =
        let both = both_pass (unpack_child reads.first edition names (tree_of i bs)) _
        (rw (forest_tree i bs big) at p) in
        rw (forest_tree j bs big) (proper_append (shapes_child reads.first (tree_of j bs)) _
        (child_proper edition names i j bs ks reads.first both.0)
        (rs (reads_as reads.others reads.others) (j + span_of bs / 24) both.1))
