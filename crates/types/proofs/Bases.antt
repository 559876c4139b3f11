-- The tests at a node before its children are read: the base of an Index (`index_none`, `index_other`, `index_good`),
-- the base of an Index2 (`index2_none`, `index2_path`), the number of items of a List (`list_none`, `list_one`,
-- `list_more`), and the choice by form (`at_form`). There is one law for each `return` of index_base, index2_base,
-- list_length and at_node, and no induction: the code cuts the children out as a part of the table, and forest's
-- `forest_none` and `forest_tree` say whether that part has a first child, and a second one after it. The proofs of the
-- functions cite these laws. Assumes nothing.
use mathlib.Core.Path.{◌≡◌, refl, sym, ap, ◌∙◌}
use mathlib.Core.List as L
use Prim.Native.Nat.{ℕ, ◌+◌, ◌-◌, ◌/◌, ◌<◌, ◌≤◌}
use native.Mathlib.Omega.{arith}
use lib.ListN.{length, take, drop}
use borrow.Author.Tests.{eq-eqb, ne_eqb}
use Rattle.dialect.specs.declared.Edition.{Edition}
use Rattle.forest.specs.Forest.{Node, node_of, span_of, kids_of, rest_of, Forest, forest, tree_of}
use Rattle.forest.proofs.Stretch.{forest_none, forest_tree, kids_part, length_rest}
use Rattle.soundness.specs.KindNumbers.{kind_identifier}
use Rattle.table.specs.Numbers.{invalid_type, empty_list_in_type}
use Rattle.table.specs.Answer.{Answer, accepted, refused_at}
use Rattle.types.specs.Forms.{form_of}
use Rattle.types.specs.Paths.{unpack_path}
use Rattle.types.specs.Types.{index_base, index2_base, list_length, at_node}
use Rattle.types.specs.declared.Form.{Form}

-- the children of the first node of t, as the code cuts them out: k
module _ (i : ℕ) (t : L.List ℕ) {e : ℕ} (e-is : e ≡ span_of t) {k : L.List ℕ} (k_is : k ≡ take (e - 24) (drop 24 t))
  where
    kids : kids_of t ≡ k
    kids = sym (k_is ∙ kids_part e t e-is)

    module _ (short : length k < 24) {r : Answer} where
      pub index_none : r ≡ refused_at invalid_type (node_of i t)
          → r ≡ index_base (node_of i t) (forest (i + 1) (kids_of t))
      unfolding index_base
      index_none r-is = r-is ∙ rw (kids, forest_none (i + 1) k short) refl

      pub list_none : r ≡ refused_at empty_list_in_type (node_of i t)
          → r ≡ list_length (node_of i t) (forest (i + 1) (kids_of t))
      unfolding list_length
      list_none r-is = r-is ∙ rw (kids, forest_none (i + 1) k short) refl

    pub index2_none : (edition : Edition) (names : L.List ℕ) → length k < 24
        → accepted L.[] ≡ index2_base edition names (forest (i + 1) (kids_of t))
    unfolding index2_base
    index2_none edition names short = rw (kids, forest_none (i + 1) k short) refl

    module _ (big : 24 ≤ length k) where
      pub index2_path : (edition : Edition) (names : L.List ℕ) {r : Answer}
          → r ≡ unpack_path edition names (tree_of (i + 1) k)
          → r ≡ index2_base edition names (forest (i + 1) (kids_of t))
      unfolding index2_base
      index2_path edition names r-is = r-is ∙ rw (kids, forest_tree (i + 1) k big) refl

      module _ {b : ℕ} (b_is : b ≡ (node_of 0 k).kind) where
        pub index_other : (b ≡ kind_identifier → ⊥) → {r : Answer} → r ≡ refused_at invalid_type (node_of i t)
            → r ≡ index_base (node_of i t) (forest (i + 1) (kids_of t))
        unfolding index_base
        index_other h r-is = r-is ∙ rw (kids, forest_tree (i + 1) k big, ← b_is, ne_eqb b kind_identifier h) refl

        pub index_good : b ≡ kind_identifier → accepted L.[] ≡ index_base (node_of i t) (forest (i + 1) (kids_of t))
        unfolding index_base
        index_good h = rw (kids, forest_tree (i + 1) k big, ← b_is, eq-eqb b kind_identifier h) refl

      module _ {a : ℕ} (a-is : a ≡ span_of k) where
        pub list_one : length k < a + 24 → {r : Answer} → r ≡ refused_at invalid_type (node_of i t)
            → r ≡ list_length (node_of i t) (forest (i + 1) (kids_of t))
        unfolding list_length
        list_one h r-is =
            let short : length (rest_of k) < 24 = omega (arith, length_rest k) in
            r-is ∙ rw (kids, forest_tree (i + 1) k big, forest_none (i + 1 + span_of k / 24) (rest_of k) short) refl

        pub list_more : a + 24 ≤ length k → accepted L.[] ≡ list_length (node_of i t) (forest (i + 1) (kids_of t))
        unfolding list_length
        list_more h =
            let more : 24 ≤ length (rest_of k) = omega (arith, length_rest k) in
            rw (kids, forest_tree (i + 1) k big, forest_tree (i + 1 + span_of k / 24) (rest_of k) more) refl

-- the answer at a node whose form is known to be g
pub at_form : (edition : Edition) (names : L.List ℕ) (k d : ℕ) (n : Node) (ks : Forest) {f g : Form} {r : Answer}
    → f ≡ form_of k d
    → f ≡ g → r ≡ at_node edition names g n ks → r ≡ at_node edition names (form_of k d) n ks
at_form edition names k d n ks f-is h r-is = r-is ∙ ap (λ (x : Form). at_node edition names x n ks) (sym h ∙ f-is)
