-- The code writes the shape of a node and then those of its children, from left to right, as `shapes_of` and
-- `shapes_argument` of specs/Shapes list them. The invariant of both loops is `Writing`: writing the shapes of what is
-- left into the buffer as it is gives the buffer at exit. It holds at the start (`kids_start`, `items_start`), a child
-- keeps it, because shapes are written one after the other (`each_on`, `written_append`), and at the end nothing is
-- left (`each_end`). The code chooses the rule by the child's kind, which gives the same as the definition (types'
-- `by_rule`). What is left is smaller than the node's subtree (`part`), so each call is on a smaller tree
-- (`each_falls`). Assumes nothing.
use mathlib.Core.Path.{◌≡◌, refl, sym, ap, ◌∙◌}
use mathlib.Core.List.{List, [], ◌∷◌, ◌++◌}
use Prim.Native.Nat.{ℕ, ◌+◌, ◌-◌, ◌/◌, ◌<◌, ◌≤◌}
use native.Mathlib.Omega.{arith}
use lib.ListN.{length, take, drop, set, length-set}
use borrow.Author.Tests.{eq-eqb, ne_eqb}
use Rattle.forest.specs.Forest.{node_of, span_of, rest_of, Tree, forest, tree_of}
use Rattle.forest.proofs.Stretch.{forest_none, kids_part, length_kids, length_rest}
use Rattle.soundness.specs.KindNumbers.{kind_list}
use Rattle.types.specs.Forms.{form_of, shape_of, list_shape, reads_as, reads_of, rule_of}
use Rattle.types.specs.Forms.{arguments_only, of_child}
use Rattle.types.proofs.Reading.{first_and_rest, by_rule, falls}
use Rattle.types.specs.declared.Form.{Form}
use Rattle.types.specs.declared.How.{How}
use Rattle.types.specs.declared.How.TheVariants.{Unread, AsType, AsArgument}
use Rattle.types.specs.declared.Reads.{Reads}
use Rattle.shapes.specs.Shapes.{Shape, shapes_of, shapes_argument, shapes_each, written}

-- LAW: writing the shapes ss and then us is writing both lists
pub written_append : (ss us : List Shape) (s : List ℕ) → written (ss ++ us) s ≡ written us (written ss s)
unfolding written
written_append [] us s = refl
written_append (x ∷ ss) us s = written_append ss us (set s x.at x.shape)

-- LAW: writing keeps the length of the buffer
pub written_length : (ss : List Shape) (s : List ℕ) → length (written ss s) ≡ length s
unfolding written
written_length [] s = refl
written_length (x ∷ ss) s = written_length ss (set s x.at x.shape) ∙ length-set s x.at x.shape

-- the shapes of a child, by how it is read
abbrev pub shapes_child : How → Tree → List Shape
shapes_child how t = of_child how [] (λ _. shapes_of t) (λ _. shapes_argument t)

-- the shapes of a child, by the rule that its caller chooses
module _ (i : ℕ) (t s : List ℕ) (how : How) {rule : How} {k : ℕ} (k_is : k ≡ (node_of 0 t).kind)
    (rule-is : rule ≡ rule_of how k) where
  chosen : shapes_child rule (tree_of i t) ≡ shapes_child how (tree_of i t)
  unfolding shapes_of
  chosen = rw (rule-is, k_is) (by_rule (node_of 0 t).kind [] _ _ how)

  as_chosen : {h : How} → rule ≡ h
      → written (shapes_child h (tree_of i t)) s ≡ written (shapes_child how (tree_of i t)) s
  as_chosen e = ap (λ (x : How). written (shapes_child x (tree_of i t)) s) (sym e)
      ∙ ap (λ (ss : List Shape). written ss s) chosen

  pub child_unread : rule ≡ Unread → s ≡ written (shapes_child how (tree_of i t)) s
  unfolding written
  child_unread h = as_chosen h

  module _ {r : List ℕ} where
    pub child_type : rule ≡ AsType → r ≡ written (shapes_of (tree_of i t)) s
        → r ≡ written (shapes_child how (tree_of i t)) s
    child_type h r-is = r-is ∙ as_chosen h

    pub child_list : rule ≡ AsArgument → r ≡ written (shapes_argument (tree_of i t)) s
        → r ≡ written (shapes_child how (tree_of i t)) s
    child_list h r-is = r-is ∙ as_chosen h

-- an item of a List of arguments that is not a List itself
pub item_type : (i : ℕ) (t s : List ℕ) {k : ℕ} → k ≡ (node_of 0 t).kind → (k ≡ kind_list → ⊥)
    → {r : List ℕ} → r ≡ written (shapes_of (tree_of i t)) s → r ≡ written (shapes_child AsArgument (tree_of i t)) s
unfolding shapes_of
item_type i t s {k} k_is other r-is = r-is ∙ rw (← k_is, ne_eqb k kind_list other) refl

-- the invariant of both loops: what is left is smaller than the node's subtree, and writing its shapes into the buffer
-- s gives the buffer at exit, `whole`
pub record Writing (others : How) (t : List ℕ) (at : ℕ) (whole : List ℕ) (size : ℕ) (left : List ℕ) (place : ℕ)
    (how : How) (s : List ℕ) : Type 0 where
  pub room : place + length left / 24 ≤ length s
  pub upto : place + length left / 24 ≤ at + length t / 24
  pub part : length left + 24 ≤ span_of t
  pub long : length s ≡ size
  pub same : written (shapes_each (reads_as how others) (forest place left)) s ≡ whole

-- the buffer s after the shapes of the children of the node at i are written
abbrev pub kids_written : Reads → ℕ → List ℕ → ℕ → List ℕ → List ℕ
kids_written reads i t e s = written (shapes_each reads (forest (i + 1) (take (e - 24) (drop 24 t)))) s

module _ (i v : ℕ) (t s : List ℕ) {e : ℕ} (e-is : e ≡ span_of t) where
  pub kids_start : 24 ≤ length t → i + length t / 24 ≤ length s → (reads : Reads)
      → Writing reads.others t i (kids_written reads i t e (set s i v)) (length (set s i v))
      (take (e - 24) (drop 24 t)) (i + 1) reads.first (set s i v)
  kids_start big room reads = record {
    room = rw (kids_part e t e-is) (omega (arith, length_kids t, length-set s i v));
    upto = rw (kids_part e t e-is) (omega (arith, length_kids t));
    part = rw (kids_part e t e-is) (omega (arith, length_kids t));
    long = refl;
    same = refl;
  }

  pub items_start : 24 ≤ length t → i + length t / 24 ≤ length s
      → Writing AsArgument t i (kids_written arguments_only i t e (set s i v)) (length (set s i v))
      (take (e - 24) (drop 24 t)) (i + 1) AsArgument (set s i v)
  items_start big room = kids_start big room arguments_only

  -- the node's own shape v and those of its children: the shapes of the type
  pub type_written : {f : Form} → f ≡ form_of (node_of 0 t).kind (node_of 0 t).detail → v ≡ shape_of f
      → {reads : Reads} → reads ≡ reads_of f → {r : List ℕ} → r ≡ kids_written reads i t e (set s i v)
      → r ≡ written (shapes_of (tree_of i t)) s
  unfolding shapes_of written
  type_written f-is v-is reads-is r-is = r-is ∙ rw (kids_part e t e-is, v-is, reads-is, f-is) refl

-- the same for a List of arguments
pub list_written : (i : ℕ) (t s : List ℕ) {e : ℕ} → e ≡ span_of t → (node_of 0 t).kind ≡ kind_list
    → {r : List ℕ} → r ≡ kids_written arguments_only i t e (set s i list_shape)
    → r ≡ written (shapes_argument (tree_of i t)) s
unfolding shapes_of written
list_written i t s {e} e-is list r-is =
    r-is ∙ rw (kids_part e t e-is, eq-eqb (node_of 0 t).kind kind_list list) refl

module _ {others : How} {t : List ℕ} {i : ℕ} {whole : List ℕ} {size : ℕ} {left : List ℕ} {place : ℕ} {how : How}
    {s : List ℕ} (w : Writing others t i whole size left place how s) where
  pub each_end : length left < 24 → s ≡ whole
  unfolding shapes_of written
  each_end short = rw (← w.same, forest_none place left short) refl

  pub each_falls : span_of left < span_of t
  each_falls = falls t left w.part

  pub each_on : 24 ≤ length left → {u : List ℕ} → u ≡ written (shapes_child how (tree_of place left)) s
      → {next : ℕ} {after : List ℕ} → next ≡ place + span_of left / 24 → after ≡ rest_of left
      → Writing others t i whole size after next others u
  unfolding shapes_of
  each_on big u-is next-is after-is = record {
    room = rw (next-is, after-is, u-is, written_length (shapes_child how (tree_of place left)) s)
        (omega (arith, length_rest left, w.room));
    upto = rw (next-is, after-is) (omega (arith, length_rest left, w.upto));
    part = rw after-is (omega (arith, length_rest left, w.part));
    long = rw u-is (written_length (shapes_child how (tree_of place left)) s ∙ w.long);
    same = rw u-is (sym (written_append (shapes_child how (tree_of place left)) _ s)
        ∙ ap (λ (ss : List Shape). written ss s) (sym (first_and_rest shapes_each shapes_child (λ x y. x ++ y)
        (λ z x ts. refl) (reads_as how others) place left big next-is after-is)) ∙ w.same);
  }

-- the buffer keeps the length that it had before the node's own shape was set
pub still_long : (s₀ : List ℕ) (v : ℕ) {others : How} {t : List ℕ} {i : ℕ} {whole left : List ℕ} {place : ℕ} {how : How}
    {s : List ℕ} → Writing others t i whole (length (set s₀ i v)) left place how s → length s ≡ length s₀
still_long s₀ v {i = i} w = w.long ∙ length-set s₀ i v
