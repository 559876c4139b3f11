-- Shapes are written at most once for each node. The nodes that a type reads come in table order, each index larger
-- than the one before (`Rising`, of specs/Shapes), within the type's subtree (`type_once`). It holds because a node
-- comes before its children, children come one after the other, and each subtree is a range of indices; the induction
-- is on the forest (`placed`, by forest's `forest_induction`). From `Rising` follows what the buffer holds
-- (`written_bytes`): the byte of each node that is read is its shape, because no later shape is written there
-- (`not_below`), and every other byte is unchanged. Cite `type_once` and `written_bytes`. Assumes nothing.
use mathlib.Core.Path.{◌≡◌, refl, sym, ap, ◌∙◌}
use mathlib.Core.Bool.{Bool, true, false}
use mathlib.Core.List.{List, [], ◌∷◌, ◌++◌}
use Prim.Native.Nat.{ℕ, ◌+◌, ◌/◌, ◌<◌, ◌≤◌}
use native.Mathlib.Omega.{arith}
use lib.ListN.{length, get_or, set, length-set}
use lib.Seq.{get_or-set_same, get_or-set_other}
use lib.Dec.{eqb}
use borrow.Author.Tests.{eqb-true, eqb-false, ne_eqb}
use Rattle.fields.specs.Choice.{if'}
use Rattle.forest.specs.Forest.{node_of, span_of, kids_of, rest_of, forest, tree_of}
use Rattle.forest.proofs.Stretch.{forest_none, forest_tree, forest_induction, length_kids, length_rest}
use Rattle.soundness.specs.KindNumbers.{kind_list}
use Rattle.types.specs.Forms.{list_shape, reads_as, arguments_only}
use Rattle.types.specs.declared.How.{How}
use Rattle.types.specs.declared.How.TheVariants.{Unread, AsType, AsArgument}
use Rattle.types.specs.declared.Reads.{Reads}
use Rattle.shapes.specs.Shapes.{Shape, shape_at, shapes_of, shapes_each, written, shape_or, Rising}
use Rattle.shapes.proofs.Writing.{shapes_child}

-- no shapes; a wider range; the shapes of two ranges, one after the other
rising_none : (lo hi : ℕ) → Rising lo hi []
unfolding Rising
rising_none lo hi = tt

rising_wider : (lo hi lo' hi' : ℕ) → lo' ≤ lo → hi ≤ hi' → (ss : List Shape) → Rising lo hi ss → Rising lo' hi' ss
unfolding Rising
rising_wider lo hi lo' hi' p q [] w = tt
rising_wider lo hi lo' hi' p q (x ∷ ss) w =
    let least = w.0 in
    let most = w.1.0 in
    (omega arith, (omega arith, rising_wider (x.at + 1) hi (x.at + 1) hi' (omega arith) q ss w.1.1))

rising_append : (lo mid hi : ℕ) → lo ≤ mid → mid ≤ hi → (ss us : List Shape) → Rising lo mid ss → Rising mid hi us
    → Rising lo hi (ss ++ us)
unfolding Rising
rising_append lo mid hi p q [] us a b = rising_wider mid hi lo hi p (omega arith) us b
rising_append lo mid hi p q (x ∷ ss) us a b =
    let least = a.0 in
    let most = a.1.0 in
    (omega arith, (omega arith, rising_append (x.at + 1) mid hi (omega arith) q ss us a.1.1 b))

-- a node before or after the range is not among those that are read
pub not_below : (lo hi : ℕ) (ss : List Shape) → Rising lo hi ss → (k old : ℕ) → k < lo → shape_or ss k old ≡ old
unfolding Rising shape_or
not_below lo hi [] w k old h = refl
not_below lo hi (x ∷ ss) w k old h =
    let least = w.0 in
    rw (ne_eqb x.at k (λ e. absurd (omega arith))) (not_below (x.at + 1) hi ss w.1.1 k old (omega arith))

pub not_above : (lo hi : ℕ) (ss : List Shape) → Rising lo hi ss → (k old : ℕ) → hi ≤ k → shape_or ss k old ≡ old
unfolding Rising shape_or
not_above lo hi [] w k old h = refl
not_above lo hi (x ∷ ss) w k old h =
    let most = w.1.0 in
    rw (ne_eqb x.at k (λ e. absurd (omega arith))) (not_above (x.at + 1) hi ss w.1.1 k old h)

-- LAW: if no node comes twice, the byte of each node that is read is its shape, and every other byte is unchanged
pub written_bytes : (lo hi : ℕ) (ss : List Shape) → Rising lo hi ss → (s : List ℕ) → hi ≤ length s → (k : ℕ)
    → get_or (written ss s) k 0 ≡ shape_or ss k (get_or s k 0)
unfolding written Rising shape_or
written_bytes lo hi [] w s h k = refl
written_bytes lo hi (x ∷ ss) w s h k =
    written_bytes (x.at + 1) hi ss w.1.1 (set s x.at x.shape) (rw (length-set s x.at x.shape) h) k
    ∙ go (eqb x.at k) refl
  where
    go : (b : Bool) → eqb x.at k ≡ b
        → shape_or ss k (get_or (set s x.at x.shape) k 0)
        ≡ if' b (λ _. x.shape) (λ _. shape_or ss k (get_or s k 0))
    go true e =
        let here : x.at ≡ k = eqb-true x.at k e in
        let most = w.1.0 in
        not_below (x.at + 1) hi ss w.1.1 k (get_or (set s x.at x.shape) k 0) (omega arith)
        ∙ rw (← here) (get_or-set_same s x.at x.shape 0 (omega arith))
    go false e = ap (λ (v : ℕ). shape_or ss k v)
        (get_or-set_other s x.at k x.shape 0 (λ q. eqb-false x.at k e (sym q)))

-- the shapes of the siblings in bs lie in the range of bs, however they are read
abbrev pub Placed : ℕ → List ℕ → Type 0
Placed i bs = (reads : Reads) → Rising i (i + length bs / 24) (shapes_each reads (forest i bs))

module _ (i : ℕ) (bs : List ℕ) (big : 24 ≤ length bs) (ks : Placed (i + 1) (kids_of bs)) where
  -- a node with the shape v, and its children
  under : (v : ℕ) (reads : Reads) → Rising i (i + span_of bs / 24)
      (shape_at (node_of i bs) v ∷ shapes_each reads (forest (i + 1) (kids_of bs)))
  unfolding Rising
  under v reads = (
    omega arith,
    (
      omega arith,
      rising_wider (i + 1) (i + 1 + length (kids_of bs) / 24) (i + 1)
          (i + span_of bs / 24) (omega arith) (omega (arith, length_kids bs))
          (shapes_each reads (forest (i + 1) (kids_of bs))) (ks reads),
    ),
  )

  pub type_rising : Rising i (i + span_of bs / 24) (shapes_of (tree_of i bs))
  unfolding shapes_of
  type_rising = under _ _

  child_rising : (how : How) → Rising i (i + span_of bs / 24) (shapes_child how (tree_of i bs))
  unfolding shapes_of
  child_rising Unread = rising_none i (i + span_of bs / 24)
  child_rising AsType = type_rising
  child_rising AsArgument = go (eqb (node_of i bs).kind kind_list)
    where
      go : (b : Bool) → Rising i (i + span_of bs / 24)
          (if' b (λ _. shape_at (node_of i bs) list_shape ∷ shapes_each arguments_only (forest (i + 1) (kids_of bs)))
          (λ _. shapes_of (tree_of i bs)))
      go true = under list_shape arguments_only
      go false = type_rising

pub placed : (i : ℕ) (bs : List ℕ) → Placed i bs
unfolding shapes_of
placed = forest_induction Placed few more
  where
    few : (i : ℕ) (bs : List ℕ) → length bs < 24 → Placed i bs
    few i bs short reads = rw (forest_none i bs short) (rising_none i (i + length bs / 24))

    more : (i : ℕ) (bs : List ℕ) → 24 ≤ length bs → Placed (i + 1) (kids_of bs)
        → Placed (i + span_of bs / 24) (rest_of bs) → Placed i bs
    more i bs big ks rs reads =
        let mid : ℕ = i + span_of bs / 24 in
        rw (forest_tree i bs big) (rising_append i mid (i + length bs / 24) (omega arith) (omega arith)
        (shapes_child reads.first (tree_of i bs)) _ (child_rising i bs big ks reads.first)
        (rising_wider mid (mid + length (rest_of bs) / 24) mid (i + length bs / 24) (omega arith)
        (omega (arith, length_rest bs)) _ (rs (reads_as reads.others reads.others))))

-- LAW: the nodes that a type reads come once each, in table order, within its subtree
pub type_once : (t : List ℕ) → 24 ≤ length t → Rising 0 (length t / 24) (shapes_of (tree_of 0 t))
type_once t big = rising_wider 0 (0 + span_of t / 24) 0 (length t / 24) (omega arith) (omega arith)
    (shapes_of (tree_of 0 t)) (type_rising 0 t big (placed 1 (kids_of t)))
