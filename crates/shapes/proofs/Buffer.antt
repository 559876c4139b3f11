-- The buffer of the type job at exit, for every input. A refusal changes no byte (`refusal_keeps`). After acceptance
-- the byte of each node that is read is its shape, from 1 to 7, and every other byte is unchanged (`accepted_proper`,
-- `accepted_bytes`, `past_subtree_stays`). The definition writes shapes one after the other; this file joins what
-- acceptance says (Jobs' `Says`: there is room, and the type passes) with two laws about the shapes: each node comes
-- once, within the subtree (Places' `type_once`), and each shape is proper (Proper's `type_proper`). Both are
-- inductions on the tree, done there. These are the laws to cite. Assumes nothing.
use mathlib.Core.Path.{◌≡◌, refl, sym, ap, ◌∙◌}
use mathlib.Core.List.{List}
use Prim.Native.Nat.{ℕ, ◌+◌, ◌/◌, ◌≤◌}
use lib.ListN.{length, get_or}
use Rattle.forest.specs.Forest.{kids_of, tree_of}
use Rattle.table.specs.Answer.{Answer, accepted, refused}
use Rattle.table.specs.Check.{stretch_of}
use Rattle.types.specs.Jobs.{type_shape_of}
use Rattle.shapes.specs.Shapes.{shapes_of, shape_or, Rising, Proper}
use Rattle.shapes.specs.Jobs.{shapes_after}
use Rattle.shapes.proofs.Jobs.{accepted_says}
use Rattle.shapes.proofs.Places.{written_bytes, not_above, type_once}
use Rattle.shapes.proofs.Proper.{type_proper, each_proper}

module _ (t names bytes : List ℕ) (n i : ℕ) where
  -- LAW: a refusal changes no byte
  pub refusal_keeps : (buffer : List ℕ) {m : ℕ} {vs : List ℕ}
      → type_shape_of t names bytes n i (length buffer) ≡ refused m vs → shapes_after t names bytes n i buffer ≡ buffer
  refusal_keeps buffer e = rw e refl

  -- LAW: what an accepted job writes is a shape from 1 to 7 at each place
  pub accepted_proper : (room : ℕ) {vs : List ℕ} → accepted vs ≡ type_shape_of t names bytes n i room
      → Proper (shapes_of (tree_of 0 (stretch_of t i)))
  accepted_proper room e =
      let says = accepted_says t names bytes n i room e in
      type_proper says.edition names i 0 (stretch_of t i)
      (each_proper says.edition names (i + 1) (kids_of (stretch_of t i))) says.passes

  -- LAW: each node that is read comes once, in table order, within the subtree
  pub read_once : (room : ℕ) {vs : List ℕ} → accepted vs ≡ type_shape_of t names bytes n i room
      → Rising 0 (length (stretch_of t i) / 24) (shapes_of (tree_of 0 (stretch_of t i)))
  read_once room e = type_once (stretch_of t i) (accepted_says t names bytes n i room e).long

  -- LAW: after acceptance the byte of each node that is read as a type or argument is its shape, and every other byte
  -- is as it was
  pub accepted_bytes : (buffer : List ℕ) {vs : List ℕ} → accepted vs ≡ type_shape_of t names bytes n i (length buffer)
      → (k : ℕ) → get_or (shapes_after t names bytes n i buffer) k 0
      ≡ shape_or (shapes_of (tree_of 0 (stretch_of t i))) k (get_or buffer k 0)
  accepted_bytes buffer e k = rw (← e) (written_bytes 0 (length (stretch_of t i) / 24) _
      (read_once (length buffer) e) buffer (accepted_says t names bytes n i (length buffer) e).fits k)

  -- LAW: a byte past the type's subtree stays
  pub past_subtree_stays : (buffer : List ℕ) (k : ℕ) → length (stretch_of t i) / 24 ≤ k
      → get_or (shapes_after t names bytes n i buffer) k 0 ≡ get_or buffer k 0
  past_subtree_stays buffer k h = go (type_shape_of t names bytes n i (length buffer)) refl
    where
      go : (a : Answer) → a ≡ type_shape_of t names bytes n i (length buffer)
          → get_or (shapes_after t names bytes n i buffer) k 0 ≡ get_or buffer k 0
      go (accepted vs) e = accepted_bytes buffer e k
          ∙ not_above 0 (length (stretch_of t i) / 24) _ (read_once (length buffer) e) k (get_or buffer k 0) h
      go (refused m vs) e = ap (λ (l : List ℕ). get_or l k 0) (refusal_keeps buffer (sym e))
