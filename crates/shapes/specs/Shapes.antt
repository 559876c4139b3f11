-- Shapes: which byte of the buffer gets which shape. These are definitions.
-- The nodes are those that TypeExprUnpackP::unpack of src/syntax/type_expr.rs reads.
-- Copyright 2018 The Starlark in Rust Authors. Copyright (c) Facebook, Inc. and its affiliates.
-- Licensed under Apache-2.0; changed.
use Rattle.std.specs.Prelude.{List, [], ◌∷◌, ◌++◌, ℕ, ◌+◌, ◌≤◌, ◌<◌, eqb, set}
use Rattle.fields.specs.Choice.{if'}
use Rattle.forest.specs.Forest.{Node, Tree, node, Forest, none, ◌then◌}
use Rattle.soundness.specs.KindNumbers.{kind_list}
use Rattle.table.specs.Answer.{Answer, is_refused}
use Rattle.types.specs.Forms.{form_of, shape_of, list_shape, reads_as, reads_of, arguments_only, of_child}
use Rattle.types.specs.declared.Reads.{Reads}

-- a node that is read, by its index, and its shape
pub record Shape : Type 0 where
  pub at : ℕ
  pub shape : ℕ

abbrev pub shape_at : Node → ℕ → Shape
shape_at r s = record { at = r.at; shape = s }

-- the shapes of a node read as a type, given those of its children by how they are read
abbrev pub node_shapes : Node → (Reads → List Shape) → List Shape
node_shapes r children =
    shape_at r (shape_of (form_of r.kind r.detail)) ∷ children (reads_of (form_of r.kind r.detail))

-- the nodes that are read as types and as arguments, in table order: not the base of an Index or Index2, and nothing
-- inside a path
unfoldable mutual
  pub shapes_of : Tree → List Shape
  shapes_of (node r ks) = node_shapes r (λ reads. shapes_each reads ks)

  pub shapes_argument : Tree → List Shape
  shapes_argument (node r ks) =
      if' (eqb r.kind kind_list) (λ _. shape_at r list_shape ∷ shapes_each arguments_only ks) (λ _.
      node_shapes r (λ reads. shapes_each reads ks))

  pub shapes_each : Reads → Forest → List Shape
  shapes_each reads none = []
  shapes_each reads (t then ts) =
      of_child reads.first [] (λ _. shapes_of t) (λ _. shapes_argument t)
      ++ shapes_each (reads_as reads.others reads.others) ts

-- a buffer after shapes are written, each at its index; other bytes are unchanged
unfoldable pub written : List Shape → List ℕ → List ℕ
written [] bytes = bytes
written (s ∷ ss) bytes = written ss (set bytes s.at s.shape)

-- the byte of node k afterwards: its shape if it is read, else what it was
unfoldable pub shape_or : List Shape → ℕ → ℕ → ℕ
shape_or [] k old = old
shape_or (s ∷ ss) k old = if' (eqb s.at k) (λ _. s.shape) (λ _. shape_or ss k old)

-- nodes in table order, from lo on and below hi, so that none comes twice
unfoldable pub Rising : ℕ → ℕ → List Shape → Type 0
Rising lo hi [] = Unit {0}
Rising lo hi (s ∷ ss) = (lo ≤ s.at) × ((s.at < hi) × Rising (s.at + 1) hi ss)

-- every shape is one of the seven, 1 to 7
unfoldable pub Proper : List Shape → Type 0
Proper [] = Unit {0}
Proper (s ∷ ss) = (1 ≤ s.shape) × ((s.shape ≤ 7) × Proper ss)

-- a buffer after an answer: a refusal changes nothing, acceptance writes the shapes
abbrev pub after_answer : Answer → List Shape → List ℕ → List ℕ
after_answer answer ss bytes = if' (is_refused answer) (λ _. bytes) (λ _. written ss bytes)
