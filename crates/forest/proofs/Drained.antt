-- How many items a walk gives, as `count` of an iterator says it: as many as a measure says, if the measure is 0 where
-- the walk ends, and one more before an item than behind it. The measure may depend on an index, which each item may
-- change. The induction is on the items. Cite `drained`. Assumes nothing.
use mathlib.Core.Path.{◌≡◌, refl, sym, ap, ◌∙◌}
use mathlib.Core.List.{List, [], ◌∷◌}
use Prim.Native.Nat.{ℕ, suc, ◌+◌, ◌/◌}
use lib.ListN.{length}
use Rattle.std.specs.Prelude.{Option, None, Some}
use Rattle.std.specs.Iterator.{Drains}
use denote.Ref.{Bor}
use Prim.Native.Nat.{◌≤◌}
use Rattle.forest.specs.Forest.{span_of, rest_of, forest, roots}
use Rattle.forest.proofs.Stretch.{forest_tree, roots_none}
use Rattle.forest.specs.Nodes.{GivesNode, NextNode}
use Rattle.forest.specs.declared.Nodes.{Nodes}

pub drained : {S A I : Type 0} (steps : S → Option A → S → Type 0) (left : I → S → ℕ)
    → ((i : I) (s t : S) → steps s None t → left i s ≡ 0)
    → ((i : I) (s : S) (x : A) (t : S) → steps s (Some x) t → (j : I) × (left i s ≡ suc (left j t)))
    → (xs : List A) (i : I) (s : S) → Drains steps s xs → length xs ≡ left i s
drained steps left ends goes [] i s (u, (t, same, ended)) = rw same (sym (ends i t u ended))
drained steps left ends goes (x ∷ xs) i s (u, (t, (j, step, more), ended)) =
    let next = goes i s x j step in
    ap suc (drained steps left ends goes xs next.0 j (u, (t, more, ended))) ∙ sym next.1

-- what a node that a walk gives says of the walk before it
module _ {s t : Nodes} {x : ℕ × Bor (List ℕ)} (given : GivesNode s x t) where
  pub there_left : 24 ≤ length s.left.now
  there_left = rw given.stretch at given.there

  pub rest_left : t.left.now ≡ rest_of s.left.now
  rest_left = rw given.stretch at given.rest

-- LAW: a walk gives as many nodes as there are side by side, whatever their indices
pub nodes_counted : (i : ℕ) (xs : List (ℕ × Bor (List ℕ))) (s : Nodes) → Drains NextNode s xs
    → length xs ≡ length (roots (forest i s.left.now))
unfolding roots
nodes_counted i xs s given =
    drained NextNode (λ (j : ℕ) (u : Nodes). length (roots (forest j u.left.now)))
    (λ j u v short. ap length (roots_none j u.left.now short))
    (λ j u x v on.
    (j + span_of u.left.now / 24, rw (forest_tree j u.left.now (there_left on), rest_left on) refl)) xs i s given
