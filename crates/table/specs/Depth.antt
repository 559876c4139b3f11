-- Depth: the weights along the way from the root to a node, summed. These are definitions.
use Rattle.std.specs.Prelude.{List, [], ◌∷◌, ◌++◌, ℕ, ◌+◌, ◌<◌, ◌≤◌, length, get_or, ltb, eqb, None, Option, Some}
use Rattle.fields.specs.Choice.{if'}
use Rattle.soundness.specs.Kinds.{statement, expression, class_of}
use Rattle.forest.specs.Forest.{Tree, node, Forest, none, ◌then◌}

-- the largest depth
abbrev pub most_depth : ℕ
most_depth = 64

-- what a record of a class adds to its parent's depth: statements and expressions count, all others have the depth of
-- their parent
unfoldable pub class_weight : ℕ → ℕ
class_weight class =
    if' (eqb class statement) (λ _. 1) (λ _.
    if' (eqb class expression) (λ _. 1) (λ _.
    0))

-- what a record of a kind adds
unfoldable pub weight : ℕ → ℕ
weight kind = class_weight (class_of kind)

-- the first of two that is found
abbrev pub or_else : Option ℕ → (Unit {0} → Option ℕ) → Option ℕ
or_else (Some i) next = Some i
or_else None next = next tt

-- the first node, in table order, that is deeper than the largest depth; d is its parent's depth
unfoldable mutual
  pub first_deep : ℕ → Forest → Option ℕ
  first_deep d none = None
  first_deep d (t then ts) = or_else (deep_in d t) (λ _. first_deep d ts)

  pub deep_in : ℕ → Tree → Option ℕ
  deep_in d (node r ks) =
      if' (ltb most_depth (d + weight r.kind)) (λ _. Some r.at) (λ _. first_deep (d + weight r.kind) ks)

-- the depth of each node, in table order; d is the depth of their parent
unfoldable mutual
  pub depths : ℕ → Forest → List ℕ
  depths d none = []
  depths d (t then ts) = depths_in d t ++ depths d ts

  pub depths_in : ℕ → Tree → List ℕ
  depths_in d (node r ks) = (d + weight r.kind) ∷ depths (d + weight r.kind) ks

-- node k is the first that is deeper than the largest depth
pub record FirstDeeper (f : Forest) (k : ℕ) : Type 0 where
  pub within : k < length (depths 0 f)
  pub deeper : most_depth < get_or (depths 0 f) k 0
  pub before : (j : ℕ) → j < k → get_or (depths 0 f) j 0 ≤ most_depth
