-- A named argument with the name of an earlier one: what 22 reports, defined by itself. These are definitions.
use Rattle.std.specs.Prelude.{◌≡◌, true, List, ◌∷◌, ◌++◌, ℕ, ◌<◌}
use Rattle.forest.specs.Forest.{Node}
use Rattle.forest.specs.Names.{NonePasses, FirstPassing}
use Rattle.arguments.specs.Written.{Name, Argument, node_in}
use Rattle.arguments.specs.Call.{has_name}

-- an argument's node
abbrev pub index_of : Argument → ℕ
index_of a = (node_in a).at

-- in a list the argument of record r has the name of an earlier one, the first of which is the node i; it is the only
-- one, since no other of those that are read has the name
pub record NamedTwice (l : List Argument) (i : ℕ) (r : Node) : Type 0 where
  pub read : List Argument
  pub again : Argument
  pub rest : List Argument
  pub cut : l ≡ read ++ again ∷ rest
  pub here : node_in again ≡ r
  pub name : Name
  pub has : has_name name again ≡ true
  pub earlier : FirstPassing (has_name name) index_of read i
  pub only : NonePasses (has_name name) earlier.after
  pub smaller : i < r.at
