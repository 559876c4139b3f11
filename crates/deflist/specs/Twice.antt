-- A parameter with the name of an earlier one: what 11 reports, defined by itself. These are definitions.
use Rattle.std.specs.Prelude.{◌≡◌, true, List, ◌∷◌, ◌++◌, ℕ, ◌<◌}
use Rattle.forest.specs.Forest.{Node}
use Rattle.forest.specs.Names.{NonePasses, FirstPassing}
use Rattle.deflist.specs.Written.{Name, Param, node_in}
use Rattle.deflist.specs.Unpack.{has_name}

-- a parameter's node
abbrev pub index_of : Param → ℕ
index_of p = (node_in p).at

-- in a list the parameter of record r has the name of an earlier one, the first of which is the node i; it is the only
-- one, since no other of those that are read has the name
pub record NamedTwice (l : List Param) (i : ℕ) (r : Node) : Type 0 where
  pub read : List Param
  pub again : Param
  pub rest : List Param
  pub cut : l ≡ read ++ again ∷ rest
  pub here : node_in again ≡ r
  pub name : Name
  pub has : has_name name again ≡ true
  pub earlier : FirstPassing (has_name name) index_of read i
  pub only : NonePasses (has_name name) earlier.after
  pub smaller : i < r.at
