-- What demand 3 supposes, and what it says of an answer. These are definitions.
use Rattle.std.specs.Prelude.{◌≡◌, ◌⊎◌, List, [], ◌∷◌, map, ℕ, ◌+◌, ◌*◌, ◌/◌, ◌<◌, ◌≤◌, length, drop, eqb}
use Rattle.fields.specs.Choice.{if'}
use Rattle.forest.specs.Forest.{record_bytes, Node, node_of, kids_of, node, Forest, none, ◌then◌, forest}
use Rattle.soundness.specs.KindNumbers.{kind_def, kind_lambda}
use Rattle.soundness.specs.Kinds.{parameter, class_of}
use Rattle.table.specs.Answer.{accepted}
use Rattle.table.specs.Check.{check_of, stretch_of}
use Rattle.deflist.specs.Written.{Param, param_of}
use Rattle.parameters.specs.Indices.{pos_only, pos_or_named, args_range, named_only, kwargs_range}
use Rattle.parameters.specs.declared.Counted.{Counted}
use Rattle.parameters.specs.Params.{list_of}
use Rattle.demand3.specs.Cut.{Cut, join, Good, Ranges}

-- the records side by side that are parameters, wherever they are among the others
unfoldable pub parameters_in : Forest → List Node
parameters_in none = []
parameters_in (node r ks then f) =
    if' (eqb (class_of r.kind) parameter) (λ _. r ∷ parameters_in f) (λ _. parameters_in f)

-- all parameters of a node of the table, in written order
abbrev pub all_parameters : List ℕ → List ℕ → ℕ → List Param
all_parameters t names i = map (param_of names) (parameters_in (forest (i + 1) (kids_of (stretch_of t i))))

-- a sound table, a def or lambda in it, and a buffer with a byte for each written parameter
pub record Given (t names : List ℕ) (node : ℕ) (ms : List ℕ) : Type 0 where
  pub sound : check_of t names ≡ accepted []
  pub within : node < length t / record_bytes
  pub def_or_lambda : ((node_of node (drop (record_bytes * node) t)).kind ≡ kind_def)
      ⊎ ((node_of node (drop (record_bytes * node) t)).kind ≡ kind_lambda)
  pub room : length (list_of t names node) ≤ length ms

-- a good cut of a written list
pub record CutOf (l : List Param) (c : Cut) : Type 0 where
  pub joins : join c ≡ l
  pub good : Good c

-- the five ranges of an answer are these
pub record RangesAre (a : Counted) (r : Ranges) : Type 0 where
  pub pos_only_is : pos_only a.indices ≡ r.pos_only
  pub pos_or_named_is : pos_or_named a.indices ≡ r.pos_or_named
  pub args_is : args_range a.indices ≡ r.args
  pub named_only_is : named_only a.indices a.flat ≡ r.named_only
  pub kwargs_is : kwargs_range a.indices a.flat ≡ r.kwargs
  pub flat_is : a.flat ≡ r.kwargs.upto
