-- The flat parameters of a def: its written list with the marks omitted, each with its mode. These are definitions.
use Rattle.std.specs.Prelude.{Bool, true, List, [], ◌∷◌, ◌++◌, map, ℕ}
use Rattle.forest.specs.Forest.{Node}
use Rattle.deflist.specs.Written.{Name, Param, normal, no_args, slash, args, kwargs, node_in, kind_in}
use Rattle.deflist.specs.Unpack.{next_state, first_slash, positional_only, first_state, mode_of}
use Rattle.deflist.specs.declared.State.{State}

-- a flat parameter: its record, its name, whether it may stay empty, its mode
pub record FlatParam : Type 0 where
  pub node : Node
  pub name : Name
  pub default : Bool
  pub mode : ℕ

-- a parameter's name; marks have none
abbrev pub name_in : Param → Name
name_in (normal r n d) = n
name_in (no_args r) = []
name_in (slash r) = []
name_in (args r n) = n
name_in (kwargs r n) = n

-- whether it may stay empty: an ordinary one if it has a default, all others
abbrev pub default_in : Param → Bool
default_in (normal r n d) = d
default_in (no_args r) = true
default_in (slash r) = true
default_in (args r n) = true
default_in (kwargs r n) = true

abbrev pub flat_param : Param → ℕ → FlatParam
flat_param p m = record { node = node_in p; name = name_in p; default = default_in p; mode = m }

-- the flat parameters from a state on: one for each mode, so a mark gives none
unfoldable pub flats_from : State → List Param → List FlatParam
flats_from s [] = []
flats_from s (p ∷ ps) = map (flat_param p) (mode_of s (kind_in p)) ++ flats_from (next_state s (kind_in p)) ps

-- those of an accepted list
unfoldable pub flats : List Param → List FlatParam
flats l = flats_from (first_state (positional_only (first_slash l))) l
