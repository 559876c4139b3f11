-- What private functions promise about stretches. Only their contracts use these definitions.
use Rattle.std.specs.Prelude.{Bool, true, false, ◌&&◌, List, ℕ, ◌*◌, ◌≤◌, length, leb}
use Rattle.forest.specs.Forest.{record_bytes, node_of, forest}
use Rattle.table.specs.Check.{most_bytes, Within, stretch_of}
use Rattle.deflist.specs.Written.{params_in}
use Rattle.deflist.specs.declared.Kind.{Kind}
use Rattle.deflist.specs.declared.Kind.TheVariants.{Normal, NoArgs, Slash, Args, KwArgs}
use Rattle.bind.specs.FlatList.{FlatParam, flats}
use Rattle.bind.specs.Job.{arguments_at}
use Rattle.namesakes.specs.Namesake.{has_name}

-- an ordinary parameter, by its kind
abbrev pub is_normal : Kind → Bool
is_normal (Normal default) = true
is_normal NoArgs = false
is_normal Slash = false
is_normal Args = false
is_normal KwArgs = false

-- a stretch begins with an expression that has a name
unfoldable pub is_named : List ℕ → Bool
is_named t = leb record_bytes (length t) && has_name (node_of 0 t).kind

-- the flat parameters of a stretch whose first record has the index i
unfoldable pub flats_of : List ℕ → ℕ → List ℕ → List FlatParam
flats_of names i params = flats (params_in names (forest i params))

-- what is known of a call and a def that are bound, where a list of n words has room
pub record Ready (t names : List ℕ) (call def n : ℕ) : Type 0 where
  pub short : length t ≤ most_bytes
  pub call_within : Within call (stretch_of t call)
  pub def_within : Within def (stretch_of t def)
  pub room : 4 * length (arguments_at t names call) ≤ n
