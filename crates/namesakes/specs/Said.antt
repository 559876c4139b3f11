-- The words of the theorems on namesakes: a row of the list, two arguments that are exchanged, and a call in which two
-- arguments of another call are exchanged. These are definitions.
use Rattle.std.specs.Prelude.{◌≡◌, true, List, [], ◌∷◌, ℕ, ◌*◌, ◌<◌, take, drop}
use Rattle.forest.specs.Forest.{Node}
use Rattle.table.specs.Check.{node_fits}
use Rattle.table.specs.declared.Wanted.TheVariants.{Call}
use Rattle.deflist.specs.Written.{Name}
use Rattle.deflist.specs.Unpack.{mode_pos_only}
use Rattle.arguments.specs.Written.{Argument, positional, named, args, kwargs, node_in, kind_in}
use Rattle.bind.specs.FlatList.{FlatParam}
use Rattle.bind.specs.Job.{arguments_at}
use Rattle.reached.specs.Said.{IsAt, Ordinary, flats_at, argument_word}
use Rattle.namesakes.specs.Namesake.{label, Labelled}
use Rattle.namesakes.specs.Job.{labelled_at}

-- an argument's node
abbrev pub node_of : Labelled → ℕ
node_of a = (node_in a.argument).at

-- these four words are one of the first n rows of a list
pub record Reported (list : List ℕ) (n : ℕ) (row : List ℕ) : Type 0 where
  pub number : ℕ
  pub below : number < n
  pub there : take 4 (drop (4 * number) list) ≡ row

-- arguments j and l of a call are exchanged: each has the name of the ordinary parameter that the other reaches; words
-- are the list of the binding
pub record Exchanged (t names : List ℕ) (call def : ℕ) (words : List ℕ) (j l : ℕ) : Type 0 where
  pub apart : j ≡ l → ⊥
  pub first : Labelled
  pub second : Labelled
  pub first_there : IsAt (labelled_at t names call) j first
  pub second_there : IsAt (labelled_at t names call) l second
  pub param : FlatParam
  pub other : FlatParam
  pub param_there : IsAt (flats_at t names def) (argument_word t names call def words j) param
  pub other_there : IsAt (flats_at t names def) (argument_word t names call def words l) other
  pub ordinary : Ordinary param
  pub other_ordinary : Ordinary other
  pub first_name : first.name ≡ label other.name
  pub second_name : second.name ≡ label param.name

-- argument k is positional, its parameter is before `/`, and has its name
pub record OwnName (t names : List ℕ) (call def k : ℕ) : Type 0 where
  pub argument : Labelled
  pub there : IsAt (labelled_at t names call) k argument
  pub node : Node
  pub by_place : argument.argument ≡ positional node
  pub param : FlatParam
  pub param_there : IsAt (flats_at t names def) k param
  pub pos_only : param.mode ≡ mode_pos_only
  pub name : argument.name ≡ label param.name

-- the name that an argument is called by; only named ones have one
abbrev pub called_by : Argument → Name
called_by (positional r) = []
called_by (named r n) = n
called_by (args r) = []
called_by (kwargs r) = []

-- two lists of arguments of the same kinds, called by the same names
abbrev pub Alike : List Argument → List Argument → Type 0
Alike [] [] = Unit {0}
Alike [] (b ∷ bs) = ⊥
Alike (a ∷ qs) [] = ⊥
Alike (a ∷ qs) (b ∷ bs) = ((kind_in a ≡ kind_in b) × (called_by a ≡ called_by b)) × Alike qs bs

-- another call in which arguments j and l of a call are exchanged, and all else is alike
pub record Swapped (t names : List ℕ) (call other def j l : ℕ) : Type 0 where
  pub is_acall : node_fits t other Call ≡ true
  pub alike : Alike (arguments_at t names call) (arguments_at t names other)
  pub apart : j ≡ l → ⊥
  pub own : OwnName t names call def j
  pub owns : OwnName t names call def l
  pub first : Labelled
  pub second : Labelled
  pub first_there : IsAt (labelled_at t names other) j first
  pub second_there : IsAt (labelled_at t names other) l second
  pub first_name : first.name ≡ owns.argument.name
  pub second_name : second.name ≡ own.argument.name
