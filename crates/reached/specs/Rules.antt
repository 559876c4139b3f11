-- The rules of a call and a def, without the job: what W-204 requires of two lists that are to be bound. These are
-- definitions.
use Rattle.std.specs.Prelude.{◌≡◌, true, false, ◌⊎◌, List, [], ℕ, ◌+◌, ◌≤◌, length}
use Rattle.forest.specs.Forest.{Node}
use Rattle.table.specs.Answer.{accepted}
use Rattle.table.specs.Check.{check_of, node_fits}
use Rattle.table.specs.declared.Wanted.TheVariants.{Call}
use Rattle.deflist.specs.Written.{Name}
use Rattle.deflist.specs.Unpack.{mode_args, mode_kwargs}
use Rattle.deflist.specs.Limited.{most_parameters}
use Rattle.parameters.specs.Params.{list_of}
use Rattle.demand3.specs.Cut.{Cut}
use Rattle.demand3.specs.Given.{CutOf}
use Rattle.arguments.specs.Written.{Argument, positional, named, args, kwargs}
use Rattle.arguments.specs.Accepted.{Ordered}
use Rattle.arguments.specs.declared.CallArgs.{CallArgs}
use Rattle.bind.specs.FlatList.{FlatParam}
use Rattle.bind.specs.Job.{is_def, arguments_at}
use Rattle.reached.specs.Said.{IsAt, CanBeNamed, ByPlace, flats_at}

-- the parameter of a name
pub record Named (fs : List FlatParam) (x : Name) (i : ℕ) : Type 0 where
  pub param : FlatParam
  pub there : IsAt fs i param
  pub can_be : CanBeNamed param
  pub name : param.name ≡ x

-- a parameter of a mode
pub record Star (fs : List FlatParam) (mode : ℕ) : Type 0 where
  pub index : ℕ
  pub param : FlatParam
  pub there : IsAt fs index param
  pub is : param.mode ≡ mode

-- a parameter that is filled by its place
pub record Placed (fs : List FlatParam) (k : ℕ) : Type 0 where
  pub param : FlatParam
  pub there : IsAt fs k param
  pub by_place : ByPlace param

-- no star among the arguments; a parameter for each; none for two; an argument for each parameter without default
pub record Matching (fs : List FlatParam) (qs : List Argument) : Type 0 where
  pub no_args : (k : ℕ) (r : Node) → IsAt qs k (args r) → ⊥
  pub no_kwargs : (k : ℕ) (r : Node) → IsAt qs k (kwargs r) → ⊥
  pub places : (k : ℕ) (r : Node) → IsAt qs k (positional r) → Placed fs k ⊎ Star fs mode_args
  pub names : (k : ℕ) (r : Node) (x : Name) → IsAt qs k (named r x) → ((i : ℕ) × Named fs x i) ⊎ Star fs mode_kwargs
  pub not_twice : (k : ℕ) (r s : Node) (x : Name) (i : ℕ) → IsAt qs k (named r x) → Named fs x i
      → IsAt qs i (positional s) → Placed fs i → ⊥
  pub needed : (i : ℕ) (p : FlatParam) → IsAt fs i p → p.default ≡ false
      → ((r : Node) × (IsAt qs i (positional r) × ByPlace p))
      ⊎ ((k : ℕ) × ((r : Node) × (IsAt qs k (named r p.name) × CanBeNamed p)))

-- a call and a def in a table, and a list with room, that meet all rules
pub record Rules (t names : List ℕ) (call def n : ℕ) : Type 0 where
  pub sound : check_of t names ≡ accepted []
  pub is_acall : node_fits t call Call ≡ true
  pub is_adef : is_def t def ≡ true
  pub room : length (list_of t names def) + length (arguments_at t names call) ≤ n
  pub short : length (list_of t names def) ≤ most_parameters
  pub cut : (c : Cut) × CutOf (list_of t names def) c
  pub order : (a : CallArgs) × Ordered (arguments_at t names call) a
  pub matching : Matching (flats_at t names def) (arguments_at t names call)
