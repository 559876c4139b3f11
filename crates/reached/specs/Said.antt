-- The words of W-204's sentences: number i of a list, and kinds of parameters. These are definitions.
use Rattle.std.specs.Prelude.{◌≡◌, ◌⊎◌, List, [], ◌∷◌, ℕ, zero, suc, ◌+◌, length, get_or}
use Rattle.forest.specs.Forest.{Node}
use Rattle.table.specs.Answer.{span_values, span_at}
use Rattle.deflist.specs.Written.{Name}
use Rattle.deflist.specs.Unpack.{mode_pos_only, mode_pos_or_name, mode_name_only, mode_args, mode_kwargs}
use Rattle.parameters.specs.Params.{list_of}
use Rattle.arguments.specs.Written.{Argument, positional, named}
use Rattle.bind.specs.FlatList.{FlatParam, flats}
use Rattle.bind.specs.Job.{list_after}

-- number i of a list is x, counted from 0
abbrev pub IsAt : {A : Type 0} → List A → ℕ → A → Type 0
IsAt [] i x = ⊥
IsAt (y ∷ l) zero x = y ≡ x
IsAt (y ∷ l) (suc i) x = IsAt l i x

-- an ordinary parameter; one that can be named; one that is filled by its place; `*args` or `**kwargs`
abbrev pub Ordinary : FlatParam → Type 0
Ordinary p = (p.mode ≡ mode_pos_only) ⊎ ((p.mode ≡ mode_pos_or_name) ⊎ (p.mode ≡ mode_name_only))

abbrev pub CanBeNamed : FlatParam → Type 0
CanBeNamed p = (p.mode ≡ mode_pos_or_name) ⊎ (p.mode ≡ mode_name_only)

abbrev pub ByPlace : FlatParam → Type 0
ByPlace p = (p.mode ≡ mode_pos_only) ⊎ (p.mode ≡ mode_pos_or_name)

abbrev pub Starred : FlatParam → Type 0
Starred p = (p.mode ≡ mode_args) ⊎ (p.mode ≡ mode_kwargs)

-- the flat parameters of the def at a node
abbrev pub flats_at : List ℕ → List ℕ → ℕ → List FlatParam
flats_at t names def = flats (list_of t names def)

-- the words of the list at exit: that of flat parameter i, and that of argument k
abbrev pub parameter_word : List ℕ → List ℕ → ℕ → ℕ → List ℕ → ℕ → ℕ
parameter_word t names call def list i = get_or (list_after t names call def list) i 0

abbrev pub argument_word : List ℕ → List ℕ → ℕ → ℕ → List ℕ → ℕ → ℕ
argument_word t names call def list k = get_or (list_after t names call def list) (length (flats_at t names def) + k) 0

-- a named argument whose parameter a positional argument has filled
pub record Against (fs : List FlatParam) (qs : List Argument) (vs : List ℕ) : Type 0 where
  pub number : ℕ
  pub node : Node
  pub name : Name
  pub there : IsAt qs number (named node name)
  pub carries : vs ≡ node.at ∷ span_values (span_at node)
  pub index : ℕ
  pub param : FlatParam
  pub sits : IsAt fs index param
  pub same : param.name ≡ name
  pub can_be : CanBeNamed param
  pub other : Node
  pub first : IsAt qs index (positional other)
