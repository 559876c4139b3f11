-- What private functions promise about stretches and the words so far. Only their contracts use these definitions.
use Rattle.std.specs.Prelude.{◌≡◌, Bool, true, false, not, ◌&&◌, List, [], ℕ, ◌+◌, ◌*◌, ◌≤◌, length, eqb, Err, Ok, Result}
use Rattle.table.specs.declared.Refusal.{Refusal}
use Rattle.arguments.specs.declared.CallArgs.{CallArgs}
use Rattle.forest.specs.Forest.{record_bytes, kids_of, rest_of, forest}
use Rattle.table.specs.Answer.{Answer, accepted, refused, refusal}
use Rattle.table.specs.Check.{most_nodes, most_bytes, Within, stretch_of}
use Rattle.deflist.specs.Written.{params_in}
use Rattle.deflist.specs.Unpack.{flat_at, seen_slash, first_state}
use Rattle.deflist.specs.declared.Kind.{Kind}
use Rattle.deflist.specs.declared.Kind.TheVariants.{Normal, NoArgs, Slash, Args, KwArgs}
use Rattle.deflist.specs.declared.State.{State}
use Rattle.parameters.specs.Params.{unpacked, list_of, params_of}
use Rattle.parameters.specs.declared.Counted.{Counted}
use Rattle.arguments.specs.Job.{called, call_of}
use Rattle.bind.specs.FlatList.{FlatParam, flats_from, flats}
use Rattle.bind.specs.Binding.{binding}
use Rattle.bind.specs.Job.{no_words, arguments_at}

-- what follows a node's record lies within the largest table and one record more
abbrev pub Behind : ℕ → List ℕ → Type 0
Behind i t = record_bytes * i + length t ≤ most_bytes + record_bytes

-- the arguments of the first call of a stretch: what follows its first child
unfoldable pub behind_callee : List ℕ → List ℕ
behind_callee t = rest_of (kids_of t)

-- whether a parameter of a kind can be called by its name, in a state
abbrev pub nameable : State → Kind → Bool
nameable s (Normal default) = seen_slash s
nameable s NoArgs = false
nameable s Slash = false
nameable s Args = false
nameable s KwArgs = false

-- the number of flat parameters of one of a kind
abbrev pub flats_of : Kind → ℕ
flats_of (Normal default) = 1
flats_of NoArgs = 0
flats_of Slash = 0
flats_of Args = 1
flats_of KwArgs = 1

-- whether it must not stay empty and its word is 0
abbrev pub is_empty : Kind → ℕ → Bool
is_empty (Normal default) w = not default && eqb w 0
is_empty NoArgs w = false
is_empty Slash w = false
is_empty Args w = false
is_empty KwArgs w = false

-- the flat parameters of a stretch whose first record has the index i; the first `only` are positional only
unfoldable pub flats_in : ℕ → List ℕ → ℕ → List ℕ → List FlatParam
flats_in only names i params = flats_from (first_state (flat_at only)) (params_in names (forest i params))

-- the words so far, unless a check refuses
unfoldable pub stored : Result (Unit {0}) Refusal → List ℕ → Answer
stored (Ok _) ws = accepted ws
stored (Err r) ws = refusal r

-- the binding of a call and a def from some words on, and from none, unless their own rules refuse
abbrev pub binding_at : Counted → List ℕ → List ℕ → ℕ → ℕ → List ℕ → Answer
binding_at c t names call def ws = binding c (flats (list_of t names def)) ws (arguments_at t names call)

unfoldable pub continued : Result Counted Refusal → List ℕ → List ℕ → ℕ → ℕ → Answer
continued (Ok c) t names call def = binding_at c t names call def (no_words c (arguments_at t names call))
continued (Err r) t names call def = refusal r

-- what is known of a call and a def that keep their own rules
pub record Kept (t names : List ℕ) (call def : ℕ) (c : Counted) : Type 0 where
  pub flat : c.flat ≡ length (flats (list_of t names def))
  pub same : flats_in c.indices.num_positional_only names (def + 1) (kids_of (stretch_of t def))
      ≡ flats (list_of t names def)
  pub short : length t ≤ most_bytes
  pub call_within : Within call (stretch_of t call)
  pub def_within : Within def (stretch_of t def)

-- a list of n words has room
pub record Roomy (t names : List ℕ) (call def n : ℕ) : Type 0 where
  pub room : length (list_of t names def) + length (arguments_at t names call) ≤ n

abbrev pub IfKept : Result Counted Refusal → List ℕ → List ℕ → ℕ → ℕ → ℕ → Type 0
IfKept (Ok c) t names call def n = Kept t names call def c × Roomy t names call def n
IfKept (Err r) t names call def n = Unit {0}

-- an answer without its words
abbrev pub without : Answer → Answer
without (accepted ws) = accepted []
without (refused n vs) = refused n vs

abbrev pub is_refused : Result (Unit {0}) Refusal → Bool
is_refused (Ok _) = false
is_refused (Err r) = true

-- the answer of a def's list and a call together
unfoldable pub both : Result Counted Refusal → Result CallArgs Refusal → Result Counted Refusal
both (Err r) k = Err r
both (Ok c) (Ok a) = Ok c
both (Ok c) (Err r) = Err r

pub record OwnRules (t names : List ℕ) (call def : ℕ) (r : Result Counted Refusal) : Type 0 where
  pub params : Result Counted Refusal
  pub args : Result CallArgs Refusal
  pub list_is : unpacked params ≡ params_of t names def most_nodes
  pub call_is : called args ≡ call_of t names call
  pub is : r ≡ both params args
