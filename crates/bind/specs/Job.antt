-- The job: its answer and the list afterwards, for every input. These are definitions.
use Rattle.std.specs.Prelude.{Bool, ◌&&◌, List, [], ◌∷◌, ◌++◌, ℕ, ◌+◌, ◌*◌, ◌/◌, length, drop, replicate, eqb, ltb, leb, Err, Ok, Result}
use Rattle.table.specs.declared.Refusal.{Refusal}
use Rattle.fields.specs.Choice.{if'}
use Rattle.forest.specs.Forest.{record_bytes, Node, node_of, tree_of}
use Rattle.soundness.specs.KindNumbers.{kind_def}
use Rattle.table.specs.Numbers.{wrong_node, short_buffer}
use Rattle.table.specs.Answer.{Answer, accepted, refused, and_then, refusal}
use Rattle.table.specs.Check.{stretch_of, entry_check}
use Rattle.table.specs.declared.Wanted.TheVariants.{Call}
use Rattle.deflist.specs.Written.{Param}
use Rattle.deflist.specs.Unpack as def
use Rattle.deflist.specs.Limited.{limited}
use Rattle.parameters.specs.Indices.{counted_of}
use Rattle.parameters.specs.Params.{answer_of, list_of}
use Rattle.parameters.specs.declared.Counted.{Counted}
use Rattle.arguments.specs.Written.{Argument, arguments_of}
use Rattle.arguments.specs.Call as call
use Rattle.arguments.specs.Job.{outcome_answer}
use Rattle.bind.specs.FlatList.{flats}
use Rattle.bind.specs.Binding.{binding}
use Rattle.bind.specs.declared.Bound.{Bound}

-- 6 unless the def is within the table and a Def; a Lambda is not accepted
unfoldable pub is_def : List ℕ → ℕ → Bool
is_def t i = ltb i (length t / record_bytes) && eqb (node_of i (drop (record_bytes * i) t)).kind kind_def

abbrev pub def_check : List ℕ → ℕ → Answer
def_check t i = if' (is_def t i) (λ _. accepted []) (λ _. refused wrong_node [])

-- 7: the list has a word for each written parameter, marks counted, and for each argument
abbrev pub room_check : ℕ → List Param → List Argument → Answer
room_check room ps qs = if' (leb (length ps + length qs) room) (λ _. accepted []) (λ _. refused short_buffer [])

-- 10 to 19, as the parameter job gives them; else the answer for what is counted
abbrev pub counting : def.Outcome → (Counted → Answer) → Answer
counting (def.accepted c) next = next (counted_of c)
counting (def.refused n r) next = answer_of (def.refused n r)
counting (def.repeated i r) next = answer_of (def.repeated i r)
counting (def.internal e r) next = answer_of (def.internal e r)

-- the words of a binding before the first argument
abbrev pub no_words : Counted → List Argument → List ℕ
no_words c qs = replicate (c.flat + length qs) 0

-- the written list of the def whose record this is, and its arguments: 10 to 19, 20 to 24, 80 to 84; or the words
unfoldable pub lists_bound : Node → List Param → List Argument → Answer
lists_bound owner ps qs =
    counting (limited owner ps) (λ c.
    and_then (outcome_answer (call.unpack qs)) (λ _.
    binding c (flats ps) (no_words c qs) qs))

-- the arguments of a node of a table
unfoldable pub arguments_at : List ℕ → List ℕ → ℕ → List Argument
arguments_at t names i = arguments_of names (tree_of i (stretch_of t i))

-- a call and a def in a table: 1 to 4, 6 for either, 7
unfoldable pub entry_of : List ℕ → List ℕ → ℕ → ℕ → ℕ → Answer
entry_of t names call def room =
    and_then (entry_check Call t names call) (λ _.
    and_then (def_check t def) (λ _.
    room_check room (list_of t names def) (arguments_at t names call)))

-- then by their lists
unfoldable pub words_of : List ℕ → List ℕ → ℕ → ℕ → ℕ → Answer
words_of t names call def room =
    and_then (entry_of t names call def room) (λ _.
    lists_bound (node_of def (stretch_of t def)) (list_of t names def) (arguments_at t names call))

-- the answer: the flat count and the number of arguments, or the refusal
abbrev pub answered : Answer → ℕ → ℕ → Answer
answered (accepted ws) flat many = accepted (flat ∷ many ∷ [])
answered (refused n vs) flat many = refused n vs

abbrev pub answered_at : Answer → List ℕ → List ℕ → ℕ → ℕ → Answer
answered_at a t names call def = answered a (length (flats (list_of t names def))) (length (arguments_at t names call))

unfoldable pub bind_of : List ℕ → List ℕ → ℕ → ℕ → ℕ → Answer
bind_of t names call def room = answered_at (words_of t names call def room) t names call def

-- the list afterwards: the words at its front and the rest unchanged; a refusal changes nothing
abbrev pub laid : Answer → List ℕ → List ℕ
laid (accepted ws) list = ws ++ drop (length ws) list
laid (refused n vs) list = list

unfoldable pub list_after : List ℕ → List ℕ → ℕ → ℕ → List ℕ → List ℕ
list_after t names call def list = laid (words_of t names call def (length list)) list

-- what the answer of code means
abbrev pub bound : Result Bound Refusal → Answer
bound (Ok b) = accepted (b.flat ∷ b.many ∷ [])
bound (Err r) = refusal r
