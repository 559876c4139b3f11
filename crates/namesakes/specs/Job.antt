-- The job: its answer and the list afterwards, for every input. These are definitions.
use Rattle.std.specs.Prelude.{List, [], ◌∷◌, ℕ, ◌*◌, length, leb, Err, Ok, Result}
use Rattle.table.specs.declared.Refusal.{Refusal}
use Rattle.fields.specs.Choice.{if'}
use Rattle.fields.specs.Over.{over}
use Rattle.forest.specs.Forest.{node_of, tree_of}
use Rattle.table.specs.Numbers.{short_buffer}
use Rattle.table.specs.Answer.{Answer, accepted, refused, and_then, refusal}
use Rattle.table.specs.Check.{stretch_of, entry_check}
use Rattle.table.specs.declared.Wanted.TheVariants.{Call}
use Rattle.parameters.specs.Params.{list_of}
use Rattle.arguments.specs.Written.{Argument}
use Rattle.bind.specs.FlatList.{flats}
use Rattle.bind.specs.Job.{def_check, lists_bound, arguments_at}
use Rattle.namesakes.specs.Namesake.{Labelled, labelled_of, Report, reports, rows}

-- the arguments of a node of a table, with their names
unfoldable pub labelled_at : List ℕ → List ℕ → ℕ → List Labelled
labelled_at t names i = labelled_of names (tree_of i (stretch_of t i))

-- 7: the list has four words for each argument
abbrev pub room_check : ℕ → List Argument → Answer
room_check room qs = if' (leb (4 * length qs) room) (λ _. accepted []) (λ _. refused short_buffer [])

-- a call and a def in a table: 1 to 4, 6 for either, 7
unfoldable pub entry_of : List ℕ → List ℕ → ℕ → ℕ → ℕ → Answer
entry_of t names call def room =
    and_then (entry_check Call t names call) (λ _.
    and_then (def_check t def) (λ _.
    room_check room (arguments_at t names call)))

-- then as they are bound: 10 to 19, 20 to 24, 80 to 84; or the words of the binding
unfoldable pub bound_at : List ℕ → List ℕ → ℕ → ℕ → Answer
bound_at t names call def =
    lists_bound (node_of def (stretch_of t def)) (list_of t names def) (arguments_at t names call)

unfoldable pub bound_of : List ℕ → List ℕ → ℕ → ℕ → ℕ → Answer
bound_of t names call def room = and_then (entry_of t names call def room) (λ _. bound_at t names call def)

-- what is reported of a call and a def with these words
unfoldable pub reports_at : List ℕ → List ℕ → ℕ → ℕ → List ℕ → List Report
reports_at t names call def ws = reports (flats (list_of t names def)) ws (labelled_at t names call)

-- the answer: the number of reports, or the refusal
abbrev pub counted : Answer → (List ℕ → List Report) → Answer
counted (accepted ws) reported = accepted (length (reported ws) ∷ [])
counted (refused n vs) reported = refused n vs

unfoldable pub namesakes_of : List ℕ → List ℕ → ℕ → ℕ → ℕ → Answer
namesakes_of t names call def room = counted (bound_of t names call def room) (reports_at t names call def)

-- the list afterwards: the reports at its front and the rest unchanged; a refusal changes nothing
abbrev pub written : List Report → List ℕ → List ℕ
written rs list = over 0 (rows rs) list

abbrev pub laid : Answer → (List ℕ → List Report) → List ℕ → List ℕ
laid (accepted ws) reported list = written (reported ws) list
laid (refused n vs) reported list = list

unfoldable pub list_after : List ℕ → List ℕ → ℕ → ℕ → List ℕ → List ℕ
list_after t names call def list = laid (bound_of t names call def (length list)) (reports_at t names call def) list

-- what the answer of code means
abbrev pub named : Result ℕ Refusal → Answer
named (Ok n) = accepted (n ∷ [])
named (Err r) = refusal r
