-- The parameters job: what it answers, and the mode buffer afterwards, for any bytes. These are definitions.
use Rattle.std.specs.Prelude.{List, [], ◌∷◌, ◌++◌, ℕ, ◌≤◌, length, drop, leb, Err, Ok, Result}
use Rattle.table.specs.declared.Refusal.{Refusal}
use Rattle.parameters.specs.declared.Counted.{Counted}
use Rattle.fields.specs.Choice.{if'}
use Rattle.forest.specs.Forest.{Node}
use Rattle.table.specs.Numbers.{short_buffer, duplicated_parameter}
use Rattle.table.specs.Answer.{Answer, accepted, refused, and_then, refused_at, refused_after, refusal}
use Rattle.table.specs.Check.{stretch_of, on_node}
use Rattle.table.specs.declared.Wanted.TheVariants.{Parameters}
use Rattle.deflist.specs.Written.{Param, root_in, written_in, written}
use Rattle.deflist.specs.Unpack as def
use Rattle.deflist.specs.Limited.{limited}
use Rattle.deflist.specs.Told.{internal_error}
use Rattle.parameters.specs.Indices.{values_of, counted_of}

-- what the answers of code mean: the five ranges and the flat count, or a refusal's number and what it carries
abbrev pub unpacked : Result Counted Refusal → Answer
unpacked (Ok c) = accepted (values_of c)
unpacked (Err r) = refusal r

-- the answer for an outcome
abbrev pub answer_of : def.Outcome → Answer
answer_of (def.accepted c) = accepted (values_of (counted_of c))
answer_of (def.refused n r) = refused_at n r
answer_of (def.repeated i r) = refused_after duplicated_parameter r i
answer_of (def.internal e r) = refused_at internal_error r

-- 7: the mode buffer has a byte for each written parameter
abbrev pub room_check : ℕ → List Param → Answer
room_check room l = if' (leb (length l) room) (λ _. accepted []) (λ _. refused short_buffer [])

-- 7, then the answer for the written list of the def or lambda whose record this is
unfoldable pub list_answer : Node → List Param → ℕ → Answer
list_answer owner l room = and_then (room_check room l) (λ _. answer_of (limited owner l))

-- the written list of a node of a table
unfoldable pub list_of : List ℕ → List ℕ → ℕ → List Param
list_of t names node = written names node (stretch_of t node)

-- the job: 1 to 4, 6, 7, then the list's
unfoldable pub params_of : List ℕ → List ℕ → ℕ → ℕ → Answer
params_of t names node room =
    on_node Parameters (λ tree. list_answer (root_in tree) (written_in names tree) room) t names node

-- the buffer ms afterwards: an accepted list has its modes at the front and the rest unchanged; a refusal changes
-- nothing
abbrev pub afterwards : Answer → List ℕ → List ℕ → List ℕ
afterwards (accepted vs) modes ms = modes ++ drop (length modes) ms
afterwards (refused n vs) modes ms = ms

unfoldable pub modes_after : List ℕ → List ℕ → ℕ → List ℕ → List ℕ
modes_after t names node ms = afterwards (params_of t names node (length ms)) (def.modes (list_of t names node)) ms

-- every number is at most m
abbrev pub AllBelow : ℕ → List ℕ → Type 0
AllBelow m [] = Unit {0}
AllBelow m (v ∷ vs) = (v ≤ m) × AllBelow m vs
