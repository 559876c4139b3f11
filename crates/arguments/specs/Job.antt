-- The call job: its answer for every input. These are definitions.
use Rattle.std.specs.Prelude.{List, [], ◌∷◌, ◌++◌, ℕ, ◌+◌, min, Err, None, Ok, Option, Result, Some}
use Rattle.table.specs.declared.Refusal.{Refusal}
use Rattle.forest.specs.Forest.{Node, Tree}
use Rattle.table.specs.Numbers.{repeated_named}
use Rattle.table.specs.Answer.{Answer, accepted, refused, span_values, refused_at, refusal}
use Rattle.table.specs.Check.{on_node}
use Rattle.table.specs.declared.Span.{Span}
use Rattle.table.specs.declared.Wanted.TheVariants.{Call}
use Rattle.arguments.specs.Written.{arguments_of}
use Rattle.arguments.specs.Call.{Outcome, unpacked, refused_with, repeated_name, internal_error, unpack}
use Rattle.arguments.specs.declared.Check.{Check}
use Rattle.arguments.specs.declared.Check.TheVariants.{Fine, Broken, Repeated}
use Rattle.arguments.specs.declared.CallArgs.{CallArgs}

-- a place, if there is one
abbrev pub place_values : Option ℕ → List ℕ
place_values (Some i) = 1 ∷ i ∷ []
place_values None = 0 ∷ 0 ∷ []

-- how many positional and named, and the places of star and `**`
abbrev pub call_values : CallArgs → List ℕ
call_values a = a.num_pos ∷ a.num_named ∷ place_values a.star ++ place_values a.star_star

-- the span of a name: it ends at its position plus its length, or at the largest number of 32 bits, which a sound table
-- never reaches
abbrev pub name_stop : Node → ℕ
name_stop r = min (r.source + r.name_len) 4294967295

abbrev pub name_span : Node → Span
name_span r = record { begin = r.source; end = name_stop r; file = r.file }

-- 22 has the span of the name, and the node of the earlier argument
abbrev pub refused_at_name : ℕ → Node → ℕ → Answer
refused_at_name n r i = refused n (r.at ∷ span_values (name_span r) ++ i ∷ [])

-- the answer for the check of an argument
abbrev pub check_answer : Check → Node → Answer
check_answer Fine r = accepted []
check_answer (Broken n) r = refused_at n r
check_answer (Repeated i) r = refused_at_name repeated_named r i

-- the answer for a list; an internal error has no number of its own, and never arises
abbrev pub outcome_answer : Outcome → Answer
outcome_answer (unpacked a) = accepted (call_values a)
outcome_answer (refused_with n r) = refused_at n r
outcome_answer (repeated_name i r) = refused_at_name repeated_named r i
outcome_answer internal_error = refused 0 []

-- the answer for a call
unfoldable pub call_answer : List ℕ → Tree → Answer
call_answer names t = outcome_answer (unpack (arguments_of names t))

-- the job: 1 to 4, 6, then 20 to 24
abbrev pub call_of : List ℕ → List ℕ → ℕ → Answer
call_of t names i = on_node Call (call_answer names) t names i

-- what the answer of code means
abbrev pub called : Result CallArgs Refusal → Answer
called (Ok a) = accepted (call_values a)
called (Err r) = refusal r
