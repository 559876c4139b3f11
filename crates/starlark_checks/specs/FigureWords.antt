-- The figures as a C caller gets them: the end of a report, and the answer of a step. These are definitions.
use Rattle.std.specs.Prelude.{List, [], ◌∷◌, ℕ, Err, Ok, Result}
use Rattle.table.specs.Answer.{Answer, accepted, refused}
use Rattle.figures.specs.declared.Ending.{Ending}
use Rattle.figures.specs.declared.Ending.TheVariants.{Whole, Refused as RefusedAt}
use Rattle.starlark_checks.specs.FormatWords.{two_words}

-- the number that is returned for a report: 0 if it is whole, else that of the refused file
abbrev pub ending_number : Ending → ℕ
ending_number Whole = 0
ending_number (RefusedAt n at) = n

-- its words: the position of the refused file, the low word first
abbrev pub ending_words : Ending → List ℕ
ending_words Whole = []
ending_words (RefusedAt n at) = two_words at

-- a step's answer: the bytes that the file takes, or its number alone
abbrev pub step_answer : Result ℕ ℕ → Answer
step_answer (Ok n) = accepted (n ∷ [])
step_answer (Err n) = refused n []
