-- Both sides of each limit of the file numbers (W-208): small tables, and the first record of each that is unsound.
-- These are definitions.
use Rattle.std.specs.Prelude.{List, [], ◌∷◌, ℕ, ◌/◌, ◌%◌, None, Option, Some}
use Rattle.soundness.specs.KindNumbers.{kind_statements, kind_break, kind_return, kind_string}

-- a record of a kind with a subtree size and a file number, and the records behind it
abbrev row : ℕ → ℕ → ℕ → List ℕ → List ℕ
row kind size file rest =
    kind ∷ 0 ∷ 0 ∷ 0 ∷ 0 ∷ 0 ∷ 0 ∷ 0 ∷ 0 ∷ 0 ∷ 0 ∷ 0 ∷ 0 ∷ 0 ∷ 0 ∷ 0 ∷ size % 256 ∷ size / 256
    ∷ file % 256 ∷ file / 256 ∷ 0 ∷ 0 ∷ 0 ∷ 0 ∷ rest

abbrev statements : ℕ → ℕ → List ℕ → List ℕ
statements = row kind_statements

abbrev return : ℕ → ℕ → List ℕ → List ℕ
return = row kind_return

abbrev string : ℕ → List ℕ → List ℕ
string = row kind_string 1

abbrev break : ℕ → List ℕ → List ℕ
break = row kind_break 1

pub record Case : Type 0 where
  pub table : List ℕ
  pub unsound : Option ℕ

abbrev case : Option ℕ → List ℕ → Case
case f t = record { table = t; unsound = f }

unfoldable pub file_cases : List Case
file_cases =
    -- a root Statements alone
    case None (statements 1 0 []) ∷ case (Some 0) (statements 1 1 [])
    -- another root
    ∷ case (Some 0) (break 0 []) ∷ case None (break 1 []) ∷ case None (break 999 []) ∷ case (Some 0) (break 1000 [])
    ∷ case None (return 2 5 (string 5 [])) ∷ case (Some 1) (return 2 5 (string 6 []))
    ∷ case (Some 0) (return 2 0 (string 0 []))
    -- two files, and the limits at a top-level statement and under it
    ∷ case None (statements 4 0 (return 2 1 (string 1 (break 2 []))))
    ∷ case (Some 0) (statements 4 1 (return 2 1 (string 1 (break 2 []))))
    ∷ case (Some 1) (statements 4 0 (return 2 0 (string 0 (break 2 []))))
    ∷ case None (statements 4 0 (return 2 999 (string 999 (break 1 []))))
    ∷ case (Some 1) (statements 4 0 (return 2 1000 (string 1000 (break 1 []))))
    ∷ case (Some 2) (statements 4 0 (return 2 1 (string 0 (break 2 []))))
    ∷ case (Some 2) (statements 4 0 (return 2 1 (string 2 (break 2 []))))
    ∷ case (Some 3) (statements 4 0 (return 2 1 (string 1 (break 0 []))))
    ∷ case (Some 3) (statements 4 0 (return 2 1 (string 1 (break 1000 []))))
    -- a nested Statements is a top-level statement as any other
    ∷ case None (statements 3 0 (statements 2 7 (break 7 [])))
    ∷ case (Some 1) (statements 3 0 (statements 2 0 (break 7 [])))
    ∷ case (Some 2) (statements 3 0 (statements 2 7 (break 8 [])))
    -- a parent whose children do not fit comes before a child's wrong number
    ∷ case (Some 1) (statements 4 0 (return 3 1 (string 9 (string 1 []))))
    ∷ case (Some 0) (statements 3 0 (return 3 1 (string 9 [])))
    ∷ []
