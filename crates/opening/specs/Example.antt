-- The smallest module that shows why the second clause demands that both dialects agree on top-level statements: an
-- `if` with a `break`. It has three records; no `for` or `if` has fewer. These are definitions.
use Rattle.std.specs.Prelude.{List, [], ◌∷◌, ◌++◌, ℕ}
use Rattle.dialect.specs.declared.Name.TheVariants.{Standard}
use Rattle.dialect.specs.Rows.{row_named}
use Rattle.soundness.specs.KindNumbers.{kind_if, kind_break, kind_int}
use Rattle.table.specs.declared.Span.{Span}
use Rattle.table.specs.Numbers.{top_level_if, break_misplaced}
use Rattle.errors.specs.declared.Finding.{Finding}
use Rattle.errors.specs.Errors.{err}

-- a record of 24 bytes in source file 1: its kind and detail, the length of its name, which is at the start of the
-- names, its begin and end, and the number of its nodes; then a record without detail and name
abbrev pub full_record : ℕ → ℕ → ℕ → ℕ → ℕ → ℕ → List ℕ
full_record kind detail name begin stop size =
    (kind ∷ detail ∷ name ∷ 0 ∷ 0 ∷ 0 ∷ 0 ∷ 0 ∷ [])
    ++ ((begin ∷ 0 ∷ 0 ∷ 0 ∷ stop ∷ 0 ∷ 0 ∷ 0 ∷ []) ++ (size ∷ 0 ∷ 1 ∷ 0 ∷ 0 ∷ 0 ∷ 0 ∷ 0 ∷ []))

abbrev pub plain_record : ℕ → ℕ → ℕ → ℕ → List ℕ
plain_record kind begin stop size = full_record kind 0 0 begin stop size

-- `if 1: break`
abbrev pub if_break : List ℕ
if_break = plain_record kind_if 0 11 3 ++ (plain_record kind_int 3 4 1 ++ plain_record kind_break 6 11 1)

-- Standard, and Standard with top-level statements
abbrev pub closed : List ℕ
closed = row_named Standard

abbrev pub top_level_open : List ℕ
top_level_open = 1 ∷ 1 ∷ 1 ∷ 0 ∷ 0 ∷ 0 ∷ 1 ∷ 1 ∷ 0 ∷ []

-- before: a top-level if, 54, and nothing below it is visited; after: a break outside of a for, 55
abbrev pub span : ℕ → ℕ → Span
span b e = record { begin = b; end = e; file = 1 }

abbrev pub before : List Finding
before = err top_level_if 0 (span 0 11) ∷ []

abbrev pub after : List Finding
after = err break_misplaced 2 (span 6 11) ∷ []
