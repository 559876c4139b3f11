-- The smallest module that shows why the theorem about the audit's list demands that types are not newly opened: `x: 1
-- = 0`, four records. These are definitions.
use Rattle.std.specs.Prelude.{List, [], ◌∷◌, ◌++◌, ℕ}
use Rattle.soundness.specs.KindNumbers.{kind_assign, kind_identifier, kind_int}
use Rattle.table.specs.Numbers.{invalid_type, types_disabled}
use Rattle.errors.specs.declared.Finding.{Finding}
use Rattle.errors.specs.Errors.{err}
use Rattle.opening.specs.Example.{full_record, plain_record, span}

-- `x: 1 = 0`, and the name x
abbrev pub bad_type : List ℕ
bad_type =
    full_record kind_assign 1 0 0 8 4 ++ (full_record kind_identifier 0 1 0 1 1
    ++ (plain_record kind_int 3 4 1 ++ plain_record kind_int 7 8 1))

abbrev pub bad_names : List ℕ
bad_names = 120 ∷ []

-- Standard with types
abbrev pub types_open : List ℕ
types_open = 1 ∷ 1 ∷ 1 ∷ 0 ∷ 0 ∷ 2 ∷ 1 ∷ 0 ∷ 0 ∷ []

-- before: a type in a dialect without types, 45; after: the type is checked, and 1 is not a type, 40
abbrev pub before : List Finding
before = err types_disabled 2 (span 3 4) ∷ []

abbrev pub after : List Finding
after = err invalid_type 2 (span 3 4) ∷ []
