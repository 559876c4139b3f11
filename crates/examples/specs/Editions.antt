-- The smallest module with a type that is a path ending in `type`: `t: t.type = 1`, five records. These are
-- definitions.
use Rattle.std.specs.Prelude.{List, [], ◌∷◌, ◌++◌, ℕ}
use Rattle.soundness.specs.KindNumbers.{kind_assign, kind_dot, kind_identifier, kind_int}

-- a record of 24 bytes in source file 1: its kind and detail, the length of its name, which is at the start of the
-- names, its begin and end, and the number of its nodes
abbrev pub record_of : ℕ → ℕ → ℕ → ℕ → ℕ → ℕ → List ℕ
record_of kind detail name begin stop size =
    (kind ∷ detail ∷ name ∷ 0 ∷ 0 ∷ 0 ∷ 0 ∷ 0 ∷ [])
    ++ ((begin ∷ 0 ∷ 0 ∷ 0 ∷ stop ∷ 0 ∷ 0 ∷ 0 ∷ []) ++ (size ∷ 0 ∷ 1 ∷ 0 ∷ 0 ∷ 0 ∷ 0 ∷ 0 ∷ []))

-- `t: t.type = 1`; node 2 is its type, `t.type`. The names are `type`
abbrev pub typed_path : List ℕ
typed_path =
    record_of kind_assign 1 0 0 13 5
    ++ (record_of kind_identifier 0 1 0 1 1
    ++ (record_of kind_dot 0 4 3 9 2 ++ (record_of kind_identifier 0 1 3 4 1 ++ record_of kind_int 0 0 12 13 1)))

abbrev pub type_name : List ℕ
type_name = 116 ∷ 121 ∷ 112 ∷ 101 ∷ []
