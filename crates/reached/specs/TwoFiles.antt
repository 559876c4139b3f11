-- A table of two source files to which W-208 applies, record by record: `def f(a): pass` of file 1, and of file 2 the
-- calls `f()` and `f(b=1, b=2)`. These are definitions.
use Rattle.std.specs.Prelude.{List, [], ◌∷◌, ◌++◌, ℕ, ◌+◌, take}
use Rattle.soundness.specs.KindNumbers.{kind_statements, kind_def, kind_other_simple, kind_call, kind_identifier, kind_int}
use Rattle.soundness.specs.KindNumbers.{kind_normal, kind_named}
use Rattle.demand3.specs.Example.{bytes_of}

-- a named argument `b=`, with the position of its name
abbrev pub named_at : ℕ → List ℕ
named_at begin = take 20 (bytes_of kind_named 0 1 2 begin (begin + 3) 2 2) ++ begin ∷ 0 ∷ 0 ∷ 0 ∷ []

-- the def is node 1, the calls are nodes 5 and 8
abbrev pub table : List ℕ
table =
    bytes_of kind_statements 0 0 0 0 15 14 0
    ++ (bytes_of kind_def 0 0 0 0 14 3 1
    ++ (bytes_of kind_normal 0 1 0 6 7 1 1
    ++ (bytes_of kind_other_simple 0 0 0 10 14 1 1
    ++ (bytes_of kind_other_simple 0 0 0 0 3 3 2
    ++ (bytes_of kind_call 0 0 0 0 3 2 2
    ++ (bytes_of kind_identifier 0 1 1 0 1 1 2
    ++ (bytes_of kind_other_simple 0 0 0 4 15 7 2
    ++ (bytes_of kind_call 0 0 0 4 15 6 2
    ++ (bytes_of kind_identifier 0 1 1 4 5 1 2
    ++ (named_at 6
    ++ (bytes_of kind_int 0 0 0 8 9 1 2
    ++ (named_at 11
    ++ bytes_of kind_int 0 0 0 13 14 1 2))))))))))))

-- a f b
abbrev pub names : List ℕ
names = 97 ∷ 102 ∷ 98 ∷ []
