-- A def and two calls, record by record: `def f(a, b, /): pass`, `f(a, b)` and `f(b, a)`. The second call has the two
-- arguments of the first exchanged. These are definitions.
use Rattle.std.specs.Prelude.{List, [], ◌∷◌, ◌++◌, ℕ, replicate}
use Rattle.soundness.specs.KindNumbers.{kind_statements, kind_def, kind_other_simple, kind_call, kind_identifier}
use Rattle.soundness.specs.KindNumbers.{kind_normal, kind_slash, kind_positional}
use Rattle.demand3.specs.Example.{bytes_of}

-- the def is node 1, the calls are nodes 7 and 14
abbrev pub table : List ℕ
table =
    bytes_of kind_statements 0 0 0 0 36 20 0
    ++ (bytes_of kind_def 0 0 0 0 20 5 1
    ++ (bytes_of kind_normal 0 1 0 6 7 1 1
    ++ (bytes_of kind_normal 0 1 1 9 10 1 1
    ++ (bytes_of kind_slash 0 0 0 12 13 1 1
    ++ (bytes_of kind_other_simple 0 0 0 16 20 1 1
    ++ (bytes_of kind_other_simple 0 0 0 21 28 7 1
    ++ (bytes_of kind_call 0 0 0 21 28 6 1
    ++ (bytes_of kind_identifier 0 1 2 21 22 1 1
    ++ (bytes_of kind_positional 0 0 0 23 24 2 1
    ++ (bytes_of kind_identifier 0 1 0 23 24 1 1
    ++ (bytes_of kind_positional 0 0 0 26 27 2 1
    ++ (bytes_of kind_identifier 0 1 1 26 27 1 1
    ++ (bytes_of kind_other_simple 0 0 0 29 36 7 1
    ++ (bytes_of kind_call 0 0 0 29 36 6 1
    ++ (bytes_of kind_identifier 0 1 2 29 30 1 1
    ++ (bytes_of kind_positional 0 0 0 31 32 2 1
    ++ (bytes_of kind_identifier 0 1 1 31 32 1 1
    ++ (bytes_of kind_positional 0 0 0 34 35 2 1
    ++ bytes_of kind_identifier 0 1 0 34 35 1 1))))))))))))))))))

-- a b f
abbrev pub names : List ℕ
names = 97 ∷ 98 ∷ 102 ∷ []

-- a list with one word more than is needed
abbrev pub room : List ℕ
room = replicate 9 7
