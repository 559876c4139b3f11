-- A table that the check accepts, record by record: the statement `f(x, a=1, *s, **k)`. These are definitions.
use Rattle.std.specs.Prelude.{List, [], ◌∷◌, ◌++◌, ℕ}
use Rattle.soundness.specs.KindNumbers.{kind_other_simple, kind_call, kind_identifier, kind_int}
use Rattle.soundness.specs.KindNumbers.{kind_positional, kind_named, kind_args_arg, kind_kw_args_arg}

-- the 24 bytes of a record whose numbers are below 256, of source file 1: kind, length and start of the name, span,
-- size, source position of the name
abbrev pub bytes_of : ℕ → ℕ → ℕ → ℕ → ℕ → ℕ → ℕ → List ℕ
bytes_of kind len start begin stop size source =
    kind ∷ 0 ∷ len ∷ 0 ∷ start ∷ 0 ∷ 0 ∷ 0 ∷ begin ∷ 0 ∷ 0 ∷ 0 ∷ stop ∷ 0 ∷ 0 ∷ 0 ∷ size ∷ 0 ∷ 1 ∷ 0 ∷ source
    ∷ 0 ∷ 0 ∷ 0 ∷ []

-- the table: a statement with a call, its callee, and four arguments with an expression each
abbrev pub table : List ℕ
table =
    bytes_of kind_other_simple 0 0 0 18 11 0
    ++ (bytes_of kind_call 0 0 0 18 10 0
    ++ (bytes_of kind_identifier 1 0 0 1 1 0
    ++ (bytes_of kind_positional 0 0 2 3 2 0
    ++ (bytes_of kind_identifier 1 1 2 3 1 0
    ++ (bytes_of kind_named 1 2 5 8 2 5
    ++ (bytes_of kind_int 0 0 7 8 1 0
    ++ (bytes_of kind_args_arg 0 0 10 12 2 0
    ++ (bytes_of kind_identifier 1 3 11 12 1 0
    ++ (bytes_of kind_kw_args_arg 0 0 14 17 2 0
    ++ bytes_of kind_identifier 1 4 16 17 1 0)))))))))

-- f x a s k
abbrev pub names : List ℕ
names = 102 ∷ 120 ∷ 97 ∷ 115 ∷ 107 ∷ []
