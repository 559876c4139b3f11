-- A call and a def to which W-204 applies, record by record: `def f(a, /, b=1, *args, c, **k): pass` and `f(1, 2, 3,
-- c=4, d=5)`. The def is of source file 1 and the call of source file 2 (W-208). These are definitions.
use Rattle.std.specs.Prelude.{true, false, List, [], ◌∷◌, ◌++◌, ℕ, replicate, None}
use Rattle.soundness.specs.KindNumbers.{kind_statements, kind_def, kind_other_simple, kind_call, kind_identifier, kind_int}
use Rattle.soundness.specs.KindNumbers.{kind_normal, kind_slash, kind_args_param, kind_kw_args_param, kind_positional}
use Rattle.soundness.specs.KindNumbers.{kind_named}
use Rattle.deflist.specs.Unpack.{mode_pos_only, mode_pos_or_name, mode_name_only, mode_args, mode_kwargs}
use Rattle.demand3.specs.Example.{bytes_of, record_at}
use Rattle.arguments.specs.Written.{Argument, positional, named}
use Rattle.arguments.specs.declared.CallArgs.{CallArgs}
use Rattle.bind.specs.FlatList.{FlatParam}

-- two statements: the def, node 1, and the call, node 11
abbrev pub table : List ℕ
table =
    bytes_of kind_statements 0 0 0 0 58 23 0
    ++ (bytes_of kind_def 0 0 0 0 37 9 1
    ++ (bytes_of kind_normal 0 1 0 6 7 1 1
    ++ (bytes_of kind_slash 0 0 0 9 10 1 1
    ++ (bytes_of kind_normal 2 1 1 12 15 2 1
    ++ (bytes_of kind_int 0 0 0 14 15 1 1
    ++ (bytes_of kind_args_param 0 4 2 17 22 1 1
    ++ (bytes_of kind_normal 0 1 6 24 25 1 1
    ++ (bytes_of kind_kw_args_param 0 1 7 27 30 1 1
    ++ (bytes_of kind_other_simple 0 0 0 33 37 1 1
    ++ (bytes_of kind_other_simple 0 0 0 38 58 13 2
    ++ (bytes_of kind_call 0 0 0 38 58 12 2
    ++ (bytes_of kind_identifier 0 1 8 38 39 1 2
    ++ (bytes_of kind_positional 0 0 0 40 41 2 2
    ++ (bytes_of kind_int 0 0 0 40 41 1 2
    ++ (bytes_of kind_positional 0 0 0 43 44 2 2
    ++ (bytes_of kind_int 0 0 0 43 44 1 2
    ++ (bytes_of kind_positional 0 0 0 46 47 2 2
    ++ (bytes_of kind_int 0 0 0 46 47 1 2
    ++ (bytes_of kind_named 0 1 6 49 52 2 2
    ++ (bytes_of kind_int 0 0 0 51 52 1 2
    ++ (bytes_of kind_named 0 1 9 54 57 2 2
    ++ bytes_of kind_int 0 0 0 56 57 1 2)))))))))))))))))))))

-- a b args c k f d
abbrev pub names : List ℕ
names = 97 ∷ 98 ∷ 97 ∷ 114 ∷ 103 ∷ 115 ∷ 99 ∷ 107 ∷ 102 ∷ 100 ∷ []

-- a list with one word more than is needed
abbrev pub room : List ℕ
room = replicate 12 7

-- the flat parameters
abbrev pub params : List FlatParam
params =
    record { node = record_at 2 kind_normal 0 1 0 6 7 1 1; name = 97 ∷ []; default = false; mode = mode_pos_only }
    ∷ record { node = record_at 4 kind_normal 2 1 1 12 15 2 1; name = 98 ∷ []; default = true; mode = mode_pos_or_name }
    ∷ record {
      node = record_at 6 kind_args_param 0 4 2 17 22 1 1;
      name = 97 ∷ 114 ∷ 103 ∷ 115 ∷ [];
      default = true;
      mode = mode_args;
    }
    ∷ record { node = record_at 7 kind_normal 0 1 6 24 25 1 1; name = 99 ∷ []; default = false; mode = mode_name_only }
    ∷ record {
      node = record_at 8 kind_kw_args_param 0 1 7 27 30 1 1;
      name = 107
          ∷ [];
      default = true;
      mode = mode_kwargs;
    }
    ∷ []

-- the arguments
abbrev pub arguments : List Argument
arguments =
    positional (record_at 13 kind_positional 0 0 0 40 41 2 2)
    ∷ positional (record_at 15 kind_positional 0 0 0 43 44 2 2)
    ∷ positional (record_at 17 kind_positional 0 0 0 46 47 2 2)
    ∷ named (record_at 19 kind_named 0 1 6 49 52 2 2) (99 ∷ [])
    ∷ named (record_at 21 kind_named 0 1 9 54 57 2 2) (100 ∷ [])
    ∷ []

-- three positional and two named
abbrev pub counts : CallArgs
counts = record { num_pos = 3; num_named = 2; star = None; star_star = None }
