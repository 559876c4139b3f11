-- A table of worked examples of the rules (docs/RULES.md), on the definitions that the contracts cite; and a second
-- table, of the types that the second edition of the type rules reads differently (W-212). These are definitions.
use Rattle.std.specs.Prelude.{true, false, List, [], ◌∷◌, ℕ, None, Option, Some}
use Rattle.dialect.specs.declared.Edition.{Edition}
use Rattle.dialect.specs.declared.Edition.TheVariants.{One, Two}
use Rattle.forest.specs.Forest.{Node, Tree, node, none, ◌then◌}
use Rattle.soundness.specs.KindNumbers.{kind_identifier, kind_dot, kind_index, kind_index2, kind_normal, kind_no_args}
use Rattle.soundness.specs.KindNumbers.{kind_int}
use Rattle.soundness.specs.KindNumbers.{kind_slash, kind_args_param, kind_kw_args_param, kind_named, kind_args_arg}
use Rattle.table.specs.Numbers.{duplicated_parameter}
use Rattle.table.specs.Answer.{Answer, accepted, refused}
use Rattle.deflist.specs.Written.{Param, normal, no_args, slash, args, kwargs}
use Rattle.deflist.specs.Unpack as def
use Rattle.deflist.specs.Limited.{limited}
use Rattle.deflist.specs.Told.{internal_error}
use Rattle.parameters.specs.Indices.{range, named_only, counted_of}
use Rattle.parameters.specs.declared.Counted.{Counted}
use Rattle.parameters.specs.declared.Range.{Range}
use Rattle.arguments.specs.Written as written
use Rattle.arguments.specs.Call as call
use Rattle.arguments.specs.Job.{outcome_answer}
use Rattle.types.specs.Types.{«unpack»}

-- the names that the trees use: type, a, b, f, x, y, int, str, one after the other
abbrev pub names : List ℕ
names = 116 ∷ 121 ∷ 112 ∷ 101 ∷ 97 ∷ 98 ∷ 102 ∷ 120 ∷ 121 ∷ 105 ∷ 110 ∷ 116 ∷ 115 ∷ 116 ∷ 114 ∷ []

-- a record of a kind, with a name given by its length and start
abbrev pub named : ℕ → ℕ → ℕ → Node
named kind start len = record {
  at = 0;
  kind = kind;
  detail = 0;
  name_len = len;
  name_start = start;
  begin = 0;
  stop = 0;
  size = 0;
  file = 0;
  source = 0;
}

abbrev pub plain : ℕ → Node
plain kind = named kind 0 0

-- parameters: a, a = 1, `*`, `/`, `*args`, `**k`; a name is given by its bytes
abbrev pub parameter : ℕ → Param
parameter name = normal (plain kind_normal) (name ∷ []) false

abbrev pub with_default : ℕ → Param
with_default name = normal (plain kind_normal) (name ∷ []) true

abbrev pub star : Param
star = no_args (plain kind_no_args)

abbrev pub slash_mark : Param
slash_mark = slash (plain kind_slash)

abbrev pub star_args : Param
star_args = args (plain kind_args_param) (97 ∷ 114 ∷ 103 ∷ 115 ∷ [])

abbrev pub star_star : ℕ → Param
star_star name = kwargs (plain kind_kw_args_param) (name ∷ [])

-- arguments: a = 1, `*x`
abbrev pub named_argument : ℕ → written.Argument
named_argument name = written.named (plain kind_named) (name ∷ [])

abbrev pub star_argument : written.Argument
star_argument = written.args (plain kind_args_arg)

abbrev pub a : ℕ
a = 97

abbrev pub b : ℕ
b = 98

abbrev pub c : ℕ
c = 99

abbrev pub k : ℕ
k = 107

-- expressions: a name, a field of an object, an index, two indices
abbrev pub identifier : ℕ → ℕ → Tree
identifier start len = node (named kind_identifier start len) none

abbrev pub dot : Tree → ℕ → ℕ → Tree
dot object start len = node (named kind_dot start len) (object then none)

abbrev pub index : Tree → Tree → Tree
index base i = node (plain kind_index) (base then i then none)

abbrev pub index2 : Tree → Tree → Tree → Tree
index2 base i j = node (plain kind_index2) (base then i then j then none)

abbrev pub a_dot_b : Tree
a_dot_b = dot (identifier 4 1) 5 1

abbrev pub int : Tree
int = identifier 9 3

abbrev pub str : Tree
str = identifier 12 3

abbrev pub x_dot_type : Tree
x_dot_type = dot (identifier 7 1) 0 4

abbrev pub one_dot_type : Tree
one_dot_type = dot (node (plain kind_int) none) 0 4

-- the left side of a row: a parameter list, the arguments of a call, or a type in an edition
pub data Asked : Type 0 where
  parameters : List Param → Asked
  arguments : List written.Argument → Asked
  a_type : Edition → Tree → Asked

-- the right side of a row: the numbers of a list with its named-only range, the number of a refusal, or plain
-- acceptance
pub data Shown : Type 0 where
  list : ℕ → ℕ → Option ℕ → Option ℕ → Range → Shown
  number : ℕ → Shown
  fine : Shown

abbrev pub of_counted : Counted → Shown
of_counted c = list c.indices.num_positional c.indices.num_positional_only c.indices.args
    c.indices.kwargs (named_only c.indices c.flat)

abbrev pub of_outcome : def.Outcome → Shown
of_outcome (def.accepted c) = of_counted (counted_of c)
of_outcome (def.refused n r) = number n
of_outcome (def.repeated i r) = number duplicated_parameter
of_outcome (def.internal e r) = number internal_error

abbrev pub of_answer : Answer → Shown
of_answer (accepted vs) = fine
of_answer (refused n vs) = number n

-- what the definitions give; the first argument is the record of the def with the parameters
abbrev pub answer : Node → Asked → Shown
answer owner (parameters l) = of_outcome (limited owner l)
answer owner (arguments l) = of_answer (outcome_answer (call.unpack l))
answer owner (a_type edition t) = of_answer («unpack» edition names t)

pub record Row : Type 0 where
  pub asked : Asked
  pub shown : Shown

abbrev pub row : Asked → Shown → Row
row q s = record { asked = q; shown = s }

-- THE TABLE
abbrev pub table : List Row
table =
    row (parameters []) (list 0 0 None None (range 0 0)) ∷  -- ()
    row (parameters (parameter a ∷ slash_mark ∷ parameter b ∷ star ∷ parameter c  -- (a, /, b, *, c, **k)
    ∷ star_star k ∷ [])) (list 2 1 None (Some 3) (range 2 3)) ∷
    row (parameters (star_args ∷ parameter a ∷ [])) (list 0 0 (Some 0) None (range 1 2)) ∷  -- (*args, a)
    row (parameters (with_default a ∷ slash_mark ∷ parameter b ∷ [])) (number 13) ∷  -- (a=1, /, b)
    row (parameters (slash_mark ∷ parameter a ∷ [])) (number 10) ∷  -- (/, a)
    row (parameters (star ∷ slash_mark ∷ [])) (number 15) ∷  -- (*, /)
    row (parameters (star ∷ [])) (number 17) ∷  -- (*)
    row (parameters (star ∷ star_star k ∷ [])) (number 18) ∷  -- (*, **k)
    row (parameters (star_star k ∷ parameter k ∷ [])) (number 11) ∷  -- (**k, k)
    row (arguments (star_argument ∷ named_argument a ∷ [])) (number 21) ∷  -- f(*x, a=1)
    row (a_type One (index a_dot_b int)) (number 40) ∷  -- a.b[int]
    row (a_type One (index2 a_dot_b int str)) fine ∷  -- a.b[int, str]
    row (a_type One x_dot_type) (number 44) ∷  -- x.type
    row (a_type One (dot x_dot_type 8 1)) fine ∷  -- x.type.y
    []

-- the same in the second edition
abbrev pub second_edition : List Row
second_edition =
    row (a_type Two x_dot_type) fine ∷  -- x.type
    row (a_type Two (index2 x_dot_type int str)) fine ∷  -- x.type[int, str]
    row (a_type Two (index x_dot_type int)) (number 40) ∷  -- x.type[int]
    row (a_type Two one_dot_type) (number 42) ∷  -- 1.type
    []
