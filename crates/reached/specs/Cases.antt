-- The corner cases of W-204, a row for each: a written list, arguments, and the words or the refusal. These are
-- definitions.
use Rattle.std.specs.Prelude.{true, false, List, [], ◌∷◌, ℕ, ◌+◌}
use Rattle.forest.specs.Forest.{Node}
use Rattle.table.specs.Numbers.{star_argument, too_many_positional, unknown_named, already_filled, empty_parameter}
use Rattle.table.specs.Answer.{Answer, accepted, refused_at}
use Rattle.deflist.specs.Written.{Param, normal, no_args, slash, args, kwargs}
use Rattle.arguments.specs.Written as written

-- a record: its node, and a span that no other record has
abbrev pub node_at : ℕ → Node
node_at i = record {
  at = i;
  kind = 0;
  detail = 0;
  name_len = 0;
  name_start = 0;
  begin = 100 + i;
  stop = 200 + i;
  size = 0;
  file = 0;
  source = 0;
}

-- parameters at a node: a, a = 1, `/`, `*`, `*a`, `**a`, where a name is a byte
abbrev pub plain : ℕ → ℕ → Param
plain i name = normal (node_at i) (name ∷ []) false

abbrev pub with_default : ℕ → ℕ → Param
with_default i name = normal (node_at i) (name ∷ []) true

abbrev pub mark : ℕ → Param
mark i = slash (node_at i)

abbrev pub bare : ℕ → Param
bare i = no_args (node_at i)

abbrev pub star : ℕ → ℕ → Param
star i name = args (node_at i) (name ∷ [])

abbrev pub star_star : ℕ → ℕ → Param
star_star i name = kwargs (node_at i) (name ∷ [])

-- arguments at a node: 1, a = 1, `*x`, `**x`
abbrev pub one : ℕ → written.Argument
one i = written.positional (node_at i)

abbrev pub by : ℕ → ℕ → written.Argument
by i name = written.named (node_at i) (name ∷ [])

abbrev pub spread : ℕ → written.Argument
spread i = written.args (node_at i)

abbrev pub spread_names : ℕ → written.Argument
spread_names i = written.kwargs (node_at i)

abbrev pub a : ℕ
a = 97

abbrev pub b : ℕ
b = 98

abbrev pub c : ℕ
c = 99

pub record Row : Type 0 where
  pub params : List Param
  pub arguments : List written.Argument
  pub shown : Answer

abbrev pub row : List Param → List written.Argument → Answer → Row
row ps qs x = record { params = ps; arguments = qs; shown = x }

-- parameters have the nodes 1 to 9, arguments the nodes from 21 on
abbrev pub rows : List Row
rows =
    -- (a, /, **c) called with a = 1: the name is unknown and goes to `**c`, so that a is left empty
    row (plain 1 a ∷ mark 2 ∷ star_star 3 c ∷ []) (by 21 a ∷ []) (refused_at empty_parameter (node_at 1))
    -- (a = 1, /, **c) so called: a has its default
    ∷ row (with_default 1 a ∷ mark 2 ∷ star_star 3 c ∷ []) (by 21 a ∷ []) (accepted (0 ∷ 0 ∷ 1 ∷ []))
    -- (a, /) so called: unknown comes before empty
    ∷ row (plain 1 a ∷ mark 2 ∷ []) (by 21 a ∷ []) (refused_at unknown_named (node_at 21))
    -- (*a) called with a = 1; (**a) called with a = 1
    ∷ row (star 1 a ∷ []) (by 21 a ∷ []) (refused_at unknown_named (node_at 21))
    ∷ row (star_star 1 a ∷ []) (by 21 a ∷ []) (accepted (0 ∷ 0 ∷ []))
    -- (a, **c) called with 1, a = 2: filled already, although there is `**c`
    ∷ row (plain 1 a ∷ star_star 2 c ∷ []) (one 21 ∷ by 22 a ∷ []) (refused_at already_filled (node_at 22))
    -- (a) called with 1, b = 1, a = 1 and with 1, a = 1, b = 1: the first in order
    ∷ row (plain 1 a ∷ []) (one 21 ∷ by 22 b ∷ by 23 a ∷ []) (refused_at unknown_named (node_at 22))
    ∷ row (plain 1 a ∷ []) (one 21 ∷ by 22 a ∷ by 23 b ∷ []) (refused_at already_filled (node_at 22))
    -- (a) called with 1, 2, b = 1, *x; with 1, 2, **x; with 1, 2, b = 1; (a, b) with c = 1
    ∷ row (plain 1 a ∷ []) (one 21 ∷ one 22 ∷ by 23 b ∷ spread 24 ∷ []) (refused_at star_argument (node_at 24))
    ∷ row (plain 1 a ∷ []) (one 21 ∷ one 22 ∷ spread_names 23 ∷ []) (refused_at star_argument (node_at 23))
    ∷ row (plain 1 a ∷ []) (one 21 ∷ one 22 ∷ by 23 b ∷ []) (refused_at too_many_positional (node_at 22))
    ∷ row (plain 1 a ∷ plain 2 b ∷ []) (by 21 c ∷ []) (refused_at unknown_named (node_at 21))
    -- (a, b = 1, c = 2) called with 1, c = 3: b has its default
    ∷ row (plain 1 a ∷ with_default 2 b ∷ with_default 3 c ∷ []) (one 21 ∷ by 22 c ∷ [])
    (accepted (21 ∷ 0 ∷ 22 ∷ 0 ∷ 2 ∷ []))
    -- (a, *b) called with 1, 2, 3; (a, *, b) called with b = 1, a = 2
    ∷ row (plain 1 a ∷ star 2 b ∷ []) (one 21 ∷ one 22 ∷ one 23 ∷ []) (accepted (21 ∷ 0 ∷ 0 ∷ 1 ∷ 1 ∷ []))
    ∷ row (plain 1 a ∷ bare 2 ∷ plain 3 b ∷ []) (by 21 b ∷ by 22 a ∷ []) (accepted (22 ∷ 21 ∷ 1 ∷ 0 ∷ []))
    -- () called with nothing
    ∷ row [] [] (accepted [])
    -- two lists exchanged by name: refused where both are before `/`, else each still reaches its own
    ∷ row (plain 1 a ∷ plain 2 b ∷ mark 3 ∷ []) (by 21 b ∷ by 22 a ∷ []) (refused_at unknown_named (node_at 21))
    ∷ row (plain 1 a ∷ plain 2 b ∷ []) (by 21 b ∷ by 22 a ∷ []) (accepted (22 ∷ 21 ∷ 1 ∷ 0 ∷ []))
    ∷ []
