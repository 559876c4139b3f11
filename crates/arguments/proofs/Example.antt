-- What the theorems on accepted calls suppose can be met: the call of `f(x, a=1, *s, **k)`, node 1 of table's example.
-- Its arguments are in order, one of each kind, so the job accepts it with these counts and places. By computation.
-- Assumes nothing.
use Rattle.std.specs.Prelude.{Some}
use mathlib.Core.Path.{◌≡◌, refl}
use mathlib.Core.List.{[], ◌∷◌}
use native.Mathlib.Omega.{arith}
use Rattle.fields.specs.Field.{field}
use Rattle.forest.specs.Forest.{size_of, kids_of, rest_of, forest_in, forest, tree_of}
use Rattle.forest.specs.Names.{name_of}
use Rattle.soundness.specs.Kinds.{kind_of}
use Rattle.table.specs.Answer.{accepted}
use Rattle.table.specs.Check.{wants, node_fits, stretch_of}
use Rattle.table.specs.Example.{table, names}
use Rattle.table.proofs.Example.{sound}
use Rattle.arguments.specs.Written.{kind_at, argument_of, arguments_in, arguments_of}
use Rattle.arguments.specs.Accepted.{Ordered}
use Rattle.arguments.specs.Job.{call_of}
use Rattle.arguments.specs.declared.CallArgs.{CallArgs}
use Rattle.arguments.proofs.AcceptedCalls.{ordered_accepted}

-- one positional, one named, the star third and the `**` fourth, counted from 0
abbrev pub counts : CallArgs
counts = record { num_pos = 1; num_named = 1; star = Some 2; star_star = Some 3 }

-- the arguments are in order
pub ordered : Ordered (arguments_of names (tree_of 1 (stretch_of table 1))) counts
unfolding stretch_of kind_at argument_of arguments_in field size_of kids_of rest_of forest_in forest kind_of name_of
ordered = record {
  kinds = refl;
  star_at = refl;
  kwargs_at = refl;
  distinct = λ i j before within e. omega (arith, before, within);
}

-- so the call is accepted: one positional, one named, a star at place 2 and a `**` at place 3
pub answer : call_of table names 1 ≡ accepted (1 ∷ 1 ∷ 1 ∷ 2 ∷ 1 ∷ 3 ∷ [])
unfolding node_fits wants field
answer = ordered_accepted table names 1 counts sound refl ordered
