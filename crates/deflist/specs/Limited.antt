-- The limit of a written list, which the crate does not have: no more than 48 entries, marks counted. These are
-- definitions.
use Rattle.std.specs.Prelude.{List, ℕ, length, ltb}
use Rattle.fields.specs.Choice.{if'}
use Rattle.forest.specs.Forest.{Node}
use Rattle.table.specs.Numbers.{too_many_parameters}
use Rattle.deflist.specs.Written.{Param}
use Rattle.deflist.specs.Unpack.{Outcome, refused, unpack}

-- the most entries of a list
abbrev pub most_parameters : ℕ
most_parameters = 48

-- the outcome of the list of the def or lambda whose record this is: 19 at that record, or unpack's
unfoldable pub limited : Node → List Param → Outcome
limited owner l = if' (ltb most_parameters (length l)) (λ _. refused too_many_parameters owner) (λ _. unpack l)
