-- The two clauses of W-209, about the whole error list of any trees, and so of every sound table. If the second dialect
-- permits all that the first does, a module without errors stays without errors; and if both agree on top-level
-- statements, the second list is the first without the errors of the newly opened switches. Both are fields of `Opens`,
-- which Walk's `opens_module` gives for the module by induction on its trees. Assumes nothing.
use Rattle.dialect.specs.declared.Dialect.{Dialect}
use Rattle.opening.specs.Clauses.{FirstClause, SecondClause}
use Rattle.opening.proofs.Fields.{permits}
use Rattle.opening.proofs.Walk.{opens_module}

module _ (d e : Dialect) where
  -- THEOREM: a module with no errors under the first has none under the second, even if the second opens top-level
  -- statements
  pub first_clause : FirstClause d e
  first_clause all names ts none = (opens_module (permits all) names ts).clean none

  -- THEOREM: if both agree on top-level statements, the second list is the first without exactly the errors of the
  -- newly opened switches, the rest in order
  pub second_clause : SecondClause d e
  second_clause all agree names ts = (opens_module (permits all) names ts).exact agree
