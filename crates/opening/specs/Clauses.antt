-- The two clauses of W-209, about the whole error list of any trees in two dialects. These are definitions.
use Rattle.std.specs.Prelude.{◌≡◌, true, List, [], ℕ}
use Rattle.dialect.specs.declared.Dialect.{Dialect}
use Rattle.forest.specs.Forest.{Forest}
use Rattle.validate.specs.Module.{validate_module}
use Rattle.opening.specs.Opening.{permits_all, opened, without}

-- a module without errors stays without errors, even if top-level statements open
abbrev pub FirstClause : Dialect → Dialect → Type 0
FirstClause d e =
    permits_all d e ≡ true → (names : List ℕ) (ts : Forest) → validate_module d names ts ≡ []
    → validate_module e names ts ≡ []

-- the second list is the first without exactly the errors of the newly opened switches
abbrev pub SecondClause : Dialect → Dialect → Type 0
SecondClause d e =
    permits_all d e ≡ true → d.enable_top_level_stmt ≡ e.enable_top_level_stmt → (names : List ℕ) (ts : Forest)
    → validate_module e names ts ≡ without (opened d e) (validate_module d names ts)
