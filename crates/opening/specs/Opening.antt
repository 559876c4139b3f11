-- Opening a dialect: whether one permits all that another does, and which errors that removes. These are definitions.
use Rattle.std.specs.Prelude.{Bool, false, ◌&&◌, ◌||◌, not, List, [], ◌∷◌, ℕ, eqb, leb}
use Rattle.fields.specs.Choice.{if'}
use Rattle.dialect.specs.declared.Dialect.{Dialect}
use Rattle.dialect.specs.declared.DialectTypes.{DialectTypes}
use Rattle.dialect.specs.declared.DialectTypes.TheVariants.{Disable, ParseOnly, Enable}
use Rattle.dialect.specs.Rows.{permits_types}
use Rattle.table.specs.Numbers.{star_not_permitted, slash_not_permitted, def_not_permitted, load_not_permitted}
use Rattle.table.specs.Numbers.{ellipsis_not_permitted, lambda_not_permitted}
use Rattle.errors.specs.declared.Finding.{Finding}

-- the second switch is on if the first is on; the second switch is on and the first is off
abbrev pub at_least : Bool → Bool → Bool
at_least b c = not b || c

abbrev pub newly : Bool → Bool → Bool
newly b c = not b && c

-- Disable, ParseOnly, Enable: in growing order
abbrev pub rank : DialectTypes → ℕ
rank Disable = 0
rank ParseOnly = 1
rank Enable = 2

-- the second dialect permits all that the first does, field by field on all nine
unfoldable pub permits_all : Dialect → Dialect → Bool
permits_all d e =
    at_least d.enable_def e.enable_def
    && (at_least d.enable_lambda e.enable_lambda
    && (at_least d.enable_load e.enable_load
    && (at_least d.enable_keyword_only_arguments e.enable_keyword_only_arguments
    && (at_least d.enable_positional_only_arguments e.enable_positional_only_arguments
    && (leb (rank d.enable_types) (rank e.enable_types)
    && (at_least d.enable_load_reexport e.enable_load_reexport
    && (at_least d.enable_top_level_stmt e.enable_top_level_stmt
    && at_least d.enable_f_strings e.enable_f_strings)))))))

-- whether a number is that of a newly opened switch; each of the six numbers has its switch
unfoldable pub opened : Dialect → Dialect → ℕ → Bool
opened d e n =
    if' (eqb n star_not_permitted)
    (λ _. newly d.enable_keyword_only_arguments e.enable_keyword_only_arguments) (λ _.
    if' (eqb n slash_not_permitted)
    (λ _. newly d.enable_positional_only_arguments e.enable_positional_only_arguments) (λ _.
    if' (eqb n def_not_permitted) (λ _. newly d.enable_def e.enable_def) (λ _.
    if' (eqb n load_not_permitted) (λ _. newly d.enable_load e.enable_load) (λ _.
    if' (eqb n ellipsis_not_permitted)
    (λ _. newly (permits_types d.enable_types) (permits_types e.enable_types)) (λ _.
    if' (eqb n lambda_not_permitted) (λ _. newly d.enable_lambda e.enable_lambda) (λ _.
    false))))))

-- a list without the errors of some numbers, the rest in order
unfoldable pub without : (ℕ → Bool) → List Finding → List Finding
without out [] = []
without out (e ∷ es) = if' (out e.number) (λ _. without out es) (λ _. e ∷ without out es)
