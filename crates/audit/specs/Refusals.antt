-- The refusals of the jobs at a record: by its kind, and by its role. These are definitions.
use Rattle.std.specs.Prelude.{List, [], ◌∷◌, ◌++◌, ℕ, get_or}
use Rattle.fields.specs.Choice.{if'}
use Rattle.dialect.specs.declared.Dialect.{Dialect}
use Rattle.dialect.specs.declared.Edition.{Edition}
use Rattle.forest.specs.Forest.{Tree}
use Rattle.table.specs.Answer.{Answer, accepted, refused}
use Rattle.table.specs.Check.{wants}
use Rattle.table.specs.declared.Wanted.TheVariants.{Parameters, Call, Assignment}
use Rattle.deflist.specs.Written.{root_in, written_in}
use Rattle.deflist.specs.Limited.{limited}
use Rattle.deflist.specs.Told.{told}
use Rattle.arguments.specs.Job.{call_answer}
use Rattle.targets.specs.Targets.{counted, check_assignment}
use Rattle.types.specs.Types.{dialect_check_type}
use Rattle.errors.specs.declared.Finding.{Finding}
use Rattle.errors.specs.Errors.{err}
use Rattle.validate.specs.Params.{unpack_error}
use Rattle.audit.specs.declared.Role.{Role}
use Rattle.audit.specs.declared.Role.TheVariants.{AsTarget, AsType, Plain}
use Rattle.audit.specs.Roles.{Placed, kind_in}

-- a refusal as an error: its number, and from its values the node and the begin, the end and the file of the span
abbrev pub refused_err : ℕ → List ℕ → Finding
refused_err n vs = err n (get_or vs 0 0) (record { begin = get_or vs 1 0; end = get_or vs 2 0; file = get_or vs 3 0 })

abbrev pub answer_errors : Answer → List Finding
answer_errors (accepted vs) = []
answer_errors (refused n vs) = refused_err n vs ∷ []

-- the job of a record's kind: the parameters of a Def or Lambda, a Call, an Assign or AssignModify
unfoldable pub kind_errors : List ℕ → Tree → List Finding
kind_errors names t =
    if' (wants Parameters (kind_in t)) (λ _. unpack_error (told (limited (root_in t) (written_in names t)))) (λ _.
    if' (wants Call (kind_in t)) (λ _. answer_errors (call_answer names t)) (λ _.
    if' (wants Assignment (kind_in t)) (λ _. answer_errors (check_assignment t)) (λ _. [])))

-- the job of its role: a target, or a type in the dialect and the edition
unfoldable pub role_errors : Dialect → Edition → List ℕ → Role → Tree → List Finding
role_errors d edition names AsTarget t = answer_errors (counted 0 t)
role_errors d edition names AsType t = answer_errors (dialect_check_type edition names d.enable_types t)
role_errors d edition names Plain t = []

-- both, in this order; then the refusals of several trees in turn
unfoldable pub refused_there : Dialect → Edition → List ℕ → Placed → List Finding
refused_there d edition names p = kind_errors names p.tree ++ role_errors d edition names p.role p.tree

unfoldable pub refusals : Dialect → Edition → List ℕ → List Placed → List Finding
refusals d edition names [] = []
refusals d edition names (p ∷ ps) = refused_there d edition names p ++ refusals d edition names ps
