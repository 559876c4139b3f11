-- Which nodes the audit checks as a target and as a type, stated by the children of each record, without the roles that
-- the audit uses. These are definitions.
use Rattle.std.specs.Prelude.{◌≡◌, Bool, true, ◌||◌, List, [], ◌∷◌, ◌++◌, ℕ, ◌≤◌, length, eqb}
use Rattle.fields.specs.Choice.{if'}
use Rattle.forest.specs.Forest.{Tree, node, Forest, none, ◌then◌}
use Rattle.soundness.specs.KindNumbers.{kind_def, kind_for, kind_assign, kind_assign_modify, kind_normal, kind_args_param}
use Rattle.soundness.specs.KindNumbers.{kind_kw_args_param}
use Rattle.soundness.specs.Kinds.{expression, class_of}
use Rattle.table.specs.Check.{node_fits}
use Rattle.table.specs.declared.Wanted.TheVariants.{Parameters, Call, Assignment}
use Rattle.parameters.specs.Params.{list_of, params_of}
use Rattle.arguments.specs.Job.{call_of}
use Rattle.targets.specs.Jobs.{assignment_of}
use Rattle.audit.specs.Roles.{kind_in}
use Rattle.audited.specs.Said.{is_accepted}

-- the first of some trees, the second, and those that are expressions
abbrev pub first_of : Forest → List Tree
first_of none = []
first_of (t then ts) = t ∷ []

abbrev pub second_of : Forest → List Tree
second_of none = []
second_of (t then ts) = first_of ts

unfoldable pub expressions_of : Forest → List Tree
expressions_of none = []
expressions_of (t then ts) =
    if' (eqb (class_of (kind_in t)) expression) (λ _. t ∷ expressions_of ts) (λ _. expressions_of ts)

-- the children of a record of kind k and detail d that are targets: the first child of a For. The target of an Assign
-- is checked with the Assign, by the assignment job
unfoldable pub targets_of : ℕ → ℕ → Forest → List Tree
targets_of k d ks = if' (eqb k kind_for) (λ _. first_of ks) (λ _. [])

-- the children that are types, if the record has a type: the return type of a Def, which is its only expression; the
-- second child of an Assign or AssignModify; the first child of a Normal, Args or KwArgs parameter
abbrev pub if_typed : Bool → List Tree → List Tree
if_typed typed ts = if' typed (λ _. ts) (λ _. [])

unfoldable pub types_of : ℕ → ℕ → Forest → List Tree
types_of k d ks =
    if' (eqb k kind_def) (λ _. if_typed (eqb d 1) (expressions_of ks)) (λ _.
    if' (eqb k kind_assign || eqb k kind_assign_modify) (λ _. if_typed (eqb d 1) (second_of ks)) (λ _.
    if' (eqb k kind_normal) (λ _. if_typed (eqb d 1 || eqb d 3) (first_of ks)) (λ _.
    if' (eqb k kind_args_param || eqb k kind_kw_args_param) (λ _. if_typed (eqb d 1) (first_of ks)) (λ _.
    []))))

-- the children that `these` names, of every record of some trees
unfoldable mutual
  pub everywhere : (ℕ → ℕ → Forest → List Tree) → Forest → List Tree
  everywhere these none = []
  everywhere these (t then ts) = everywhere_in these t ++ everywhere these ts

  pub everywhere_in : (ℕ → ℕ → Forest → List Tree) → Tree → List Tree
  everywhere_in these (node r ks) = these r.kind r.detail ks ++ everywhere these ks

-- something holds of each entry of a list
abbrev pub Each : {A : Type 0} → (A → Type 0) → List A → Type 0
Each P [] = Unit {0}
Each P (x ∷ xs) = P x × Each P xs

-- node i of a table is accepted by the jobs that fit it by its kind
pub record Fitting (t names : List ℕ) (i : ℕ) : Type 0 where
  pub params : node_fits t i Parameters ≡ true → (room : ℕ) → length (list_of t names i) ≤ room
      → is_accepted (params_of t names i room) ≡ true
  pub call : node_fits t i Call ≡ true → is_accepted (call_of t names i) ≡ true
  pub assignment : node_fits t i Assignment ≡ true → is_accepted (assignment_of t names i) ≡ true
