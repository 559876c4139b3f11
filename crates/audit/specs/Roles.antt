-- Which records are a target or a type by their place, and all trees of a table with their roles. These are
-- definitions.
use Rattle.std.specs.Prelude.{Bool, ◌||◌, List, [], ◌∷◌, ◌++◌, ℕ, eqb}
use Rattle.fields.specs.Choice.{if'}
use Rattle.forest.specs.Forest.{Tree, node, Forest, none, ◌then◌}
use Rattle.soundness.specs.KindNumbers.{kind_def, kind_for, kind_assign, kind_assign_modify, kind_normal, kind_args_param}
use Rattle.soundness.specs.KindNumbers.{kind_kw_args_param}
use Rattle.soundness.specs.Kinds.{expression, class_of}
use Rattle.audit.specs.declared.Role.{Role}
use Rattle.audit.specs.declared.Role.TheVariants.{AsTarget, AsType, Plain}
use Rattle.audit.specs.declared.Roles.{Roles}
use Rattle.audit.specs.declared.Roles.TheVariants.{Nowhere, TargetFirst, TypeFirst, TypeSecond, ReturnType}

-- the roles if the record has a type, else none
abbrev pub if_typed : Bool → Roles → Roles
if_typed typed roles = if' typed (λ _. roles) (λ _. Nowhere)

-- which children of a record have a role, by its kind and detail: the target of a For is its first child; the return
-- type of a Def is its child that is an expression; the type of an Assign or AssignModify is its second child, that of
-- a Normal, an Args or a KwArgs the first
unfoldable pub roles_of : ℕ → ℕ → Roles
roles_of k d =
    if' (eqb k kind_for) (λ _. TargetFirst) (λ _.
    if' (eqb k kind_def) (λ _. if_typed (eqb d 1) ReturnType) (λ _.
    if' (eqb k kind_assign || eqb k kind_assign_modify) (λ _. if_typed (eqb d 1) TypeSecond) (λ _.
    if' (eqb k kind_normal) (λ _. if_typed (eqb d 1 || eqb d 3) TypeFirst) (λ _.
    if' (eqb k kind_args_param || eqb k kind_kw_args_param) (λ _. if_typed (eqb d 1) TypeFirst) (λ _.
    Nowhere)))))

-- the role of the next child, by its kind, and the roles of the children after it
abbrev pub role_of : Roles → ℕ → Role
role_of Nowhere k = Plain
role_of TargetFirst k = AsTarget
role_of TypeFirst k = AsType
role_of TypeSecond k = Plain
role_of ReturnType k = if' (eqb (class_of k) expression) (λ _. AsType) (λ _. Plain)

abbrev pub roles_after : Roles → Roles
roles_after Nowhere = Nowhere
roles_after TargetFirst = Nowhere
roles_after TypeFirst = Nowhere
roles_after TypeSecond = TypeFirst
roles_after ReturnType = ReturnType

-- a tree, and the role of its first record
pub record Placed : Type 0 where
  pub role : Role
  pub tree : Tree

abbrev pub placed_as : Role → Tree → Placed
placed_as role t = record { role = role; tree = t }

abbrev pub kind_in : Tree → ℕ
kind_in (node r ks) = r.kind

-- every tree in table order, a tree before those below it
unfoldable mutual
  pub placed_tree : Role → Tree → List Placed
  placed_tree role (node r ks) = placed_as role (node r ks) ∷ placed (roles_of r.kind r.detail) ks

  pub placed : Roles → Forest → List Placed
  placed roles none = []
  placed roles (t then ts) = placed_tree (role_of roles (kind_in t)) t ++ placed (roles_after roles) ts
