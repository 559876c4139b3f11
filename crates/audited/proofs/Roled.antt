-- In a sound table every record with the role of a target or a type is an expression, so the target job and the type
-- job fit it (`all_roled`). A role comes from the kind and detail of the parent, and the same kind and detail say which
-- children a sound record has (soundness' `wanted`). For each kind with roles these two agree (`for_fits` ..
-- `kwargs_fits`, together `kids_fit`). The induction is on the tree, with the roles that are left (`tree_roled`,
-- `forest_roled`). Cite `all_roled`. Assumes nothing.
use mathlib.Core.Path.{◌≡◌, refl}
use mathlib.Core.Bool.{Bool, true, false, ◌||◌}
use mathlib.Core.List.{List, [], ◌∷◌}
use Prim.Native.Nat.{ℕ}
use lib.ListN.{length}
use lib.Dec.{eqb}
use borrow.Author.Tests.{eqb-true}
use Rattle.fields.proofs.Basics.{and_left, and_right}
use Rattle.fields.specs.Choice.{if'}
use Rattle.forest.specs.Forest.{Tree, node, Forest, none, ◌then◌, forest}
use Rattle.soundness.specs.KindNumbers.{kind_def, kind_for, kind_assign, kind_assign_modify, kind_normal, kind_args_param}
use Rattle.soundness.specs.KindNumbers.{kind_kw_args_param}
use Rattle.soundness.specs.Kinds.{expression, kind_in as row_in, kind_of, class_of}
use Rattle.soundness.specs.Sound.{Context, context_of, classes, wanted, sound_node}
use Rattle.soundness.proofs.SoundTables.{all_sound, tree_sound, sound_table, node_classes}
use Rattle.table.proofs.Checking.{Clean}
use Rattle.audit.specs.declared.Role.{Role}
use Rattle.audit.specs.declared.Role.TheVariants.{AsTarget, AsType, Plain}
use Rattle.audit.specs.declared.Roles.{Roles}
use Rattle.audit.specs.declared.Roles.TheVariants.{Nowhere, TargetFirst, TypeFirst, TypeSecond, ReturnType}
use Rattle.audit.specs.Roles.{if_typed, roles_of, role_of, roles_after, Placed, kind_in, placed_tree, placed}
use Rattle.audited.specs.Said.{All}
use Rattle.audited.proofs.Everywhere.{all_both, either}

-- a record of class c may have a role
abbrev pub Fits : Role → ℕ → Type 0
Fits AsTarget c = c ≡ expression
Fits AsType c = c ≡ expression
Fits Plain c = Unit {0}

-- children of these classes may have these roles
abbrev FirstFits : List ℕ → Type 0
FirstFits [] = Unit {0}
FirstFits (c ∷ cs) = c ≡ expression

abbrev SecondFits : List ℕ → Type 0
SecondFits [] = Unit {0}
SecondFits (c ∷ cs) = FirstFits cs

abbrev AllFit : Roles → List ℕ → Type 0
AllFit Nowhere cs = Unit {0}
AllFit TargetFirst cs = FirstFits cs
AllFit TypeFirst cs = FirstFits cs
AllFit TypeSecond cs = SecondFits cs
AllFit ReturnType cs = Unit {0}

-- the next child fits its role, and those after it fit theirs
return_fits : (b : Bool) (c : ℕ) → eqb c expression ≡ b → Fits (if' b (λ _. AsType) (λ _. Plain)) c
return_fits true c e = eqb-true c expression e
return_fits false c e = tt

next_fits : (roles : Roles) (k : ℕ) (cs : List ℕ) → AllFit roles (class_of k ∷ cs)
    → Fits (role_of roles k) (class_of k) × AllFit (roles_after roles) cs
next_fits Nowhere k cs h = (tt, tt)
next_fits TargetFirst k cs h = (h, tt)
next_fits TypeFirst k cs h = (h, tt)
next_fits TypeSecond k cs h = (tt, h)
next_fits ReturnType k cs h = (return_fits (eqb (class_of k) expression) (class_of k) refl, tt)

first_fits : (roles : Roles) (t : Tree) (ts : Forest) → AllFit roles (classes (t then ts))
    → Fits (role_of roles (kind_in t)) (class_of (kind_in t)) × AllFit (roles_after roles) (classes ts)
unfolding classes
first_fits roles (node r ks) ts h = next_fits roles r.kind (classes ts) h

-- the children that a kind has in a sound table fit its roles
typed_fits : (cs : List ℕ) (b : Bool) (roles : Roles) → (b ≡ true → AllFit roles cs) → AllFit (if_typed b roles) cs
typed_fits cs true roles h = h refl
typed_fits cs false roles h = tt

first_of : (cs ds : List ℕ) → cs ≡ ds → FirstFits ds → FirstFits cs
first_of cs ds e h = rw e h

second_of_lem : (cs ds : List ℕ) → cs ≡ ds → SecondFits ds → SecondFits cs
second_of_lem cs ds e h = rw e h

module _ (cs : List ℕ) (k d : ℕ) (are : cs ≡ wanted ((kind_of k).kids d) (length cs)) where
  for_fits : k ≡ kind_for → FirstFits cs
  unfolding kind_of row_in wanted
  for_fits h = first_of cs _ are (rw h refl)

  assign_fits : k ≡ kind_assign → d ≡ 1 → SecondFits cs
  unfolding kind_of row_in wanted
  assign_fits h d-is = second_of_lem cs _ are (rw (h, d-is) refl)

  modify_fits : k ≡ kind_assign_modify → d ≡ 1 → SecondFits cs
  unfolding kind_of row_in wanted
  modify_fits h d-is = second_of_lem cs _ are (rw (h, d-is) refl)

  normal_fits : k ≡ kind_normal → (eqb d 1 || eqb d 3) ≡ true → FirstFits cs
  unfolding kind_of row_in wanted
  normal_fits h typed =
      first_of cs _ are
      (either (eqb d 1) (eqb d 3) typed (λ e. rw (h, eqb-true d 1 e) refl) (λ e. rw (h, eqb-true d 3 e) refl))

  args_fits : k ≡ kind_args_param → d ≡ 1 → FirstFits cs
  unfolding kind_of row_in wanted
  args_fits h d-is = first_of cs _ are (rw (h, d-is) refl)

  kwargs_fits : k ≡ kind_kw_args_param → d ≡ 1 → FirstFits cs
  unfolding kind_of row_in wanted
  kwargs_fits h d-is = first_of cs _ are (rw (h, d-is) refl)

  one : eqb d 1 ≡ true → d ≡ 1
  one e = eqb-true d 1 e

  -- the roles of the children of a parameter, and of any other kind
  param_fits : AllFit (if' (eqb k kind_normal) (λ _. if_typed (eqb d 1 || eqb d 3) TypeFirst) (λ _.
      if' (eqb k kind_args_param || eqb k kind_kw_args_param) (λ _. if_typed (eqb d 1) TypeFirst) (λ _. Nowhere))) cs
  param_fits = go (eqb k kind_normal) refl (eqb k kind_args_param || eqb k kind_kw_args_param) refl
    where
      go : (n : Bool) → eqb k kind_normal ≡ n → (v : Bool) → (eqb k kind_args_param || eqb k kind_kw_args_param) ≡ v
          → AllFit (if' n (λ _. if_typed (eqb d 1 || eqb d 3) TypeFirst) (λ _.
          if' v (λ _. if_typed (eqb d 1) TypeFirst) (λ _. Nowhere))) cs
      go true n_is v v-is = typed_fits cs (eqb d 1 || eqb d 3) TypeFirst (normal_fits (eqb-true k kind_normal n_is))
      go false n_is true v-is =
          typed_fits cs (eqb d 1) TypeFirst λ h.
          either (eqb k kind_args_param) (eqb k kind_kw_args_param) v-is
          (λ is. args_fits (eqb-true k kind_args_param is) (one h))
          (λ is. kwargs_fits (eqb-true k kind_kw_args_param is) (one h))
      go false n_is false v-is = tt

  kids_fit : AllFit (roles_of k d) cs
  unfolding roles_of
  kids_fit = go (eqb k kind_for) refl (eqb k kind_def) (eqb k kind_assign || eqb k kind_assign_modify) refl
    where
      go : (f : Bool) → eqb k kind_for ≡ f → (e a : Bool) → (eqb k kind_assign || eqb k kind_assign_modify) ≡ a
          → AllFit (if' f (λ _. TargetFirst) (λ _.
          if' e (λ _. if_typed (eqb d 1) ReturnType) (λ _.
          if' a (λ _. if_typed (eqb d 1) TypeSecond) (λ _.
          if' (eqb k kind_normal) (λ _. if_typed (eqb d 1 || eqb d 3) TypeFirst) (λ _.
          if' (eqb k kind_args_param || eqb k kind_kw_args_param) (λ _. if_typed (eqb d 1) TypeFirst) (λ _.
          Nowhere)))))) cs
      go true f-is e a a-is = for_fits (eqb-true k kind_for f-is)
      go false f-is true a a-is = typed_fits cs (eqb d 1) ReturnType (λ h. tt)
      go false f-is false true a-is =
          typed_fits cs (eqb d 1) TypeSecond λ h.
          either (eqb k kind_assign) (eqb k kind_assign_modify) a-is
          (λ is. assign_fits (eqb-true k kind_assign is) (one h))
          (λ is. modify_fits (eqb-true k kind_assign_modify is) (one h))
      go false f-is false false a-is = param_fits

-- a tree has a class that fits its role
abbrev pub Roled : Placed → Type 0
Roled p = Fits p.role (class_of (kind_in p.tree))

module _ (x : ℕ → Context) where
  mutual
    unfolding placed all_sound classes

    tree_roled : (role : Role) (t : Tree) → tree_sound x t ≡ true → Fits role (class_of (kind_in t))
        → All Roled (placed_tree role t)
    tree_roled role (node r ks) e h =
        let here : sound_node (x r.at) r ks ≡ true = and_left (sound_node (x r.at) r ks) _ e in
        let below : all_sound x ks ≡ true = and_right (sound_node (x r.at) r ks) _ e in (
          h,
          forest_roled (roles_of r.kind r.detail) ks below
              (kids_fit (classes ks) r.kind r.detail (node_classes (x r.at) r ks here)),
        )

    forest_roled : (roles : Roles) (ts : Forest) → all_sound x ts ≡ true → AllFit roles (classes ts)
        → All Roled (placed roles ts)
    forest_roled roles none e h = tt
    forest_roled roles (t then ts) e h =
        let fit = first_fits roles t ts h in
        all_both Roled (placed_tree (role_of roles (kind_in t)) t) (placed (roles_after roles) ts)
        (tree_roled (role_of roles (kind_in t)) t (and_left (tree_sound x t) (all_sound x ts) e) fit.0)
        (forest_roled (roles_after roles) ts (and_right (tree_sound x t) (all_sound x ts) e) fit.1)

-- LAW: every target and every type of a sound table is an expression
pub all_roled : {t names : List ℕ} → Clean t names → All Roled (placed Nowhere (forest 0 t))
all_roled {t} {names} c = forest_roled (context_of t names) Nowhere (forest 0 t)
    (sound_table t names c.unsound c.least).nodes tt
