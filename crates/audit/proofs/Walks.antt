-- The walk of the audit visits every record in table order with its role, as `placed` of specs/Roles lists them.
-- roles_of and role_of make the tests of the definitions (`roles_for` .. `role_return`). A record's own refusals come
-- first, then those of its children, if it has any (`record_leaf`, `record_on`). Siblings are a loop, whose invariant
-- is `Auditing`: of the whole list, the refusals of what is left come next, and those before are stored (errors'
-- `Turns`). It holds at the start, each sibling keeps it, because the refusals of siblings are those of the first tree
-- and of the rest (`each_cut`), and at the end nothing is left (`each_start`, `each_on`, `each_end`). The sums fit by
-- Bounds. Assumes nothing.
use mathlib.Core.Path.{◌≡◌, refl, ap, ◌∙◌}
use mathlib.Core.Bool.{◌||◌}
use mathlib.Core.List.{List, [], ◌++◌, append-nil}
use Prim.Native.Nat.{ℕ, ◌+◌, ◌-◌, ◌*◌, ◌/◌, ◌<◌, ◌≤◌}
use native.Mathlib.Omega.{arith}
use lib.ListN.{length, take, drop}
use lib.Dec.{eqb}
use borrow.Author.Tests.{ne_eqb}
use Rattle.dialect.specs.declared.Dialect.{Dialect}
use Rattle.dialect.specs.declared.Edition.{Edition}
use Rattle.forest.specs.Forest.{node_of, span_of, kids_of, rest_of, Forest, forest, tree_of}
use Rattle.forest.proofs.Stretch.{forest_none, forest_tree, kids_part, rest_part, length_kids, length_rest}
use Rattle.soundness.specs.KindNumbers.{kind_def, kind_for, kind_assign, kind_assign_modify, kind_normal, kind_args_param}
use Rattle.soundness.specs.KindNumbers.{kind_kw_args_param}
use Rattle.soundness.specs.Kinds.{expression, class_of}
use Rattle.errors.specs.declared.Finding.{Finding}
use Rattle.errors.specs.declared.Listing.TheVariants.{Audit}
use Rattle.errors.specs.Errors.{Stores}
use Rattle.errors.proofs.Storing.{free_at, after, back, stores_both, stores_few}
use Rattle.errors.proofs.Storing.{Turns, turns_start, turns_on, turns_end, turns_few, turns_long}
use Rattle.validate.specs.Inner.{StoresFew}
use Rattle.audit.specs.declared.Role.{Role}
use Rattle.audit.specs.declared.Role.TheVariants.{AsType, Plain}
use Rattle.audit.specs.declared.Roles.{Roles}
use Rattle.audit.specs.declared.Roles.TheVariants.{Nowhere, TargetFirst, TypeFirst, TypeSecond, ReturnType}
use Rattle.audit.specs.Roles.{if_typed, roles_of, role_of, roles_after, placed_as, placed_tree, placed}
use Rattle.audit.specs.Refusals.{refused_there, refusals}
use Rattle.audit.proofs.Bounds.{refusals_append, each_few, tree_few}

-- which children of a record have a role, by its kind and detail
module _ {k m : ℕ} (k_is : k ≡ m) where
  pub roles_for : (d : ℕ) → k ≡ kind_for → TargetFirst ≡ roles_of m d
  unfolding roles_of
  roles_for d h = rw (← k_is, h) refl

  pub roles_other : (d : ℕ) → (k ≡ kind_for → ⊥) → (k ≡ kind_def → ⊥) → (k ≡ kind_assign → ⊥)
      → (k ≡ kind_assign_modify → ⊥)
      → (k ≡ kind_normal → ⊥) → (k ≡ kind_args_param → ⊥) → (k ≡ kind_kw_args_param → ⊥) → Nowhere ≡ roles_of m d
  unfolding roles_of
  roles_other d no-for no-def no-assign no-modify no-normal no_args_lem no_kwargs_lem = rw (
    ← k_is,
    ne_eqb k kind_for no-for,
    ne_eqb k kind_def no-def,
    ne_eqb k kind_assign no-assign,
    ne_eqb k kind_assign_modify no-modify,
    ne_eqb k kind_normal no-normal,
    ne_eqb k kind_args_param no_args_lem,
    ne_eqb k kind_kw_args_param no_kwargs_lem,
  ) refl

  module _ {d e : ℕ} (d-is : d ≡ e) {r : Roles} where
    pub roles_def : k ≡ kind_def → r ≡ if_typed (eqb d 1) ReturnType → r ≡ roles_of m e
    unfolding roles_of
    roles_def h r-is = r-is ∙ rw (← k_is, h, d-is) refl

    pub roles_assign : k ≡ kind_assign → r ≡ if_typed (eqb d 1) TypeSecond → r ≡ roles_of m e
    unfolding roles_of
    roles_assign h r-is = r-is ∙ rw (← k_is, h, d-is) refl

    pub roles_modify : k ≡ kind_assign_modify → r ≡ if_typed (eqb d 1) TypeSecond → r ≡ roles_of m e
    unfolding roles_of
    roles_modify h r-is = r-is ∙ rw (← k_is, h, d-is) refl

    pub roles_normal : k ≡ kind_normal → r ≡ if_typed (eqb d 1 || eqb d 3) TypeFirst → r ≡ roles_of m e
    unfolding roles_of
    roles_normal h r-is = r-is ∙ rw (← k_is, h, d-is) refl

    pub roles_args : k ≡ kind_args_param → r ≡ if_typed (eqb d 1) TypeFirst → r ≡ roles_of m e
    unfolding roles_of
    roles_args h r-is = r-is ∙ rw (← k_is, h, d-is) refl

    pub roles_kwargs : k ≡ kind_kw_args_param → r ≡ if_typed (eqb d 1) TypeFirst → r ≡ roles_of m e
    unfolding roles_of
    roles_kwargs h r-is = r-is ∙ rw (← k_is, h, d-is) refl

-- the role of a child of a Def that has a return type
module _ (k : ℕ) {c : ℕ} (c-is : c ≡ class_of k) where
  pub return_type : c ≡ expression → AsType ≡ role_of ReturnType k
  return_type h = rw (← c-is, h) refl

  pub return_plain : (c ≡ expression → ⊥) → Plain ≡ role_of ReturnType k
  return_plain h = rw (← c-is, ne_eqb c expression h) refl

pub role_return : {roles : Roles} (k : ℕ) {r : Role} → roles ≡ ReturnType → r ≡ role_of ReturnType k
    → r ≡ role_of roles k
role_return k h r-is = r-is ∙ rw h refl

-- the children of the first record of t, as the code cuts them out
abbrev made : ℕ → List ℕ → List ℕ
made e t = take (e - 24) (drop 24 t)

-- a record's own refusals, and then those of all records below it
module _ (d : Dialect) (edition : Edition) (names : List ℕ) (role : Role) (i : ℕ) (t : List ℕ) {e : ℕ}
    (e-is : e ≡ span_of t) {m : ℕ}
    {xs ys : List ℕ} (own : Stores Audit (refused_there d edition names (placed_as role (tree_of i t))) xs m ys) where
  pub record_leaf : e ≤ 24 → Stores Audit (refusals d edition names (placed_tree role (tree_of i t))) xs m ys
  unfolding refusals placed
  record_leaf h =
      let no : length (kids_of t) < 24 = omega (arith, length_kids t) in
      let roles : Roles = roles_of (node_of 0 t).kind (node_of 0 t).detail in
      let nothing : refusals d edition names (placed roles (forest (i + 1) (kids_of t))) ≡ [] = rw
      (forest_none (i + 1) (kids_of t) no) refl in
      rw (nothing, append-nil) own

  pub record_on : {roles : Roles} → roles ≡ roles_of (node_of 0 t).kind (node_of 0 t).detail → {n at : ℕ} {zs : List ℕ}
      → at ≡ free_at Audit m ys
      → Stores Audit (refusals d edition names (placed roles (forest (i + 1) (made e t)))) (after at ys) n zs
      → Stores Audit (refusals d edition names (placed_tree role (tree_of i t))) xs (m + n) (back at ys zs)
  unfolding refusals placed
  record_on roles-are at-is z = stores_both _ _ own at-is (rw (kids_part e t e-is, roles-are) at z)

-- a tree has few refusals
pub tree_short : (d : Dialect) (edition : Edition) (names : List ℕ) (role : Role) (i : ℕ) (t : List ℕ) {xs ys : List ℕ}
    {n : ℕ}
    → Stores Audit (refusals d edition names (placed_tree role (tree_of i t))) xs n ys → 12 * n ≤ 24 + length t
tree_short d edition names role i t q = omega (arith, stores_few _ q, tree_few d edition names i t role)

-- the invariant of the loop over siblings: of `whole`, the refusals of what is left of t come next, in the roles that
-- are left
pub record Auditing (d : Dialect) (edition : Edition) (names : List ℕ) (whole : List Finding) (t xs₀ left : List ℕ)
    (place : ℕ) (roles : Roles)
    (total : ℕ) (xs : List ℕ) : Type 0 where
  pub within : 24 * place + length left ≤ 50400
  pub part : length left ≤ length t
  pub most : length whole ≤ 4200
  pub few : total ≤ 4200
  pub turns : Turns Audit whole xs₀ (refusals d edition names (placed roles (forest place left))) total xs

-- LAW: the refusals of siblings are those of the first tree, and of the siblings after it
each_cut : (d : Dialect) (edition : Edition) (names : List ℕ) (roles : Roles) (i e : ℕ) (t : List ℕ) → 24 ≤ length t
    → e ≡ span_of t
    → refusals d edition names (placed roles (forest i t))
    ≡ refusals d edition names (placed_tree (role_of roles (node_of 0 t).kind) (tree_of i t))
    ++ refusals d edition names (placed (roles_after roles) (forest (i + e / 24) (after e t)))
unfolding placed
each_cut d edition names roles i e t big e-is =
    ap (λ (ts : Forest). refusals d edition names (placed roles ts)) (forest_tree i t big)
    ∙ refusals_append d edition names (placed_tree (role_of roles (node_of 0 t).kind) (tree_of i t))
    (placed (roles_after roles) (forest (i + span_of t / 24) (rest_of t)))
    ∙ rw (rest_part e t e-is, e-is) refl

module _ {d : Dialect} {edition : Edition} {names : List ℕ} where
  pub each_start : {roles : Roles} {at : ℕ} {t xs : List ℕ} → 24 * at + length t ≤ 50400
      → Auditing d edition names (refusals d edition names (placed roles (forest at t))) t xs t at roles 0 xs
  each_start {roles} {at} {t} {xs} h = record {
    within = h;
    part = omega arith;
    most = omega (arith, each_few d edition names at t roles);
    few = omega arith;
    turns = turns_start _ xs;
  }

  module _ {whole : List Finding} {t xs₀ left : List ℕ} {place : ℕ} {roles : Roles} {total : ℕ} {xs : List ℕ}
      (v : Auditing d edition names whole t xs₀ left place roles total xs) where
    pub each_long : length xs ≡ length xs₀
    each_long = turns_long v.turns

    pub each_end : length left < 24 → StoresFew Audit 4200 whole xs₀ total xs
    unfolding placed refusals
    each_end h = record { few = v.few; stores = turns_end v.turns (rw (forest_none place left h) refl) }

    pub each_on : 24 ≤ length left → {role : Role} → role ≡ role_of roles (node_of 0 left).kind
        → {n free : ℕ} {zs : List ℕ} → free ≡ free_at Audit total xs
        → Stores Audit (refusals d edition names (placed_tree role (tree_of place left))) (after free xs) n zs → {e : ℕ}
        → e ≡ span_of left → {next : Roles} → next ≡ roles_after roles
        → Auditing d edition names whole t xs₀ (after e left) (place + e / 24) next (total + n) (back free xs zs)
    each_on big role-is free-is s {e} e-is next_is =
        let first = rw role-is at s in
        let next = turns_on v.turns (each_cut d edition names roles place e left big e-is) free-is first in
        record {
          within = rw (rest_part e left e-is) (omega (arith, length_rest left, v.within));
          part = rw (rest_part e left e-is) (omega (arith, length_rest left, v.part));
          most = v.most;
          few = omega (arith, turns_few next, v.most);
          turns = rw next_is next;
        }
