-- The sentence "`errors 0` means that the whole checker passes", with the targets and types named by the children of
-- each record: the first child of every For is accepted as a target, and every return type, every type of an assignment
-- and every type of a parameter as a type. The audit gives each tree a role (`placed`). The trees of a role are, record
-- by record, the children that specs/Checked.antt names (`targets_are`, `types_are`, by cases on the kind). So what
-- holds of every tree in the role holds of every such child, and conversely (`forth`, `back`, by induction on the
-- forest). Cite `zero_checks_all` and `checks_all_zero`. Assumes nothing.
use Rattle.std.specs.Prelude.{Some}
use mathlib.Core.Path.{◌≡◌, refl, sym}
use mathlib.Core.Bool.{Bool, true, false, ◌||◌}
use mathlib.Core.List.{List, [], ◌∷◌, ◌++◌}
use Prim.Native.Nat.{ℕ, ◌/◌, ◌≤◌}
use lib.ListN.{length}
use lib.Dec.{eqb}
use borrow.Author.Tests.{eqb-true}
use Rattle.fields.proofs.Basics.{never}
use Rattle.fields.specs.Choice.{if'}
use Rattle.dialect.specs.declared.Edition.{Edition}
use Rattle.dialect.specs.Editions.{edition_of}
use Rattle.forest.specs.Forest.{record_bytes, Node, Tree, node, Forest, none, ◌then◌, forest}
use Rattle.forest.proofs.Stretch.{records}
use Rattle.soundness.specs.KindNumbers.{kind_def, kind_for, kind_assign, kind_assign_modify, kind_normal, kind_args_param}
use Rattle.soundness.specs.KindNumbers.{kind_kw_args_param}
use Rattle.soundness.specs.Kinds.{expression, class_of}
use Rattle.table.specs.Answer.{accepted}
use Rattle.table.specs.Check.{stretch_of}
use Rattle.targets.specs.Jobs.{target_of}
use Rattle.types.specs.Jobs.{type_shape_of}
use Rattle.validate.specs.Job.{module_of}
use Rattle.audit.specs.declared.Role.{Role}
use Rattle.audit.specs.declared.Role.TheVariants.{AsTarget, AsType, Plain}
use Rattle.audit.specs.declared.Roles.{Roles}
use Rattle.audit.specs.declared.Roles.TheVariants.{Nowhere, TargetFirst, TypeFirst, TypeSecond, ReturnType}
use Rattle.audit.specs.Roles.{if_typed as roles_if, roles_of, role_of, roles_after, Placed, kind_in, placed_tree}
use Rattle.audit.specs.Roles.{placed}
use Rattle.audit.specs.Job.{audit_of}
use Rattle.deflist.specs.Written.{root_in}
use Rattle.audited.specs.Said.{All, roots_in, is_accepted, Accepts}
use Rattle.audited.specs.Checked.{first_of, second_of, expressions_of, targets_of, if_typed, types_of, everywhere}
use Rattle.audited.specs.Checked.{everywhere_in, Each, Fitting}
use Rattle.audited.proofs.Everywhere.{all_both, all_left, all_right, all_map, all_join}
use Rattle.audited.proofs.Audited.{every_node, zero_passes, passes_zero}

each_both : {A : Type 0} (P : A → Type 0) (xs ys : List A) → Each P xs → Each P ys → Each P (xs ++ ys)
each_both P [] ys a b = b
each_both P (x ∷ xs) ys a b = (a.0, each_both P xs ys a.1 b)

each_left : {A : Type 0} (P : A → Type 0) (xs ys : List A) → Each P (xs ++ ys) → Each P xs
each_left P [] ys a = tt
each_left P (x ∷ xs) ys a = (a.0, each_left P xs ys a.1)

each_right : {A : Type 0} (P : A → Type 0) (xs ys : List A) → Each P (xs ++ ys) → Each P ys
each_right P [] ys a = a
each_right P (x ∷ xs) ys a = each_right P xs ys a.1

pub each_map : {A : Type 0} {P Q : A → Type 0} → ((x : A) → P x → Q x) → (xs : List A) → Each P xs → Each Q xs
each_map f [] a = tt
each_map f (x ∷ xs) a = (f x a.0, each_map f xs a.1)

-- what holds of the first record of each tree, as a list of records and as a list of trees
roots_all : (P : Node → Type 0) (ps : List Placed) → All (λ p. P (root_in p.tree)) ps → Each P (roots_in ps)
unfolding roots_in
roots_all P [] a = tt
roots_all P (p ∷ ps) a = (a.0, roots_all P ps a.1)

all_roots : (P : Node → Type 0) (ps : List Placed) → Each P (roots_in ps) → All (λ p. P (root_in p.tree)) ps
unfolding roots_in
all_roots P [] a = tt
all_roots P (p ∷ ps) a = (a.0, all_roots P ps a.1)

-- of trees with these roles, those whose role passes a test
unfoldable roled : (Role → Bool) → Roles → Forest → List Tree
roled test roles none = []
roled test roles (t then ts) =
    if' (test (role_of roles (kind_in t))) (λ _. t ∷ roled test (roles_after roles) ts) (λ _.
    roled test (roles_after roles) ts)

first_forth : (P : Tree → Type 0) (b : Bool) (t : Tree) (l : List Tree) → (b ≡ true → P t) → Each P l
    → Each P (if' b (λ _. t ∷ l) (λ _. l))
first_forth P true t l a rest = (a refl, rest)
first_forth P false t l a rest = rest

first_back : (P : Tree → Type 0) (b : Bool) (t : Tree) (l : List Tree) → Each P (if' b (λ _. t ∷ l) (λ _. l))
    → (b ≡ true → P t) × Each P l
first_back P true t l a = (λ e. a.0, a.1)
first_back P false t l a = (λ e. never (cc), a)

-- LAW: in all trees of a forest these are the children that a definition names for each record
module _ (test : Role → Bool) (these : ℕ → ℕ → Forest → List Tree)
    (are : (k d : ℕ) (ks : Forest) → these k d ks ≡ roled test (roles_of k d) ks) (P : Tree → Type 0) where
  abbrev Q : Placed → Type 0
  Q p = test p.role ≡ true → P p.tree

  mutual
    unfolding placed roled everywhere

    tree_forth : (role : Role) (t : Tree) → All Q (placed_tree role t)
        → (test role ≡ true → P t) × Each P (everywhere_in these t)
    tree_forth role (node r ks) a =
        let below = forth (roles_of r.kind r.detail) ks a.1 in (
          a.0,
          each_both P (these r.kind r.detail ks) (everywhere these ks)
              (rw (are r.kind r.detail ks) below.0) below.1,
        )

    forth : (roles : Roles) (ts : Forest) → All Q (placed roles ts)
        → Each P (roled test roles ts) × Each P (everywhere these ts)
    forth roles none a = (tt, tt)
    forth roles (t then ts) a =
        let role = role_of roles (kind_in t) in
        let here = tree_forth role t (all_left Q (placed_tree role t) (placed (roles_after roles) ts) a) in
        let right = all_right Q (placed_tree role t) (placed (roles_after roles) ts) a in
        let rest = forth (roles_after roles) ts right in (
          first_forth P (test role) t (roled test (roles_after roles) ts) here.0 rest.0,
          each_both P (everywhere_in these t) (everywhere these ts) here.1 rest.1,
        )

  mutual
    unfolding placed roled everywhere

    tree_back : (role : Role) (t : Tree) → (test role ≡ true → P t) → Each P (everywhere_in these t)
        → All Q (placed_tree role t)
    tree_back role (node r ks) here a =
        let own = each_left P (these r.kind r.detail ks) (everywhere these ks) a in
        let below = each_right P (these r.kind r.detail ks) (everywhere these ks) a in
        (here, back (roles_of r.kind r.detail) ks (rw (are r.kind r.detail ks) at own) below)

    back : (roles : Roles) (ts : Forest) → Each P (roled test roles ts) → Each P (everywhere these ts)
        → All Q (placed roles ts)
    back roles none a b = tt
    back roles (t then ts) a b =
        let role = role_of roles (kind_in t) in
        let here = first_back P (test role) t (roled test (roles_after roles) ts) a in
        all_both Q (placed_tree role t) (placed (roles_after roles) ts)
        (tree_back role t here.0 (each_left P (everywhere_in these t) (everywhere these ts) b))
        (back (roles_after roles) ts here.1 (each_right P (everywhere_in these t) (everywhere these ts) b))

-- the two tests
abbrev is_target : Role → Bool
is_target AsTarget = true
is_target AsType = false
is_target Plain = false

abbrev is_type : Role → Bool
is_type AsTarget = false
is_type AsType = true
is_type Plain = false

target_role : (r : Role) → is_target r ≡ true → r ≡ AsTarget
target_role AsTarget e = refl
target_role AsType e = never (cc)
target_role Plain e = never (cc)

type_role : (r : Role) → is_type r ≡ true → r ≡ AsType
type_role AsTarget e = never (cc)
type_role AsType e = refl
type_role Plain e = never (cc)

-- children without a role are none that a test wants
none_after : (test : Role → Bool) → test Plain ≡ false → (ks : Forest) → roled test Nowhere ks ≡ []
unfolding roled
none_after test plain none = refl
none_after test plain (t then ts) = rw plain (none_after test plain ts)

-- LAW: the targets among the children of a record, kind by kind
target_first : (ks : Forest) → first_of ks ≡ roled is_target TargetFirst ks
unfolding roled
target_first none = refl
target_first (t then ts) = rw (none_after is_target refl ts) refl

no_target_type : (ks : Forest) → roled is_target TypeFirst ks ≡ []
unfolding roled
no_target_type none = refl
no_target_type (t then ts) = none_after is_target refl ts

no_target_second : (ks : Forest) → roled is_target TypeSecond ks ≡ []
unfolding roled
no_target_second none = refl
no_target_second (t then ts) = no_target_type ts

no_target_return : (ks : Forest) → roled is_target ReturnType ks ≡ []
unfolding roled
no_target_return none = refl
no_target_return (t then ts) = go (eqb (class_of (kind_in t)) expression) (no_target_return ts)
  where
    go : (b : Bool) → roled is_target ReturnType ts ≡ []
        → if' (is_target (if' b (λ _. AsType) (λ _. Plain))) (λ _. t ∷ roled is_target ReturnType ts) (λ _.
        roled is_target ReturnType ts) ≡ []
    go true rest = rest
    go false rest = rest

no_target_if : (b : Bool) (roles : Roles) (ks : Forest) → roled is_target roles ks ≡ []
    → [] ≡ roled is_target (roles_if b roles) ks
no_target_if true roles ks e = sym e
no_target_if false roles ks e = sym (none_after is_target refl ks)

targets_are : (k d : ℕ) (ks : Forest) → targets_of k d ks ≡ roled is_target (roles_of k d) ks
unfolding targets_of roles_of
targets_are k d ks =
    go (eqb k kind_for) (eqb k kind_def) (eqb k kind_assign || eqb k kind_assign_modify) (eqb k kind_normal)
    (eqb k kind_args_param || eqb k kind_kw_args_param)
  where
    go : (a b c e f : Bool) → if' a (λ _. first_of ks) (λ _. [])
        ≡ roled is_target (if' a (λ _. TargetFirst) (λ _.
        if' b (λ _. roles_if (eqb d 1) ReturnType) (λ _.
        if' c (λ _. roles_if (eqb d 1) TypeSecond) (λ _.
        if' e (λ _. roles_if (eqb d 1 || eqb d 3) TypeFirst) (λ _.
        if' f (λ _. roles_if (eqb d 1) TypeFirst) (λ _. Nowhere)))))) ks
    go true b c e f = target_first ks
    go false true c e f = no_target_if (eqb d 1) ReturnType ks (no_target_return ks)
    go false false true e f = no_target_if (eqb d 1) TypeSecond ks (no_target_second ks)
    go false false false true f = no_target_if (eqb d 1 || eqb d 3) TypeFirst ks (no_target_type ks)
    go false false false false true = no_target_if (eqb d 1) TypeFirst ks (no_target_type ks)
    go false false false false false = sym (none_after is_target refl ks)

-- LAW: the types among the children of a record, kind by kind
no_type_target : (ks : Forest) → roled is_type TargetFirst ks ≡ []
unfolding roled
no_type_target none = refl
no_type_target (t then ts) = none_after is_type refl ts

type_first : (ks : Forest) → first_of ks ≡ roled is_type TypeFirst ks
unfolding roled
type_first none = refl
type_first (t then ts) = rw (none_after is_type refl ts) refl

type_second : (ks : Forest) → second_of ks ≡ roled is_type TypeSecond ks
unfolding roled
type_second none = refl
type_second (t then ts) = type_first ts

type_return : (ks : Forest) → expressions_of ks ≡ roled is_type ReturnType ks
unfolding roled expressions_of
type_return none = refl
type_return (t then ts) = go (eqb (class_of (kind_in t)) expression) (type_return ts)
  where
    go : (b : Bool) → expressions_of ts ≡ roled is_type ReturnType ts
        → if' b (λ _. t ∷ expressions_of ts) (λ _. expressions_of ts)
        ≡ if' (is_type (if' b (λ _. AsType) (λ _. Plain))) (λ _. t ∷ roled is_type ReturnType ts) (λ _.
        roled is_type ReturnType ts)
    go true rest = rw rest refl
    go false rest = rest

type_if : (b : Bool) (l : List Tree) (roles : Roles) (ks : Forest) → l ≡ roled is_type roles ks
    → if_typed b l ≡ roled is_type (roles_if b roles) ks
type_if true l roles ks e = e
type_if false l roles ks e = sym (none_after is_type refl ks)

types_are : (k d : ℕ) (ks : Forest) → types_of k d ks ≡ roled is_type (roles_of k d) ks
unfolding types_of roles_of
types_are k d ks = by_for (eqb k kind_for) refl
  where
    others : (b c e f : Bool)
        → if' b (λ _. if_typed (eqb d 1) (expressions_of ks)) (λ _.
        if' c (λ _. if_typed (eqb d 1) (second_of ks)) (λ _.
        if' e (λ _. if_typed (eqb d 1 || eqb d 3) (first_of ks)) (λ _.
        if' f (λ _. if_typed (eqb d 1) (first_of ks)) (λ _. []))))
        ≡ roled is_type (if' b (λ _. roles_if (eqb d 1) ReturnType) (λ _.
        if' c (λ _. roles_if (eqb d 1) TypeSecond) (λ _.
        if' e (λ _. roles_if (eqb d 1 || eqb d 3) TypeFirst) (λ _.
        if' f (λ _. roles_if (eqb d 1) TypeFirst) (λ _. Nowhere))))) ks
    others true c e f = type_if (eqb d 1) (expressions_of ks) ReturnType ks (type_return ks)
    others false true e f = type_if (eqb d 1) (second_of ks) TypeSecond ks (type_second ks)
    others false false true f = type_if (eqb d 1 || eqb d 3) (first_of ks) TypeFirst ks (type_first ks)
    others false false false true = type_if (eqb d 1) (first_of ks) TypeFirst ks (type_first ks)
    others false false false false = sym (none_after is_type refl ks)

    by_for : (a : Bool) → eqb k kind_for ≡ a → types_of k d ks ≡ roled is_type (roles_of k d) ks
    by_for true h = let is : k ≡ kind_for = eqb-true k kind_for h in rw is (sym (no_type_target ks))
    by_for false h = rw h (others (eqb k kind_def) (eqb k kind_assign || eqb k kind_assign_modify) (eqb k kind_normal)
        (eqb k kind_args_param || eqb k kind_kw_args_param))

module _ (t names bytes : List ℕ) (n : ℕ) where
  abbrev trees : List Placed
  trees = placed Nowhere (forest 0 t)

  abbrev Target : Tree → Type 0
  Target u = is_accepted (target_of t names (root_in u).at) ≡ true

  abbrev Typed : Tree → Type 0
  Typed u = (room : ℕ) → length (stretch_of t (root_in u).at) / record_bytes ≤ room
      → is_accepted (type_shape_of t names bytes n (root_in u).at room) ≡ true

  abbrev There : Placed → Type 0
  There p = Accepts t names bytes n (root_in p.tree).at p.role

  -- a tree is accepted as a target if it has that role, and as a type if it has that role
  abbrev AsTargets : Placed → Type 0
  AsTargets p = is_target p.role ≡ true → Target p.tree

  abbrev AsTypes : Placed → Type 0
  AsTypes p = is_type p.role ≡ true → Typed p.tree

  -- THEOREM: if the audit returns 0 errors, so does the module job, every node is accepted by the jobs that fit its
  -- kind, and every target and every type is accepted as one
  pub zero_checks_all : audit_of t names bytes n ≡ accepted (0 ∷ [])
      → (module_of t names bytes ≡ accepted (0 ∷ []))
      × Each (λ r. Fitting t names r.at) (records (length t / 24) 0 t)
      × Each (λ u. is_accepted (target_of t names (root_in u).at) ≡ true) (everywhere targets_of (forest 0 t))
      × Each (λ u. (room : ℕ) → length (stretch_of t (root_in u).at) / record_bytes ≤ room
      → is_accepted (type_shape_of t names bytes n (root_in u).at room) ≡ true) (everywhere types_of (forest 0 t))
  zero_checks_all e =
      let z = zero_passes t names bytes n e in
      let nodes : Each (λ (r : Node). Fitting t names r.at) (roots_in trees) =
      roots_all (λ (r : Node). Fitting t names r.at) trees
      (all_map (λ p (a : There p). record { params = a.params; call = a.call; assignment = a.assignment })
      trees z.1) in
      let targets = forth is_target targets_of targets_are Target Nowhere (forest 0 t)
      (all_map {P = There} {Q = AsTargets} (λ p a h. a.target (target_role p.role h)) trees z.1) in
      let types = forth is_type types_of types_are Typed Nowhere (forest 0 t)
      (all_map {P = There} {Q = AsTypes} (λ p a h. a.type (type_role p.role h)) trees z.1) in
      (z.0, rw (every_node t) at nodes, targets.1, types.1)

  -- THEOREM: the converse, for a number that is an edition
  pub checks_all_zero : {edition : Edition} → edition_of n ≡ Some edition → module_of t names bytes ≡ accepted (0 ∷ [])
      → Each (λ r. Fitting t names r.at) (records (length t / 24) 0 t)
      → Each (λ u. is_accepted (target_of t names (root_in u).at) ≡ true) (everywhere targets_of (forest 0 t))
      → Each (λ u. (room : ℕ) → length (stretch_of t (root_in u).at) / record_bytes ≤ room
      → is_accepted (type_shape_of t names bytes n (root_in u).at room) ≡ true) (everywhere types_of (forest 0 t))
      → audit_of t names bytes n ≡ accepted (0 ∷ [])
  checks_all_zero known e fit targets types =
      let these : Each (λ (r : Node). Fitting t names r.at) (roots_in trees) = rw (every_node t) fit in
      let nodes = all_roots (λ (r : Node). Fitting t names r.at) trees these in
      let as_target = back is_target targets_of targets_are Target Nowhere (forest 0 t)
      (rw (none_after is_target refl (forest 0 t)) tt) targets in
      let as_type = back is_type types_of types_are Typed Nowhere (forest 0 t)
      (rw (none_after is_type refl (forest 0 t)) tt) types in
      let roles = all_join {P = AsTargets} {Q = AsTypes} {R = λ p. AsTargets p × AsTypes p} (λ p a b. (a, b)) trees
      as_target as_type in
      passes_zero t names bytes n known e (all_join {Q = λ p. AsTargets p × AsTypes p}
      (λ p (f : Fitting t names (root_in p.tree).at) both. record {
        params = f.params;
        call = f.call;
        assignment = f.assignment;
        target = λ h. both.0 (rw h refl);
        type = λ h. both.1 (rw h refl);
      }) trees nodes roles)
