-- How many refusals there can be, so that no count overflows: a record has at most two, one by its kind and one by its
-- role (`there_few`), because a job gives one answer. There are as many trees as nodes (`count_tree_lem`, by
-- induction on the tree), so a part of the table of n bytes has at most n / 12 refusals (`each_few`, `tree_few`). The
-- refusals of two lists of trees are those of each (`refusals_append`, by induction on the first list). Cite
-- `each_few`, `tree_few` and `refusals_append`. Assumes nothing.
use mathlib.Core.Path.{◌≡◌, refl, sym}
use mathlib.Core.Bool.{Bool, true, false}
use mathlib.Core.List.{List, [], ◌∷◌, ◌++◌, append_assoc}
use Prim.Native.Nat.{ℕ, ◌+◌, ◌*◌, ◌≤◌}
use native.Mathlib.Omega.{arith}
use lib.ListN.{length, length-append}
use Rattle.fields.specs.Choice.{if'}
use Rattle.dialect.specs.declared.Dialect.{Dialect}
use Rattle.dialect.specs.declared.Edition.{Edition}
use Rattle.forest.specs.Forest.{kids_of, Tree, node, Forest, none, ◌then◌, forest, tree_of, count, count_tree}
use Rattle.forest.proofs.Stretch.{count_forest, length_kids}
use Rattle.table.specs.Answer.{Answer, accepted, refused}
use Rattle.table.specs.Check.{wants}
use Rattle.table.specs.declared.Wanted.TheVariants.{Parameters, Call, Assignment}
use Rattle.deflist.specs.Written.{root_in, written_in}
use Rattle.deflist.specs.Limited.{limited}
use Rattle.deflist.specs.Told.{told}
use Rattle.arguments.specs.Job.{call_answer}
use Rattle.targets.specs.Targets.{counted, check_assignment}
use Rattle.types.specs.Types.{dialect_check_type}
use Rattle.errors.specs.declared.Finding.{Finding}
use Rattle.validate.proofs.Bounds.{error_few}
use Rattle.audit.specs.declared.Role.{Role}
use Rattle.audit.specs.declared.Role.TheVariants.{AsTarget, AsType, Plain}
use Rattle.audit.specs.declared.Roles.{Roles}
use Rattle.audit.specs.Roles.{roles_of, role_of, roles_after, Placed, kind_in, placed_tree, placed}
use Rattle.audit.specs.Refusals.{answer_errors, kind_errors, role_errors, refused_there, refusals}

-- an answer gives at most one error, and so does a parameter list (validate's `error_few`)
answer_few : (a : Answer) → length (answer_errors a) ≤ 1
answer_few (accepted vs) = omega arith
answer_few (refused n vs) = omega arith

choice_few : (b : Bool) (x y : Unit {0} → List Finding) → length (x tt) ≤ 1 → length (y tt) ≤ 1 → length (if' b x y) ≤ 1
choice_few true x y p q = p
choice_few false x y p q = q

pub kind_few : (names : List ℕ) (t : Tree) → length (kind_errors names t) ≤ 1
unfolding kind_errors
kind_few names t =
    choice_few (wants Parameters (kind_in t)) _ _ (error_few (told (limited (root_in t) (written_in names t))))
    (choice_few (wants Call (kind_in t)) _ _ (answer_few (call_answer names t))
    (choice_few (wants Assignment (kind_in t)) _ _ (answer_few (check_assignment t)) (omega arith)))

pub role_few : (d : Dialect) (edition : Edition) (names : List ℕ) (role : Role) (t : Tree)
    → length (role_errors d edition names role t) ≤ 1
unfolding role_errors
role_few d edition names AsTarget t = answer_few (counted 0 t)
role_few d edition names AsType t = answer_few (dialect_check_type edition names d.enable_types t)
role_few d edition names Plain t = omega arith

module _ (d : Dialect) (edition : Edition) (names : List ℕ) where
  pub there_few : (p : Placed) → length (refused_there d edition names p) ≤ 2
  unfolding refused_there
  there_few p = omega (
    arith,
    length-append (kind_errors names p.tree) (role_errors d edition names p.role p.tree),
    kind_few names p.tree,
    role_few d edition names p.role p.tree,
  )

  -- LAW: the refusals of two lists of trees are those of each; a tree has at most two
  pub refusals_append : (ps qs : List Placed)
      → refusals d edition names (ps ++ qs) ≡ refusals d edition names ps ++ refusals d edition names qs
  unfolding refusals
  refusals_append [] qs = refl
  refusals_append (p ∷ ps) qs = rw (refusals_append ps qs)
      (sym (append_assoc (refused_there d edition names p) (refusals d edition names ps) (refusals d edition names qs)))

  pub refusals_few : (ps : List Placed) → length (refusals d edition names ps) ≤ 2 * length ps
  unfolding refusals
  refusals_few [] = omega arith
  refusals_few (p ∷ ps) = omega (
    arith,
    length-append (refused_there d edition names p) (refusals d edition names ps),
    there_few p,
    refusals_few ps,
  )

-- LAW: there are as many trees as nodes
mutual
  unfolding placed count

  pub count_tree_lem : (role : Role) (t : Tree) → length (placed_tree role t) ≡ count_tree t
  count_tree_lem role (node r ks) = let below = count_placed (roles_of r.kind r.detail) ks in omega (arith, below)

  pub count_placed : (roles : Roles) (ts : Forest) → length (placed roles ts) ≡ count ts
  count_placed roles none = refl
  count_placed roles (t then ts) = omega (
    arith,
    length-append (placed_tree (role_of roles (kind_in t)) t) (placed (roles_after roles) ts),
    count_tree_lem (role_of roles (kind_in t)) t,
    count_placed (roles_after roles) ts,
  )

-- the same for a part t of the table, and for its first tree
module _ (d : Dialect) (edition : Edition) (names : List ℕ) (i : ℕ) (t : List ℕ) where
  pub each_few : (roles : Roles) → 12 * length (refusals d edition names (placed roles (forest i t))) ≤ length t
  each_few roles = omega (
    arith,
    refusals_few d edition names (placed roles (forest i t)),
    count_placed roles (forest i t),
    count_forest i t,
  )

  pub tree_few : (role : Role) → 12 * length (refusals d edition names (placed_tree role (tree_of i t))) ≤ 24 + length t
  unfolding count
  tree_few role = omega (
    arith,
    refusals_few d edition names (placed_tree role (tree_of i t)),
    count_tree_lem role (tree_of i t),
    count_forest (i + 1) (kids_of t),
    length_kids t,
  )
