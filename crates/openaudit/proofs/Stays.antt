-- What opening a dialect does to the two parts of the audit's list. The first part is the list of the module pass
-- without 10 to 19: removing the opened numbers and leaving out those of parameter lists can be done in either order
-- (`own_swaps`). The second part is the refusals of the other jobs: all their numbers are below 50, so none is removed
-- (`refusals_stay`), and they depend on the dialect only by whether it has types (`refusals_same`). The inductions are
-- on the list of errors, or of trees. Cite these three. Assumes nothing.
use mathlib.Core.Path.{◌≡◌, refl, ap, ◌∙◌}
use mathlib.Core.Bool.{Bool, true, false}
use mathlib.Core.List.{List, [], ◌∷◌, ◌++◌}
use Prim.Native.Nat.{ℕ}
use borrow.Author.Tests.{ltb-true}
use Rattle.fields.specs.Choice.{if'}
use Rattle.dialect.specs.declared.Dialect.{Dialect}
use Rattle.dialect.specs.declared.Edition.{Edition}
use Rattle.dialect.specs.Rows.{permits_types}
use Rattle.forest.specs.Forest.{Tree, node}
use Rattle.table.specs.Answer.{Answer, accepted, refused}
use Rattle.table.specs.Check.{wants}
use Rattle.table.specs.declared.Wanted.TheVariants.{Parameters, Call, Assignment}
use Rattle.deflist.specs.Written.{root_in, written_in}
use Rattle.arguments.specs.Job.{call_answer}
use Rattle.targets.specs.Targets.{counted, check_assignment}
use Rattle.types.specs.Types.{dialect_check_type}
use Rattle.errors.specs.declared.Finding.{Finding}
use Rattle.errors.specs.declared.Listing.TheVariants.{Own}
use Rattle.errors.specs.Errors.{is_list_error, without_lists, kept}
use Rattle.opening.specs.Opening.{opened, without}
use Rattle.opening.proofs.Filters.{without_append, without_one, small_stays, list_error_stays}
use Rattle.audit.specs.declared.Role.{Role}
use Rattle.audit.specs.declared.Role.TheVariants.{AsTarget, AsType, Plain}
use Rattle.audit.specs.Roles.{Placed, kind_in}
use Rattle.audit.specs.Refusals.{refused_err, answer_errors, kind_errors, role_errors, refused_there, refusals}
use Rattle.openaudit.proofs.Numbers.{small, call_small, target_small, assignment_small, type_small}

-- LAW: two filters, in either order
pub own_swaps : (out : ℕ → Bool) (es : List Finding) → kept Own (without out es) ≡ without out (kept Own es)
unfolding without without_lists
own_swaps out [] = refl
own_swaps out (e ∷ es) = go (out e.number) (is_list_error e.number) refl refl (own_swaps out es)
  where
    go : (a b : Bool) → out e.number ≡ a → is_list_error e.number ≡ b
        → without_lists (without out es) ≡ without out (without_lists es)
        → without_lists (if' a (λ _. without out es) (λ _. e ∷ without out es))
        ≡ without out (if' b (λ _. without_lists es) (λ _. e ∷ without_lists es))
    go true true p q rest = rest
    go true false p q rest = rw p rest
    go false true p q rest = rw q rest
    go false false p q rest = rw (p, q) (ap (λ (xs : List Finding). e ∷ xs) rest)

module _ (d e : Dialect) where
  -- no error of a list is removed
  abbrev Stay : List Finding → Type 0
  Stay es = without (opened d e) es ≡ es

  stay_none : Stay []
  unfolding without
  stay_none = refl

  stay_both : (es fs : List Finding) → Stay es → Stay fs → Stay (es ++ fs)
  stay_both es fs p q = without_append (opened d e) es fs ∙ rw (p, q) refl

  stay_if : (b : Bool) (x y : Unit {0} → List Finding) → Stay (x tt) → Stay (y tt) → Stay (if' b x y)
  stay_if true x y p q = p
  stay_if false x y p q = q

  stay_answer : (a : Answer) → small a ≡ true → Stay (answer_errors a)
  stay_answer (accepted vs) h = stay_none
  stay_answer (refused n vs) h =
      without_one (opened d e) (refused_err n vs) (small_stays d e n (ltb-true n 50 h))

  -- at one tree, by its kind and by its role; then at a list of trees
  stay_kind : (names : List ℕ) (t : Tree) → Stay (kind_errors names t)
  unfolding kind_errors
  stay_kind names t =
      stay_if (wants Parameters (kind_in t)) _ _ (list_error_stays d e (root_in t) (written_in names t))
      (stay_if (wants Call (kind_in t)) _ _ (stay_answer (call_answer names t) (call_small names t))
      (stay_if (wants Assignment (kind_in t)) _ _ (stay_answer (check_assignment t) (assignment_small t)) stay_none))

  stay_role : (x : Dialect) (edition : Edition) (names : List ℕ) (role : Role) (t : Tree)
      → Stay (role_errors x edition names role t)
  unfolding role_errors
  stay_role x edition names AsTarget t = stay_answer (counted 0 t) (target_small 0 t)
  stay_role x edition names AsType t = stay_answer (dialect_check_type edition names x.enable_types t)
      (type_small edition names _ t)
  stay_role x edition names Plain t = stay_none

  -- LAW: no refusal of the jobs is removed
  pub refusals_stay : (x : Dialect) (edition : Edition) (names : List ℕ) (ps : List Placed)
      → Stay (refusals x edition names ps)
  unfolding refusals refused_there
  refusals_stay x edition names [] = stay_none
  refusals_stay x edition names (p ∷ ps) =
      stay_both (kind_errors names p.tree ++ role_errors x edition names p.role p.tree)
      (refusals x edition names ps)
      (stay_both (kind_errors names p.tree) (role_errors x edition names p.role p.tree)
      (stay_kind names p.tree)
      (stay_role x edition names p.role p.tree)) (refusals_stay x edition names ps)

  -- LAW: the refusals are the same in both dialects, if both have types or neither has
  module _ (agree : permits_types d.enable_types ≡ permits_types e.enable_types)
      (edition : Edition) (names : List ℕ) where
    same_role : (role : Role) (t : Tree) → role_errors e edition names role t ≡ role_errors d edition names role t
    unfolding role_errors dialect_check_type
    same_role AsTarget t = refl
    same_role AsType (node r ks) = rw agree refl
    same_role Plain t = refl

    pub refusals_same : (ps : List Placed) → refusals e edition names ps ≡ refusals d edition names ps
    unfolding refusals refused_there
    refusals_same [] = refl
    refusals_same (p ∷ ps) = rw (same_role p.role p.tree, refusals_same ps) refl
