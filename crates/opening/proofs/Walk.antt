-- The induction over a module: the errors of every part of the module pass in an opened dialect are related to those in
-- the first dialect by `Opens`. Each error of the pass belongs to one switch (50, 51, 52, 59, 60, 61), or to none (53
-- to 58), or comes from a parameter list. The three cases are `opens_with` for a parameter list, `opens_arm` for a
-- statement and `opens_expr` for an expression. Both dialects visit the statements below in the same place, except a
-- top-level `for` or `if` that the first bans (`opens_told`); there the first list has an error. The induction is on
-- the tree, for statements and expressions at once (`opens_tree`). Cite `opens_module`. Assumes nothing.
use mathlib.Core.Path.{◌≡◌, refl}
use mathlib.Core.Bool.{Bool, true, false, ◌&&◌, not}
use mathlib.Core.List.{List, ◌++◌}
use Prim.Native.Nat.{ℕ}
use lib.Dec.{eqb}
use Rattle.fields.specs.Choice.{if'}
use Rattle.fields.proofs.Basics.{never}
use Rattle.dialect.specs.declared.Dialect.{Dialect}
use Rattle.dialect.specs.Rows.{permits_types}
use Rattle.forest.specs.Forest.{Node, Tree, node, Forest, none, ◌then◌}
use Rattle.soundness.specs.KindNumbers.{kind_def, kind_for, kind_break, kind_continue, kind_return, kind_load, kind_ellipsis}
use Rattle.soundness.specs.KindNumbers.{kind_lambda}
use Rattle.soundness.specs.Kinds.{statement, class_of}
use Rattle.table.specs.Numbers.{def_not_permitted, top_level_for, top_level_if, break_misplaced, continue_misplaced}
use Rattle.table.specs.Numbers.{return_misplaced, load_not_at_top, load_not_permitted, ellipsis_not_permitted}
use Rattle.table.specs.Numbers.{lambda_not_permitted}
use Rattle.deflist.specs.Written.{Param, params_in}
use Rattle.errors.specs.declared.Finding.{Finding}
use Rattle.errors.specs.Errors.{err_at, unless}
use Rattle.validate.specs.Params.{not_permitted, permits, every_mark, marks, validate_params, with_params}
use Rattle.validate.specs.Module.{standing, is_banned, told_if, is_if, at_top, in_def, arm_of, on_arm, f, visit_stmt}
use Rattle.validate.specs.Module.{expr_errors, expr, visit_expr, validate_module}
use Rattle.validate.specs.declared.Mark.{Mark}
use Rattle.validate.specs.declared.Mark.TheVariants.{Star, Slash}
use Rattle.validate.specs.declared.Standing.{Standing}
use Rattle.validate.specs.declared.Arm.{Arm}
use Rattle.opening.specs.Opening.{at_least, newly, opened}
use Rattle.opening.proofs.Filters.{without_every, list_error_stays}
use Rattle.opening.proofs.Opens.{Opens, opens_none, opens_both, opens_if, opens_same, opens_one}
use Rattle.opening.proofs.Opens.{opens_switch, opens_unless}
use Rattle.opening.proofs.Fields.{Permits}

module _ {d e : Dialect} (all : Permits d e) (names : List ℕ) where
  -- a parameter list: its `*` and `/` markers, and its one error
  mark_switch : (m : Mark) → at_least (permits d m) (permits e m) ≡ true
  mark_switch Star = all.keyword_only
  mark_switch Slash = all.positional_only

  mark_number : (m : Mark) → opened d e (not_permitted m) ≡ newly (permits d m) (permits e m)
  unfolding opened
  mark_number Star = refl
  mark_number Slash = refl

  opens_marks : (m : Mark) (ps : List Param) → Opens d e (marks d m ps) (marks e m ps)
  opens_marks m ps =
      opens_switch (permits d m) (permits e m) (every_mark m ps) (mark_switch m)
      (without_every (opened d e) m ps (mark_number m))

  opens_with : (b c : Bool) (n : ℕ) (r : Node) (ks : Forest) → at_least b c ≡ true → opened d e n ≡ newly b c
      → Opens d e (with_params d names b n r ks) (with_params e names c n r ks)
  unfolding with_params validate_params
  opens_with b c n r ks least is =
      let ps : List Param = params_in names ks in
      opens_both (opens_unless b c n r least is)
      (opens_both (opens_both (opens_marks Star ps) (opens_marks Slash ps)) (opens_same (list_error_stays d e r ps)))

  -- the own errors of a def, a load and an expression
  opens_def : (r : Node) (ks : Forest) → Opens d e (with_params d names d.enable_def def_not_permitted r ks)
      (with_params e names e.enable_def def_not_permitted r ks)
  unfolding opened
  opens_def r ks = opens_with d.enable_def e.enable_def def_not_permitted r ks all.def refl

  load_number : opened d e load_not_permitted ≡ newly d.enable_load e.enable_load
  unfolding opened
  load_number = refl

  opens_load : (s : Standing) (r : Node)
      → Opens d e (unless s.top_level load_not_at_top r ++ unless d.enable_load load_not_permitted r)
      (unless s.top_level load_not_at_top r ++ unless e.enable_load load_not_permitted r)
  unfolding opened
  opens_load s r =
      opens_both (placed s.top_level)
      (opens_unless d.enable_load e.enable_load load_not_permitted r all.load load_number)
    where
      placed : (b : Bool) → Opens d e (unless b load_not_at_top r) (unless b load_not_at_top r)
      placed true = opens_none
      placed false = opens_one (err_at load_not_at_top r) refl

  opens_expr : (r : Node) (ks : Forest) → Opens d e (expr_errors d names r ks) (expr_errors e names r ks)
  unfolding expr_errors opened
  opens_expr r ks =
      opens_if (eqb r.kind kind_ellipsis) _ _ _ _
      (opens_unless (permits_types d.enable_types) (permits_types e.enable_types) ellipsis_not_permitted r
      all.types refl)
      (opens_if (eqb r.kind kind_lambda) _ _ _ _
      (opens_with d.enable_lambda e.enable_lambda lambda_not_permitted r ks all.lambda refl) opens_none)

  -- a statement, if the statements below it are related wherever they are visited
  module _ (s : Standing) (r : Node) (ks : Forest) (visit wider : Standing → List Finding)
      (below : (p : Standing) → Opens d e (visit p) (wider p)) where
    abbrev Tied : Arm → Arm → Type 0
    Tied a b = Opens d e (on_arm d names s r ks visit a) (on_arm e names s r ks wider b)

    -- a for or if: refused in both dialects, visited in both, or refused in the first only, which then has an error
    opens_told : (n : ℕ) (p : Standing) → opened d e n ≡ false
        → Tied (told_if (is_banned d s) n p) (told_if (is_banned e s) n p)
    opens_told n p stays = go s.top_level d.enable_top_level_stmt e.enable_top_level_stmt
        all.top_level refl refl
      where
        go : (b x y : Bool) → at_least x y ≡ true → d.enable_top_level_stmt ≡ x → e.enable_top_level_stmt ≡ y
            → Tied (told_if (b && not x) n p) (told_if (b && not y) n p)
        go false x y least d-is e-is = below p
        go true true true least d-is e-is = below p
        go true true false least d-is e-is = never (cc)
        go true false false least d-is e-is = opens_one (err_at n r) stays
        go true false true least d-is e-is = record { clean = λ h. never (cc); exact = λ h. never (cc) }

    tied_if : (b : Bool) (x y v w : Unit {0} → Arm) → Tied (x tt) (v tt) → Tied (y tt) (w tt)
        → Tied (if' b x y) (if' b v w)
    tied_if true x y v w p q = p
    tied_if false x y v w p q = q

    opens_arm : Tied (arm_of d s r.kind) (arm_of e s r.kind)
    unfolding arm_of opened
    opens_arm =
        let k : ℕ = r.kind in
        tied_if (eqb k kind_def) _ _ _ _ (opens_both (opens_def r ks) (below in_def))
        (tied_if (eqb k kind_for) _ _ _ _ (opens_told top_level_for (standing false true s.inside_def) refl)
        (tied_if (is_if k) _ _ _ _
        (opens_told top_level_if (standing false s.inside_for s.inside_def) refl)
        (tied_if (eqb k kind_break && not s.inside_for) _ _ _ _ (opens_one (err_at break_misplaced r) refl)
        (tied_if (eqb k kind_continue && not s.inside_for) _ _ _ _ (opens_one (err_at continue_misplaced r) refl)
        (tied_if (eqb k kind_return && not s.inside_def) _ _ _ _ (opens_one (err_at return_misplaced r) refl)
        (tied_if (eqb k kind_load) _ _ _ _ (opens_load s r) (below s)))))))

  opens_stmt : (s : Standing) (r : Node) (ks : Forest)
      → ((p : Standing) → Opens d e (visit_stmt d names p ks) (visit_stmt e names p ks))
      → Opens d e (f d names s (node r ks)) (f e names s (node r ks))
  unfolding f
  opens_stmt s r ks below =
      opens_if (eqb (class_of r.kind) statement) _ _ _ _
      (opens_arm s r ks (λ p. visit_stmt d names p ks) (λ p. visit_stmt e names p ks) below) opens_none

  -- the induction over statements and expressions
  abbrev Everywhere : Forest → Type 0
  Everywhere ts =
      ((s : Standing) → Opens d e (visit_stmt d names s ts) (visit_stmt e names s ts))
      × Opens d e (visit_expr d names ts) (visit_expr e names ts)

  mutual
    unfolding f expr

    opens_tree : (t : Tree)
        → ((s : Standing) → Opens d e (f d names s t) (f e names s t)) × Opens d e (expr d names t) (expr e names t)
    opens_tree (node r ks) =
        let below = opens_forest ks in
        (λ s. opens_stmt s r ks below.0, opens_both (opens_expr r ks) below.1)

    opens_forest : (ts : Forest) → Everywhere ts
    opens_forest none = (λ s. opens_none, opens_none)
    opens_forest (t then ts) =
        let here = opens_tree t in
        let rest = opens_forest ts in
        (λ s. opens_both (here.0 s) (rest.0 s), opens_both here.1 rest.1)

  -- LAW: the lists of a module are related
  pub opens_module : (ts : Forest) → Opens d e (validate_module d names ts) (validate_module e names ts)
  opens_module ts = let each = opens_forest ts in opens_both (each.0 at_top) each.1
