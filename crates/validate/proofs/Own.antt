-- Where no parameter list is refused (`lists_pass`), the module pass has no error of 10 to 19, so that its own errors
-- are all. Every other number is looked at once: those of marks, of statements by their arm (`own_arm`), of
-- expressions (`own_expr`). The induction is on the forest, for statements and expressions at once (`own_forest`).
-- Cite `own_module`. Assumes nothing.
use Rattle.std.specs.Prelude.{Err, Ok, Result}
use Rattle.deflist.specs.declared.Fault.{Fault}
use Rattle.deflist.specs.declared.Counts.{Counts}
use mathlib.Core.Path.{◌≡◌, refl, ◌∙◌}
use mathlib.Core.Bool.{Bool, true, false, ◌&&◌, ◌||◌, not}
use mathlib.Core.List.{List, [], ◌∷◌, ◌++◌}
use Prim.Native.Nat.{ℕ}
use lib.Dec.{eqb}
use Rattle.fields.proofs.Basics.{never, and_left, and_right}
use Rattle.fields.specs.Choice.{if'}
use Rattle.dialect.specs.declared.Dialect.{Dialect}
use Rattle.dialect.specs.Rows.{permits_types}
use Rattle.forest.specs.Forest.{Node, Tree, node, Forest, none, ◌then◌}
use Rattle.soundness.specs.KindNumbers.{kind_def, kind_for, kind_break, kind_continue, kind_return, kind_load, kind_ellipsis}
use Rattle.soundness.specs.KindNumbers.{kind_lambda}
use Rattle.soundness.specs.Kinds.{statement, class_of}
use Rattle.table.specs.Numbers.{def_not_permitted, top_level_for, top_level_if, break_misplaced, continue_misplaced}
use Rattle.table.specs.Numbers.{return_misplaced, load_not_at_top, load_not_permitted, ellipsis_not_permitted}
use Rattle.table.specs.Numbers.{lambda_not_permitted}
use Rattle.deflist.specs.Written.{Param, node_in, kind_in, params_in}
use Rattle.deflist.specs.Limited.{limited}
use Rattle.deflist.specs.Told.{told}
use Rattle.errors.specs.declared.Finding.{Finding}
use Rattle.errors.specs.declared.Listing.TheVariants.{Own}
use Rattle.errors.specs.Errors.{err_at, unless_in, is_list_error, without_lists, kept}
use Rattle.errors.proofs.Storing.{kept_append}
use Rattle.validate.specs.Params.{is_mark, not_permitted, permits, every_mark, marks, unpack_error}
use Rattle.validate.specs.Params.{validate_params, with_params}
use Rattle.validate.specs.Module.{standing, is_banned, told_if, is_if, at_top, in_def, arm_of, on_arm, f, visit_stmt}
use Rattle.validate.specs.Module.{expr_errors, expr, visit_expr, validate_module}
use Rattle.validate.specs.declared.Mark.{Mark}
use Rattle.validate.specs.declared.Mark.TheVariants.{Star, Slash as SlashMark}
use Rattle.validate.specs.declared.Standing.{Standing}
use Rattle.validate.specs.declared.Arm.{Arm}
use Rattle.validate.specs.declared.Arm.TheVariants.{Def, Load, Told, Below}

-- a list is not refused; and none is, of the defs and lambdas among trees
abbrev pub passes : Result Counts Fault → Bool
passes (Ok c) = true
passes (Err f) = false

abbrev pub has_list : ℕ → Bool
has_list k = eqb k kind_def || eqb k kind_lambda

unfoldable mutual
  pub lists_pass : List ℕ → Forest → Bool
  lists_pass names none = true
  lists_pass names (t then ts) = list_passes names t && lists_pass names ts

  pub list_passes : List ℕ → Tree → Bool
  list_passes names (node r ks) =
      (not (has_list r.kind) || passes (told (limited r (params_in names ks)))) && lists_pass names ks

passes_quiet : (j : Result Counts Fault) → passes j ≡ true → unpack_error j ≡ []
passes_quiet (Ok c) e = refl
passes_quiet (Err f) e = never (cc)

asked : (a b : Bool) → (not a || b) ≡ true → a ≡ true → b ≡ true
asked true b e h = e
asked false b e h = never (cc)

-- no error is one of a parameter list
abbrev OwnOnly : List Finding → Type 0
OwnOnly es = kept Own es ≡ es

own_none : OwnOnly []
unfolding without_lists
own_none = refl

own_both : (es fs : List Finding) → OwnOnly es → OwnOnly fs → OwnOnly (es ++ fs)
own_both es fs p q = kept_append Own es fs ∙ rw (p, q) refl

own_one : (e : Finding) → is_list_error e.number ≡ false → OwnOnly (e ∷ [])
unfolding without_lists
own_one e h = rw h refl

own_unless : (b : Bool) (n : ℕ) (r : Node) → is_list_error n ≡ false → OwnOnly (unless_in b (err_at n r))
own_unless true n r h = own_none
own_unless false n r h = own_one (err_at n r) h

-- a parameter list that is not refused
mark_number : (m : Mark) → is_list_error (not_permitted m) ≡ false
mark_number Star = refl
mark_number SlashMark = refl

own_every : (m : Mark) (ps : List Param) → OwnOnly (every_mark m ps)
unfolding every_mark
own_every m [] = own_none
own_every m (p ∷ ps) =
    own_both (unless_in (not (is_mark m (kind_in p))) (err_at (not_permitted m) (node_in p))) (every_mark m ps)
    (own_unless (not (is_mark m (kind_in p))) (not_permitted m) (node_in p) (mark_number m)) (own_every m ps)

own_marks : (d : Dialect) (m : Mark) (ps : List Param) → OwnOnly (marks d m ps)
own_marks d m ps = go (permits d m)
  where
    go : (b : Bool) → OwnOnly (if' {A = List Finding} b (λ _. []) (λ _. every_mark m ps))
    go true = own_none
    go false = own_every m ps

module _ (d : Dialect) (names : List ℕ) where
  own_with : (b : Bool) (n : ℕ) (r : Node) (ks : Forest) → is_list_error n ≡ false
      → unpack_error (told (limited r (params_in names ks))) ≡ [] → OwnOnly (with_params d names b n r ks)
  unfolding with_params validate_params
  own_with b n r ks h passed =
      let ps : List Param = params_in names ks in
      own_both (unless_in b (err_at n r))
      ((marks d Star ps ++ marks d SlashMark ps) ++ unpack_error (told (limited r ps)))
      (own_unless b n r h)
      (own_both (marks d Star ps ++ marks d SlashMark ps) (unpack_error (told (limited r ps)))
      (own_both (marks d Star ps) (marks d SlashMark ps) (own_marks d Star ps) (own_marks d SlashMark ps))
      (rw passed own_none))

  -- a node that has a list, where it passes
  abbrev Passed : Node → Forest → Type 0
  Passed r ks = (not (has_list r.kind) || passes (told (limited r (params_in names ks)))) ≡ true

  passed_list : (r : Node) (ks : Forest) → has_list r.kind ≡ true → Passed r ks
      → unpack_error (told (limited r (params_in names ks))) ≡ []
  passed_list r ks h e = passes_quiet (told (limited r (params_in names ks))) (asked (has_list r.kind) _ e h)

  -- the arm of a Def, and the numbers of the others
  own_arm : (s : Standing) (r : Node) (ks : Forest) (visit : Standing → List Finding)
      → ((p : Standing) → OwnOnly (visit p))
      → Passed r ks → OwnOnly (on_arm d names s r ks visit (arm_of d s r.kind))
  unfolding arm_of
  own_arm s r ks visit below e =
      go (eqb k kind_def) refl (eqb k kind_for) (is_if k) (is_banned d s) (eqb k kind_break && not s.inside_for)
      (eqb k kind_continue && not s.inside_for) (eqb k kind_return && not s.inside_def) (eqb k kind_load)
    where
      k : ℕ
      k = r.kind

      arm : Arm → Type 0
      arm a = OwnOnly (on_arm d names s r ks visit a)

      go : (b : Bool) → eqb k kind_def ≡ b → (is_for isCond banned isBreak isContinue isReturn isLoad : Bool)
          → arm (if' b (λ _. Def) (λ _.
          if' is_for (λ _. told_if banned top_level_for (standing false true s.inside_def)) (λ _.
          if' isCond (λ _. told_if banned top_level_if (standing false s.inside_for s.inside_def)) (λ _.
          if' isBreak (λ _. Told break_misplaced) (λ _.
          if' isContinue (λ _. Told continue_misplaced) (λ _.
          if' isReturn (λ _. Told return_misplaced) (λ _.
          if' isLoad (λ _. Load) (λ _. Below s))))))))
      go true is x y c b m n l =
          own_both _ (visit in_def)
          (own_with d.enable_def def_not_permitted r ks refl (passed_list r ks (rw is refl) e)) (below in_def)
      go false is true y true b m n l = own_one (err_at top_level_for r) refl
      go false is true y false b m n l = below (standing false true s.inside_def)
      go false is false true true b m n l = own_one (err_at top_level_if r) refl
      go false is false true false b m n l = below (standing false s.inside_for s.inside_def)
      go false is false false c true m n l = own_one (err_at break_misplaced r) refl
      go false is false false c false true n l = own_one (err_at continue_misplaced r) refl
      go false is false false c false false true l = own_one (err_at return_misplaced r) refl
      go false is false false c false false false true =
          own_both _ _ (own_unless s.top_level load_not_at_top r refl)
          (own_unless d.enable_load load_not_permitted r refl)
      go false is false false c false false false false = below s

  own_stmt : (s : Standing) (r : Node) (ks : Forest) → ((p : Standing) → OwnOnly (visit_stmt d names p ks))
      → Passed r ks → OwnOnly (f d names s (node r ks))
  unfolding f
  own_stmt s r ks below e = go (eqb (class_of r.kind) statement)
    where
      go : (b : Bool)
          → OwnOnly (if' b (λ _. on_arm d names s r ks (λ p. visit_stmt d names p ks) (arm_of d s r.kind)) (λ _. []))
      go true = own_arm s r ks (λ p. visit_stmt d names p ks) below e
      go false = own_none

  own_expr : (r : Node) (ks : Forest) → Passed r ks → OwnOnly (expr_errors d names r ks)
  unfolding expr_errors
  own_expr r ks e = go (eqb r.kind kind_ellipsis) (eqb r.kind kind_lambda) refl
    where
      go : (a b : Bool) → eqb r.kind kind_lambda ≡ b
          → OwnOnly (if' a (λ _. unless_in (permits_types d.enable_types) (err_at ellipsis_not_permitted r)) (λ _.
          if' b (λ _. with_params d names d.enable_lambda lambda_not_permitted r ks) (λ _. [])))
      go true b is = own_unless (permits_types d.enable_types) ellipsis_not_permitted r refl
      go false true is =
          own_with d.enable_lambda lambda_not_permitted r ks refl
          (passed_list r ks (lambda_listed (eqb r.kind kind_def) (eqb r.kind kind_lambda) is) e)
        where
          lambda_listed : (a b : Bool) → b ≡ true → (a || b) ≡ true
          lambda_listed true b h = refl
          lambda_listed false b h = h
      go false false is = own_none

  -- the induction over statements and expressions
  mutual
    unfolding f expr lists_pass

    own_tree : (t : Tree) → list_passes names t ≡ true
        → ((s : Standing) → OwnOnly (f d names s t)) × OwnOnly (expr d names t)
    own_tree (node r ks) e =
        let one : Bool = not (has_list r.kind) || passes (told (limited r (params_in names ks))) in
        let here : Passed r ks = and_left one (lists_pass names ks) e in
        let below = own_forest ks (and_right one (lists_pass names ks) e) in (
          λ s. own_stmt s r ks below.0 here,
          own_both (expr_errors d names r ks) (visit_expr d names ks) (own_expr r ks here) below.1,
        )

    own_forest : (ts : Forest) → lists_pass names ts ≡ true
        → ((s : Standing) → OwnOnly (visit_stmt d names s ts)) × OwnOnly (visit_expr d names ts)
    own_forest none e = (λ s. own_none, own_none)
    own_forest (t then ts) e =
        let here = own_tree t (and_left (list_passes names t) (lists_pass names ts) e) in
        let rest = own_forest ts (and_right (list_passes names t) (lists_pass names ts) e) in (
          λ s. own_both (f d names s t) (visit_stmt d names s ts) (here.0 s) (rest.0 s),
          own_both (expr d names t) (visit_expr d names ts) here.1 rest.1,
        )

  -- LAW: where no parameter list is refused, all errors of the module pass are its own
  pub own_module : (ts : Forest) → lists_pass names ts ≡ true
      → kept Own (validate_module d names ts) ≡ validate_module d names ts
  own_module ts e =
      let each = own_forest ts e in
      own_both (visit_stmt d names at_top ts) (visit_expr d names ts) (each.0 at_top) each.1
