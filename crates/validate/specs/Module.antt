-- The module pass: validate_module of src/syntax/validate.rs, over trees. These are definitions.
-- Copyright 2018 The Starlark in Rust Authors. Copyright (c) Facebook, Inc. and its affiliates.
-- Licensed under Apache-2.0; changed.
use Rattle.std.specs.Prelude.{Bool, true, false, ◌&&◌, ◌||◌, not, List, [], ◌∷◌, ◌++◌, ℕ, eqb}
use Rattle.fields.specs.Choice.{if'}
use Rattle.dialect.specs.declared.Dialect.{Dialect}
use Rattle.dialect.specs.Rows.{permits_types}
use Rattle.forest.specs.Forest.{Node, Tree, node, Forest, none, ◌then◌}
use Rattle.soundness.specs.KindNumbers.{kind_def, kind_for, kind_if, kind_if_else, kind_break, kind_continue, kind_return}
use Rattle.soundness.specs.KindNumbers.{kind_load, kind_ellipsis, kind_lambda}
use Rattle.soundness.specs.Kinds.{statement, class_of}
use Rattle.table.specs.Numbers.{def_not_permitted, top_level_for, top_level_if, break_misplaced, continue_misplaced}
use Rattle.table.specs.Numbers.{return_misplaced, load_not_at_top, load_not_permitted, ellipsis_not_permitted}
use Rattle.table.specs.Numbers.{lambda_not_permitted}
use Rattle.errors.specs.declared.Finding.{Finding}
use Rattle.errors.specs.Errors.{err_at, unless}
use Rattle.validate.specs.Params.{with_params}
use Rattle.validate.specs.declared.Standing.{Standing}
use Rattle.validate.specs.declared.Arm.{Arm}
use Rattle.validate.specs.declared.Arm.TheVariants.{Def, Load, Told, Below}

-- the place of a statement: at top level or not, inside a for or not, inside a def or not
abbrev pub standing : Bool → Bool → Bool → Standing
standing on_top within_for within_def =
    record { top_level = on_top; inside_for = within_for; inside_def = within_def }

-- a module's statement, and the body of a def
abbrev pub at_top : Standing
at_top = standing true false false

abbrev pub in_def : Standing
in_def = standing false false true

-- at the top level, a for or if needs a dialect that permits it
abbrev pub is_banned : Dialect → Standing → Bool
is_banned d s = s.top_level && not d.enable_top_level_stmt

-- an error and nothing below, or the statements below in their place
abbrev pub told_if : Bool → ℕ → Standing → Arm
told_if refused n below = if' refused (λ _. Told n) (λ _. Below below)

-- If and IfElse
abbrev pub is_if : ℕ → Bool
is_if k = eqb k kind_if || eqb k kind_if_else

-- what is to be done at a statement of a kind: the arms of the inner f, with their guards
unfoldable pub arm_of : Dialect → Standing → ℕ → Arm
arm_of d s k =
    if' (eqb k kind_def) (λ _. Def) (λ _.
    if' (eqb k kind_for) (λ _. told_if (is_banned d s) top_level_for (standing false true s.inside_def)) (λ _.
    if' (is_if k) (λ _. told_if (is_banned d s) top_level_if (standing false s.inside_for s.inside_def)) (λ _.
    if' (eqb k kind_break && not s.inside_for) (λ _. Told break_misplaced) (λ _.
    if' (eqb k kind_continue && not s.inside_for) (λ _. Told continue_misplaced) (λ _.
    if' (eqb k kind_return && not s.inside_def) (λ _. Told return_misplaced) (λ _.
    if' (eqb k kind_load) (λ _. Load) (λ _.
    Below s)))))))

-- a def and its parameters
abbrev pub def_errors : Dialect → List ℕ → Node → Forest → List Finding
def_errors d names r ks = with_params d names d.enable_def def_not_permitted r ks

-- a load: 58, then 59
abbrev pub load_errors : Dialect → Standing → Node → List Finding
load_errors d s r = unless s.top_level load_not_at_top r ++ unless d.enable_load load_not_permitted r

-- the errors of a statement, by its arm; visit gives the errors of the statements below it in a place
abbrev pub on_arm : Dialect → List ℕ → Standing → Node → Forest → (Standing → List Finding) → Arm → List Finding
on_arm d names s r ks visit Def = def_errors d names r ks ++ visit in_def
on_arm d names s r ks visit Load = load_errors d s r
on_arm d names s r ks visit (Told n) = err_at n r ∷ []
on_arm d names s r ks visit (Below p) = visit p

-- a statement, and the statements among nodes side by side, in turn; a node that is no statement has no errors here
unfoldable mutual
  pub f : Dialect → List ℕ → Standing → Tree → List Finding
  f d names s (node r ks) =
      if' (eqb (class_of r.kind) statement)
      (λ _. on_arm d names s r ks (λ p. visit_stmt d names p ks) (arm_of d s r.kind))
      (λ _. [])

  pub visit_stmt : Dialect → List ℕ → Standing → Forest → List Finding
  visit_stmt d names s none = []
  visit_stmt d names s (t then ts) = f d names s t ++ visit_stmt d names s ts

-- the errors of an expression by itself: of `...`, or of a lambda and its parameters
unfoldable pub expr_errors : Dialect → List ℕ → Node → Forest → List Finding
expr_errors d names r ks =
    if' (eqb r.kind kind_ellipsis) (λ _. unless (permits_types d.enable_types) ellipsis_not_permitted r) (λ _.
    if' (eqb r.kind kind_lambda) (λ _. with_params d names d.enable_lambda lambda_not_permitted r ks) (λ _.
    []))

-- all expressions in table order, wherever they are; no other record has errors here
unfoldable mutual
  pub expr : Dialect → List ℕ → Tree → List Finding
  expr d names (node r ks) = expr_errors d names r ks ++ visit_expr d names ks

  pub visit_expr : Dialect → List ℕ → Forest → List Finding
  visit_expr d names none = []
  visit_expr d names (t then ts) = expr d names t ++ visit_expr d names ts

-- a module: its statement at top level, then all expressions
abbrev pub validate_module : Dialect → List ℕ → Forest → List Finding
validate_module d names ts = visit_stmt d names at_top ts ++ visit_expr d names ts
