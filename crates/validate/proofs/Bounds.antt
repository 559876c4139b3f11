-- A module has no more errors than twice its nodes (`module_few`), so that no count overflows and a list of 4,200
-- errors holds all. Each node pays for what is reported at it: two errors for a statement or an expression, one for a
-- parameter that is a mark. The induction is on the forest, over statements and expressions together (`forest_few`),
-- because a parameter pays for its mark whoever owns the list. Below it the same bounds are in bytes, as the code's
-- sums need them (`stmts_few` to `list_few`). Assumes nothing.
use Rattle.std.specs.Prelude.{Err, Ok, Result}
use Rattle.deflist.specs.declared.Fault.{Fault}
use Rattle.deflist.specs.declared.Counts.{Counts}
use mathlib.Core.Path.{◌≡◌, refl}
use mathlib.Core.Bool.{Bool, true, false}
use mathlib.Core.List.{List, [], ◌∷◌}
use Prim.Native.Nat.{ℕ, zero, suc, ◌+◌, ◌-◌, ◌*◌, ◌/◌, ◌≤◌}
use native.Mathlib.Omega.{arith}
use lib.Dec.{eqb}
use lib.ListN.{length, length-append}
use borrow.Author.Tests.{eqb-true, ne_eqb}
use Rattle.fields.specs.Choice.{if'}
use Rattle.dialect.specs.declared.Dialect.{Dialect}
use Rattle.dialect.specs.Rows.{permits_types}
use Rattle.forest.specs.Forest.{Node, kids_of, Tree, node, Forest, none, ◌then◌, forest, tree_of, count}
use Rattle.forest.specs.Forest.{count_tree}
use Rattle.forest.proofs.Stretch.{count_forest, length_kids}
use Rattle.soundness.specs.KindNumbers.{kind_ellipsis, kind_lambda}
use Rattle.soundness.specs.Kinds.{statement, expression, parameter, kind_in as row_in, kind_of, class_of}
use Rattle.deflist.specs.Written.{Param, node_in, kind_in, param_of, params_in}
use Rattle.deflist.specs.Limited.{limited}
use Rattle.deflist.specs.Told.{told}
use Rattle.errors.proofs.Storing.{unless_few}
use Rattle.deflist.specs.declared.Kind.{Kind}
use Rattle.deflist.specs.declared.Kind.TheVariants.{Normal, NoArgs, Slash, Args, KwArgs}
use Rattle.deflist.proofs.Theorems.{list_short}
use Rattle.errors.specs.declared.Finding.{Finding}
use Rattle.errors.specs.Errors.{err_at}
use Rattle.validate.specs.Params.{mark_error, every_mark, marks, permits, unpack_error, validate_params}
use Rattle.validate.specs.Params.{with_params}
use Rattle.validate.specs.Module.{at_top, in_def, arm_of, def_errors, on_arm, f, visit_stmt, expr_errors, expr}
use Rattle.validate.specs.Module.{visit_expr}
use Rattle.validate.specs.Module.{validate_module}
use Rattle.validate.specs.declared.Mark.{Mark}
use Rattle.validate.specs.declared.Mark.TheVariants.{Star, Slash as SlashMark}
use Rattle.validate.specs.declared.Standing.{Standing}
use Rattle.validate.specs.declared.Arm.{Arm}
use Rattle.validate.specs.declared.Arm.TheVariants.{Def, Load, Told, Below}

-- a choice between nothing and some
marks_few : (d : Dialect) (m : Mark) (ps : List Param) → length (marks d m ps) ≤ length (every_mark m ps)
marks_few d m ps = go (permits d m)
  where
    go : (b : Bool) → length (if' {A = List Finding} b (λ _. []) (λ _. every_mark m ps)) ≤ length (every_mark m ps)
    go true = omega arith
    go false = omega arith

-- a parameter is one mark at most
mark_few : (r : Node) (k : Kind) → length (mark_error Star r k) + length (mark_error SlashMark r k) ≤ 1
mark_few r (Normal d) = omega arith
mark_few r NoArgs = omega arith
mark_few r Slash = omega arith
mark_few r Args = omega arith
mark_few r KwArgs = omega arith

every_few : (ps : List Param) → length (every_mark Star ps) + length (every_mark SlashMark ps) ≤ length ps
unfolding every_mark
every_few [] = omega arith
every_few (p ∷ ps) = simp length-append (omega (arith, mark_few (node_in p) (kind_in p), every_few ps))

pub sort_few : (m : Mark) (ps : List Param) → length (every_mark m ps) ≤ length ps
sort_few Star ps = omega (arith, every_few ps)
sort_few SlashMark ps = omega (arith, every_few ps)

pub error_few : (j : Result Counts Fault) → length (unpack_error j) ≤ 1
error_few (Ok c) = omega arith
error_few (Err f) = omega arith

-- a parameter list: no more than its parameters, and one
pub params_few : (d : Dialect) (owner : Node) (ps : List Param)
    → length (validate_params d owner ps) ≤ length ps + 1
unfolding validate_params
params_few d owner ps = simp length-append (omega (
  arith,
  marks_few d Star ps,
  marks_few d SlashMark ps,
  every_few ps,
  error_few (told (limited owner ps)),
))

pub with_few : (d : Dialect) (names : List ℕ) (b : Bool) (n : ℕ) (r : Node) (ks : Forest)
    → length (with_params d names b n r ks) ≤ length (params_in names ks) + 2
unfolding with_params
with_few d names b n r ks =
    simp length-append (omega (arith, unless_few b (err_at n r), params_few d r (params_in names ks)))

-- a statement by itself: two, and its parameters, and what is below it
arm_few : (d : Dialect) (names : List ℕ) (s : Standing) (r : Node) (ks : Forest) (visit : Standing → List Finding)
    (n : ℕ)
    → ((p : Standing) → length (params_in names ks) + length (visit p) ≤ n) → (a : Arm)
    → length (on_arm d names s r ks visit a) ≤ 2 + n
arm_few d names s r ks visit n h Def = omega (
  arith,
  length-append (def_errors d names r ks) (visit in_def),
  with_few d names d.enable_def 52 r ks,
  h in_def,
)
arm_few d names s r ks visit n h Load = simp length-append (omega (
  arith,
  unless_few s.top_level (err_at 58 r),
  unless_few d.enable_load (err_at 59 r),
))
arm_few d names s r ks visit n h (Told m) = omega arith
arm_few d names s r ks visit n h (Below p) = omega (arith, h p)

-- an expression by itself: two, and its parameters; a record of another class has no errors
abbrev own_most : ℕ → ℕ → ℕ
own_most k n = if' (eqb (class_of k) expression) (λ _. n) (λ _. 0)

kind_few : (k j n : ℕ) (x y : Unit {0} → List Finding) → class_of j ≡ expression → length (x tt) ≤ n
    → length (y tt) ≤ own_most k n → length (if' (eqb k j) x y) ≤ own_most k n
kind_few k j n x y j-is p q = go (eqb k j) refl
  where
    go : (b : Bool) → eqb k j ≡ b → length (if' b x y) ≤ own_most k n
    go true e = rw (eqb-true k j e, j-is) p
    go false e = q

own_few : (d : Dialect) (names : List ℕ) (r : Node) (ks : Forest)
    → length (expr_errors d names r ks) ≤ own_most r.kind (2 + length (params_in names ks))
unfolding expr_errors kind_of row_in
own_few d names r ks =
    kind_few r.kind kind_ellipsis _ _ _ refl
    (omega (arith, unless_few (permits_types d.enable_types) (err_at 60 r)))
    (kind_few r.kind kind_lambda _ _ _ refl (omega (arith, with_few d names d.enable_lambda 61 r ks))
    (omega arith))

-- a class beyond the four
other : (c n : ℕ) → n ≤ 3 → eqb (suc (suc (suc (suc c)))) n ≡ false
other c n h = ne_eqb (suc (suc (suc (suc c)))) n (λ e. absurd (omega arith))

-- whether a tree is a parameter
abbrev lead : Tree → ℕ
lead (node r ks) = if' (eqb (class_of r.kind) parameter) (λ _. 1) (λ _. 0)

lead_few : (names : List ℕ) (t : Tree) (ts : Forest)
    → length (params_in names (t then ts)) ≤ lead t + length (params_in names ts)
unfolding params_in
lead_few names (node r ks) ts = go (eqb (class_of r.kind) parameter)
  where
    go : (b : Bool) → length (if' b (λ _. param_of names r ∷ params_in names ts) (λ _. [])) ≤ if' b (λ _. 1) (λ _. 0)
        + length (params_in names ts)
    go true = omega arith
    go false = omega arith

nothing : (names : List ℕ) → length (params_in names none) + 0 + 0 ≤ 0
unfolding params_in
nothing names = omega arith

module _ (d : Dialect) (names : List ℕ) where
  -- a tree has at most twice as many errors as nodes, if that holds of its children: by its class
  tree_step : (r : Node) (ks : Forest)
      → ((s : Standing) → length (params_in names ks) + length (visit_stmt d names s ks)
      + length (visit_expr d names ks) ≤ 2 * count ks) → (s : Standing)
      → lead (node r ks) + length (f d names s (node r ks)) + length (expr d names (node r ks)) ≤ 2 * (1 + count ks)
  unfolding f expr
  tree_step r ks h s = simp length-append (go (class_of r.kind) (own_few d names r ks))
    where
      arm : List Finding
      arm = on_arm d names s r ks (λ p. visit_stmt d names p ks) (arm_of d s r.kind)

      own : length arm ≤ 2 + (2 * count ks - length (visit_expr d names ks))
      own = arm_few d names s r ks (λ p. visit_stmt d names p ks) _ (λ p. omega (arith, h p)) (arm_of d s r.kind)

      go : (c : ℕ) → length (expr_errors d names r ks)
          ≤ if' (eqb c expression) (λ _. 2 + length (params_in names ks)) (λ _. 0)
          → if' (eqb c parameter) (λ _. 1) (λ _. 0) + length (if' (eqb c statement) (λ _. arm) (λ _. []))
          + (length (expr_errors d names r ks) + length (visit_expr d names ks)) ≤ 2 * (1 + count ks)
      go zero e = omega (arith, h s)
      go (suc zero) e = omega (arith, own, h s)
      go (suc (suc zero)) e = omega (arith, h s)
      go (suc (suc (suc zero))) e = omega (arith, h s)
      go (suc (suc (suc (suc c)))) e =
          rw (other c 3 (omega arith), other c 1 (omega arith))
          (omega (arith, rw (other c 2 (omega arith)) at e, h s))

  -- the induction over statements and expressions together: a parameter's own node pays for its mark
  mutual
    unfolding f expr count

    pub tree_few : (t : Tree) (s : Standing)
        → lead t + length (f d names s t) + length (expr d names t) ≤ 2 * count_tree t
    tree_few (node r ks) s = tree_step r ks (λ p. forest_few ks p) s

    pub forest_few : (ts : Forest) (s : Standing)
        → length (params_in names ts) + length (visit_stmt d names s ts) + length (visit_expr d names ts) ≤ 2
        * count ts
    forest_few none s = nothing names
    forest_few (t then ts) s =
        simp length-append (omega (arith, lead_few names t ts, tree_few t s, forest_few ts s))

  -- THEOREM: a module has no more errors than twice its nodes
  pub module_few : (ts : Forest) → length (validate_module d names ts) ≤ 2 * count ts
  module_few ts = simp length-append (omega (arith, forest_few ts (at_top)))

  -- the same for what code walks: a stretch, its first tree, and the parameters of its first node
  module _ (i : ℕ) (t : List ℕ) where
    pub stmts_few : (s : Standing) → 12 * length (visit_stmt d names s (forest i t)) ≤ length t
    stmts_few s = omega (arith, forest_few (forest i t) s, count_forest i t)

    pub exprs_few : 12 * length (visit_expr d names (forest i t)) ≤ length t
    exprs_few = omega (arith, forest_few (forest i t) in_def, count_forest i t)

    pub first_few : (s : Standing)
        → 12 * (length (f d names s (tree_of i t)) + length (expr d names (tree_of i t))) ≤ 24 + length t
    unfolding count
    first_few s = omega (arith, tree_few (tree_of i t) s, count_forest (i + 1) (kids_of t), length_kids t)

    pub list_few : length (params_in names (forest (i + 1) (kids_of t))) ≤ length t / 24
    list_few = omega (arith, list_short names (i + 1) (kids_of t), length_kids t)
