-- The module pass over two forests whose records say the same: the same words of the errors are read, in the same
-- order. The arm of a statement depends on its kind and its place, and both are the same; its parameter list is made
-- from pairs (Lists). The induction is on both forests at once, over statements and over expressions (`tree_same`).
-- Cite `statements_same` and `expressions_same`. Assumes nothing.
use mathlib.Core.Path.{◌≡◌, refl, ap}
use mathlib.Core.Bool.{Bool}
use mathlib.Core.List.{List}
use Prim.Native.Nat.{ℕ}
use lib.Dec.{eqb}
use Rattle.dialect.specs.declared.Dialect.{Dialect}
use Rattle.dialect.specs.Rows.{permits_types}
use Rattle.forest.specs.Forest.{Node, Tree, node, Forest, none, ◌then◌}
use Rattle.soundness.specs.KindNumbers.{kind_ellipsis, kind_lambda}
use Rattle.soundness.specs.Kinds.{statement, class_of}
use Rattle.table.specs.Numbers.{def_not_permitted, load_not_at_top, load_not_permitted, ellipsis_not_permitted}
use Rattle.table.specs.Numbers.{lambda_not_permitted}
use Rattle.errors.specs.declared.Finding.{Finding}
use Rattle.validate.specs.Params.{validate_params, with_params}
use Rattle.validate.specs.Module.{in_def, arm_of, on_arm, f, visit_stmt, expr_errors, expr, visit_expr}
use Rattle.validate.specs.declared.Mark.TheVariants.{Star, Slash}
use Rattle.validate.specs.declared.Standing.{Standing}
use Rattle.validate.specs.declared.Arm.{Arm}
use Rattle.validate.specs.declared.Arm.TheVariants.{Def, Load, Told, Below}
use Rattle.parts.specs.Parts.{SameRecord, SameTree, SameTrees}
use Rattle.parts.proofs.Read.{Reads, reads_both, reads_if, reads_at, reads_unless}
use Rattle.parts.proofs.Lists.{params_paired, list_same, marks_same}

module _ (d : Dialect) (names others : List ℕ) where
  -- a parameter list, and the own errors of an expression
  with_same : (b : Bool) (n : ℕ) (r s : Node) (ks ls : Forest) → SameRecord names others r s
      → SameTrees names others ks ls → Reads (with_params d names b n r ks) (with_params d others b n s ls)
  unfolding with_params validate_params
  with_same b n r s ks ls h below =
      let both = params_paired names others ks ls below in
      reads_both _ _ _ _ (reads_unless h b n)
      (reads_both _ _ _ _ (reads_both _ _ _ _ (marks_same d Star both) (marks_same d Slash both)) (list_same h both))

  expr_same : (r s : Node) (ks ls : Forest) → SameRecord names others r s → SameTrees names others ks ls
      → Reads (expr_errors d names r ks) (expr_errors d others s ls)
  unfolding expr_errors
  expr_same r s ks ls h below =
      reads_if _ _ (ap (λ (k : ℕ). eqb k kind_ellipsis) h.kind) _ _ _ _
      (reads_unless h (permits_types d.enable_types) ellipsis_not_permitted)
      (reads_if _ _ (ap (λ (k : ℕ). eqb k kind_lambda) h.kind) _ _ _ _
      (with_same d.enable_lambda lambda_not_permitted r s ks ls h below) refl)

  -- a statement by its arm
  module _ (p : Standing) {r s : Node} (ks ls : Forest) (h : SameRecord names others r s)
      (below : SameTrees names others ks ls) (visit other : Standing → List Finding)
      (inside : (q : Standing) → Reads (visit q) (other q)) where
    arm_same : (a : Arm) → Reads (on_arm d names p r ks visit a) (on_arm d others p s ls other a)
    arm_same Def =
        reads_both _ _ _ _ (with_same d.enable_def def_not_permitted r s ks ls h below) (inside in_def)
    arm_same Load =
        reads_both _ _ _ _ (reads_unless h p.top_level load_not_at_top)
        (reads_unless h d.enable_load load_not_permitted)
    arm_same (Told n) = reads_at h n
    arm_same (Below q) = inside q

    arms_same : (a b : Arm) → a ≡ b → Reads (on_arm d names p r ks visit a) (on_arm d others p s ls other b)
    arms_same a b e = rw e (arm_same b)

  -- statements and expressions, by induction on the trees
  mutual
    unfolding f expr SameTree

    stmt_same : (t u : Tree) (p : Standing) → SameTree names others t u → Reads (f d names p t) (f d others p u)
    stmt_same (node r ks) (node s ls) p (h, below) =
        reads_if _ _ (ap (λ (k : ℕ). eqb (class_of k) statement) h.kind) _ _ _ _
        (arms_same p ks ls h below _ _ (λ q. stmts_same ks ls q below) _ _ (ap (arm_of d p) h.kind)) refl

    stmts_same : (ts us : Forest) (p : Standing) → SameTrees names others ts us
        → Reads (visit_stmt d names p ts) (visit_stmt d others p us)
    stmts_same none none p h = refl
    stmts_same none (u then us) p h = absurd h
    stmts_same (t then ts) none p h = absurd h
    stmts_same (t then ts) (u then us) p (here, rest) =
        reads_both _ _ _ _ (stmt_same t u p here) (stmts_same ts us p rest)

    tree_same : (t u : Tree) → SameTree names others t u → Reads (expr d names t) (expr d others u)
    tree_same (node r ks) (node s ls) (h, below) =
        reads_both _ _ _ _ (expr_same r s ks ls h below) (exprs_same ks ls below)

    exprs_same : (ts us : Forest) → SameTrees names others ts us
        → Reads (visit_expr d names ts) (visit_expr d others us)
    exprs_same none none h = refl
    exprs_same none (u then us) h = absurd h
    exprs_same (t then ts) none h = absurd h
    exprs_same (t then ts) (u then us) (here, rest) =
        reads_both _ _ _ _ (tree_same t u here) (exprs_same ts us rest)

  -- LAW: the errors of the statements in a place, and of the expressions
  pub statements_same : (p : Standing) (ts us : Forest) → SameTrees names others ts us
      → Reads (visit_stmt d names p ts) (visit_stmt d others p us)
  statements_same p ts us h = stmts_same ts us p h

  pub expressions_same : (ts us : Forest) → SameTrees names others ts us
      → Reads (visit_expr d names ts) (visit_expr d others us)
  expressions_same ts us h = exprs_same ts us h
