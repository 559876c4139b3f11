-- A script in several tables: the errors of the whole are, up to order, those of its parts, each in its own table, for
-- the module pass and for the audit. A root Statements has no error of its own, so a list is that of the statements
-- under it; the list of neighbouring statements is joined from theirs, up to order; and statements whose records say
-- the same give errors of which the same words are read. `Splits` has these three properties, and one induction on the
-- parts (`split`) serves both lists. Cite `module_in_parts` and `audit_in_parts`. Assumes nothing.
use mathlib.Core.Path.{◌≡◌, refl, sym, ap, ◌∙◌}
use mathlib.Core.Bool.{Bool}
use mathlib.Core.List.{List, [], ◌∷◌, ◌++◌, append-nil, append_assoc}
use Prim.Native.Nat.{ℕ, ◌+◌}
use native.Mathlib.Omega.{arith}
use lib.ListN.{take}
use Rattle.fields.specs.Choice.{if'}
use Rattle.dialect.specs.declared.Dialect.{Dialect}
use Rattle.dialect.specs.declared.Edition.{Edition}
use Rattle.forest.specs.Forest.{Node, node, Forest, none, ◌then◌, forest}
use Rattle.soundness.specs.KindNumbers.{kind_statements}
use Rattle.soundness.specs.Kinds.{kind_in, kind_of}
use Rattle.errors.specs.declared.Finding.{Finding}
use Rattle.errors.specs.declared.Listing.TheVariants.{Own}
use Rattle.errors.specs.Errors.{without_lists}
use Rattle.errors.proofs.Storing.{kept_append}
use Rattle.validate.specs.Module.{at_top, arm_of, f, visit_stmt, expr_errors, expr, visit_expr, validate_module}
use Rattle.validate.specs.Job.{pass_errors}
use Rattle.validate.specs.declared.Standing.{Standing}
use Rattle.table.specs.Check.{most_bytes, wants}
use Rattle.table.specs.declared.Wanted.TheVariants.{Parameters, Call, Assignment}
use Rattle.audit.specs.declared.Role.TheVariants.{Plain}
use Rattle.audit.specs.declared.Roles.{Roles}
use Rattle.audit.specs.declared.Roles.TheVariants.{Nowhere}
use Rattle.audit.specs.Roles.{roles_of, Placed, placed_as, placed_tree, placed}
use Rattle.audit.specs.Refusals.{kind_errors, role_errors, refused_there, refusals}
use Rattle.audit.specs.Job.{refusals_in, audit_errors}
use Rattle.audit.proofs.Bounds.{refusals_append}
use Rattle.parts.specs.Parts.{◌beside◌, SameTrees, Part, joined, Kept, under, audit_module, read, read_in_turn}
use Rattle.parts.specs.Parts.{how_many, SameUpToOrder}
use Rattle.parts.proofs.Read.{Reads, reads_both}
use Rattle.parts.proofs.Walk.{statements_same, expressions_same}
use Rattle.parts.proofs.Audits.{refusals_same, own_same}
use Rattle.parts.proofs.Order.{many_append, tally, tally_append}

-- no job fits a Statements
no_job : (k : ℕ) → k ≡ kind_statements → (x y z : Unit {0} → List Finding)
    → if' (wants Parameters k) x (λ _. if' (wants Call k) y (λ _. if' (wants Assignment k) z (λ _. []))) ≡ []
unfolding wants
no_job k is x y z = rw is refl

-- neighbouring statements: the statements, expressions and records of each, in turn
module _ (d : Dialect) (names : List ℕ) where
  stmts_beside : (p : Standing) (ts us : Forest)
      → visit_stmt d names p (ts beside us) ≡ visit_stmt d names p ts ++ visit_stmt d names p us
  unfolding ◌beside◌ visit_stmt
  stmts_beside p none us = refl
  stmts_beside p (t then ts) us =
      rw (stmts_beside p ts us)
      (sym (append_assoc (f d names p t) (visit_stmt d names p ts) (visit_stmt d names p us)))

  exprs_beside : (ts us : Forest)
      → visit_expr d names (ts beside us) ≡ visit_expr d names ts ++ visit_expr d names us
  unfolding ◌beside◌ visit_expr
  exprs_beside none us = refl
  exprs_beside (t then ts) us =
      rw (exprs_beside ts us)
      (sym (append_assoc (expr d names t) (visit_expr d names ts) (visit_expr d names us)))

  placed_beside : (ts us : Forest) → placed Nowhere (ts beside us) ≡ placed Nowhere ts ++ placed Nowhere us
  unfolding ◌beside◌ placed
  placed_beside none us = refl
  placed_beside (t then ts) us =
      rw (placed_beside ts us)
      (sym (append_assoc (placed_tree Plain t) (placed Nowhere ts) (placed Nowhere us)))

  refusals_beside : (edition : Edition) (ts us : Forest)
      → refusals_in d edition names (ts beside us) ≡ refusals_in d edition names ts ++ refusals_in d edition names us
  refusals_beside edition ts us =
      rw (placed_beside ts us) (refusals_append d edition names (placed Nowhere ts) (placed Nowhere us))

  -- a root Statements: the module pass and the audit report nothing at it
  module _ (r : Node) (ts : Forest) (is : r.kind ≡ kind_statements) where
    stmts_under : visit_stmt d names at_top (under r ts) ≡ visit_stmt d names at_top ts
    unfolding f arm_of kind_in kind_of
    stmts_under = rw (is, append-nil) refl

    exprs_under : visit_expr d names (under r ts) ≡ visit_expr d names ts
    unfolding expr expr_errors
    exprs_under = rw (is, append-nil) refl

    placed_under : placed Nowhere (under r ts) ≡ placed_as Plain (node r ts) ∷ placed Nowhere ts
    unfolding placed_tree roles_of
    placed_under = ap (λ (ps : List Placed). placed_as Plain (node r ts) ∷ ps)
        (append-nil (placed (roles_of r.kind r.detail) ts)
        ∙ ap (λ (q : Roles). placed q ts) (no_roles r.kind r.detail is))
      where
        no_roles : (k x : ℕ) → k ≡ kind_statements → roles_of k x ≡ Nowhere
        no_roles k x e = rw e refl

    root_quiet : kind_errors names (node r ts) ≡ []
    unfolding kind_errors
    root_quiet = no_job r.kind is _ _ _

    refusals_under : (edition : Edition) → refusals_in d edition names (under r ts) ≡ refusals_in d edition names ts
    unfolding refusals refused_there role_errors
    refusals_under edition = rw (placed_under, root_quiet) refl

-- a list of errors with three properties: a root adds nothing; for neighbouring statements it is joined, up to order;
-- and statements that say the same give the same words
record Splits (errors : List ℕ → Forest → List Finding) : Type 1 where
  body : List ℕ → Forest → List Finding
  none_body : (names : List ℕ) → body names none ≡ []
  root_body : (names : List ℕ) (r : Node) (ts : Forest) → r.kind ≡ kind_statements
      → errors names (under r ts) ≡ body names ts
  beside_body : (test : List ℕ → Bool) (names : List ℕ) (ts us : Forest)
      → tally test (body names (ts beside us)) ≡ tally test (body names ts) + tally test (body names us)
  same_body : (names others : List ℕ) (ts us : Forest) → SameTrees names others ts us
      → Reads (body names ts) (body others us)

module _ {errors : List ℕ → Forest → List Finding} (s : Splits errors) (names : List ℕ) (test : List ℕ → Bool) where
  split_body : (ps : List Part) → Kept names ps
      → tally test (s.body names (joined ps)) ≡ how_many test (read_in_turn errors ps)
  unfolding joined Kept read_in_turn how_many read
  split_body [] kept-all = rw (s.none_body names) refl
  split_body (p ∷ ps) (is, (same, rest)) =
      let own : List Finding = errors p.names (under p.root p.trees) in
      let whole : tally test (s.body names (p.cut beside joined ps))
      ≡ tally test (s.body names p.cut) + tally test (s.body names (joined ps))
      = s.beside_body test names p.cut (joined ps) in
      let part : tally test (s.body names p.cut) ≡ tally test own
      = ap (how_many test) (s.same_body names p.names p.cut p.trees same)
      ∙ ap (tally test) (sym (s.root_body p.names p.root p.trees is)) in
      let others : tally test (s.body names (joined ps)) ≡ how_many test (read_in_turn errors ps)
      = split_body ps rest in
      let both : how_many test (read own ++ read_in_turn errors ps)
      ≡ tally test own + how_many test (read_in_turn errors ps)
      = many_append test (read own) (read_in_turn errors ps) in
      whole ∙ rw (part, others) (sym both)

-- four lists, joined in either order
four : (test : List ℕ → Bool) (a b x y : List Finding)
    → tally test ((a ++ b) ++ (x ++ y)) ≡ tally test (a ++ x) + tally test (b ++ y)
four test a b x y =
    let joins : (es fs : List Finding) → tally test (es ++ fs) ≡ tally test es + tally test fs = tally_append test in
    omega (arith, joins (a ++ b) (x ++ y), joins a b, joins x y, joins a x, joins b y)

-- the same for four lists without the errors of parameter lists, followed by two more
six : (test : List ℕ → Bool) (a b x y m n : List Finding)
    → tally test (without_lists ((a ++ b) ++ (x ++ y)) ++ (m ++ n))
    ≡ tally test (without_lists (a ++ x) ++ m) + tally test (without_lists (b ++ y) ++ n)
six test a b x y m n =
    let w : List Finding → List Finding = without_lists in
    let joins : (es fs : List Finding) → tally test (es ++ fs) ≡ tally test es + tally test fs = tally_append test in
    let owns : (es fs : List Finding) → tally test (w (es ++ fs)) ≡ tally test (w es) + tally test (w fs)
    = λ es fs. rw (kept_append Own es fs) (joins (w es) (w fs)) in
    omega (
      arith,
      joins (w ((a ++ b) ++ (x ++ y))) (m ++ n),
      joins m n,
      joins (w (a ++ x)) m,
      joins (w (b ++ y)) n,
      owns (a ++ b) (x ++ y),
      owns a b,
      owns x y,
      owns a x,
      owns b y,
    )

module _ (d : Dialect) where
  -- the module pass
  abbrev module_body : List ℕ → Forest → List Finding
  module_body names ts = visit_stmt d names at_top ts ++ visit_expr d names ts

  module_beside : (test : List ℕ → Bool) (names : List ℕ) (ts us : Forest)
      → tally test (module_body names (ts beside us))
      ≡ tally test (module_body names ts) + tally test (module_body names us)
  module_beside test names ts us =
      rw (stmts_beside d names at_top ts us, exprs_beside d names ts us)
      (four test (visit_stmt d names at_top ts) (visit_stmt d names at_top us) (visit_expr d names ts)
      (visit_expr d names us))

  module_same : (names others : List ℕ) (ts us : Forest) → SameTrees names others ts us
      → Reads (module_body names ts) (module_body others us)
  module_same names others ts us h =
      reads_both _ _ _ _ (statements_same d names others at_top ts us h) (expressions_same d names others ts us h)

  module_splits : Splits (validate_module d)
  unfolding visit_stmt visit_expr
  module_splits = record {
    body = module_body;
    none_body = λ names. refl;
    root_body = λ names r ts is. rw (stmts_under d names r ts is, exprs_under d names r ts is) refl;
    beside_body = module_beside;
    same_body = module_same;
  }

  -- THEOREM: the module pass's errors of a root Statements are, up to order, those of its parts in their own tables
  pub module_in_parts : (names : List ℕ) (r : Node) (ps : List Part) → r.kind ≡ kind_statements → Kept names ps
      → SameUpToOrder (read (validate_module d names (under r (joined ps)))) (read_in_turn (validate_module d) ps)
  module_in_parts names r ps is kept-all test =
      ap (tally test) (module_splits.root_body names r (joined ps) is)
      ∙ split_body module_splits names test ps kept-all

module _ (d : Dialect) (edition : Edition) where
  -- the audit
  abbrev audit_body : List ℕ → Forest → List Finding
  audit_body names ts = without_lists (module_body d names ts) ++ refusals_in d edition names ts

  audit_beside : (test : List ℕ → Bool) (names : List ℕ) (ts us : Forest)
      → tally test (audit_body names (ts beside us))
      ≡ tally test (audit_body names ts) + tally test (audit_body names us)
  audit_beside test names ts us =
      rw (stmts_beside d names at_top ts us, exprs_beside d names ts us, refusals_beside d names edition ts us)
      (six test (visit_stmt d names at_top ts) (visit_stmt d names at_top us) (visit_expr d names ts)
      (visit_expr d names us) (refusals_in d edition names ts) (refusals_in d edition names us))

  audit_splits : Splits (audit_module d edition)
  unfolding audit_module without_lists visit_stmt visit_expr placed refusals
  audit_splits = record {
    body = audit_body;
    none_body = λ names. refl;
    root_body = λ names r ts is.
        rw (stmts_under d names r ts is, exprs_under d names r ts is, refusals_under d names r ts is edition) refl;
    beside_body = audit_beside;
    same_body = λ names others ts us h. reads_both _ _ _ _
        (own_same _ _ (module_same d names others ts us h)) (refusals_same d edition names others Nowhere ts us h);
  }

  -- THEOREM: the same for the audit
  pub audit_in_parts : (names : List ℕ) (r : Node) (ps : List Part) → r.kind ≡ kind_statements → Kept names ps
      → SameUpToOrder (read (audit_module d edition names (under r (joined ps))))
      (read_in_turn (audit_module d edition) ps)
  audit_in_parts names r ps is kept-all test =
      ap (tally test) (audit_splits.root_body names r (joined ps) is) ∙ split_body audit_splits names test ps kept-all

-- LAW: the audit's list of any bytes is this list of their trees
pub audit_of_bytes : (d : Dialect) (edition : Edition) (names t : List ℕ)
    → audit_errors d edition names t ≡ audit_module d edition names (forest 0 (take most_bytes t))
unfolding audit_errors pass_errors audit_module
audit_of_bytes d edition names t = refl
