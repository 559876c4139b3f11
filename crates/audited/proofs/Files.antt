-- Every error of the module pass's list and of the audit's list has the source file number of the record that it names.
-- An error is reported at a node of the forest, or is a job's refusal at one (the laws `Told` of the jobs' crates); and
-- every node of the forest of a table, whatever its bytes, is the record of its index (forest's `nodes_records`). The
-- inductions are on the trees, along the definitions of the two lists. Cite `module_filed` and `audit_filed`. Assumes
-- nothing.
use mathlib.Core.Path.{◌≡◌, refl, sym, ap, ◌∙◌}
use mathlib.Core.Bool.{Bool, true, false, not}
use mathlib.Core.List.{List, [], ◌∷◌, ◌++◌}
use Prim.Native.Nat.{ℕ, zero, suc, ◌+◌, ◌*◌, ◌/◌}
use native.Mathlib.Omega.{arith}
use lib.ListN.{length, take, drop}
use lib.Seq.{drop-drop, take_all}
use lib.Dec.{eqb}
use Rattle.fields.specs.Choice.{if'}
use Rattle.dialect.specs.declared.Dialect.{Dialect}
use Rattle.dialect.specs.declared.Edition.{Edition}
use Rattle.dialect.specs.Editions.{edition_of}
use Rattle.dialect.specs.Rows.{permits_types}
use Rattle.forest.specs.Forest.{Node, Tree, node, Forest, none, ◌then◌, forest, nodes, nodes_of}
use Rattle.forest.proofs.Stretch.{records, nodes_records}
use Rattle.soundness.specs.KindNumbers.{kind_ellipsis, kind_lambda}
use Rattle.soundness.specs.Kinds.{statement, class_of}
use Rattle.table.specs.Numbers.{def_not_permitted, lambda_not_permitted, ellipsis_not_permitted, load_not_at_top}
use Rattle.table.specs.Numbers.{load_not_permitted}
use Rattle.table.specs.Answer.{Answer, accepted, refused}
use Rattle.table.specs.Carrying.{file_at}
use Rattle.table.specs.Check.{most_bytes, wants, Handing, in_dialect, turned_away, given_of}
use Rattle.table.specs.Check.{Ruling, by_rules, unruled, rules_of}
use Rattle.table.specs.declared.Wanted.TheVariants.{Parameters, Call, Assignment}
use Rattle.table.proofs.Entering.{given_known}
use Rattle.table.proofs.Ruling.{rules_known}
use Rattle.table.proofs.Filed.{All, Told, all_tree, all_row}
use Rattle.deflist.specs.Written.{Param, node_in, kind_in as kind_of_param, params_in, root_in, written_in}
use Rattle.deflist.specs.Unpack as def
use Rattle.deflist.specs.Limited.{limited}
use Rattle.deflist.specs.Told.{told}
use Rattle.parameters.proofs.Files.{AllOf, OutcomeAt, limited_at, written_all}
use Rattle.arguments.specs.Written.{arguments_of}
use Rattle.arguments.specs.Job.{call_answer}
use Rattle.arguments.proofs.Files as call
use Rattle.targets.specs.Targets.{counted, check_assignment}
use Rattle.targets.proofs.Files.{told_counted, told_assignment}
use Rattle.types.specs.Types.{dialect_check_type}
use Rattle.types.proofs.Files.{told_type}
use Rattle.errors.specs.declared.Finding.{Finding}
use Rattle.errors.specs.Errors.{unless, is_list_error, without_lists}
use Rattle.validate.specs.declared.Arm.{Arm}
use Rattle.validate.specs.declared.Arm.TheVariants.{Def, Load, Told as ToldArm, Below}
use Rattle.validate.specs.declared.Mark.{Mark}
use Rattle.validate.specs.declared.Mark.TheVariants.{Star, Slash as SlashMark}
use Rattle.validate.specs.declared.Standing.{Standing}
use Rattle.validate.specs.Params.{is_mark, permits, not_permitted, mark_error, every_mark, marks, unpack_error}
use Rattle.validate.specs.Params.{validate_params, with_params}
use Rattle.validate.specs.Module.{in_def, at_top, arm_of, def_errors, on_arm, f, visit_stmt, expr_errors, expr}
use Rattle.validate.specs.Module.{visit_expr, validate_module}
use Rattle.validate.specs.Job.{pass_errors, errors_in, errors_of}
use Rattle.audit.specs.declared.Role.{Role}
use Rattle.audit.specs.declared.Role.TheVariants.{AsTarget, AsType, Plain}
use Rattle.audit.specs.declared.Roles.{Roles}
use Rattle.audit.specs.declared.Roles.TheVariants.{Nowhere}
use Rattle.audit.specs.Roles.{Placed, kind_in, role_of, roles_of, roles_after, placed_tree, placed}
use Rattle.audit.specs.Refusals.{answer_errors, kind_errors, role_errors, refused_there, refusals}
use Rattle.audit.specs.Job.{audit_errors, audit_in, all_errors}
use Rattle.audited.specs.Checked.{Each}
use Rattle.audited.specs.Files.{FileThere}

module _ (t : List ℕ) where
  -- a node with the source file number of its record; errors with that number
  abbrev Here : Node → Type 0
  Here r = r.file ≡ file_at t r.at

  abbrev Errs : List Finding → Type 0
  Errs es = Each (FileThere t) es

  both : (es fs : List Finding) → Errs es → Errs fs → Errs (es ++ fs)
  both [] fs a b = b
  both (e ∷ es) fs a b = (a.0, both es fs a.1 b)

  unless_at : (b : Bool) (n : ℕ) (r : Node) → Here r → Errs (unless b n r)
  unless_at true n r h = tt
  unless_at false n r h = (λ late. h, tt)

  -- the parameters of a def or lambda
  every_mark_lem : (m : Mark) (ps : List Param) → AllOf Here ps → Errs (every_mark m ps)
  unfolding every_mark
  every_mark_lem m [] h = tt
  every_mark_lem m (p ∷ ps) h =
      both (mark_error m (node_in p) (kind_of_param p)) (every_mark m ps)
      (unless_at (not (is_mark m (kind_of_param p))) (not_permitted m) (node_in p) h.0) (every_mark_lem m ps h.1)

  marks_at : (d : Dialect) (m : Mark) (ps : List Param) → AllOf Here ps → Errs (marks d m ps)
  marks_at d m ps h = go (permits d m)
    where
      go : (b : Bool) → Errs (if' b (λ _. []) (λ _. every_mark m ps))
      go true = tt
      go false = every_mark_lem m ps h

  list_one : (o : def.Outcome) → OutcomeAt Here o → Errs (unpack_error (told o))
  list_one (def.accepted c) h = tt
  list_one (def.refused n r) h = (λ late. h, tt)
  list_one (def.repeated i r) h = (λ late. h, tt)
  list_one (def.internal e r) h = (λ late. h, tt)

  params_at : (d : Dialect) (owner : Node) (ps : List Param) → Here owner × AllOf Here ps
      → Errs (validate_params d owner ps)
  unfolding validate_params
  params_at d owner ps h =
      both (marks d Star ps ++ marks d SlashMark ps) (unpack_error (told (limited owner ps)))
      (both (marks d Star ps) (marks d SlashMark ps) (marks_at d Star ps h.1) (marks_at d SlashMark ps h.1))
      (list_one (limited owner ps) (limited_at Here owner ps h.0 h.1))

  with_at : (d : Dialect) (names : List ℕ) (b : Bool) (n : ℕ) (r : Node) (ks : Forest) → All Here (nodes_of (node r ks))
      → Errs (with_params d names b n r ks)
  unfolding with_params
  with_at d names b n r ks h =
      both (unless b n r) (validate_params d r (params_in names ks)) (unless_at b n r (all_tree Here r ks h).0)
      (params_at d r (params_in names ks) (written_all Here names (node r ks) h))

  module _ (d : Dialect) (names : List ℕ) where
    -- the statements
    arm_at : (s : Standing) (r : Node) (ks : Forest) (visit : Standing → List Finding) → All Here (nodes_of (node r ks))
        → ((p : Standing) → Errs (visit p)) → (a : Arm) → Errs (on_arm d names s r ks visit a)
    arm_at s r ks visit h rest Def =
        both (def_errors d names r ks) (visit in_def) (with_at d names d.enable_def def_not_permitted r ks h)
        (rest in_def)
    arm_at s r ks visit h rest Load =
        let here = (all_tree Here r ks h).0 in
        both (unless s.top_level load_not_at_top r) (unless d.enable_load load_not_permitted r)
        (unless_at s.top_level load_not_at_top r here) (unless_at d.enable_load load_not_permitted r here)
    arm_at s r ks visit h rest (ToldArm n) = (λ late. (all_tree Here r ks h).0, tt)
    arm_at s r ks visit h rest (Below p) = rest p

    if_at : (b : Bool) (es : List Finding) → Errs es → Errs (if' b (λ _. es) (λ _. []))
    if_at true es h = h
    if_at false es h = tt

    mutual
      unfolding f

      stmt_at : (s : Standing) (u : Tree) → All Here (nodes_of u) → Errs (f d names s u)
      stmt_at s (node r ks) h =
          let below = (all_tree Here r ks h).1 in
          if_at (eqb (class_of r.kind) statement)
          (on_arm d names s r ks (λ p. visit_stmt d names p ks) (arm_of d s r.kind))
          (arm_at s r ks (λ p. visit_stmt d names p ks) h (λ p. stmts_at p ks below) (arm_of d s r.kind))

      stmts_at : (s : Standing) (us : Forest) → All Here (nodes us) → Errs (visit_stmt d names s us)
      stmts_at s none h = tt
      stmts_at s (u then us) h =
          let row = all_row Here u us h in
          both (f d names s u) (visit_stmt d names s us) (stmt_at s u row.0) (stmts_at s us row.1)

    -- the expressions
    own_at : (r : Node) (ks : Forest) → All Here (nodes_of (node r ks)) → Errs (expr_errors d names r ks)
    unfolding expr_errors
    own_at r ks h = go (eqb r.kind kind_ellipsis) (eqb r.kind kind_lambda)
      where
        go : (a b : Bool) → Errs (if' a (λ _. unless (permits_types d.enable_types) ellipsis_not_permitted r) (λ _.
            if' b (λ _. with_params d names d.enable_lambda lambda_not_permitted r ks) (λ _. [])))
        go true b = unless_at (permits_types d.enable_types) ellipsis_not_permitted r (all_tree Here r ks h).0
        go false true = with_at d names d.enable_lambda lambda_not_permitted r ks h
        go false false = tt

    mutual
      unfolding expr

      expr_at : (u : Tree) → All Here (nodes_of u) → Errs (expr d names u)
      expr_at (node r ks) h =
          both (expr_errors d names r ks) (visit_expr d names ks) (own_at r ks h)
          (exprs_at ks (all_tree Here r ks h).1)

      exprs_at : (us : Forest) → All Here (nodes us) → Errs (visit_expr d names us)
      exprs_at none h = tt
      exprs_at (u then us) h =
          let row = all_row Here u us h in
          both (expr d names u) (visit_expr d names us) (expr_at u row.0) (exprs_at us row.1)

    module_at : (us : Forest) → All Here (nodes us) → Errs (validate_module d names us)
    module_at us h =
        both (visit_stmt d names at_top us) (visit_expr d names us) (stmts_at at_top us h) (exprs_at us h)

    -- the refusals of the jobs
    answer_at : (a : Answer) → Told Here a → Errs (answer_errors a)
    answer_at (accepted vs) h = tt
    answer_at (refused n vs) h =
        (λ late. let it = h late in it.file ∙ it.holds ∙ ap (file_at t) (sym it.named), tt)

    kind_at : (u : Tree) → All Here (nodes_of u) → Errs (kind_errors names u)
    unfolding kind_errors call_answer
    kind_at u h = go (wants Parameters (kind_in u)) (wants Call (kind_in u)) (wants Assignment (kind_in u))
      where
        go : (a b c : Bool) → Errs (if' a (λ _. unpack_error (told (limited (root_in u) (written_in names u)))) (λ _.
            if' b (λ _. answer_errors (call_answer names u)) (λ _.
            if' c (λ _. answer_errors (check_assignment u)) (λ _. []))))
        go true b c =
            let both-there = written_all Here names u h in
            list_one (limited (root_in u) (written_in names u))
            (limited_at Here (root_in u) (written_in names u) both-there.0 both-there.1)
        go false true c = answer_at (call_answer names u)
            (call.told_call Here (arguments_of names u) (call.written_all Here names u h))
        go false false true = answer_at (check_assignment u) (told_assignment Here u h)
        go false false false = tt

    role_at : (edition : Edition) (role : Role) (u : Tree) → All Here (nodes_of u)
        → Errs (role_errors d edition names role u)
    unfolding role_errors
    role_at edition AsTarget u h = answer_at (counted 0 u) (told_counted Here 0 u h)
    role_at edition AsType u h = answer_at (dialect_check_type edition names d.enable_types u)
        (told_type Here edition names d.enable_types u h)
    role_at edition Plain u h = tt

    -- every tree that the audit visits has such nodes
    abbrev Trees : List Placed → Type 0
    Trees ps = Each (λ (p : Placed). All Here (nodes_of p.tree)) ps

    trees_both : (ps qs : List Placed) → Trees ps → Trees qs → Trees (ps ++ qs)
    trees_both [] qs a b = b
    trees_both (p ∷ ps) qs a b = (a.0, trees_both ps qs a.1 b)

    mutual
      unfolding placed

      tree_placed : (role : Role) (u : Tree) → All Here (nodes_of u) → Trees (placed_tree role u)
      tree_placed role (node r ks) h =
          (h, row_placed (roles_of r.kind r.detail) ks (all_tree Here r ks h).1)

      row_placed : (roles : Roles) (us : Forest) → All Here (nodes us) → Trees (placed roles us)
      row_placed roles none h = tt
      row_placed roles (u then us) h =
          let row = all_row Here u us h in
          trees_both (placed_tree (role_of roles (kind_in u)) u) (placed (roles_after roles) us)
          (tree_placed (role_of roles (kind_in u)) u row.0) (row_placed (roles_after roles) us row.1)

    refusals_at : (edition : Edition) (ps : List Placed) → Trees ps → Errs (refusals d edition names ps)
    unfolding refusals refused_there
    refusals_at edition [] h = tt
    refusals_at edition (p ∷ ps) h =
        both (kind_errors names p.tree ++ role_errors d edition names p.role p.tree)
        (refusals d edition names ps)
        (both (kind_errors names p.tree) (role_errors d edition names p.role p.tree) (kind_at p.tree h.0)
        (role_at edition p.role p.tree h.0)) (refusals_at edition ps h.1)

  without_at : (es : List Finding) → Errs es → Errs (without_lists es)
  unfolding without_lists
  without_at [] h = tt
  without_at (e ∷ es) h = go (is_list_error e.number) (without_at es h.1)
    where
      go : (b : Bool) → Errs (without_lists es) → Errs (if' b (λ _. without_lists es) (λ _. e ∷ without_lists es))
      go true rest = rest
      go false rest = (h.0, rest)

  -- LAW: every node of the forest of a table is the record of its index
  records_here : (n i : ℕ) → All Here (records n i (drop (24 * i) t))
  records_here zero i = tt
  records_here (suc n) i =
      let next : 24 * i + 24 ≡ 24 * (i + 1) = omega arith in
      let on : drop 24 (drop (24 * i) t) ≡ drop (24 * (i + 1)) t =
      drop-drop 24 (24 * i) t ∙ ap (λ (k : ℕ). drop k t) next in
      (refl, rw on (records_here n (i + 1)))

  forest_here : All Here (nodes (forest 0 t))
  forest_here = rw (nodes_records 0 t) (records_here (length t / 24) 0)

  -- THEOREM: an error of the module pass or of the audit with a number from 10 on has the source file number of the
  -- record that it names
  pub module_filed : (names bytes : List ℕ) → Errs (errors_of t names bytes)
  unfolding errors_of
  module_filed names bytes = go (given_of t names bytes)
    where
      go : (h : Handing) → Errs (errors_in h names t)
      go (in_dialect d) = module_at d names (forest 0 t) forest_here
      go (turned_away n vs) = tt

  pub audit_filed : (names bytes : List ℕ) (n : ℕ) → Errs (all_errors t names bytes n)
  unfolding all_errors audit_errors pass_errors
  audit_filed names bytes n = go (rules_of t names bytes (edition_of n)) refl
    where
      go : (r : Ruling) → rules_of t names bytes (edition_of n) ≡ r → Errs (audit_in r names t)
      go (by_rules d edition) e =
          let clean = (given_known t names bytes (rules_known t names bytes e).0).0 in
          let whole : take most_bytes t ≡ t = take_all most_bytes t clean.most in
          rw whole
          (both (without_lists (validate_module d names (forest 0 t)))
          (refusals d edition names (placed Nowhere (forest 0 t)))
          (without_at (validate_module d names (forest 0 t)) (module_at d names (forest 0 t) forest_here))
          (refusals_at d names edition (placed Nowhere (forest 0 t))
          (row_placed d names Nowhere (forest 0 t) forest_here)))
      go (unruled m vs) e = tt
