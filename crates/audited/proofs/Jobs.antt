-- The audit has no refusal at a tree exactly if every job accepts the tree's node (`refused_accepts`,
-- `accepts_refused`). A job on a node of a sound table reads the node's tree: the tests before its rule pass, and its
-- part of the table is that tree (`on_node_lem`, `params_is`, `type_is`). The audit applies the same rules to the same
-- tree, so a job accepts exactly if the audit has no error from it, by kind (`list_is` .., `kind_quiet`) and by role
-- (`as_target`, `as_type`, `role_quiet`). There is no induction; that the trees are the same is Nodes' `All-here`.
-- Assumes nothing.
use mathlib.Core.Path.{◌≡◌, refl, sym, ap, ◌∙◌}
use mathlib.Core.Bool.{Bool, true, false}
use mathlib.Core.List.{List, []}
use Prim.Native.Nat.{ℕ, ◌/◌, ◌<◌, ◌≤◌}
use native.Mathlib.Omega.{arith}
use lib.ListN.{length}
use lib.Dec.{eqb}
use borrow.Author.Tests.{le-leb, lt-ltb, eqb-true, eq-eqb}
use Rattle.fields.proofs.Basics.{never}
use Rattle.fields.specs.Choice.{if'}
use Rattle.dialect.specs.declared.Dialect.{Dialect}
use Rattle.dialect.specs.declared.Edition.{Edition}
use Rattle.dialect.specs.Editions.{edition_of}
use Rattle.forest.specs.Forest.{Tree, tree_of}
use Rattle.soundness.specs.KindNumbers.{kind_call, kind_assign, kind_assign_modify}
use Rattle.soundness.specs.Kinds.{expression, class_of}
use Rattle.table.specs.Answer.{Answer, accepted, refused}
use Rattle.table.specs.Check.{by_rules, rules_of, wants, node_fits, stretch_of, on_node}
use Rattle.table.specs.declared.Wanted.{Wanted}
use Rattle.table.specs.declared.Wanted.TheVariants.{Parameters, Call, Assignment, Expression}
use Rattle.table.proofs.Checking.{Clean, kind_kept}
use Rattle.table.proofs.Entering.{given_known, sound_entry_lem}
use Rattle.table.proofs.Ruling.{rules_known}
use Rattle.table.proofs.Theorems.{clean_accepted}
use Rattle.deflist.specs.Written.{root_in, written_in, written}
use Rattle.deflist.specs.Unpack as def
use Rattle.deflist.specs.Limited.{limited}
use Rattle.deflist.specs.Told.{told}
use Rattle.parameters.specs.Params.{answer_of, list_answer, list_of, params_of}
use Rattle.arguments.specs.Job.{call_answer}
use Rattle.targets.specs.Targets.{counted, check_assignment}
use Rattle.targets.specs.Jobs.{target_of}
use Rattle.types.specs.Types.{dialect_check_type}
use Rattle.types.specs.Jobs.{type_at, type_shape_of}
use Rattle.validate.specs.Params.{unpack_error}
use Rattle.audit.specs.declared.Role.{Role}
use Rattle.audit.specs.declared.Role.TheVariants.{AsTarget, AsType, Plain}
use Rattle.audit.specs.Roles.{Placed, kind_in}
use Rattle.audit.specs.Refusals.{answer_errors, kind_errors, role_errors, refused_there}
use Rattle.audited.specs.Said.{is_accepted, Accepts}
use Rattle.audited.proofs.Everywhere.{either, none_both, both_none}
use Rattle.audited.proofs.Nodes.{Here}
use Rattle.audited.proofs.Roled.{Fits, Roled}

-- an answer has no error exactly if it is accepted; the same for the outcome of a parameter list
quiet_accepted : (a : Answer) → answer_errors a ≡ [] → is_accepted a ≡ true
quiet_accepted (accepted vs) e = refl
quiet_accepted (refused n vs) e = never (cc)

accepted_quiet : (a : Answer) → is_accepted a ≡ true → answer_errors a ≡ []
accepted_quiet (accepted vs) e = refl
accepted_quiet (refused n vs) e = never (cc)

list_accepted : (o : def.Outcome) → unpack_error (told o) ≡ [] → is_accepted (answer_of o) ≡ true
list_accepted (def.accepted c) e = refl
list_accepted (def.refused n r) e = never (cc)
list_accepted (def.repeated i r) e = never (cc)
list_accepted (def.internal k r) e = never (cc)

list_quiet : (o : def.Outcome) → is_accepted (answer_of o) ≡ true → unpack_error (told o) ≡ []
list_quiet (def.accepted c) e = refl
list_quiet (def.refused n r) e = never (cc)
list_quiet (def.repeated i r) e = never (cc)
list_quiet (def.internal k r) e = never (cc)

-- no kind fits two of the three jobs
call_no_list : (k : ℕ) → wants Call k ≡ true → wants Parameters k ≡ false
unfolding wants
call_no_list k h = rw (eqb-true k kind_call h) refl

assign_apart : (k : ℕ) → wants Assignment k ≡ true → (wants Parameters k ≡ false) × (wants Call k ≡ false)
unfolding wants
assign_apart k h =
    either (eqb k kind_assign) (eqb k kind_assign_modify) h
    (λ e. let is = eqb-true k kind_assign e in (rw is refl, rw is refl))
    (λ e. let is = eqb-true k kind_assign_modify e in (rw is refl, rw is refl))

module _ (names : List ℕ) (tree : Tree) where
  list_is : wants Parameters (kind_in tree) ≡ true
      → kind_errors names tree ≡ unpack_error (told (limited (root_in tree) (written_in names tree)))
  unfolding kind_errors
  list_is h = rw h refl

  call_is : wants Call (kind_in tree) ≡ true → kind_errors names tree ≡ answer_errors (call_answer names tree)
  unfolding kind_errors
  call_is h = rw (call_no_list (kind_in tree) h, h) refl

  assign_is : wants Assignment (kind_in tree) ≡ true → kind_errors names tree ≡ answer_errors (check_assignment tree)
  unfolding kind_errors
  assign_is h = let apart = assign_apart (kind_in tree) h in rw (apart.0, apart.1, h) refl

  -- a tree has no error by its kind if each job that fits it has none
  kind_quiet : (wants Parameters (kind_in tree) ≡ true
      → unpack_error (told (limited (root_in tree) (written_in names tree))) ≡ [])
      → (wants Call (kind_in tree) ≡ true → answer_errors (call_answer names tree) ≡ [])
      → (wants Assignment (kind_in tree) ≡ true → answer_errors (check_assignment tree) ≡ [])
      → kind_errors names tree ≡ []
  unfolding kind_errors
  kind_quiet list call assign =
      go (wants Parameters (kind_in tree)) (wants Call (kind_in tree)) (wants Assignment (kind_in tree)) list call
      assign
    where
      go : (p c a : Bool) → (p ≡ true → unpack_error (told (limited (root_in tree) (written_in names tree))) ≡ [])
          → (c ≡ true → answer_errors (call_answer names tree) ≡ [])
          → (a ≡ true → answer_errors (check_assignment tree) ≡ [])
          → if' p (λ _. unpack_error (told (limited (root_in tree) (written_in names tree)))) (λ _.
          if' c (λ _. answer_errors (call_answer names tree)) (λ _.
          if' a (λ _. answer_errors (check_assignment tree)) (λ _. []))) ≡ []
      go true c a x y z = x refl
      go false true a x y z = y refl
      go false false true x y z = z refl
      go false false false x y z = refl

-- the jobs on a node of a sound table, which read its tree
module _ (t names bytes : List ℕ) (n : ℕ) {d : Dialect} {edition : Edition}
    (g : rules_of t names bytes (edition_of n) ≡ by_rules d edition) (i : ℕ)
    (inside : i < length t / 24) where
  clean : Clean t names
  clean = (given_known t names bytes (rules_known t names bytes g).0).0

  abbrev tree : Tree
  tree = tree_of i (stretch_of t i)

  fits_is : (w : Wanted) → node_fits t i w ≡ wants w (kind_in tree)
  unfolding node_fits
  fits_is w = rw (lt-ltb i (length t / 24) inside) (ap (wants w) (sym (kind_kept clean i inside)))

  on_node_lem : (w : Wanted) (rule : Tree → Answer) → wants w (kind_in tree) ≡ true
      → on_node w rule t names i ≡ rule tree
  unfolding on_node
  on_node_lem w rule h = rw (sound_entry_lem w t names i (clean_accepted t names clean) (fits_is w ∙ h)) refl

  params_is : wants Parameters (kind_in tree) ≡ true → (room : ℕ) → length (list_of t names i) ≤ room
      → params_of t names i room ≡ answer_of (limited (root_in tree) (written_in names tree))
  unfolding params_of list_answer list_of written
  params_is h room enough =
      on_node_lem Parameters (λ tree. list_answer (root_in tree) (written_in names tree) room) h
      ∙ rw (le-leb (length (written_in names tree)) room enough) refl

  type_is : wants Expression (kind_in tree) ≡ true → (room : ℕ) → length (stretch_of t i) / 24 ≤ room
      → type_shape_of t names bytes n i room ≡ dialect_check_type edition names d.enable_types tree
  unfolding type_shape_of type_at
  type_is h room enough = rw (g, fits_is Expression ∙ h, le-leb (length (stretch_of t i) / 24) room enough) refl

  expression_is : class_of (kind_in tree) ≡ expression → wants Expression (kind_in tree) ≡ true
  unfolding wants
  expression_is h = eq-eqb (class_of (kind_in tree)) expression h

  -- the errors of each role
  target_told : role_errors d edition names AsTarget tree ≡ answer_errors (counted 0 tree)
  unfolding role_errors
  target_told = refl

  type_told : role_errors d edition names AsType tree
      ≡ answer_errors (dialect_check_type edition names d.enable_types tree)
  unfolding role_errors
  type_told = refl

  plain_told : role_errors d edition names Plain tree ≡ []
  unfolding role_errors
  plain_told = refl

  as_target : (role : Role) → role ≡ AsTarget → Fits role (class_of (kind_in tree))
      → role_errors d edition names role tree ≡ []
      → is_accepted (target_of t names i) ≡ true
  as_target AsTarget is fit e = ap is_accepted (on_node_lem Expression (counted 0) (expression_is fit))
      ∙ quiet_accepted (counted 0 tree) (sym target_told ∙ e)
  as_target AsType is fit e = never (cc)
  as_target Plain is fit e = never (cc)

  as_type : (role : Role) → role ≡ AsType → Fits role (class_of (kind_in tree)) → role_errors d edition names role tree
      ≡ []
      → (room : ℕ) → length (stretch_of t i) / 24 ≤ room → is_accepted (type_shape_of t names bytes n i room) ≡ true
  as_type AsTarget is fit e room enough = never (cc)
  as_type AsType is fit e room enough = ap is_accepted (type_is (expression_is fit) room enough)
      ∙ quiet_accepted (dialect_check_type edition names d.enable_types tree) (sym type_told ∙ e)
  as_type Plain is fit e room enough = never (cc)

  -- LAW: if the node's tree has no error, every job accepts the node
  tree_accepts : (role : Role) → Fits role (class_of (kind_in tree)) → kind_errors names tree ≡ []
      → role_errors d edition names role tree ≡ [] → Accepts t names bytes n i role
  tree_accepts role fit kind_none role-none = record {
    params = λ fits room enough.
        let h : wants Parameters (kind_in tree) ≡ true = sym (fits_is Parameters) ∙ fits in
        ap is_accepted (params_is h room enough)
        ∙ list_accepted (limited (root_in tree) (written_in names tree)) (sym (list_is names tree h) ∙ kind_none);
    call = λ fits.
        let h : wants Call (kind_in tree) ≡ true = sym (fits_is Call) ∙ fits in
        ap is_accepted (on_node_lem Call (call_answer names) h)
        ∙ quiet_accepted (call_answer names tree) (sym (call_is names tree h) ∙ kind_none);
    assignment = λ fits.
        let h : wants Assignment (kind_in tree) ≡ true = sym (fits_is Assignment) ∙ fits in
        ap is_accepted (on_node_lem Assignment check_assignment h)
        ∙ quiet_accepted (check_assignment tree) (sym (assign_is names tree h) ∙ kind_none);
    target = λ role-is. as_target role role-is fit role-none;
    type = λ role-is. as_type role role-is fit role-none;
  }

  -- LAW: if every job accepts the node, its tree has no error
  role_quiet : (role : Role) → Fits role (class_of (kind_in tree)) → Accepts t names bytes n i role
      → role_errors d edition names role tree ≡ []
  role_quiet AsTarget fit a =
      target_told
      ∙ accepted_quiet (counted 0 tree)
      (sym (ap is_accepted (on_node_lem Expression (counted 0) (expression_is fit))) ∙ a.target refl)
  role_quiet AsType fit a =
      let room : ℕ = length (stretch_of t i) / 24 in
      type_told
      ∙ accepted_quiet (dialect_check_type edition names d.enable_types tree)
      (sym (ap is_accepted (type_is (expression_is fit) room (omega arith))) ∙ a.type refl room (omega arith))
  role_quiet Plain fit a = plain_told

  accepts_kind : {role : Role} → Accepts t names bytes n i role → kind_errors names tree ≡ []
  accepts_kind a =
      let room : ℕ = length (list_of t names i) in
      kind_quiet names tree
      (λ h. list_quiet (limited (root_in tree) (written_in names tree))
      (sym (ap is_accepted (params_is h room (omega arith))) ∙ a.params (fits_is Parameters ∙ h) room (omega arith)))
      (λ h. accepted_quiet (call_answer names tree)
      (sym (ap is_accepted (on_node_lem Call (call_answer names) h)) ∙ a.call (fits_is Call ∙ h)))
      (λ h. accepted_quiet (check_assignment tree)
      (sym (ap is_accepted (on_node_lem Assignment check_assignment h)) ∙ a.assignment (fits_is Assignment ∙ h)))

-- LAWS: the audit has no refusal at a tree exactly if every job accepts the tree's node
module _ (t names bytes : List ℕ) (n : ℕ) {d : Dialect} {edition : Edition}
    (g : rules_of t names bytes (edition_of n) ≡ by_rules d edition) (p : Placed) (here : Here t p)
    (fit : Roled p) where
  abbrev at : ℕ
  at = (root_in p.tree).at

  class_same : class_of (kind_in p.tree) ≡ class_of (kind_in (tree_of at (stretch_of t at)))
  class_same = ap (λ (u : Tree). class_of (kind_in u)) here.same

  fit_there : Fits p.role (class_of (kind_in (tree_of at (stretch_of t at))))
  fit_there = rw class_same at fit

  told_same : kind_errors names p.tree ≡ kind_errors names (tree_of at (stretch_of t at))
  told_same = ap (kind_errors names) here.same

  role_same : role_errors d edition names p.role p.tree
      ≡ role_errors d edition names p.role (tree_of at (stretch_of t at))
  role_same = ap (role_errors d edition names p.role) here.same

  pub refused_accepts : refused_there d edition names p ≡ [] → Accepts t names bytes n (root_in p.tree).at p.role
  unfolding refused_there
  refused_accepts e =
      let two = none_both (kind_errors names p.tree) (role_errors d edition names p.role p.tree) e in
      tree_accepts t names bytes n g at here.inside p.role fit_there (sym told_same ∙ two.0)
      (sym role_same ∙ two.1)

  pub accepts_refused : Accepts t names bytes n (root_in p.tree).at p.role → refused_there d edition names p ≡ []
  unfolding refused_there
  accepts_refused a =
      both_none (told_same ∙ accepts_kind t names bytes n g at here.inside a)
      (role_same ∙ role_quiet t names bytes n g at here.inside p.role fit_there a)

-- if there is no refusal at a tree, there is none by its kind
pub kind_none : (d : Dialect) (edition : Edition) (names : List ℕ) (p : Placed) → refused_there d edition names p ≡ []
    → kind_errors names p.tree ≡ []
unfolding refused_there
kind_none d edition names p e = (none_both (kind_errors names p.tree)
    (role_errors d edition names p.role p.tree) e).0
