-- Every refusal of a call, a target, an assignment or a type has a number below 50, so opening a dialect removes none
-- of them. Each rule names the number of its refusal, so the test computes (`refl`); two rules in order are small if
-- both are (`then_small`), and a choice is small if both arms are (`if_small`). The induction is on the written
-- arguments, or on the tree, together for rules that refer to each other. Cite `call_small`, `target_small`,
-- `assignment_small` and `type_small`. Assumes nothing.
use Rattle.std.specs.Prelude.{None, Option, Some, ℕ}
use mathlib.Core.Path.{◌≡◌, refl}
use mathlib.Core.Bool.{Bool, true, false, ◌&&◌}
use mathlib.Core.List.{List, [], ◌∷◌, ◌++◌}
use Prim.Native.Nat.{ℕ}
use lib.Dec.{eqb, ltb}
use lib.ListN.{length}
use Rattle.fields.specs.Choice.{if'}
use Rattle.dialect.specs.declared.DialectTypes.{DialectTypes}
use Rattle.dialect.specs.declared.Edition.{Edition}
use Rattle.dialect.specs.Rows.{permits_types}
use Rattle.forest.specs.Forest.{Node, Tree, node, Forest, none, ◌then◌}
use Rattle.soundness.specs.KindNumbers.{kind_assign_modify, kind_dot, kind_identifier, kind_list}
use Rattle.table.specs.Answer.{Answer, accepted, refused, and_then}
use Rattle.arguments.specs.Written.{Argument, node_in, kind_in, arguments_of}
use Rattle.arguments.specs.Call.{past_positional, past_named, in_kwargs, new_name, rule, repeats, check, taken, total}
use Rattle.arguments.specs.Call.{Outcome, unpacked, internal_error, unless_broken, advance, run, start}
use Rattle.arguments.specs.Call.{unpack as call_unpack}
use Rattle.arguments.specs.Job.{outcome_answer, call_answer}
use Rattle.arguments.specs.declared.ArgsStage.{ArgsStage}
use Rattle.arguments.specs.declared.Check.{Check}
use Rattle.arguments.specs.declared.Check.TheVariants.{Fine, Broken, Repeated}
use Rattle.arguments.specs.declared.Kind.{Kind}
use Rattle.arguments.specs.declared.Kind.TheVariants.{Positional, Named, Args, KwArgs}
use Rattle.arguments.specs.declared.Walk.{Walk}
use Rattle.targets.specs.Targets.{is_leaf, is_group, check_assign, check_each, counted, modify_check, type_check}
use Rattle.targets.specs.Targets.{check_assignment}
use Rattle.types.specs.Forms.{form_of, reads_as, reads_of, arguments_only, of_child}
use Rattle.types.specs.Paths.{banned, object_path, base_path, unpack_path}
use Rattle.types.specs.Types.{index_base, index2_base, list_length, at_node, type_rule, «unpack», unpack_argument}
use Rattle.types.specs.Types.{unpack_each, types_check, dialect_check_type}
use Rattle.types.specs.declared.Form.{Form}
use Rattle.types.specs.declared.Form.TheVariants.{Ellipsis, Path, Index, Index2, List as ListForm}
use Rattle.types.specs.declared.Form.TheVariants.{Union, Tuple, Other}
use Rattle.types.specs.declared.How.{How}
use Rattle.types.specs.declared.How.TheVariants.{Unread, AsType, AsArgument}
use Rattle.types.specs.declared.Reads.{Reads}

-- an answer, or a check of an argument, is small: it is accepted, or refused with a number below 50
abbrev pub small : Answer → Bool
small (accepted vs) = true
small (refused n vs) = ltb n 50

abbrev small_check : Check → Bool
small_check Fine = true
small_check (Broken n) = ltb n 50
small_check (Repeated i) = true

-- two steps in order, and a choice
then_small : (x : Answer) (next : Unit {0} → Answer) → small x ≡ true → small (next tt) ≡ true
    → small (and_then x next) ≡ true
then_small (accepted vs) next p q = q
then_small (refused n vs) next p q = p

if_small : (b : Bool) (x y : Unit {0} → Answer) → small (x tt) ≡ true → small (y tt) ≡ true → small (if' b x y) ≡ true
if_small true x y p q = p
if_small false x y p q = q

-- a call: 20 to 24
if_check : (b : Bool) (x y : Unit {0} → Check) → small_check (x tt) ≡ true → small_check (y tt) ≡ true
    → small_check (if' b x y) ≡ true
if_check true x y p q = p
if_check false x y p q = q

name_small : (found : Option ℕ) → small_check (new_name found) ≡ true
name_small (Some i) = refl
name_small None = refl

rule_small : (stage : ArgsStage) (found : Option ℕ) (k : Kind) → small_check (rule stage found k) ≡ true
rule_small stage found Positional = if_check (past_positional stage) _ _ refl refl
rule_small stage found Named = if_check (past_named stage) _ _ refl (name_small found)
rule_small stage found Args = if_check (past_named stage) _ _ refl refl
rule_small stage found KwArgs = if_check (in_kwargs stage) _ _ refl refl

run_small : (before : List Argument) (w : Walk) (ps : List Argument)
    → small (outcome_answer (run before w ps)) ≡ true
unfolding run check
run_small before w [] = ended (eqb (total w.counts) (length before))
  where
    ended : (b : Bool) → small (outcome_answer (if' b (λ _. unpacked w.counts) (λ _. internal_error))) ≡ true
    ended true = refl
    ended false = refl
run_small before w (p ∷ ps) =
    go (rule w.stage (repeats before p) (kind_in p)) (rule_small w.stage (repeats before p) (kind_in p))
    (taken w.counts (kind_in p)) _
    (run_small (before ++ p ∷ []) (advance w (length before) (kind_in p)) ps)
  where
    go : (c : Check) → small_check c ≡ true → (b : Bool) (rest : Outcome) → small (outcome_answer rest) ≡ true
        → small (outcome_answer (unless_broken c (node_in p) (λ _. if' b (λ _. internal_error) (λ _. rest)))) ≡ true
    go Fine h true rest q = refl
    go Fine h false rest q = q
    go (Broken n) h b rest q = h
    go (Repeated i) h b rest q = refl

pub call_small : (names : List ℕ) (t : Tree) → small (call_answer names t) ≡ true
unfolding call_answer call_unpack
call_small names t = run_small [] start (arguments_of names t)

-- a target, and an assignment: 30 to 33
mutual
  unfolding check_assign

  assign_small : (t : Tree) → small (check_assign t) ≡ true
  assign_small (node r ks) =
      if_small (is_leaf r.kind) _ _ refl (if_small (is_group r.kind) _ _ (each_small ks) refl)

  each_small : (ts : Forest) → small (check_each ts) ≡ true
  each_small none = refl
  each_small (t then ts) = then_small (check_assign t) (λ _. check_each ts) (assign_small t) (each_small ts)

pub target_small : (n : ℕ) (t : Tree) → small (counted n t) ≡ true
unfolding counted
target_small n t = then_small (check_assign t) _ (assign_small t) refl

typed_small : (r lhs : Node) (ts : Forest) → small (type_check r lhs ts) ≡ true
unfolding type_check
typed_small r lhs none = if_small (eqb r.detail 1) _ _ refl refl
typed_small r lhs (node ty ks then ts) =
    if_small (eqb r.detail 1) _ _
    (if_small (eqb r.kind kind_assign_modify) _ _ refl (if_small (is_group lhs.kind) _ _ refl refl)) refl

pub assignment_small : (t : Tree) → small (check_assignment t) ≡ true
unfolding check_assignment
assignment_small (node r none) = refl
assignment_small (node r (node lhs ks then ts)) =
    then_small (modify_check r lhs) _
    (if_small (eqb r.kind kind_assign_modify && is_group lhs.kind) _ _ refl refl)
    (then_small (check_assign (node lhs ks)) _ (assign_small (node lhs ks))
    (then_small (type_check r lhs ts) _ (typed_small r lhs ts) refl))

-- a type: 40 to 45
mutual
  unfolding base_path

  base_small : (ban : Bool) (t : Tree) → small (base_path ban t) ≡ true
  base_small ban (node r ks) =
      if_small (eqb r.kind kind_identifier) _ _ (if_small ban _ _ refl refl)
      (if_small (eqb r.kind kind_dot) _ _ (object_small ban ks) refl)

  object_small : (ban : Bool) (ts : Forest) → small (object_path ban ts) ≡ true
  object_small ban none = refl
  object_small ban (t then ts) = base_small ban t

module _ (edition : Edition) (names : List ℕ) where
  path_small : (t : Tree) → small (unpack_path edition names t) ≡ true
  unfolding unpack_path
  path_small (node r ks) =
      if_small (eqb r.kind kind_identifier) _ _ refl
      (if_small (eqb r.kind kind_dot) _ _ (object_small (banned edition names r) ks) refl)

  node_small : (form : Form) (r : Node) (ks : Forest)
      → small (at_node edition names form r ks) ≡ true
  unfolding at_node index_base index2_base list_length
  node_small Ellipsis r ks = refl
  node_small Path r ks = path_small (node r ks)
  node_small Index r none = refl
  node_small Index r (node b bs then ts) = if_small (eqb b.kind kind_identifier) _ _ refl refl
  node_small Index2 r none = refl
  node_small Index2 r (b then ts) = path_small b
  node_small ListForm r none = refl
  node_small ListForm r (t then none) = refl
  node_small ListForm r (t then (u then ts)) = refl
  node_small Union r ks = refl
  node_small Tuple r ks = refl
  node_small Other r ks = refl

  rule_type : (r : Node) (ks : Forest) (children : Reads → Answer)
      → ((reads : Reads) → small (children reads) ≡ true) → small (type_rule edition names r ks children) ≡ true
  rule_type r ks children below =
      then_small (at_node edition names (form_of r.kind r.detail) r ks) _
      (node_small (form_of r.kind r.detail) r ks) (below (reads_of (form_of r.kind r.detail)))

  child_small : (how : How) (x y : Unit {0} → Answer) → small (x tt) ≡ true → small (y tt) ≡ true
      → small (of_child how (accepted []) x y) ≡ true
  child_small Unread x y p q = refl
  child_small AsType x y p q = p
  child_small AsArgument x y p q = q

  mutual
    unfolding «unpack»

    unpack_small : (t : Tree) → small («unpack» edition names t) ≡ true
    unpack_small (node r ks) =
        rule_type r ks (λ reads. unpack_each reads edition names ks)
        (λ reads. types_small reads ks)

    argument_small : (t : Tree) → small (unpack_argument edition names t) ≡ true
    argument_small (node r ks) =
        if_small (eqb r.kind kind_list) _ _ (types_small arguments_only ks)
        (rule_type r ks (λ reads. unpack_each reads edition names ks)
        (λ reads. types_small reads ks))

    types_small : (reads : Reads) (ts : Forest)
        → small (unpack_each reads edition names ts) ≡ true
    types_small reads none = refl
    types_small reads (t then ts) =
        then_small
        (of_child reads.first (accepted []) (λ _. «unpack» edition names t)
        (λ _. unpack_argument edition names t)) _
        (child_small reads.first _ _ (unpack_small t) (argument_small t))
        (types_small (reads_as reads.others reads.others) ts)

  pub type_small : (types : DialectTypes) (t : Tree)
      → small (dialect_check_type edition names types t) ≡ true
  unfolding dialect_check_type
  type_small types (node r ks) =
      then_small (types_check types r) _ (if_small (permits_types types) _ _ refl refl)
      (unpack_small (node r ks))
