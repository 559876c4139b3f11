-- What the second edition changes (W-212): it lifts 44 (the ban of `.type`) and nothing else. `Lifted` relates an
-- answer by the first edition to the answer by the second: the second is never 44, and it is the same wherever the
-- first is not 44. Only the ban depends on the edition, so the two editions differ only at the Identifier of a banned
-- path, where the first answers 44 (`lifted_base`). All other rules join answers by order, and order keeps `Lifted`
-- (`lifted_then`): if the whole answer is not 44, no step that was reached is 44. The induction is on the tree. Cite
-- `job_lifted`, `job_accepted` and `job_never`. Assumes nothing.
use Rattle.std.specs.Prelude.{Some}
use mathlib.Core.Path.{◌≡◌, refl, sym, ap, ◌∙◌}
use mathlib.Core.Bool.{Bool, true, false}
use mathlib.Core.List as L
use Prim.Native.Nat.{ℕ, ◌/◌}
use native.Mathlib.Omega.{arith}
use lib.ListN.{length}
use lib.Dec.{eqb, leb}
use Rattle.fields.specs.Choice.{if'}
use Rattle.forest.specs.Forest.{Node, Tree, node, Forest, none, ◌then◌, tree_of}
use Rattle.soundness.specs.KindNumbers.{kind_identifier, kind_dot, kind_list}
use Rattle.dialect.specs.declared.DialectTypes.{DialectTypes}
use Rattle.dialect.specs.declared.Edition.TheVariants.{One, Two}
use Rattle.dialect.specs.Rows.{permits_types}
use Rattle.dialect.specs.Editions.{edition_of}
use Rattle.table.specs.Numbers.{dot_in_type, expecting_path, dot_type_ban, invalid_type, types_disabled}
use Rattle.table.specs.Numbers.{short_buffer, wrong_node}
use Rattle.table.specs.Answer.{Answer, accepted, refused, and_then, refused_at}
use Rattle.table.specs.Check.{Handing, in_dialect, turned_away, given_of, in_given, ruling, rules_of, in_rules, node_fits}
use Rattle.table.specs.Check.{node_check}
use Rattle.table.specs.Check.{stretch_of}
use Rattle.table.specs.declared.Wanted.TheVariants.{Expression}
use Rattle.table.proofs.Answers.{never_passed}
use Rattle.table.proofs.Carried.{Before, given_before}
use Rattle.types.specs.Forms.{form_of, reads_as, reads_of, arguments_only, of_child}
use Rattle.types.specs.Paths.{banned, object_path, base_path, unpack_path}
use Rattle.types.specs.Types.{index_base, index2_base, list_length, at_node, «unpack», unpack_argument}
use Rattle.types.specs.Types.{unpack_each, types_check, dialect_check_type}
use Rattle.types.specs.Jobs.{room_check, type_at, type_shape_of}
use Rattle.types.specs.declared.How.{How}
use Rattle.types.specs.declared.How.TheVariants.{Unread, AsType, AsArgument}
use Rattle.types.specs.declared.Reads.{Reads}
use Rattle.types.specs.declared.Form.{Form}
use Rattle.types.specs.declared.Form.TheVariants.{Ellipsis, Path, Index, Index2, List, Union, Tuple, Other}

-- an answer that is not 44
abbrev pub NoBan : Answer → Type 0
NoBan (accepted vs) = Unit {0}
NoBan (refused n vs) = n ≡ dot_type_ban → ⊥

-- how the answer by the second edition, y, follows from the answer by the first, x
pub record Lifted (x y : Answer) : Type 0 where
  pub free : NoBan y
  pub same : NoBan x → y ≡ x

-- an answer is not 44 if it is not 44 with any values
pub no_ban : (x : Answer) → ((vs : L.List ℕ) → x ≡ refused dot_type_ban vs → ⊥) → NoBan x
no_ban (accepted vs) h = tt
no_ban (refused n vs) h = λ e. h vs (ap (λ (m : ℕ). refused m vs) e)

-- the same answer in both editions, which is not 44
lifted_same : (x : Answer) → NoBan x → Lifted x x
lifted_same x h = record { free = h; same = λ _. refl }

-- LAW: two steps in order; if the whole is not 44, the first step is not 44
lifted_then : (x y : Answer) {p q : Answer} → Lifted x y → Lifted p q
    → Lifted (and_then x (λ _. p)) (and_then y (λ _. q))
lifted_then (accepted vs) (accepted ws) first next = next
lifted_then (accepted vs) (refused m ws) first next = never_passed (first.same tt)
lifted_then (refused n vs) (accepted ws) first next = record {
  free = next.free;
  same = λ h. never_passed (sym (first.same h));
}
lifted_then (refused n vs) (refused m ws) first next = first

-- LAW: a test that does not depend on the edition
lifted_if : (b : Bool) {x y p q : Answer} → Lifted x y → Lifted p q
    → Lifted (if' b (λ _. x) (λ _. p)) (if' b (λ _. y) (λ _. q))
lifted_if true held failed = held
lifted_if false held failed = failed

-- the Identifier of a path that may be banned: the one place where the editions differ
lifted_ban : (ban : Bool) (r : Node)
    → Lifted (if' ban (λ _. refused_at dot_type_ban r) (λ _. accepted L.[])) (accepted L.[])
lifted_ban true r = record { free = tt; same = λ h. absurd (h refl) }
lifted_ban false r = lifted_same (accepted L.[]) tt

-- a refusal with another number
other : (n : ℕ) (r : Node) → (n ≡ dot_type_ban → ⊥) → Lifted (refused_at n r) (refused_at n r)
other n r h = lifted_same (refused_at n r) h

mutual
  unfolding object_path

  lifted_object : (ban : Bool) (ts : Forest) → Lifted (object_path ban ts) (object_path false ts)
  lifted_object ban none = lifted_same (accepted L.[]) tt
  lifted_object ban (t then ts) = lifted_base ban t

  lifted_base : (ban : Bool) (t : Tree) → Lifted (base_path ban t) (base_path false t)
  lifted_base ban (node r ks) =
      lifted_if (eqb r.kind kind_identifier) (lifted_ban ban r)
      (lifted_if (eqb r.kind kind_dot) (lifted_object ban ks) (other dot_in_type r (λ e. omega arith)))

module _ (names : L.List ℕ) where
  lifted_path : (t : Tree) → Lifted (unpack_path One names t) (unpack_path Two names t)
  unfolding unpack_path
  lifted_path (node r ks) =
      lifted_if (eqb r.kind kind_identifier) (lifted_same (accepted L.[]) tt)
      (lifted_if (eqb r.kind kind_dot) (lifted_object (banned One names r) ks)
      (other expecting_path r (λ e. omega arith)))

  -- the tests that do not depend on the edition do not answer 44
  index_free : (r : Node) (ks : Forest) → NoBan (index_base r ks)
  unfolding index_base
  index_free r none = λ e. omega arith
  index_free r (node b bs then ts) = go (eqb b.kind kind_identifier)
    where
      go : (x : Bool) → NoBan (if' x (λ _. accepted L.[]) (λ _. refused_at invalid_type r))
      go true = tt
      go false = λ e. omega arith

  list_free : (r : Node) (ks : Forest) → NoBan (list_length r ks)
  unfolding list_length
  list_free r none = λ e. omega arith
  list_free r (t then none) = λ e. omega arith
  list_free r (t then (u then ts)) = tt

  lifted_index2 : (ks : Forest) → Lifted (index2_base One names ks) (index2_base Two names ks)
  unfolding index2_base
  lifted_index2 none = lifted_same (accepted L.[]) tt
  lifted_index2 (b then ts) = lifted_path b

  lifted_node : (f : Form) (r : Node) (ks : Forest) → Lifted (at_node One names f r ks) (at_node Two names f r ks)
  unfolding at_node
  lifted_node Ellipsis r ks = lifted_same (accepted L.[]) tt
  lifted_node Path r ks = lifted_path (node r ks)
  lifted_node Index r ks = lifted_same (index_base r ks) (index_free r ks)
  lifted_node Index2 r ks = lifted_index2 ks
  lifted_node List r ks = lifted_same (list_length r ks) (list_free r ks)
  lifted_node Union r ks = lifted_same (accepted L.[]) tt
  lifted_node Tuple r ks = lifted_same (accepted L.[]) tt
  lifted_node Other r ks = other invalid_type r (λ e. omega arith)

  -- a child, by how it is read
  lifted_child : (how : How) {x y p q : Answer} → Lifted x y → Lifted p q
      → Lifted (of_child how (accepted L.[]) (λ _. x) (λ _. p)) (of_child how (accepted L.[]) (λ _. y) (λ _. q))
  lifted_child Unread type argument = lifted_same (accepted L.[]) tt
  lifted_child AsType type argument = type
  lifted_child AsArgument type argument = argument

  mutual
    unfolding «unpack»

    lifted_unpack : (t : Tree) → Lifted («unpack» One names t) («unpack» Two names t)
    lifted_unpack (node r ks) = let form : Form = form_of r.kind r.detail in
        lifted_then (at_node One names form r ks) (at_node Two names form r ks) (lifted_node form r ks)
        (lifted_each (reads_of form) ks)

    lifted_argument : (t : Tree) → Lifted (unpack_argument One names t) (unpack_argument Two names t)
    lifted_argument (node r ks) =
        let form : Form = form_of r.kind r.detail in
        lifted_if (eqb r.kind kind_list) (lifted_each arguments_only ks)
        (lifted_then (at_node One names form r ks) (at_node Two names form r ks) (lifted_node form r ks)
        (lifted_each (reads_of form) ks))

    lifted_each : (reads : Reads) (ts : Forest)
        → Lifted (unpack_each reads One names ts) (unpack_each reads Two names ts)
    lifted_each reads none = lifted_same (accepted L.[]) tt
    lifted_each reads (t then ts) =
        lifted_then _ _ (lifted_child reads.first (lifted_unpack t) (lifted_argument t))
        (lifted_each (reads_as reads.others reads.others) ts)

  -- LAW: a type in a dialect
  pub type_lifted : (types : DialectTypes) (t : Tree)
      → Lifted (dialect_check_type One names types t) (dialect_check_type Two names types t)
  unfolding dialect_check_type
  type_lifted types (node r ks) =
      lifted_then (types_check types r) (types_check types r)
      (lifted_same (types_check types r) (go (permits_types types)))
      (lifted_unpack (node r ks))
    where
      go : (b : Bool) → NoBan (if' b (λ _. accepted L.[]) (λ _. refused_at types_disabled r))
      go true = tt
      go false = λ e. omega arith

-- the job on a node: 6 and 7 do not depend on the edition
test_free : (b : Bool) (n : ℕ) → (n ≡ dot_type_ban → ⊥) → NoBan (if' b (λ _. accepted L.[]) (λ _. refused n L.[]))
test_free true n h = tt
test_free false n h = h

at_lifted : (t names : L.List ℕ) (types : DialectTypes) (i room : ℕ)
    → Lifted (type_at One t names types i room) (type_at Two t names types i room)
unfolding type_at
at_lifted t names types i room =
    lifted_then (node_check t i Expression) (node_check t i Expression)
    (lifted_same (node_check t i Expression) (test_free (node_fits t i Expression) wrong_node (λ e. omega arith)))
    (lifted_then (room_check room (stretch_of t i)) (room_check room (stretch_of t i))
    (lifted_same (room_check room (stretch_of t i))
    (test_free (leb (length (stretch_of t i) / 24) room) short_buffer (λ e. omega arith)))
    (type_lifted names types (tree_of i (stretch_of t i))))

-- the whole job, 1 to 5 included
module _ (t names bytes : L.List ℕ) (i room : ℕ) where
  whole_lifted : Lifted (type_shape_of t names bytes 1 i room) (type_shape_of t names bytes 2 i room)
  unfolding type_shape_of rules_of edition_of
  whole_lifted = go (given_of t names bytes) (given_before 10 t names bytes (omega arith))
    where
      go : (h : Handing) → Before 10 (in_given h (λ _. accepted L.[]))
          → Lifted (in_rules (ruling h (Some One)) (λ d e. type_at e t names d.enable_types i room))
          (in_rules (ruling h (Some Two)) (λ d e. type_at e t names d.enable_types i room))
      go (in_dialect d) b = at_lifted t names d.enable_types i room
      go (turned_away n vs) b = lifted_same (refused n vs) (λ e. omega (arith, b.0))

  -- THEOREM: where edition 1 answers anything but 44, edition 2 gives the same answer, refusals included
  pub job_lifted : ((vs : L.List ℕ) → type_shape_of t names bytes 1 i room ≡ refused dot_type_ban vs → ⊥)
      → type_shape_of t names bytes 2 i room ≡ type_shape_of t names bytes 1 i room
  job_lifted h = whole_lifted.same (no_ban (type_shape_of t names bytes 1 i room) h)

  -- THEOREM: what edition 1 accepts, edition 2 accepts
  pub job_accepted : {vs : L.List ℕ} → type_shape_of t names bytes 1 i room ≡ accepted vs
      → type_shape_of t names bytes 2 i room ≡ accepted vs
  job_accepted e = whole_lifted.same (rw e tt) ∙ e

  -- THEOREM: edition 2 never answers 44
  pub job_never : (vs : L.List ℕ) → type_shape_of t names bytes 2 i room ≡ refused dot_type_ban vs → ⊥
  job_never vs e = let free : NoBan (refused dot_type_ban vs) = rw e at whole_lifted.free in free refl
