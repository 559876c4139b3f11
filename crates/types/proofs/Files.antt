-- The type job refuses at nodes of the tree that it reads. So whatever holds of every node of that tree holds of the
-- node that a refusal names (`told_type`). In a sound table every node of the tree has the source file number of its
-- record and of the job's node (table's `fits_filed`), so each refusal carries that number. The induction is on the
-- tree: a rule refuses at its own node (`told_node`), or passes on the first refusal of its children, left to right
-- (`told_each`). Refusals below 10 name no node. Cite `type_files`. Assumes nothing.
use mathlib.Core.Path.{◌≡◌, refl}
use mathlib.Core.Bool.{Bool, true, false}
use mathlib.Core.List as L
use Prim.Native.Nat.{ℕ, ◌/◌}
use native.Mathlib.Omega.{arith}
use lib.ListN.{length}
use lib.Dec.{eqb, leb}
use Rattle.fields.specs.Choice.{if'}
use Rattle.forest.specs.Forest.{Node, Tree, node, Forest, none, ◌then◌, tree_of, nodes, nodes_of}
use Rattle.soundness.specs.KindNumbers.{kind_identifier, kind_dot, kind_list}
use Rattle.dialect.specs.declared.Dialect.{Dialect}
use Rattle.dialect.specs.declared.DialectTypes.{DialectTypes}
use Rattle.dialect.specs.declared.Edition.{Edition}
use Rattle.dialect.specs.Editions.{edition_of}
use Rattle.dialect.specs.Rows.{permits_types}
use Rattle.table.specs.Numbers.{dot_in_type, expecting_path, dot_type_ban, invalid_type, empty_list_in_type, types_disabled}
use Rattle.table.specs.Numbers.{short_buffer, wrong_node}
use Rattle.table.specs.Answer.{Answer, accepted, refused, and_then}
use Rattle.table.specs.Check.{Ruling, by_rules, unruled, rules_of, in_rules, node_fits, stretch_of}
use Rattle.table.specs.Carrying.{CarriesFile}
use Rattle.table.specs.declared.Wanted.TheVariants.{Expression}
use Rattle.table.proofs.Carried.{Before, before_test}
use Rattle.table.proofs.Ruling.{rules_known, rules_before}
use Rattle.table.proofs.Checking.{Clean}
use Rattle.table.proofs.Entering.{given_known}
use Rattle.table.proofs.Filed.{All, Told, Filed, all_tree, all_row, told_at, told_then, told_if_lem, told_before}
use Rattle.table.proofs.Filed.{fits_filed}
use Rattle.table.proofs.Filed.{files_told}
use Rattle.types.specs.Forms.{form_of, reads_as, reads_of, arguments_only, of_child}
use Rattle.types.specs.Paths.{banned, object_path, base_path, unpack_path}
use Rattle.types.specs.Types.{index_base, index2_base, list_length, at_node, «unpack», unpack_argument}
use Rattle.types.specs.Types.{unpack_each, types_check, dialect_check_type}
use Rattle.types.specs.Jobs.{room_check, type_at, type_shape_of}
use Rattle.types.specs.declared.How.{How}
use Rattle.types.specs.declared.How.TheVariants.{Unread, AsType, AsArgument}
use Rattle.types.specs.declared.Reads.{Reads}
use Rattle.types.specs.declared.Form.{Form}
use Rattle.types.specs.declared.Form.TheVariants.{Ellipsis, Path, Index, Index2, List, Union, Tuple, Other}

module _ (P : Node → Type 0) (edition : Edition) (names : L.List ℕ) where
  mutual
    unfolding object_path

    told_object : (ban : Bool) (ts : Forest) → All P (nodes ts) → Told P (object_path ban ts)
    told_object ban none h = tt
    told_object ban (t then ts) h = told_base ban t (all_row P t ts h).0

    told_base : (ban : Bool) (t : Tree) → All P (nodes_of t) → Told P (base_path ban t)
    told_base ban (node r ks) h =
        let here = all_tree P r ks h in
        told_if_lem P (eqb r.kind kind_identifier) _ _ (told_if_lem P ban _ _ (told_at P dot_type_ban r here.0) tt)
        (told_if_lem P (eqb r.kind kind_dot) _ _ (told_object ban ks here.1) (told_at P dot_in_type r here.0))

  told_path : (t : Tree) → All P (nodes_of t) → Told P (unpack_path edition names t)
  unfolding unpack_path
  told_path (node r ks) h =
      let here = all_tree P r ks h in
      told_if_lem P (eqb r.kind kind_identifier) _ _ tt
      (told_if_lem P (eqb r.kind kind_dot) _ _ (told_object (banned edition names r) ks here.1)
      (told_at P expecting_path r here.0))

  told_index : (r : Node) (ks : Forest) → P r → Told P (index_base r ks)
  unfolding index_base
  told_index r none p = told_at P invalid_type r p
  told_index r (node b bs then ts) p =
      told_if_lem P (eqb b.kind kind_identifier) _ _ tt (told_at P invalid_type r p)

  told_index2 : (ks : Forest) → All P (nodes ks) → Told P (index2_base edition names ks)
  unfolding index2_base
  told_index2 none h = tt
  told_index2 (b then ts) h = told_path b (all_row P b ts h).0

  told_list : (r : Node) (ks : Forest) → P r → Told P (list_length r ks)
  unfolding list_length
  told_list r none p = told_at P empty_list_in_type r p
  told_list r (t then none) p = told_at P invalid_type r p
  told_list r (t then (u then ts)) p = tt

  told_node : (f : Form) (r : Node) (ks : Forest) → All P (nodes_of (node r ks))
      → Told P (at_node edition names f r ks)
  unfolding at_node
  told_node Ellipsis r ks h = tt
  told_node Path r ks h = told_path (node r ks) h
  told_node Index r ks h = told_index r ks (all_tree P r ks h).0
  told_node Index2 r ks h = told_index2 ks (all_tree P r ks h).1
  told_node List r ks h = told_list r ks (all_tree P r ks h).0
  told_node Union r ks h = tt
  told_node Tuple r ks h = tt
  told_node Other r ks h = told_at P invalid_type r (all_tree P r ks h).0

  -- a child, by how it is read
  told_child : (how : How) (x y : Answer) → Told P x → Told P y
      → Told P (of_child how (accepted L.[]) (λ _. x) (λ _. y))
  told_child Unread x y a b = tt
  told_child AsType x y a b = a
  told_child AsArgument x y a b = b

  mutual
    unfolding «unpack»

    told_unpack : (t : Tree) → All P (nodes_of t) → Told P («unpack» edition names t)
    told_unpack (node r ks) h =
        let form : Form = form_of r.kind r.detail in
        told_then P (at_node edition names form r ks) _ (told_node form r ks h)
        (told_each (reads_of form) ks (all_tree P r ks h).1)

    told_argument : (t : Tree) → All P (nodes_of t) → Told P (unpack_argument edition names t)
    told_argument (node r ks) h =
        let form : Form = form_of r.kind r.detail in
        let below = (all_tree P r ks h).1 in
        told_if_lem P (eqb r.kind kind_list) _ _ (told_each arguments_only ks below)
        (told_then P (at_node edition names form r ks) _ (told_node form r ks h) (told_each (reads_of form) ks below))

    told_each : (reads : Reads) (ts : Forest) → All P (nodes ts) → Told P (unpack_each reads edition names ts)
    told_each reads none h = tt
    told_each reads (t then ts) h =
        let both = all_row P t ts h in
        told_then P
        (of_child reads.first (accepted L.[]) (λ _. «unpack» edition names t)
        (λ _. unpack_argument edition names t)) _
        (told_child reads.first («unpack» edition names t) (unpack_argument edition names t)
        (told_unpack t both.0) (told_argument t both.0))
        (told_each (reads_as reads.others reads.others) ts both.1)

  pub told_type : (types : DialectTypes) (t : Tree) → All P (nodes_of t)
      → Told P (dialect_check_type edition names types t)
  unfolding dialect_check_type
  told_type types (node r ks) h =
      told_then P (types_check types r) _
      (told_if_lem P (permits_types types) _ _ tt (told_at P types_disabled r (all_tree P r ks h).0))
      (told_unpack (node r ks) h)

-- THEOREM: every refusal from 10 on of the type job carries the number of the node that it names
module _ (t names bytes : L.List ℕ) (n i room : ℕ) where
  in_dialect_lem : (d : Dialect) (edition : Edition) → Clean t names
      → Told (Filed t i) (type_at edition t names d.enable_types i room)
  unfolding type_at
  in_dialect_lem d edition c = go (node_fits t i Expression) refl
    where
      go : (b : Bool) → node_fits t i Expression ≡ b
          → Told (Filed t i) (and_then (if' b (λ _. accepted L.[]) (λ _. refused wrong_node L.[])) (λ _.
          and_then (room_check room (stretch_of t i)) (λ _.
          dialect_check_type edition names d.enable_types (tree_of i (stretch_of t i)))))
      go false fits = λ late. absurd (omega arith)
      go true fits = told_then (Filed t i) (room_check room (stretch_of t i)) (λ _.
          dialect_check_type edition names d.enable_types (tree_of i (stretch_of t i)))
          (told_before (Filed t i) (room_check room (stretch_of t i))
          (before_test 10 (leb (length (stretch_of t i) / 24) room) short_buffer (omega arith)))
          (told_type (Filed t i) edition names d.enable_types (tree_of i (stretch_of t i))
          (fits_filed c Expression i fits))

  pub type_files : CarriesFile t i (type_shape_of t names bytes n i room)
  unfolding type_shape_of
  type_files = files_told t i (in_rules (rules_of t names bytes (edition_of n)) answer)
      (go (rules_of t names bytes (edition_of n)) refl (rules_before t names bytes 10 (edition_of n) (omega arith)))
    where
      answer : Dialect → Edition → Answer
      answer d edition = type_at edition t names d.enable_types i room

      go : (r : Ruling) → rules_of t names bytes (edition_of n) ≡ r → Before 10 (in_rules r (λ _ _. accepted L.[]))
          → Told (Filed t i) (in_rules r (λ d edition. type_at edition t names d.enable_types i room))
      go (by_rules d edition) known b =
          in_dialect_lem d edition (given_known t names bytes (rules_known t names bytes known).0).0
      go (unruled m vs) known b = λ late. absurd (omega (arith, b.0))
