-- Types: unpack and unpack_argument of src/syntax/type_expr.rs and dialect_check_type of src/syntax/grammar_util.rs,
-- over trees. These are definitions.
-- Copyright 2018 The Starlark in Rust Authors. Copyright (c) Facebook, Inc. and its affiliates.
-- Licensed under Apache-2.0; changed.
use mathlib.Core.List as L
use Rattle.std.specs.Prelude.{ℕ, eqb}
use Rattle.fields.specs.Choice.{if'}
use Rattle.forest.specs.Forest.{Node, Tree, node, Forest, none, ◌then◌}
use Rattle.soundness.specs.KindNumbers.{kind_identifier, kind_list}
use Rattle.dialect.specs.declared.DialectTypes.{DialectTypes}
use Rattle.dialect.specs.declared.Edition.{Edition}
use Rattle.dialect.specs.Rows.{permits_types}
use Rattle.table.specs.Numbers.{invalid_type, empty_list_in_type, types_disabled}
use Rattle.table.specs.Answer.{Answer, accepted, and_then, refused_at}
use Rattle.types.specs.Forms.{form_of, reads_as, reads_of, arguments_only, of_child}
use Rattle.types.specs.Paths.{unpack_path}
use Rattle.types.specs.declared.Reads.{Reads}
use Rattle.types.specs.declared.Form.{Form}
use Rattle.types.specs.declared.Form.TheVariants.{Ellipsis, Path, Index, Index2, List, Union, Tuple, Other}

-- the base of an Index, whose node is r: an Identifier, else 40 at the Index
unfoldable pub index_base : Node → Forest → Answer
index_base r none = refused_at invalid_type r
index_base r (node b bs then ts) =
    if' (eqb b.kind kind_identifier) (λ _. accepted L.[]) (λ _. refused_at invalid_type r)

-- the base of an Index2: a path. Only an unsound Index2 has no base; it is accepted
unfoldable pub index2_base : Edition → L.List ℕ → Forest → Answer
index2_base edition names none = accepted L.[]
index2_base edition names (b then ts) = unpack_path edition names b

-- the number of items of a List that is a type: 41 for none, 40 for one
unfoldable pub list_length : Node → Forest → Answer
list_length r none = refused_at empty_list_in_type r
list_length r (t then none) = refused_at invalid_type r
list_length r (t then (u then ts)) = accepted L.[]

-- the test at a node before its children are read
unfoldable pub at_node : Edition → L.List ℕ → Form → Node → Forest → Answer
at_node edition names Ellipsis r ks = accepted L.[]
at_node edition names Path r ks = unpack_path edition names (node r ks)
at_node edition names Index r ks = index_base r ks
at_node edition names Index2 r ks = index2_base edition names ks
at_node edition names List r ks = list_length r ks
at_node edition names Union r ks = accepted L.[]
at_node edition names Tuple r ks = accepted L.[]
at_node edition names Other r ks = refused_at invalid_type r

-- a node as a type, given the answer of its children by how they are read
abbrev pub type_rule : Edition → L.List ℕ → Node → Forest → (Reads → Answer) → Answer
type_rule edition names r ks children =
    and_then (at_node edition names (form_of r.kind r.detail) r ks) (λ _.
    children (reads_of (form_of r.kind r.detail)))

-- the type rule and the argument rule, which refer to each other; the first refusal, left to right
unfoldable mutual
  pub «unpack» : Edition → L.List ℕ → Tree → Answer
  «unpack» edition names (node r ks) = type_rule edition names r ks (λ reads. unpack_each reads edition names ks)

  -- an argument of Index2: a List of arguments, or a type
  pub unpack_argument : Edition → L.List ℕ → Tree → Answer
  unpack_argument edition names (node r ks) =
      if' (eqb r.kind kind_list) (λ _. unpack_each arguments_only edition names ks) (λ _.
      type_rule edition names r ks (λ reads. unpack_each reads edition names ks))

  -- the children of a node: the first, then the others
  pub unpack_each : Reads → Edition → L.List ℕ → Forest → Answer
  unpack_each reads edition names none = accepted L.[]
  unpack_each reads edition names (t then ts) =
      and_then (of_child reads.first (accepted L.[])
      (λ _. «unpack» edition names t) (λ _. unpack_argument edition names t)) (λ _.
      unpack_each (reads_as reads.others reads.others) edition names ts)

-- 45 at the type, if the dialect has no types
abbrev pub types_check : DialectTypes → Node → Answer
types_check types r = if' (permits_types types) (λ _. accepted L.[]) (λ _. refused_at types_disabled r)

-- a type in a dialect, by an edition
unfoldable pub dialect_check_type : Edition → L.List ℕ → DialectTypes → Tree → Answer
dialect_check_type edition names types (node r ks) =
    and_then (types_check types r) (λ _. «unpack» edition names (node r ks))
