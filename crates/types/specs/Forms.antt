-- The forms of type expressions: TypeExprUnpackP of src/syntax/type_expr.rs by the kind of a node.
-- These are definitions.
-- Copyright 2018 The Starlark in Rust Authors. Copyright (c) Facebook, Inc. and its affiliates.
-- Licensed under Apache-2.0; changed.
use Rattle.std.specs.Prelude.{◌&&◌, ◌||◌, ℕ, eqb}
use Rattle.fields.specs.Choice.{if'}
use Rattle.soundness.specs.KindNumbers.{kind_tuple, kind_dot, kind_index, kind_index2, kind_identifier}
use Rattle.soundness.specs.KindNumbers.{kind_ellipsis, kind_op, kind_list}
use Rattle.types.specs.declared.Form.{Form}
use Rattle.types.specs.declared.Form.TheVariants.{Ellipsis, Path, Index, Index2, List, Union, Tuple, Other}
use Rattle.types.specs.declared.How.{How}
use Rattle.types.specs.declared.How.TheVariants.{Unread, AsType, AsArgument}
use Rattle.types.specs.declared.Reads.{Reads}

-- the form of a node by its kind and detail; an Op is a Union if its detail means `|`
unfoldable pub form_of : ℕ → ℕ → Form
form_of kind detail =
    if' (eqb kind kind_ellipsis) (λ _. Ellipsis) (λ _.
    if' (eqb kind kind_identifier || eqb kind kind_dot) (λ _. Path) (λ _.
    if' (eqb kind kind_index) (λ _. Index) (λ _.
    if' (eqb kind kind_index2) (λ _. Index2) (λ _.
    if' (eqb kind kind_list) (λ _. List) (λ _.
    if' (eqb kind kind_tuple) (λ _. Tuple) (λ _.
    if' (eqb kind kind_op && eqb detail 1) (λ _. Union) (λ _. Other)))))))

-- the shape of a form that is read as a type; a List is a Union. What is not a type has no shape: its 0 is never
-- written, because such a type is refused (proofs/Proper of shapes)
abbrev pub shape_of : Form → ℕ
shape_of Ellipsis = 1
shape_of Path = 2
shape_of Index = 3
shape_of Index2 = 4
shape_of List = 6
shape_of Union = 6
shape_of Tuple = 7
shape_of Other = 0

-- the shape of a List that is an argument
abbrev pub list_shape : ℕ
list_shape = 5

-- the first child is read in one way, and the others in another
abbrev pub reads_as : How → How → Reads
reads_as first others = record { first = first; others = others }

-- how a form reads its children: the base of an Index or Index2 and the inside of a path are not read
abbrev pub reads_of : Form → Reads
reads_of Ellipsis = reads_as Unread Unread
reads_of Path = reads_as Unread Unread
reads_of Index = reads_as Unread AsType
reads_of Index2 = reads_as Unread AsArgument
reads_of List = reads_as AsType AsType
reads_of Union = reads_as AsType AsType
reads_of Tuple = reads_as AsType AsType
reads_of Other = reads_as Unread Unread

-- the rule for a child of a kind: an argument that is not a List is read as a type
unfoldable pub rule_of : How → ℕ → How
rule_of Unread kind = Unread
rule_of AsType kind = AsType
rule_of AsArgument kind = if' (eqb kind kind_list) (λ _. AsArgument) (λ _. AsType)

-- a List that is an argument: all its children are arguments
abbrev pub arguments_only : Reads
arguments_only = reads_as AsArgument AsArgument

-- the result for a child, by how it is read
abbrev pub of_child : {A : Type 0} → How → A → (Unit {0} → A) → (Unit {0} → A) → A
of_child Unread nothing type argument = nothing
of_child AsType nothing type argument = type tt
of_child AsArgument nothing type argument = argument tt
