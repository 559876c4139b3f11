-- The written arguments of a call, for any bytes. These are definitions.
-- Arguments as ArgumentP of src/syntax/ast.rs has them.
-- Copyright 2018 The Starlark in Rust Authors. Copyright (c) Facebook, Inc. and its affiliates.
-- Licensed under Apache-2.0; changed.
use Rattle.std.specs.Prelude.{List, [], ◌∷◌, ℕ, eqb}
use Rattle.fields.specs.Choice.{if'}
use Rattle.forest.specs.Forest.{Node, Tree, node, Forest, none, ◌then◌}
use Rattle.forest.specs.Names.{name_of}
use Rattle.soundness.specs.KindNumbers.{kind_positional, kind_named, kind_args_arg}
use Rattle.arguments.specs.declared.Kind.{Kind}
use Rattle.arguments.specs.declared.Kind.TheVariants.{Positional, Named, Args, KwArgs}

-- a name is its bytes
abbrev pub Name : Type 0
Name = List ℕ

-- an argument, as ArgumentP of the crate has them, with its record: positional; named, with its name; `*`; `**`
pub data Argument : Type 0 where
  positional : Node → Argument
  named : Node → Name → Argument
  args : Node → Argument
  kwargs : Node → Argument

-- an argument's record
abbrev pub node_in : Argument → Node
node_in (positional r) = r
node_in (named r n) = r
node_in (args r) = r
node_in (kwargs r) = r

-- an argument's kind
abbrev pub kind_in : Argument → Kind
kind_in (positional r) = Positional
kind_in (named r n) = Named
kind_in (args r) = Args
kind_in (kwargs r) = KwArgs

-- the kind of argument of a record, from its kind
unfoldable pub kind_at : ℕ → Kind
kind_at k =
    if' (eqb k kind_positional) (λ _. Positional) (λ _.
    if' (eqb k kind_named) (λ _. Named) (λ _.
    if' (eqb k kind_args_arg) (λ _. Args) (λ _. KwArgs)))

-- the argument of a kind, with its record and its name
abbrev pub argument : Kind → Node → Name → Argument
argument Positional r n = positional r
argument Named r n = named r n
argument Args r n = args r
argument KwArgs r n = kwargs r

-- the argument that a record is
unfoldable pub argument_of : List ℕ → Node → Argument
argument_of names r = argument (kind_at r.kind) r (name_of names r)

-- the arguments among nodes side by side: each is one
unfoldable pub arguments_in : List ℕ → Forest → List Argument
arguments_in names none = []
arguments_in names (node r ks then ts) = argument_of names r ∷ arguments_in names ts

-- the arguments of a call: what follows its callee
abbrev pub arguments_of : List ℕ → Tree → List Argument
arguments_of names (node r none) = []
arguments_of names (node r (c then ks)) = arguments_in names ks
