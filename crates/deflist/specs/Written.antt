-- The written parameter list of a def or lambda, for any bytes. These are definitions.
-- Parameters as ParameterP of src/syntax/ast.rs has them.
-- Copyright 2018 The Starlark in Rust Authors. Copyright (c) Facebook, Inc. and its affiliates.
-- Licensed under Apache-2.0; changed.
use Rattle.std.specs.Prelude.{Bool, ◌||◌, List, [], ◌∷◌, ℕ, eqb}
use Rattle.fields.specs.Choice.{if'}
use Rattle.forest.specs.Forest.{Node, Tree, node, Forest, none, ◌then◌, tree_of}
use Rattle.forest.specs.Names.{name_of}
use Rattle.soundness.specs.KindNumbers.{kind_normal, kind_no_args, kind_slash, kind_args_param}
use Rattle.soundness.specs.Kinds.{parameter, class_of}
use Rattle.deflist.specs.declared.Kind.{Kind}
use Rattle.deflist.specs.declared.Kind.TheVariants.{Normal, NoArgs, Slash, Args, KwArgs}

-- a name is its bytes
abbrev pub Name : Type 0
Name = List ℕ

-- a written parameter, as ParameterP of the crate has them, with its record: Normal, its name and whether it has a
-- default; `*`; `/`; `*args`; `**kwargs`
pub data Param : Type 0 where
  normal : Node → Name → Bool → Param
  no_args : Node → Param
  slash : Node → Param
  args : Node → Name → Param
  kwargs : Node → Name → Param

-- a parameter's record
abbrev pub node_in : Param → Node
node_in (normal r n d) = r
node_in (no_args r) = r
node_in (slash r) = r
node_in (args r n) = r
node_in (kwargs r n) = r

-- a parameter's kind, and whether a Normal has a default
abbrev pub kind_in : Param → Kind
kind_in (normal r n d) = Normal d
kind_in (no_args r) = NoArgs
kind_in (slash r) = Slash
kind_in (args r n) = Args
kind_in (kwargs r n) = KwArgs

-- a Normal has a default if its detail is 2 or 3
abbrev pub has_default : ℕ → Bool
has_default detail = eqb detail 2 || eqb detail 3

-- the kind of parameter of a record, from its kind and detail
unfoldable pub kind_at : ℕ → ℕ → Kind
kind_at k d =
    if' (eqb k kind_normal) (λ _. Normal (has_default d)) (λ _.
    if' (eqb k kind_no_args) (λ _. NoArgs) (λ _.
    if' (eqb k kind_slash) (λ _. Slash) (λ _.
    if' (eqb k kind_args_param) (λ _. Args) (λ _. KwArgs))))

-- the parameter of a kind, with its record and its name
abbrev pub param : Kind → Node → Name → Param
param (Normal d) r n = normal r n d
param NoArgs r n = no_args r
param Slash r n = slash r
param Args r n = args r n
param KwArgs r n = kwargs r n

-- the parameter that a record is
unfoldable pub param_of : List ℕ → Node → Param
param_of names r = param (kind_at r.kind r.detail) r (name_of names r)

-- the parameters that come first among nodes side by side
unfoldable pub params_in : List ℕ → Forest → List Param
params_in names none = []
params_in names (node r ks then ts) =
    if' (eqb (class_of r.kind) parameter) (λ _. param_of names r ∷ params_in names ts) (λ _. [])

-- a node's own record
abbrev pub root_in : Tree → Node
root_in (node r ks) = r

-- the written list of a node: the parameters that come first among its children
abbrev pub written_in : List ℕ → Tree → List Param
written_in names (node r ks) = params_in names ks

-- that of the node i, whose stretch this is
unfoldable pub written : List ℕ → ℕ → List ℕ → List Param
written names i t = written_in names (tree_of i t)
