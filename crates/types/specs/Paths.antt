-- Paths in types: unpack_path of src/syntax/type_expr.rs, over trees. These are definitions.
-- Copyright 2018 The Starlark in Rust Authors. Copyright (c) Facebook, Inc. and its affiliates.
-- Licensed under Apache-2.0; changed.
use Rattle.std.specs.Prelude.{Bool, false, List, [], ◌∷◌, ℕ, eqb}
use Rattle.fields.specs.Choice.{if'}
use Rattle.dialect.specs.declared.Edition.{Edition}
use Rattle.dialect.specs.declared.Edition.TheVariants.{One, Two}
use Rattle.forest.specs.Forest.{Node, Tree, node, Forest, none, ◌then◌}
use Rattle.forest.specs.Names.{name_of, same}
use Rattle.soundness.specs.KindNumbers.{kind_dot, kind_identifier}
use Rattle.table.specs.Numbers.{dot_in_type, expecting_path, dot_type_ban}
use Rattle.table.specs.Answer.{Answer, accepted, refused_at}

-- the field `type`
abbrev pub type_field : List ℕ
type_field = 116 ∷ 121 ∷ 112 ∷ 101 ∷ []

-- whether a path that ends in the field of this Dot is banned: in the first edition if the field is `type`, in the
-- second never (W-212). No other definition mentions the ban or depends on the edition
abbrev pub banned : Edition → List ℕ → Node → Bool
banned One names dot = same (name_of names dot) type_field
banned Two names dot = false

-- the object of a Dot: Dots down to an Identifier, where a banned path is refused with 44; anything else is refused
-- with 42. Only an unsound Dot has no object; it is accepted
unfoldable mutual
  pub object_path : Bool → Forest → Answer
  object_path ban none = accepted []
  object_path ban (t then ts) = base_path ban t

  pub base_path : Bool → Tree → Answer
  base_path ban (node r ks) =
      if' (eqb r.kind kind_identifier) (λ _. if' ban (λ _. refused_at dot_type_ban r) (λ _. accepted [])) (λ _.
      if' (eqb r.kind kind_dot) (λ _. object_path ban ks) (λ _.
      refused_at dot_in_type r))

-- a path: an Identifier, or Dots down to one; else 43
unfoldable pub unpack_path : Edition → List ℕ → Tree → Answer
unpack_path edition names (node r ks) =
    if' (eqb r.kind kind_identifier) (λ _. accepted []) (λ _.
    if' (eqb r.kind kind_dot) (λ _. object_path (banned edition names r) ks) (λ _.
    refused_at expecting_path r))
