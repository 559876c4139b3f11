-- The parameters of a def or lambda in the module pass: validate_params of src/syntax/validate.rs. These are
-- definitions.
-- Copyright 2018 The Starlark in Rust Authors. Copyright (c) Facebook, Inc. and its affiliates.
-- Licensed under Apache-2.0; changed.
use Rattle.std.specs.Prelude.{Bool, true, false, not, List, [], ◌∷◌, ◌++◌, ℕ, Err, Ok, Result}
use Rattle.deflist.specs.declared.Fault.{Fault}
use Rattle.deflist.specs.declared.Counts.{Counts}
use Rattle.fields.specs.Choice.{if'}
use Rattle.dialect.specs.declared.Dialect.{Dialect}
use Rattle.forest.specs.Forest.{Node, Forest}
use Rattle.table.specs.Numbers.{star_not_permitted, slash_not_permitted}
use Rattle.deflist.specs.Written.{Param, node_in, kind_in, params_in}
use Rattle.deflist.specs.Unpack.{is_slash}
use Rattle.deflist.specs.Limited.{limited}
use Rattle.deflist.specs.Told.{told}
use Rattle.deflist.specs.declared.Kind.{Kind}
use Rattle.deflist.specs.declared.Kind.TheVariants.{Normal, NoArgs, Slash, Args, KwArgs}
use Rattle.errors.specs.declared.Finding.{Finding}
use Rattle.errors.specs.Errors.{err, unless}
use Rattle.validate.specs.declared.Mark.{Mark}
use Rattle.validate.specs.declared.Mark.TheVariants.{Star, Slash as SlashMark}

-- which parameters are a mark: the bare `*`, or `/`
abbrev pub is_no_args : Kind → Bool
is_no_args (Normal default) = false
is_no_args NoArgs = true
is_no_args Slash = false
is_no_args Args = false
is_no_args KwArgs = false

abbrev pub is_mark : Mark → Kind → Bool
is_mark Star k = is_no_args k
is_mark SlashMark k = is_slash k

-- the switch of a mark, and the number where it is off
abbrev pub permits : Dialect → Mark → Bool
permits d Star = d.enable_keyword_only_arguments
permits d SlashMark = d.enable_positional_only_arguments

abbrev pub not_permitted : Mark → ℕ
not_permitted Star = star_not_permitted
not_permitted SlashMark = slash_not_permitted

-- an error at a parameter that is a mark of a sort; at every one; and none where the dialect permits it
abbrev pub mark_error : Mark → Node → Kind → List Finding
mark_error m r k = unless (not (is_mark m k)) (not_permitted m) r

unfoldable pub every_mark : Mark → List Param → List Finding
every_mark m [] = []
every_mark m (p ∷ ps) = mark_error m (node_in p) (kind_in p) ++ every_mark m ps

abbrev pub marks : Dialect → Mark → List Param → List Finding
marks d m ps = if' (permits d m) (λ _. []) (λ _. every_mark m ps)

-- the one error of a list, if it has one: 19, or unpack's
abbrev pub unpack_error : Result Counts Fault → List Finding
unpack_error (Ok c) = []
unpack_error (Err f) = err f.number f.node f.span ∷ []

-- every 50, then every 51, then the one error of the list of the def or lambda whose record this is
unfoldable pub validate_params : Dialect → Node → List Param → List Finding
validate_params d owner ps = (marks d Star ps ++ marks d SlashMark ps) ++ unpack_error (told (limited owner ps))

-- what the dialect does not permit, then its parameters, which are first among its children
unfoldable pub with_params : Dialect → List ℕ → Bool → ℕ → Node → Forest → List Finding
with_params d names permitted n r ks = unless permitted n r ++ validate_params d r (params_in names ks)
