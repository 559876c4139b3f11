-- The dialects of src/dialect.rs: three rows of nine numbers, and the record that nine numbers describe.
-- Copyright 2018 The Starlark in Rust Authors. Copyright (c) Facebook, Inc. and its affiliates.
-- Licensed under Apache-2.0; changed.
use Rattle.std.specs.Prelude.{Bool, true, false, List, [], ◌∷◌, ℕ, eqb, get_or}
use Rattle.dialect.specs.declared.Dialect.{Dialect}
use Rattle.dialect.specs.declared.DialectTypes.{DialectTypes}
use Rattle.dialect.specs.declared.DialectTypes.TheVariants.{Disable, ParseOnly, Enable}
use Rattle.dialect.specs.declared.Name.{Name}
use Rattle.dialect.specs.declared.Name.TheVariants.{Standard, Extended, AllOptionsInternal}
use Rattle.fields.specs.Choice.{if'}

-- the row of each name, in the order of the fields of `Dialect`: 1 for true, 0 for false, 0, 1 or 2 for enable_types
abbrev pub row_named : Name → List ℕ
row_named Standard = 1 ∷ 1 ∷ 1 ∷ 0 ∷ 0 ∷ 0 ∷ 1 ∷ 0 ∷ 0 ∷ []
row_named Extended = 1 ∷ 1 ∷ 1 ∷ 1 ∷ 0 ∷ 2 ∷ 1 ∷ 1 ∷ 0 ∷ []
row_named AllOptionsInternal = 1 ∷ 1 ∷ 1 ∷ 1 ∷ 1 ∷ 2 ∷ 1 ∷ 1 ∷ 1 ∷ []

-- the meaning of a number of enable_types: 0 Disable, 1 ParseOnly, 2 Enable
abbrev pub types_of : ℕ → DialectTypes
types_of n = if' (eqb n 0) (λ _. Disable) (λ _. if' (eqb n 1) (λ _. ParseOnly) (λ _. Enable))

-- whether a dialect with this enable_types permits type annotations at all
abbrev pub permits_types : DialectTypes → Bool
permits_types Disable = false
permits_types ParseOnly = true
permits_types Enable = true

-- the dialect of nine numbers: a feature is permitted where its number is 1
unfoldable pub record_of : List ℕ → Dialect
record_of row = record {
  enable_def = eqb (get_or row 0 0) 1;
  enable_lambda = eqb (get_or row 1 0) 1;
  enable_load = eqb (get_or row 2 0) 1;
  enable_keyword_only_arguments = eqb (get_or row 3 0) 1;
  enable_positional_only_arguments = eqb (get_or row 4 0) 1;
  enable_types = types_of (get_or row 5 0);
  enable_load_reexport = eqb (get_or row 6 0) 1;
  enable_top_level_stmt = eqb (get_or row 7 0) 1;
  enable_f_strings = eqb (get_or row 8 0) 1;
}

-- the dialect of a name
abbrev pub dialect_named : Name → Dialect
dialect_named name = record_of (row_named name)

-- the dialect of a table that gives none (W-207): the crate's Extended, which is not the crate's Default
abbrev pub none_given : Name
none_given = Extended
