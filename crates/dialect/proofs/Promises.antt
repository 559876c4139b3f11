-- Two answers of a public function that meet its promise are equal. Each promise is an equation `r ≡ ...` over the
-- arguments, so each law is fields' `coincide`. Assumes nothing.
use Rattle.std.specs.Prelude.{Option, ℕ}
use Rattle.dialect.specs.declared.Edition.{Edition}
use mathlib.Core.Path.{◌≡◌}
use mathlib.Core.Bool.{Bool}
use mathlib.Core.List.{List}
use Prim.Native.Nat.{ℕ}
use Rattle.fields.proofs.Coincide.{coincide}
use Rattle.dialect.specs.declared.Dialect.{Dialect}
use Rattle.dialect.specs.declared.DialectTypes.{DialectTypes}
use Rattle.dialect.specs.declared.Name.{Name}
use Rattle.dialect.specs.Rows.{permits_types, dialect_named}
use Rattle.dialect.specs.Bytes.{valid_bytes, from_bytes}
use Rattle.dialect.specs.Editions.{edition_of, stated_bytes, edition_held}

-- of `named`
pub named_one : (name : Name) {r s : Dialect} → r ≡ dialect_named name → s ≡ dialect_named name → r ≡ s
named_one name = coincide

-- of `from_bytes`
pub from_bytes_one : (bytes : List ℕ) {r s : Option Dialect} → r ≡ from_bytes bytes → s ≡ from_bytes bytes → r ≡ s
from_bytes_one bytes = coincide

-- of `permits_types`
pub permits_types_one : (types : DialectTypes) {r s : Bool} → r ≡ permits_types types → s ≡ permits_types types
    → r ≡ s
permits_types_one types = coincide

-- of `valid_bytes`
pub valid_bytes_one : (bytes : List ℕ) {r s : Bool} → r ≡ valid_bytes bytes → s ≡ valid_bytes bytes → r ≡ s
valid_bytes_one bytes = coincide

-- of `edition_of`
pub edition_of_one : (number : ℕ) {r s : Option Edition} → r ≡ edition_of number → s ≡ edition_of number → r ≡ s
edition_of_one number = coincide

-- of `edition_held`
pub edition_held_one : (bytes : List ℕ) (stated : Option ℕ) {r s : Option Edition}
    → r ≡ edition_held bytes (stated_bytes stated) → s ≡ edition_held bytes (stated_bytes stated) → r ≡ s
edition_held_one bytes stated = coincide
