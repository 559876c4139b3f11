-- What dialect bytes mean, for every list of bytes. There are three cases: no bytes give Extended (`empty_given`), nine
-- valid bytes give the record of those bytes (`valid_given`), and all other bytes give no dialect (`invalid_given`,
-- `other_length`). The test of validity goes along the nine limits, so valid bytes are nine (`valid_length`, from
-- Within). And nothing is lost: the nine numbers of the record are the bytes again (`row_of_record`), field by field,
-- so two valid byte strings with one dialect are equal (`same_dialect`). Assumes nothing.
use Rattle.std.specs.Prelude.{None, Some}
use mathlib.Core.Path.{◌≡◌, refl, sym, ap, ◌∙◌}
use mathlib.Core.Bool.{Bool, true, false, false≢true}
use mathlib.Core.List.{List, [], ◌∷◌}
use Prim.Native.Nat.{ℕ, zero, suc, ◌≤◌}
use native.Mathlib.Omega.{arith}
use lib.Dec.{eqb}
use lib.ListN.{length, get_or}
use Rattle.dialect.specs.declared.Dialect.{Dialect}
use Rattle.dialect.specs.declared.DialectTypes.{DialectTypes}
use Rattle.dialect.specs.declared.DialectTypes.TheVariants.{Disable, ParseOnly, Enable}
use Rattle.dialect.specs.Rows.{types_of, record_of, dialect_named, none_given}
use Rattle.dialect.specs.Bytes.{limits, within, valid_bytes, from_bytes}
use Rattle.dialect.proofs.Within.{within_length, within_at, elements_drop}

-- no bytes give the dialect that is meant where none is given
pub empty_given : from_bytes [] ≡ Some (dialect_named none_given)
unfolding from_bytes
empty_given = refl

-- nine valid bytes give the record of those bytes
pub valid_given : (bs : List ℕ) → valid_bytes bs ≡ true → from_bytes bs ≡ Some (record_of bs)
unfolding from_bytes valid_bytes within
valid_given [] e = absurd (false≢true e)
valid_given (b ∷ bs) e = simp e

-- bytes that are there and not valid give no dialect
pub invalid_given : (bs : List ℕ) → (length bs ≡ 0 → ⊥) → valid_bytes bs ≡ false → from_bytes bs ≡ None
unfolding from_bytes
invalid_given [] some e = absurd (some refl)
invalid_given (b ∷ bs) some e = simp e

-- valid bytes are nine
pub valid_length : (bs : List ℕ) → valid_bytes bs ≡ true → length bs ≡ 9
unfolding valid_bytes
valid_length bs e = within_length limits bs e

-- bytes that are not nine are not valid
pub invalid_length : (bs : List ℕ) → (length bs ≡ 9 → ⊥) → valid_bytes bs ≡ false
invalid_length bs other = go (valid_bytes bs) refl
  where
    go : (b : Bool) → valid_bytes bs ≡ b → b ≡ false
    go true e = absurd (other (valid_length bs e))
    go false e = refl

-- a length other than 0 and 9 gives no dialect
pub other_length : (bs : List ℕ) → (length bs ≡ 0 → ⊥) → (length bs ≡ 9 → ⊥) → from_bytes bs ≡ None
other_length bs some other = invalid_given bs some (invalid_length bs other)

-- the number of a bool: 1 for true, 0 for false
abbrev pub bit_of : Bool → ℕ
bit_of true = 1
bit_of false = 0

-- the number of enable_types
abbrev pub types_number : DialectTypes → ℕ
types_number Disable = 0
types_number ParseOnly = 1
types_number Enable = 2

-- the nine numbers of a dialect, in the order of its fields
unfoldable pub row_of : Dialect → List ℕ
row_of d =
    bit_of d.enable_def
    ∷ bit_of d.enable_lambda
    ∷ bit_of d.enable_load
    ∷ bit_of d.enable_keyword_only_arguments
    ∷ bit_of d.enable_positional_only_arguments
    ∷ types_number d.enable_types
    ∷ bit_of d.enable_load_reexport
    ∷ bit_of d.enable_top_level_stmt
    ∷ bit_of d.enable_f_strings
    ∷ []

-- 0 and 1 come back from a bool
bit_back : (n : ℕ) → n ≤ 1 → bit_of (eqb n 1) ≡ n
bit_back zero h = refl
bit_back (suc zero) h = refl
bit_back (suc (suc n)) h = absurd (omega arith)

-- 0, 1 and 2 come back from enable_types
types_back : (n : ℕ) → n ≤ 2 → types_number (types_of n) ≡ n
types_back zero h = refl
types_back (suc zero) h = refl
types_back (suc (suc zero)) h = refl
types_back (suc (suc (suc n))) h = absurd (omega arith)

-- the numbers of the record of valid bytes are the bytes
pub row_of_record : (bs : List ℕ) → valid_bytes bs ≡ true → row_of (record_of bs) ≡ bs
unfolding valid_bytes row_of record_of
row_of_record bs e =
    let at : (i : ℕ) → get_or bs i 0 ≤ get_or limits i 0 = within_at limits bs e in
    simp (
      bit_back _ (at 0),
      bit_back _ (at 1),
      bit_back _ (at 2),
      bit_back _ (at 3),
      bit_back _ (at 4),
      types_back _ (at 5),
      bit_back _ (at 6),
      bit_back _ (at 7),
      bit_back _ (at 8),
    )
    (elements_drop 9 0 bs (valid_length bs e))

-- so no two valid byte strings give one dialect
pub same_dialect : (bs cs : List ℕ) → valid_bytes bs ≡ true → valid_bytes cs ≡ true → record_of bs ≡ record_of cs
    → bs ≡ cs
same_dialect bs cs p q e = sym (row_of_record bs p) ∙ ap row_of e ∙ row_of_record cs q
