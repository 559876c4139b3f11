-- `dialect::from_bytes` meets its contract: no bytes, valid bytes and all others are the three cases of `from_bytes`.
-- Assumes nothing.
use Rattle.std.specs.Prelude.{Some}
use mathlib.Core.Path.{◌≡◌, sym, ap, ◌∙◌}
use mathlib.Core.List.{List, [], ◌∷◌}
use Prim.Native.Nat.{ℕ}
use native.Mathlib.Omega.{arith}
use lib.ListN.{length}
use Rattle.dialect.specs.declared.Dialect.{Dialect}
use Rattle.dialect.specs.Rows.{dialect_named, none_given}
use Rattle.dialect.specs.Bytes.{from_bytes}
use Rattle.dialect.proofs.Laws.{empty_given, valid_given, invalid_given, valid_length}
use Rattle.dialect.proofs.from_bytes.Goals as goal

-- no bytes, seen by the length, and the default dialect
empty : (bs : List ℕ) (d : Dialect) → length bs ≡ 0 → d ≡ dialect_named none_given → Some d ≡ from_bytes bs
empty [] d h e = ap Some e ∙ sym empty_given
empty (b ∷ bs) d h e = absurd (omega arith)

pub returns-then-bytes-eq0 : goal.returns-then-bytes-eq0
returns-then-bytes-eq0 c = search empty

pub record_of-requires : goal.record_of-requires
record_of-requires c = valid_length _ (sym c.valid_bytes.ensures ∙ c.if-valid_bytes.true)

pub returns-then-valid_bytes : goal.returns-then-valid_bytes
returns-then-valid_bytes c =
    ap Some c.record_of.ensures ∙ sym
    (valid_given _ (sym c.valid_bytes.ensures ∙ c.if-valid_bytes.true))

pub returns : goal.returns
returns c = sym (invalid_given _ c.if-bytes-eq0.false (sym c.valid_bytes.ensures ∙ c.if-valid_bytes.false))
