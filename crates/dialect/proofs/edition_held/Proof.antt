-- `dialect::edition_held` meets its contract: no edition, one without dialect bytes, and one behind them are the cases
-- of `edition_held`. Assumes nothing.
use Rattle.std.specs.Prelude.{None, Option, Some, ℕ}
use Rattle.dialect.specs.declared.Edition.{Edition}
use mathlib.Core.Path.{◌≡◌, sym, ◌∙◌}
use mathlib.Core.List.{List}
use Prim.Native.Nat.{ℕ}
use lib.ListN.{length}
use borrow.Author.Rules.{rules}
use Rattle.dialect.specs.declared.Edition.TheVariants.{One}
use Rattle.dialect.specs.Editions.{edition_of, stated_bytes, edition_held}
use Rattle.dialect.proofs.Editions.{held_none, held_alone, held_number}
use Rattle.dialect.proofs.edition_held.Statement.{statement}
use Rattle.dialect.proofs.edition_held.Tie as tie

module _ (bytes : List ℕ) (stated : Option ℕ) where
  told_none : stated ≡ None → Some One ≡ edition_held bytes (stated_bytes stated)
  told_none h = rw h (sym (held_none bytes))

  module _ {n : ℕ} (h : stated ≡ Some n) where
    told_alone : length bytes ≡ 0 → None ≡ edition_held bytes (stated_bytes stated)
    told_alone empty = rw h (sym (held_alone bytes n empty))

    told_number : (length bytes ≡ 0 → ⊥) → {r : Option Edition} → r ≡ edition_of n
        → r ≡ edition_held bytes (stated_bytes stated)
    told_number some r-is = r-is ∙ rw h (sym (held_number bytes n some))

pub edition_held_spec : {M : Type 1} → statement M
edition_held_spec =
    tie.close
    (tie.spec
    (λ c. search rules)
    (λ c. search told_alone)  -- returns
    (λ c κs. search rules)
    (λ c. search rules)
    (λ c. search told_number)  -- returns-2
    (λ c. search told_none))  -- returns-3
