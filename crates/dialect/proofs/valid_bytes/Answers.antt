-- `dialect::valid_bytes` meets its contract: bytes that are not nine are not valid, and nine are tested one by one.
-- Assumes nothing.
use mathlib.Core.Path.{◌≡◌, sym, ap}
use mathlib.Core.Bool.{Bool, ◌&&◌, and_assoc, and-true}
use mathlib.Core.List.{List}
use Prim.Native.Nat.{ℕ}
use lib.Dec.{leb}
use lib.ListN.{length, get_or}
use borrow.Author.Rules.{rules}
use Rattle.dialect.specs.Bytes.{within, valid_bytes}
use Rattle.dialect.proofs.Within.{elements_drop}
use Rattle.dialect.proofs.Laws.{invalid_length}
use Rattle.dialect.proofs.valid_bytes.Goals as goal

-- the byte at a place is at most a number
abbrev fits : List ℕ → ℕ → ℕ → Bool
fits bs i m = leb (get_or bs i 0) m

-- nine bytes, tested as the code does
nine : (bs : List ℕ) → length bs ≡ 9 → (fits bs 0 1 && fits bs 1 1 && fits bs 2 1 && fits bs 3 1 && fits bs 4 1
    && fits bs 5 2 && fits bs 6 1 && fits bs 7 1 && fits bs 8 1) ≡ valid_bytes bs
unfolding valid_bytes within
nine bs h = simp and_assoc (simp and-true at (ap valid_bytes (elements_drop 9 0 bs h)))

pub returns-then-bytes-ne9 : goal.returns-then-bytes-ne9
returns-then-bytes-ne9 c = sym (invalid_length _ (search rules))

pub returns : goal.returns
returns c = nine _ (search rules)
