-- Two answers of `byte`, `half`, `word` or `long` that meet the promise of that function are equal. Each promise is an
-- equation `r ≡ ...`, so each law is `coincide`; nothing is left to the code. Assumes nothing.
use mathlib.Core.Path.{◌≡◌}
use mathlib.Core.List.{List}
use Prim.Native.Nat.{ℕ}
use lib.ListN.{get_or}
use Rattle.fields.specs.Field.{field}
use Rattle.fields.proofs.Coincide.{coincide}

-- of `byte`
pub byte_one : (b : List ℕ) (at : ℕ) {r s : ℕ} → r ≡ get_or b at 0 → s ≡ get_or b at 0 → r ≡ s
byte_one b at = coincide

-- of `half`
pub half_one : (b : List ℕ) (at : ℕ) {r s : ℕ} → r ≡ field 2 b at → s ≡ field 2 b at → r ≡ s
half_one b at = coincide

-- of `word`
pub word_one : (b : List ℕ) (at : ℕ) {r s : ℕ} → r ≡ field 4 b at → s ≡ field 4 b at → r ≡ s
word_one b at = coincide

-- of `long`
pub long_one : (b : List ℕ) (at : ℕ) {r s : ℕ} → r ≡ field 8 b at → s ≡ field 8 b at → r ≡ s
long_one b at = coincide
