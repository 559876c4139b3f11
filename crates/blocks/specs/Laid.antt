-- Bytes written over part of a buffer of any length, and the low byte of a number. These are definitions.
use Rattle.std.specs.Prelude.{List, ℕ, ◌+◌, ◌%◌, length, leb}
use Rattle.fields.specs.Choice.{if'}
use Rattle.fields.specs.Over.{over}

-- the buffer with bytes written over it from a place on if they fit there, else the buffer unchanged
unfoldable pub laid_at : ℕ → List ℕ → List ℕ → List ℕ
laid_at at bs buffer = if' (leb (at + length bs) (length buffer)) (λ _. over at bs buffer) (λ _. buffer)

-- the low byte of a number
abbrev pub low_byte : ℕ → ℕ
low_byte n = n % 256
