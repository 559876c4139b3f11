-- Numbers written into a buffer from a place on, for buffers of any length. This is a definition.
use Rattle.std.specs.Prelude.{List, ◌++◌, ℕ, ◌+◌, length, take, drop}

-- bytes or words written over a buffer from a place on; what is before and behind them does not change
unfoldable pub over : ℕ → List ℕ → List ℕ → List ℕ
over at bs buffer = take at buffer ++ (bs ++ drop (at + length bs) buffer)
