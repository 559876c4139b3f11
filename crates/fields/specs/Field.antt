-- Little-endian fields, over the width: read, where bytes past the end count as zero, and written.
use Rattle.std.specs.Prelude.{List, [], ◌∷◌, ℕ, zero, suc, ◌+◌, ◌*◌, ◌/◌, ◌%◌, get_or}

-- the number that the w bytes of l from at on spell, low byte first
unfoldable pub field : ℕ → List ℕ → ℕ → ℕ
field zero l at = 0
field (suc w) l at = get_or l at 0 + 256 * field w l (at + 1)

-- a number as w bytes, low byte first
unfoldable pub bytes_of : ℕ → ℕ → List ℕ
bytes_of zero n = []
bytes_of (suc w) n = n % 256 ∷ bytes_of w (n / 256)
