-- Blocks of 512 bytes, little-endian (docs/FORMAT.md, a table file): bytes 0-1 the number, 2-3 the number of used
-- bytes, 4-507 the content, 508-511 the sum. These are definitions.
use Rattle.std.specs.Prelude.{Bool, true, ◌&&◌, List, [], ◌∷◌, ◌++◌, ℕ, zero, suc, ◌+◌, ◌*◌, ◌-◌, length, get_or, take, drop, replicate, eqb, leb, Err, Ok, Result}
use Rattle.fields.specs.Choice.{if'}
use Rattle.fields.specs.Field.{field, bytes_of}
use Rattle.table.specs.Numbers.{block_short, block_number, block_check, block_used}
use Rattle.table.specs.Answer.{Answer, accepted, refused, and_then}

-- the size of a block, and that of its content
abbrev pub block_bytes : ℕ
block_bytes = 512

abbrev pub content_bytes : ℕ
content_bytes = 504

-- what the byte x at place p adds to the sum
abbrev pub weight_of : ℕ → ℕ → ℕ
weight_of p x = (p + 1) * x

-- the sum of (p + 1) times byte p over the first n places
unfoldable pub weighed : ℕ → List ℕ → ℕ
weighed zero b = 0
weighed (suc p) b = weighed p b + weight_of p (get_or b p 0)

-- the sum of a block: over p = 0 to 507
unfoldable pub sum_of : List ℕ → ℕ
sum_of b = weighed 508 b

-- the 508 bytes before the sum: the number, the number of used bytes, the content, and zeros after it
unfoldable pub before_sum : ℕ → List ℕ → List ℕ
before_sum number content = bytes_of 2 number
    ++ (bytes_of 2 (length content) ++ (content ++ replicate (content_bytes - length content) 0))

-- the block that has this number and this content
unfoldable pub block_of : ℕ → List ℕ → List ℕ
block_of number content = before_sum number content ++ bytes_of 4 (sum_of (before_sum number content))

-- whether all bytes are zero
unfoldable pub zeros : List ℕ → Bool
zeros [] = true
zeros (x ∷ l) = eqb x 0 && zeros l

-- accepted if the test is passed, else refused with this number
abbrev pub demand : Bool → ℕ → Answer
demand met number = if' met (λ _. accepted []) (λ _. refused number [])

-- the tests of the 512 bytes of a block, given its expected number and number of used bytes: 72 (the sum), 71 (the
-- number), 73 (the used bytes or the zeros after them)
unfoldable pub examine : ℕ → ℕ → List ℕ → Answer
examine number used b =
    and_then (demand (eqb (sum_of b) (field 4 b 508)) block_check) (λ _.
    and_then (demand (eqb (field 2 b 0) number) block_number) (λ _.
    demand (eqb (field 2 b 2) used && zeros (drop (4 + used) (take 508 b))) block_used))

-- the first 512 bytes as a block with this expected number and number of used bytes: 70 if there are fewer than 512,
-- then the tests above
unfoldable pub judge : ℕ → ℕ → List ℕ → Answer
judge number used bs = and_then (demand (leb block_bytes (length bs)) block_short)
    (λ _. examine number used (take block_bytes bs))

-- the meaning of the code's answers
abbrev pub judged : Result (Unit {0}) ℕ → Answer
judged (Ok _) = accepted []
judged (Err n) = refused n []
