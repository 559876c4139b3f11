-- Adding an entry, removing one, and an empty book. An addition writes the first empty place, a removal empties the
-- place of that zone and setting; both renew the sum of the place's block. These are definitions.
use Rattle.std.specs.Prelude.{◌≡◌, Bool, true, false, ◌&&◌, List, [], ◌∷◌, ◌++◌, ℕ, zero, suc, ◌+◌, ◌*◌, ◌/◌, ◌≤◌, length, take, drop, replicate, eqb, leb}
use Rattle.fields.specs.Choice.{if'}
use Rattle.fields.specs.Field.{bytes_of}
use Rattle.fields.specs.Over.{over}
use Rattle.dialect.specs.Bytes.{valid_bytes}
use Rattle.table.specs.Numbers.{book_unsound, entry_twice, no_entry, no_empty_place}
use Rattle.table.specs.Answer.{Answer, accepted, refused}
use Rattle.blocks.specs.Block.{zeros, sum_of, block_of}
use Rattle.books.specs.declared.Changed.{Changed}
use Rattle.books.specs.declared.Changed.TheVariants.{Placed, Refused, Bare}
use Rattle.books.specs.Book.{places_of, place_at, entry_at, sound_length, sound_book}
use Rattle.books.specs.Book.{is_for, seen_in, twice_in}

-- the first of n places where a test holds, counted from 1; 0 if it holds at none
abbrev pub or_else : ℕ → ℕ → ℕ
or_else zero b = b
or_else (suc a) b = suc a

unfoldable pub first_in : (ℕ → Bool) → ℕ → ℕ
first_in test zero = 0
first_in test (suc p) = or_else (first_in test p) (if' (test p) (λ _. suc p) (λ _. 0))

-- the tests: an empty place, the place of a zone and a setting
unfoldable pub empty_at : List ℕ → ℕ → Bool
empty_at book p = zeros (entry_at book p)

unfoldable pub for_at : ℕ → ℕ → List ℕ → ℕ → Bool
for_at zone setting book p = is_for zone setting (entry_at book p)

-- what a search promises: the first place, and that it is in the book
pub record First (test : ℕ → Bool) (n r : ℕ) : Type 0 where
  pub is : r ≡ first_in test n
  pub inside : r ≤ n

-- the 24 bytes of an entry
unfoldable pub entry_of : ℕ → ℕ → List ℕ → List ℕ
entry_of zone setting dialect = ((bytes_of 2 zone ++ bytes_of 4 setting) ++ dialect) ++ replicate 9 0

-- the 24 bytes of an empty place
abbrev pub no_entry_bytes : List ℕ
no_entry_bytes = replicate 24 0

-- whether an entry may be added
abbrev pub may_add : ℕ → ℕ → List ℕ → Bool
may_add zone setting dialect = leb 1 setting && (leb zone 65535 && valid_bytes dialect)

-- the book with these 24 bytes at a place and the new sum of that place's block
abbrev pub block_at : List ℕ → ℕ → List ℕ
block_at book k = take 512 (drop (512 * k) book)

unfoldable pub renewed : List ℕ → ℕ → List ℕ
renewed book k = over (512 * k + 508) (bytes_of 4 (sum_of (block_at book k))) book

unfoldable pub put_entry : List ℕ → ℕ → List ℕ → List ℕ
put_entry book p e = renewed (over (place_at p) e book) (p / 21)

-- the number of a book: 1 the line book, 0 the zone book
abbrev pub book_number : Bool → ℕ
book_number true = 1
book_number false = 0

-- the place that was found, counted from 1, or a refusal that carries its number alone
abbrev pub found_or : ℕ → Bool → ℕ → Changed
found_or number line zero = Bare number
found_or number line (suc p) = Placed (book_number line) p

-- the place for an entry that may be added: 95 (unsound book), 96 (the book repeats an entry, or already has this
-- one), 98
unfoldable pub place_to_add : Bool → List ℕ → ℕ → ℕ → Changed
place_to_add line book zone setting =
    if' (sound_book line book) (λ _.
    if' (twice_in book (places_of book)) (λ _. Refused entry_twice (book_number line)) (λ _.
    if' (seen_in zone setting book (places_of book)) (λ _. Refused entry_twice (book_number line)) (λ _.
    found_or no_empty_place line (first_in (empty_at book) (places_of book)))))
    (λ _. Refused book_unsound (book_number line))

-- adding to one book: 95 also for an entry that may not be added; else the place
unfoldable pub add_in : Bool → List ℕ → ℕ → ℕ → List ℕ → Changed
add_in line book zone setting dialect =
    if' (may_add zone setting dialect) (λ _. place_to_add line book zone setting) (λ _. Refused book_unsound
    (book_number line))

-- removing from one book: 95, 96, 97
unfoldable pub remove_in : Bool → List ℕ → ℕ → ℕ → Changed
remove_in line book zone setting =
    if' (sound_book line book) (λ _.
    if' (twice_in book (places_of book)) (λ _. Refused entry_twice (book_number line)) (λ _.
    found_or no_entry line (first_in (for_at zone setting book) (places_of book))))
    (λ _. Refused book_unsound (book_number line))

-- the book afterwards, given the answer and the 24 bytes to write: a refusal changes nothing
abbrev pub after : Changed → List ℕ → List ℕ → List ℕ
after (Placed b p) e book = put_entry book p e
after (Refused n b) e book = book
after (Bare n) e book = book

-- the meaning of an answer
abbrev pub changed : Changed → Answer
changed (Placed b p) = accepted (b ∷ p ∷ [])
changed (Refused n b) = refused n (b ∷ [])
changed (Bare n) = refused n []

-- the book of a zone: the line book for zone 0
abbrev pub is_line : ℕ → Bool
is_line zone = eqb zone 0

unfoldable pub add_of : List ℕ → List ℕ → ℕ → ℕ → List ℕ → Changed
add_of zb lb zone setting dialect =
    if' (is_line zone) (λ _. add_in true lb zone setting dialect) (λ _. add_in false zb zone setting dialect)

unfoldable pub remove_of : List ℕ → List ℕ → ℕ → ℕ → Changed
remove_of zb lb zone setting = if' (is_line zone) (λ _. remove_in true lb zone setting)
    (λ _. remove_in false zb zone setting)

-- the two books afterwards: the book of the other kind stays
unfoldable pub zone_after : ℕ → Changed → List ℕ → List ℕ → List ℕ
zone_after zone answer e zb = if' (is_line zone) (λ _. zb) (λ _. after answer e zb)

unfoldable pub line_after : ℕ → Changed → List ℕ → List ℕ → List ℕ
line_after zone answer e lb = if' (is_line zone) (λ _. after answer e lb) (λ _. lb)

-- the zone book and the line book after an addition, and after a removal
unfoldable pub zone_added : List ℕ → List ℕ → ℕ → ℕ → List ℕ → List ℕ
zone_added zb lb zone setting dialect =
    zone_after zone (add_of zb lb zone setting dialect) (entry_of zone setting dialect) zb

unfoldable pub line_added : List ℕ → List ℕ → ℕ → ℕ → List ℕ → List ℕ
line_added zb lb zone setting dialect =
    line_after zone (add_of zb lb zone setting dialect) (entry_of zone setting dialect) lb

unfoldable pub zone_removed : List ℕ → List ℕ → ℕ → ℕ → List ℕ
zone_removed zb lb zone setting = zone_after zone (remove_of zb lb zone setting) no_entry_bytes zb

unfoldable pub line_removed : List ℕ → List ℕ → ℕ → ℕ → List ℕ
line_removed zb lb zone setting = line_after zone (remove_of zb lb zone setting) no_entry_bytes lb

-- an empty book of n blocks
unfoldable pub blank_blocks : ℕ → List ℕ
blank_blocks zero = []
blank_blocks (suc k) = blank_blocks k ++ block_of k (replicate 504 0)

-- an empty book of this length in bytes: 95 unless it is 1 to 100 blocks
unfoldable pub blank_of : ℕ → ℕ
blank_of n = if' (sound_length n) (λ _. 0) (λ _. book_unsound)

unfoldable pub blank_after : List ℕ → List ℕ
blank_after book = if' (sound_length (length book)) (λ _. blank_blocks (length book / 512)) (λ _. book)
