-- A book (docs/FORMAT.md, Books): 1 to 100 blocks of 512 bytes, each with 21 places of 24 bytes. A place is empty
-- (all zero) or holds an entry: zone (2 bytes), setting (4, at least 1), nine dialect bytes, nine zeros. A book is
-- unsound (95), or has two entries with the same zone and setting (96), or passes. These are definitions.
use Rattle.std.specs.Prelude.{Bool, true, false, ◌&&◌, ◌||◌, not, List, [], ◌∷◌, ℕ, zero, suc, ◌+◌, ◌*◌, ◌/◌, ◌%◌, length, take, drop, eqb, leb}
use Rattle.fields.specs.Choice.{if'}
use Rattle.fields.specs.Field.{field}
use Rattle.dialect.specs.Bytes.{valid_bytes}
use Rattle.table.specs.Numbers.{book_unsound, entry_twice}
use Rattle.table.specs.Answer.{Answer, accepted, refused}
use Rattle.blocks.specs.Block.{zeros}
use Rattle.blocks.specs.Run.{judge_run}

-- whether a test holds at all of the first n places; whether it holds at one of them
unfoldable pub every : (ℕ → Bool) → ℕ → Bool
every test zero = true
every test (suc p) = every test p && test p

unfoldable pub some : (ℕ → Bool) → ℕ → Bool
some test zero = false
some test (suc p) = some test p || test p

-- the number of places of a book; the first byte of a place; the 24 bytes of a place
abbrev pub places_of : List ℕ → ℕ
places_of book = 21 * (length book / 512)

abbrev pub place_at : ℕ → ℕ
place_at p = 512 * (p / 21) + (4 + 24 * (p % 21))

unfoldable pub entry_at : List ℕ → ℕ → List ℕ
entry_at book p = take 24 (drop (place_at p) book)

-- the parts of an entry
abbrev pub zone_of : List ℕ → ℕ
zone_of e = field 2 e 0

abbrev pub setting_of : List ℕ → ℕ
setting_of e = field 4 e 2

abbrev pub dialect_of : List ℕ → List ℕ
dialect_of e = take 9 (drop 6 e)

-- whether a zone belongs into this book: zone 0 into the line book, all others into the zone book
abbrev pub belongs : Bool → ℕ → Bool
belongs true zone = eqb zone 0
belongs false zone = not (eqb zone 0)

-- an entry that is sound in this book; a place that is sound: empty, or with such an entry
unfoldable pub sound_entry : Bool → List ℕ → Bool
sound_entry line e =
    leb 1 (setting_of e) && (valid_bytes (dialect_of e) && (zeros (take 9 (drop 15 e)) && belongs line (zone_of e)))

unfoldable pub sound_place : Bool → List ℕ → Bool
sound_place line e = zeros e || sound_entry line e

-- the length: 1 to 100 whole blocks
abbrev pub sound_length : ℕ → Bool
sound_length n = eqb (n % 512) 0 && (leb 1 (n / 512) && leb (n / 512) 100)

-- the blocks: numbered from 0 on, all 504 bytes used, with their sums
abbrev pub passes : Answer → Bool
passes (accepted []) = true
passes (accepted (v ∷ vs)) = false
passes (refused n vs) = false

abbrev pub sound_blocks : List ℕ → Bool
sound_blocks book = passes (judge_run 0 (504 * (length book / 512)) book)

unfoldable pub sound_places : Bool → List ℕ → ℕ → Bool
sound_places line book n = every (λ p. sound_place line (entry_at book p)) n

-- 95: unsound unless the length, the blocks and the places are sound; `line` says which book it is
unfoldable pub sound_book : Bool → List ℕ → Bool
sound_book line book = sound_length (length book) && (sound_blocks book && sound_places line book (places_of book))

-- an entry for exactly this zone and setting; an empty place is for none
unfoldable pub is_for : ℕ → ℕ → List ℕ → Bool
is_for zone setting e = not (zeros e) && (eqb (zone_of e) zone && eqb (setting_of e) setting)

-- whether one of the first n places is for this zone and setting
unfoldable pub seen_in : ℕ → ℕ → List ℕ → ℕ → Bool
seen_in zone setting book n = some (λ q. is_for zone setting (entry_at book q)) n

-- whether an earlier place has the zone and setting of this one; whether this place has an entry that repeats an
-- earlier one
unfoldable pub seen_before : List ℕ → ℕ → Bool
seen_before book p = seen_in (zone_of (entry_at book p)) (setting_of (entry_at book p)) book p

unfoldable pub again : List ℕ → ℕ → Bool
again book p = not (zeros (entry_at book p)) && seen_before book p

-- 96: two of the first n places have the same zone and setting
unfoldable pub twice_in : List ℕ → ℕ → Bool
twice_in book n = some (again book) n

-- the judgement of one book: 95, 96, or 0 if it passes both
unfoldable pub judge_book : Bool → List ℕ → ℕ
judge_book line book =
    if' (sound_book line book) (λ _. if' (twice_in book (places_of book)) (λ _. entry_twice) (λ _. 0))
    (λ _. book_unsound)
