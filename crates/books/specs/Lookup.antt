-- The lookup: of the zone's entries in the zone book, the one with the highest setting that is not above the
-- requested one. If none fits, the same of the line book. These are definitions.
use Rattle.std.specs.Prelude.{◌≡◌, Bool, true, false, ◌&&◌, not, List, [], ◌∷◌, ℕ, zero, suc, ◌+◌, ◌≤◌, take, drop, eqb, leb, ltb}
use Rattle.fields.specs.Choice.{if'}
use Rattle.blocks.specs.Block.{zeros}
use Rattle.table.specs.Numbers.{book_unsound, entry_twice, no_entry}
use Rattle.table.specs.Answer.{Answer, accepted, refused}
use Rattle.books.specs.declared.Looked.{Looked}
use Rattle.books.specs.declared.Looked.TheVariants.{Zone, Line, Refused, Nothing}
use Rattle.books.specs.Book.{places_of, place_at, entry_at, zone_of, setting_of}
use Rattle.books.specs.Book.{sound_book, twice_in}

-- an entry of this zone with a setting that is not above the requested one; an empty place never fits
unfoldable pub fits : ℕ → ℕ → List ℕ → Bool
fits zone asked e = not (zeros e) && (eqb (zone_of e) zone && leb (setting_of e) asked)

-- the setting of the best place: 0 if there is none, else that of place b - 1
unfoldable pub best_setting : List ℕ → ℕ → ℕ
best_setting book zero = 0
best_setting book (suc p) = setting_of (entry_at book p)

-- the best of the first n places, counted from 1: it fits, and none that fits has a higher setting; 0 if none fits
unfoldable pub best_in : ℕ → ℕ → List ℕ → ℕ → ℕ
best_in zone asked book zero = 0
best_in zone asked book (suc p) =
    if' (fits zone asked (entry_at book p) && ltb (best_setting book (best_in zone asked book p)) (setting_of
    (entry_at book p)))
    (λ _. suc p) (λ _. best_in zone asked book p)

-- what the search for the best place promises: that place, and that it is in the book
pub record Chosen (zone asked : ℕ) (book : List ℕ) (best : ℕ) : Type 0 where
  pub is : best ≡ best_in zone asked book (places_of book)
  pub inside : best ≤ places_of book

-- the answer, given the best place of the zone book and that of the line book: where the nine bytes begin
abbrev pub told : ℕ → ℕ → Looked
told (suc p) b = Zone (place_at p + 6)
told zero (suc p) = Line (place_at p + 6)
told zero zero = Nothing

-- the lookup: 95 zone book, 95 line book, 96 zone book, 96 line book, 97, or the book and where the nine bytes begin
unfoldable pub lookup_of : List ℕ → List ℕ → ℕ → ℕ → Looked
lookup_of zone_book line_book zone asked =
    if' (sound_book false zone_book) (λ _.
    if' (sound_book true line_book) (λ _.
    if' (twice_in zone_book (places_of zone_book)) (λ _. Refused entry_twice 0) (λ _.
    if' (twice_in line_book (places_of line_book)) (λ _. Refused entry_twice 1) (λ _.
    told (best_in zone asked zone_book (places_of zone_book)) (best_in 0 asked line_book (places_of line_book)))))
    (λ _. Refused book_unsound 1))
    (λ _. Refused book_unsound 0)

-- the meaning of an answer: 0 or 1 for the book and where the nine bytes begin in it; 95 and 96 with the book; 97
abbrev pub looked : Looked → Answer
looked (Zone at) = accepted (0 ∷ at ∷ [])
looked (Line at) = accepted (1 ∷ at ∷ [])
looked (Refused n book) = refused n (book ∷ [])
looked Nothing = refused no_entry []

-- the nine bytes of an answer in their book; no bytes if it is refused
abbrev pub part_of : Looked → List ℕ → List ℕ → List ℕ
part_of (Zone at) zone_book line_book = take 9 (drop at zone_book)
part_of (Line at) zone_book line_book = take 9 (drop at line_book)
part_of (Refused n book) zone_book line_book = []
part_of Nothing zone_book line_book = []
