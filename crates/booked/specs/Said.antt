-- The words that W-213's sentences on books need. These are definitions.
use Rattle.std.specs.Prelude.{◌≡◌, Bool, true, false, ◌⊎◌, List, ℕ, ◌+◌, ◌*◌, ◌/◌, ◌<◌, ◌≤◌, suc, take, drop}
use Rattle.fields.specs.Choice.{if'}
use Rattle.blocks.specs.Block.{zeros}
use Rattle.books.specs.declared.Looked.{Looked}
use Rattle.books.specs.declared.Looked.TheVariants.{Zone, Line}
use Rattle.books.specs.Book.{places_of, place_at, entry_at, zone_of, setting_of, sound_book, twice_in}
use Rattle.books.specs.Lookup.{best_in}
use Rattle.books.specs.Change.{is_line}

-- a book that passes 95 and 96
pub record Passing (line : Bool) (book : List ℕ) : Type 0 where
  pub sound : sound_book line book ≡ true
  pub once : twice_in book (places_of book) ≡ false

-- a place with an entry of this zone whose setting is not above the requested one
pub record Fitting (zone asked : ℕ) (book : List ℕ) (p : ℕ) : Type 0 where
  pub inside : p < places_of book
  pub taken : zeros (entry_at book p) ≡ false
  pub zoned : zone_of (entry_at book p) ≡ zone
  pub upto : setting_of (entry_at book p) ≤ asked

-- a fitting place with the highest setting of all fitting places
pub record Highest (zone asked : ℕ) (book : List ℕ) (p : ℕ) : Type 0 where
  pub fitting : Fitting zone asked book p
  pub most : (q : ℕ) → Fitting zone asked book q → setting_of (entry_at book q) ≤ setting_of (entry_at book p)

-- no entry of a book fits
abbrev pub NoneFits : ℕ → ℕ → List ℕ → Type 0
NoneFits zone asked book = (q : ℕ) → Fitting zone asked book q → ⊥

-- the nine bytes of the highest fitting entry begin here
pub record Tells (zone asked : ℕ) (book : List ℕ) (at : ℕ) : Type 0 where
  pub place : ℕ
  pub highest : Highest zone asked book place
  pub there : at ≡ place_at place + 6

-- an entry occurs in a book
pub record Holds (book e : List ℕ) : Type 0 where
  pub place : ℕ
  pub inside : place < places_of book
  pub is : entry_at book place ≡ e

-- every entry of this zone in one book occurs in the other
pub record Within (zone : ℕ) (a b : List ℕ) : Type 0 where
  pub held : (p : ℕ) → p < places_of a → zeros (entry_at a p) ≡ false → zone_of (entry_at a p) ≡ zone
      → Holds b (entry_at a p)

-- every entry of this zone in one book occurs in the other at the same place
pub record Keeps (zone : ℕ) (a b : List ℕ) : Type 0 where
  pub kept : (p : ℕ) → p < places_of a → zeros (entry_at a p) ≡ false → zone_of (entry_at a p) ≡ zone
      → (p < places_of b) × (entry_at b p ≡ entry_at a p)

-- every entry of one book occurs in the other
pub record AllHeld (a b : List ℕ) : Type 0 where
  pub held : (r : ℕ) → r < places_of a → zeros (entry_at a r) ≡ false → Holds b (entry_at a r)

-- both books pass
pub record BothPass (zb lb : List ℕ) : Type 0 where
  pub zone : Passing false zb
  pub line : Passing true lb

-- the book of a zone
abbrev pub book_of : ℕ → List ℕ → List ℕ → List ℕ
book_of zone zb lb = if' (is_line zone) (λ _. lb) (λ _. zb)

-- nine bytes of the book of a zone, as a lookup gives them
abbrev pub told_in : ℕ → ℕ → Looked
told_in zone at = if' (is_line zone) (λ _. Line at) (λ _. Zone at)

-- a lookup reaches a place of the book of `zone`: it is the best place of that book
abbrev pub Reaches : ℕ → ℕ → ℕ → List ℕ → List ℕ → ℕ → Type 0
Reaches zone z asked zb lb p =
    best_in (if' (is_line zone) (λ _. 0) (λ _. z)) asked (book_of zone zb lb) (places_of (book_of zone zb lb)) ≡ suc p

-- the n bytes from j on overlap neither the place p nor the sum of its block
pub record Apart (p j n : ℕ) : Type 0 where
  pub place : (j + n ≤ place_at p) ⊎ (place_at p + 24 ≤ j)
  pub sum : (j + n ≤ 512 * (p / 21) + 508) ⊎ (512 * (p / 21) + 512 ≤ j)

-- two books have the same bytes in every such stretch
abbrev pub SameApart : ℕ → List ℕ → List ℕ → Type 0
SameApart p a b = (j n : ℕ) → Apart p j n → take n (drop j a) ≡ take n (drop j b)
