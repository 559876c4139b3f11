-- Each public function has one answer: two answers that meet its promise are equal, and so are the books at exit.
-- Every promise is an equation, so each theorem is `coincide`, once for the answer and once for each book. Assumes
-- nothing.
use mathlib.Core.Path.{◌≡◌}
use mathlib.Core.Bool.{Bool}
use mathlib.Core.List.{List}
use Prim.Native.Nat.{ℕ}
use lib.ListN.{length}
use Rattle.fields.proofs.Coincide.{coincide}
use Rattle.books.specs.declared.Looked.{Looked}
use Rattle.books.specs.declared.Changed.{Changed}
use Rattle.books.specs.Book.{judge_book}
use Rattle.books.specs.Lookup.{lookup_of, part_of}
use Rattle.books.specs.Change.{add_of, zone_added, line_added, remove_of, zone_removed, line_removed, blank_of}
use Rattle.books.specs.Change.{blank_after}

-- of `lookup`, the books as lent
pub lookup_one : (zone_book line_book : List ℕ) (zone setting : ℕ) {r s : List ℕ}
    → r ≡ part_of (lookup_of zone_book line_book zone setting) zone_book line_book
    → s ≡ part_of (lookup_of zone_book line_book zone setting) zone_book line_book → r ≡ s
lookup_one zone_book line_book zone setting = coincide

-- of `judge_lookup`, the books as lent
pub judge_lookup_one : (zone_book line_book : List ℕ) (zone setting : ℕ) {r s : Looked}
    → r ≡ lookup_of zone_book line_book zone setting → s ≡ lookup_of zone_book line_book zone setting → r ≡ s
judge_lookup_one zone_book line_book zone setting = coincide

-- of `judge_book`, the book as lent
pub judge_book_one : (book : List ℕ) (line : Bool) {r s : ℕ} → r ≡ judge_book line book → s ≡ judge_book line book
    → r ≡ s
judge_book_one book line = coincide

-- of `add`: the answer and the books at exit
pub add_one : (zone_book line_book : List ℕ) (zone setting : ℕ) (dialect : List ℕ) {r s : Changed}
    {zone-book-r zone-book-s : List ℕ} {line-book-r line-book-s : List ℕ}
    → r ≡ add_of zone_book line_book zone setting dialect
    → zone-book-r ≡ zone_added zone_book line_book zone setting dialect
    → line-book-r ≡ line_added zone_book line_book zone setting dialect
    → s ≡ add_of zone_book line_book zone setting dialect
    → zone-book-s ≡ zone_added zone_book line_book zone setting dialect
    → line-book-s ≡ line_added zone_book line_book zone setting dialect
    → (r ≡ s) × (zone-book-r ≡ zone-book-s) × (line-book-r ≡ line-book-s)
add_one zone_book line_book zone setting dialect a b c d e f = (coincide a d, coincide b e, coincide c f)

-- of `remove`: the answer and the books at exit
pub remove_one : (zone_book line_book : List ℕ) (zone setting : ℕ) {r s : Changed}
    {zone-book-r zone-book-s : List ℕ} {line-book-r line-book-s : List ℕ}
    → r ≡ remove_of zone_book line_book zone setting
    → zone-book-r ≡ zone_removed zone_book line_book zone setting
    → line-book-r ≡ line_removed zone_book line_book zone setting
    → s ≡ remove_of zone_book line_book zone setting
    → zone-book-s ≡ zone_removed zone_book line_book zone setting
    → line-book-s ≡ line_removed zone_book line_book zone setting
    → (r ≡ s) × (zone-book-r ≡ zone-book-s) × (line-book-r ≡ line-book-s)
remove_one zone_book line_book zone setting a b c d e f = (coincide a d, coincide b e, coincide c f)

-- of `blank`: the answer and the book at exit
pub blank_one : (book : List ℕ) {r s : ℕ} {book-r book-s : List ℕ} → r ≡ blank_of (length book)
    → book-r ≡ blank_after book → s ≡ blank_of (length book) → book-s ≡ blank_after book → (r ≡ s) × (book-r ≡ book-s)
blank_one book a b c d = (coincide a c, coincide b d)
