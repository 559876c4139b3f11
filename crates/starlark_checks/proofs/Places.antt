-- The positions and places of books fit words: a book that passes has at most 100 blocks, so a place is below 2,100
-- and its bytes begin below 51,200. An answer with a place comes only from a sound book (`in_order_lem`, by the order
-- of the tests), and the best place and the first place of a book are among its places (`best_inside`, books'
-- `first_inside`). Cite `zone_fits`, `line_fits`, `added_fits` and `removed_fits`. `best_inside` is by induction on
-- the places; the rest are case distinctions on the tests. Assumes nothing.
use mathlib.Core.Path.{◌≡◌, refl, sym, ap, ◌∙◌}
use mathlib.Core.Bool.{Bool, true, false, ◌&&◌}
use mathlib.Core.List.{List}
use Prim.Native.Nat.{ℕ, zero, suc, ◌+◌, ◌/◌, ◌%◌, ◌<◌, ◌≤◌, ◌^◌}
use native.Mathlib.Omega.{arith}
use lib.ListN.{length}
use lib.Dec.{eqb, leb, ltb}
use borrow.Author.Tests.{leb-true}
use Rattle.fields.specs.Choice.{if'}
use Rattle.fields.proofs.Basics.{never, and_left, and_right}
use Rattle.books.specs.declared.Looked.{Looked}
use Rattle.books.specs.declared.Looked.TheVariants.{Zone, Line, Refused}
use Rattle.books.specs.declared.Changed.{Changed}
use Rattle.books.specs.declared.Changed.TheVariants.{Placed, Refused as Away, Bare}
use Rattle.books.specs.Book.{places_of, place_at, entry_at, setting_of, sound_length, sound_book, twice_in, seen_in}
use Rattle.books.specs.Lookup.{fits, best_setting, best_in, told, lookup_of, looked}
use Rattle.books.specs.Change.{first_in, empty_at, for_at, may_add, book_number, found_or, place_to_add, add_in, remove_in}
use Rattle.books.specs.Change.{add_of, remove_of, changed, blank_of}
use Rattle.books.proofs.Changing.{first_inside}
use Rattle.starlark_checks.specs.Words.{number, words, laid, PlaceFits}
use Rattle.starlark_checks.proofs.Told.{Put}

best_inside : (zone asked : ℕ) (book : List ℕ) (n : ℕ) → best_in zone asked book n ≤ n
unfolding best_in
best_inside zone asked book zero = omega arith
best_inside zone asked book (suc n) =
    go (fits zone asked (entry_at book n) && ltb (best_setting book (best_in zone asked book n)) (setting_of
    (entry_at book n)))
    (best_inside zone asked book n)
  where
    go : (t : Bool) → best_in zone asked book n ≤ n
        → if' t (λ _. suc n) (λ _. best_in zone asked book n) ≤ suc n
    go true h = omega arith
    go false h = omega arith

few_blocks : (line : Bool) (book : List ℕ) → sound_book line book ≡ true → length book / 512 ≤ 100
unfolding sound_book
few_blocks line book s =
    let l : sound_length (length book) ≡ true = and_left (sound_length (length book)) _ s in
    leb-true (length book / 512) 100 (and_right (leb 1 (length book / 512)) _ (and_right (eqb
    (length book % 512) 0) _ l))

-- the positions of the two best places
module _ (zb lb : List ℕ) (few-z : length zb / 512 ≤ 100) (few-l : length lb / 512 ≤ 100) where
  told_zone : (a d : ℕ) → a ≤ places_of zb → (at : ℕ) → told a d ≡ Zone at → at < 2 ^ 32
  told_zone (suc p) d h at e = let same : at ≡ place_at p + 6 = cc in omega arith
  told_zone zero (suc p) h at e = never (cc)
  told_zone zero zero h at e = never (cc)

  told_line : (a d : ℕ) → d ≤ places_of lb → (at : ℕ) → told a d ≡ Line at → at < 2 ^ 32
  told_line (suc p) d h at e = never (cc)
  told_line zero (suc p) h at e = let same : at ≡ place_at p + 6 = cc in omega arith
  told_line zero zero h at e = never (cc)

module _ (zb lb : List ℕ) (zone asked at : ℕ) where
  -- the tests in order: an answer that is no refusal has two sound books
  in_order_lem : (a : Looked) → ((n b : ℕ) → a ≡ Refused n b → ⊥) → lookup_of zb lb zone asked ≡ a
      → (sound_book false zb ≡ true) × (sound_book true lb ≡ true)
      × (told (best_in zone asked zb (places_of zb)) (best_in 0 asked lb (places_of lb)) ≡ a)
  unfolding lookup_of
  in_order_lem a other =
      go (sound_book false zb) refl (sound_book true lb) refl (twice_in zb (places_of zb)) (twice_in lb (places_of lb))
    where
      go : (s : Bool) → sound_book false zb ≡ s → (u : Bool) → sound_book true lb ≡ u → (t v : Bool)
          → if' s (λ _. if' u (λ _. if' t (λ _. Refused 96 0) (λ _. if' v (λ _. Refused 96 1)
          (λ _. told (best_in zone asked zb (places_of zb)) (best_in 0 asked lb (places_of lb)))))
          (λ _. Refused 95 1)) (λ _. Refused 95 0) ≡ a
          → (sound_book false zb ≡ true) × (sound_book true lb ≡ true)
          × (told (best_in zone asked zb (places_of zb)) (best_in 0 asked lb (places_of lb)) ≡ a)
      go true s true u false false e = (s, u, e)
      go true s true u false true e = absurd (other 96 1 (sym e))
      go true s true u true v e = absurd (other 96 0 (sym e))
      go true s false u t v e = absurd (other 95 1 (sym e))
      go false s u t v w e = absurd (other 95 0 (sym e))

  pub zone_fits : {l : Looked} → l ≡ lookup_of zb lb zone asked → l ≡ Zone at → at < 2 ^ 32
  zone_fits l-is e =
      let three = in_order_lem (Zone at) (λ n b f. never (cc)) (sym l-is ∙ e) in
      told_zone zb lb (few_blocks false zb three.0) (few_blocks true lb three.1)
      (best_in zone asked zb (places_of zb)) (best_in 0 asked lb (places_of lb))
      (best_inside zone asked zb (places_of zb)) at three.2

  pub line_fits : {l : Looked} → l ≡ lookup_of zb lb zone asked → l ≡ Line at → at < 2 ^ 32
  line_fits l-is e =
      let three = in_order_lem (Line at) (λ n b f. never (cc)) (sym l-is ∙ e) in
      told_line zb lb (few_blocks false zb three.0) (few_blocks true lb three.1)
      (best_in zone asked zb (places_of zb)) (best_in 0 asked lb (places_of lb))
      (best_inside 0 asked lb (places_of lb)) at three.2

-- a place that is found
found_small : (number : ℕ) (line : Bool) (book : List ℕ) (f b p : ℕ) → length book / 512 ≤ 100 → f ≤ places_of book
    → found_or number line f ≡ Placed b p → p < 2 ^ 32
found_small number line book zero b p few h e = never (cc)
found_small number line book (suc q) b p few h e = let same : q ≡ p = cc in omega arith

module _ (line : Bool) (book : List ℕ) (zone setting b p : ℕ) where
  add_small : (dialect : List ℕ) → add_in line book zone setting dialect ≡ Placed b p → p < 2 ^ 32
  unfolding add_in place_to_add
  add_small dialect = go (may_add zone setting dialect) (sound_book line book) refl (twice_in book (places_of book))
      (seen_in zone setting book (places_of book))
    where
      go : (m s : Bool) → sound_book line book ≡ s → (t v : Bool)
          → if' m (λ _. if' s (λ _. if' t (λ _. Away 96 (book_number line)) (λ _.
          if' v (λ _. Away 96 (book_number line)) (λ _. found_or 98 line (first_in (empty_at book) (places_of book)))))
          (λ _. Away 95 (book_number line))) (λ _. Away 95 (book_number line)) ≡ Placed b p → p < 2 ^ 32
      go true true s false false e = found_small 98 line book (first_in (empty_at book) (places_of book)) b p
          (few_blocks line book s) (first_inside (empty_at book) (places_of book)) e
      go true true s false true e = never (cc)
      go true true s true v e = never (cc)
      go true false s t v e = never (cc)
      go false s t v w e = never (cc)

  remove_small : remove_in line book zone setting ≡ Placed b p → p < 2 ^ 32
  unfolding remove_in
  remove_small = go (sound_book line book) refl (twice_in book (places_of book))
    where
      go : (s : Bool) → sound_book line book ≡ s → (t : Bool) → if' s (λ _. if' t (λ _. Away 96 (book_number line))
          (λ _. found_or 97 line (first_in (for_at zone setting book) (places_of book))))
          (λ _. Away 95 (book_number line)) ≡ Placed b p → p < 2 ^ 32
      go true s false e = found_small 97 line book (first_in (for_at zone setting book) (places_of book)) b p
          (few_blocks line book s) (first_inside (for_at zone setting book) (places_of book)) e
      go true s true e = never (cc)
      go false s t e = never (cc)

module _ (zb lb : List ℕ) (zone setting b p : ℕ) where
  added_small : (dialect : List ℕ) → add_of zb lb zone setting dialect ≡ Placed b p → p < 2 ^ 32
  unfolding add_of
  added_small dialect = go (eqb zone 0)
    where
      go : (t : Bool) → if' t (λ _. add_in true lb zone setting dialect) (λ _. add_in false zb zone setting dialect)
          ≡ Placed b p → p < 2 ^ 32
      go true f = add_small true lb zone setting b p dialect f
      go false f = add_small false zb zone setting b p dialect f

  removed_small : remove_of zb lb zone setting ≡ Placed b p → p < 2 ^ 32
  unfolding remove_of
  removed_small = go (eqb zone 0)
    where
      go : (t : Bool) → if' t (λ _. remove_in true lb zone setting) (λ _. remove_in false zb zone setting)
          ≡ Placed b p → p < 2 ^ 32
      go true f = remove_small true lb zone setting b p f
      go false f = remove_small false zb zone setting b p f

-- LAW: an answer whose places all fit, and the place of an arm
places_fit : (a : Changed) → ((b p : ℕ) → a ≡ Placed b p → p < 2 ^ 32) → PlaceFits a
places_fit (Placed b p) f = f b p refl
places_fit (Away n b) f = tt
places_fit (Bare n) f = tt

pub place_fits : {a : Changed} {b p : ℕ} → PlaceFits a → a ≡ Placed b p → p < 2 ^ 32
place_fits fit e = rw e at fit

module _ (zb lb : List ℕ) (zone setting : ℕ) {a : Changed} {B : Type 0} where
  pub added_fits : (dialect : List ℕ) → (a ≡ add_of zb lb zone setting dialect) × B → PlaceFits a
  added_fits dialect (a-is, rest) = places_fit a (λ b p e. added_small zb lb zone setting b p dialect (sym a-is ∙ e))

  pub removed_fits : (a ≡ remove_of zb lb zone setting) × B → PlaceFits a
  removed_fits (a-is, rest) = places_fit a (λ b p e. removed_small zb lb zone setting b p (sym a-is ∙ e))

-- LAW: what is written for the answer of the code is written for the promised one; B is the promise on the books
pub changed_told : {a x : Changed} {B : Type 0} {n : ℕ} (xs : List ℕ) {ys : List ℕ} → (a ≡ x) × B
    → Put words (changed a) n xs ys → (n ≡ number (changed x)) × ((ys ≡ laid (words (changed x)) 0 xs) × B)
changed_told xs (e, b) (i, w) = (
  i ∙ ap (λ (c : Changed). number (changed c)) e,
  (w ∙ ap (λ (c : Changed). laid (words (changed c)) 0 xs) e, b),
)

-- an arm of the match writes the number and the words of the definition
module _ (zb lb : List ℕ) (zone setting : ℕ) {l : Looked} (l-is : l ≡ lookup_of zb lb zone setting) where
  pub look_number : (v : Looked) → l ≡ v → {n : ℕ} → n ≡ number (looked v)
      → n ≡ number (looked (lookup_of zb lb zone setting))
  look_number v e n_is = n_is ∙ ap (λ (x : Looked). number (looked x)) (sym e ∙ l-is)

  pub look_words : (v : Looked) → l ≡ v → (xs : List ℕ) {ys : List ℕ} → ys ≡ laid (words (looked v)) 0 xs
      → ys ≡ laid (words (looked (lookup_of zb lb zone setting))) 0 xs
  look_words v e xs ys-is = ys-is ∙ ap (λ (x : Looked). laid (words (looked x)) 0 xs) (sym e ∙ l-is)

-- an empty book: 0, or 95 and nothing else
module _ (n : ℕ) {a : ℕ} (a-is : a ≡ blank_of n) where
  pub blank_made : a ≡ 0 → 0 ≡ blank_of n
  blank_made e = sym e ∙ a-is

  pub blank_refused : (a ≡ 0 → ⊥) → 95 ≡ blank_of n
  unfolding blank_of
  blank_refused other = go (sound_length n) (λ e. other (a-is ∙ e))
    where
      go : (t : Bool) → (if' {A = ℕ} t (λ _. 0) (λ _. 95) ≡ 0 → ⊥) → 95 ≡ if' {A = ℕ} t (λ _. 0) (λ _. 95)
      go true f = absurd (f refl)
      go false f = refl
