-- The best place of a book that passes 95 and 96 is the one place whose entry fits and has the highest setting. Going
-- over the places, no fitting setting is above the best so far (`best_over`), and the best so far fits (`best_fits`).
-- In a sound book every setting is at least 1, so 0 means that there is none (`best_none`). No zone and setting
-- occurs twice, so two highest places are the same place (`one_highest`). The induction is on the number of places.
-- Cite `best_highest`, `highest_best`, `best_none` and `none_best`. Assumes nothing.
use mathlib.Core.Path.{◌≡◌, refl, sym, ap, ◌∙◌}
use mathlib.Core.Bool.{Bool, true, false, ◌&&◌, not}
use mathlib.Core.Logic.{⊎_elim}
use mathlib.Core.List.{List}
use Prim.Native.Nat.{ℕ, zero, suc, ◌<◌, ◌≤◌}
use native.Mathlib.Omega.{arith}
use lib.ListN.{length}
use lib.Dec.{eqb, leb, ltb}
use borrow.Author.Tests.{eq-eqb, eqb-true, le-leb, leb-true, ltb-true, ltb-false, not-true}
use Rattle.fields.specs.Choice.{if'}
use Rattle.fields.proofs.Basics.{clash, le_or_lt, and_left, and_right}
use Rattle.blocks.specs.Block.{zeros}
use Rattle.books.specs.Book.{places_of, entry_at, zone_of, setting_of, sound_length}
use Rattle.books.specs.Book.{sound_blocks, sound_entry, sound_place, sound_places, sound_book, is_for, seen_in, seen_before}
use Rattle.books.specs.Book.{again}
use Rattle.books.specs.Book.{twice_in, judge_book}
use Rattle.books.specs.Lookup.{fits, best_setting, best_in}
use Rattle.books.proofs.Laws.{every_stop, some_stop}
use Rattle.books.proofs.Marking.{parts_for}
use Rattle.booked.specs.Said.{Passing, Fitting, Highest}

-- THEOREM: a book is accepted exactly if it passes 95 and 96
pub passing_judged : (line : Bool) (book : List ℕ) → judge_book line book ≡ 0 → Passing line book
unfolding judge_book
passing_judged line book = go (sound_book line book) (twice_in book (places_of book)) refl refl
  where
    go : (s t : Bool) → sound_book line book ≡ s → twice_in book (places_of book) ≡ t
        → if' {A = ℕ} s (λ _. if' t (λ _. 96) (λ _. 0)) (λ _. 95) ≡ 0 → Passing line book
    go true false s t e = record { sound = s; once = t }
    go true true s t e = absurd (omega arith)
    go false t s u e = absurd (omega arith)

pub judged_passing : (line : Bool) (book : List ℕ) → Passing line book → judge_book line book ≡ 0
unfolding judge_book
judged_passing line book p = rw (p.sound, p.once) refl

module _ (zone asked : ℕ) (book : List ℕ) where
  -- the test of a place
  fits_fitting : (p : ℕ) → p < places_of book → fits zone asked (entry_at book p) ≡ true → Fitting zone asked book p
  unfolding fits
  fits_fitting p h e =
      let x : Bool = zeros (entry_at book p) in
      let two = and_right (not x) _ e in
      record {
        inside = h;
        taken = not-true x (and_left (not x) _ e);
        zoned = eqb-true _ zone (and_left (eqb (zone_of (entry_at book p)) zone) _ two);
        upto = leb-true _ asked (and_right (eqb (zone_of (entry_at book p)) zone) _ two);
      }

  fitting_fits : (p : ℕ) → Fitting zone asked book p → fits zone asked (entry_at book p) ≡ true
  unfolding fits
  fitting_fits p f = rw (
    f.taken,
    eq-eqb (zone_of (entry_at book p)) zone f.zoned,
    le-leb (setting_of (entry_at book p)) asked f.upto,
  ) refl

  -- the setting of the best of n places
  abbrev top : ℕ → ℕ
  top n = best_setting book (best_in zone asked book n)

  -- with one place more it is no less, and if that place fits, not below its setting
  top_grows : (n : ℕ) → top n ≤ top (suc n)
  unfolding best_in best_setting
  top_grows n = go (fits zone asked (entry_at book n)) (ltb (top n) (setting_of (entry_at book n))) refl
    where
      go : (f l : Bool) → ltb (top n) (setting_of (entry_at book n)) ≡ l
          → top n ≤ best_setting book (if' (f && l) (λ _. suc n) (λ _. best_in zone asked book n))
      go true true l-is = omega (arith, ltb-true (top n) (setting_of (entry_at book n)) l-is)
      go true false l-is = omega arith
      go false l l-is = omega arith

  top_over : (n : ℕ) → fits zone asked (entry_at book n) ≡ true → setting_of (entry_at book n) ≤ top (suc n)
  unfolding best_in best_setting
  top_over n e = rw e (go (ltb (top n) (setting_of (entry_at book n))) refl)
    where
      go : (l : Bool) → ltb (top n) (setting_of (entry_at book n)) ≡ l
          → setting_of (entry_at book n) ≤ best_setting book (if' l (λ _. suc n) (λ _. best_in zone asked book n))
      go true l-is = omega arith
      go false l-is = ltb-false (top n) (setting_of (entry_at book n)) l-is

  -- no fitting setting is above that of the best place
  best_over : (n q : ℕ) → q < n → fits zone asked (entry_at book q) ≡ true → setting_of (entry_at book q) ≤ top n
  best_over zero q h e = absurd (omega arith)
  best_over (suc n) q h e = ⊎_elim
      (λ (k : n ≤ q). let same : q ≡ n = omega arith in rw same (top_over n (rw same at e)))
      (λ (k : q < n). omega (arith, best_over n q k e, top_grows n))
      (le_or_lt n q)

  -- the best place fits
  best_fits : (n p : ℕ) → best_in zone asked book n ≡ suc p → (p < n) × (fits zone asked (entry_at book p) ≡ true)
  unfolding best_in
  best_fits zero p e = absurd (omega arith)
  best_fits (suc n) p e =
      go (fits zone asked (entry_at book n)) refl
      (ltb (best_setting book (best_in zone asked book n)) (setting_of (entry_at book n)))
      (best_fits n p) e
    where
      go : (f : Bool) → fits zone asked (entry_at book n) ≡ f → (l : Bool)
          → (best_in zone asked book n ≡ suc p → (p < n) × (fits zone asked (entry_at book p) ≡ true))
          → if' (f && l) (λ _. suc n) (λ _. best_in zone asked book n) ≡ suc p
          → (p < suc n) × (fits zone asked (entry_at book p) ≡ true)
      go true f true before g = let same : n ≡ p = omega arith in
          (omega arith, ap (λ (x : ℕ). fits zone asked (entry_at book x)) (sym same) ∙ f)
      go true f false before g = let b = before g in (omega (arith, b.0), b.1)
      go false f l before g = let b = before g in (omega (arith, b.0), b.1)

-- two entries that are not empty and have the same zone and setting
pub record Alike (e f : List ℕ) : Type 0 where
  pub taken : zeros e ≡ false
  pub other : zeros f ≡ false
  pub zones : zone_of e ≡ zone_of f
  pub settings : setting_of e ≡ setting_of f

pub alike_back : {e f : List ℕ} → Alike e f → Alike f e
alike_back a = record {
  taken = a.other;
  other = a.taken;
  zones = sym a.zones;
  settings = sym a.settings;
}

-- the entry at a place of a sound book
module _ {line : Bool} {book : List ℕ} (b : Passing line book) where
  pub places_sound : sound_places line book (places_of book) ≡ true
  unfolding sound_book
  places_sound = and_right (sound_blocks book) _ (and_right (sound_length (length book)) _ b.sound)

  pub entry_sound : (p : ℕ) → p < places_of book → zeros (entry_at book p) ≡ false
      → sound_entry line (entry_at book p) ≡ true
  unfolding sound_places sound_place
  entry_sound p h taken = go (sound_place line (entry_at book p)) refl
    where
      go : (t : Bool) → sound_place line (entry_at book p) ≡ t → sound_entry line (entry_at book p) ≡ true
      go true e = rw taken at e
      go false e = clash places_sound (every_stop (λ q. sound_place line (entry_at book q)) (places_of book) p h e)

  -- two entries with the same zone and setting are at the same place
  pub apart : (p q : ℕ) → q < p → p < places_of book → Alike (entry_at book q) (entry_at book p) → ⊥
  unfolding twice_in again seen_before seen_in
  apart p q h inside a =
      let e : List ℕ = entry_at book p in
      let hit : is_for (zone_of e) (setting_of e) (entry_at book q) ≡ true =
      parts_for record { taken = a.taken; zoned = a.zones; set = a.settings } in
      let seen : seen_in (zone_of e) (setting_of e) book p ≡ true =
      some_stop (λ r. is_for (zone_of e) (setting_of e) (entry_at book r)) p q h hit in
      let twice : again book p ≡ true = rw (a.other, seen) refl in
      clash (some_stop (again book) (places_of book) p inside twice) b.once

  pub one_place : (p q : ℕ) → p < places_of book → q < places_of book → Alike (entry_at book p) (entry_at book q)
      → p ≡ q
  one_place p q hp hq a = ⊎_elim
      (λ (h : p ≤ q). ⊎_elim (λ (k : q ≤ p). let e : p ≡ q = omega arith in e)
      (λ (k : p < q). absurd (apart q p k hq a)) (le_or_lt q p))
      (λ (h : q < p). absurd (apart p q h hp (alike_back a))) (le_or_lt p q)

  module _ {zone asked : ℕ} where
    pub positive : (p : ℕ) → Fitting zone asked book p → 1 ≤ setting_of (entry_at book p)
    unfolding sound_entry
    positive p f = leb-true 1 _ (and_left (leb 1 (setting_of (entry_at book p))) _
        (entry_sound p f.inside f.taken))

    one_highest : (p q : ℕ) → Highest zone asked book p → Highest zone asked book q → p ≡ q
    one_highest p q a c =
        let f : Fitting zone asked book p = a.fitting in
        let g : Fitting zone asked book q = c.fitting in
        one_place p q f.inside g.inside record {
          taken = f.taken;
          other = g.taken;
          zones = f.zoned ∙ sym g.zoned;
          settings = omega (arith, a.most q g, c.most p f);
        }

    -- LAW: the best place is the highest
    pub best_highest : (p : ℕ) → best_in zone asked book (places_of book) ≡ suc p → Highest zone asked book p
    unfolding best_setting
    best_highest p e =
        let f = best_fits zone asked book (places_of book) p e in
        record {
          fitting = fits_fitting zone asked book p f.0 f.1;
          most = λ q g. rw e at (best_over zone asked book (places_of book) q g.inside
              (fitting_fits zone asked book q g));
        }

    -- LAW: if there is no best place, no place fits
    pub best_none : best_in zone asked book (places_of book) ≡ 0 → (q : ℕ) → Fitting zone asked book q → ⊥
    unfolding best_setting
    best_none e q g =
        let most : setting_of (entry_at book q) ≤ 0 =
        rw e at (best_over zone asked book (places_of book) q g.inside (fitting_fits zone asked book q g)) in
        omega (arith, positive q g)

    -- LAW: the highest is the best place
    pub highest_best : (p : ℕ) → Highest zone asked book p → best_in zone asked book (places_of book) ≡ suc p
    highest_best p h = go (best_in zone asked book (places_of book)) refl
      where
        go : (b : ℕ) → best_in zone asked book (places_of book) ≡ b → best_in zone asked book (places_of book) ≡ suc p
        go zero e = absurd (best_none e p h.fitting)
        go (suc q) e = e ∙ ap suc (one_highest q p (best_highest q e) h)

    -- LAW: if no place fits, there is no best place
    pub none_best : ((q : ℕ) → Fitting zone asked book q → ⊥) → best_in zone asked book (places_of book) ≡ 0
    none_best n = go (best_in zone asked book (places_of book)) refl
      where
        go : (b : ℕ) → best_in zone asked book (places_of book) ≡ b → best_in zone asked book (places_of book) ≡ 0
        go zero e = e
        go (suc q) e = absurd (n q (best_highest q e).fitting)
