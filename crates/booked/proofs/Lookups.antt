-- THEOREMS of the lookup. 1: it gives a book and a position exactly if a highest fitting entry is there: in the zone
-- book or, if none of its entries fits, in the line book; it is 97 exactly if no entry of either fits. 2: the
-- returned part is the nine bytes at that position, which are valid dialect bytes, and is empty if the lookup is
-- refused. 3: two zone books with the same set of this zone's entries give the same bytes. All follow from Best,
-- which characterizes the best place. Assumes nothing.
use mathlib.Core.Path.{◌≡◌, refl, sym, ap, ◌∙◌}
use mathlib.Core.Bool.{Bool, true, false, not}
use mathlib.Core.List.{List, []}
use Prim.Native.Nat.{ℕ, zero, suc, ◌+◌, ◌≤◌}
use native.Mathlib.Omega.{arith}
use lib.ListN.{take, drop}
use lib.Seq.{take-take, drop-drop}
use lib.Dec.{eqb, leb}
use borrow.Author.Tests.{eq-eqb}
use Rattle.fields.specs.Choice.{if'}
use Rattle.fields.proofs.Basics.{never, clash, and_left, and_right, drop_take}
use Rattle.blocks.specs.Block.{zeros}
use Rattle.dialect.specs.Bytes.{valid_bytes}
use Rattle.books.specs.declared.Looked.{Looked}
use Rattle.books.specs.declared.Looked.TheVariants.{Zone, Line, Refused, Nothing}
use Rattle.books.specs.Book.{places_of, place_at, entry_at, zone_of, setting_of, dialect_of, sound_entry}
use Rattle.books.specs.Book.{sound_book, twice_in}
use Rattle.books.specs.Lookup.{best_in, told, lookup_of, part_of}
use Rattle.booked.specs.Said.{Passing, Fitting, Highest, NoneFits, Tells, Holds, Within, Keeps}
use Rattle.booked.proofs.Best.{best_highest, best_none, highest_best, none_best}
use Rattle.booked.proofs.Best.{positive, entry_sound}

-- LAW: if the answer is a position or 97, both books pass
module _ (zb lb : List ℕ) (zone asked : ℕ) where
  in_order_lem : (a : Looked) → ((n b : ℕ) → a ≡ Refused n b → ⊥) → lookup_of zb lb zone asked ≡ a
      → Passing false zb × Passing true lb
  unfolding lookup_of
  in_order_lem a other =
      go (sound_book false zb) refl (sound_book true lb) refl (twice_in zb (places_of zb)) refl (twice_in lb
      (places_of lb)) refl
    where
      go : (s : Bool) → sound_book false zb ≡ s → (u : Bool) → sound_book true lb ≡ u
          → (t : Bool) → twice_in zb (places_of zb) ≡ t → (v : Bool) → twice_in lb (places_of lb) ≡ v
          → if' s (λ _. if' u (λ _. if' t (λ _. Refused 96 0) (λ _. if' v (λ _. Refused 96 1)
          (λ _. told (best_in zone asked zb (places_of zb)) (best_in 0 asked lb (places_of lb)))))
          (λ _. Refused 95 1)) (λ _. Refused 95 0) ≡ a
          → Passing false zb × Passing true lb
      go true s true u false t false v e = (record { sound = s; once = t }, record { sound = u; once = v })
      go true s true u false t true v e = absurd (other 96 1 (sym e))
      go true s true u true t v w e = absurd (other 96 0 (sym e))
      go true s false u t v w x e = absurd (other 95 1 (sym e))
      go false s u t v w x y e = absurd (other 95 0 (sym e))

  pub zone_passing : (at : ℕ) → lookup_of zb lb zone asked ≡ Zone at → Passing false zb × Passing true lb
  zone_passing at = in_order_lem (Zone at) (λ n b e. never (cc))

  pub line_passing : (at : ℕ) → lookup_of zb lb zone asked ≡ Line at → Passing false zb × Passing true lb
  line_passing at = in_order_lem (Line at) (λ n b e. never (cc))

  pub nothing_passing : lookup_of zb lb zone asked ≡ Nothing → Passing false zb × Passing true lb
  nothing_passing = in_order_lem Nothing (λ n b e. never (cc))

-- two books that pass
module _ {zb lb : List ℕ} (z : Passing false zb) (l : Passing true lb) (zone asked : ℕ) where
  pub both_pass : lookup_of zb lb zone asked ≡ told (best_in zone asked zb (places_of zb)) (best_in 0 asked lb
      (places_of lb))
  unfolding lookup_of
  both_pass = rw (z.sound, l.sound, z.once, l.once) refl

  -- THEOREM 1, the zone book: exactly
  pub zone_tells : (at : ℕ) → lookup_of zb lb zone asked ≡ Zone at → Tells zone asked zb at
  zone_tells at e = go (best_in zone asked zb (places_of zb)) (best_in 0 asked lb (places_of lb)) refl
      (sym both_pass ∙ e)
    where
      go : (a d : ℕ) → best_in zone asked zb (places_of zb) ≡ a → told a d ≡ Zone at → Tells zone asked zb at
      go (suc p) d a-is f =
          let same : at ≡ place_at p + 6 = cc in record { place = p; highest = best_highest z p a-is; there = same }
      go zero (suc p) a-is f = never (cc)
      go zero zero a-is f = never (cc)

  pub tells_zone : (at : ℕ) → Tells zone asked zb at → lookup_of zb lb zone asked ≡ Zone at
  tells_zone at t = both_pass ∙ rw (highest_best z t.place t.highest, t.there) refl

  -- the line book: exactly if no entry of the zone book fits
  pub line_tells : (at : ℕ) → lookup_of zb lb zone asked ≡ Line at → NoneFits zone asked zb × Tells 0 asked lb at
  line_tells at e = go (best_in zone asked zb (places_of zb)) (best_in 0 asked lb (places_of lb)) refl refl
      (sym both_pass ∙ e)
    where
      go : (a d : ℕ) → best_in zone asked zb (places_of zb) ≡ a → best_in 0 asked lb (places_of lb) ≡ d
          → told a d ≡ Line at
          → NoneFits zone asked zb × Tells 0 asked lb at
      go (suc p) d a-is d-is f = never (cc)
      go zero (suc p) a-is d-is f =
          let same : at ≡ place_at p + 6 = cc in
          (best_none z a-is, record { place = p; highest = best_highest l p d-is; there = same })
      go zero zero a-is d-is f = never (cc)

  pub tells_line : (at : ℕ) → NoneFits zone asked zb → Tells 0 asked lb at → lookup_of zb lb zone asked ≡ Line at
  tells_line at n t = both_pass ∙ rw (none_best z n, highest_best l t.place t.highest, t.there) refl

  -- 97: exactly if no entry of either book fits
  pub nothing_fits : lookup_of zb lb zone asked ≡ Nothing → NoneFits zone asked zb × NoneFits 0 asked lb
  nothing_fits e = go (best_in zone asked zb (places_of zb)) (best_in 0 asked lb (places_of lb)) refl refl
      (sym both_pass ∙ e)
    where
      go : (a d : ℕ) → best_in zone asked zb (places_of zb) ≡ a → best_in 0 asked lb (places_of lb) ≡ d
          → told a d ≡ Nothing
          → NoneFits zone asked zb × NoneFits 0 asked lb
      go (suc p) d a-is d-is f = never (cc)
      go zero (suc p) a-is d-is f = never (cc)
      go zero zero a-is d-is f = (best_none z a-is, best_none l d-is)

  pub fits_nothing : NoneFits zone asked zb → NoneFits 0 asked lb → lookup_of zb lb zone asked ≡ Nothing
  fits_nothing n m = both_pass ∙ rw (none_best z n, none_best l m) refl

-- zone 0 never fits in the zone book, and setting 0 fits nowhere
pub zone_zero : {zb : List ℕ} → Passing false zb → (asked : ℕ) → NoneFits 0 asked zb
unfolding sound_entry
zone_zero {zb} z asked q f =
    let e : List ℕ = entry_at zb q in
    let s : sound_entry false e ≡ true = entry_sound z q f.inside f.taken in
    let own : not (eqb (zone_of e) 0) ≡ true = and_right (zeros (take 9 (drop 15 e))) _
    (and_right (valid_bytes (dialect_of e)) _ (and_right (leb 1 (setting_of e)) _ s)) in
    let zero_is : not (eqb (zone_of e) 0) ≡ false = rw (eq-eqb (zone_of e) 0 f.zoned) refl in
    clash own zero_is

pub setting_zero : {line : Bool} {book : List ℕ} → Passing line book → (zone : ℕ) → NoneFits zone 0 book
setting_zero b zone q f = omega (arith, positive b q f, f.upto)

-- THEOREM 2: the part
module _ (zb lb : List ℕ) {a : Looked} where
  pub part_in_zone : {at : ℕ} → a ≡ Zone at → part_of a zb lb ≡ take 9 (drop at zb)
  part_in_zone e = rw e refl

  pub part_in_line : {at : ℕ} → a ≡ Line at → part_of a zb lb ≡ take 9 (drop at lb)
  part_in_line e = rw e refl

  pub part_away : {n b : ℕ} → a ≡ Refused n b → part_of a zb lb ≡ []
  part_away e = rw e refl

  pub part_of_nothing : a ≡ Nothing → part_of a zb lb ≡ []
  part_of_nothing e = rw e refl

-- the nine bytes at a place are those of its entry
pub part_is_dialect : (book : List ℕ) (p : ℕ) → take 9 (drop (place_at p + 6) book) ≡ dialect_of (entry_at book p)
unfolding entry_at
part_is_dialect book p =
    let tail : List ℕ = drop (place_at p) book in
    let cut : drop 6 (take 24 tail) ≡ take 18 (drop 6 tail) = drop_take 6 24 tail in
    sym (ap (take 9) cut ∙ take-take 9 18 (drop 6 tail) (omega arith) ∙ ap (take 9) (drop-drop 6 (place_at p) book))

-- the bytes of a lookup are valid dialect bytes, so they are never empty
pub told_valid : {line : Bool} {book : List ℕ} → Passing line book → (zone asked at : ℕ) → Tells zone asked book at
    → valid_bytes (take 9 (drop at book)) ≡ true
unfolding sound_entry
told_valid {line} {book} b zone asked at t =
    let f : Fitting zone asked book t.place = t.highest.fitting in
    let e : List ℕ = entry_at book t.place in
    let s : sound_entry line e ≡ true = entry_sound b t.place f.inside f.taken in
    rw (t.there, part_is_dialect book t.place)
    (and_left (valid_bytes (dialect_of e)) _ (and_right (leb 1 (setting_of e)) _ s))

module _ {zone asked : ℕ} {a b : List ℕ} where
  fits_there : Within zone a b → (p : ℕ) → Fitting zone asked a p → Holds b (entry_at a p)
  fits_there w p f = w.held p f.inside f.taken f.zoned

  moved_fits : (p : ℕ) → Fitting zone asked a p → (h : Holds b (entry_at a p)) → Fitting zone asked b h.place
  moved_fits p f h = record {
    inside = h.inside;
    taken = rw h.is f.taken;
    zoned = rw h.is f.zoned;
    upto = rw h.is f.upto;
  }

-- if the entries of b are in a, what holds of the fitting entries of a holds of those of b
pub none_moves : {zone asked : ℕ} {a b : List ℕ} → Within zone b a → NoneFits zone asked a → NoneFits zone asked b
none_moves w n q f = let h = fits_there w q f in n h.place (moved_fits q f h)

pub highest_moves : {zone asked : ℕ} {a b : List ℕ} → Within zone b a → (p : ℕ) → Highest zone asked a p
    → (h : Holds b (entry_at a p)) → Highest zone asked b h.place
highest_moves {zone} {asked} {a} {b} w p high h = record {
  fitting = moved_fits p high.fitting h;
  most = λ q f.
      let g = fits_there w q f in
      let le : setting_of (entry_at a g.place) ≤ setting_of (entry_at a p) = high.most g.place (moved_fits q f g) in
      rw h.is (rw g.is at le);
}

-- THEOREM 3: two zone books that pass and have the same set of this zone's entries give the same bytes, or both 97
module _ {a b lb : List ℕ} (pa : Passing false a) (pb : Passing false b) (l : Passing true lb) (zone asked : ℕ)
    (to : Within zone a b) (back : Within zone b a) where
  pub same_part : part_of (lookup_of a lb zone asked) a lb ≡ part_of (lookup_of b lb zone asked) b lb
  same_part = go (best_in zone asked a (places_of a)) refl
    where
      line : (d : ℕ) → part_of (told 0 d) a lb ≡ part_of (told 0 d) b lb
      line zero = refl
      line (suc p) = refl

      go : (n : ℕ) → best_in zone asked a (places_of a) ≡ n
          → part_of (lookup_of a lb zone asked) a lb ≡ part_of (lookup_of b lb zone asked) b lb
      go zero e =
          let f : best_in zone asked b (places_of b) ≡ 0 = none_best pb (none_moves back (best_none pa e)) in
          rw (both_pass pa l zone asked, both_pass pb l zone asked, e, f) (line (best_in 0 asked lb (places_of lb)))
      go (suc p) e =
          let high : Highest zone asked a p = best_highest pa p e in
          let h : Holds b (entry_at a p) = fits_there to p high.fitting in
          let f : best_in zone asked b (places_of b) ≡ suc h.place =
          highest_best pb h.place (highest_moves back p high h) in
          rw (both_pass pa l zone asked, both_pass pb l zone asked, e, f)
          (part_is_dialect a p ∙ ap dialect_of (sym h.is) ∙ sym (part_is_dialect b h.place))

  pub same_nothing : lookup_of a lb zone asked ≡ Nothing → lookup_of b lb zone asked ≡ Nothing
  same_nothing e = let n = nothing_fits pa l zone asked e in
      fits_nothing pb l zone asked (none_moves back n.0) n.1

pub keeps_within : {zone : ℕ} {a b : List ℕ} → Keeps zone a b → Within zone a b
keeps_within k = record {
  held = λ p h t z. let w = k.kept p h t z in record { place = p; inside = w.0; is = w.1 };
}

pub same_place : {a b lb : List ℕ} → Passing false a → Passing false b → Passing true lb → (zone asked : ℕ)
    → Keeps zone a b → Keeps zone b a → lookup_of a lb zone asked ≡ lookup_of b lb zone asked
same_place {a} {b} {lb} pa pb l zone asked to back = go (best_in zone asked a (places_of a)) refl
  where
    go : (n : ℕ) → best_in zone asked a (places_of a) ≡ n → lookup_of a lb zone asked ≡ lookup_of b lb zone asked
    go zero e =
        let f : best_in zone asked b (places_of b)
        ≡ 0 = none_best pb (none_moves (keeps_within back) (best_none pa e)) in
        rw (both_pass pa l zone asked, both_pass pb l zone asked, e, f) refl
    go (suc p) e =
        let high : Highest zone asked a p = best_highest pa p e in
        let own : Fitting zone asked a p = high.fitting in
        let k = to.kept p own.inside own.taken own.zoned in
        let h : Highest zone asked b p =
        highest_moves (keeps_within back) p high record { place = p; inside = k.0; is = k.1 } in
        let f : best_in zone asked b (places_of b) ≡ suc p = highest_best pb p h in
        rw (both_pass pa l zone asked, both_pass pb l zone asked, e, f) refl
