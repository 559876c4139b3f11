-- The words of parts are read two by two from the front. So each definition over words has a law for its first two
-- words (`sound_step`, `total_step`, `parts_step`), and each loop has an invariant about the words that are left.
-- `Counting`: the words and text bytes that are left are whole exactly if all are. `Spending`: the room left after the
-- format text of the parts that are left is the room left after all of it. One part keeps both, by the laws of its two
-- words. Lengths are counted down, so that no sum can wrap. There is no induction here; the loops do it. Cite
-- `count_on`, `count_end` for 64, and `spend_on`, `spend_stop`, `spend_end` for the room. Assumes nothing.
use Rattle.std.specs.Prelude.{None, Option, Some, ℕ}
use mathlib.Core.Path.{◌≡◌, refl, sym, ap, ◌∙◌}
use mathlib.Core.Bool.{Bool, true, false, ◌&&◌}
use mathlib.Core.List.{List, [], ◌∷◌, ◌++◌}
use Prim.Native.Nat.{ℕ, zero, suc, ◌+◌, ◌-◌, ◌%◌, ◌<◌, ◌≤◌}
use native.Mathlib.Nat.{sub-zero}
use native.Mathlib.Omega.{arith}
use lib.ListN.{length, get_or, take, drop, length-append, length-drop}
use lib.Dec.{leb, eqb, eqb-suc-zero, eqb-zero-suc}
use borrow.Author.Tests.{eq-eqb, ne_eqb, eqb-true, eqb-false}
use Rattle.fields.proofs.Basics.{and_left, and_right, and_both}
use Rattle.fields.proofs.Fields.{tail_part}
use Rattle.fstring.specs.Parts.{form_of, format_of}
use Rattle.fstring.specs.Words.{text_length, sound_part, sound, total, is_whole, part_of, parts_of}
use Rattle.fstring.specs.Writing.{text_for}
use Rattle.fstring.specs.Steps.{leaving}
use Rattle.fstring.proofs.Sizes.{leaving_none, leaving_both, leaving_over, leaving_not, leaving_left}

-- the two words of a part, by the tests of the code
module _ (kind n : ℕ) where
  pub length_text : kind ≡ 0 → n ≡ text_length kind n
  unfolding text_length
  length_text e = rw e refl

  pub length_other : (kind ≡ 0 → ⊥) → 0 ≡ text_length kind n
  unfolding text_length
  length_other e = rw (ne_eqb kind 0 e) refl

  pub sound_text : kind ≡ 0 → true ≡ sound_part kind n
  unfolding sound_part
  sound_text e = rw e refl

  pub sound_other : (kind ≡ 0 → ⊥) → (leb kind 3 && eqb n 0) ≡ sound_part kind n
  unfolding sound_part
  sound_other e = rw (ne_eqb kind 0 e) refl

-- the first part of words: its text bytes, and whether it is sound
abbrev pub first_length : List ℕ → ℕ
first_length ws = text_length (get_or ws 0 0) (get_or ws 1 0)

abbrev pub first_sound : List ℕ → Bool
first_sound ws = sound_part (get_or ws 0 0) (get_or ws 1 0)

pub sound_step : (ws : List ℕ) → 2 ≤ length ws → sound ws ≡ (first_sound ws && sound (drop 2 ws))
unfolding sound
sound_step [] h = absurd (omega arith)
sound_step (x ∷ []) h = absurd (omega arith)
sound_step (x ∷ y ∷ ws) h = refl

pub total_step : (ws : List ℕ) → 2 ≤ length ws → total ws ≡ first_length ws + total (drop 2 ws)
unfolding total
total_step [] h = absurd (omega arith)
total_step (x ∷ []) h = absurd (omega arith)
total_step (x ∷ y ∷ ws) h = refl

pub parts_step : (ws ts : List ℕ) → 2 ≤ length ws
    → text_for ws ts
    ≡ form_of (part_of (get_or ws 0 0) (take (first_length ws) ts)) ++ text_for (drop 2 ws) (drop (first_length ws) ts)
unfolding parts_of format_of text_for
parts_step [] ts h = absurd (omega arith)
parts_step (x ∷ []) ts h = absurd (omega arith)
parts_step (x ∷ y ∷ ws) ts h = refl

pub parts_past : (ws ts : List ℕ) → length ws < 2 → text_for ws ts ≡ []
unfolding parts_of format_of text_for
parts_past [] ts h = refl
parts_past (x ∷ []) ts h = refl
parts_past (x ∷ y ∷ ws) ts h = absurd (omega arith)

-- the two words at the front of those that are left, as an iterator over two words each gives them
pub record Pair (left part rest : List ℕ) : Type 0 where
  pub two : 2 ≤ length left
  pub kind : get_or left 0 0 ≡ get_or part 0 0
  pub count : get_or left 1 0 ≡ get_or part 1 0
  pub after : drop 2 left ≡ rest

pub pair_of : {left : List ℕ} (part rest : List ℕ) {size : ℕ} → size ≡ 2 → left ≡ part ++ rest → length part ≡ size
    → Pair left part rest
pair_of part rest size-is is long = rw is (go part rest (omega arith))
  where
    go : (part rest : List ℕ) → length part ≡ 2 → Pair (part ++ rest) part rest
    go [] rest h = absurd (omega arith)
    go (x ∷ []) rest h = absurd (omega arith)
    go (x ∷ y ∷ []) rest h = record { two = omega arith; kind = refl; count = refl; after = refl }
    go (x ∷ y ∷ z ∷ part) rest h = absurd (omega arith)

-- what the code knows of a part holds of the words that are left
pub length_left : {left part rest : List ℕ} → Pair left part rest → {n : ℕ} → n ≡ first_length part
    → n ≡ first_length left
length_left p n_is = rw (p.kind, p.count) n_is

sound_left : {left part rest : List ℕ} → Pair left part rest → {q : Bool} → q ≡ first_sound part
    → q ≡ first_sound left
sound_left p q-is = rw (p.kind, p.count) q-is

-- the invariant of the loop that decides 64
pub record Counting (ws : List ℕ) (bytes : ℕ) (left : List ℕ) (more : ℕ) : Type 0 where
  pub same : is_whole left more ≡ is_whole ws bytes
  pub even : length left % 2 ≡ length ws % 2

pub count_start : (ws : List ℕ) (bytes : ℕ) {left : List ℕ} → left ≡ ws → Counting ws bytes left bytes
count_start ws bytes is = rw is record { same = refl; even = refl }

eqb_shift : (a b m : ℕ) → a ≤ m → eqb b (m - a) ≡ eqb (a + b) m
eqb_shift a b m h = go (eqb b (m - a)) refl
  where
    go : (t : Bool) → eqb b (m - a) ≡ t → t ≡ eqb (a + b) m
    go true e = let f : b ≡ m - a = eqb-true b (m - a) e in sym (eq-eqb (a + b) m (omega arith))
    go false e = sym (ne_eqb (a + b) m (λ (f : a + b ≡ m). eqb-false b (m - a) e (omega arith)))

zero_first : (m : ℕ) → eqb m 0 ≡ eqb 0 m
zero_first zero = refl
zero_first (suc m) = eqb-suc-zero m ∙ sym (eqb-zero-suc m)

module _ {ws : List ℕ} {bytes : ℕ} {left : List ℕ} {more : ℕ} (s : Counting ws bytes left more) where
  module _ {part rest : List ℕ} (p : Pair left part rest) {q : Bool} (q_is : q ≡ first_sound part) {n : ℕ}
      (n_here : n ≡ first_length part) where
    q-is : q ≡ first_sound left
    q-is = sound_left p q_is

    n_is : n ≡ first_length left
    n_is = length_left p n_here

    pub count_unsound : q ≡ false → false ≡ is_whole ws bytes
    unfolding is_whole
    count_unsound e = sym (rw (sound_step left p.two, ← q-is, e) refl) ∙ s.same

    pub count_over : more < n → false ≡ is_whole ws bytes
    unfolding is_whole
    count_over f =
        let differ : eqb (total left) more ≡ false =
        ne_eqb (total left) more (λ (e : total left ≡ more). absurd (omega (arith, n_is, total_step left p.two))) in
        sym (rw differ (and_false (sound left))) ∙ s.same
      where
        and_false : (b : Bool) → (b && false) ≡ false
        and_false true = refl
        and_false false = refl

    pub count_on : q ≡ true → n ≤ more → Counting ws bytes rest (more - n)
    unfolding is_whole
    count_on e f =
        let shift : eqb (total (drop 2 left)) (more - n) ≡ eqb (total left) more =
        eqb_shift n (total (drop 2 left)) more f
        ∙ ap (λ (m : ℕ). eqb m more)
        (sym (total_step left p.two ∙ ap (λ (m : ℕ). m + total (drop 2 left)) (sym n_is))) in
        let good : sound (drop 2 left) ≡ sound left = sym (rw (sound_step left p.two, ← q-is, e) refl) in
        let all : length (drop 2 left) ≡ length left - 2 = length-drop 2 left in
        record { same = rw (← p.after, shift, good) s.same; even = rw (← p.after) (omega (arith, p.two, s.even)) }

  pub count_end : {size : ℕ} → size ≡ 2 → length left < size
      → (eqb (length ws % 2) 0 && eqb more 0) ≡ is_whole ws bytes
  unfolding is_whole sound total
  count_end size-is few =
      let short : length left < 2 = omega arith in
      let odd : length ws % 2 ≡ length left = omega (arith, s.even) in
      rw odd (go left short) ∙ s.same
    where
      go : (l : List ℕ) → length l < 2 → (eqb (length l) 0 && eqb more 0) ≡ is_whole l more
      go [] f = zero_first more
      go (x ∷ []) f = refl
      go (x ∷ y ∷ l) f = absurd (omega arith)

-- if all words are whole, the first part takes no more text bytes than there are, and the rest is whole
module _ (ws : List ℕ) (bytes : ℕ) (e : is_whole ws bytes ≡ true) (h : 2 ≤ length ws) where
  sums : total ws ≡ bytes
  unfolding is_whole
  sums = eqb-true (total ws) bytes (and_right (sound ws) (eqb (total ws) bytes) e)

  pub first_fits : first_length ws ≤ bytes
  first_fits = omega (arith, sums, total_step ws h)

  pub rest_whole : is_whole (drop 2 ws) (bytes - first_length ws) ≡ true
  unfolding is_whole
  rest_whole = and_both _ _
      (and_right (first_sound ws) _ (sym (sound_step ws h) ∙ and_left (sound ws) (eqb (total ws) bytes) e))
      (eq-eqb (total (drop 2 ws)) (bytes - first_length ws) (omega (arith, sums, total_step ws h)))

pub rest_of : (ws ts : List ℕ) → is_whole ws (length ts) ≡ true → 2 ≤ length ws
    → is_whole (drop 2 ws) (length (drop (first_length ws) ts)) ≡ true
rest_of ws ts e h = rw (length-drop (first_length ws) ts) (rest_whole ws (length ts) e h)

-- the invariant of the loop that counts the room for the parts
pub record Spending (ws ts : List ℕ) (room : ℕ) (left more : List ℕ) (spare : ℕ) : Type 0 where
  pub whole : is_whole left (length more) ≡ true
  pub same : leaving (length (text_for left more)) spare ≡ leaving (length (text_for ws ts)) room

pub spend_start : (ws ts : List ℕ) (room : ℕ) {left : List ℕ} → left ≡ ws → is_whole ws (length ts) ≡ true
    → Spending ws ts room left ts room
spend_start ws ts room is e = rw is record { whole = e; same = refl }

module _ {ws ts : List ℕ} {room : ℕ} {left more : List ℕ} {spare : ℕ} (s : Spending ws ts room left more spare) where
  module _ {part others : List ℕ} (p : Pair left part others) {n : ℕ} (n_here : n ≡ first_length part) where
    here : n ≡ first_length left
    here = length_left p n_here

    pub spend_fits : n ≤ length more
    spend_fits = omega (arith, here, first_fits left (length more) s.whole p.two)

    abbrev size : ℕ
    size = length (form_of (part_of (get_or left 0 0) (take n more)))

    abbrev rest : ℕ
    rest = length (text_for (drop 2 left) (drop n more))

    long : length (text_for left more) ≡ size + rest
    long = ap length (parts_step left more p.two)
        ∙ length-append (form_of (part_of (get_or left 0 0) (take (first_length left) more)))
        (text_for (drop 2 left) (drop (first_length left) more))
        ∙ ap (λ (m : ℕ). length (form_of (part_of (get_or left 0 0) (take m more)))
        + length (text_for (drop 2 left) (drop m more))) (sym here)

    -- the code cuts the text from 0 to n
    module _ {b : Option ℕ}
        (c-is : b ≡ leaving (length (form_of (part_of (get_or part 0 0) (take (n - 0) more)))) spare)
      where
        b_is : b ≡ leaving size spare
        b_is = rw p.kind (rw (sub-zero n) at c-is)

        pub spend_stop : b ≡ None → None ≡ leaving (length (text_for ws ts)) room
        spend_stop e = leaving_over size rest spare (leaving_not size spare (sym b_is ∙ e))
            ∙ ap (λ (m : ℕ). leaving m spare) (sym long) ∙ s.same

        pub spend_on : {m : ℕ} → b ≡ Some m
            → Spending ws ts room others (take (length more - n) (drop n more)) m
        spend_on {m} e =
            let got = leaving_left size spare m (sym b_is ∙ e) in
            record {
              whole = rw (← p.after, tail_part n more, here) (rest_of left more s.whole p.two);
              same = rw (← p.after, tail_part n more, got.1) (leaving_both size rest spare got.0
                  ∙ ap (λ (k : ℕ). leaving k spare) (sym long) ∙ s.same);
            }

  pub spend_end : {size : ℕ} → size ≡ 2 → length left < size → Some spare ≡ leaving (length (text_for ws ts)) room
  spend_end size-is few = leaving_none spare
      ∙ ap (λ (t : List ℕ). leaving (length t) spare) (sym (parts_past left more (omega arith))) ∙ s.same
