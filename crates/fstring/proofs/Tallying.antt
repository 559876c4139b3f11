-- The judging pass of the reader. The invariant of its loop is `Tally`: the numbers that the code has counted are those
-- of the parts read so far (the number of parts, their text bytes, the length of the open text, and whether a text is
-- too long). A form changes the parts by `reached_on`, and each number by its own law (`parts_next`, `bytes_next`,
-- `run_next`, `long_next`). At a stray brace the number of bytes read is its position (`tally_stray`). At the end the
-- numbers are those of all parts, so the tests of the code are those of the definition (`tally_short`, `tally_fits`).
-- Assumes nothing.
use mathlib.Core.Path.{◌≡◌, refl, sym, ap, ◌∙◌}
use mathlib.Core.Bool.{Bool, true, false, not, ◌&&◌, ◌||◌, and_assoc, and-true}
use mathlib.Core.List.{List, [], ◌∷◌, ◌++◌}
use Prim.Native.Nat.{ℕ, ◌+◌, ◌*◌, ◌-◌, ◌/◌, ◌<◌, ◌≤◌}
use native.Mathlib.Omega.{arith}
use lib.ListN.{length, take, drop, length-append, length-drop}
use lib.Dec.{eqb, leb, ltb}
use borrow.Author.Tests.{lt-ltb, le-ltb, ltb-true, ltb-false, le-leb, lt-leb, ne_eqb, eq-eqb}
use Rattle.fields.proofs.Fields.{tail_part}
use Rattle.fields.specs.Choice.{if'}
use Rattle.table.specs.Numbers.{stray_brace, short_buffer}
use Rattle.table.specs.Answer.{accepted, refused}
use Rattle.fstring.specs.Parts.{Part, none, repr, text_in, texts_of, is_short}
use Rattle.fstring.specs.Reading.{first_form, legible, parts_in, is_stray}
use Rattle.fstring.specs.Reading.{fit_check, read_of}
use Rattle.fstring.specs.Steps.{is_literal, begun, run_on, ones, width_of}
use Rattle.fstring.specs.declared.Form.{Form}
use Rattle.fstring.specs.declared.Form.TheVariants.{Plain, Doubled, Empty, Converted, Stray}
use Rattle.fstring.proofs.Joining.{closed, next_done, next_open, Reached, reached_start, reached_stray}
use Rattle.fstring.proofs.Joining.{width_in, width_some, reached_on, reached_end, texts_append, texts_closed}
use Rattle.fstring.proofs.Joining.{run_next}
use Rattle.fstring.proofs.Joining.{bytes_next, parts_next}

abbrev limit : ℕ
limit = 4294967296

-- whether all texts so far are short
pub short_append : (ps qs : List Part) → is_short (ps ++ qs) ≡ (is_short ps && is_short qs)
unfolding is_short
short_append [] qs = refl
short_append (p ∷ ps) qs = ap (λ (x : Bool). ltb (length (text_in p)) limit && x) (short_append ps qs)
    ∙ sym (and_assoc (ltb (length (text_in p)) limit) (is_short ps) (is_short qs))

pub short_closed : (u : List ℕ) → is_short (closed u) ≡ ltb (length u) limit
unfolding is_short
short_closed [] = refl
short_closed (c ∷ t) = and-true (ltb (length (c ∷ t)) limit)

abbrev pub short_so_far : List Part → List ℕ → Bool
short_so_far done u = is_short done && ltb (length u) limit

grown : (done : List Part) (u v : List ℕ) {long : Bool} → long ≡ not (short_so_far done u) → length u ≤ length v
    → (long || ltb 4294967295 (length v)) ≡ not (short_so_far done v)
grown done u v {long} long_is h = go (is_short done) (ltb (length u) limit) (ltb (length v) limit) refl refl
  where
    flip : (b : Bool) → ltb (length v) limit ≡ b → ltb 4294967295 (length v) ≡ not b
    flip true e = le-ltb 4294967295 (length v) (omega (arith, ltb-true (length v) limit e))
    flip false e = lt-ltb 4294967295 (length v) (omega (arith, ltb-false (length v) limit e))

    go : (a x y : Bool) → ltb (length u) limit ≡ x → ltb (length v) limit ≡ y
        → (long || ltb 4294967295 (length v)) ≡ not (is_short done && ltb (length v) limit)
    go a x y x-is y-is =
        all (is_short done) x y x-is y-is (long_is ∙ ap (λ (b : Bool). not (is_short done && b)) x-is) refl
      where
        all : (a x y : Bool) → ltb (length u) limit ≡ x → ltb (length v) limit ≡ y → long ≡ not (is_short done && x)
            → is_short done ≡ a → (long || ltb 4294967295 (length v)) ≡ not (is_short done && ltb (length v) limit)
        all true true true e f l a-is = rw (l, a-is, f, flip true f) refl
        all true true false e f l a-is = rw (l, a-is, f, flip false f) refl
        all true false true e f l a-is =
            absurd (omega (arith, ltb-false (length u) limit e, ltb-true (length v) limit f))
        all true false false e f l a-is = rw (l, a-is, f) refl
        all false x y e f l a-is = rw (l, a-is) refl

short_through : (done : List Part) (u : List ℕ) (p : Part) → text_in p ≡ [] → {long : Bool}
    → long ≡ not (short_so_far done u)
    → (long || false) ≡ not (is_short (done ++ (closed u ++ (p ∷ []))) && true)
unfolding is_short
short_through done u p e {long} long_is =
    rw (long_is, short_append done (closed u ++ (p ∷ [])), short_append (closed u) (p ∷ []), short_closed u, e)
    (same (is_short done) (ltb (length u) limit))
  where
    same : (a b : Bool) → (not (a && b) || false) ≡ not ((a && (b && true)) && true)
    same true true = refl
    same true false = refl
    same false b = refl

pub long_next : (f : Form) (done : List Part) (u : List ℕ) {long : Bool} → long ≡ not (short_so_far done u)
    → (long || ltb 4294967295 (length (next_open f u))) ≡ not (short_so_far (next_done f done u) (next_open f u))
long_next (Plain c) done u e = grown done u (u ++ (c ∷ [])) e (omega (arith, length-append u (c ∷ [])))
long_next (Doubled c) done u e = grown done u (u ++ (c ∷ [])) e (omega (arith, length-append u (c ∷ [])))
long_next Empty done u e = short_through done u none refl e
long_next Converted done u e = short_through done u repr refl e
long_next Stray done u e = short_through done u none refl e

-- the same definitions, by the tests of the code
pub begun_first : {l : Bool} {run : ℕ} → l ≡ true → run ≡ 0 → 1 ≡ begun l run
unfolding begun
begun_first e z = rw (e, z) refl

pub begun_later : {l : Bool} {run : ℕ} → l ≡ true → (run ≡ 0 → ⊥) → 0 ≡ begun l run
unfolding begun
begun_later {l} {run} e z = rw (e, ne_eqb run 0 z) refl

pub begun_part : {l : Bool} (run : ℕ) → l ≡ false → 1 ≡ begun l run
unfolding begun
begun_part run e = rw e refl

pub run_text : {l : Bool} (run : ℕ) → l ≡ true → run + 1 ≡ run_on l run
unfolding run_on
run_text run e = rw e refl

pub run_none : {l : Bool} (run : ℕ) → l ≡ false → 0 ≡ run_on l run
unfolding run_on
run_none run e = rw e refl

begun_few : (b : Bool) (run : ℕ) → begun b run ≤ 1
unfolding begun
begun_few false run = omega arith
begun_few true run = go (eqb run 0)
  where
    go : (t : Bool) → if' t (λ _. 1) (λ _. 0) ≤ 1
    go true = omega arith
    go false = omega arith

ones_few : (b : Bool) → ones b ≤ 1
ones_few false = omega arith
ones_few true = omega arith

pub record Tally (t left : List ℕ) (parts bytes run : ℕ) (long : Bool) : Type 0 where
  pub done : List Part
  pub u : List ℕ
  pub at : Reached t left done u
  pub run_is : run ≡ length u
  pub parts_is : parts ≡ length done + length (closed u)
  pub bytes_is : bytes ≡ length (texts_of done) + length u
  pub long_is : long ≡ not (short_so_far done u)
  pub few : parts + length left ≤ length t
  pub few_bytes : bytes + length left ≤ length t

pub tally_start : (t : List ℕ) → Tally t t 0 0 0 false
unfolding texts_of is_short
tally_start t = record {
  done = [];
  u = [];
  at = reached_start t;
  run_is = refl;
  parts_is = refl;
  bytes_is = refl;
  long_is = refl;
  few = omega arith;
  few_bytes = omega arith;
}

module _ {t left : List ℕ} {parts bytes run : ℕ} {long : Bool} (s : Tally t left parts bytes run long) where
  module _ (h : 0 < length left) where
    pub left_in_lem : length left ≤ length t
    left_in_lem = s.at.upto

    pub run_fits : run + 1 ≤ length t
    run_fits = omega (arith, s.run_is, s.bytes_is, s.few_bytes)

    module _ {f : Form} (f-is : f ≡ first_form left) where
      pub tally_stray : {q : Bool} → q ≡ is_stray f → q ≡ true → (words room : ℕ)
          → refused stray_brace ((length t - length left) ∷ []) ≡ read_of t words room
      unfolding read_of
      tally_stray q-is e words room =
          let p : legible 0 t ≡ length t - length left = reached_stray s.at h f-is (sym q-is ∙ e) in
          rw (
            ne_eqb (legible 0 t) (length t) (λ (q : legible 0 t ≡ length t). absurd (omega (arith, s.at.upto))),
            p,
          ) refl

      module _ {l : Bool} (l-is : l ≡ is_literal f) {p : ℕ} (p-is : p ≡ begun l run) where
        pub add_parts : parts + p ≤ length t
        add_parts = omega (arith, s.few, begun_few l run)

        module _ {n : ℕ} (n_is : n ≡ ones l) where
          pub add_bytes : bytes + n ≤ length t
          add_bytes = omega (arith, s.few_bytes, ones_few l)

          pub tally_on : {q : Bool} → q ≡ is_stray f → q ≡ false → {r : ℕ} → r ≡ run_on l run → {w : ℕ} → w ≡ width_of f
              → Tally t (take (length left - w) (drop w left)) (parts + p) (bytes + n) r (long || ltb 4294967295 r)
          tally_on q-is calm {r} r-is {w} w-is =
              let run-now : r ≡ length (next_open f s.u) =
              r-is ∙ rw (l-is, s.run_is) (sym (run_next f s.u)) in
              let p-now : p ≡ begun (is_literal f) (length s.u) = p-is ∙ rw (l-is, s.run_is) refl in
              let n-now : n ≡ ones (is_literal f) = n_is ∙ ap ones l-is in
              let shorter : length (drop w left) ≡ length left - w = length-drop w left in
              let fits : w ≤ length left = width_in s.at h f-is w-is in
              record {
                done = next_done f s.done s.u;
                u = next_open f s.u;
                at = reached_on s.at h f-is (sym q-is ∙ calm) w-is;
                run_is = run-now;
                parts_is = omega (arith, s.parts_is, parts_next f s.done s.u);
                bytes_is = omega (arith, s.bytes_is, bytes_next f s.done s.u);
                long_is = rw run-now (long_next f s.done s.u s.long_is);
                few = rw (tail_part w left) (omega (arith, s.few, begun_few l run, w-is, width_some f));
                few_bytes = rw (tail_part w left) (omega (arith, s.few_bytes, ones_few l, w-is, width_some f));
              }

  module _ (h : length left ≤ 0) where
    all : parts_in 0 t ≡ s.done ++ closed s.u
    all = (reached_end s.at h).0

    counted : length (parts_in 0 t) ≡ parts
    counted = ap length all ∙ length-append s.done (closed s.u) ∙ sym s.parts_is

    bytes_counted : length (texts_of (parts_in 0 t)) ≡ bytes
    bytes_counted = ap (λ (x : List Part). length (texts_of x)) all
        ∙ ap length (texts_append s.done (closed s.u))
        ∙ length-append (texts_of s.done) (texts_of (closed s.u))
        ∙ ap (λ (x : List ℕ). length (texts_of s.done) + length x) (texts_closed s.u) ∙ sym s.bytes_is

    shorts : is_short (parts_in 0 t) ≡ not long
    shorts = ap is_short all ∙ short_append s.done (closed s.u)
        ∙ ap (λ (b : Bool). is_short s.done && b) (short_closed s.u)
        ∙ twice (short_so_far s.done s.u) ∙ ap not (sym s.long_is)
      where
        twice : (b : Bool) → b ≡ not (not b)
        twice true = refl
        twice false = refl

    module _ (words room : ℕ) where
      test : (leb (2 * parts) words && (leb bytes room && not long))
          ≡ not (ltb (words / 2) parts || (ltb room bytes || long))
      test = go (ltb (words / 2) parts) (ltb room bytes) refl refl
        where
          go : (a b : Bool) → ltb (words / 2) parts ≡ a → ltb room bytes ≡ b
              → (leb (2 * parts) words && (leb bytes room && not long)) ≡ not (a || (b || long))
          go true b a-is b_is =
              rw (lt-leb (2 * parts) words (omega (arith, ltb-true (words / 2) parts a-is))) refl
          go false true a-is b_is =
              rw (
                le-leb (2 * parts) words (omega (arith, ltb-false (words / 2) parts a-is)),
                lt-leb bytes room (ltb-true room bytes b_is),
              ) refl
          go false false a-is b_is =
              rw (
                le-leb (2 * parts) words (omega (arith, ltb-false (words / 2) parts a-is)),
                le-leb bytes room (ltb-false room bytes b_is),
              ) refl

      whole : read_of t words room
          ≡ if' (not (ltb (words / 2) parts || (ltb room bytes || long))) (λ _. accepted (parts ∷ bytes ∷ []))
          (λ _. refused short_buffer [])
      unfolding read_of fit_check
      whole = rw (eq-eqb (legible 0 t) (length t) (reached_end s.at h).1, counted, bytes_counted, shorts, test) refl

      pub tally_short : (ltb (words / 2) parts || (ltb room bytes || long)) ≡ true
          → refused short_buffer [] ≡ read_of t words room
      tally_short e = sym (whole ∙ rw e refl)

      pub tally_fits : (ltb (words / 2) parts || (ltb room bytes || long)) ≡ false
          → accepted (parts ∷ bytes ∷ []) ≡ read_of t words room
      tally_fits e = sym (whole ∙ rw e refl)
