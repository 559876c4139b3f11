-- The writing pass of the reader. The invariant of its loop is `Stored`: the buffers hold the parts read so far, which
-- are the words of the closed parts and of the open text, and all their text bytes. Each form writes the two words of
-- the last part again: a byte of text makes the open text longer, so its pair is written over itself, and an expression
-- gets a new pair (`Last`, `over_again`). A byte of text is written after the bytes so far (`over_next`). There is
-- room, because the parts so far are no more than all parts (`parts_fit`, `texts_fit`, `run_short`). Cite `store_on`
-- for a turn, `store_words` and `store_texts` for the end. Assumes nothing.
use mathlib.Core.Path.{◌≡◌, refl, sym, ap, ◌∙◌}
use mathlib.Core.Bool.{Bool, true, false}
use mathlib.Core.List.{List, [], ◌∷◌, ◌++◌, append_assoc, append-nil}
use Prim.Native.Nat.{ℕ, ◌+◌, ◌*◌, ◌-◌, ◌<◌, ◌≤◌}
use native.Mathlib.Omega.{arith}
use lib.ListN.{length, take, drop, set, length-append}
use lib.Seq.{take-append_seam, drop-append-add, drop-drop}
use lib.Dec.{ltb}
use borrow.Author.Tests.{ltb-true}
use Rattle.fields.proofs.Basics.{and_left, and_right}
use Rattle.fields.proofs.Over.{over_none, over_sets, over_front, length_over, over_next}
use Rattle.fields.specs.Over.{over}
use Rattle.fstring.specs.Parts.{Part, text, none, repr, text_in, leading_text, behind_text, text_before, texts_of}
use Rattle.fstring.specs.Parts.{words_of, kind_of}
use Rattle.fstring.specs.Parts.{is_short}
use Rattle.fstring.specs.Reading.{first_form, parts_in, is_stray}
use Rattle.fstring.specs.Steps.{is_literal, literal, form_kind, width_of, begun, run_on, kept, byte_of, Readable}
use Rattle.fstring.specs.declared.Form.{Form}
use Rattle.fstring.specs.declared.Form.TheVariants.{Plain, Doubled, Empty, Converted, Stray}
use Rattle.fstring.proofs.Joining.{closed, next_done, next_open, Reached, reached_start, reached_legal}
use Rattle.fstring.proofs.Joining.{reached_on, reached_end, texts_append, texts_closed, texts_next}
use Rattle.fstring.proofs.Joining.{run_next, parts_next}
use Rattle.fstring.proofs.Tallying.{short_append}
use Rattle.fstring.proofs.Normal.{texts_before}

-- a byte of text or none, by the test of the code
module _ (c at : ℕ) (d : List ℕ) where
  pub kept_room : {l : Bool} → at + length (kept l c) ≤ length d → l ≡ true → at < length d
  kept_room h e = let g : at + 1 ≤ length d = rw e at h in omega arith

  pub kept_byte : {l : Bool} → at + length (kept l c) ≤ length d → l ≡ true
      → (at + 1 ≡ at + length (kept l c)) × (set d at c ≡ over at (kept l c) d)
  kept_byte h e = (rw e refl, rw e (over_sets at (c ∷ []) d (rw e at h)))

  pub kept_none : {l : Bool} → l ≡ false → (at ≡ at + length (kept l c)) × (d ≡ over at (kept l c) d)
  kept_none e = (rw e (omega arith), rw e (sym (over_none at d)))

kept_literal : (f : Form) → kept (is_literal f) (byte_of f) ≡ literal f
kept_literal (Plain c) = refl
kept_literal (Doubled c) = refl
kept_literal Empty = refl
kept_literal Converted = refl
kept_literal Stray = refl

-- LAW: bytes that were written at a place are overwritten by as many or more
pub over_again : (p x y d : List ℕ) → length x ≤ length y
    → over (length p) y (over 0 (p ++ x) d) ≡ over 0 (p ++ y) d
unfolding over
over_again p x y d h =
    let rest : List ℕ = drop (length (p ++ x)) d in
    let front : over 0 (p ++ x) d ≡ p ++ (x ++ drop (length (p ++ x)) d) =
    over_front (p ++ x) d ∙ append_assoc p x (drop (length (p ++ x)) d) in
    let k : length y ≡ length x + (length y - length x) = omega arith in
    let behind : drop (length y) (x ++ drop (length (p ++ x)) d) ≡ drop (length (p ++ y)) d =
    ap (λ (m : ℕ). drop m (x ++ drop (length (p ++ x)) d)) k
    ∙ drop-append-add x (drop (length (p ++ x)) d) (length y - length x)
    ∙ drop-drop (length y - length x) (length (p ++ x)) d
    ∙ ap (λ (m : ℕ). drop m d)
    {x = length (p ++ x) + (length y - length x)} {y = length (p ++ y)}
    (omega (arith, length-append p x, length-append p y)) in
    ap (λ (z : List ℕ). over (length p) y z) front
    ∙ ap (λ (a : List ℕ). a ++ (y ++ drop (length p + length y) (p ++ (x ++ drop (length (p ++ x)) d))))
    (take-append_seam p (x ++ drop (length (p ++ x)) d))
    ∙ ap (λ (a : List ℕ). p ++ (y ++ a))
    (drop-append-add p (x ++ drop (length (p ++ x)) d) (length y) ∙ behind)
    ∙ sym (over_front (p ++ y) d ∙ append_assoc p y (drop (length (p ++ y)) d))

pub words_append : (ps qs : List Part) → words_of (ps ++ qs) ≡ words_of ps ++ words_of qs
unfolding words_of
words_append [] qs = refl
words_append (p ∷ ps) qs = ap (λ (x : List ℕ). kind_of p ∷ length (text_in p) ∷ x) (words_append ps qs)

pub words_long : (ps : List Part) → length (words_of ps) ≡ 2 * length ps
unfolding words_of
words_long [] = refl
words_long (p ∷ ps) = omega (arith, words_long ps)

-- the words so far are those of the closed parts and of the open text; the last pair is the one that a form writes
pub record Last (f : Form) (done : List Part) (u : List ℕ) : Type 0 where
  pub front : List ℕ
  pub old : List ℕ
  pub short : length old ≤ 2
  pub was : words_of (done ++ closed u) ≡ front ++ old
  pub is : words_of (next_done f done u ++ closed (next_open f u))
      ≡ front ++ (form_kind f ∷ length (next_open f u) ∷ [])

last_text : (done : List Part) (u : List ℕ) (c : ℕ)
    → words_of (done ++ closed (u ++ (c ∷ []))) ≡ words_of done ++ (0 ∷ length (u ++ (c ∷ [])) ∷ [])
unfolding words_of
last_text done [] c = words_append done (text (c ∷ []) ∷ [])
last_text done (x ∷ u) c = words_append done (text (x ∷ (u ++ (c ∷ []))) ∷ [])

closed_short : (u : List ℕ) → length (words_of (closed u)) ≤ 2
unfolding words_of
closed_short [] = omega arith
closed_short (c ∷ t) = omega arith

last_part : (done : List Part) (u : List ℕ) (p : Part)
    → words_of ((done ++ (closed u ++ (p ∷ []))) ++ []) ≡ words_of (done ++ closed u) ++ words_of (p ∷ [])
last_part done u p =
    ap words_of (append-nil (done ++ (closed u ++ (p ∷ []))) ∙ sym (append_assoc done (closed u) (p ∷ [])))
    ∙ words_append (done ++ closed u) (p ∷ [])

-- a byte of text writes the pair of the open text again, an expression writes a new pair
module _ (f : Form) (done : List Part) (u : List ℕ) where
  abbrev Ends : List ℕ → Type 0
  Ends before = words_of (next_done f done u ++ closed (next_open f u))
      ≡ before ++ (form_kind f ∷ length (next_open f u) ∷ [])

  last_again : Ends (words_of done) → Last f done u
  last_again e = record {
    front = words_of done;
    old = words_of (closed u);
    short = closed_short u;
    was = words_append done (closed u);
    is = e;
  }

  last_new : Ends (words_of (done ++ closed u)) → Last f done u
  last_new e = record {
    front = words_of (done ++ closed u);
    old = [];
    short = omega arith;
    was = sym (append-nil (words_of (done ++ closed u)));
    is = e;
  }

pub last_of_lem : (f : Form) (done : List Part) (u : List ℕ) → Last f done u
unfolding words_of
last_of_lem (Plain c) done u = last_again (Plain c) done u (last_text done u c)
last_of_lem (Doubled c) done u = last_again (Doubled c) done u (last_text done u c)
last_of_lem Empty done u = last_new Empty done u (last_part done u none)
last_of_lem Converted done u = last_new Converted done u (last_part done u repr)
last_of_lem Stray done u = last_new Stray done u (last_part done u none)

-- the parts so far are no more than all parts
module _ {t left : List ℕ} {done : List Part} {u : List ℕ} (s : Reached t left done u) where
  more_parts : (ps : List Part) → length (closed u) ≤ length (text_before u ps)
  unfolding text_before
  more_parts ps = go u
    where
      go : (v : List ℕ) → length (closed v) ≤ length (text_before v ps)
      go [] = omega arith
      go (c ∷ v) = omega arith

  pub parts_fit : length done + length (closed u) ≤ length (parts_in 0 t)
  parts_fit = omega (
    arith,
    ap length s.read,
    length-append done (text_before u (parts_in 0 left)),
    more_parts (parts_in 0 left),
  )

  pub texts_fit : length (texts_of done) + length u ≤ length (texts_of (parts_in 0 t))
  texts_fit = omega (
    arith,
    ap (λ (x : List Part). length (texts_of x)) s.read,
    ap length (texts_append done (text_before u (parts_in 0 left))),
    length-append (texts_of done) (texts_of (text_before u (parts_in 0 left))),
    ap length (texts_before u (parts_in 0 left)),
    length-append u (texts_of (parts_in 0 left)),
  )

  short_before : (v : List ℕ) (ps : List Part) → is_short (text_before v ps) ≡ true → length v < 4294967296
  unfolding text_before is_short
  short_before [] ps e = omega arith
  short_before (c ∷ v) ps e = omega (
    arith,
    length-append v (leading_text ps),
    ltb-true (length (c ∷ (v ++ leading_text ps))) 4294967296
        (and_left (ltb (length (c ∷ (v ++ leading_text ps))) 4294967296) (is_short (behind_text ps)) e),
  )

  pub run_short : is_short (parts_in 0 t) ≡ true → length u < 4294967296
  run_short e = short_before u (parts_in 0 left)
      (and_right (is_short done) _
      (sym (short_append done (text_before u (parts_in 0 left))) ∙ sym (ap is_short s.read) ∙ e))

pub record Stored (t w x left words bytes : List ℕ) (count n run : ℕ) : Type 0 where
  pub done : List Part
  pub u : List ℕ
  pub at : Reached t left done u
  pub can : Readable t (length w) (length x)
  pub run_is : run ≡ length u
  pub count_is : count ≡ length done + length (closed u)
  pub n_is : n ≡ length (texts_of done) + length u
  pub words_are : words ≡ over 0 (words_of (done ++ closed u)) w
  pub bytes_are : bytes ≡ over 0 (texts_of done ++ u) x

pub store_start : (t w x : List ℕ) → Readable t (length w) (length x) → Stored t w x t w x 0 0 0
unfolding words_of texts_of
store_start t w x can = record {
  done = [];
  u = [];
  at = reached_start t;
  can = can;
  run_is = refl;
  count_is = refl;
  n_is = refl;
  words_are = sym (over_none 0 w);
  bytes_are = sym (over_none 0 x);
}

module _ {t w x left words bytes : List ℕ} {count n run : ℕ} (s : Stored t w x left words bytes count n run) where
  abbrev so_far : List Part
  so_far = s.done ++ closed s.u

  so_long : length (words_of so_far) ≤ length w
  so_long = omega (
    arith,
    words_long so_far,
    length-append s.done (closed s.u),
    parts_fit s.at,
    s.can.words_fit,
  )

  texts_long : length (texts_of s.done ++ s.u) ≤ length x
  texts_long = omega (arith, length-append (texts_of s.done) s.u, texts_fit s.at, s.can.bytes_fit)

  pub words_keep : length words ≡ length w
  words_keep = ap length s.words_are ∙ length_over 0 (words_of so_far) w (omega (arith, so_long))

  pub bytes_keep : length bytes ≡ length x
  bytes_keep = ap length s.bytes_are ∙ length_over 0 (texts_of s.done ++ s.u) x (omega (arith, texts_long))

  pub store_small : run < 4294967296
  store_small = omega (arith, s.run_is, run_short s.at s.can.short)

  module _ (h : 0 < length left) {f : Form} (f-is : f ≡ first_form left) where
    calm : is_stray f ≡ false
    calm = reached_legal s.at h f-is s.can.legal

    module _ {v : ℕ} (v-is : v ≡ width_of f) where
      next : Reached t (take (length left - v) (drop v left)) (next_done f s.done s.u) (next_open f s.u)
      next = reached_on s.at h f-is calm v-is

    -- the same where the width of the form is written out, for facts that do not mention what is left
    there : Reached t (take (length left - width_of f) (drop (width_of f) left)) (next_done f s.done s.u)
        (next_open f s.u)
    there = next refl

    module _ {l : Bool} (l-is : l ≡ is_literal f) {p : ℕ} (p-is : p ≡ begun l run) where
      now_count : count + p ≡ length (next_done f s.done s.u) + length (closed (next_open f s.u))
      now_count =
          let q : p ≡ begun (is_literal f) (length s.u) = p-is ∙ rw (l-is, s.run_is) refl in
          omega (arith, s.count_is, parts_next f s.done s.u)

      last : Last f s.done s.u
      last = last_of_lem f s.done s.u

      front_long : length last.front + 2 ≡ 2 * (count + p)
      front_long = omega (
        arith,
        now_count,
        ap length last.is,
        length-append last.front (form_kind f ∷ length (next_open f s.u) ∷ []),
        words_long (next_done f s.done s.u ++ closed (next_open f s.u)),
        length-append (next_done f s.done s.u) (closed (next_open f s.u)),
      )

      pub store_room : (1 ≤ count + p) × (2 * (count + p) ≤ length words)
      store_room = (omega (arith, front_long), omega (arith, now_count, parts_fit there, s.can.words_fit, words_keep))

      pub store_count : 2 * (count + p) ≤ length words
      store_count = store_room.1

      module _ {r : ℕ} (r-is : r ≡ run_on l run) where
        now_run : r ≡ length (next_open f s.u)
        now_run = r-is ∙ rw (l-is, s.run_is) (sym (run_next f s.u))

        pub store_run : r < 4294967296
        store_run = rw now_run (run_short there s.can.short)

        module _ {c : ℕ} (c-is : c ≡ byte_of f) where
          kept_is : kept l c ≡ literal f
          kept_is = rw (l-is, c-is) (kept_literal f)

          now_texts : length (texts_of (next_done f s.done s.u)) + length (next_open f s.u)
              ≡ n + length (kept l c)
          now_texts = omega (
            arith,
            s.n_is,
            ap length kept_is,
            ap length (texts_next f s.done s.u),
            length-append (texts_of (next_done f s.done s.u)) (next_open f s.u),
            length-append (texts_of s.done ++ s.u) (literal f),
            length-append (texts_of s.done) s.u,
          )

          pub store_byte : n + length (kept l c) ≤ length bytes
          store_byte = omega (arith, now_texts, texts_fit there, s.can.bytes_fit, bytes_keep)

          module _ {k : ℕ} (k_is : k ≡ form_kind f) {o : List ℕ}
              (o_is : o ≡ over (2 * (count + p) - 2) (k ∷ r ∷ []) words) {m : ℕ} (m_is : m ≡ n + length (kept l c))
              {y : List ℕ} (y-is : y ≡ over n (kept l c) bytes) {v : ℕ} (v-is : v ≡ width_of f) where
            now_words : o ≡ over 0 (words_of (next_done f s.done s.u ++ closed (next_open f s.u))) w
            now_words =
                let e : 2 * (count + p) - 2 ≡ length last.front = omega (arith, front_long) in
                let pair : (k ∷ r ∷ []) ≡ form_kind f ∷ length (next_open f s.u) ∷ [] = rw (k_is, now_run) refl in
                o_is ∙ ap (λ (i : ℕ). over i (k ∷ r ∷ []) words) e
                ∙ ap (λ (z : List ℕ). over (length last.front) z words) pair
                ∙ ap (over (length last.front) (form_kind f ∷ length (next_open f s.u) ∷ []))
                (s.words_are ∙ ap (λ (z : List ℕ). over 0 z w) last.was)
                ∙ over_again last.front last.old (form_kind f ∷ length (next_open f s.u) ∷ []) w last.short
                ∙ ap (λ (z : List ℕ). over 0 z w) (sym last.is)

            now_bytes : y ≡ over 0 (texts_of (next_done f s.done s.u) ++ next_open f s.u) x
            now_bytes =
                let e : n ≡ 0 + length (texts_of s.done ++ s.u) =
                omega (arith, s.n_is, length-append (texts_of s.done) s.u) in
                y-is ∙ ap (λ (i : ℕ). over i (kept l c) bytes) e
                ∙ ap (λ (z : List ℕ). over (0 + length (texts_of s.done ++ s.u)) z bytes) kept_is
                ∙ ap (over (0 + length (texts_of s.done ++ s.u)) (literal f)) s.bytes_are
                ∙ over_next 0 (texts_of s.done ++ s.u) x (literal f)
                ∙ ap (λ (z : List ℕ). over 0 z x) (sym (texts_next f s.done s.u))

            pub store_on : Stored t w x (take (length left - v) (drop v left)) o y (count + p) m r
            store_on = record {
              done = next_done f s.done s.u;
              u = next_open f s.u;
              at = next v-is;
              can = s.can;
              run_is = now_run;
              count_is = now_count;
              n_is = m_is ∙ sym now_texts;
              words_are = now_words;
              bytes_are = now_bytes;
            }

  module _ (h : length left ≤ 0) where
    pub store_words : words ≡ over 0 (words_of (parts_in 0 t)) w
    store_words = s.words_are ∙ ap (λ (ps : List Part). over 0 (words_of ps) w) (sym (reached_end s.at h).0)

    pub store_texts : bytes ≡ over 0 (texts_of (parts_in 0 t)) x
    store_texts = s.bytes_are ∙ ap (λ (z : List ℕ). over 0 z x)
        (sym (ap texts_of (reached_end s.at h).0 ∙ texts_append s.done (closed s.u)
        ∙ ap (λ (z : List ℕ). texts_of s.done ++ z) (texts_closed s.u)))
