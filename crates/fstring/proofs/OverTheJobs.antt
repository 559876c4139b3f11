-- The four theorems of request W-210, stated about the contracts of `write` and `read`: an answer r with its meaning,
-- and the buffers at exit. The theorems are proved elsewhere about the definitions `write_of` and `read_of`
-- (RoundTrips, Theorems, StrayPlaces). An answer that meets its contract has the meaning that they give, and no two
-- answers have the same meaning (`written_injective`, `got_injective`), so the answer itself is known. Bytes laid
-- over the front of a buffer are followed by what was behind them (`front_of`). Theorem 1 is `write_then_read`,
-- theorem 2 `read_then_write`, theorem 3 `stray_stands`, `stray_found`, `format_not_stray`, `not_stray_format` and
-- `short_is_room`. Assumes nothing.
use Rattle.std.specs.Prelude.{Ok, Result, Some}
use Rattle.table.specs.declared.Refusal.{Refusal}
use mathlib.Core.Path.{◌≡◌, refl, sym, ap, ◌∙◌}
use mathlib.Core.Bool.{Bool, true, false, ◌&&◌}
use mathlib.Core.Logic.{◌⊎◌, inl, inr}
use mathlib.Core.List.{List, [], ◌∷◌, ◌++◌}
use Prim.Native.Nat.{ℕ, ◌*◌, ◌<◌, ◌≤◌}
use native.Mathlib.Omega.{arith}
use lib.ListN.{length, get_or, take, drop}
use lib.Dec.{leb}
use borrow.Author.Tests.{leb-false}
use Rattle.fields.specs.Choice.{if'}
use Rattle.fields.specs.Over.{over}
use Rattle.fields.proofs.Over.{over_front}
use Rattle.fields.proofs.Basics.{never}
use Rattle.dialect.specs.declared.Dialect.{Dialect}
use Rattle.dialect.specs.Bytes.{from_bytes}
use Rattle.table.specs.Answer.{accepted, refused}
use Rattle.table.specs.Numbers.{short_buffer, stray_brace}
use Rattle.fstring.specs.Parts.{Part, opening, closing, is_brace, plain_form, repr_form, format_of, normal, texts_of}
use Rattle.fstring.specs.Parts.{words_of, is_short}
use Rattle.fstring.specs.Words.{parts_of}
use Rattle.fstring.specs.Writing.{notice, write_of, text_after, written}
use Rattle.fstring.specs.Reading.{fit_check, parts_in, read_of, words_after, texts_after, got}
use Rattle.fstring.specs.Claims.{StrayPlace}
use Rattle.fstring.specs.declared.Written.{Written}
use Rattle.fstring.specs.declared.Reading.{Reading}
use Rattle.fstring.specs.declared.Reading.TheVariants.{Accepted as Read, StrayAt, Short}
use Rattle.fstring.proofs.Promises.{written_injective, got_injective}
use Rattle.fstring.proofs.Storing.{words_long}
use Rattle.fstring.proofs.RoundTrips as back
use Rattle.fstring.proofs.Theorems as again
use Rattle.fstring.proofs.StrayPlaces as places
use Rattle.fstring.proofs.Normal.{texts_normal}

-- a buffer after bs was laid over its front, where n is the length of bs
front_of : (n : ℕ) (bs d : List ℕ) {after : List ℕ} → after ≡ over 0 bs d → length bs ≡ n → after ≡ bs ++ drop n d
front_of n bs d is long = is ∙ over_front bs d ∙ ap (λ (m : ℕ). bs ++ drop m d) long

-- THEOREM 1: what `write` has written, `read` gives back as the normal form
module _ (ws ts ds d : List ℕ) (r : Result Written Refusal) (after : List ℕ)
    (r-is : written r ≡ write_of ws ts ds (length d))
    (after_is : after ≡ text_after ws ts ds d) where
  abbrev qs : List Part
  qs = normal (parts_of ws ts)

  pub write_then_read : {n : ℕ} {enabled : Bool} → r ≡ Ok (record { length = n; enabled = enabled })
      → (w x : List ℕ) (s : Reading)
      (w-after x-after : List ℕ) → got s ≡ read_of (take n after) (length w) (length x)
      → w-after ≡ words_after (take n after) w (length x) → x-after ≡ texts_after (take n after) (length w) x
      → 2 * length (normal (parts_of ws ts)) ≤ length w → length ts ≤ length x
      → is_short (normal (parts_of ws ts)) ≡ true
      → (s ≡ Read (length (normal (parts_of ws ts))) (length ts))
      × (w-after ≡ words_of (normal (parts_of ws ts)) ++ drop (2 * length (normal (parts_of ws ts))) w)
      × (x-after ≡ ts ++ drop (length ts) x)
  write_then_read {n} {enabled} good w x s w-after x-after s-is w-is x-is words texts short =
      let said : write_of ws ts ds (length d) ≡ accepted (n ∷ notice enabled ∷ []) = sym r-is ∙ ap written good in
      let it = back.write_then_read ws ts ds d w x n (notice enabled) said words texts short in
      let same : take n after ≡ take n (text_after ws ts ds d) = ap (take n) after_is in
      let answer : got s ≡ got (Read (length qs) (length ts)) =
      s-is ∙ ap (λ (t : List ℕ). read_of t (length w) (length x)) same ∙ it.answer in
      let w-so : w-after ≡ over 0 (words_of qs) w =
      w-is ∙ ap (λ (t : List ℕ). words_after t w (length x)) same ∙ it.words in
      let x-so : x-after ≡ over 0 ts x = x-is ∙ ap (λ (t : List ℕ). texts_after t (length w) x) same ∙ it.texts in (
        got_injective s (Read (length qs) (length ts)) answer,
        front_of (2 * length qs) (words_of qs) w w-so (words_long qs),
        front_of (length ts) ts x x-so refl,
      )

-- THEOREM 2: what `read` gives, written again in any valid dialect and with room, is the same text
module _ (t w x : List ℕ) (s : Reading) (w-after x-after : List ℕ) (s-is : got s ≡ read_of t (length w) (length x))
    (w-is : w-after ≡ words_after t w (length x)) (x-is : x-after ≡ texts_after t (length w) x) where
  pub read_then_write : {k m : ℕ} → s ≡ Read k m → (ds d : List ℕ) (dialect : Dialect) → from_bytes ds ≡ Some dialect
      → length t ≤ length d → (r : Result Written Refusal) (after : List ℕ)
      → written r ≡ write_of (take (2 * k) w-after) (take m x-after) ds (length d)
      → after ≡ text_after (take (2 * k) w-after) (take m x-after) ds d
      → (r ≡ Ok (record { length = length t; enabled = dialect.enable_f_strings })) × (after ≡ t ++ drop (length t) d)
  read_then_write {k} {m} good ds d dialect valid room r after r-is after_is =
      let said : read_of t (length w) (length x) ≡ accepted (k ∷ m ∷ []) = sym s-is ∙ ap got good in
      let it = again.read_then_write t w x k m said ds d dialect valid room in
      let answer : written r ≡ written (Ok (record { length = length t; enabled = dialect.enable_f_strings })) =
      r-is ∙ rw (w-is, x-is) it.accepts in
      let so : after ≡ over 0 t d = after_is ∙ rw (w-is, x-is) it.buffer in (
        written_injective r (Ok (record { length = length t; enabled = dialect.enable_f_strings })) answer,
        front_of (length t) t d so refl,
      )

-- THEOREM 3: 63 is given exactly at the first brace that starts none of the four forms
module _ (t : List ℕ) (words bytes : ℕ) (s : Reading) (s-is : got s ≡ read_of t words bytes) where
  pub stray_stands : {p : ℕ} → s ≡ StrayAt p
      → (p < length t) × ((ps : List Part) × (format_of ps ≡ take p t)) × (is_brace (get_or t p 0) ≡ true)
      × (take 2 (drop p t) ≡ opening ∷ opening ∷ [] → ⊥) × (take 2 (drop p t) ≡ closing ∷ closing ∷ [] → ⊥)
      × (take 2 (drop p t) ≡ plain_form → ⊥) × (take 4 (drop p t) ≡ repr_form → ⊥)
  stray_stands {p} e =
      let it = places.refused_place t words bytes p (sym s-is ∙ ap got e) in (
        it.inside,
        (it.parts, it.before_it),
        it.brace,
        it.no_form.no_opening_twice,
        it.no_form.no_closing_twice,
        it.no_form.no_plain,
        it.no_form.no_repr,
      )

  pub stray_found : (p : ℕ) → p < length t → (ps : List Part) → format_of ps ≡ take p t → is_brace (get_or t p 0) ≡ true
      → (take 2 (drop p t) ≡ opening ∷ opening ∷ [] → ⊥) → (take 2 (drop p t) ≡ closing ∷ closing ∷ [] → ⊥)
      → (take 2 (drop p t) ≡ plain_form → ⊥) → (take 4 (drop p t) ≡ repr_form → ⊥) → s ≡ StrayAt p
  stray_found p inside ps same brace a b c d =
      let place : StrayPlace t p = record {
        inside = inside;
        parts = ps;
        before_it = same;
        brace = brace;
        no_form = record { no_opening_twice = a; no_closing_twice = b; no_plain = c; no_repr = d };
      } in
      got_injective s (StrayAt p) (s-is ∙ places.place_refused t words bytes p place)

  -- so a text is not refused with 63 exactly if it is the format text of some parts
  pub not_stray_format : ((p : ℕ) → s ≡ StrayAt p → ⊥) → (ps : List Part) × (format_of ps ≡ t)
  not_stray_format h =
      let never-so : (p : ℕ) → read_of t words bytes ≡ refused stray_brace (p ∷ []) → ⊥ =
      λ (p : ℕ) (e : read_of t words bytes ≡ refused stray_brace (p ∷ [])).
      h p (got_injective s (StrayAt p) (s-is ∙ e)) in
      (parts_in 0 t, places.read_format t words bytes never-so)

  module _ (ps : List Part) (same : format_of ps ≡ t) where
    fits : got s ≡ fit_check (normal ps) words bytes
    fits = s-is ∙ ap (λ (u : List ℕ). read_of u words bytes) (sym same) ∙ places.format_fits ps words bytes

    pub format_not_stray : (p : ℕ) → s ≡ StrayAt p → ⊥
    unfolding fit_check
    format_not_stray p e = go (leb (2 * length (normal ps)) words
        && (leb (length (texts_of (normal ps))) bytes && is_short (normal ps))) (sym (ap got e) ∙ fits)
      where
        go : (b : Bool) → refused stray_brace (p ∷ [])
            ≡ if' b (λ _. accepted (length (normal ps) ∷ length (texts_of (normal ps)) ∷ []))
            (λ _. refused short_buffer []) → ⊥
        go true f = absurd (omega (arith, ap places.number_in f))
        go false f = absurd (omega (arith, ap places.number_in f))

    -- and 7 means that something does not fit, nothing else
    pub short_is_room : s ≡ Short → (words < 2 * length (normal ps))
        ⊎ ((bytes < length (texts_of ps)) ⊎ (is_short (normal ps) ≡ false))
    unfolding fit_check
    short_is_room e = go (leb (2 * length (normal ps)) words) (leb (length (texts_of (normal ps))) bytes)
        (is_short (normal ps)) refl refl refl (sym (ap got e) ∙ fits)
      where
        go : (a b c : Bool) → leb (2 * length (normal ps)) words ≡ a → leb (length (texts_of (normal ps))) bytes ≡ b
            → is_short (normal ps) ≡ c
            → refused short_buffer []
            ≡ if' (leb (2 * length (normal ps)) words
            && (leb (length (texts_of (normal ps))) bytes && is_short (normal ps)))
            (λ _. accepted (length (normal ps) ∷ length (texts_of (normal ps)) ∷ [])) (λ _. refused short_buffer [])
            → (words < 2 * length (normal ps)) ⊎ ((bytes < length (texts_of ps)) ⊎ (is_short (normal ps) ≡ false))
        go false b c a-is b_is c-is f = inl (leb-false _ words a-is)
        go true false c a-is b_is c-is f =
            inr (inl (rw (ap length (texts_normal ps)) at (leb-false (length (texts_of (normal ps))) bytes b_is)))
        go true true false a-is b_is c-is f = inr (inr c-is)
        go true true true a-is b_is c-is f = never (cc)
