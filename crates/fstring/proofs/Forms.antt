-- What the form at the front of some bytes says about these bytes (`seen`, by the tests in the order of the
-- definition). A form has all its bytes (`behind_fits`): reading past the end gives 0, which is no byte of a form. So
-- reading goes on after the form, at its width (`parts_front`, `legible_front`), and a stray brace is where reading
-- stops (`legible_stray`). The skipped bytes go by induction on their number. The last laws are for first_form, one for
-- each `return`. Cite `parts_front` and `legible_front`. Assumes nothing.
use mathlib.Core.Path.{◌≡◌, refl, sym, ap, ◌∙◌}
use mathlib.Core.Bool.{Bool, true, false, ◌&&◌}
use mathlib.Core.Logic.{⊎_elim}
use mathlib.Core.List.{List, [], ◌∷◌}
use Prim.Native.Nat.{ℕ, zero, suc, ◌+◌, ◌<◌, ◌≤◌}
use native.Mathlib.Omega.{arith}
use lib.ListN.{length, get_or, drop, get_or-eq_default}
use lib.Dec.{eqb}
use borrow.Author.Tests.{eqb-true, eq-eqb, ne_eqb}
use Rattle.fields.proofs.Basics.{clash, and_left, and_right, le_or_lt}
use Rattle.fields.specs.Choice.{if'}
use Rattle.fstring.specs.Parts.{is_brace, opening, closing, bang, letter_r}
use Rattle.fstring.specs.Reading.{form_at, first_form, behind, reach, legible, reading, parts_in, is_stray}
use Rattle.fstring.specs.declared.Form.{Form}
use Rattle.fstring.specs.declared.Form.TheVariants.{Plain, Doubled, Empty, Converted, Stray}

-- a doubled brace x, and `{!r}`, at the front of bytes that begin with a, b, c and d
pub record SeenDoubled (x a b : ℕ) : Type 0 where
  pub byte : x ≡ a
  pub brace : is_brace a ≡ true
  pub twice : b ≡ a

pub record SeenConverted (a b c d : ℕ) : Type 0 where
  pub opens : a ≡ opening
  pub marked : b ≡ bang
  pub letter : c ≡ letter_r
  pub closes : d ≡ closing

-- what a form says about the first four bytes
abbrev pub Seen : Form → ℕ → ℕ → ℕ → ℕ → Type 0
Seen (Plain x) a b c d = (x ≡ a) × (is_brace a ≡ false)
Seen (Doubled x) a b c d = SeenDoubled x a b
Seen Empty a b c d = (a ≡ opening) × (b ≡ closing)
Seen Converted a b c d = SeenConverted a b c d
Seen Stray a b c d = is_brace a ≡ true

-- the four tests of `{!r}` hold
converted_seen : (a b c d : ℕ) → (eqb a opening && (eqb b bang && (eqb c letter_r && eqb d closing))) ≡ true
    → SeenConverted a b c d
converted_seen a b c d h =
    let rest : (eqb b bang && (eqb c letter_r && eqb d closing)) ≡ true = and_right (eqb a opening) _ h in
    let last : (eqb c letter_r && eqb d closing) ≡ true = and_right (eqb b bang) _ rest in
    record {
      opens = eqb-true a opening (and_left _ (eqb b bang && (eqb c letter_r && eqb d closing)) h);
      marked = eqb-true b bang (and_left _ (eqb c letter_r && eqb d closing) rest);
      letter = eqb-true c letter_r (and_left _ (eqb d closing) last);
      closes = eqb-true d closing (and_right (eqb c letter_r) _ last);
    }

pub seen : (a b c d : ℕ) → Seen (form_at a b c d) a b c d
unfolding form_at
seen a b c d = go (is_brace a) (eqb b a) (eqb a opening && eqb b closing)
    (eqb a opening && (eqb b bang && (eqb c letter_r && eqb d closing))) refl refl refl refl
  where
    go : (p q r s : Bool) → is_brace a ≡ p → eqb b a ≡ q → (eqb a opening && eqb b closing) ≡ r
        → (eqb a opening && (eqb b bang && (eqb c letter_r && eqb d closing))) ≡ s
        → Seen (if' p (λ _. if' q (λ _. Doubled a) (λ _. if' r (λ _. Empty) (λ _. if' s (λ _. Converted) (λ _. Stray))))
        (λ _. Plain a)) a b c d
    go false q r s p-is q-is r-is s-is = (refl, p-is)
    go true true r s p-is q-is r-is s-is = record { byte = refl; brace = p-is; twice = eqb-true b a q-is }
    go true false true s p-is q-is r-is s-is =
        (eqb-true a opening (and_left _ (eqb b closing) r-is), eqb-true b closing (and_right (eqb a opening) _ r-is))
    go true false false true p-is q-is r-is s-is = converted_seen a b c d s-is
    go true false false false p-is q-is r-is s-is = p-is

-- a byte that is not 0 is within the list
pub there : (l : List ℕ) (i : ℕ) → (get_or l i 0 ≡ 0 → ⊥) → i < length l
there l i h = ⊎_elim (λ (f : length l ≤ i). absurd (h (get_or-eq_default l 0 f))) (λ (f : i < length l). f)
    (le_or_lt (length l) i)

pub brace_not_zero : (a : ℕ) → is_brace a ≡ true → a ≡ 0 → ⊥
brace_not_zero a e z = clash {b = is_brace 0} (rw z at e) refl

pub behind_fits : (c : ℕ) (cs : List ℕ) → behind (first_form (c ∷ cs)) ≤ length cs
unfolding first_form
behind_fits c cs = go (form_at c (get_or cs 0 0) (get_or cs 1 0) (get_or cs 2 0))
    (seen c (get_or cs 0 0) (get_or cs 1 0) (get_or cs 2 0))
  where
    go : (f : Form) → Seen f c (get_or cs 0 0) (get_or cs 1 0) (get_or cs 2 0) → behind f ≤ length cs
    go (Plain x) s = omega arith
    go (Doubled x) s = there cs 0 (λ (z : get_or cs 0 0 ≡ 0). brace_not_zero c s.brace (sym s.twice ∙ z))
    go Empty s = there cs 0 (λ (z : get_or cs 0 0 ≡ 0). absurd (omega (arith, s.1)))
    go Converted s = there cs 2 (λ (z : get_or cs 2 0 ≡ 0). absurd (omega (arith, s.closes)))
    go Stray s = omega arith

-- the bytes of a form after its first are skipped
parts_skip : (k : ℕ) (cs : List ℕ) → parts_in k cs ≡ parts_in 0 (drop k cs)
unfolding parts_in
parts_skip zero cs = refl
parts_skip (suc k) [] = refl
parts_skip (suc k) (c ∷ cs) = parts_skip k cs

legible_skip : (k : ℕ) (cs : List ℕ) → k ≤ length cs → legible k cs ≡ k + legible 0 (drop k cs)
unfolding legible
legible_skip zero cs h = omega arith
legible_skip (suc k) [] h = absurd (omega arith)
legible_skip (suc k) (c ∷ cs) h = omega (arith, legible_skip k cs (omega arith))

-- LAW: the parts of a text are its first form, and then the parts of the bytes after it
pub parts_front : (l : List ℕ) → 0 < length l
    → parts_in 0 l ≡ reading (first_form l) (parts_in 0 (drop (behind (first_form l) + 1) l))
unfolding parts_in
parts_front [] h = absurd (omega arith)
parts_front (c ∷ cs) h =
    let e : behind (first_form (c ∷ cs)) + 1 ≡ suc (behind (first_form (c ∷ cs))) = omega arith in
    rw e (ap (reading (first_form (c ∷ cs))) (parts_skip (behind (first_form (c ∷ cs))) cs))

pub width_fits : (l : List ℕ) → 0 < length l → behind (first_form l) + 1 ≤ length l
width_fits [] h = absurd (omega arith)
width_fits (c ∷ cs) h = omega (arith, behind_fits c cs)

pub legible_stray : (l : List ℕ) → 0 < length l → is_stray (first_form l) ≡ true → legible 0 l ≡ 0
unfolding legible
legible_stray [] h e = absurd (omega arith)
legible_stray (c ∷ cs) h e = go (first_form (c ∷ cs)) e
  where
    go : (f : Form) → is_stray f ≡ true → reach f (legible (behind (first_form (c ∷ cs))) cs) ≡ 0
    go (Plain x) e = clash e refl
    go (Doubled x) e = clash e refl
    go Empty e = clash e refl
    go Converted e = clash e refl
    go Stray e = refl

pub legible_front : (l : List ℕ) → 0 < length l → is_stray (first_form l) ≡ false
    → legible 0 l ≡ behind (first_form l) + 1 + legible 0 (drop (behind (first_form l) + 1) l)
unfolding legible
legible_front [] h e = absurd (omega arith)
legible_front (c ∷ cs) h e =
    let k : ℕ = behind (first_form (c ∷ cs)) in
    let n : k + 1 ≡ suc k = omega arith in
    go (first_form (c ∷ cs)) e (legible k cs) ∙ rw n (omega (arith, legible_skip k cs (behind_fits c cs)))
  where
    go : (f : Form) → is_stray f ≡ false → (n : ℕ) → reach f n ≡ suc n
    go (Plain x) e n = refl
    go (Doubled x) e n = refl
    go Empty e n = refl
    go Converted e n = refl
    go Stray e n = clash refl e

-- the form, by the tests of the code
module _ (t : List ℕ) {a : ℕ} (a-is : a ≡ get_or t 0 0) {q : Bool} (q-is : q ≡ is_brace a) where
  pub form_plain : q ≡ false → Plain a ≡ first_form t
  unfolding first_form form_at
  form_plain e = rw (← a-is, ← q-is, e) refl

  module _ (brace : q ≡ true) {b : ℕ} (b_is : b ≡ get_or t 1 0) where
    pub form_doubled : b ≡ a → Doubled a ≡ first_form t
    unfolding first_form form_at
    form_doubled e = rw (← a-is, ← q-is, brace, ← b_is, eq-eqb b a e) refl

    module _ (differ : b ≡ a → ⊥) where
      pub form_empty : (eqb a 123 && eqb b 125) ≡ true → Empty ≡ first_form t
      unfolding first_form form_at
      form_empty e = rw (← a-is, ← q-is, brace, ← b_is, ne_eqb b a differ, e) refl

      module _ (full : (eqb a 123 && eqb b 125) ≡ false) {c : ℕ} (c-is : c ≡ get_or t 2 0) {d : ℕ}
          (d-is : d ≡ get_or t 3 0) where
        pub form_converted : (eqb a 123 && (eqb b 33 && (eqb c 114 && eqb d 125))) ≡ true → Converted ≡ first_form t
        unfolding first_form form_at
        form_converted e =
            rw (← a-is, ← q-is, brace, ← b_is, ne_eqb b a differ, full, ← c-is, ← d-is, e) refl

        pub form_stray : (eqb a 123 && (eqb b 33 && (eqb c 114 && eqb d 125))) ≡ false → Stray ≡ first_form t
        unfolding first_form form_at
        form_stray e = rw (← a-is, ← q-is, brace, ← b_is, ne_eqb b a differ, full, ← c-is, ← d-is, e) refl
