-- The words of a format text's answer in C. A number that may exceed 32 bits is written as two words, so the words of
-- an accepted answer are written in two stretches: those of a length and then the notice (`text_put`), or those of
-- two counts (`parts_put`). A refusal of the writer has the same words as in the other jobs (`text_refused`); 7 of
-- the reader has no word (`short_put`). Assumes nothing.
use mathlib.Core.Path.{◌≡◌, refl, ap, ◌∙◌}
use mathlib.Core.Bool.{Bool}
use mathlib.Core.List.{List, [], ◌∷◌}
use Prim.Native.Nat.{ℕ}
use lib.ListN.{set}
use Rattle.table.specs.Numbers.{short_buffer}
use Rattle.table.specs.Answer.{accepted, refused, refusal}
use Rattle.table.specs.declared.Refusal.{Refusal}
use Rattle.fstring.specs.Writing.{notice}
use Rattle.starlark_checks.specs.Words.{number, words, laid}
use Rattle.starlark_checks.specs.FormatWords.{two_words, text_words, part_words}
use Rattle.starlark_checks.proofs.Told.{Put}

-- LAW: two words, then the notice
pub text_put : (n : ℕ) (enabled : Bool) (xs : List ℕ) {ys : List ℕ} {v : ℕ} → ys ≡ laid (two_words n) 0 xs
    → v ≡ notice enabled
    → (0 ≡ number (accepted (n ∷ notice enabled ∷ [])))
    × (set ys 2 v ≡ laid (text_words (accepted (n ∷ notice enabled ∷ []))) 0 xs)
text_put n enabled xs ys-is v-is = (refl, rw (ys-is, v-is) refl)

-- LAW: two words, then two more
pub parts_put : (a b : ℕ) (xs : List ℕ) {ys zs : List ℕ} → ys ≡ laid (two_words a) 0 xs → zs ≡ laid (two_words b) 2 ys
    → (0 ≡ number (accepted (a ∷ b ∷ []))) × (zs ≡ laid (part_words (accepted (a ∷ b ∷ []))) 0 xs)
parts_put a b xs ys-is zs-is = (refl, zs-is ∙ ap (laid (two_words b) 2) ys-is)

pub text_refused : (r : Refusal) {n : ℕ} (xs : List ℕ) {ys : List ℕ} → Put words (refusal r) n xs ys
    → Put text_words (refusal r) n xs ys
text_refused r xs p = p

pub short_put : (xs : List ℕ) → Put part_words (refused short_buffer []) short_buffer xs xs
short_put xs = (refl, refl)
