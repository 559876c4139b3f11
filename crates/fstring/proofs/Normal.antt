-- Theorem 4: the normal form is normal (`normal_is_normal`), and normal parts are their own normal form
-- (`normal_stays`). Both are by induction on the parts. A text before normal parts is joined with the text that they
-- begin with, and after that text comes no other text (`behind_normal`); so no two texts are neighbours. Joining moves
-- no byte: the texts of the normal form, one after another, are those of the parts (`texts_normal`). Assumes nothing.
use mathlib.Core.Path.{◌≡◌, refl, ap, ◌∙◌}
use mathlib.Core.Bool.{true, false, not}
use mathlib.Core.List.{List, [], ◌∷◌, ◌++◌, append_assoc, append-nil}
use Prim.Native.Nat.{ℕ}
use borrow.Author.Tests.{not-true}
use Rattle.fields.proofs.Basics.{clash, and_left, and_right, and_both}
use Rattle.fstring.specs.Parts.{Part, text, none, str, repr, begins_text, leading_text, behind_text, text_before}
use Rattle.fstring.specs.Parts.{normal}
use Rattle.fstring.specs.Parts.{may_precede, is_normal, texts_of}

behind_normal : (ps : List Part) → is_normal ps ≡ true
    → (begins_text (behind_text ps) ≡ false) × (is_normal (behind_text ps) ≡ true)
unfolding is_normal may_precede begins_text behind_text
behind_normal [] e = (refl, refl)
behind_normal (text [] ∷ ps) e = clash (and_left false (is_normal ps) e) refl
behind_normal (text (c ∷ t) ∷ ps) e =
    (not-true (begins_text ps) (and_left _ (is_normal ps) e), and_right (not (begins_text ps)) _ e)
behind_normal (none ∷ ps) e = (refl, e)
behind_normal (str ∷ ps) e = clash (and_left false (is_normal ps) e) refl
behind_normal (repr ∷ ps) e = (refl, e)

before_normal : (t : List ℕ) (ps : List Part) → is_normal ps ≡ true → is_normal (text_before t ps) ≡ true
unfolding is_normal may_precede text_before
before_normal [] ps e = e
before_normal (c ∷ t) ps e =
    let rest = behind_normal ps e in and_both _ _ (ap not rest.0) rest.1

-- THEOREM 4
pub normal_is_normal : (ps : List Part) → is_normal (normal ps) ≡ true
unfolding is_normal may_precede normal
normal_is_normal [] = refl
normal_is_normal (text t ∷ ps) = before_normal t (normal ps) (normal_is_normal ps)
normal_is_normal (none ∷ ps) = normal_is_normal ps
normal_is_normal (str ∷ ps) = normal_is_normal ps
normal_is_normal (repr ∷ ps) = normal_is_normal ps

no_text : (ps : List Part) → begins_text ps ≡ false → (leading_text ps ≡ []) × (behind_text ps ≡ ps)
unfolding begins_text leading_text behind_text
no_text [] e = (refl, refl)
no_text (text t ∷ ps) e = clash refl e
no_text (none ∷ ps) e = (refl, refl)
no_text (str ∷ ps) e = (refl, refl)
no_text (repr ∷ ps) e = (refl, refl)

pub normal_stays : (ps : List Part) → is_normal ps ≡ true → normal ps ≡ ps
unfolding is_normal may_precede normal text_before
normal_stays [] e = refl
normal_stays (text [] ∷ ps) e = clash (and_left false (is_normal ps) e) refl
normal_stays (text (c ∷ t) ∷ ps) e =
    let alone = no_text ps (not-true (begins_text ps) (and_left _ (is_normal ps) e)) in
    ap (text_before (c ∷ t)) (normal_stays ps (and_right (not (begins_text ps)) _ e))
    ∙ rw (alone.0, alone.1, append-nil t) refl
normal_stays (none ∷ ps) e = ap (λ (qs : List Part). none ∷ qs) (normal_stays ps e)
normal_stays (str ∷ ps) e = clash (and_left false (is_normal ps) e) refl
normal_stays (repr ∷ ps) e = ap (λ (qs : List Part). repr ∷ qs) (normal_stays ps e)

-- the normal form has the same text bytes
pub texts_before : (v : List ℕ) (ps : List Part) → texts_of (text_before v ps) ≡ v ++ texts_of ps
unfolding text_before texts_of leading_text behind_text
texts_before [] ps = refl
texts_before (c ∷ v) [] = rw (append-nil v) (append-nil (c ∷ v))
texts_before (c ∷ v) (text w ∷ ps) = ap (λ (x : List ℕ). c ∷ x) (append_assoc v w (texts_of ps))
texts_before (c ∷ v) (none ∷ ps) = rw (append-nil v) refl
texts_before (c ∷ v) (str ∷ ps) = rw (append-nil v) refl
texts_before (c ∷ v) (repr ∷ ps) = rw (append-nil v) refl

pub texts_normal : (ps : List Part) → texts_of (normal ps) ≡ texts_of ps
unfolding texts_of normal
texts_normal [] = refl
texts_normal (text t ∷ ps) = texts_before t (normal ps) ∙ ap (λ (x : List ℕ). t ++ x) (texts_normal ps)
texts_normal (none ∷ ps) = texts_normal ps
texts_normal (str ∷ ps) = texts_normal ps
texts_normal (repr ∷ ps) = texts_normal ps
