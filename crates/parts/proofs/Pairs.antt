-- Lists that are made entry by entry from a list of pairs: `made f ps` has the entry f p for each pair p. Lists and
-- Calls make two lists from the same pairs, with the first record of each pair and with the second. Such a list is as
-- long as the pairs; dropping entries from its front, or adding one at its end, is doing so with the pairs. Where both
-- entries of each pair have the same name, a search for a name finds one in both lists or in neither. The inductions
-- are on the pairs. Cite `made_length`, `made_drop`, `made_more` and `found_same`. Assumes nothing.
use Rattle.std.specs.Prelude.{None, Option, Some, ℕ}
use mathlib.Core.Path.{◌≡◌, refl, ap}
use mathlib.Core.Bool.{Bool, true, false}
use mathlib.Core.List.{List, [], ◌∷◌, ◌++◌}
use Prim.Native.Nat.{ℕ, zero, suc}
use lib.ListN.{length, drop}
use Rattle.fields.specs.Choice.{if'}
use Rattle.forest.proofs.Marked.{Searches}

unfoldable pub made : {A B : Type 0} → (A → B) → List A → List B
made f [] = []
made f (p ∷ ps) = f p ∷ made f ps

module _ {A B : Type 0} (f : A → B) where
  pub made_length : (ps : List A) → length (made f ps) ≡ length ps
  unfolding made
  made_length [] = refl
  made_length (p ∷ ps) = ap suc (made_length ps)

  pub made_drop : (n : ℕ) (ps : List A) → drop n (made f ps) ≡ made f (drop n ps)
  unfolding made
  made_drop zero ps = refl
  made_drop (suc n) [] = refl
  made_drop (suc n) (p ∷ ps) = made_drop n ps

  pub made_more : (bs : List A) (p : A) → made f bs ++ f p ∷ [] ≡ made f (bs ++ p ∷ [])
  unfolding made
  made_more [] p = refl
  made_more (b ∷ bs) p = ap (λ (l : List B). f b ∷ l) (made_more bs p)

-- whether an earlier entry with the same name is found
abbrev pub is_at : Option ℕ → Bool
is_at (Some i) = true
is_at None = false

either_at : (b : Bool) (i j : ℕ) (f g : Option ℕ) → is_at f ≡ is_at g
    → is_at (if' b (λ _. Some i) (λ _. f)) ≡ is_at (if' b (λ _. Some j) (λ _. g))
either_at true i j f g rest = refl
either_at false i j f g rest = rest

-- LAW: where both entries of a pair have the same name, a name is found in both lists or in neither
module _ {A B : Type 0} {find : List ℕ → List B → Option ℕ} {has : List ℕ → B → Bool} (s : Searches find has)
    (one other : A → B) (has_same : (x : List ℕ) (p : A) → has x (one p) ≡ has x (other p)) where
  pub found_same : (x : List ℕ) (ps : List A) → is_at (find x (made one ps)) ≡ is_at (find x (made other ps))
  unfolding made
  found_same x [] = refl
  found_same x (p ∷ ps) =
      rw (s.first x (one p) (made one ps), s.first x (other p) (made other ps), has_same x p)
      (either_at (has x (other p)) _ _ _ _ (found_same x ps))
