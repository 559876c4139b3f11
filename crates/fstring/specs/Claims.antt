-- The claim about the position of 63, in the words of request W-210. These are definitions.
use Rattle.std.specs.Prelude.{◌≡◌, true, List, [], ◌∷◌, ℕ, ◌<◌, length, get_or, take, drop}
use Rattle.fstring.specs.Parts.{Part, opening, closing, is_brace, plain_form, repr_form, format_of}

-- none of the four forms is at the front: `{{`, `}}`, `{}`, `{!r}`
pub record NoForm (l : List ℕ) : Type 0 where
  pub no_opening_twice : take 2 l ≡ opening ∷ opening ∷ [] → ⊥
  pub no_closing_twice : take 2 l ≡ closing ∷ closing ∷ [] → ⊥
  pub no_plain : take 2 l ≡ plain_form → ⊥
  pub no_repr : take 4 l ≡ repr_form → ⊥

-- p is inside the text, the bytes before it are the format text of some parts, and it is a brace that starts none of
-- the four forms
pub record StrayPlace (t : List ℕ) (p : ℕ) : Type 0 where
  pub inside : p < length t
  pub parts : List Part
  pub before_it : format_of parts ≡ take p t
  pub brace : is_brace (get_or t p 0) ≡ true
  pub no_form : NoForm (drop p t)
