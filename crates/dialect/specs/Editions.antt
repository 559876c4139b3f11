-- The editions of the type rules (W-212): which numbers are editions, and the edition that holds in a file.
-- These are definitions.
use Rattle.std.specs.Prelude.{List, [], ◌∷◌, ℕ, eqb, None, Option, Some}
use Rattle.dialect.specs.declared.Edition.{Edition}
use Rattle.dialect.specs.declared.Edition.TheVariants.{One, Two}
use Rattle.fields.specs.Choice.{if'}

-- 1 and 2 are editions, and no other number is
unfoldable pub edition_of : ℕ → Option Edition
edition_of n = if' (eqb n 1) (λ _. Some One) (λ _. if' (eqb n 2) (λ _. Some Two) (λ _. None))

-- what a file states of its edition: one number, or nothing
abbrev pub stated_bytes : Option ℕ → List ℕ
stated_bytes (Some n) = n ∷ []
stated_bytes None = []

-- the edition of a file with these dialect bytes: the first if it states none; an edition that is stated needs dialect
-- bytes before it
unfoldable pub edition_held : List ℕ → List ℕ → Option Edition
edition_held bytes [] = Some One
edition_held [] (n ∷ ns) = None
edition_held (b ∷ bs) (n ∷ []) = edition_of n
edition_held (b ∷ bs) (n ∷ (m ∷ ns)) = None
