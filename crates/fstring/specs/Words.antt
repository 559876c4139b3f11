-- The words and text bytes that a caller lends, as parts. These are definitions.
use Rattle.std.specs.Prelude.{Bool, true, false, ◌&&◌, List, [], ◌∷◌, ℕ, ◌+◌, take, drop, eqb, leb}
use Rattle.fields.specs.Choice.{if'}
use Rattle.fstring.specs.Parts.{Part, text, none, str, repr}

-- the number of text bytes of a part of two words
unfoldable pub text_length : ℕ → ℕ → ℕ
text_length kind n = if' (eqb kind 0) (λ _. n) (λ _. 0)

-- a part's first word is at most 3, and its second is 0 unless it is text
unfoldable pub sound_part : ℕ → ℕ → Bool
sound_part kind n = if' (eqb kind 0) (λ _. true) (λ _. leb kind 3 && eqb n 0)

-- whole parts, each sound
unfoldable pub sound : List ℕ → Bool
sound [] = true
sound (kind ∷ []) = false
sound (kind ∷ n ∷ ws) = sound_part kind n && sound ws

-- the number of text bytes of all parts, without a limit, so that no sum wraps
unfoldable pub total : List ℕ → ℕ
total [] = 0
total (kind ∷ []) = 0
total (kind ∷ n ∷ ws) = text_length kind n + total ws

-- not 64: each part is sound, and the lengths add up to the text bytes
unfoldable pub is_whole : List ℕ → ℕ → Bool
is_whole ws bytes = sound ws && eqb (total ws) bytes

-- a part by its first word and its text bytes
unfoldable pub part_of : ℕ → List ℕ → Part
part_of kind t =
    if' (eqb kind 0) (λ _. text t)
    (λ _. if' (eqb kind 3) (λ _. repr) (λ _. if' (eqb kind 2) (λ _. str) (λ _. none)))

-- the parts: each takes its text from the bytes that the ones before it left
unfoldable pub parts_of : List ℕ → List ℕ → List Part
parts_of [] ts = []
parts_of (kind ∷ []) ts = []
parts_of (kind ∷ n ∷ ws) ts =
    part_of kind (take (text_length kind n) ts) ∷ parts_of ws (drop (text_length kind n) ts)
