-- The answers on format texts as a C caller gets them: lengths, counts and positions may exceed 32 bits, so each is two
-- words, the low one first. These are definitions.
use Rattle.std.specs.Prelude.{List, [], ◌∷◌, ◌++◌, ℕ, ◌/◌, ◌%◌, get_or}
use Rattle.table.specs.Answer.{Answer, accepted, refused}
use Rattle.starlark_checks.specs.Words.{carried_words}

abbrev pub two_words : ℕ → List ℕ
two_words n = n % 4294967296 ∷ n / 4294967296 ∷ []

-- the words of a text that is written: its length, and 62 or 0; its refusals carry nothing
abbrev pub text_words : Answer → List ℕ
text_words (accepted vs) = two_words (get_or vs 0 0) ++ (get_or vs 1 0 ∷ [])
text_words (refused n vs) = carried_words vs

-- the words of a text that is read: the numbers of parts and of text bytes; for 63 the position
abbrev pub position_words : List ℕ → List ℕ
position_words [] = []
position_words (p ∷ vs) = two_words p

abbrev pub part_words : Answer → List ℕ
part_words (accepted vs) = two_words (get_or vs 0 0) ++ two_words (get_or vs 1 0)
part_words (refused n vs) = position_words vs
