-- The answers as a C caller gets them: the number that is returned, and the twelve words at exit, from a job's answer.
-- These are definitions.
use Rattle.std.specs.Prelude.{List, [], ◌∷◌, ◌++◌, ℕ, ◌+◌, ◌/◌, ◌%◌, ◌<◌, ◌≤◌, ◌^◌, eqb, set, get_or, take, drop, None, Option, Some}
use Rattle.fields.specs.Choice.{if'}
use Rattle.fields.specs.Field.{field}
use Rattle.table.specs.Answer.{Answer, accepted, refused, and_then}
use Rattle.tablefile.specs.Reading.{header_at, content_at, number_held}
use Rattle.tablefile.specs.Lending.{into_check}
use Rattle.books.specs.declared.Changed.{Changed}
use Rattle.books.specs.declared.Changed.TheVariants.{Placed, Refused, Bare}

-- the number that is returned: 0 for accepted
abbrev pub number : Answer → ℕ
number (accepted vs) = 0
number (refused n vs) = n

-- the word for no place
abbrev pub no_place : ℕ
no_place = 4294967295

-- the words of what a refusal carries: nothing, the node, or the node, begin and end of its span, the earlier node or
-- the word for none, and the span's file
abbrev pub carried_words : List ℕ → List ℕ
carried_words [] = []
carried_words (k ∷ []) = k ∷ []
carried_words (k ∷ b ∷ []) = k ∷ b ∷ []
carried_words (k ∷ b ∷ e ∷ []) = k ∷ b ∷ e ∷ []
carried_words (k ∷ b ∷ e ∷ f ∷ []) = k ∷ b ∷ e ∷ no_place ∷ f ∷ []
carried_words (k ∷ b ∷ e ∷ f ∷ i ∷ vs) = k ∷ b ∷ e ∷ i ∷ f ∷ vs

-- the words of an answer: the job's values, or what a refusal carries
abbrev pub words : Answer → List ℕ
words (accepted vs) = vs
words (refused n vs) = carried_words vs

-- a place in one word, from the two values that the call job has for it: whether there is one, and which
abbrev pub place_in : List ℕ → ℕ
place_in vs = if' (eqb (get_or vs 0 0) 1) (λ _. get_or vs 1 0) (λ _. no_place)

-- the words of the call job: positional, named, the place of star, the place of `**`
abbrev pub call_words : Answer → List ℕ
call_words (accepted vs) = take 2 vs ++ place_in (drop 2 vs) ∷ place_in (drop 4 vs) ∷ []
call_words (refused n vs) = carried_words vs

-- the words of the rescue: its first four values as they are, and the bytes after the last block in two words, the low
-- one first
abbrev pub rescue_words : Answer → List ℕ
rescue_words (accepted vs) = take 4 vs ++ (get_or vs 4 0 % 4294967296) ∷ (get_or vs 4 0 / 4294967296) ∷ []
rescue_words (refused n vs) = carried_words vs

-- the edition that the word of a caller states: the word for no place means nothing
abbrev pub stated_of : ℕ → Option ℕ
stated_of n = if' (eqb n no_place) (λ _. None) (λ _. Some n)

-- the word of an edition that a file states
abbrev pub stated_word : Option ℕ → ℕ
stated_word (Some n) = n
stated_word None = no_place

-- the values of a file before its edition: the numbers of nodes and name bytes, 1 if it has a dialect, and the
-- dialect's nine bytes, four a word, the low one first; zeros if there is none
abbrev pub front_values : List ℕ → List ℕ
front_values file =
    let h = header_at file in
    let d = (content_at file).dialect in
    h.nodes ∷ h.names ∷ (h.dialect / 9) ∷ field 4 d 0 ∷ field 4 d 4 ∷ field 4 d 8 ∷ []

-- the values of its edition: the stated one, and the one that holds
abbrev pub edition_values : Option ℕ → List ℕ
edition_values edition = stated_word edition ∷ number_held edition ∷ []

-- the values of a file that is read
abbrev pub held_values : List ℕ → List ℕ
held_values file = front_values file ++ edition_values (content_at file).edition

-- reading a file into buffers of these lengths
unfoldable pub read_of : List ℕ → ℕ → ℕ → Answer
read_of file table names = and_then (into_check file table names) (λ _. accepted (held_values file))

-- the words of a file's answer: the number of errors, then that of nodes
abbrev pub pass_words : Answer → List ℕ
pass_words (accepted vs) = get_or vs 1 0 ∷ get_or vs 0 0 ∷ []
pass_words (refused n vs) = carried_words vs

-- words written from place i on; the other words stay
abbrev pub laid : List ℕ → ℕ → List ℕ → List ℕ
laid [] i xs = xs
laid (v ∷ vs) i xs = laid vs (i + 1) (set xs i v)

-- every number fits a word
abbrev pub Fit : List ℕ → Type 0
Fit [] = Unit {0}
Fit (v ∷ vs) = (v ≤ 4294967295) × Fit vs

-- the place in the answer of an addition or a removal fits a word
abbrev pub PlaceFits : Changed → Type 0
PlaceFits (Placed book place) = place < 2 ^ 32
PlaceFits (Refused n book) = Unit {0}
PlaceFits (Bare n) = Unit {0}
