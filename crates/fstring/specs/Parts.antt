-- The parts of an f-string, their format text, and their normal form. These are definitions.
-- The format text is that of fstring_from_parts in src/syntax/grammar_util.rs of starlark_syntax 0.14.2.
-- Copyright 2018 The Starlark in Rust Authors. Copyright (c) Facebook, Inc. and its affiliates.
-- Licensed under Apache-2.0; changed: the expressions themselves are left out.
use Rattle.std.specs.Prelude.{Bool, true, false, not, ◌||◌, ◌&&◌, List, [], ◌∷◌, ◌++◌, ℕ, length, eqb, ltb}
use Rattle.fields.specs.Choice.{if'}

-- text, or an expression with no conversion, str or repr
pub data Part : Type 0 where
  text : List ℕ → Part
  none : Part
  str : Part
  repr : Part

-- the bytes that forms are made of: `{`, `}`, `!` and `r`
abbrev pub opening : ℕ
opening = 123

abbrev pub closing : ℕ
closing = 125

abbrev pub bang : ℕ
bang = 33

abbrev pub letter_r : ℕ
letter_r = 114

abbrev pub is_brace : ℕ → Bool
is_brace c = eqb c opening || eqb c closing

-- a byte of text: a brace twice, any other once
unfoldable pub escape : ℕ → List ℕ
escape c = if' (is_brace c) (λ _. c ∷ c ∷ []) (λ _. c ∷ [])

unfoldable pub escaped : List ℕ → List ℕ
escaped [] = []
escaped (c ∷ cs) = escape c ++ escaped cs

-- `{}` and `{!r}`
abbrev pub plain_form : List ℕ
plain_form = opening ∷ closing ∷ []

abbrev pub repr_form : List ℕ
repr_form = opening ∷ bang ∷ letter_r ∷ closing ∷ []

unfoldable pub form_of : Part → List ℕ
form_of (text t) = escaped t
form_of none = plain_form
form_of str = plain_form
form_of repr = repr_form

-- the format text
unfoldable pub format_of : List Part → List ℕ
format_of [] = []
format_of (p ∷ ps) = form_of p ++ format_of ps

-- whether a part is text, and whether parts begin with a text; that text, and the parts after it
abbrev pub is_text : Part → Bool
is_text (text t) = true
is_text none = false
is_text str = false
is_text repr = false

abbrev pub text_in : Part → List ℕ
text_in (text t) = t
text_in none = []
text_in str = []
text_in repr = []

unfoldable pub begins_text : List Part → Bool
begins_text [] = false
begins_text (p ∷ ps) = is_text p

unfoldable pub leading_text : List Part → List ℕ
leading_text [] = []
leading_text (p ∷ ps) = text_in p

unfoldable pub behind_text : List Part → List Part
behind_text [] = []
behind_text (p ∷ ps) = if' (is_text p) (λ _. ps) (λ _. p ∷ ps)

-- a text before parts: joined with the text that they begin with, dropped if it is empty
unfoldable pub text_before : List ℕ → List Part → List Part
text_before [] ps = ps
text_before (c ∷ t) ps = text (c ∷ (t ++ leading_text ps)) ∷ behind_text ps

-- neighbouring texts joined, empty ones dropped, str as none
unfoldable pub normal : List Part → List Part
normal [] = []
normal (text t ∷ ps) = text_before t (normal ps)
normal (none ∷ ps) = none ∷ normal ps
normal (str ∷ ps) = none ∷ normal ps
normal (repr ∷ ps) = repr ∷ normal ps

-- whether parts are normal: no str, no empty text, no two neighbouring texts
unfoldable pub may_precede : Part → List Part → Bool
may_precede (text []) ps = false
may_precede (text (c ∷ t)) ps = not (begins_text ps)
may_precede none ps = true
may_precede str ps = false
may_precede repr ps = true

unfoldable pub is_normal : List Part → Bool
is_normal [] = true
is_normal (p ∷ ps) = may_precede p ps && is_normal ps

-- the texts one after another
unfoldable pub texts_of : List Part → List ℕ
texts_of [] = []
texts_of (p ∷ ps) = text_in p ++ texts_of ps

-- two words for each part: 0 and the text's length; 1 none, 2 str, 3 repr, and then 0
abbrev pub kind_of : Part → ℕ
kind_of (text t) = 0
kind_of none = 1
kind_of str = 2
kind_of repr = 3

unfoldable pub words_of : List Part → List ℕ
words_of [] = []
words_of (p ∷ ps) = kind_of p ∷ length (text_in p) ∷ words_of ps

-- whether the length of each text fits in a word of 32 bits
unfoldable pub is_short : List Part → Bool
is_short [] = true
is_short (p ∷ ps) = ltb (length (text_in p)) 4294967296 && is_short ps
