-- The answers of the private functions: a room that is counted down, and what one form does to the numbers and buffers
-- of the reader. These are definitions; no public contract cites them.
use Rattle.std.specs.Prelude.{◌≡◌, Bool, true, false, List, [], ◌∷◌, ℕ, ◌+◌, ◌*◌, ◌-◌, ◌≤◌, length, eqb, leb, None, Option, Some}
use Rattle.fields.specs.Choice.{if'}
use Rattle.fstring.specs.Parts.{texts_of, is_short}
use Rattle.fstring.specs.Reading.{legible, parts_in}
use Rattle.fstring.specs.declared.Form.{Form}
use Rattle.fstring.specs.declared.Form.TheVariants.{Plain, Doubled, Empty, Converted, Stray}

-- the room left after a number of bytes
unfoldable pub leaving : ℕ → ℕ → Option ℕ
leaving n room = if' (leb n room) (λ _. Some (room - n)) (λ _. None)

-- whether a form is a byte of text, the byte, the first word of its part, its width
abbrev pub is_literal : Form → Bool
is_literal (Plain c) = true
is_literal (Doubled c) = true
is_literal Empty = false
is_literal Converted = false
is_literal Stray = false

abbrev pub literal : Form → List ℕ
literal (Plain c) = c ∷ []
literal (Doubled c) = c ∷ []
literal Empty = []
literal Converted = []
literal Stray = []

abbrev pub byte_of : Form → ℕ
byte_of (Plain c) = c
byte_of (Doubled c) = c
byte_of Empty = 0
byte_of Converted = 0
byte_of Stray = 0

abbrev pub kept : Bool → ℕ → List ℕ
kept true c = c ∷ []
kept false c = []

abbrev pub form_kind : Form → ℕ
form_kind (Plain c) = 0
form_kind (Doubled c) = 0
form_kind Empty = 1
form_kind Converted = 3
form_kind Stray = 1

abbrev pub width_of : Form → ℕ
width_of (Plain c) = 1
width_of (Doubled c) = 2
width_of Empty = 2
width_of Converted = 4
width_of Stray = 1

-- a text that is accepted: no brace is stray, and the words, the bytes and the lengths fit
pub record Readable (t : List ℕ) (words bytes : ℕ) : Type 0 where
  pub legal : legible 0 t ≡ length t
  pub words_fit : 2 * length (parts_in 0 t) ≤ words
  pub bytes_fit : length (texts_of (parts_in 0 t)) ≤ bytes
  pub short : is_short (parts_in 0 t) ≡ true

-- a part begins with each expression, and with each byte of text that follows none
unfoldable pub begun : Bool → ℕ → ℕ
begun literal run = if' literal (λ _. if' (eqb run 0) (λ _. 1) (λ _. 0)) (λ _. 1)

unfoldable pub run_on : Bool → ℕ → ℕ
run_on literal run = if' literal (λ _. run + 1) (λ _. 0)

abbrev pub ones : Bool → ℕ
ones true = 1
ones false = 0
