-- Small texts and parts, most of them the examples of request W-210, with the answers of the two jobs. Each is computed
-- from the definitions (`refl`), so it also shows that the definitions can be run. They show the order of the refusals
-- (63 before 7, 64 before 7), the position of 63, that 62 is no refusal, and one normal form. No other law cites them.
-- Assumes nothing.
use mathlib.Core.Path.{◌≡◌, refl}
use mathlib.Core.Bool.{true, false}
use mathlib.Core.List.{[], ◌∷◌}
use Rattle.table.specs.Answer.{accepted, refused}
use Rattle.fstring.specs.Parts.{text, none, str, repr, normal, format_of, form_of, escaped, escape, texts_of}
use Rattle.fstring.specs.Parts.{is_short, leading_text, behind_text, text_before}
use Rattle.fstring.specs.Words.{text_length, sound_part, sound, total, is_whole, part_of, parts_of}
use Rattle.fstring.specs.Writing.{text_for, room_check, parts_check}
use Rattle.fstring.specs.Reading.{read_of, fit_check, legible, parts_in, first_form, form_at}

-- `{{}` and `{}}` are 63 at 2 and `a{!r` is 63 at 1, all before 7; `a{}b{!r}` has four parts and two text bytes
pub stray_behind_doubled : read_of (123 ∷ 123 ∷ 125 ∷ []) 0 0 ≡ refused 63 (2 ∷ [])
unfolding read_of fit_check legible parts_in first_form form_at
stray_behind_doubled = refl

pub stray_behind_empty : read_of (123 ∷ 125 ∷ 125 ∷ []) 0 0 ≡ refused 63 (2 ∷ [])
unfolding read_of fit_check legible parts_in first_form form_at
stray_behind_empty = refl

pub cut_conversion : read_of (97 ∷ 123 ∷ 33 ∷ 114 ∷ []) 0 0 ≡ refused 63 (1 ∷ [])
unfolding read_of fit_check legible parts_in first_form form_at
cut_conversion = refl

pub four_parts : read_of (97 ∷ 123 ∷ 125 ∷ 98 ∷ 123 ∷ 33 ∷ 114 ∷ 125 ∷ []) 8 2 ≡ accepted (4 ∷ 2 ∷ [])
unfolding read_of fit_check legible parts_in first_form form_at texts_of is_short leading_text behind_text text_before
four_parts = refl

-- the parts `{`, str, an empty text and `}` have the text `{{{}}}`; without f-strings the notice is 62; 64 comes before
-- 7
pub split_braces : parts_check true (0 ∷ 1 ∷ 2 ∷ 0 ∷ 0 ∷ 0 ∷ 0 ∷ 1 ∷ []) (123 ∷ 125 ∷ []) 6 ≡ accepted (6 ∷ 0 ∷ [])
unfolding parts_check room_check is_whole sound sound_part total text_length text_for parts_of part_of format_of form_of
    escaped escape
split_braces = refl

pub switched_off : parts_check false (3 ∷ 0 ∷ []) [] 4 ≡ accepted (4 ∷ 62 ∷ [])
unfolding parts_check room_check is_whole sound sound_part total text_length text_for parts_of part_of format_of form_of
    escaped escape
switched_off = refl

pub broken_first : parts_check true (1 ∷ 1 ∷ []) [] 0 ≡ refused 64 []
unfolding parts_check room_check is_whole sound sound_part total text_length text_for parts_of part_of format_of form_of
    escaped escape
broken_first = refl

-- the normal form: an empty text dropped, str as none, neighbours joined
pub normal_instance : normal (text [] ∷ str ∷ text (97 ∷ []) ∷ text (98 ∷ []) ∷ repr ∷ [])
    ≡ none ∷ text (97 ∷ 98 ∷ []) ∷ repr ∷ []
unfolding normal text_before leading_text behind_text
normal_instance = refl
