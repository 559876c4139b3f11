-- The numbers that jobs give, by name. docs/RULES.md explains each. These are definitions.
-- They overlap with the kinds (52 is "def" here, and the kind 52 is Slash), so each has its own name.
use Rattle.std.specs.Prelude.{ℕ}

-- the table has no, too many or broken records
abbrev pub table_length : ℕ
table_length = 1

-- too many name bytes
abbrev pub name_bytes : ℕ
name_bytes = 2

-- the first unsound record
abbrev pub unsound_record : ℕ
unsound_record = 3

-- the first node that is too deep
abbrev pub too_deep : ℕ
too_deep = 4

-- no dialect, or no edition
abbrev pub bad_dialect : ℕ
bad_dialect = 5

-- no node, or one of the wrong kind
abbrev pub wrong_node : ℕ
wrong_node = 6

-- a buffer that is too short
abbrev pub short_buffer : ℕ
short_buffer = 7

-- `/` is first
abbrev pub slash_first : ℕ
slash_first = 10

-- duplicated parameter name
abbrev pub duplicated_parameter : ℕ
duplicated_parameter = 11

-- Normal after `**kwargs`
abbrev pub normal_after_kwargs : ℕ
normal_after_kwargs = 12

-- no default after a default, before any star
abbrev pub no_default_after_default : ℕ
no_default_after_default = 13

-- `*` or `*args` after a star or `**kwargs`
abbrev pub star_after_star : ℕ
star_after_star = 14

-- multiple `/`
abbrev pub multiple_slash : ℕ
multiple_slash = 15

-- multiple kwargs
abbrev pub multiple_kwargs : ℕ
multiple_kwargs = 16

-- `*` last
abbrev pub star_last : ℕ
star_last = 17

-- the entry after `*` is no Normal
abbrev pub no_normal_after_star : ℕ
no_normal_after_star = 18

-- more parameters than a list may have
abbrev pub too_many_parameters : ℕ
too_many_parameters = 19

-- positional after non positional
abbrev pub positional_after_non_positional : ℕ
positional_after_non_positional = 20

-- named after star or `**`
abbrev pub named_after_star : ℕ
named_after_star = 21

-- repeated named argument
abbrev pub repeated_named : ℕ
repeated_named = 22

-- second star, or star after `**`
abbrev pub second_star : ℕ
second_star = 23

-- second `**`
abbrev pub second_kwargs : ℕ
second_kwargs = 24

-- InvalidLhs
abbrev pub invalid_lhs : ℕ
invalid_lhs = 30

-- InvalidModifyLhs
abbrev pub invalid_modify_lhs : ℕ
invalid_modify_lhs = 31

-- type on augmented
abbrev pub type_on_augmented : ℕ
type_on_augmented = 32

-- type on tuple
abbrev pub type_on_tuple : ℕ
type_on_tuple = 33

-- InvalidType
abbrev pub invalid_type : ℕ
invalid_type = 40

-- EmptyListInType
abbrev pub empty_list_in_type : ℕ
empty_list_in_type = 41

-- DotInType
abbrev pub dot_in_type : ℕ
dot_in_type = 42

-- ExpectingPath
abbrev pub expecting_path : ℕ
expecting_path = 43

-- DotTypeBan
abbrev pub dot_type_ban : ℕ
dot_type_ban = 44

-- types disabled in the dialect
abbrev pub types_disabled : ℕ
types_disabled = 45

-- `*` not in this dialect
abbrev pub star_not_permitted : ℕ
star_not_permitted = 50

-- `/` not in this dialect
abbrev pub slash_not_permitted : ℕ
slash_not_permitted = 51

-- def
abbrev pub def_not_permitted : ℕ
def_not_permitted = 52

-- top-level for
abbrev pub top_level_for : ℕ
top_level_for = 53

-- top-level if
abbrev pub top_level_if : ℕ
top_level_if = 54

-- break misplaced
abbrev pub break_misplaced : ℕ
break_misplaced = 55

-- continue misplaced
abbrev pub continue_misplaced : ℕ
continue_misplaced = 56

-- return misplaced
abbrev pub return_misplaced : ℕ
return_misplaced = 57

-- load not at top
abbrev pub load_not_at_top : ℕ
load_not_at_top = 58

-- load not in this dialect
abbrev pub load_not_permitted : ℕ
load_not_permitted = 59

-- `...` with types disabled
abbrev pub ellipsis_not_permitted : ℕ
ellipsis_not_permitted = 60

-- lambda
abbrev pub lambda_not_permitted : ℕ
lambda_not_permitted = 61

-- f-strings disabled in the dialect: a notice, no refusal
abbrev pub f_strings_disabled : ℕ
f_strings_disabled = 62

-- a brace of a format text that starts none of the four forms
abbrev pub stray_brace : ℕ
stray_brace = 63

-- a broken part of a format text, or lengths that do not add up to the text bytes
abbrev pub broken_part : ℕ
broken_part = 64

-- short block
abbrev pub block_short : ℕ
block_short = 70

-- block number
abbrev pub block_number : ℕ
block_number = 71

-- block check
abbrev pub block_check : ℕ
block_check = 72

-- used bytes or padding
abbrev pub block_used : ℕ
block_used = 73

-- counts beyond the limits, or no node
abbrev pub block_counts : ℕ
block_counts = 74

-- bytes left over
abbrev pub bytes_left_over : ℕ
bytes_left_over = 75

-- a file after 4,294,967,295 files of one input
abbrev pub too_many_files : ℕ
too_many_files = 76

-- a star or `**` argument of a call that is bound
abbrev pub star_argument : ℕ
star_argument = 80

-- a positional argument too many, without `*args`
abbrev pub too_many_positional : ℕ
too_many_positional = 81

-- a named argument that no parameter takes, without `**kwargs`
abbrev pub unknown_named : ℕ
unknown_named = 82

-- a named argument for a parameter that is filled already
abbrev pub already_filled : ℕ
already_filled = 83

-- an ordinary parameter left empty, without default
abbrev pub empty_parameter : ℕ
empty_parameter = 84

-- block 0 or a name block of a file to be rescued is bad
abbrev pub bad_header : ℕ
bad_header = 90

-- the blocks of such a file do not pass, and no child of the root can be kept
abbrev pub nothing_kept : ℕ
nothing_kept = 91

-- an unsound length, block or entry of a book, or an unsound entry to be added
abbrev pub book_unsound : ℕ
book_unsound = 95

-- the same zone and setting twice in a book, or added again
abbrev pub entry_twice : ℕ
entry_twice = 96

-- no fitting entry in either book, or none to remove
abbrev pub no_entry : ℕ
no_entry = 97

-- no empty place for the entry to be added
abbrev pub no_empty_place : ℕ
no_empty_place = 98
