-- The kinds of records by name, with the numbers of docs/FORMAT.md ("Kinds"). These are definitions.
use Rattle.std.specs.Prelude.{ℕ}

abbrev pub kind_statements : ℕ
kind_statements = 1

abbrev pub kind_def : ℕ
kind_def = 2

abbrev pub kind_for : ℕ
kind_for = 3

abbrev pub kind_if : ℕ
kind_if = 4

abbrev pub kind_if_else : ℕ
kind_if_else = 5

abbrev pub kind_break : ℕ
kind_break = 6

abbrev pub kind_continue : ℕ
kind_continue = 7

abbrev pub kind_return : ℕ
kind_return = 8

abbrev pub kind_load : ℕ
kind_load = 9

abbrev pub kind_other_simple : ℕ
kind_other_simple = 10

abbrev pub kind_assign : ℕ
kind_assign = 11

abbrev pub kind_assign_modify : ℕ
kind_assign_modify = 12

abbrev pub kind_tuple : ℕ
kind_tuple = 20

abbrev pub kind_dot : ℕ
kind_dot = 21

abbrev pub kind_call : ℕ
kind_call = 22

abbrev pub kind_index : ℕ
kind_index = 23

abbrev pub kind_index2 : ℕ
kind_index2 = 24

abbrev pub kind_slice : ℕ
kind_slice = 25

abbrev pub kind_identifier : ℕ
kind_identifier = 26

abbrev pub kind_lambda : ℕ
kind_lambda = 27

abbrev pub kind_string : ℕ
kind_string = 28

abbrev pub kind_int : ℕ
kind_int = 29

abbrev pub kind_float : ℕ
kind_float = 30

abbrev pub kind_ellipsis : ℕ
kind_ellipsis = 31

abbrev pub kind_bytes : ℕ
kind_bytes = 32

abbrev pub kind_not : ℕ
kind_not = 33

abbrev pub kind_minus : ℕ
kind_minus = 34

abbrev pub kind_plus : ℕ
kind_plus = 35

abbrev pub kind_bit_not : ℕ
kind_bit_not = 36

abbrev pub kind_op : ℕ
kind_op = 37

abbrev pub kind_if_expr : ℕ
kind_if_expr = 38

abbrev pub kind_list : ℕ
kind_list = 39

abbrev pub kind_dict : ℕ
kind_dict = 40

abbrev pub kind_list_comprehension : ℕ
kind_list_comprehension = 41

abbrev pub kind_dict_comprehension : ℕ
kind_dict_comprehension = 42

abbrev pub kind_fstring : ℕ
kind_fstring = 43

abbrev pub kind_normal : ℕ
kind_normal = 50

abbrev pub kind_no_args : ℕ
kind_no_args = 51

abbrev pub kind_slash : ℕ
kind_slash = 52

abbrev pub kind_args_param : ℕ
kind_args_param = 53

abbrev pub kind_kw_args_param : ℕ
kind_kw_args_param = 54

abbrev pub kind_positional : ℕ
kind_positional = 60

abbrev pub kind_named : ℕ
kind_named = 61

abbrev pub kind_args_arg : ℕ
kind_args_arg = 62

abbrev pub kind_kw_args_arg : ℕ
kind_kw_args_arg = 63
