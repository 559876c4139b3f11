-- The kinds of records, a row for each, in the order and the words of docs/FORMAT.md ("Kinds"). These are definitions.
use Rattle.std.specs.Prelude.{Bool, true, false, List, [], ◌∷◌, ◌++◌, ℕ, eqb}
use Rattle.fields.specs.Choice.{if'}
use Rattle.soundness.specs.KindNumbers.{kind_statements, kind_def, kind_for, kind_if, kind_if_else, kind_break}
use Rattle.soundness.specs.KindNumbers.{kind_continue, kind_return, kind_load, kind_other_simple, kind_assign}
use Rattle.soundness.specs.KindNumbers.{kind_assign_modify, kind_tuple, kind_dot, kind_call, kind_index, kind_index2}
use Rattle.soundness.specs.KindNumbers.{kind_slice, kind_identifier, kind_lambda, kind_string, kind_int, kind_float}
use Rattle.soundness.specs.KindNumbers.{kind_ellipsis, kind_bytes, kind_not, kind_minus, kind_plus, kind_bit_not, kind_op}
use Rattle.soundness.specs.KindNumbers.{kind_if_expr, kind_list, kind_dict, kind_list_comprehension}
use Rattle.soundness.specs.KindNumbers.{kind_dict_comprehension, kind_fstring, kind_normal, kind_no_args, kind_slash}
use Rattle.soundness.specs.KindNumbers.{kind_args_param, kind_kw_args_param, kind_positional, kind_named, kind_args_arg}
use Rattle.soundness.specs.KindNumbers.{kind_kw_args_arg}

-- the classes of records; 0 is none
abbrev pub statement : ℕ
statement = 1

abbrev pub expression : ℕ
expression = 2

abbrev pub parameter : ℕ
parameter = 3

abbrev pub argument : ℕ
argument = 4

-- how many children of one class are allowed
pub data Times : Type 0 where
  any_number : Times
  even_number : Times
  at_most : ℕ → Times

-- children in order: some of given classes, then a number of one class, then some of given classes
pub record Children : Type 0 where
  pub front : List ℕ
  pub times : Times
  pub middle : ℕ
  pub back : List ℕ

abbrev pub children : List ℕ → Times → ℕ → List ℕ → Children
children f t m b = record { front = f; times = t; middle = m; back = b }

-- exactly these; any number, an even number, or at most n of a class; these and then any number, or at most n, of a
-- class; any number of a class and then these
abbrev pub exactly : List ℕ → Children
exactly cs = children cs (at_most 0) 0 []

abbrev pub any : ℕ → Children
any c = children [] any_number c []

abbrev pub evenly : ℕ → Children
evenly c = children [] even_number c []

abbrev pub up_to : ℕ → ℕ → Children
up_to n c = children [] (at_most n) c []

abbrev pub then_any : List ℕ → ℕ → Children
then_any cs c = children cs any_number c []

abbrev pub then_up_to : List ℕ → ℕ → ℕ → Children
then_up_to cs n c = children cs (at_most n) c []

abbrev pub any_then : ℕ → List ℕ → Children
any_then c cs = children [] any_number c cs

-- an expression that is present if the detail is one of two
abbrev pub if_detail : ℕ → ℕ → ℕ → List ℕ
if_detail d x y = if' (eqb d x) (λ _. expression ∷ []) (λ _. if' (eqb d y) (λ _. expression ∷ []) (λ _. []))

-- a kind: its number, its class, its largest detail, whether it has a name, and its children by its detail
pub record Kind : Type 0 where
  pub number : ℕ
  pub class : ℕ
  pub details : ℕ
  pub named : Bool
  pub kids : ℕ → Children

abbrev pub kind : ℕ → ℕ → ℕ → Bool → (ℕ → Children) → Kind
kind n c d m k = record { number = n; class = c; details = d; named = m; kids = k }

abbrev pub no_name : Bool
no_name = false

abbrev pub a_name : Bool
a_name = true

-- one, two and three expressions
abbrev pub one : List ℕ
one = expression ∷ []

abbrev pub two : List ℕ
two = expression ∷ one

abbrev pub three : List ℕ
three = expression ∷ two

abbrev pub kinds : List Kind
kinds =
    kind kind_statements statement 0 no_name (λ d. any statement) ∷  -- Statements
    kind kind_def statement 1 no_name  -- Def: parameters, return type, body
    (λ d. any_then parameter (if_detail d 1 1 ++ statement ∷ [])) ∷
    kind kind_for statement 0 no_name  -- For: target, over, body
    (λ d. exactly (expression ∷ expression ∷ statement ∷ [])) ∷
    kind kind_if statement 0 no_name (λ d. exactly (expression ∷ statement ∷ [])) ∷  -- If: condition, statement
    kind kind_if_else statement 0 no_name  -- IfElse: condition, two statements
    (λ d. exactly (expression ∷ statement ∷ statement ∷ [])) ∷
    kind kind_break statement 0 no_name (λ d. exactly []) ∷  -- Break
    kind kind_continue statement 0 no_name (λ d. exactly []) ∷  -- Continue
    kind kind_return statement 0 no_name (λ d. up_to 1 expression) ∷  -- Return
    kind kind_load statement 0 no_name (λ d. exactly []) ∷  -- Load
    kind kind_other_simple statement 0 no_name (λ d. any expression) ∷  -- other simple
    -- Assign: target, type, value
    kind kind_assign statement 1 no_name (λ d. exactly (one ++ if_detail d 1 1 ++ one)) ∷
    kind kind_assign_modify statement 1 no_name  -- AssignModify: target, type, value
    (λ d. exactly (one ++ if_detail d 1 1 ++ one)) ∷
    kind kind_tuple expression 0 no_name (λ d. any expression) ∷  -- Tuple
    kind kind_dot expression 0 a_name (λ d. exactly one) ∷  -- Dot: object; the name is the field
    kind kind_call expression 0 no_name (λ d. then_any one argument) ∷  -- Call: callee, arguments
    kind kind_index expression 0 no_name (λ d. exactly two) ∷  -- Index
    kind kind_index2 expression 0 no_name (λ d. exactly three) ∷  -- Index2
    kind kind_slice expression 0 no_name (λ d. then_up_to one 3 expression) ∷  -- Slice: 1 to 4
    kind kind_identifier expression 0 a_name (λ d. exactly []) ∷  -- Identifier
    kind kind_lambda expression 0 no_name (λ d. any_then parameter one) ∷  -- Lambda: parameters, body
    kind kind_string expression 0 no_name (λ d. exactly []) ∷  -- String
    kind kind_int expression 0 no_name (λ d. exactly []) ∷  -- Int
    kind kind_float expression 0 no_name (λ d. exactly []) ∷  -- Float
    kind kind_ellipsis expression 0 no_name (λ d. exactly []) ∷  -- Ellipsis
    kind kind_bytes expression 0 no_name (λ d. exactly []) ∷  -- Bytes
    kind kind_not expression 0 no_name (λ d. exactly one) ∷  -- Not
    kind kind_minus expression 0 no_name (λ d. exactly one) ∷  -- Minus
    kind kind_plus expression 0 no_name (λ d. exactly one) ∷  -- Plus
    kind kind_bit_not expression 0 no_name (λ d. exactly one) ∷  -- BitNot
    kind kind_op expression 1 no_name (λ d. exactly two) ∷  -- Op: detail 1 is `|`
    kind kind_if_expr expression 0 no_name (λ d. exactly three) ∷  -- If
    kind kind_list expression 0 no_name (λ d. any expression) ∷  -- List
    kind kind_dict expression 0 no_name (λ d. evenly expression) ∷  -- Dict
    kind kind_list_comprehension expression 0 no_name (λ d. then_any one expression) ∷  -- ListComprehension: 1 or more
    kind kind_dict_comprehension expression 0 no_name (λ d. then_any two expression) ∷  -- DictComprehension: 2 or more
    kind kind_fstring expression 0 no_name (λ d. any expression) ∷  -- FString
    kind kind_normal parameter 3 a_name (λ d. exactly (if_detail d 1 3 ++ if_detail d 2 3)) ∷  -- Normal: type, default
    kind kind_no_args parameter 0 no_name (λ d. exactly []) ∷  -- NoArgs
    kind kind_slash parameter 0 no_name (λ d. exactly []) ∷  -- Slash
    kind kind_args_param parameter 1 a_name (λ d. exactly (if_detail d 1 1)) ∷  -- Args: type
    kind kind_kw_args_param parameter 1 a_name (λ d. exactly (if_detail d 1 1)) ∷  -- KwArgs: type
    kind kind_positional argument 0 no_name (λ d. exactly one) ∷  -- Positional
    kind kind_named argument 0 a_name (λ d. exactly one) ∷  -- Named
    kind kind_args_arg argument 0 no_name (λ d. exactly one) ∷  -- Args
    kind kind_kw_args_arg argument 0 no_name (λ d. exactly one) ∷  -- KwArgs
    []

-- the row of a kind's number; a number that no kind has is of no class
unfoldable pub kind_in : List Kind → ℕ → Kind
kind_in [] n = kind n 0 0 no_name (λ d. exactly [])
kind_in (k ∷ ks) n = if' (eqb k.number n) (λ _. k) (λ _. kind_in ks n)

unfoldable pub kind_of : ℕ → Kind
kind_of n = kind_in kinds n

abbrev pub class_of : ℕ → ℕ
class_of n = (kind_of n).class
