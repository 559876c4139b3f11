-- The table check, 1 to 4 in this order, a job's dialect and its edition, 5, and a job's node, 6. These are
-- definitions.
use Rattle.std.specs.Prelude.{Bool, ◌&&◌, ◌||◌, List, [], ◌∷◌, ℕ, ◌+◌, ◌*◌, ◌/◌, ◌%◌, ◌≤◌, length, take, drop, eqb, ltb, leb, Err, None, Ok, Option, Result, Some}
use Rattle.table.specs.declared.Refusal.{Refusal}
use Rattle.fields.specs.Choice.{if'}
use Rattle.dialect.specs.Bytes.{from_bytes}
use Rattle.dialect.specs.declared.Dialect.{Dialect}
use Rattle.dialect.specs.declared.Edition.{Edition}
use Rattle.forest.specs.Forest.{record_bytes, size_of, node_of, Tree, tree_of, forest}
use Rattle.table.specs.Numbers.{table_length, name_bytes, unsound_record, too_deep, bad_dialect, wrong_node}
use Rattle.soundness.specs.KindNumbers.{kind_def, kind_lambda, kind_call, kind_assign, kind_assign_modify}
use Rattle.soundness.specs.Kinds.{expression, class_of}
use Rattle.soundness.specs.Sound.{first_unsound}
use Rattle.table.specs.Depth.{first_deep}
use Rattle.table.specs.Answer.{Answer, accepted, refused, and_then, number_of, carried}
use Rattle.table.specs.declared.Wanted.{Wanted}
use Rattle.table.specs.declared.Wanted.TheVariants.{Parameters, Call, Assignment, Expression}

-- the limits of a table: nodes, bytes (24 a node) and name bytes
abbrev pub most_nodes : ℕ
most_nodes = 2100

abbrev pub most_bytes : ℕ
most_bytes = 50400

abbrev pub most_names : ℕ
most_names = 8064

-- a stretch whose first record has the index i lies within the largest table; and it begins with a record
abbrev pub Within : ℕ → List ℕ → Type 0
Within i t = record_bytes * i + length t ≤ most_bytes

abbrev pub Headed : ℕ → List ℕ → Type 0
Headed i t = (record_bytes ≤ length t) × Within i t

-- the same as a test; and what a check of one stretch reads: all of the bytes if they are such a stretch, else nothing
abbrev pub is_headed : ℕ → List ℕ → Bool
is_headed i t = leb (record_bytes * i + length t) most_bytes && leb record_bytes (length t)

unfoldable pub headed_of : ℕ → List ℕ → List ℕ
headed_of i t = if' (is_headed i t) (λ _. t) (λ _. [])

-- 1: the table has 1 to 2,100 records of 24 bytes
unfoldable pub length_sound : ℕ → Bool
length_sound n = leb record_bytes n && (leb n most_bytes && eqb (n % record_bytes) 0)

abbrev pub length_check : ℕ → Answer
length_check n = if' (length_sound n) (λ _. accepted []) (λ _. refused table_length [])

-- 2: there are at most 8,064 name bytes
abbrev pub names_check : ℕ → Answer
names_check n = if' (leb n most_names) (λ _. accepted []) (λ _. refused name_bytes [])

-- a node that breaks a rule, by the rule's number
abbrev pub none_found : ℕ → Option ℕ → Answer
none_found n (Some i) = refused n (i ∷ [])
none_found n None = accepted []

-- 3 and 4: what the searches for an unsound record and for a node that is too deep answer
abbrev pub unsound_check : Option ℕ → Answer
unsound_check f = none_found unsound_record f

abbrev pub deep_check : Option ℕ → Answer
deep_check f = none_found too_deep f

-- the check: 1, 2, 3 the first unsound record, 4 the first node that is too deep
unfoldable pub check_of : List ℕ → List ℕ → Answer
check_of t names =
    and_then (length_check (length t)) (λ _.
    and_then (names_check (length names)) (λ _.
    and_then (unsound_check (first_unsound t names)) (λ _.
    deep_check (first_deep 0 (forest 0 t)))))

-- what a job in a dialect gets: the dialect, or the refusal
pub data Handing : Type 0 where
  in_dialect : Dialect → Handing
  turned_away : ℕ → List ℕ → Handing

abbrev pub given : Result Dialect Refusal → Handing
given (Ok d) = in_dialect d
given (Err r) = turned_away (number_of r) (carried r)

-- 5: the bytes give no dialect
abbrev pub decoded : Option Dialect → Handing
decoded (Some d) = in_dialect d
decoded None = turned_away bad_dialect []

-- the same after 1 to 4
abbrev pub handing : Answer → Option Dialect → Handing
handing (refused n vs) x = turned_away n vs
handing (accepted vs) x = decoded x

unfoldable pub given_of : List ℕ → List ℕ → List ℕ → Handing
given_of t names bytes = handing (check_of t names) (from_bytes bytes)

-- a job in a dialect: 1 to 5, then the answer of a rule in that dialect
abbrev pub in_given : Handing → (Dialect → Answer) → Answer
in_given (in_dialect d) rule = rule d
in_given (turned_away n vs) rule = refused n vs

-- 1 to 5 alone
abbrev pub given_check : List ℕ → List ℕ → List ℕ → Answer
given_check t names bytes = in_given (given_of t names bytes) (λ _. accepted [])

-- what a job that reads types gets: the dialect and the edition, or the refusal
pub data Ruling : Type 0 where
  by_rules : Dialect → Edition → Ruling
  unruled : ℕ → List ℕ → Ruling

abbrev pub ruled : Result (Dialect × Edition) Refusal → Ruling
ruled (Ok p) = by_rules p.0 p.1
ruled (Err r) = unruled (number_of r) (carried r)

-- 5 again, after the dialect bytes: the number that was read is no edition
abbrev pub ruling : Handing → Option Edition → Ruling
ruling (turned_away n vs) x = unruled n vs
ruling (in_dialect d) (Some e) = by_rules d e
ruling (in_dialect d) None = unruled bad_dialect []

unfoldable pub rules_of : List ℕ → List ℕ → List ℕ → Option Edition → Ruling
rules_of t names bytes edition = ruling (given_of t names bytes) edition

-- a job that reads types: 1 to 5, then the answer of a rule in that dialect and edition
abbrev pub in_rules : Ruling → (Dialect → Edition → Answer) → Answer
in_rules (by_rules d e) rule = rule d e
in_rules (unruled n vs) rule = refused n vs

-- 1 to 5 alone, the edition included
abbrev pub rules_check : List ℕ → List ℕ → List ℕ → Option Edition → Answer
rules_check t names bytes edition = in_rules (rules_of t names bytes edition) (λ _ _. accepted [])

-- the kinds that a job accepts: parameters 2 or 27, a call 22, an assignment 11 or 12, a target or a type an expression
unfoldable pub wants : Wanted → ℕ → Bool
wants Parameters k = eqb k kind_def || eqb k kind_lambda
wants Call k = eqb k kind_call
wants Assignment k = eqb k kind_assign || eqb k kind_assign_modify
wants Expression k = eqb (class_of k) expression

-- 6 unless the node is within the table and of a kind that the job accepts
unfoldable pub node_fits : List ℕ → ℕ → Wanted → Bool
node_fits t i w = ltb i (length t / record_bytes) && wants w (node_of i (drop (record_bytes * i) t)).kind

abbrev pub node_check : List ℕ → ℕ → Wanted → Answer
node_check t i w = if' (node_fits t i w) (λ _. accepted []) (λ _. refused wrong_node [])

-- a node's subtree, as a stretch of the table; beyond the table it is empty
unfoldable pub stretch_of : List ℕ → ℕ → List ℕ
stretch_of t i =
    if' (ltb i (length t / record_bytes))
    (λ _. take (record_bytes * size_of (drop (record_bytes * i) t)) (drop (record_bytes * i) t)) (λ _. [])

-- the checks with which a job on a node begins: 1 to 4, then 6
unfoldable pub entry_check : Wanted → List ℕ → List ℕ → ℕ → Answer
entry_check w t names i = and_then (check_of t names) (λ _. node_check t i w)

-- such a job: these checks, then the answer of a rule for the node's tree
unfoldable pub on_node : Wanted → (Tree → Answer) → List ℕ → List ℕ → ℕ → Answer
on_node w rule t names i = and_then (entry_check w t names i) (λ _. rule (tree_of i (stretch_of t i)))
