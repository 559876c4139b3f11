-- W-209: OPENING A DIALECT
--
-- Theorems of the crate `opening`: what happens to the errors of the module pass if a second dialect permits all that a
-- first one does. Each statement is proved by citing the theorem. Assumes nothing.
use Rattle.std.specs.Prelude.{Some}
use mathlib.Core.Path.{◌≡◌}
use mathlib.Core.Bool.{Bool, true, false}
use mathlib.Core.List.{List, [], ◌∷◌, ◌++◌, map}
use Prim.Native.Nat.{ℕ, ◌*◌, ◌≤◌}
use lib.ListN.{length, drop, get_or}
use Rattle.dialect.specs.declared.Dialect.{Dialect}
use Rattle.dialect.specs.declared.Name.TheVariants.{Standard, Extended, AllOptionsInternal}
use Rattle.dialect.specs.Rows.{record_of, dialect_named}
use Rattle.dialect.specs.Bytes.{valid_bytes, from_bytes}
use Rattle.forest.specs.Forest.{Forest}
use Rattle.table.specs.Answer.{accepted}
use Rattle.table.specs.Check.{given_of, in_given}
use Rattle.errors.specs.Errors.{width}
use Rattle.errors.specs.declared.Listing.TheVariants.{Module}
use Rattle.errors.proofs.Storing.{all_words}
use Rattle.validate.specs.Module.{validate_module}
use Rattle.validate.specs.Job.{errors_of, module_of, errors_after}
use Rattle.opening.specs.Opening.{permits_all, opened, without}
use Rattle.opening.specs.Example.{if_break, closed, top_level_open}
use Rattle.opening.proofs.Theorems as theorem
use Rattle.opening.proofs.OverTheJob as theorem_job
use Rattle.opening.proofs.Order as theorem_order
use Rattle.opening.proofs.Example as theorem_example

-- "opening a dialect must not break a script": any trees
-- In words: if the second dialect permits all that the first does, trees with no errors under the first have none under
-- the second.
pub first_clause : (d e : Dialect)
    → permits_all d e ≡ true
    → (names : List ℕ) (ts : Forest)
    → validate_module d names ts ≡ []
    → validate_module e names ts ≡ []
first_clause = theorem.first_clause

-- the errors of the newly opened switches are removed, and no others: any trees
-- In words: if both dialects also agree on top-level statements, the list under the second is the list under the first
-- without the numbers of the newly opened switches, in order.
pub second_clause : (d e : Dialect)
    → permits_all d e ≡ true
    → d.enable_top_level_stmt ≡ e.enable_top_level_stmt
    → (names : List ℕ) (ts : Forest)
    → validate_module e names ts ≡ without (opened d e) (validate_module d names ts)
second_clause = theorem.second_clause

-- "opening a dialect must not break a script": the job
-- In words: for any bytes that mean two dialects, of which the second permits all that the first does, a total of 0
-- under the first is a total of 0 under the second.
pub zero_stays : (t names first second : List ℕ) {d e : Dialect}
    → from_bytes first ≡ Some d
    → from_bytes second ≡ Some e
    → permits_all d e ≡ true
    → module_of t names first ≡ accepted (0 ∷ [])
    → module_of t names second ≡ accepted (0 ∷ [])
zero_stays = theorem_job.zero_stays

-- the errors that are left: the job
-- In words: if both also agree on top-level statements, the errors of a table under the second are those under the
-- first without the numbers of the newly opened switches, in order.
pub errors_opened : (t names first second : List ℕ) {d e : Dialect}
    → from_bytes first ≡ Some d
    → from_bytes second ≡ Some e
    → permits_all d e ≡ true
    → d.enable_top_level_stmt ≡ e.enable_top_level_stmt
    → errors_of t names second ≡ without (opened d e) (errors_of t names first)
errors_opened = theorem_job.errors_opened

-- the errors that are left: the answer
-- In words: the answer is the number of the errors that are left, or the same refusal.
pub total_opened : (t names first second : List ℕ) {d e : Dialect}
    → from_bytes first ≡ Some d
    → from_bytes second ≡ Some e
    → permits_all d e ≡ true
    → d.enable_top_level_stmt ≡ e.enable_top_level_stmt
    → module_of t names second
    ≡ in_given (given_of t names first) (λ _. accepted (length (without (opened d e) (errors_of t names first)) ∷ []))
total_opened = theorem_job.total_opened

-- the errors that are left: the words of the list
-- In words: a list of words with room for the errors under the first holds at exit those that are left, and its other
-- words are unchanged.
pub words_opened : (t names first second : List ℕ) {d e : Dialect}
    → from_bytes first ≡ Some d
    → from_bytes second ≡ Some e
    → permits_all d e ≡ true
    → d.enable_top_level_stmt ≡ e.enable_top_level_stmt
    → (ws : List ℕ)
    → width Module * length (errors_of t names first) ≤ length ws
    → errors_after t names second ws
    ≡ all_words Module (without (opened d e) (errors_of t names first))
    ++ drop (width Module * length (without (opened d e) (errors_of t names first))) ws
words_opened = theorem_job.words_opened

-- the order of dialects is the order of the bytes that people type
-- In words: for nine valid bytes each, if the second dialect permits all that the first does, every byte of the first
-- is at most that of the second.
pub opening_bytes : (first second : List ℕ) {d e : Dialect}
    → valid_bytes first ≡ true
    → valid_bytes second ≡ true
    → from_bytes first ≡ Some d
    → from_bytes second ≡ Some e
    → permits_all d e ≡ true
    → (i : ℕ)
    → get_or first i 0 ≤ get_or second i 0
opening_bytes = theorem_job.opening_bytes

-- the order of dialects is the order of the bytes that people type: the converse
-- In words: for nine valid bytes each, if every byte of the first is at most that of the second, the second dialect
-- permits all that the first does.
pub bytes_opening : (first second : List ℕ) {d e : Dialect}
    → valid_bytes first ≡ true
    → valid_bytes second ≡ true
    → from_bytes first ≡ Some d
    → from_bytes second ≡ Some e
    → ((i : ℕ) → get_or first i 0 ≤ get_or second i 0)
    → permits_all d e ≡ true
bytes_opening = theorem_job.bytes_opening

-- "permits all" is an order: reflexive
-- In words: every dialect permits all that it permits.
pub order_self : (d : Dialect) → permits_all d d ≡ true
order_self = theorem_order.order_self

-- "permits all" is an order: transitive
-- In words: a dialect that permits all that a second does, which permits all that a third does, permits all that the
-- third does.
pub order_on : (c d e : Dialect) → permits_all c d ≡ true → permits_all d e ≡ true → permits_all c e ≡ true
order_on = theorem_order.order_on

-- "permits all" is an order: antisymmetric
-- In words: two dialects of which each permits all that the other does are the same.
pub order_one : (d e : Dialect) → permits_all d e ≡ true → permits_all e d ≡ true → d ≡ e
order_one = theorem_order.order_one

-- "permits all" is an order: antisymmetric on nine valid bytes
-- In words: two rows of nine valid bytes whose dialects permit all of each other are the same bytes.
pub bytes_one : (first second : List ℕ)
    → valid_bytes first ≡ true
    → valid_bytes second ≡ true
    → permits_all (record_of first) (record_of second) ≡ true
    → permits_all (record_of second) (record_of first) ≡ true
    → first ≡ second
bytes_one = theorem_order.bytes_one

-- "Standard below Extended below AllOptionsInternal, in this direction alone"
-- In words: for each of the three named dialects, which of the three permit all that it does.
pub named_order : map
    (λ (d : Dialect).
    map (permits_all d) (dialect_named Standard ∷ dialect_named Extended ∷ dialect_named AllOptionsInternal ∷ []))
    (dialect_named Standard ∷ dialect_named Extended ∷ dialect_named AllOptionsInternal ∷ [])
    ≡ (true ∷ true ∷ true ∷ []) ∷ (false ∷ true ∷ true ∷ []) ∷ (false ∷ false ∷ true ∷ []) ∷ []
named_order = theorem_order.named_order

-- why both dialects have to agree on top-level statements
-- In words: for `if 1: break`, in Standard and in Standard with top-level statements, no choice of numbers makes the
-- second list what is left of the first: 54 is removed and 55 is added.
pub not_tied : (out : ℕ → Bool)
    → errors_of if_break [] top_level_open ≡ without out (errors_of if_break [] closed)
    → ⊥
not_tied = theorem_example.not_tied
