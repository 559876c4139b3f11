-- The figures of a file are added in four parts: the file, its nodes, what is counted node by node, the errors. In a
-- table that passes 1 to 5 their sum is `table_figures` (`figures_are`), because no two parts have a counter in common
-- and the module pass reads the whole table. The other laws are the returns of `add_table` and `add_all`. Assumes
-- nothing.
use Rattle.std.specs.Prelude.{Err, Ok, Option, Result}
use mathlib.Core.Path.{◌≡◌, refl, sym, ap, ◌∙◌}
use mathlib.Core.List.{List, []}
use Prim.Native.Nat.{ℕ, ◌/◌, ◌≤◌}
use native.Mathlib.Nat.{add-zero}
use lib.ListN.{length, take}
use lib.Seq.{take_all}
use Rattle.dialect.specs.declared.Dialect.{Dialect}
use Rattle.dialect.specs.declared.Edition.{Edition}
use Rattle.table.specs.Answer.{accepted, number_of, carried, refusal}
use Rattle.table.specs.Check.{check_of, given_of, in_dialect, by_rules, unruled, ruled, rules_of, rules_check}
use Rattle.table.specs.declared.Refusal.{Refusal}
use Rattle.table.proofs.Entering.{given_known}
use Rattle.table.proofs.Ruling.{rules_known}
use Rattle.table.proofs.Checking.{accepted_clean}
use Rattle.table.proofs.Theorems.{clean_accepted}
use Rattle.validate.specs.Job.{pass_errors, errors_of}
use Rattle.figures.specs.Adding.{added}
use Rattle.figures.specs.Counting.{numbers_of, table_figures}
use Rattle.figures.specs.Walking.{only, plus, nodes_figures, error_figures, files_of, figures_in}
use Rattle.figures.specs.Reporting.{counted}
use Rattle.figures.proofs.Additions.{added_twice, added_zeros}

-- LAW: with the file in front, in the given dialect, the figures are those of the definition
pub figures_are : (t names bytes : List ℕ) {d : Dialect} → given_of t names bytes ≡ in_dialect d
    → plus (only 0 1) (figures_in d t names) ≡ table_figures t names bytes
unfolding figures_in table_figures only plus nodes_figures error_figures errors_of pass_errors
figures_are t names bytes {d} h =
    let all : take 50400 t ≡ t = take_all 50400 t (given_known t names bytes h).0.most in
    rw (h, all) (simp add-zero)

-- the three additions of `add_all`
pub all_added : (d : Dialect) (t names a : List ℕ) {b c e : List ℕ} → b ≡ added a (only 1 (length t / 24))
    → c ≡ added b (nodes_figures t names (length t / 24))
    → e ≡ added c (error_figures (numbers_of (pass_errors d names t))) → e ≡ added a (figures_in d t names)
unfolding figures_in
all_added d t names a b_is c-is e-is =
    e-is ∙ rw (c-is, b_is)
    (added_twice _ (nodes_figures t names (length t / 24)) _ ∙ added_twice a (only 1 (length t / 24)) _)

pub table_few : (t names : List ℕ) → check_of t names ≡ accepted [] → length t ≤ 50400
table_few t names e = (accepted_clean t names e).most

-- the returns of `add_table`: x is the edition that was read, g the answer of `enter_rules`
module _ (t names bytes : List ℕ) (x : Option Edition) {g : Result (Dialect × Edition) Refusal}
    (g-is : ruled g ≡ rules_of t names bytes x) where
  by_is : {p : Dialect × Edition} → g ≡ Ok p → rules_of t names bytes x ≡ by_rules p.0 p.1
  by_is h = sym g-is ∙ ap ruled h

  given_is : {p : Dialect × Edition} → g ≡ Ok p → given_of t names bytes ≡ in_dialect p.0
  given_is h = (rules_known t names bytes (by_is h)).0

  away_is : {why : Refusal} → g ≡ Err why → rules_of t names bytes x ≡ unruled (number_of why) (carried why)
  away_is h = sym g-is ∙ ap ruled h

  pub given_sound : {p : Dialect × Edition} → g ≡ Ok p → check_of t names ≡ accepted []
  given_sound h = clean_accepted t names (given_known t names bytes (given_is h)).0

  -- the counters after the file is counted, and at the end
  module _ (start : List ℕ) {k : ℕ} (k_is : k ≡ files_of g) {xs : List ℕ} (xs-is : xs ≡ added start (only 0 k)) where
    pub table_added : {p : Dialect × Edition} → g ≡ Ok p → {ys : List ℕ} → ys ≡ added xs (figures_in p.0 t names)
        → (accepted [] ≡ rules_check t names bytes x)
        × (ys ≡ counted (rules_check t names bytes x) start (table_figures t names bytes))
    table_added {p} h {ys} ys-is =
        let one : k ≡ 1 = k_is ∙ ap files_of h in
        let first : ys ≡ added (added start (only 0 1)) (figures_in p.0 t names) = ys-is ∙ rw (xs-is, one) refl in
        let figures = figures_are t names bytes (given_is h) in
        rw (by_is h) (refl, first ∙ added_twice start (only 0 1) _ ∙ ap (added start) figures)

    pub table_refused : {why : Refusal} → g ≡ Err why
        → (refusal why ≡ rules_check t names bytes x)
        × (xs ≡ counted (rules_check t names bytes x) start (table_figures t names bytes))
    unfolding only
    table_refused h =
        let none : k ≡ 0 = k_is ∙ ap files_of h in
        let same : xs ≡ start = xs-is ∙ rw none (added_zeros start 1) in
        rw (away_is h) (refl, same)
