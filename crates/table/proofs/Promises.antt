-- Two answers of a public function that meet its promise are equal. A promise is an equation of the answer (fields'
-- `coincide`), or of what the answer means; then no two answers mean the same (Answers' `refusal_injective` and the
-- others, by `coincide_by`). Assumes nothing.
use Rattle.std.specs.Prelude.{Option, Result, ℕ}
use Rattle.dialect.specs.declared.Edition.{Edition}
use Rattle.dialect.specs.declared.Dialect.{Dialect}
use mathlib.Core.Path.{◌≡◌}
use mathlib.Core.Bool.{Bool}
use mathlib.Core.List.{List, ◌∷◌, ◌++◌}
use Prim.Native.Nat.{ℕ}
use Rattle.fields.proofs.Coincide.{coincide, coincide_by}
use lib.ListN.{take}
use Rattle.forest.specs.Forest.{node_of, forest, roots}
use Rattle.soundness.specs.Kinds.{class_of}
use Rattle.table.specs.Answer.{refused, refused_at, number_of, refusal, checked, span_at, node_in, extent_in}
use Rattle.table.specs.Answer.{span_values, earlier_in, earlier_values}
use Rattle.table.specs.Naming.{bears_name, first_named}
use Rattle.table.specs.Depth.{first_deep}
use Rattle.table.specs.declared.Entries.{Entries}
use Rattle.table.specs.Check.{check_of, given, given_of, node_fits, stretch_of, entry_check}
use Rattle.table.specs.Check.{most_bytes, is_headed, ruled, rules_of}
use Rattle.table.specs.declared.Span.{Span}
use Rattle.table.specs.declared.Refusal.{Refusal}
use Rattle.table.specs.declared.Wanted.{Wanted}
use Rattle.table.proofs.Answers.{refusal_injective, checked_injective, given_injective}
use Rattle.table.proofs.Ruling.{ruled_injective}

-- of `check`
pub check_one : (table names : List ℕ) {r s : Result (Unit {0}) Refusal} → checked r ≡ check_of table names
    → checked s ≡ check_of table names → r ≡ s
check_one table names = coincide_by checked checked_injective

-- of `class`
pub class_one : (t : List ℕ) {r s : ℕ} → r ≡ class_of (node_of 0 t).kind → s ≡ class_of (node_of 0 t).kind → r ≡ s
class_one t = coincide

-- of `refused_at`
pub refused_at_one : (number node : ℕ) (t : List ℕ) {r s : Refusal} → refusal r ≡ refused_at number (node_of node t)
    → refusal s ≡ refused_at number (node_of node t) → r ≡ s
refused_at_one number node t = coincide_by refusal refusal_injective

-- of `node_fits`
pub node_fits_one : (table : List ℕ) (node : ℕ) (wanted : Wanted) {r s : Bool} → r ≡ node_fits table node wanted
    → s ≡ node_fits table node wanted → r ≡ s
node_fits_one table node wanted = coincide

-- of `deep_under_root`
pub deep_under_root_one : (t : List ℕ) {r s : Option ℕ} → r ≡ first_deep 1 (forest 0 t) → s ≡ first_deep 1 (forest 0 t)
    → r ≡ s
deep_under_root_one t = coincide

-- of `stretch`, whose answer is a part of the table
pub stretch_one : (table : List ℕ) (node : ℕ) {r s : List ℕ} → r ≡ stretch_of table node → s ≡ stretch_of table node
    → r ≡ s
stretch_one table node = coincide

-- of `within`, whose answer is a part of the bytes
pub within_one : (t : List ℕ) {r s : List ℕ} → r ≡ take most_bytes t → s ≡ take most_bytes t → r ≡ s
within_one t = coincide

-- of `is_headed`
pub is_headed_one : (t : List ℕ) (node : ℕ) {r s : Bool} → r ≡ is_headed node t → s ≡ is_headed node t → r ≡ s
is_headed_one t node = coincide

-- of `number`
pub number_one : (why : Refusal) {r s : ℕ} → r ≡ number_of why → s ≡ number_of why → r ≡ s
number_one why = coincide

-- of `node_of`
pub node_of_one : (why : Refusal) {r s : Option ℕ} → r ≡ node_in why → s ≡ node_in why → r ≡ s
node_of_one why = coincide

-- of `extent_of`
pub extent_of_one : (why : Refusal) {r s : Option Span} → r ≡ extent_in why → s ≡ extent_in why → r ≡ s
extent_of_one why = coincide

-- of `earlier_of`
pub earlier_of_one : (why : Refusal) {r s : Option ℕ} → r ≡ earlier_in why → s ≡ earlier_in why → r ≡ s
earlier_of_one why = coincide

-- of `named::bears_name`
pub bears_name_one : (entries : Entries) (kind : ℕ) {r s : Bool} → r ≡ bears_name entries kind
    → s ≡ bears_name entries kind → r ≡ s
bears_name_one entries kind = coincide

-- of `named::first_named`
pub first_named_one : (entries : Entries) (names name t : List ℕ) (n : ℕ) {r s : Option ℕ}
    → r ≡ first_named entries names name (take n (roots (forest 0 t)))
    → s ≡ first_named entries names name (take n (roots (forest 0 t))) → r ≡ s
first_named_one entries names name t n = coincide

-- of `span_of`
pub span_of_one : (t : List ℕ) {r s : Span} → r ≡ span_at (node_of 0 t) → s ≡ span_at (node_of 0 t) → r ≡ s
span_of_one t = coincide

-- of `refused_in`
pub refused_in_one : (number node : ℕ) (span : Span) (earlier : Option ℕ) {r s : Refusal}
    → refusal r ≡ refused number (node ∷ span_values span ++ earlier_values earlier)
    → refusal s ≡ refused number (node ∷ span_values span ++ earlier_values earlier) → r ≡ s
refused_in_one number node span earlier = coincide_by refusal refusal_injective

-- of `enter`
pub enter_one : (table names : List ℕ) (node : ℕ) (wanted : Wanted) {r s : Result (Unit {0}) Refusal}
    → checked r ≡ entry_check wanted table names node → checked s ≡ entry_check wanted table names node → r ≡ s
enter_one table names node wanted = coincide_by checked checked_injective

-- of `enter_dialect`
pub enter_dialect_one : (table names bytes : List ℕ) {r s : Result Dialect Refusal}
    → given r ≡ given_of table names bytes
    → given s ≡ given_of table names bytes → r ≡ s
enter_dialect_one table names bytes = coincide_by given given_injective

-- of `enter_rules`
pub enter_rules_one : (table names bytes : List ℕ) (read : Option Edition) {r s : Result (Dialect × Edition) Refusal}
    → ruled r ≡ rules_of table names bytes read → ruled s ≡ rules_of table names bytes read → r ≡ s
enter_rules_one table names bytes read = coincide_by ruled ruled_injective
