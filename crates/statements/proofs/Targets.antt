-- THE TARGET AND ASSIGNMENT JOBS: 1 TO 4, 6, 30 TO 33
--
-- Theorems of the crate `targets` about the answers of `targets::target` and `targets::assignment`. The content of the
-- record `FileOf` is written field by field. Each statement is proved by citing the theorem. Assumes nothing.
use mathlib.Core.Path.{◌≡◌}
use mathlib.Core.List.{List}
use Prim.Native.Nat.{ℕ, ◌*◌, ◌≤◌}
use lib.ListN.{length, get_or, drop}
use Rattle.fields.specs.Field.{field}
use Rattle.table.specs.Numbers.{slash_first}
use Rattle.table.specs.Answer.{refused}
use Rattle.table.specs.Carrying.{CarriesFile}
use Rattle.targets.specs.Jobs.{target_of, assignment_of}
use Rattle.targets.proofs.Files as theorem

-- W-208: "all answers with a span carry the file number": the target job
-- In words: a refusal with a number from 10 on carries, as its fourth number, the source file number of the record that
-- it names (bytes 18 and 19), which is also the number of the job's node.
pub target_file : (t names : List ℕ) (i : ℕ) {n : ℕ} {vs : List ℕ}
    → target_of t names i ≡ refused n vs
    → slash_first ≤ n
    → (4 ≤ length vs)
    × (get_or vs 3 0 ≡ field 2 (drop (24 * get_or vs 0 0) t) 18)
    × (get_or vs 3 0 ≡ field 2 (drop (24 * i) t) 18)
target_file t names i {n} {vs} e late =
    let told : CarriesFile t i (refused n vs) = rw e at (theorem.target_files t names i) in
    let f = told late in
    (f.there, f.named, f.same)

-- W-208: "all answers with a span carry the file number": the assignment job
-- In words: the same for the assignment job.
pub assignment_file : (t names : List ℕ) (i : ℕ) {n : ℕ} {vs : List ℕ}
    → assignment_of t names i ≡ refused n vs
    → slash_first ≤ n
    → (4 ≤ length vs)
    × (get_or vs 3 0 ≡ field 2 (drop (24 * get_or vs 0 0) t) 18)
    × (get_or vs 3 0 ≡ field 2 (drop (24 * i) t) 18)
assignment_file t names i {n} {vs} e late =
    let told : CarriesFile t i (refused n vs) = rw e at (theorem.assignment_files t names i) in
    let f = told late in
    (f.there, f.named, f.same)
