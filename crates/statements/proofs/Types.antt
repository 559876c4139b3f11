-- THE RULES OF TYPES: 1 TO 7, 40 TO 45
--
-- Theorems of the crate `types` about the answer of the type job, `type_shape_of`, which `shapes::type_shape` gives.
-- The content of the record `FileOf` is written field by field. Each statement is proved by citing the theorem. Assumes
-- nothing.
use mathlib.Core.Path.{◌≡◌}
use mathlib.Core.List.{List}
use Prim.Native.Nat.{ℕ, ◌*◌, ◌≤◌}
use lib.ListN.{length, get_or, drop}
use Rattle.fields.specs.Field.{field}
use Rattle.table.specs.Numbers.{slash_first}
use Rattle.table.specs.Answer.{refused}
use Rattle.table.specs.Carrying.{CarriesFile}
use Rattle.types.specs.Jobs.{type_shape_of}
use Rattle.types.proofs.Files as theorem

-- W-208: "all answers with a span carry the file number": the type job
-- In words: a refusal with a number from 10 on carries, as its fourth number, the source file number of the record that
-- it names (bytes 18 and 19), which is also the number of the job's node.
pub type_file : (t names bytes : List ℕ) (edition i room : ℕ) {n : ℕ} {vs : List ℕ}
    → type_shape_of t names bytes edition i room ≡ refused n vs
    → slash_first ≤ n
    → (4 ≤ length vs)
    × (get_or vs 3 0 ≡ field 2 (drop (24 * get_or vs 0 0) t) 18)
    × (get_or vs 3 0 ≡ field 2 (drop (24 * i) t) 18)
type_file t names bytes edition i room {n} {vs} e late =
    let told : CarriesFile t i (refused n vs) = rw e at (theorem.type_files t names bytes edition i room) in
    let f = told late in
    (f.there, f.named, f.same)
