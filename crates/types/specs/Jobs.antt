-- The answer of the type job, with its refusals in the order in which they are tested (docs/RULES.md), and the meaning
-- of answers. These are definitions.
use Rattle.std.specs.Prelude.{List, [], ℕ, ◌/◌, leb, length, Err, Ok, Result}
use Rattle.table.specs.declared.Refusal.{Refusal}
use Rattle.fields.specs.Choice.{if'}
use Rattle.forest.specs.Forest.{record_bytes, tree_of}
use Rattle.dialect.specs.declared.DialectTypes.{DialectTypes}
use Rattle.dialect.specs.declared.Edition.{Edition}
use Rattle.dialect.specs.Editions.{edition_of}
use Rattle.table.specs.Numbers.{short_buffer}
use Rattle.table.specs.Answer.{Answer, accepted, refused, and_then, refusal}
use Rattle.table.specs.Check.{rules_of, in_rules, node_check, stretch_of}
use Rattle.table.specs.declared.Wanted.TheVariants.{Expression}
use Rattle.types.specs.Types.{dialect_check_type}

-- the meaning of an answer of the type job: accepted, or refused
abbrev pub shaped : Result (Unit {0}) Refusal → Answer
shaped (Ok _) = accepted []
shaped (Err r) = refusal r

-- 7 unless the buffer has a byte for each node of the type's subtree
abbrev pub room_check : ℕ → List ℕ → Answer
room_check room t = if' (leb (length t / record_bytes) room) (λ _. accepted []) (λ _. refused short_buffer [])

-- the type job on node i of a sound table t, in a known dialect and edition, for a buffer of `room` bytes: 6, 7, then
-- the type
unfoldable pub type_at : Edition → List ℕ → List ℕ → DialectTypes → ℕ → ℕ → Answer
type_at edition t names types i room =
    and_then (node_check t i Expression) (λ _.
    and_then (room_check room (stretch_of t i)) (λ _.
    dialect_check_type edition names types (tree_of i (stretch_of t i))))

-- the whole job, with the number n of an edition: 1 to 5, 6, 7, 45, 40 to 44
unfoldable pub type_shape_of : List ℕ → List ℕ → List ℕ → ℕ → ℕ → ℕ → Answer
type_shape_of t names bytes n i room =
    in_rules (rules_of t names bytes (edition_of n)) (λ d edition. type_at edition t names d.enable_types i room)
