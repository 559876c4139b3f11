-- Why the second clause demands that both dialects agree on top-level statements: a sound table of three records in
-- which opening them removes 54 and adds 55, because the pass visits the body of an `if` only if the `if` is permitted.
-- Everything is computed from the bytes of the table (`refl`). Cite `not_tied`: no choice of numbers to remove relates
-- the two lists. Assumes nothing.
use mathlib.Core.Path.{◌≡◌, refl}
use mathlib.Core.Bool.{Bool, true}
use mathlib.Core.List.{[]}
use Prim.Native.Nat.{ℕ}
use native.Mathlib.Omega.{arith}
use Rattle.fields.specs.Field.{field}
use Rattle.dialect.specs.Rows.{record_of}
use Rattle.dialect.specs.Bytes.{within, valid_bytes, from_bytes}
use Rattle.forest.specs.Forest.{size_of, kids_of, rest_of, forest_in, forest, count}
use Rattle.forest.specs.Names.{same}
use Rattle.soundness.specs.Kinds.{kind_in, kind_of}
use Rattle.soundness.specs.Files.{file_sound, ends_by, top_of, files_of}
use Rattle.soundness.specs.Sound.{name_sound, span_sound, source_sound, fields_sound, whole_trees, classes, permitted}
use Rattle.soundness.specs.Sound.{wanted, permits, kids_sound, sound_node, sound_at, root_sound, context_of, record_sound}
use Rattle.soundness.specs.Sound.{first_false, first_unsound}
use Rattle.table.specs.Depth.{class_weight, weight, first_deep}
use Rattle.table.specs.Answer.{accepted}
use Rattle.table.specs.Check.{length_sound, check_of, given_of}
use Rattle.validate.specs.Module.{arm_of, f, expr_errors, expr}
use Rattle.validate.specs.Job.{errors_of}
use Rattle.opening.specs.Opening.{permits_all, without}
use Rattle.opening.proofs.Filters.{not_left}
use Rattle.opening.specs.Example.{if_break, closed, top_level_open, before, after}

-- the table passes 1 to 4
sound : check_of if_break [] ≡ accepted []
unfolding check_of length_sound first_unsound first_false record_sound root_sound sound_at sound_node context_of
    files_of top_of
    ends_by file_sound fields_sound name_sound span_sound source_sound whole_trees classes permitted wanted permits
    kids_sound
    kind_in kind_of forest_in forest kids_of rest_of size_of field count same first_deep class_weight weight
sound = refl

-- EXAMPLE: the two lists
pub list_before : errors_of if_break [] closed ≡ before
unfolding errors_of given_of from_bytes valid_bytes within record_of forest_in forest kids_of rest_of size_of field
    kind_in kind_of
    arm_of f expr_errors expr
list_before = rw sound refl

pub list_after_lem : errors_of if_break [] top_level_open ≡ after
unfolding errors_of given_of from_bytes valid_bytes within record_of forest_in forest kids_of rest_of size_of field
    kind_in kind_of
    arm_of f expr_errors expr
list_after_lem = rw sound refl

-- EXAMPLE: the second dialect permits all that the first does, and yet its list is not the first without some errors
pub opens : permits_all (record_of closed) (record_of top_level_open) ≡ true
unfolding permits_all record_of
opens = refl

pub not_tied : (out : ℕ → Bool) → errors_of if_break [] top_level_open ≡ without out (errors_of if_break [] closed) → ⊥
not_tied out h = not_left out _ _ (λ same. absurd (omega (arith, same))) (rw (list_before, list_after_lem) at h)
