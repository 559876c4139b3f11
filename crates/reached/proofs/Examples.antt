-- The corner cases of W-204 in specs/Cases.antt: for each row, the definitions give the words or the refusal that the
-- row shows, whatever the record of the def. The prover computes all rows, so one `refl` shows them (`corner_cases`).
-- That there are 18 rows is a theorem too (`how_many_lem`), so that none can be left out unnoticed. Assumes nothing.
use mathlib.Core.Path.{◌≡◌, refl}
use mathlib.Core.List.{map}
use lib.ListN.{length}
use Rattle.forest.specs.Forest.{Node}
use Rattle.forest.specs.Names.{same}
use Rattle.deflist.specs.Unpack.{has_name, first_same, repeats, advance, step, finish, run, slash_from, start, unpack}
use Rattle.deflist.specs.Limited.{limited}
use Rattle.parameters.specs.Indices.{counted_of}
use Rattle.arguments.specs.Call.{first_same as call_same, has_name as call_name, repeats as call_repeats, check}
use Rattle.arguments.specs.Call.{advance as call_advance, run as call_run, unpack as call_unpack}
use Rattle.bind.specs.FlatList.{flats_from, flats}
use Rattle.bind.specs.Binding.{named_from, reaches, unreached, turn, along, star_check, empty_check, binding}
use Rattle.bind.specs.Job.{lists_bound}
use Rattle.reached.specs.Cases.{Row, rows}

-- THEOREM: every row is what the definitions answer, whatever the record of the def
pub corner_cases : (def : Node)
    → map (λ (r : Row). lists_bound def r.params r.arguments) rows ≡ map (λ (r : Row). r.shown) rows
unfolding same has_name first_same repeats advance step finish run slash_from start unpack counted_of call_same
    call_name
    call_repeats check call_advance call_run call_unpack flats_from flats named_from reaches unreached turn along
    star_check
    empty_check binding lists_bound limited
corner_cases def = refl

-- THEOREM: the number of rows
pub how_many_lem : length rows ≡ 18
how_many_lem = refl
