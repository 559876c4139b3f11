-- The source file number of an error of a list (W-208). These are definitions.
use Rattle.std.specs.Prelude.{◌≡◌, List, ℕ, ◌≤◌}
use Rattle.table.specs.Numbers.{slash_first}
use Rattle.table.specs.Carrying.{file_at}
use Rattle.errors.specs.declared.Finding.{Finding}

-- an error with a number from 10 on has the source file number of the record that it names
abbrev pub FileThere : List ℕ → Finding → Type 0
FileThere t e = slash_first ≤ e.number → e.span.file ≡ file_at t e.node
