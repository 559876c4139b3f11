-- What code returns for an outcome of unpack. These are definitions.
use Rattle.std.specs.Prelude.{ℕ, Err, None, Ok, Option, Result, Some}
use Rattle.deflist.specs.declared.Counts.{Counts}
use Rattle.forest.specs.Forest.{Node}
use Rattle.table.specs.Numbers.{duplicated_parameter}
use Rattle.table.specs.Answer.{span_at}
use Rattle.deflist.specs.Unpack.{Outcome, accepted, refused, repeated, internal}
use Rattle.deflist.specs.declared.Check.{Check}
use Rattle.deflist.specs.declared.Check.TheVariants.{Fine, Broken, Repeated}
use Rattle.deflist.specs.declared.Fault.{Fault}

-- a refusal at a record: its number, its node and its span, and the node of an earlier one
abbrev pub fault : ℕ → Node → Option ℕ → Fault
fault n r f = record { number = n; node = r.at; span = span_at r; earlier = f }

-- the turn of a parameter with this check
abbrev pub turn_of : Check → Node → Result (Unit {0}) Fault
turn_of Fine r = Ok tt
turn_of (Broken n) r = Err (fault n r None)
turn_of (Repeated i) r = Err (fault duplicated_parameter r (Some i))

-- 0 is not among the numbers of docs/RULES.md: it would report an internal error, and none arises
abbrev pub internal_error : ℕ
internal_error = 0

-- what code returns for an outcome
abbrev pub told : Outcome → Result Counts Fault
told (accepted c) = Ok c
told (refused n r) = Err (fault n r None)
told (repeated i r) = Err (fault duplicated_parameter r (Some i))
told (internal e r) = Err (fault internal_error r None)
