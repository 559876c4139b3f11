-- The states that unpack passes through, whether the list is accepted or refused. These are definitions.
use Rattle.std.specs.Prelude.{List, [], ◌∷◌, ◌++◌, ℕ}
use Rattle.fields.specs.Choice.{if'}
use Rattle.deflist.specs.Written.{Param, kind_in}
use Rattle.deflist.specs.Unpack.{Step, on, stop, again, broken, step, flat_at, start, is_slash, first_slash}
use Rattle.deflist.specs.Unpack.{positional_only}
use Rattle.deflist.specs.Reading.{Bounded}
use Rattle.deflist.specs.declared.Unpacking.{Unpacking}

abbrev pub onward : Step → (Unpacking → List Unpacking) → List Unpacking
onward (on u) next = next u
onward (stop n) next = []
onward (again i) next = []
onward (broken e) next = []

-- the states before each parameter that is read, and after the last
unfoldable pub through : List Param → Unpacking → List Param → List Unpacking
through before u [] = u ∷ []
through before u (p ∷ ps) = u ∷ onward (step before u p) (λ v. through (before ++ p ∷ []) v ps)

-- those of a whole list; one that begins with `/` is refused before any
unfoldable pub reached : List Param → List Unpacking
reached [] = through [] (start (flat_at 0)) []
reached (p ∷ ps) =
    if' (is_slash (kind_in p)) (λ _. []) (λ _. through [] (start (positional_only (first_slash (p ∷ ps)))) (p ∷ ps))

-- every number that is counted in these states is at most m
unfoldable pub AllAtMost : ℕ → List Unpacking → Type 0
AllAtMost m [] = Unit {0}
AllAtMost m (u ∷ us) = Bounded m m u.counts × AllAtMost m us
