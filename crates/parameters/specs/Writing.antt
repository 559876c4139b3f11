-- What code computes while it counts a list and writes its modes. Only contracts of private functions use these
-- definitions.
use Rattle.std.specs.Prelude.{◌≡◌, Bool, true, false, List, [], ◌∷◌, ◌++◌, ℕ, zero, suc, ◌≤◌, ◌<◌, ◌^◌, length, Err, None, Ok, Option, Result, Some}
use Rattle.deflist.specs.declared.Counts.{Counts}
use Rattle.std.proofs.lemmas.List.Edits.{sets}
use Rattle.forest.specs.Forest.{Node, forest}
use Rattle.deflist.specs.Written.{Param, params_in}
use Rattle.deflist.specs.Unpack.{first_state, mode_of, modes_from, modes}
use Rattle.deflist.specs.declared.Kind.{Kind}
use Rattle.deflist.specs.Reading.{NotPast, Bounded}
use Rattle.deflist.specs.declared.Fault.{Fault}
use Rattle.deflist.specs.declared.State.{State}
use Rattle.deflist.specs.declared.State.TheVariants.{SeenSlash}
use Rattle.table.specs.Answer.{Answer, accepted, refused, span_values, earlier_values}
use Rattle.parameters.specs.Indices.{values_of, counted_of}
use Rattle.parameters.specs.Params.{list_answer, afterwards}

-- whether unpack's result is a refusal, and the state in which an accepted list begins
abbrev pub is_refused : Result Counts Fault → Bool
is_refused (Ok c) = false
is_refused (Err f) = true

abbrev pub first_of : Result Counts Fault → State
first_of (Ok c) = first_state c.num_positional_only
first_of (Err f) = SeenSlash

-- the earlier node of a refusal at a parameter, as the table has it
abbrev pub earlier_place : Option ℕ → Option ℕ
earlier_place (Some i) = Some i
earlier_place None = None

-- the answer of the job for such a refusal, and that its numbers fit 32 bits
abbrev pub fault_answer : Fault → Answer
fault_answer f = refused f.number (f.node ∷ span_values f.span ++ earlier_values (earlier_place f.earlier))

abbrev pub SmallFault : Fault → Type 0
SmallFault f = (f.node < 2 ^ 32) × NotPast 4294967295 f.earlier

-- the same for a result of unpack
abbrev pub judged_answer : Result Counts Fault → Answer
judged_answer (Ok c) = accepted (values_of (counted_of c))
judged_answer (Err f) = fault_answer f

abbrev pub Small : Result Counts Fault → Type 0
Small (Ok c) = Bounded 4294967295 4294967295 c
Small (Err f) = SmallFault f

-- the mode of a parameter as a byte: 0 for a mark
abbrev pub first_mode : List ℕ → ℕ
first_mode [] = 0
first_mode (m ∷ ms) = m

abbrev pub mode_byte : State → Kind → ℕ
mode_byte s k = first_mode (mode_of s k)

-- a byte that is a mode
abbrev pub mode_in : ℕ → List ℕ
mode_in zero = []
mode_in (suc m) = suc m ∷ []

-- the list at the front of a stretch, whatever the names and the index: it has at most n parameters; the buffer ms has
-- become ms' where its modes, from a state on, are written at the front
pub record AtMost (kids : List ℕ) (n : ℕ) : Type 0 where
  pub most : (names : List ℕ) (i : ℕ) → length (params_in names (forest i kids)) ≤ n

pub record Modes (kids : List ℕ) (s : State) (ms ms' : List ℕ) : Type 0 where
  pub wrote : (names : List ℕ) (i : ℕ) → ms' ≡ sets ms 0 (modes_from s (params_in names (forest i kids)))

-- the same for the result of unpack: a refusal leaves the buffer
pub record Kept (kids : List ℕ) (j : Result Counts Fault) (ms ms' : List ℕ) : Type 0 where
  pub left : is_refused j ≡ true → ms' ≡ ms
  pub wrote : is_refused j ≡ false → Modes kids (first_of j) ms ms'

-- the answer u for the written list of a record, and the buffer ms' that the job leaves of ms
pub record Leaves (owner : Node) (l : List Param) (ms : List ℕ) (u : Answer) (ms' : List ℕ) : Type 0 where
  pub answer : u ≡ list_answer owner l (length ms)
  pub buffer : ms' ≡ afterwards (list_answer owner l (length ms)) (modes l) ms
