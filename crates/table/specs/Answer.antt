-- What an answer means: a number of docs/RULES.md and its values. These are definitions.
use Rattle.std.specs.Prelude.{◌≡◌, Bool, true, false, List, [], ◌∷◌, ◌++◌, ℕ, ◌≤◌, length, Err, None, Ok, Option, Result, Some}
use Rattle.forest.specs.Forest.{Node}
use Rattle.table.specs.declared.Refusal.{Refusal}
use Rattle.table.specs.declared.Refusal.TheVariants.{Bare, Placed, Spanned}
use Rattle.table.specs.declared.Span.{Span}

-- accepted, with the values of the job; or refused, with a number and what it carries: nothing, the node, the node and
-- its span with the source file number, or these and an earlier node
pub data Answer : Type 0 where
  accepted : List ℕ → Answer
  refused : ℕ → List ℕ → Answer

-- checked in order: the first refusal, else what follows
abbrev pub and_then : Answer → (Unit {0} → Answer) → Answer
and_then (accepted vs) next = next tt
and_then (refused n vs) next = refused n vs

-- whether it is accepted
abbrev pub passes : Answer → Bool
passes (accepted vs) = true
passes (refused n vs) = false

-- whether an answer is a refusal
abbrev pub is_refused : Answer → Bool
is_refused (accepted vs) = false
is_refused (refused n vs) = true

-- a span in numbers: begin, end, and the source file number
abbrev pub span_values : Span → List ℕ
span_values s = s.begin ∷ s.end ∷ s.file ∷ []

-- a node's span
abbrev pub span_at : Node → Span
span_at r = record { begin = r.begin; end = r.stop; file = r.file }

-- a refusal at a node, with its span
abbrev pub refused_at : ℕ → Node → Answer
refused_at n r = refused n (r.at ∷ span_values (span_at r))

-- a refusal that also carries an earlier node
abbrev pub refused_after : ℕ → Node → ℕ → Answer
refused_after n r i = refused n (r.at ∷ span_values (span_at r) ++ i ∷ [])

-- a refusal of code: its number
abbrev pub number_of : Refusal → ℕ
number_of (Bare n) = n
number_of (Placed n k) = n
number_of (Spanned n k s e) = n

-- the node that it carries, and the span
abbrev pub node_in : Refusal → Option ℕ
node_in (Bare n) = None
node_in (Placed n k) = Some k
node_in (Spanned n k s e) = Some k

abbrev pub extent_in : Refusal → Option Span
extent_in (Bare n) = None
extent_in (Placed n k) = None
extent_in (Spanned n k s e) = Some s

-- the earlier node that it carries
abbrev pub earlier_in : Refusal → Option ℕ
earlier_in (Bare n) = None
earlier_in (Placed n k) = None
earlier_in (Spanned n k s e) = e

abbrev pub earlier_values : Option ℕ → List ℕ
earlier_values (Some i) = i ∷ []
earlier_values None = []

-- all of that in numbers
abbrev pub carried : Refusal → List ℕ
carried (Bare n) = []
carried (Placed n k) = k ∷ []
carried (Spanned n k s e) = k ∷ span_values s ++ earlier_values e

-- a refusal carries an earlier node, as a fifth number, only if its number is m
abbrev pub OnlyCarries : ℕ → Answer → Type 0
OnlyCarries m (accepted vs) = Unit {0}
OnlyCarries m (refused n vs) = (n ≡ m → length vs ≡ 5) × ((n ≡ m → ⊥) → length vs ≤ 4)

-- what the answers of code mean
abbrev pub refusal : Refusal → Answer
refusal r = refused (number_of r) (carried r)

abbrev pub checked : Result (Unit {0}) Refusal → Answer
checked (Ok _) = accepted []
checked (Err r) = refusal r
