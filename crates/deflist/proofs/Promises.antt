-- Two answers of a public function that meet its promise are equal. Each promise is an equation, so each law is fields'
-- `coincide`; a promise that holds for all names and indices is used at one of them. Assumes nothing.
use Rattle.std.specs.Prelude.{Result}
use Rattle.deflist.specs.declared.Fault.{Fault}
use Rattle.deflist.specs.declared.Counts.{Counts}
use mathlib.Core.Path.{◌≡◌}
use mathlib.Core.Bool.{Bool}
use mathlib.Core.List.{List}
use Prim.Native.Nat.{ℕ, ◌+◌, ◌/◌}
use lib.ListN.{length}
use Rattle.fields.proofs.Coincide.{coincide}
use Rattle.forest.specs.Forest.{record_bytes, node_of, kids_of}
use Rattle.deflist.specs.Written.{written}
use Rattle.deflist.specs.Unpack.{next_state, is_slash, first_state}
use Rattle.deflist.specs.Limited.{limited}
use Rattle.deflist.specs.Told.{told}
use Rattle.deflist.specs.Reading.{is_listed, kind_here, Inside, is_over, Exceeds}
use Rattle.deflist.specs.declared.Kind.{Kind}
use Rattle.deflist.specs.declared.State.{State}
use Rattle.deflist.specs.declared.Flat.{Flat}

-- of `judge`; its second promise only bounds what the first determines
pub judge_one : (names t : List ℕ) (node : ℕ) {r s : Result Counts Fault}
    → r ≡ told (limited (node_of node t) (written names node t)) → Inside (node + 1 + length t / record_bytes) r
    → s ≡ told (limited (node_of node t) (written names node t)) → Inside (node + 1 + length t / record_bytes) s
    → r ≡ s
judge_one names t node p _ q _ = coincide p q

-- of `children`, `entry::listed`, `entry::kind_of`
pub children_one : (t : List ℕ) {r s : List ℕ} → r ≡ kids_of t → s ≡ kids_of t → r ≡ s
children_one t = coincide

pub listed_one : (t : List ℕ) {r s : Bool} → r ≡ is_listed t → s ≡ is_listed t → r ≡ s
listed_one t = coincide

pub kind_of_one : (t : List ℕ) {r s : Kind} → r ≡ kind_here t → s ≡ kind_here t → r ≡ s
kind_of_one t = coincide

-- of `list::has_more`; its second promise says the same whatever the names and the index
pub has_more_one : (kids : List ℕ) (most : ℕ) {r s : Bool} → r ≡ is_over most kids → Exceeds most kids r
    → s ≡ is_over most kids → Exceeds most kids s → r ≡ s
has_more_one kids most p _ q _ = coincide p q

-- of `states::first_state`, `states::next_state`
pub first_state_one : (only : Flat) {r s : State} → r ≡ first_state only → s ≡ first_state only → r ≡ s
first_state_one only = coincide

pub next_state_one : (state : State) (kind : Kind) {r s : State} → r ≡ next_state state kind
    → s ≡ next_state state kind → r ≡ s
next_state_one state kind = coincide

-- of `is_slash`
pub is_slash_one : (kind : Kind) {r s : Bool} → r ≡ is_slash kind → s ≡ is_slash kind → r ≡ s
is_slash_one kind = coincide
