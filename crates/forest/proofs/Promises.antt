-- Two answers of a public function that meet its promise are equal: each promise is an equation over the arguments, and
-- for `note` one more over the marks at exit. So each law is fields' `coincide`. Assumes nothing.
use mathlib.Core.Path.{◌≡◌}
use mathlib.Core.Bool.{Bool}
use mathlib.Core.List.{List}
use Prim.Native.Nat.{ℕ}
use Rattle.fields.proofs.Coincide.{coincide}
use Rattle.forest.specs.Forest.{node_of, span_of}
use Rattle.forest.specs.Names.{name_of, same}
use Rattle.forest.specs.Marks.{noted, may_stand}

-- of `kind`
pub kind_one : (t : List ℕ) {r s : ℕ} → r ≡ (node_of 0 t).kind → s ≡ (node_of 0 t).kind → r ≡ s
kind_one t = coincide

-- of `detail`
pub detail_one : (t : List ℕ) {r s : ℕ} → r ≡ (node_of 0 t).detail → s ≡ (node_of 0 t).detail → r ≡ s
detail_one t = coincide

-- of `name_len`
pub name_len_one : (t : List ℕ) {r s : ℕ} → r ≡ (node_of 0 t).name_len → s ≡ (node_of 0 t).name_len → r ≡ s
name_len_one t = coincide

-- of `name_start`
pub name_start_one : (t : List ℕ) {r s : ℕ} → r ≡ (node_of 0 t).name_start → s ≡ (node_of 0 t).name_start → r ≡ s
name_start_one t = coincide

-- of `begin`
pub begin_one : (t : List ℕ) {r s : ℕ} → r ≡ (node_of 0 t).begin → s ≡ (node_of 0 t).begin → r ≡ s
begin_one t = coincide

-- of `stop`
pub stop_one : (t : List ℕ) {r s : ℕ} → r ≡ (node_of 0 t).stop → s ≡ (node_of 0 t).stop → r ≡ s
stop_one t = coincide

-- of `size`
pub size_one : (t : List ℕ) {r s : ℕ} → r ≡ (node_of 0 t).size → s ≡ (node_of 0 t).size → r ≡ s
size_one t = coincide

-- of `file`
pub file_one : (t : List ℕ) {r s : ℕ} → r ≡ (node_of 0 t).file → s ≡ (node_of 0 t).file → r ≡ s
file_one t = coincide

-- of `source`
pub source_one : (t : List ℕ) {r s : ℕ} → r ≡ (node_of 0 t).source → s ≡ (node_of 0 t).source → r ≡ s
source_one t = coincide

-- of `span`
pub span_one : (t : List ℕ) {r s : ℕ} → r ≡ span_of t → s ≡ span_of t → r ≡ s
span_one t = coincide

-- of `names::name`, whose answer is a part of the name bytes
pub name_one : (names t : List ℕ) {r s : List ℕ} → r ≡ name_of names (node_of 0 t) → s ≡ name_of names (node_of 0 t)
    → r ≡ s
name_one names t = coincide

-- of `names::same_bytes`
pub same_bytes_one : (a b : List ℕ) {r s : Bool} → r ≡ same a b → s ≡ same a b → r ≡ s
same_bytes_one a b = coincide

-- of `marks::note`, which also writes the marks
pub note_one : (marks name : List ℕ) {r s : Bool} {marks-r marks-s : List ℕ} → r ≡ may_stand marks name
    → marks-r ≡ noted marks name → s ≡ may_stand marks name → marks-s ≡ noted marks name
    → (r ≡ s) × (marks-r ≡ marks-s)
note_one marks name r-is marks-r-is s-is marks-s-is = (coincide r-is s-is, coincide marks-r-is marks-s-is)
