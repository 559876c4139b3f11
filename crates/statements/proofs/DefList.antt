-- DEF.RS: WHAT CANNOT HAPPEN IN A PARAMETER LIST
--
-- Theorems of the crate `deflist` about the definition of DefParams::unpack, for any list. Each statement is proved by
-- citing the theorem. Assumes nothing.
use mathlib.Core.Path.{◌≡◌}
use mathlib.Core.List.{List}
use Prim.Native.Nat.{◌≤◌}
use lib.ListN.{length}
use Rattle.forest.specs.Forest.{Node}
use Rattle.deflist.specs.Written.{Param}
use Rattle.deflist.specs.Unpack.{Internal, internal, first_slash, positional_only, unpack}
use Rattle.deflist.specs.Reached.{reached, AllAtMost}
use Rattle.deflist.proofs.Theorems as theorem
use Rattle.deflist.proofs.Counted as theorem_counted

-- "Both files' internal errors are shown never to arise": def.rs 246, 274, 299
-- In words: no list gives an internal error.
pub no_internal_error : (l : List Param) {e : Internal} {r : Node} → unpack l ≡ internal e r → ⊥
no_internal_error = theorem.no_internal_error

-- "Too many parameters" and the unwraps of def.rs cannot fire
-- In words: in every state while the list is read, each number that is counted is at most the length of the list.
pub counted_at_most : (l : List Param) → AllAtMost (length l) (reached l)
counted_at_most = theorem_counted.counted_at_most

-- the same for the place of `/`
-- In words: the written position of the first `/` is at most the length of the list.
pub slash_at_most : (l : List Param) → (positional_only (first_slash l)).0 ≤ length l
slash_at_most = theorem_counted.slash_at_most
