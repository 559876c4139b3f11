-- `rescue::rescue` meets its contract: 90, or a header that is good. Assumes nothing.
use Prim.Native.Nat.{ℕ}
use native.Mathlib.Omega.{arith}
use lib.ListN.{length-replicate}
use Rattle.rescue.proofs.Jobs.{head_refused, head_keeps, start_names, start_ready}
use Rattle.rescue.proofs.rescue.Goals as goal

pub returns-then-not-head_good : goal.returns-then-not-head_good
returns-then-not-head_good c = search (head_refused, head_keeps)

pub slice_bounds-rescue_named-end : goal.slice_bounds-rescue_named-end
slice_bounds-rescue_named-end c =
    omega (arith, start_names _ c.header-h.ensures c.head_good.ensures c.if-not-head_good.false)

pub rescue_named-requires : goal.rescue_named-requires
rescue_named-requires c =
    start_ready _ c.header-h.ensures c.head_good.ensures c.if-not-head_good.false _ (length-replicate {A = ℕ} 8064 0)
    c.copy_content.ensures
