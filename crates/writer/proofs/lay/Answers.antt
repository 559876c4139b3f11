-- `writer::lay` meets its contract: the bytes are copied and weighed one by one (`Laying`). Assumes nothing.
use native.Mathlib.Omega.{arith}
use Rattle.writer.proofs.Laying.{lay_start, lay_long, lay_place, lay_fits, lay_on, lay_end}
use Rattle.writer.proofs.Laying.{lay_sum}
use Rattle.writer.proofs.lay.Goals as goal

pub loop-i-init : goal.loop-i-init
loop-i-init c =
    let out = c.type_inv.out in
    let bytes = c.type_inv.bytes in
    lay_start _ _ _ _ (λ i. (out i).fits) (λ i. (bytes i).fits) c.requires

pub bounds-out-p : goal.bounds-out-p
bounds-out-p c = search lay_place

pub overflow_add-sum : goal.overflow_add-sum
overflow_add-sum c =
    let loop = c.loop-i in
    record { fits = lay_fits loop.invariant _ c.weight-sum.ensures (omega arith) }

pub loop-i-preserved : goal.loop-i-preserved
loop-i-preserved c = search lay_on

pub shape_of-out : goal.shape_of-out
shape_of-out c = search lay_long

pub returns : goal.returns
returns c = search (lay_end, lay_sum)
