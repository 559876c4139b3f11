-- `blocks::padded` meets its contract: the total so far and the bytes that remain decide the answer (`Padding`).
-- Assumes nothing.
use native.Mathlib.Omega.{arith}
use Rattle.blocks.proofs.Judging.{pad_start, pad_fits, pad_on, pad_end}
use Rattle.blocks.proofs.padded.Goals as goal

pub loop-p-init : goal.loop-p-init
loop-p-init c = pad_start _ _ c.requires

pub overflow_cast-total : goal.overflow_cast-total
overflow_cast-total c = let byte = c.type_inv.b c.loop-p.p in record { fits = omega (arith, byte.fits) }

pub overflow_add-total : goal.overflow_add-total
overflow_add-total c =
    let bytes = c.type_inv.b in
    record { fits = pad_fits c.loop-p.invariant c.loop-p-test.true (λ i. (bytes i).fits) }

pub loop-p-preserved : goal.loop-p-preserved
loop-p-preserved c =
    let bytes = c.type_inv.b in
    pad_on c.loop-p.invariant c.loop-p-test.true (λ i. (bytes i).fits)

pub returns : goal.returns
returns c = search pad_end
