-- `writer::write_unchecked` meets its contract: nothing changes if it does not fit, else the file is written. Assumes
-- nothing.
use Rattle.writer.proofs.Jobs.{unfit_keeps, fit_writes, fit_laid}
use Rattle.writer.proofs.write_unchecked.Goals as goal

pub returns-then-not-fits : goal.returns-then-not-fits
returns-then-not-fits c = search unfit_keeps

pub write_file-requires : goal.write_file-requires
write_file-requires c =
    fit_writes _ _ _ _ _ c.fits.ensures c.if-not-fits.false

pub returns : goal.returns
returns c = search fit_laid
