-- `errors::free` meets its contract: no error, then each form by its own number of words. Assumes nothing.
use Rattle.errors.proofs.Storing.{free_all}
use Rattle.errors.proofs.free.Goals as goal

pub returns-then-count-eq0 : goal.returns-then-count-eq0
returns-then-count-eq0 c = search free_all

pub returns-in-Module : goal.returns-in-Module
returns-in-Module c = rw c.in-Module.is c.free_short.ensures

pub returns-in-Own : goal.returns-in-Own
returns-in-Own c = rw c.in-Own.is c.free_long.ensures

pub returns-in-Audit : goal.returns-in-Audit
returns-in-Audit c = rw c.in-Audit.is c.free_long-in-Audit.ensures

pub returns-in-Numbers : goal.returns-in-Numbers
returns-in-Numbers c = rw c.in-Numbers.is c.free_numbers.ensures
