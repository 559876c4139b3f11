-- `errors::push` meets its contract: the error in the words of the form. Assumes nothing.
use Rattle.errors.proofs.Storing.{push_form}
use Rattle.errors.proofs.push.Goals as goal

pub returns-in-Module : goal.returns-in-Module
returns-in-Module c = search push_form

pub returns-in-Own : goal.returns-in-Own
returns-in-Own c = search push_form

pub returns-in-Audit : goal.returns-in-Audit
returns-in-Audit c = search push_form

pub returns-in-Numbers : goal.returns-in-Numbers
returns-in-Numbers c = search push_form
