-- `deflist::entry::listed` meets its contract: it is the definition. Assumes nothing.
use Rattle.deflist.proofs.Parts.{listed_is}
use Rattle.deflist.proofs.entry.listed.Goals as goal

pub returns : goal.returns
returns c = listed_is _ c.class.ensures
