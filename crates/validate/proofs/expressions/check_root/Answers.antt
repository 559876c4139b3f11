-- `validate::expressions::check_root` meets its contract: the walk where the root is a site, else the statements
-- below it. Assumes nothing.
use Rattle.validate.proofs.Sites.{top_walked, root_on}
use Rattle.validate.proofs.expressions.check_root.Goals as goal

pub returns-then-is_site : goal.returns-then-is_site
returns-then-is_site c = search top_walked

pub returns : goal.returns
returns c = search root_on
