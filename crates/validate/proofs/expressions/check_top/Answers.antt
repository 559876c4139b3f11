-- `validate::expressions::check_top` meets its contract: nothing where the tree has no site, else the walk. Assumes
-- nothing.
use Rattle.validate.proofs.Sites.{top_quiet, top_walked}
use Rattle.validate.proofs.expressions.check_top.Goals as goal

pub returns-then-not-has_site : goal.returns-then-not-has_site
returns-then-not-has_site c = search top_quiet

pub returns : goal.returns
returns c = search top_walked
