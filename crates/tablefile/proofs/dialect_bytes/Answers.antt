-- `tablefile::dialect_bytes` meets its contract: the bytes after the counts, or fewer if the file ends. Assumes
-- nothing.
use Rattle.tablefile.proofs.Lends.{dialect_away, dialect_short, dialect_there}
use Rattle.tablefile.proofs.dialect_bytes.Goals as goal

pub returns-then-file-lt8 : goal.returns-then-file-lt8
returns-then-file-lt8 c = search dialect_away

pub returns-then-rest-len : goal.returns-then-rest-len
returns-then-rest-len c = search dialect_short

pub returns : goal.returns
returns c = search dialect_there
