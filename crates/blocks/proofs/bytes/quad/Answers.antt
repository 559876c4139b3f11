-- `blocks::bytes::quad` meets its contract: byte by byte, the low one first. Assumes nothing.
use borrow.Author.Rules.{rules}
use Rattle.fields.specs.Field.{bytes_of}
use Rattle.blocks.proofs.bytes.quad.Goals as goal

pub returns : goal.returns
unfolding bytes_of
returns c = search rules
