-- `fstring::byte_size` meets its contract: a brace takes two bytes, any other one. Assumes nothing.
use Rattle.fstring.proofs.Sizes.{size_two, size_one}
use Rattle.fstring.proofs.byte_size.Goals as goal

pub returns-then-is_brace : goal.returns-then-is_brace
returns-then-is_brace c = search size_two

pub returns : goal.returns
returns c = search size_one
