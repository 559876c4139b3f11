-- Marks of entries, which spare most comparisons with earlier entries: an entry is marked by its six bytes of zone
-- and setting, as a name is. The marks decide how much is searched; they never change an answer. These are
-- definitions.
use Rattle.std.specs.Prelude.{Bool, ◌&&◌, not, List, ℕ, take, drop}
use Rattle.fields.specs.Choice.{if'}
use Rattle.forest.specs.Marks.{noted, may_stand}
use Rattle.blocks.specs.Block.{zeros}

-- the six bytes of zone and setting
abbrev pub key_of : List ℕ → List ℕ
key_of e = take 6 (drop 0 e)

-- whether an entry may have been marked before; an empty place is never marked
unfoldable pub may_repeat : List ℕ → List ℕ → Bool
may_repeat marks e = not (zeros e) && may_stand marks (key_of e)

-- the marks after one more place
unfoldable pub noted_entry : List ℕ → List ℕ → List ℕ
noted_entry marks e = if' (zeros e) (λ _. marks) (λ _. noted marks (key_of e))
