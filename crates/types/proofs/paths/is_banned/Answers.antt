-- `types::paths::is_banned` meets its contract: in the first edition the field's bytes are compared with `type`, in the
-- second nothing is banned. Assumes nothing.
use mathlib.Core.Path.{◌≡◌, refl, ◌∙◌}
use mathlib.Core.Bool.{Bool}
use mathlib.Core.List.{List}
use Prim.Native.Nat.{ℕ}
use Rattle.dialect.specs.declared.Edition.{Edition}
use Rattle.dialect.specs.declared.Edition.TheVariants.{One}
use Rattle.forest.specs.Forest.{Node}
use Rattle.forest.specs.Names.{name_of, same}
use Rattle.types.specs.Paths.{type_field, banned}
use Rattle.types.proofs.paths.is_banned.Goals as goal

-- the match says that it is the first edition
by_first : (edition : Edition) (names : List ℕ) (dot : Node) → edition ≡ One → {word : List ℕ}
    → word ≡ name_of names dot → {r : Bool} → r ≡ same word type_field → r ≡ banned edition names dot
by_first edition names dot first word_is r-is = r-is ∙ rw (first, word_is) refl

pub returns-in-One : goal.returns-in-One
returns-in-One c = search by_first
