-- How the packed rows of code are read. It is proved that they agree with Kinds, so nobody has to check the digits.
-- These are definitions.
use Rattle.std.specs.Prelude.{Bool, true, false, ◌&&◌, ◌||◌, List, [], ◌∷◌, ◌≡◌, ℕ, ◌+◌, ◌-◌, ◌*◌, ◌/◌, ◌%◌, ◌<◌, ◌≤◌, min, length, get_or, take, eqb, ltb, leb, Option}
use Rattle.fields.specs.Choice.{if'}
use Rattle.soundness.specs.Kinds.{statement, expression, parameter, one, two, three, Times, any_number, even_number}
use Rattle.soundness.specs.Kinds.{at_most, Children, children, exactly, any_then, kind_of, class_of}
use Rattle.forest.specs.Forest.{record_bytes, size_of, node_of, span_of}
use Rattle.soundness.specs.Files.{last_file, root_statements}
use Rattle.soundness.specs.Sound.{permitted, fixed, between, root_sound, first_unsound, unsound_in}

-- the parts of a packed rule: the number of first children and the classes of up to three, the number in the middle and
-- their class, the number of last children and the classes of up to three
abbrev pub fronts_in : ℕ → ℕ
fronts_in r = r / 0x10_0000_0000 % 4

abbrev pub front_in : ℕ → List ℕ
front_in r = r / 0x1_0000_0000 % 16 ∷ r / 0x1000_0000 % 16 ∷ r / 0x100_0000 % 16 ∷ []

abbrev pub times_in : ℕ → ℕ
times_in r = r / 0x10_0000 % 16

abbrev pub middle_in : ℕ → ℕ
middle_in r = r / 0x1_0000 % 16

abbrev pub backs_in : ℕ → ℕ
backs_in r = r / 0x1000 % 4

abbrev pub back_in : ℕ → List ℕ
back_in r = r / 0x100 % 16 ∷ r / 16 % 16 ∷ r % 16 ∷ []

-- 15 means any number, 14 an even number, another n at most n
abbrev pub times_of : ℕ → Times
times_of n = if' (eqb n 15) (λ _. any_number) (λ _. if' (eqb n 14) (λ _. even_number) (λ _. at_most n))

-- the children that a packed rule permits
unfoldable pub children_of : ℕ → Children
children_of r = children (take (fronts_in r) (front_in r)) (times_of (times_in r)) (middle_in r)
    (take (backs_in r) (back_in r))

-- the rules that kinds have at a detail from 1 on, by number
abbrev pub rules : List Children
rules =
    exactly [] ∷ exactly one ∷ exactly two ∷ exactly three ∷ any_then parameter (expression ∷ statement ∷ []) ∷ []

unfoldable pub rule_at : ℕ → Children
rule_at n = get_or rules n (exactly [])

-- the rule of a kind at a detail; past its largest detail no children
unfoldable pub rule_of : ℕ → ℕ → Children
rule_of k d = if' (leb d (kind_of k).details) (λ _. (kind_of k).kids d) (λ _. exactly [])

-- the rules of a packed row, and those of a kind, at the details 0 to 3. The row has the rule at detail 0 itself, and
-- the numbers of the others
unfoldable pub rules_in : ℕ → List Children
rules_in row =
    children_of (row / 0x1000 % 0x100_0000_0000) ∷ rule_at (row / 0x100 % 16) ∷ rule_at (row / 16 % 16)
    ∷ rule_at (row % 16)
    ∷ []

unfoldable pub rules_of : ℕ → List Children
rules_of k = rule_of k 0 ∷ rule_of k 1 ∷ rule_of k 2 ∷ rule_of k 3 ∷ []

-- the packed row of a kind says what the kind's row says
pub record RowOf (k row : ℕ) : Type 0 where
  pub class : row / 0x1000_0000_0000_0000 % 16 ≡ class_of k
  pub details : row / 0x100_0000_0000_0000 % 4 ≡ (kind_of k).details
  pub named : eqb (row / 0x10_0000_0000_0000 % 16) 1 ≡ (kind_of k).named
  pub rules : rules_in row ≡ rules_of k

-- the kinds of a class, packed: the least in the low byte, the greatest in the high byte. Class 0 has no kinds
unfoldable pub range_of : ℕ → ℕ
range_of c = get_or (0x00ff ∷ 0x0c01 ∷ 0x2b14 ∷ 0x3632 ∷ 0x3f3c ∷ []) c 0x00ff

-- whether a kind is in a packed range
unfoldable pub in_range : ℕ → ℕ → Bool
in_range r k = leb (r % 256) k && leb k (r / 256 % 256)

-- the class that a rule without last children requires of child j, and the ranges of four children from child j on, the
-- first lowest
unfoldable pub class_for : Children → ℕ → ℕ
class_for c j = get_or c.front j c.middle

unfoldable pub ranges_from : Children → ℕ → ℕ
ranges_from c j =
    range_of (class_for c j) + 0x1_0000 * range_of (class_for c (j + 1)) + 0x1_0000_0000 * range_of
    (class_for c (j + 2))
    + 0x1_0000_0000_0000 * range_of (class_for c (j + 3))

-- whether a rule names the class of each child that it permits: of all first children, and in the middle unless it
-- permits none there
abbrev pub none_more : Times → Bool
none_more any_number = false
none_more even_number = false
none_more (at_most n) = eqb n 0

abbrev pub all_classed : List ℕ → Bool
all_classed [] = true
all_classed (c ∷ cs) = leb 1 c && all_classed cs

unfoldable pub classed : Children → Bool
classed c = all_classed c.front && (leb 1 c.middle || none_more c.times)

-- the packed ranges of a kind at detail 0
pub record RangesOf (k w : ℕ) : Type 0 where
  pub are : w ≡ ranges_from (rule_of k 0) 0
  pub known : classed (rule_of k 0) ≡ true

-- the packed ranges of a rule that has no last children
pub record Ranges (rule w : ℕ) : Type 0 where
  pub no_last : backs_in rule ≡ 0
  pub are : w ≡ ranges_from (children_of rule) 0
  pub known : classed (children_of rule) ≡ true

-- whether a node may have n children, which code tests last
unfoldable pub number_sound : Children → ℕ → Bool
number_sound c n = leb (fixed c) n && permitted c.times (between c n)

-- of n children the last b begin at child m; where b is 0, m is past the children
abbrev pub LastFrom : ℕ → ℕ → ℕ → Type 0
LastFrom n b m = min m n ≡ n - b

-- the class that a packed rule requires of child j, where the last children begin at child m
unfoldable pub class_at : ℕ → ℕ → ℕ → ℕ
class_at r m j =
    if' (ltb j (fronts_in r)) (λ _. get_or (front_in r) j 0) (λ _.
    if' (ltb j m) (λ _. middle_in r) (λ _. get_or (back_in r) (j - m) 0))

-- whether the first node of a stretch is whole and of this class
abbrev pub child_sound : ℕ → List ℕ → Bool
child_sound want bs = eqb (size_of bs) (span_of bs / record_bytes) && eqb (class_of (node_of 0 bs).kind) want

-- its size in bytes if so, else zero
unfoldable pub child_of : ℕ → List ℕ → ℕ
child_of want bs = if' (child_sound want bs) (λ _. span_of bs) (λ _. 0)

-- the same by the range of its kind
unfoldable pub child_in : ℕ → List ℕ → ℕ
child_in range bs =
    if' (eqb (size_of bs) (span_of bs / record_bytes) && in_range range (node_of 0 bs).kind) (λ _. span_of bs) (λ _. 0)

-- where the loop's first statement ends: a root Statements ends after its own record; any other root begins one itself
unfoldable pub root_end : List ℕ → ℕ
root_end t = if' (root_statements t) (λ _. 1) (λ _. 0)

-- what code keeps of the source files at record i, the first of the stretch. Before it, `end` and `file` were the end
-- of the top-level statement and its number. Within that statement both stay, and the record has that number
pub record Turned (bs : List ℕ) (i end file later own least most : ℕ) : Type 0 where
  pub inside : i < end → (later ≡ end) × ((own ≡ file) × ((least ≡ file) × (most ≡ file)))
  pub opens : end ≤ i
      → (later ≡ i + size_of bs) × ((own ≡ (node_of 0 bs).file) × ((least ≡ 1) × (most ≡ last_file)))

-- what a search for the first unsound record returns, of a top-level statement (`alone`) and of a table whose root is
-- sound (`table`); `first` ends the loop's first statement, and no statement ends before `whole`
pub record Searched (t : List ℕ) (names first whole : ℕ) (r : Option ℕ) : Type 0 where
  pub alone : first ≡ 0 → whole ≡ length t / record_bytes → r ≡ unsound_in names t
  pub table : first ≡ root_end t → whole ≡ 0 → root_sound t ≡ true → (ns : List ℕ) → names ≡ length ns
      → r ≡ first_unsound t ns
