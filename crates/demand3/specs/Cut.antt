-- The cut of a parameter list into parts, by itself: what the parts are, how they join, when a cut is good, and the
-- ranges of its parts. These are definitions.
use Rattle.std.specs.Prelude.{◌≡◌, Bool, true, false, ◌&&◌, List, [], ◌∷◌, ◌++◌, ℕ, zero, suc, ◌+◌, ◌-◌, ◌<◌, ◌≤◌, length, get_or, take, drop, replicate, leb, ltb}
use Rattle.forest.specs.Names.{Distinct}
use Rattle.fields.specs.Choice.{if'}
use Rattle.forest.specs.Forest.{Node}
use Rattle.deflist.specs.Written.{Name, Param, normal, no_args, slash, args, kwargs}
use Rattle.deflist.specs.Unpack.{mode_pos_only, mode_pos_or_name, mode_name_only, mode_args, mode_kwargs}
use Rattle.parameters.specs.Indices.{range}
use Rattle.parameters.specs.declared.Range.{Range}

-- an ordinary parameter
pub record Ordinary : Type 0 where
  pub node : Node
  pub name : Name
  pub default : Bool

-- nothing, or ordinary parameters and `/`
pub data Before : Type 0 where
  no_slash : Before
  up_to_slash : List Ordinary → Node → Before

-- nothing, or `*` with ordinary parameters, or `*args` with ordinary parameters
pub data Star : Type 0 where
  no_star : Star
  bare : Node → List Ordinary → Star
  starred : Node → Name → List Ordinary → Star

-- nothing or `**kwargs`
pub data Last : Type 0 where
  no_kwargs : Last
  with_kwargs : Node → Name → Last

-- the parts in written order
pub record Cut : Type 0 where
  pub before : Before
  pub middle : List Ordinary
  pub star : Star
  pub last : Last

-- the ordinary parameters before `/`, and those after a star
abbrev pub firsts : Before → List Ordinary
firsts no_slash = []
firsts (up_to_slash qs r) = qs

abbrev pub after_star : Star → List Ordinary
after_star no_star = []
after_star (bare r qs) = qs
after_star (starred r n qs) = qs

-- each part as it is written
abbrev pub ordinary : List Ordinary → List Param
ordinary [] = []
ordinary (q ∷ qs) = normal q.node q.name q.default ∷ ordinary qs

abbrev pub slash_part : Before → List Param
slash_part no_slash = []
slash_part (up_to_slash qs r) = ordinary qs ++ slash r ∷ []

abbrev pub star_part : Star → List Param
star_part no_star = []
star_part (bare r qs) = no_args r ∷ ordinary qs
star_part (starred r n qs) = args r n ∷ ordinary qs

abbrev pub kwargs_part : Last → List Param
kwargs_part no_kwargs = []
kwargs_part (with_kwargs r n) = kwargs r n ∷ []

-- the parts joined
abbrev pub join : Cut → List Param
join c = slash_part c.before ++ (ordinary c.middle ++ (star_part c.star ++ kwargs_part c.last))

-- the names of a written list, marks have none
abbrev pub names_of : List Param → List Name
names_of [] = []
names_of (normal r n d ∷ ps) = n ∷ names_of ps
names_of (no_args r ∷ ps) = names_of ps
names_of (slash r ∷ ps) = names_of ps
names_of (args r n ∷ ps) = n ∷ names_of ps
names_of (kwargs r n ∷ ps) = n ∷ names_of ps

-- no parameter without a default after one with a default
abbrev pub default_at : List Ordinary → ℕ → Bool
default_at [] i = false
default_at (q ∷ qs) zero = q.default
default_at (q ∷ qs) (suc i) = default_at qs i

abbrev pub Defaulted : List Ordinary → Type 0
Defaulted qs = (i j : ℕ) → i < j → j < length qs → default_at qs i ≡ true → default_at qs j ≡ true

-- one or more before `/`, and at least one after `*`
abbrev pub Some : List Ordinary → Type 0
Some [] = ⊥
Some (q ∷ qs) = Unit {0}

abbrev pub SlashGood : Before → Type 0
SlashGood no_slash = Unit {0}
SlashGood (up_to_slash qs r) = Some qs

abbrev pub StarGood : Star → Type 0
StarGood no_star = Unit {0}
StarGood (bare r qs) = Some qs
StarGood (starred r n qs) = Unit {0}

-- a good cut, as demand 3 requires it
pub record Good (c : Cut) : Type 0 where
  pub slash : SlashGood c.before
  pub star : StarGood c.star
  pub distinct : Distinct (names_of (join c))
  pub defaulted : Defaulted (firsts c.before ++ c.middle)

-- the five parts of the flat list, marks omitted
abbrev pub args_part : Star → List Param
args_part no_star = []
args_part (bare r qs) = []
args_part (starred r n qs) = args r n ∷ []

pub record Parts : Type 0 where
  pub pos_only : List Param
  pub pos_or_named : List Param
  pub args : List Param
  pub named_only : List Param
  pub kwargs : List Param

abbrev pub parts_of : Cut → Parts
parts_of c = record {
  pos_only = ordinary (firsts c.before);
  pos_or_named = ordinary c.middle;
  args = args_part c.star;
  named_only = ordinary (after_star c.star);
  kwargs = kwargs_part c.last;
}

-- the flat list: the written list with the marks omitted
abbrev pub flat_list : List Param → List Param
flat_list [] = []
flat_list (normal r n d ∷ ps) = normal r n d ∷ flat_list ps
flat_list (no_args r ∷ ps) = flat_list ps
flat_list (slash r ∷ ps) = flat_list ps
flat_list (args r n ∷ ps) = args r n ∷ flat_list ps
flat_list (kwargs r n ∷ ps) = kwargs r n ∷ flat_list ps

-- five ranges
pub record Ranges : Type 0 where
  pub pos_only : Range
  pub pos_or_named : Range
  pub args : Range
  pub named_only : Range
  pub kwargs : Range

-- the ranges of five parts: each begins where the one before it ends
abbrev pub ranges_of : Parts → Ranges
ranges_of p =
    let a = length p.pos_only in
    let b = a + length p.pos_or_named in
    let s = b + length p.args in
    let n = s + length p.named_only in
    let k = n + length p.kwargs in
    record {
      pos_only = range 0 a;
      pos_or_named = range a b;
      args = range b s;
      named_only = range s n;
      kwargs =
          range n k;
    }

abbrev pub cut_ranges : Cut → Ranges
cut_ranges c = ranges_of (parts_of c)

-- the flat count of a cut
abbrev pub cut_flat : Cut → ℕ
cut_flat c = (cut_ranges c).kwargs.upto

-- a list's part in a range
abbrev pub slice : {A : Type 0} → Range → List A → List A
slice r l = take (r.upto - r.from) (drop r.from l)

-- the number of the five ranges that hold an index
abbrev pub holds : Range → ℕ → ℕ
holds r i = if' (leb r.from i && ltb i r.upto) (λ _. 1) (λ _. 0)

abbrev pub holders : Ranges → ℕ → ℕ
holders r i =
    holds r.pos_only i + (holds r.pos_or_named i + (holds r.args i
    + (holds r.named_only i + holds r.kwargs i)))

-- the values of an accepted answer: begin and end of each range, then the flat count
abbrev pub cut_values : Cut → List ℕ
cut_values c =
    let r = cut_ranges c in
    r.pos_only.from ∷ r.pos_only.upto ∷ r.pos_or_named.from ∷ r.pos_or_named.upto ∷ r.args.from ∷ r.args.upto
    ∷ r.named_only.from ∷ r.named_only.upto ∷ r.kwargs.from ∷ r.kwargs.upto ∷ cut_flat c ∷ []

-- the modes by range
abbrev pub part_modes : Parts → List ℕ
part_modes p =
    replicate (length p.pos_only) mode_pos_only
    ++ (replicate (length p.pos_or_named) mode_pos_or_name
    ++ (replicate (length p.args) mode_args
    ++ (replicate (length p.named_only) mode_name_only ++ replicate (length p.kwargs) mode_kwargs)))

-- every index of a range has the mode m in a buffer
abbrev pub InRange : Range → ℕ → List ℕ → Type 0
InRange r m ms = (i : ℕ) → r.from ≤ i → i < r.upto → get_or ms i 0 ≡ m

pub record ByRange (r : Ranges) (ms : List ℕ) : Type 0 where
  pub pos_only : InRange r.pos_only mode_pos_only ms
  pub pos_or_named : InRange r.pos_or_named mode_pos_or_name ms
  pub args : InRange r.args mode_args ms
  pub named_only : InRange r.named_only mode_name_only ms
  pub kwargs : InRange r.kwargs mode_kwargs ms

-- five ranges follow one another from 0 to n
pub record Follow (r : Ranges) (n : ℕ) : Type 0 where
  pub first : r.pos_only.from ≡ 0
  pub second : r.pos_only.upto ≡ r.pos_or_named.from
  pub third : r.pos_or_named.upto ≡ r.args.from
  pub fourth : r.args.upto ≡ r.named_only.from
  pub fifth : r.named_only.upto ≡ r.kwargs.from
  pub end : r.kwargs.upto ≡ n
  pub pos_only : r.pos_only.from ≤ r.pos_only.upto
  pub pos_or_named : r.pos_or_named.from ≤ r.pos_or_named.upto
  pub args : r.args.from ≤ r.args.upto
  pub named_only : r.named_only.from ≤ r.named_only.upto
  pub kwargs : r.kwargs.from ≤ r.kwargs.upto

-- the ranges cut a list into five parts
pub record CutBy (r : Ranges) (l : List Param) (p : Parts) : Type 0 where
  pub pos_only : slice r.pos_only l ≡ p.pos_only
  pub pos_or_named : slice r.pos_or_named l ≡ p.pos_or_named
  pub args : slice r.args l ≡ p.args
  pub named_only : slice r.named_only l ≡ p.named_only
  pub kwargs : slice r.kwargs l ≡ p.kwargs
  pub all : r.kwargs.upto ≡ length l
