-- When a record is sound, and the first that is not (docs/FORMAT.md, "A sound table"). These are definitions.
use Rattle.std.specs.Prelude.{Bool, true, false, ◌&&◌, List, [], ◌∷◌, ◌++◌, ℕ, zero, suc, ◌+◌, ◌-◌, ◌*◌, ◌/◌, ◌%◌, length, drop, replicate, leb, eqb, None, Option, Some}
use Rattle.fields.specs.Choice.{if'}
use Rattle.forest.specs.Forest.{record_bytes, Node, node_of, kids_of, node, Forest, none, ◌then◌, forest, count}
use Rattle.forest.specs.Names.{same}
use Rattle.soundness.specs.KindNumbers.{kind_named}
use Rattle.soundness.specs.Files.{Range, range, file_numbers, file_sound, files_of}
use Rattle.soundness.specs.Kinds.{statement, Times, any_number, even_number, at_most, Children, kind_of, class_of}

-- what the rule of a record depends on besides the record: the number of name bytes, and the source file numbers that
-- the record may have
pub record Context : Type 0 where
  pub names : ℕ
  pub files : Range

abbrev pub context : ℕ → Range → Context
context n f = record { names = n; files = f }

-- the largest position
abbrev pub last_position : ℕ
last_position = 2147483647

-- a name of 1 to 255 bytes within the name bytes; where the kind has no name, length and start are zero
unfoldable pub name_sound : Bool → ℕ → ℕ → ℕ → Bool
name_sound named names len start =
    if' named (λ _. leb 1 len && (leb len 255 && leb (start + len) names)) (λ _. eqb len 0 && eqb start 0)

-- begin is at most end, and end no further than the last position
unfoldable pub span_sound : ℕ → ℕ → Bool
span_sound begin stop = leb begin stop && leb stop last_position

-- kind 61 has the source position of its name, whose end is no further than the last position; elsewhere it is zero
unfoldable pub source_sound : ℕ → ℕ → ℕ → Bool
source_sound kind source len = if' (eqb kind kind_named) (λ _. leb (source + len) last_position) (λ _. eqb source 0)

-- the fields of a record: kind, detail, name, span, source file, source position
unfoldable pub fields_sound : Context → Node → Bool
fields_sound x r =
    leb 1 (class_of r.kind) && (leb r.detail (kind_of r.kind).details
    && (name_sound (kind_of r.kind).named x.names r.name_len r.name_start
    && (span_sound r.begin r.stop
    && (file_sound x.files r.file && source_sound r.kind r.source r.name_len))))

-- the subtree is as long as its record says
abbrev pub whole_tree : Node → Forest → Bool
whole_tree r ks = eqb r.size (1 + count ks)

-- the nodes side by side are as long as their records say: so they fill their stretch, and none has the size 0 or
-- passes the end
unfoldable pub whole_trees : Forest → Bool
whole_trees none = true
whole_trees (node c ks then cs) = whole_tree c ks && whole_trees cs

-- the classes of the nodes side by side
unfoldable pub classes : Forest → List ℕ
classes none = []
classes (node c ks then cs) = class_of c.kind ∷ classes cs

-- whether n nodes are allowed in the middle
unfoldable pub permitted : Times → ℕ → Bool
permitted any_number n = true
permitted even_number n = eqb (n % 2) 0
permitted (at_most m) n = leb n m

-- the number of first and last children, the number of those between when there are n, and the classes that n children
-- must have in order
abbrev pub fixed : Children → ℕ
fixed c = length c.front + length c.back

abbrev pub between : Children → ℕ → ℕ
between c n = n - fixed c

unfoldable pub wanted : Children → ℕ → List ℕ
wanted c n = c.front ++ (replicate (between c n) c.middle ++ c.back)

-- whether children of these classes are permitted, in order and number
unfoldable pub permits : Children → List ℕ → Bool
permits c cs = permitted c.times (between c (length cs)) && same cs (wanted c (length cs))

-- whether children fill their stretch and are permitted
unfoldable pub kids_sound : Children → Forest → Bool
kids_sound c ks = whole_trees ks && permits c (classes ks)

-- a record with its children
unfoldable pub sound_node : Context → Node → Forest → Bool
sound_node x r ks = fields_sound x r && (whole_tree r ks && kids_sound ((kind_of r.kind).kids r.detail) ks)

-- the record that the table has from here on, its children found by stepping over their sizes
unfoldable pub sound_at : Context → ℕ → List ℕ → Bool
sound_at x i bs = sound_node x (node_of i bs) (forest (i + 1) (kids_of bs))

-- node 0 is a statement that covers the table
unfoldable pub root_sound : List ℕ → Bool
root_sound t = eqb (class_of (node_of 0 t).kind) statement && eqb (record_bytes * (node_of 0 t).size) (length t)

-- the context of record i of a table
unfoldable pub context_of : List ℕ → List ℕ → ℕ → Context
context_of t names i = context (length names) (files_of t i)

-- record i of a table
unfoldable pub record_sound : List ℕ → List ℕ → ℕ → Bool
record_sound t names i =
    if' (eqb i 0) (λ _. root_sound t) (λ _. true) && sound_at (context_of t names i) i (drop (record_bytes * i) t)

-- the first of n numbers from i on at which a test fails
unfoldable pub first_false : (ℕ → Bool) → ℕ → ℕ → Option ℕ
first_false p i zero = None
first_false p i (suc n) = if' (p i) (λ _. first_false p (i + 1) n) (λ _. Some i)

-- the first unsound record in index order
unfoldable pub first_unsound : List ℕ → List ℕ → Option ℕ
first_unsound t names = first_false (record_sound t names) 0 (length t / record_bytes)

-- the context of record i of a top-level statement: the first record has the number of a source file, and the others
-- have the same number
unfoldable pub context_in : ℕ → List ℕ → ℕ → Context
context_in names bs i =
    context names (if' (eqb i 0) (λ _. file_numbers) (λ _. range (node_of 0 bs).file (node_of 0 bs).file))

-- record i of a stretch, in its context
unfoldable pub sound_in : (ℕ → Context) → List ℕ → ℕ → Bool
sound_in x bs i = sound_at (x i) i (drop (record_bytes * i) bs)

-- the first unsound record of a top-level statement in a table that has `names` name bytes
unfoldable pub unsound_in : ℕ → List ℕ → Option ℕ
unsound_in names bs = first_false (sound_in (context_in names bs) bs) 0 (length bs / record_bytes)

-- whether a search found nothing
abbrev pub clear : Option ℕ → Bool
clear (Some i) = false
clear None = true
