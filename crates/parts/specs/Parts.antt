-- A script that is too large for one table is cut between top-level statements, and each part gets its own table. What
-- a part keeps of the whole, and which words of their errors are compared. These are definitions.
use Rattle.std.specs.Prelude.{◌≡◌, Bool, List, [], ◌∷◌, ◌++◌, ℕ, ◌+◌}
use Rattle.fields.specs.Choice.{if'}
use Rattle.dialect.specs.declared.Dialect.{Dialect}
use Rattle.dialect.specs.declared.Edition.{Edition}
use Rattle.forest.specs.Forest.{Node, Tree, node, Forest, none, ◌then◌}
use Rattle.forest.specs.Names.{name_of}
use Rattle.soundness.specs.KindNumbers.{kind_statements}
use Rattle.errors.specs.declared.Finding.{Finding}
use Rattle.errors.specs.declared.Listing.TheVariants.{Own}
use Rattle.errors.specs.Errors.{kept, place_words}
use Rattle.validate.specs.Module.{validate_module}
use Rattle.audit.specs.Job.{refusals_in}

infixr 20 ◌beside◌
-- two lists of trees, one after the other
unfoldable pub ◌beside◌ : Forest → Forest → Forest
none beside us = us
(t then ts) beside us = t then (ts beside us)

-- two records that say the same, each with the names of its own table: all fields are equal except the index, the
-- subtree size and where the name begins; the bytes of the name are equal
pub record SameRecord (names others : List ℕ) (r s : Node) : Type 0 where
  pub kind : r.kind ≡ s.kind
  pub detail : r.detail ≡ s.detail
  pub begin : r.begin ≡ s.begin
  pub stop : r.stop ≡ s.stop
  pub file : r.file ≡ s.file
  pub source : r.source ≡ s.source
  pub name_len : r.name_len ≡ s.name_len
  pub name : name_of names r ≡ name_of others s

-- two trees, and two lists of trees, of the same shape, whose records say the same
unfoldable mutual
  pub SameTree : List ℕ → List ℕ → Tree → Tree → Type 0
  SameTree names others (node r ks) (node s ls) = SameRecord names others r s × SameTrees names others ks ls

  pub SameTrees : List ℕ → List ℕ → Forest → Forest → Type 0
  SameTrees names others none none = Unit {0}
  SameTrees names others none (u then us) = ⊥
  SameTrees names others (t then ts) none = ⊥
  SameTrees names others (t then ts) (u then us) = SameTree names others t u × SameTrees names others ts us

-- a part: its top-level statements in the whole (`cut`); the root, the names and the same statements in its own table
pub record Part : Type 0 where
  pub cut : Forest
  pub root : Node
  pub names : List ℕ
  pub trees : Forest

-- the top-level statements of the whole: those of all parts, in turn
unfoldable pub joined : List Part → Forest
joined [] = none
joined (p ∷ ps) = p.cut beside joined ps

-- each part's root is a Statements, and its statements say the same as in the whole
unfoldable pub Kept : List ℕ → List Part → Type 0
Kept names [] = Unit {0}
Kept names (p ∷ ps) =
    (p.root.kind ≡ kind_statements) × (SameTrees names p.names p.cut p.trees × Kept names ps)

-- the forest of a table with one root
abbrev pub under : Node → Forest → Forest
under r ts = node r ts then none

-- the list of the audit, for any trees: audit defines it for the trees of a table
unfoldable pub audit_module : Dialect → Edition → List ℕ → Forest → List Finding
audit_module d edition names ts = kept Own (validate_module d names ts) ++ refusals_in d edition names ts

-- the words that are read of errors: number, source file, begin and end of each
unfoldable pub read : List Finding → List (List ℕ)
read [] = []
read (e ∷ es) = place_words e ∷ read es

-- the words that are read of the errors of all parts, each in its own table, in turn
unfoldable pub read_in_turn : (List ℕ → Forest → List Finding) → List Part → List (List ℕ)
read_in_turn errors [] = []
read_in_turn errors (p ∷ ps) = read (errors p.names (under p.root p.trees)) ++ read_in_turn errors ps

-- the number of entries that pass a test; two lists are the same up to order if they have the same number for every
-- test
unfoldable pub how_many : (List ℕ → Bool) → List (List ℕ) → ℕ
how_many test [] = 0
how_many test (x ∷ xs) = if' (test x) (λ _. 1) (λ _. 0) + how_many test xs

abbrev pub SameUpToOrder : List (List ℕ) → List (List ℕ) → Type 0
SameUpToOrder xs ys = (test : List ℕ → Bool) → how_many test xs ≡ how_many test ys
