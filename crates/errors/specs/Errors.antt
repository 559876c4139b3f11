-- Errors at records, and how they are stored in a lent list of words. The form of the list says which errors are kept
-- and which words each has. These are definitions.
use Rattle.std.specs.Prelude.{◌≡◌, Bool, true, false, ◌&&◌, List, [], ◌∷◌, ◌++◌, ℕ, leb, length, drop}
use Rattle.fields.specs.Choice.{if'}
use Rattle.forest.specs.Forest.{Node}
use Rattle.table.specs.Answer.{span_at}
use Rattle.table.specs.Numbers.{slash_first, too_many_parameters}
use Rattle.table.specs.declared.Span.{Span}
use Rattle.errors.specs.declared.Finding.{Finding}
use Rattle.errors.specs.declared.Listing.{Listing}
use Rattle.errors.specs.declared.Listing.TheVariants.{Module, Own, Audit, Numbers}

-- an error: its number (docs/RULES.md), the index of a record, and a span
abbrev pub err : ℕ → ℕ → Span → Finding
err n i s = record { number = n; node = i; span = s }

-- an error at a record
abbrev pub err_at : ℕ → Node → Finding
err_at n r = err n r.at (span_at r)

-- one error alone
abbrev pub only : Finding → List Finding
only e = e ∷ []

-- an error unless something is permitted; the same for an error at a record
abbrev pub unless_in : Bool → Finding → List Finding
unless_in true e = []
unless_in false e = e ∷ []

abbrev pub unless : Bool → ℕ → Node → List Finding
unless permitted n r = unless_in permitted (err_at n r)

-- the numbers of parameter lists, 10 to 19
abbrev pub is_list_error : ℕ → Bool
is_list_error n = leb slash_first n && leb n too_many_parameters

-- all errors but those of parameter lists
unfoldable pub without_lists : List Finding → List Finding
without_lists [] = []
without_lists (e ∷ es) = if' (is_list_error e.number) (λ _. without_lists es) (λ _. e ∷ without_lists es)

-- the errors that a form keeps; the others are neither counted nor stored
abbrev pub kept : Listing → List Finding → List Finding
kept Module es = es
kept Own es = without_lists es
kept Audit es = es
kept Numbers es = es

-- the number of words of an error: without its node, with it, and 1 where only its number is stored
abbrev pub error_words : ℕ
error_words = 4

abbrev pub audit_words : ℕ
audit_words = 5

abbrev pub width : Listing → ℕ
width Module = error_words
width Own = audit_words
width Audit = audit_words
width Numbers = 1

-- the words of an error: number, source file, begin and end; then the node; or the number alone
abbrev pub place_words : Finding → List ℕ
place_words e = e.number ∷ e.span.file ∷ e.span.begin ∷ e.span.end ∷ []

abbrev pub node_words : Finding → List ℕ
node_words e = place_words e ++ e.node ∷ []

abbrev pub words_of : Listing → Finding → List ℕ
words_of Module e = place_words e
words_of Own e = node_words e
words_of Audit e = node_words e
words_of Numbers e = e.number ∷ []

-- a list of words after errors were stored in it: the first that fit whole; every other word is unchanged
unfoldable pub stored : Listing → List Finding → List ℕ → List ℕ
stored l [] xs = xs
stored l (e ∷ es) xs =
    if' (leb (width l) (length xs)) (λ _. words_of l e ++ stored l es (drop (width l) xs)) (λ _. xs)

-- a check that finds the errors es: it counts all that the form keeps, and stores those of them that fit into the words
-- xs, which become ys
pub record Stores (l : Listing) (es : List Finding) (xs : List ℕ) (total : ℕ) (ys : List ℕ) : Type 0 where
  pub count : total ≡ length (kept l es)
  pub words : ys ≡ stored l (kept l es) xs
