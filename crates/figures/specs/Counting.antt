-- The figures of one file (docs/FORMAT.md, Figures): 32 counts of its content, each from the definition of the job
-- whose answers it counts. These are definitions.
use Rattle.std.specs.Prelude.{Bool, true, false, ◌&&◌, List, [], ◌∷◌, ◌++◌, ℕ, zero, suc, ◌+◌, ◌/◌, length, eqb}
use Rattle.fields.specs.Choice.{if'}
use Rattle.forest.specs.Forest.{record_bytes}
use Rattle.table.specs.Numbers.{slash_first, star_not_permitted}
use Rattle.table.specs.Answer.{passes, is_refused}
use Rattle.table.specs.Check.{most_nodes, node_fits}
use Rattle.table.specs.declared.Wanted.TheVariants.{Parameters, Call}
use Rattle.deflist.specs.Unpack.{modes}
use Rattle.deflist.specs.Unpack.{mode_pos_only, mode_pos_or_name, mode_name_only, mode_args, mode_kwargs}
use Rattle.parameters.specs.Params.{list_of, params_of}
use Rattle.arguments.specs.Job.{call_of}
use Rattle.errors.specs.declared.Finding.{Finding}
use Rattle.validate.specs.Job.{errors_of}
use Rattle.tablefile.specs.File.{Content}

-- 1 if a test holds, else 0
abbrev pub one : Bool → ℕ
one true = 1
one false = 0

-- how often a number occurs in a list
unfoldable pub occurrences : ℕ → List ℕ → ℕ
occurrences n [] = 0
occurrences n (m ∷ ms) = one (eqb m n) + occurrences n ms

-- how often each of k numbers, from n on, occurs in a list
unfoldable pub occurrences_from : ℕ → ℕ → List ℕ → List ℕ
occurrences_from zero n ms = []
occurrences_from (suc k) n ms = occurrences n ms ∷ occurrences_from k (n + 1) ms

-- the sum of a count over the nodes 0 to n - 1
unfoldable pub total : ℕ → (ℕ → ℕ) → ℕ
total zero f = 0
total (suc i) f = total i f + f i

abbrev pub nodes_of : List ℕ → ℕ
nodes_of t = length t / record_bytes

-- a node that has a parameter list: a Def or a Lambda
abbrev pub list_at : List ℕ → ℕ → ℕ
list_at t i = one (node_fits t i Parameters)

-- the number of flat parameters of a mode that a node has, if its list is accepted; the job refuses a node of another
-- kind with 6, and room for 2,100 modes is enough for every list
unfoldable pub mode_at : ℕ → List ℕ → List ℕ → ℕ → ℕ
mode_at mode t names i =
    if' (passes (params_of t names i most_nodes)) (λ _. occurrences mode (modes (list_of t names i))) (λ _. 0)

-- a call that is accepted, and one that is refused
unfoldable pub accepted_at : List ℕ → List ℕ → ℕ → ℕ
accepted_at t names i = one (node_fits t i Call && passes (call_of t names i))

unfoldable pub refused_at : List ℕ → List ℕ → ℕ → ℕ
refused_at t names i = one (node_fits t i Call && is_refused (call_of t names i))

-- the sum of one of these over all nodes of a table
abbrev pub over : List ℕ → (ℕ → ℕ) → ℕ
over t f = total (nodes_of t) f

-- the numbers of errors, in their order
unfoldable pub numbers_of : List Finding → List ℕ
numbers_of [] = []
numbers_of (e ∷ es) = e.number ∷ numbers_of es

-- the number of errors of each error number: 10 to 19, then 50 to 61
unfoldable pub error_counts : List ℕ → List ℕ
error_counts ns = occurrences_from 10 slash_first ns ++ occurrences_from 12 star_not_permitted ns

-- the 32 figures of a table in a dialect: the file itself; its nodes; parameter lists; flat parameters of the modes 1
-- to 5; calls accepted and refused; the errors of the module pass by number, over its whole list
unfoldable pub table_figures : List ℕ → List ℕ → List ℕ → List ℕ
table_figures t names dialect =
    1 ∷ nodes_of t ∷ over t (list_at t)
    ∷ over t (mode_at mode_pos_only t names) ∷ over t (mode_at mode_pos_or_name t names)
    ∷ over t (mode_at mode_name_only t names)
    ∷ over t (mode_at mode_args t names) ∷ over t (mode_at mode_kwargs t names)
    ∷ over t (accepted_at t names) ∷ over t (refused_at t names)
    ∷ error_counts (numbers_of (errors_of t names dialect))

-- the figures of the content of a file
abbrev pub figures_of : Content → List ℕ
figures_of c = table_figures c.table c.names c.dialect
