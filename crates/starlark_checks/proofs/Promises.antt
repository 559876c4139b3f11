-- Each exported function has one answer, for every input: two answers that meet its promise agree in the number, the
-- twelve words and the caller's buffers. Every promise in C is an equation with a definition on its right, so each
-- theorem is `coincide`, once for the number, once for the words and once for each buffer. Assumes nothing.
use mathlib.Core.Path.{◌≡◌}
use mathlib.Core.List.{List, []}
use Prim.Native.Nat.{ℕ}
use lib.ListN.{length}
use Rattle.fields.proofs.Coincide.{coincide}
use Rattle.table.specs.Check.{check_of}
use Rattle.parameters.specs.Params.{params_of, modes_after}
use Rattle.arguments.specs.Job.{call_of}
use Rattle.bind.specs.Job.{bind_of, list_after}
use Rattle.namesakes.specs.Job.{namesakes_of, list_after as reports_after}
use Rattle.targets.specs.Jobs.{target_of, assignment_of}
use Rattle.types.specs.Jobs.{type_shape_of}
use Rattle.shapes.specs.Jobs.{shapes_after}
use Rattle.validate.specs.Job.{module_of, errors_after}
use Rattle.audit.specs.Job.{audit_of, audit_after}
use Rattle.tablefile.specs.Reading.{content_at}
use Rattle.tablefile.specs.Lending.{into_check, handed}
use Rattle.filepass.specs.Passing.{answer_of, words_after}
use Rattle.writer.specs.Writing.{holding, write_of, file_after}
use Rattle.rescue.specs.Job.{rescue_of, file_after as rescued_after}
use Rattle.books.specs.Lookup.{lookup_of, looked}
use Rattle.books.specs.Change.{add_of, zone_added, line_added, remove_of, zone_removed, line_removed, changed}
use Rattle.books.specs.Change.{blank_of, blank_after}
use Rattle.starlark_checks.specs.Words.{number, words, call_words, rescue_words, laid}
use Rattle.starlark_checks.specs.Words.{stated_of, read_of, pass_words}
use Rattle.starlark_checks.specs.Version.{version}
use Rattle.figures.specs.Reporting.{step_of, figures_after, report_of}
use Rattle.starlark_checks.specs.FigureWords.{ending_number, ending_words, step_answer}
use Rattle.fstring.specs.Writing.{write_of as text_of, text_after}
use Rattle.fstring.specs.Reading.{read_of as parts_read, words_after as parts_after, texts_after}
use Rattle.starlark_checks.specs.FormatWords.{text_words, part_words}

-- of `starlark_version`
pub starlark_version_one : {r s : ℕ} → r ≡ version → s ≡ version → r ≡ s
starlark_version_one = coincide

-- of `starlark_table`
pub starlark_table_one : (table names out : List ℕ) {r s : ℕ} {out-r out-s : List ℕ}
    → r ≡ number (check_of table names) → out-r ≡ laid (words (check_of table names)) 0 out
    → s ≡ number (check_of table names) → out-s ≡ laid (words (check_of table names)) 0 out → (r ≡ s) × (out-r ≡ out-s)
starlark_table_one table names out r-is out-is s-is out-are = (coincide r-is s-is, coincide out-is out-are)

-- of `starlark_params`
pub starlark_params_one : (table names : List ℕ) (node : ℕ) (modes out : List ℕ) {r s : ℕ} {modes-r modes-s : List ℕ}
    {out-r out-s : List ℕ} → r ≡ number (params_of table names node (length modes))
    → out-r ≡ laid (words (params_of table names node (length modes))) 0 out
    → modes-r ≡ modes_after table names node modes → s ≡ number (params_of table names node (length modes))
    → out-s ≡ laid (words (params_of table names node (length modes))) 0 out
    → modes-s ≡ modes_after table names node modes → (r ≡ s) × (modes-r ≡ modes-s) × (out-r ≡ out-s)
starlark_params_one table names node modes out r-is out-is modes-is s-is out-are modes_are =
    (coincide r-is s-is, coincide modes-is modes_are, coincide out-is out-are)

-- of `starlark_call`
pub starlark_call_one : (table names : List ℕ) (node : ℕ) (out : List ℕ) {r s : ℕ} {out-r out-s : List ℕ}
    → r ≡ number (call_of table names node) → out-r ≡ laid (call_words (call_of table names node)) 0 out
    → s ≡ number (call_of table names node) → out-s ≡ laid (call_words (call_of table names node)) 0 out
    → (r ≡ s) × (out-r ≡ out-s)
starlark_call_one table names node out r-is out-is s-is out-are = (coincide r-is s-is, coincide out-is out-are)

-- of `starlark_bind`
pub starlark_bind_one : (table names : List ℕ) (call def : ℕ) (list out : List ℕ) {r s : ℕ} {list-r list-s : List ℕ}
    {out-r out-s : List ℕ} → r ≡ number (bind_of table names call def (length list))
    → out-r ≡ laid (words (bind_of table names call def (length list))) 0 out
    → list-r ≡ list_after table names call def list → s ≡ number (bind_of table names call def (length list))
    → out-s ≡ laid (words (bind_of table names call def (length list))) 0 out
    → list-s ≡ list_after table names call def list → (r ≡ s) × (list-r ≡ list-s) × (out-r ≡ out-s)
starlark_bind_one table names call def list out r-is out-is list_is s-is out-are list-are =
    (coincide r-is s-is, coincide list_is list-are, coincide out-is out-are)

-- of `starlark_namesakes`
pub starlark_namesakes_one : (table names : List ℕ) (call def : ℕ) (list out : List ℕ) {r s : ℕ}
    {list-r list-s : List ℕ} {out-r out-s : List ℕ} → r ≡ number (namesakes_of table names call def (length list))
    → out-r ≡ laid (words (namesakes_of table names call def (length list))) 0 out
    → list-r ≡ reports_after table names call def list → s ≡ number (namesakes_of table names call def (length list))
    → out-s ≡ laid (words (namesakes_of table names call def (length list))) 0 out
    → list-s ≡ reports_after table names call def list → (r ≡ s) × (list-r ≡ list-s) × (out-r ≡ out-s)
starlark_namesakes_one table names call def list out r-is out-is list_is s-is out-are list-are =
    (coincide r-is s-is, coincide list_is list-are, coincide out-is out-are)

-- of `starlark_target`
pub starlark_target_one : (table names : List ℕ) (node : ℕ) (out : List ℕ) {r s : ℕ} {out-r out-s : List ℕ}
    → r ≡ number (target_of table names node) → out-r ≡ laid (words (target_of table names node)) 0 out
    → s ≡ number (target_of table names node) → out-s ≡ laid (words (target_of table names node)) 0 out
    → (r ≡ s) × (out-r ≡ out-s)
starlark_target_one table names node out r-is out-is s-is out-are = (coincide r-is s-is, coincide out-is out-are)

-- of `starlark_assignment`
pub starlark_assignment_one : (table names : List ℕ) (node : ℕ) (out : List ℕ) {r s : ℕ} {out-r out-s : List ℕ}
    → r ≡ number (assignment_of table names node) → out-r ≡ laid (words (assignment_of table names node)) 0 out
    → s ≡ number (assignment_of table names node) → out-s ≡ laid (words (assignment_of table names node)) 0 out
    → (r ≡ s) × (out-r ≡ out-s)
starlark_assignment_one table names node out r-is out-is s-is out-are = (coincide r-is s-is, coincide out-is out-are)

-- of `starlark_type`
pub starlark_type_one : (table names dialect : List ℕ) (edition node : ℕ) (shapes out : List ℕ) {r s : ℕ}
    {shapes-r shapes-s : List ℕ} {out-r out-s : List ℕ}
    → r ≡ number (type_shape_of table names dialect edition node (length shapes))
    → out-r ≡ laid (words (type_shape_of table names dialect edition node (length shapes))) 0 out
    → shapes-r ≡ shapes_after table names dialect edition node shapes
    → s ≡ number (type_shape_of table names dialect edition node (length shapes))
    → out-s ≡ laid (words (type_shape_of table names dialect edition node (length shapes))) 0 out
    → shapes-s ≡ shapes_after table names dialect edition node shapes
    → (r ≡ s) × (shapes-r ≡ shapes-s) × (out-r ≡ out-s)
starlark_type_one table names dialect edition node shapes out r-is out-is shapes-is s-is out-are shapes-are =
    (coincide r-is s-is, coincide shapes-is shapes-are, coincide out-is out-are)

-- of `starlark_module`
pub starlark_module_one : (table names dialect errors out : List ℕ) {r s : ℕ} {errors-r errors-s : List ℕ}
    {out-r out-s : List ℕ} → r ≡ number (module_of table names dialect)
    → out-r ≡ laid (words (module_of table names dialect)) 0 out → errors-r ≡ errors_after table names dialect errors
    → s ≡ number (module_of table names dialect) → out-s ≡ laid (words (module_of table names dialect)) 0 out
    → errors-s ≡ errors_after table names dialect errors → (r ≡ s) × (errors-r ≡ errors-s) × (out-r ≡ out-s)
starlark_module_one table names dialect errors out r-is out-is errors-is s-is out-are errors-are =
    (coincide r-is s-is, coincide errors-is errors-are, coincide out-is out-are)

-- of `starlark_audit`
pub starlark_audit_one : (table names dialect : List ℕ) (edition : ℕ) (errors out : List ℕ) {r s : ℕ}
    {errors-r errors-s : List ℕ} {out-r out-s : List ℕ} → r ≡ number (audit_of table names dialect edition)
    → out-r ≡ laid (words (audit_of table names dialect edition)) 0 out
    → errors-r ≡ audit_after table names dialect edition errors → s ≡ number (audit_of table names dialect edition)
    → out-s ≡ laid (words (audit_of table names dialect edition)) 0 out
    → errors-s ≡ audit_after table names dialect edition errors → (r ≡ s) × (errors-r ≡ errors-s) × (out-r ≡ out-s)
starlark_audit_one table names dialect edition errors out r-is out-is errors-is s-is out-are errors-are =
    (coincide r-is s-is, coincide errors-is errors-are, coincide out-is out-are)

-- of `starlark_write`
pub starlark_write_one : (table names dialect : List ℕ) (edition : ℕ) (file out : List ℕ) {r s : ℕ}
    {file-r file-s : List ℕ} {out-r out-s : List ℕ}
    → r ≡ number (write_of (holding table names dialect (stated_of edition)) (length file))
    → out-r ≡ laid (words (write_of (holding table names dialect (stated_of edition)) (length file))) 0 out
    → file-r ≡ file_after (holding table names dialect (stated_of edition)) file
    → s ≡ number (write_of (holding table names dialect (stated_of edition)) (length file))
    → out-s ≡ laid (words (write_of (holding table names dialect (stated_of edition)) (length file))) 0 out
    → file-s ≡ file_after (holding table names dialect (stated_of edition)) file
    → (r ≡ s) × (file-r ≡ file-s) × (out-r ≡ out-s)
starlark_write_one table names dialect edition file out r-is out-is file-is s-is out-are file-are =
    (coincide r-is s-is, coincide file-is file-are, coincide out-is out-are)

-- of `starlark_rescue`
pub starlark_rescue_one : (input file out : List ℕ) {r s : ℕ} {file-r file-s : List ℕ} {out-r out-s : List ℕ}
    → r ≡ number (rescue_of input (length file)) → out-r ≡ laid (rescue_words (rescue_of input (length file))) 0 out
    → file-r ≡ rescued_after input file → s ≡ number (rescue_of input (length file))
    → out-s ≡ laid (rescue_words (rescue_of input (length file))) 0 out → file-s ≡ rescued_after input file
    → (r ≡ s) × (file-r ≡ file-s) × (out-r ≡ out-s)
starlark_rescue_one input file out r-is out-is file-is s-is out-are file-are =
    (coincide r-is s-is, coincide file-is file-are, coincide out-is out-are)

-- of `starlark_read`
pub starlark_read_one : (file table names out : List ℕ) {r s : ℕ} {table-r table-s : List ℕ}
    {names-r names-s : List ℕ} {out-r out-s : List ℕ} → r ≡ number (read_of file (length table) (length names))
    → out-r ≡ laid (words (read_of file (length table) (length names))) 0 out
    → table-r ≡ handed (into_check file (length table) (length names)) (content_at file).table table
    → names-r ≡ handed (into_check file (length table) (length names)) (content_at file).names names
    → s ≡ number (read_of file (length table) (length names))
    → out-s ≡ laid (words (read_of file (length table) (length names))) 0 out
    → table-s ≡ handed (into_check file (length table) (length names)) (content_at file).table table
    → names-s ≡ handed (into_check file (length table) (length names)) (content_at file).names names
    → (r ≡ s) × (table-r ≡ table-s) × (names-r ≡ names-s) × (out-r ≡ out-s)
starlark_read_one file table names out r-is out-is table_is names-is s-is out-are table-are names_are =
    (coincide r-is s-is, coincide table_is table-are, coincide names-is names_are, coincide out-is out-are)

-- of `starlark_check_file`
pub starlark_check_file_one : (file errors out : List ℕ) {r s : ℕ} {errors-r errors-s : List ℕ} {out-r out-s : List ℕ}
    → r ≡ number (answer_of file) → out-r ≡ laid (pass_words (answer_of file)) 0 out
    → errors-r ≡ words_after file errors
    → s ≡ number (answer_of file) → out-s ≡ laid (pass_words (answer_of file)) 0 out
    → errors-s ≡ words_after file errors
    → (r ≡ s) × (errors-r ≡ errors-s) × (out-r ≡ out-s)
starlark_check_file_one file errors out r-is out-is errors-is s-is out-are errors-are =
    (coincide r-is s-is, coincide errors-is errors-are, coincide out-is out-are)

-- of `starlark_fstring_write`
pub starlark_fstring_write_one : (parts texts dialect text out : List ℕ) {r s : ℕ} {text-r text-s : List ℕ}
    {out-r out-s : List ℕ} → r ≡ number (text_of parts texts dialect (length text))
    → out-r ≡ laid (text_words (text_of parts texts dialect (length text))) 0 out
    → text-r ≡ text_after parts texts dialect text
    → s ≡ number (text_of parts texts dialect (length text))
    → out-s ≡ laid (text_words (text_of parts texts dialect (length text))) 0 out
    → text-s ≡ text_after parts texts dialect text → (r ≡ s) × (text-r ≡ text-s) × (out-r ≡ out-s)
starlark_fstring_write_one parts texts dialect text out r-is out-is text-is s-is out-are text-are =
    (coincide r-is s-is, coincide text-is text-are, coincide out-is out-are)

-- of `starlark_fstring_read`
pub starlark_fstring_read_one : (text parts texts out : List ℕ) {r s : ℕ} {parts-r parts-s : List ℕ}
    {texts-r texts-s : List ℕ} {out-r out-s : List ℕ} → r ≡ number (parts_read text (length parts) (length texts))
    → out-r ≡ laid (part_words (parts_read text (length parts) (length texts))) 0 out
    → parts-r ≡ parts_after text parts (length texts) → texts-r ≡ texts_after text (length parts) texts
    → s ≡ number (parts_read text (length parts) (length texts))
    → out-s ≡ laid (part_words (parts_read text (length parts) (length texts))) 0 out
    → parts-s ≡ parts_after text parts (length texts) → texts-s ≡ texts_after text (length parts) texts
    → (r ≡ s) × (parts-r ≡ parts-s) × (texts-r ≡ texts-s) × (out-r ≡ out-s)
starlark_fstring_read_one text parts texts out r-is out-is parts_is texts-is s-is out-are parts_are texts-are =
    (coincide r-is s-is, coincide parts_is parts_are, coincide texts-is texts-are, coincide out-is out-are)

-- of `starlark_book_lookup`
pub starlark_book_lookup_one : (zone_book line_book : List ℕ) (zone setting : ℕ) (out : List ℕ) {r s : ℕ}
    {out-r out-s : List ℕ} → r ≡ number (looked (lookup_of zone_book line_book zone setting))
    → out-r ≡ laid (words (looked (lookup_of zone_book line_book zone setting))) 0 out
    → s ≡ number (looked (lookup_of zone_book line_book zone setting))
    → out-s ≡ laid (words (looked (lookup_of zone_book line_book zone setting))) 0 out → (r ≡ s) × (out-r ≡ out-s)
starlark_book_lookup_one zone_book line_book zone setting out r-is out-is s-is out-are =
    (coincide r-is s-is, coincide out-is out-are)

-- of `starlark_book_add`
pub starlark_book_add_one : (zone_book line_book : List ℕ) (zone setting : ℕ) (dialect out : List ℕ) {r s : ℕ}
    {zone-book-r zone-book-s : List ℕ} {line-book-r line-book-s : List ℕ} {out-r out-s : List ℕ}
    → r ≡ number (changed (add_of zone_book line_book zone setting dialect))
    → out-r ≡ laid (words (changed (add_of zone_book line_book zone setting dialect))) 0 out
    → zone-book-r ≡ zone_added zone_book line_book zone setting dialect
    → line-book-r ≡ line_added zone_book line_book zone setting dialect
    → s ≡ number (changed (add_of zone_book line_book zone setting dialect))
    → out-s ≡ laid (words (changed (add_of zone_book line_book zone setting dialect))) 0 out
    → zone-book-s ≡ zone_added zone_book line_book zone setting dialect
    → line-book-s ≡ line_added zone_book line_book zone setting dialect
    → (r ≡ s) × (zone-book-r ≡ zone-book-s) × (line-book-r ≡ line-book-s) × (out-r ≡ out-s)
starlark_book_add_one zone_book line_book zone setting dialect out a b c d e f g h =
    (coincide a e, coincide c g, coincide d h, coincide b f)

-- of `starlark_book_remove`
pub starlark_book_remove_one : (zone_book line_book : List ℕ) (zone setting : ℕ) (out : List ℕ) {r s : ℕ}
    {zone-book-r zone-book-s : List ℕ} {line-book-r line-book-s : List ℕ} {out-r out-s : List ℕ}
    → r ≡ number (changed (remove_of zone_book line_book zone setting))
    → out-r ≡ laid (words (changed (remove_of zone_book line_book zone setting))) 0 out
    → zone-book-r ≡ zone_removed zone_book line_book zone setting
    → line-book-r ≡ line_removed zone_book line_book zone setting
    → s ≡ number (changed (remove_of zone_book line_book zone setting))
    → out-s ≡ laid (words (changed (remove_of zone_book line_book zone setting))) 0 out
    → zone-book-s ≡ zone_removed zone_book line_book zone setting
    → line-book-s ≡ line_removed zone_book line_book zone setting
    → (r ≡ s) × (zone-book-r ≡ zone-book-s) × (line-book-r ≡ line-book-s) × (out-r ≡ out-s)
starlark_book_remove_one zone_book line_book zone setting out a b c d e f g h =
    (coincide a e, coincide c g, coincide d h, coincide b f)

-- of `starlark_book_blank`
pub starlark_book_blank_one : (book out : List ℕ) {r s : ℕ} {book-r book-s : List ℕ} {out-r out-s : List ℕ}
    → r ≡ blank_of (length book) → out-r ≡ laid [] 0 out → book-r ≡ blank_after book → s ≡ blank_of (length book)
    → out-s ≡ laid [] 0 out → book-s ≡ blank_after book → (r ≡ s) × (book-r ≡ book-s) × (out-r ≡ out-s)
starlark_book_blank_one book out a b c d e f = (coincide a d, coincide c f, coincide b e)

-- of `starlark_figures`
pub starlark_figures_one : (input figures out : List ℕ) {r s : ℕ} {figures-r figures-s : List ℕ}
    {out-r out-s : List ℕ}
    → r ≡ ending_number (report_of input).ending → out-r ≡ laid (ending_words (report_of input).ending) 0 out
    → figures-r ≡ (report_of input).figures → s ≡ ending_number (report_of input).ending
    → out-s ≡ laid (ending_words (report_of input).ending) 0 out → figures-s ≡ (report_of input).figures
    → (r ≡ s) × (figures-r ≡ figures-s) × (out-r ≡ out-s)
starlark_figures_one input figures out r-is out-is figures-is s-is out-are figures_are =
    (coincide r-is s-is, coincide figures-is figures_are, coincide out-is out-are)

-- of `starlark_figures_step`
pub starlark_figures_step_one : (window figures out : List ℕ) {r s : ℕ} {figures-r figures-s : List ℕ}
    {out-r out-s : List ℕ}
    → r ≡ number (step_answer (step_of window figures))
    → out-r ≡ laid (words (step_answer (step_of window figures))) 0 out → figures-r ≡ figures_after window figures
    → s ≡ number (step_answer (step_of window figures))
    → out-s ≡ laid (words (step_answer (step_of window figures))) 0 out → figures-s ≡ figures_after window figures
    → (r ≡ s) × (figures-r ≡ figures-s) × (out-r ≡ out-s)
starlark_figures_step_one window figures out r-is out-is figures-is s-is out-are figures_are =
    (coincide r-is s-is, coincide figures-is figures_are, coincide out-is out-are)
