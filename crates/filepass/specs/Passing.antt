-- The answer for a table file, and the list of words at exit. These are definitions.
use Rattle.std.specs.Prelude.{List, [], ◌∷◌, ℕ, ◌/◌, length, Err, Ok, Result}
use Rattle.table.specs.declared.Refusal.{Refusal}
use Rattle.forest.specs.Forest.{record_bytes}
use Rattle.table.specs.Answer.{Answer, accepted, refused, and_then, refusal}
use Rattle.tablefile.specs.Reading.{content_at, read_check}
use Rattle.validate.specs.Job.{module_of, errors_after}
use Rattle.filepass.specs.declared.Passed.{Passed}

-- the meaning of the code's answer: accepted with the number of nodes and the total of errors, or refused
abbrev pub passed : Result Passed Refusal → Answer
passed (Ok p) = accepted (p.nodes ∷ p.total ∷ [])
passed (Err r) = refusal r

-- an answer with one value more in front
abbrev pub behind : ℕ → Answer → Answer
behind v (accepted vs) = accepted (v ∷ vs)
behind v (refused n vs) = refused n vs

-- the answer for the content of a file: the number of nodes, then the module job's answer
abbrev pub held_answer : List ℕ → List ℕ → List ℕ → Answer
held_answer t names bytes = behind (length t / record_bytes) (module_of t names bytes)

-- the answer: the reader's refusal, or that for the content of the file
unfoldable pub answer_of : List ℕ → Answer
answer_of file =
    let c = content_at file in
    and_then (read_check file) (λ _. held_answer c.table c.names c.dialect)

-- the list of words at exit: that of the module job, or unchanged if the reader refuses
abbrev pub if_read : Answer → List ℕ → (Unit {0} → List ℕ) → List ℕ
if_read (accepted vs) words next = next tt
if_read (refused n vs) words next = words

unfoldable pub words_after : List ℕ → List ℕ → List ℕ
words_after file words =
    let c = content_at file in
    if_read (read_check file) words (λ _. errors_after c.table c.names c.dialect words)
