-- What the reader returns by value: table, names and dialect with their lengths, zeros after them, and the edition.
-- If the file is refused, all is zero, with no edition. These are definitions.
use Rattle.std.specs.Prelude.{List, [], ◌++◌, ℕ, ◌-◌, length, take, replicate, Err, None, Ok, Result}
use Rattle.table.specs.declared.Refusal.{Refusal}
use Rattle.table.specs.Answer.{Answer, accepted, refusal}
use Rattle.table.specs.Check.{most_bytes, most_names}
use Rattle.tablefile.specs.File.{Content}
use Rattle.tablefile.specs.declared.Loaded.{Loaded}

-- the meaning of a verdict
abbrev pub verdict : Result (Unit {0}) Refusal → Answer
verdict (Ok _) = accepted []
verdict (Err r) = refusal r

-- these bytes, followed by zeros up to length n
unfoldable pub laid : ℕ → List ℕ → List ℕ
laid n l = l ++ replicate (n - length l) 0

-- the answer: all zero if refused; else the content of the file, and its length in bytes
unfoldable pub loaded_of : Result (Unit {0}) Refusal → Content → ℕ → Loaded
loaded_of (Ok _) c taken = record {
  verdict = (Ok tt);
  taken = taken;
  table = laid most_bytes c.table;
  table_len = length c.table;
  names = laid most_names c.names;
  names_len = length c.names;
  dialect = laid 9 c.dialect;
  dialect_len = length c.dialect;
  edition = c.edition;
}
loaded_of (Err r) c taken = record {
  verdict = Err r;
  taken = 0;
  table = replicate most_bytes 0;
  table_len = 0;
  names = replicate most_names 0;
  names_len = 0;
  dialect = replicate 9 0;
  dialect_len = 0;
  edition = None;
}

-- the empty content
abbrev pub none : Content
none = record { table = []; names = []; dialect = []; edition = None }

-- the content of an answer: the bytes within its lengths
unfoldable pub held : Loaded → Content
held r = record {
  table = take r.table_len r.table;
  names = take r.names_len r.names;
  dialect = take r.dialect_len r.dialect;
  edition = r.edition;
}
