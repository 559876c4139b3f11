-- Two tables to which demand 3 applies, record by record: `def f(a, /, b=1, *args, c, **k): pass`, and a def with 49
-- parameters, one more than a list may have. These are definitions.
use Rattle.std.specs.Prelude.{true, false, List, [], ◌∷◌, ◌++◌, ℕ, zero, suc, replicate}
use Rattle.forest.specs.Forest.{Node}
use Rattle.soundness.specs.KindNumbers.{kind_def, kind_int, kind_other_simple, kind_normal, kind_slash, kind_args_param}
use Rattle.soundness.specs.KindNumbers.{kind_kw_args_param}
use Rattle.demand3.specs.Cut.{Cut, up_to_slash, starred, with_kwargs}

-- the 24 bytes of a record whose numbers are below 256: kind, detail, length and start of the name, span, size, source
-- file
abbrev pub bytes_of : ℕ → ℕ → ℕ → ℕ → ℕ → ℕ → ℕ → ℕ → List ℕ
bytes_of kind detail len start begin stop size file =
    kind ∷ detail ∷ len ∷ 0 ∷ start ∷ 0 ∷ 0 ∷ 0 ∷ begin ∷ 0 ∷ 0 ∷ 0 ∷ stop ∷ 0 ∷ 0 ∷ 0 ∷ size ∷ 0 ∷ file ∷ 0
    ∷ replicate 4 0

-- the table: a def with six parameters, one of which has a default, and its body
abbrev pub table : List ℕ
table =
    bytes_of kind_def 0 0 0 0 37 9 1
    ++ (bytes_of kind_normal 0 1 0 6 7 1 1
    ++ (bytes_of kind_slash 0 0 0 9 10 1 1
    ++ (bytes_of kind_normal 2 1 1 12 15 2 1
    ++ (bytes_of kind_int 0 0 0 14 15 1 1
    ++ (bytes_of kind_args_param 0 4 2 17 22 1 1
    ++ (bytes_of kind_normal 0 1 6 24 25 1 1
    ++ (bytes_of kind_kw_args_param 0 1 7 27 30 1 1
    ++ bytes_of kind_other_simple 0 0 0 33 37 1 1)))))))

-- a b args c k
abbrev pub names : List ℕ
names = 97 ∷ 98 ∷ 97 ∷ 114 ∷ 103 ∷ 115 ∷ 99 ∷ 107 ∷ []

-- a buffer of eight bytes
abbrev pub buffer : List ℕ
buffer = replicate 8 255

-- a record of the table, and an ordinary parameter
abbrev pub record_at : ℕ → ℕ → ℕ → ℕ → ℕ → ℕ → ℕ → ℕ → ℕ → Node
record_at at kind detail len start begin stop size file = record {
  at = at;
  kind = kind;
  detail = detail;
  name_len = len;
  name_start = start;
  begin = begin;
  stop = stop;
  size = size;
  file = file;
  source = 0;
}

-- its cut: a before `/`; b; `*args` and c; `**k`
abbrev pub cut : Cut
cut = record {
  before = up_to_slash
      (record { node = record_at 1 kind_normal 0 1 0 6 7 1 1; name = 97 ∷ []; default = false } ∷ [])
      (record_at 2 kind_slash 0 0 0 9 10 1 1);
  middle = record { node = record_at 3 kind_normal 2 1 1 12 15 2 1; name = 98 ∷ []; default = true } ∷ [];
  star = starred (record_at 5 kind_args_param 0 4 2 17 22 1 1) (97 ∷ 114 ∷ 103 ∷ 115 ∷ [])
      (record { node = record_at 6 kind_normal 0 1 6 24 25 1 1; name = 99 ∷ []; default = false } ∷ []);
  last = with_kwargs (record_at 7 kind_kw_args_param 0 1 7 27 30 1 1) (107 ∷ []);
}

-- some bytes, repeated n times
abbrev pub copies : ℕ → List ℕ → List ℕ
copies zero bs = []
copies (suc n) bs = bs ++ copies n bs

-- a def with n parameters, each called `a`, and its body
abbrev pub def_of : ℕ → ℕ → List ℕ
def_of n records =
    bytes_of kind_def 0 0 0 0 37 records 1
    ++ (copies n (bytes_of kind_normal 0 1 0 6 7 1 1) ++ bytes_of kind_other_simple 0 0 0 33 37 1 1)

-- the one with 49: 51 records
abbrev pub long_table : List ℕ
long_table = def_of 49 51

-- a byte for each of them
abbrev pub long_buffer : List ℕ
long_buffer = replicate 49 255
