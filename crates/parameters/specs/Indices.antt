-- DefParamIndices of src/syntax/def.rs with its five ranges, the flat count, and the values of an accepted answer.
-- These are definitions.
-- Copyright 2018 The Starlark in Rust Authors. Copyright (c) Facebook, Inc. and its affiliates.
-- Licensed under Apache-2.0; changed.
use Rattle.std.specs.Prelude.{List, [], ◌∷◌, ℕ, ◌+◌, None, Option, Some}
use Rattle.deflist.specs.declared.Flat.{Flat}
use Rattle.deflist.specs.declared.Counts.{Counts}
use Rattle.parameters.specs.declared.DefParamIndices.{DefParamIndices}
use Rattle.parameters.specs.declared.Counted.{Counted}
use Rattle.parameters.specs.declared.Range.{Range}

abbrev pub range : ℕ → ℕ → Range
range from upto = record { from = from; upto = upto }

-- the five ranges of DefParamIndices, where n is the flat count
abbrev pub pos_only : DefParamIndices → Range
pos_only i = range 0 i.num_positional_only

abbrev pub pos_or_named : DefParamIndices → Range
pos_or_named i = range i.num_positional_only i.num_positional

-- the range of a place; if there is none, the empty range at n
abbrev pub place_range : Option ℕ → ℕ → Range
place_range (Some i) n = range i (i + 1)
place_range None n = range n n

abbrev pub args_range : DefParamIndices → Range
args_range i = place_range i.args i.num_positional

abbrev pub kwargs_range : DefParamIndices → ℕ → Range
kwargs_range i n = place_range i.kwargs n

abbrev pub named_only : DefParamIndices → ℕ → Range
named_only i n = range (args_range i).upto (kwargs_range i n).from

-- the values of an accepted list: begin and end of each range, then the flat count
abbrev pub ends : Range → List ℕ → List ℕ
ends r vs = r.from ∷ r.upto ∷ vs

abbrev pub values_of : Counted → List ℕ
values_of c =
    ends (pos_only c.indices) (ends (pos_or_named c.indices) (ends (args_range c.indices)
    (ends (named_only c.indices c.flat) (ends (kwargs_range c.indices c.flat) (c.flat ∷ [])))))

-- DefParamIndices and the flat count, from what unpack has counted
abbrev pub place_of : Option Flat → Option ℕ
place_of (Some i) = Some i.0
place_of None = None

unfoldable pub counted_of : Counts → Counted
counted_of c =
    record {
      indices = record {
        num_positional = c.num_positional.0;
        num_positional_only = c.num_positional_only.0;
        args = place_of c.args;
        kwargs = place_of c.kwargs;
      };
      flat = c.flat.0;
    }
