-- The nodes of a stretch, side by side, as the iterator of code gives them. These are definitions.
use Rattle.std.specs.Prelude.{◌≡◌, List, ℕ, ◌+◌, ◌/◌, ◌<◌, ◌≤◌, length, Option, None, Some}
use denote.Ref.{Bor}
use Rattle.forest.specs.Forest.{record_bytes, span_of, rest_of}
use Rattle.forest.specs.declared.Nodes.{Nodes}

-- a walk gives the node x where it stands: its index, and the rest of the stretch, which begins with it. It goes on
-- behind the subtree of x
pub record GivesNode (s : Nodes) (x : ℕ × Bor (List ℕ)) (t : Nodes) : Type 0 where
  pub index : x.0 ≡ s.at
  pub stretch : x.1.now ≡ s.left.now
  pub there : record_bytes ≤ length x.1.now
  pub next : t.at ≡ x.0 + span_of x.1.now / record_bytes
  pub rest : t.left.now ≡ rest_of x.1.now

-- a walk gives the next node, and ends where no record is left
abbrev pub NextNode : Nodes → Option (ℕ × Bor (List ℕ)) → Nodes → Type 0
NextNode s None t = length s.left.now < record_bytes
NextNode s (Some x) t = GivesNode s x t
