-- Types of two trees whose records say the same: the same words are read of the refusal, or there is none in both. The
-- rules read kinds, the detail of an Op, the number of children, and the name of the last field of a path, and all of
-- these are equal. The induction is on both trees at once, over the type rule and the argument rule (`type_same`,
-- `argument_same`). Cite `check_same`. Assumes nothing.
use mathlib.Core.Path.{◌≡◌, refl, ap}
use mathlib.Core.Bool.{Bool}
use mathlib.Core.List as L
use Prim.Native.Nat.{ℕ}
use lib.Dec.{eqb}
use Rattle.dialect.specs.declared.DialectTypes.{DialectTypes}
use Rattle.dialect.specs.declared.Edition.{Edition}
use Rattle.dialect.specs.declared.Edition.TheVariants.{One, Two}
use Rattle.dialect.specs.Rows.{permits_types}
use Rattle.forest.specs.Forest.{Node, Tree, node, Forest, none, ◌then◌}
use Rattle.forest.specs.Names.{same}
use Rattle.soundness.specs.KindNumbers.{kind_dot, kind_identifier, kind_list}
use Rattle.table.specs.Numbers.{dot_in_type, expecting_path, dot_type_ban, invalid_type, empty_list_in_type, types_disabled}
use Rattle.table.specs.Answer.{Answer, accepted, and_then}
use Rattle.types.specs.Forms.{form_of, reads_as, reads_of, arguments_only, of_child}
use Rattle.types.specs.Paths.{type_field, banned, object_path, base_path, unpack_path}
use Rattle.types.specs.Types.{index_base, index2_base, list_length, at_node, type_rule, «unpack», unpack_argument}
use Rattle.types.specs.Types.{unpack_each, types_check, dialect_check_type}
use Rattle.types.specs.declared.How.{How}
use Rattle.types.specs.declared.How.TheVariants.{Unread, AsType, AsArgument}
use Rattle.types.specs.declared.Reads.{Reads as Reading}
use Rattle.types.specs.declared.Form.{Form}
use Rattle.types.specs.declared.Form.TheVariants.{Ellipsis, Path, Index, Index2, List, Union, Tuple, Other}
use Rattle.parts.specs.Parts.{SameRecord, SameTree, SameTrees}
use Rattle.parts.proofs.Read.{Answers, answers_then, answers_if, answers_at}

-- a child, by how it is read
abbrev child : Edition → L.List ℕ → How → Tree → Answer
child edition names how t =
    of_child how (accepted L.[]) (λ _. «unpack» edition names t) (λ _. unpack_argument edition names t)

module _ (edition : Edition) (names others : L.List ℕ) where
  -- paths
  mutual
    unfolding object_path SameTree

    object_same : (ban : Bool) (ts us : Forest) → SameTrees names others ts us
        → Answers (object_path ban ts) (object_path ban us)
    object_same ban none none h = refl
    object_same ban none (u then us) h = absurd h
    object_same ban (t then ts) none h = absurd h
    object_same ban (t then ts) (u then us) (here, rest) = base_same ban t u here

    base_same : (ban : Bool) (t u : Tree) → SameTree names others t u → Answers (base_path ban t) (base_path ban u)
    base_same ban (node r ks) (node s ls) (h, below) =
        answers_if _ _ (ap (λ (k : ℕ). eqb k kind_identifier) h.kind) _ _ _ _
        (answers_if ban ban refl _ _ _ _ (answers_at h dot_type_ban) refl)
        (answers_if _ _ (ap (λ (k : ℕ). eqb k kind_dot) h.kind) _ _ _ _ (object_same ban ks ls below)
        (answers_at h dot_in_type))

  path_same : (t u : Tree) → SameTree names others t u
      → Answers (unpack_path edition names t) (unpack_path edition others u)
  unfolding unpack_path SameTree
  path_same (node r ks) (node s ls) (h, below) =
      answers_if _ _ (ap (λ (k : ℕ). eqb k kind_identifier) h.kind) _ _ _ _ refl
      (answers_if _ _ (ap (λ (k : ℕ). eqb k kind_dot) h.kind) _ _ _ _ (ban_same _ _ (banned_same edition))
      (answers_at h expecting_path))
    where
      banned_same : (e : Edition) → banned e names r ≡ banned e others s
      banned_same One = ap (λ (n : L.List ℕ). same n type_field) h.name
      banned_same Two = refl

      ban_same : (a b : Bool) → a ≡ b → Answers (object_path a ks) (object_path b ls)
      ban_same a b e = rw e (object_same b ks ls below)

  -- the test at a node before its children are read
  index_same : (r s : Node) (ks ls : Forest) → SameRecord names others r s → SameTrees names others ks ls
      → Answers (index_base r ks) (index_base s ls)
  unfolding index_base SameTrees
  index_same r s none none h below = answers_at h invalid_type
  index_same r s none (u then us) h below = absurd below
  index_same r s (t then ts) none h below = absurd below
  index_same r s (node b bs then ts) (node c cs then us) h ((b_is, _), _) =
      answers_if _ _ (ap (λ (k : ℕ). eqb k kind_identifier) b_is.kind) _ _ _ _ refl (answers_at h invalid_type)

  index2_same : (ks ls : Forest) → SameTrees names others ks ls
      → Answers (index2_base edition names ks) (index2_base edition others ls)
  unfolding index2_base SameTrees
  index2_same none none below = refl
  index2_same none (u then us) below = absurd below
  index2_same (t then ts) none below = absurd below
  index2_same (t then ts) (u then us) (here, rest) = path_same t u here

  length_same : (r s : Node) (ks ls : Forest) → SameRecord names others r s → SameTrees names others ks ls
      → Answers (list_length r ks) (list_length s ls)
  unfolding list_length SameTrees
  length_same r s none none h below = answers_at h empty_list_in_type
  length_same r s none (u then us) h below = absurd below
  length_same r s (t then ts) none h below = absurd below
  length_same r s (t then none) (u then none) h below = answers_at h invalid_type
  length_same r s (t then none) (u then (v then us)) h (here, rest) = absurd rest
  length_same r s (t then (w then ts)) (u then none) h (here, rest) = absurd rest
  length_same r s (t then (w then ts)) (u then (v then us)) h below = refl

  node_same : (form : Form) (r s : Node) (ks ls : Forest) → SameRecord names others r s → SameTrees names others ks ls
      → Answers (at_node edition names form r ks) (at_node edition others form s ls)
  unfolding at_node SameTree
  node_same Ellipsis r s ks ls h below = refl
  node_same Path r s ks ls h below = path_same (node r ks) (node s ls) (h, below)
  node_same Index r s ks ls h below = index_same r s ks ls h below
  node_same Index2 r s ks ls h below = index2_same ks ls below
  node_same List r s ks ls h below = length_same r s ks ls h below
  node_same Union r s ks ls h below = refl
  node_same Tuple r s ks ls h below = refl
  node_same Other r s ks ls h below = answers_at h invalid_type

  -- a node as a type, if its children give the same words however they are read
  module _ {r s : Node} (h : SameRecord names others r s) (ks ls : Forest) (below : SameTrees names others ks ls)
      (inside : (reads : Reading)
      → Answers (unpack_each reads edition names ks) (unpack_each reads edition others ls)) where
    rule_same : Answers (type_rule edition names r ks (λ reads. unpack_each reads edition names ks))
        (type_rule edition others s ls (λ reads. unpack_each reads edition others ls))
    rule_same = go _ _ (formed r.kind s.kind h.kind r.detail s.detail h.detail)
      where
        formed : (k m : ℕ) → k ≡ m → (d e : ℕ) → d ≡ e → form_of k d ≡ form_of m e
        formed k m p d e q = rw (p, q) refl

        go : (a b : Form) → a ≡ b
            → Answers (and_then (at_node edition names a r ks) (λ _. unpack_each (reads_of a) edition names ks))
            (and_then (at_node edition others b s ls) (λ _. unpack_each (reads_of b) edition others ls))
        go a b e =
            rw e (answers_then (at_node edition names b r ks) (at_node edition others b s ls) _ _
            (node_same b r s ks ls h below)
            (inside (reads_of b)))

  -- a child, by how it is read
  child_same : (how : How) (a b c e : Answer) → Answers a b → Answers c e
      → Answers (of_child how (accepted L.[]) (λ _. a) (λ _. c)) (of_child how (accepted L.[]) (λ _. b) (λ _. e))
  child_same Unread a b c e p q = refl
  child_same AsType a b c e p q = p
  child_same AsArgument a b c e p q = q

  -- the type rule and the argument rule
  mutual
    unfolding «unpack» SameTree

    type_same : (t u : Tree) → SameTree names others t u
        → Answers («unpack» edition names t) («unpack» edition others u)
    type_same (node r ks) (node s ls) (h, below) =
        rule_same h ks ls below (λ reads. unpack_each_same ks ls reads below)

    argument_same : (t u : Tree) → SameTree names others t u
        → Answers (unpack_argument edition names t) (unpack_argument edition others u)
    argument_same (node r ks) (node s ls) (h, below) =
        answers_if _ _ (ap (λ (k : ℕ). eqb k kind_list) h.kind) _ _ _ _ (unpack_each_same ks ls arguments_only below)
        (rule_same h ks ls below (λ reads. unpack_each_same ks ls reads below))

    unpack_each_same : (ts us : Forest) (reads : Reading) → SameTrees names others ts us
        → Answers (unpack_each reads edition names ts) (unpack_each reads edition others us)
    unpack_each_same none none reads h = refl
    unpack_each_same none (u then us) reads h = absurd h
    unpack_each_same (t then ts) none reads h = absurd h
    unpack_each_same (t then ts) (u then us) reads (here, rest) =
        answers_then (child edition names reads.first t) (child edition others reads.first u) _ _
        (child_same reads.first («unpack» edition names t) («unpack» edition others u)
        (unpack_argument edition names t)
        (unpack_argument edition others u) (type_same t u here) (argument_same t u here))
        (unpack_each_same ts us (reads_as reads.others reads.others) rest)

  -- LAW: a type in a dialect
  pub check_same : (types : DialectTypes) (t u : Tree) → SameTree names others t u
      → Answers (dialect_check_type edition names types t) (dialect_check_type edition others types u)
  unfolding dialect_check_type SameTree
  check_same types (node r ks) (node s ls) (h, below) =
      answers_then (types_check types r) (types_check types s) _ _
      (answers_if (permits_types types) _ refl _ _ _ _ refl (answers_at h types_disabled))
      (type_same (node r ks) (node s ls) (h, below))
