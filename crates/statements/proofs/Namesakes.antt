-- PRODUCT 4: NAMESAKES
--
-- Theorems of the crate `namesakes` about the answer of `namesakes::namesakes`, the rows of its list at exit, and the
-- binding job on the same call and def. Each statement is proved by citing the theorem. Assumes nothing.
use mathlib.Core.Path.{◌≡◌}
use mathlib.Core.Bool.{true}
use mathlib.Core.Logic.{◌↔◌}
use mathlib.Core.List.{List, [], ◌∷◌}
use Prim.Native.Nat.{ℕ, ◌*◌, ◌<◌}
use lib.ListN.{length, take, drop}
use Rattle.forest.specs.Forest.{Node}
use Rattle.table.specs.Numbers.{short_buffer}
use Rattle.table.specs.Answer.{accepted, refused}
use Rattle.table.specs.Check.{node_fits}
use Rattle.table.specs.declared.Wanted.TheVariants.{Call}
use Rattle.deflist.specs.Unpack.{mode_pos_only}
use Rattle.arguments.specs.Written.{positional}
use Rattle.bind.specs.FlatList.{FlatParam}
use Rattle.bind.specs.Job.{bind_of, arguments_at}
use Rattle.reached.specs.Said.{IsAt, Ordinary, flats_at, argument_word}
use Rattle.namesakes.specs.Namesake.{label, Labelled}
use Rattle.namesakes.specs.Job.{labelled_at, namesakes_of, list_after}
use Rattle.namesakes.specs.Said.{node_of, Alike}
use Rattle.namesakes.specs.Example.{table, names, room}
use Rattle.namesakes.proofs.Theorems as theorem
use Rattle.namesakes.proofs.Exchanging as theorem_exchanging
use Rattle.namesakes.proofs.Example as theorem_example

-- "None is reported exactly when every argument that has the name of an ordinary parameter reaches that parameter."
-- In words: for a call and a def that both jobs accept, the number of reports is 0 if and only if the word of each
-- argument whose expression has the name of ordinary parameter q is q.
pub none_exactly : (t names : List ℕ) (call def : ℕ) (words : List ℕ) {vs : List ℕ}
    → bind_of t names call def (length words) ≡ accepted vs
    → (list : List ℕ) {n : ℕ}
    → namesakes_of t names call def (length list) ≡ accepted (n ∷ [])
    → (n ≡ 0) ↔ ((k : ℕ) (a : Labelled) (q : ℕ) (p : FlatParam)
    → IsAt (labelled_at t names call) k a
    → a.name ≡ label p.name
    → IsAt (flats_at t names def) q p
    → Ordinary p
    → argument_word t names call def words k ≡ q)
none_exactly = theorem.none_exactly

-- "Two arguments that are exchanged are both reported."
-- In words: if each of two arguments has the name of the ordinary parameter that the other reaches, each has a row: its
-- node, the parameter that it reaches, the one that has its name, and the other's node.
pub exchanged_reported : (t names : List ℕ) (call def : ℕ) (words : List ℕ) {vs : List ℕ}
    → bind_of t names call def (length words) ≡ accepted vs
    → (list : List ℕ) {n : ℕ}
    → namesakes_of t names call def (length list) ≡ accepted (n ∷ [])
    → (j l : ℕ)
    → (j ≡ l → ⊥)
    → (a b : Labelled)
    → IsAt (labelled_at t names call) j a
    → IsAt (labelled_at t names call) l b
    → (p q : FlatParam)
    → IsAt (flats_at t names def) (argument_word t names call def words j) p
    → IsAt (flats_at t names def) (argument_word t names call def words l) q
    → Ordinary p
    → Ordinary q
    → a.name ≡ label q.name
    → b.name ≡ label p.name
    → ((r : ℕ) × ((r < n) × (take 4 (drop (4 * r) (list_after t names call def list))
    ≡ node_of a ∷ argument_word t names call def words j ∷ argument_word t names call def words l ∷ node_of b ∷ [])))
    × ((r : ℕ) × ((r < n) × (take 4 (drop (4 * r) (list_after t names call def list))
    ≡ node_of b ∷ argument_word t names call def words l ∷ argument_word t names call def words j ∷ node_of a ∷ [])))
exchanged_reported t names call def words bound list found j l apart a b a_at b_at p q p-at q-at p-is q-is a-name
    b-name =
    let both = theorem.exchanged_reported t names call def words bound list found j l (record {
      apart = apart;
      first = a;
      second = b;
      first_there = a_at;
      second_there = b_at;
      param = p;
      other = q;
      param_there = p-at;
      other_there = q-at;
      ordinary = p-is;
      other_ordinary = q-is;
      first_name = a-name;
      second_name = b-name;
    }) in
    ((both.0.number, (both.0.below, both.0.there)), (both.1.number, (both.1.below, both.1.there)))

-- "By position before `/`, exchanging the two arguments of an accepted call with nothing reported, whose names are
-- those of their parameters, is reported."
-- In words: another call of the table whose arguments are alike, with the names of arguments j and l exchanged, is
-- accepted, and has a row for each of the two.
pub exchange_is_reported : (t names : List ℕ) (call other def : ℕ) (words : List ℕ) {vs : List ℕ}
    → bind_of t names call def (length words) ≡ accepted vs
    → (list : List ℕ)
    → namesakes_of t names call def (length list) ≡ accepted (0 ∷ [])
    → node_fits t other Call ≡ true
    → Alike (arguments_at t names call) (arguments_at t names other)
    → (j l : ℕ)
    → (j ≡ l → ⊥)
    → (a b : Labelled)
    → IsAt (labelled_at t names call) j a
    → IsAt (labelled_at t names call) l b
    → (r s : Node)
    → a.argument ≡ positional r
    → b.argument ≡ positional s
    → (p q : FlatParam)
    → IsAt (flats_at t names def) j p
    → IsAt (flats_at t names def) l q
    → p.mode ≡ mode_pos_only
    → q.mode ≡ mode_pos_only
    → a.name ≡ label p.name
    → b.name ≡ label q.name
    → (x y : Labelled)
    → IsAt (labelled_at t names other) j x
    → IsAt (labelled_at t names other) l y
    → x.name ≡ b.name
    → y.name ≡ a.name
    → (m : ℕ) × ((namesakes_of t names other def (length list) ≡ accepted (m ∷ []))
    × (((i : ℕ) × ((i < m) × (take 4 (drop (4 * i) (list_after t names other def list))
    ≡ node_of x ∷ j ∷ l ∷ node_of y ∷ [])))
    × ((i : ℕ) × ((i < m) × (take 4 (drop (4 * i) (list_after t names other def list))
    ≡ node_of y ∷ l ∷ j ∷ node_of x ∷ [])))))
exchange_is_reported t names call other def words bound list none fits alike j l apart a b a_at b_at r s a-is b_is p q
    p-at q-at p-mode q-mode a-name b-name x y x-at y-at x-name y-name =
    let e = theorem_exchanging.exchange_is_reported t names call other def words bound list none j l (record {
      is_acall = fits;
      alike = alike;
      apart = apart;
      own = record {
        argument = a;
        there = a_at;
        node = r;
        by_place = a-is;
        param = p;
        param_there = p-at;
        pos_only = p-mode;
        name = a-name;
      };
      owns = record {
        argument = b;
        there = b_at;
        node = s;
        by_place = b_is;
        param = q;
        param_there = q-at;
        pos_only = q-mode;
        name = b-name;
      };
      first = x;
      second = y;
      first_there = x-at;
      second_there = y-at;
      first_name = x-name;
      second_name = y-name;
    }) in
    let rows = e.1.1 in (
      e.0,
      (
        e.1.0,
        (
          (rows.0.number, (rows.0.below, rows.0.there)),
          (rows.1.number, (rows.1.below, rows.1.there)),
        ),
      ),
    )

-- a def before `/`, a call and the same call with its arguments exchanged
-- In words: for `f(a, b)` nothing is reported, for `f(b, a)` both arguments; a list of seven words is too short; the
-- ninth word of a list is unchanged.
pub exchanged_example : (namesakes_of table names 7 1 8 ≡ accepted (0 ∷ []))
    × (namesakes_of table names 14 1 8 ≡ accepted (2 ∷ []))
    × (namesakes_of table names 14 1 7 ≡ refused short_buffer [])
    × (list_after table names 14 1 room ≡ 16 ∷ 0 ∷ 1 ∷ 18 ∷ 18 ∷ 1 ∷ 0 ∷ 16 ∷ 7 ∷ [])
exchanged_example = theorem_example.example
