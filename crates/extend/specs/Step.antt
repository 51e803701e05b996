-- One more letter after the record of a key, over stored nodes: whether the longer record is lawful, and its key. "Lawful", "letter", "first"
-- and "until" are document 01's terms. These functions can be run; the crate's laws say that they agree with `lawful` and `key_of`.
use Rattle.std.specs.Prelude.{ℕ, zero, suc, ◌+◌, ◌-◌, ◌*◌, ◌/◌, ◌≤◌, ◌<◌, min, ◌≡◌, Bool, true, false, cond, ◌||◌, List, [], ◌∷◌, ◌++◌, map, leb, ltb, eqb, ℤ, length, get_or, take, drop, Option, Some, None, is_some, unwrap_or}
use Rattle.sheet.specs.Refusal.{stream_bound, constraint_bound, first_bound, window_bound}
use Rattle.meaning.specs.Value.{Value, truth}
use Rattle.meaning.specs.Expression.{holds}
use Rattle.nodes.specs.Bounded.{value_in}
use Rattle.nodes.specs.Code.{sign_at}
use Rattle.nodes.specs.Evaluate.{Nodes, stored, View, view, node_value}
use Rattle.sides.specs.Mark.{odd}
use Rattle.sizes.specs.Room.{key_size, window_room, prepared_size}
use Rattle.prepare.specs.Key.{encoded_key, raised, lowered, digit, size_in, letters_in, firsts_in, marks_in}
use Rattle.prepare.specs.Prepared.{window_of, Prepared, with_letter_after}

-- A stored sheet: its nodes; for each constraint its relation and the last nodes of its sides; the node of each `first`; the values of every
-- letter, letter after letter; how many streams there are; D; and D+B.
pub record Store : Type 0 where
  pub nodes : Nodes
  pub relations : List ℕ
  pub lefts : List ℕ
  pub rights : List ℕ
  pub first_nodes : List ℕ
  pub letter_values : List ℤ
  pub streams : ℕ
  pub ahead : ℕ
  pub width : ℕ

abbrev pub store_of : (kinds : List ℕ) (values : List ℤ) (starts relations lefts rights first_nodes : List ℕ) (letter_values : List ℤ) (streams ahead width : ℕ) → Store
store_of kinds values starts relations lefts rights first_nodes letter_values streams ahead width =
    record {
      nodes = stored kinds values starts;
      relations = relations;
      lefts = lefts;
      rights = rights;
      first_nodes = first_nodes;
      letter_values = letter_values;
      streams = streams;
      ahead = ahead;
      width = width;
    }

-- ---- constraints, judged at one time

-- Whether a lawful record stays lawful, and the marks of the untils that are done then.
abbrev pub unlawful : Option ℕ
unlawful = None

abbrev pub lawful_with : ℕ → Option ℕ
lawful_with m = Some m

-- the answer for what comes later, with a digit before its marks
abbrev pub with_digit : Bool → Option ℕ → Option ℕ
with_digit b None = unlawful
with_digit b (Some marks) = lawful_with (digit b + 2 * marks)

-- `value` has the value of a node. The next n constraints from the one numbered j on are judged; `marks` are those of their untils so far. The
-- answer has the marks afterwards.
module _ (relations lefts rights : List ℕ) (value : ℕ → Value) where
  -- An until is permitted if its left is true, or it is done; none counts as 0.
  abbrev pub until_done : ℕ → ℕ → Bool
  until_done j marks = odd marks || truth (value (get_or rights j 0))

  abbrev pub until_permitted : ℕ → ℕ → Bool
  until_permitted j marks = until_done j marks || truth (value (get_or lefts j 0))

  abbrev pub sign_holds : ℕ → Bool
  sign_holds j = holds (sign_at (get_or relations j 0)) (value (get_or lefts j 0)) (value (get_or rights j 0))

  unfoldable pub judged_from : ℕ → ℕ → ℕ → Option ℕ
  judged_from j zero marks = lawful_with 0
  judged_from j (suc n) marks =
      cond (eqb (get_or relations j 0) 7)
      (cond (until_permitted j marks) (with_digit (until_done j marks) (judged_from (suc j) n (marks / 2))) unlawful)
      (cond (sign_holds j) (judged_from (suc j) n marks) unlawful)

-- ---- one more letter

module _ (K : Store) where
  -- The letters of a key and one more.
  abbrev pub letters_after : List ℕ → ℕ → List ℕ
  letters_after key a = letters_in K.width key ++ (a ∷ [])

  -- What the nodes' values are taken from: the key's letters and the new one, and the values of the firsts. A record that is not cut is whole.
  abbrev pub view_after : List ℕ → ℕ → View
  view_after key a =
      view (window_of K.streams K.letter_values (letters_after key a)) K.streams
      (map lowered (firsts_in (length K.first_nodes) key)) (leb (size_in key) K.width)

module _ (K : Store) where
  abbrev pub value_at : View → ℕ → ℕ → Value
  value_at W place node = value_in (node_value K.nodes W node place)

  -- The time newly judged is D letters back; there is none before D letters are there. `known` is how many letters of the record are there.
  abbrev pub judged_in : View → ℕ → ℕ → Option ℕ
  judged_in W known marks =
      cond (leb K.ahead known)
      (judged_from K.relations K.lefts K.rights (value_at W (known - K.ahead)) 0 (length K.relations) marks)
      (lawful_with marks)

  -- The firsts have values from the cut on, and keep them.
  abbrev pub firsts_from : View → ℕ → List ℕ → List ℕ
  firsts_from W size numbers =
      cond (leb size K.width) (cond (ltb size K.width) [] (map (λ node. raised (value_at W 0 node)) K.first_nodes)) numbers

  -- `letters` are those of the key and the new one. The longer record's key holds the last D+B of them.
  abbrev pub key_from : View → ℕ → List ℕ → ℕ → List ℕ → List ℕ
  key_from W size letters marks numbers =
      encoded_key (length letters) (drop (length letters - K.width) letters) (firsts_from W size numbers) (unwrap_or (judged_in W (length letters - 1) marks) 0)

  unfoldable pub judged_after : List ℕ → ℕ → Option ℕ
  judged_after key a = judged_in (view_after K key a) (length (letters_after K key a) - 1) (marks_in key)

  unfoldable pub key_after : List ℕ → ℕ → List ℕ
  key_after key a = key_from (view_after K key a) (size_in key) (letters_after K key a) (marks_in key) (firsts_in (length K.first_nodes) key)

-- ---- what is asked of a stored sheet and of keys

-- Document 01's bounds, as far as the sizes of tables depend on them.
pub record IsReady (K : Store) : Type 0 where
  pub few_letters : K.width ≤ window_bound
  pub few_streams : K.streams ≤ stream_bound
  pub lefts_long : length K.lefts ≡ length K.relations
  pub rights_long : length K.rights ≡ length K.relations
  pub few_constraints : length K.relations ≤ constraint_bound
  pub few_firsts : length K.first_nodes ≤ first_bound

-- how many constraints have both sides, as far as the bound goes
abbrev pub constraints_within : Store → ℕ
constraints_within K = min (min (length K.relations) constraint_bound) (min (length K.lefts) (length K.rights))

-- A stored sheet with what is longer than the bounds allow cut off. One that keeps the bounds is not cut.
unfoldable pub within_bounds : Store → Store
within_bounds K =
    record {
      nodes = K.nodes;
      relations = take (constraints_within K) K.relations;
      lefts = take (constraints_within K) K.lefts;
      rights = take (constraints_within K) K.rights;
      first_nodes = take (min (length K.first_nodes) first_bound) K.first_nodes;
      letter_values = K.letter_values;
      streams = min K.streams stream_bound;
      ahead = K.ahead;
      width = min K.width window_bound;
    }

-- The letter's values are there, and room for 8 from the first of them on: always so many are read, since a copy of a fixed size is quick.
pub record HasValues (K : Store) (a : ℕ) : Type 0 where
  pub inside : a * K.streams + stream_bound ≤ length K.letter_values

pub record IsKey (K : Store) (key : List ℕ) : Type 0 where
  pub long : length key ≡ key_size
  pub letters : (p : ℕ) → p < min (size_in key) K.width → HasValues K (get_or key (suc p) 0)

-- ---- what is prepared for the letters after a key

abbrev pub PreparedFor : Store → List ℕ → List ℤ → Type 0
PreparedFor K key prepared = Prepared K.letter_values K.streams K.width (length K.first_nodes) key prepared

-- ---- the answer and the key that one more letter leads to

-- The answer for these letters, values, marks and numbers of firsts; `fresh` becomes the longer record's key if the answer is yes, and stays if it is no.
pub record Finished (K : Store) (W : View) (size : ℕ) (letters : List ℕ) (marks : ℕ) (numbers fresh : List ℕ) (ok : Bool) (fresh' : List ℕ) : Type 0 where
  pub answer : ok ≡ is_some (judged_in K W (length letters - 1) marks)
  pub new : ok ≡ true → fresh' ≡ key_from K W size letters marks numbers
  pub kept : ok ≡ false → fresh' ≡ fresh

-- The answer and the key that one more letter leads to.
pub record Extended (K : Store) (key : List ℕ) (a : ℕ) (fresh : List ℕ) (ok : Bool) (fresh' : List ℕ) : Type 0 where
  pub answer : ok ≡ is_some (judged_after K key a)
  pub new : ok ≡ true → fresh' ≡ key_after K key a
  pub kept : ok ≡ false → fresh' ≡ fresh

-- A key, what is prepared for it, and the list for the new key have their sizes.
abbrev pub SizesFit : (key prepared fresh : ℕ) → Type 0
SizesFit key prepared fresh = (key ≡ key_size) × (prepared ≡ prepared_size) × (fresh ≡ key_size)

-- What the nodes' values are taken from, in a list that holds the values of the key's letters, of one more, and of the firsts.
abbrev pub view_in : Store → List ℕ → List ℤ → View
view_in K key prepared =
    view (take ((min (size_in key) K.width + 1) * K.streams) prepared) K.streams (take (length K.first_nodes) (drop window_room prepared))
    (leb (size_in key) K.width)

-- The letter's values are put after those that are prepared, and the answer is that for the values that the list holds then.
pub record Continues (K : Store) (key : List ℕ) (a : ℕ) (prepared : List ℤ) (fresh : List ℕ) (prepared' : List ℤ) (fresh' : List ℕ) (ok : Bool) : Type 0 where
  pub put : prepared' ≡ with_letter_after K.streams K.letter_values (min (size_in key) K.width) a prepared
  pub finished : Finished K (view_in K key prepared') (size_in key) (letters_after K key a) (marks_in key) (firsts_in (length K.first_nodes) key) fresh ok fresh'

-- What `extend` makes of a key and a letter: the answer, what is prepared and the new key. Nothing is left open (`Rattle.extend.proofs.Unique`). For a
-- stored sheet, a key and a letter as they should be, and what is prepared for the key, this is `Extended` (`Rattle.extend.proofs.ExtendLaws`).
pub record Extends (K : Store) (key : List ℕ) (a : ℕ) (prepared : List ℤ) (fresh : List ℕ) (prepared' : List ℤ) (fresh' : List ℕ) (ok : Bool) : Type 0 where
  pub done : SizesFit (length key) (length prepared) (length fresh) → Continues (within_bounds K) key a prepared fresh prepared' fresh' ok
  pub refused : ¬ SizesFit (length key) (length prepared) (length fresh) → (ok ≡ false) × (prepared' ≡ prepared) × (fresh' ≡ fresh)
