-- The residue of a stored part, over arbitrary lists of nodes, at a place of a window whose last letter is yet to come: a tree of what depends on
-- that letter. It has no value where the part has none. proofs/Residue shows that its value at that letter is the part's value in the whole
-- window, and proofs/Written that the nodes written from it (Written) have that value over a window of that letter alone.
use Rattle.std.specs.Prelude.{ℕ, zero, suc, max, Bool, true, false, cond, ◌&&◌, List, [], ◌++◌, ltb, ℤ, pos, negsuc, get_or}
use Rattle.meaning.specs.Value.{nonzero}
use Rattle.nodes.specs.Bounded.{no_value, some_value, bounded}
use Rattle.nodes.specs.Evaluate.{Nodes, has_node, View, Kind, integer_node, name_node, first_node, next_node, negation_node, conditional_node, fby_node, operator_node, kind_of, left_end, answer_up_to, numbered, stream_evaluated, negated_result, chosen_result, operated}
use Rattle.nodes.specs.declared.Evaluated.{Evaluated}

-- ---- trees over one letter

-- A value that is known, the letter's value of the stream with a stored number, and what is made of them. An operator has its node's kind.
pub data Tree : Type 0 where
  constant_tree : Evaluated → Tree
  name_tree : ℤ → Tree
  negation_tree : Tree → Tree
  operator_tree : ℕ → Tree → Tree → Tree
  conditional_tree : Tree → Tree → Tree → Tree

-- The value of a tree at a letter with this many streams.
unfoldable pub tree_value : ℕ → List ℤ → Tree → Evaluated
tree_value streams letter (constant_tree x) = x
tree_value streams letter (name_tree z) = stream_evaluated letter streams 0 z
tree_value streams letter (negation_tree t) = negated_result (tree_value streams letter t)
tree_value streams letter (operator_tree k a b) = operated k (tree_value streams letter a) (tree_value streams letter b)
tree_value streams letter (conditional_tree c a b) = chosen_result (tree_value streams letter c) (tree_value streams letter a) (tree_value streams letter b)

-- ---- residues

-- A value, or no value, that is known before the letter; or a tree that reads the letter.
pub data Residue : Type 0 where
  known : Evaluated → Residue
  varying : Tree → Residue

-- A residue as a tree, whether it is known, and the value that is then known.
unfoldable pub tree_of : Residue → Tree
tree_of (known x) = constant_tree x
tree_of (varying t) = t

unfoldable pub is_known : Residue → Bool
is_known (known x) = true
is_known (varying t) = false

unfoldable pub known_value : Residue → Evaluated
known_value (known x) = x
known_value (varying t) = no_value

-- "The word comparisons, `and`, `or`, `not` give 0 or 1": of a value that is known, its negation is known.
unfoldable pub negated_residue : Residue → Residue
negated_residue (known x) = known (negated_result x)
negated_residue (varying t) = varying (negation_tree t)

-- "`if` takes its first branch where the condition is not 0": a known condition leaves the branch that it takes, and one without value leaves none.
unfoldable pub chosen_residue : Residue → Residue → Residue → Residue
chosen_residue (known x) a b = cond x.ok (cond (nonzero x.value) a b) (known no_value)
chosen_residue (varying c) a b = varying (conditional_tree c (tree_of a) (tree_of b))

-- An operator is applied only where both operands are known: what is not known may have no value at the letter.
unfoldable pub operated_residue : ℕ → Residue → Residue → Residue
operated_residue k r s =
    cond (is_known r && is_known s) (known (operated k (known_value r) (known_value s))) (varying (operator_tree k (tree_of r) (tree_of s)))

-- The view U has the letters before the place `last`; the letter with that place is yet to come.
module _ (N : Nodes) (U : View) (last : ℕ) where
  -- "`a fby b` is a at 0, and b at i−1 later": from what ends at l and at i. In a window the value at the place 0 plays no part.
  abbrev pub followed_residue : (ℕ → ℕ → Residue) → ℕ → ℕ → ℕ → Residue
  followed_residue before l i zero = cond U.whole (before l 0) (known (some_value (pos 0)))
  followed_residue before l i (suc p) = before i p

  -- The residue of node i, a node of this kind, at the place p, from those of the parts that end up to i.
  abbrev pub residue_by_kind : Kind → (ℕ → ℕ → Residue) → ℕ → ℕ → Residue
  residue_by_kind integer_node before i p = known (bounded (get_or N.values i (pos 0)))
  residue_by_kind name_node before i p =
      cond (ltb p last) (known (stream_evaluated U.window U.streams p (get_or N.values i (pos 0)))) (varying (name_tree (get_or N.values i (pos 0))))
  residue_by_kind first_node before i p = cond U.whole (before i 0) (known (numbered U.firsts (get_or N.values i (pos 0))))
  residue_by_kind next_node before i p = cond (ltb p last) (before i (suc p)) (known no_value)
  residue_by_kind negation_node before i p = negated_residue (before i p)
  residue_by_kind conditional_node before i p =
      chosen_residue (before (left_end N.starts (left_end N.starts i)) p) (before (left_end N.starts i) p) (before i p)
  residue_by_kind fby_node before i p = followed_residue before (left_end N.starts i) i p
  residue_by_kind operator_node before i p = operated_residue (get_or N.kinds i 0) (before (left_end N.starts i) p) (before i p)

  unfoldable pub residue_step : (ℕ → ℕ → Residue) → ℕ → ℕ → Residue
  residue_step before i p = residue_by_kind (kind_of (get_or N.kinds i 0)) before i p

  -- The residue of the part that ends before the place e, at the place p.
  unfoldable pub residue_before : ℕ → ℕ → Residue
  residue_before e = answer_up_to (λ p. known no_value) residue_step e e

  -- The residue of the node with the place `root`.
  unfoldable pub node_residue : ℕ → ℕ → Residue
  node_residue root p = cond (has_node N root) (residue_before (suc root) p) (known no_value)

-- The view with the letter behind its window, and that of the letter alone.
abbrev pub with_letter : View → List ℤ → View
with_letter U letter = record { window = U.window ++ letter; streams = U.streams; firsts = U.firsts; whole = U.whole }

abbrev pub letter_view : ℕ → List ℤ → View
letter_view streams letter = record { window = letter; streams = streams; firsts = []; whole = true }

-- ---- the streams that a tree reads

-- One more than the stream with a stored number; a number below 0 is no stream's.
abbrev pub number_level : ℤ → ℕ
number_level (pos k) = suc k
number_level (negsuc k) = 0

-- Only streams below this number are read.
unfoldable pub tree_level : Tree → ℕ
tree_level (constant_tree x) = 0
tree_level (name_tree z) = number_level z
tree_level (negation_tree t) = tree_level t
tree_level (operator_tree k a b) = max (tree_level a) (tree_level b)
tree_level (conditional_tree c a b) = max (tree_level c) (max (tree_level a) (tree_level b))
