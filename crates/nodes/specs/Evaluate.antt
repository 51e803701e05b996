-- The value of a stored node, over arbitrary lists of nodes: from a window of letters and stored first values, or from a whole record
-- (document 01, "Meaning at time i"). proofs/ shows that on the nodes of an expression it is the expression's value.
use Rattle.std.specs.Prelude.{ℕ, zero, suc, ◌+◌, ◌*◌, ◌/◌, ◌≤◌, Bool, cond, not, ◌&&◌, List, [], ◌∷◌, leb, ltb, eqb, ℤ, pos, negsuc, length, get_or}
use Rattle.meaning.specs.Value.{nonzero, bit}
use Rattle.nodes.specs.Postfix.{Node, kinds_of, values_of, starts_of}
use Rattle.nodes.specs.Bounded.{no_value, some_value, bounded, applied_by_kind}
use Rattle.nodes.specs.declared.Evaluated.{Evaluated}

-- ---- stored nodes

-- The three lists in which nodes are stored, of any content.
pub record Nodes : Type 0 where
  pub kinds : List ℕ
  pub values : List ℤ
  pub starts : List ℕ

abbrev pub stored : List ℕ → List ℤ → List ℕ → Nodes
stored kinds values starts = record { kinds = kinds; values = values; starts = starts }

abbrev pub nodes_of : List Node → Nodes
nodes_of l = stored (kinds_of l) (values_of l) (starts_of l)

-- All three lists have a node with this place.
abbrev pub has_node : Nodes → ℕ → Bool
has_node N i = ltb i (length N.kinds) && (ltb i (length N.values) && ltb i (length N.starts))

-- The parts that end up to `end` are stored.
pub record HoldsParts (N : Nodes) (end : ℕ) : Type 0 where
  pub kinds : end ≤ length N.kinds
  pub values : end ≤ length N.values
  pub starts : end ≤ length N.starts

-- What a node is, by the number of its kind (Code).
pub data Kind : Type 0 where
  integer_node name_node first_node next_node negation_node conditional_node fby_node operator_node : Kind

abbrev pub kind_of : ℕ → Kind
kind_of k = get_or (integer_node ∷ name_node ∷ first_node ∷ next_node ∷ negation_node ∷ conditional_node ∷ fby_node ∷ []) k operator_node

-- The part that ends before the place e is the subtree of the node before e, and starts where that node says; there the part to its left ends.
-- 0, before which no part ends, where the list says that a subtree starts behind its own node.
abbrev pub left_end : List ℕ → ℕ → ℕ
left_end starts zero = 0
left_end starts (suc t) = cond (leb (get_or starts t 0) t) (get_or starts t 0) 0

-- An answer for each part, by the place where it ends: `none` for no part, and for the part of node n what `step` makes of the answers for
-- the parts that end up to n. `answer_up_to none step n` has the answers for the parts among the first n nodes.
unfoldable pub answer_up_to : {X : Type 0} → X → ((ℕ → X) → ℕ → X) → ℕ → ℕ → X
answer_up_to none step zero e = none
answer_up_to none step (suc n) e = cond (eqb e (suc n)) (step (answer_up_to none step n) n) (answer_up_to none step n e)

-- ---- values

-- What the nodes' values are taken from.
pub record View : Type 0 where
  -- The values of the streams, letter after letter: at the place p of the window, stream k has p * streams + k.
  pub window : List ℤ
  pub streams : ℕ
  -- The stored values of the firsts, by their numbers; one beyond the magnitude bound stands for none.
  pub firsts : List ℤ
  -- The window is a whole record from time 0: then `first` and the left of `fby` are evaluated at the place 0.
  -- Otherwise `first` has its stored value and the left of `fby` is not read.
  pub whole : Bool

abbrev pub view : List ℤ → ℕ → List ℤ → Bool → View
view window streams firsts whole = record { window = window; streams = streams; firsts = firsts; whole = whole }

-- How many whole letters the window has.
abbrev pub places : View → ℕ
places W = length W.window / W.streams

-- Of n values, the one with a stored number; no value where there is none.
abbrev pub lookup : ℕ → (ℕ → ℤ) → ℤ → Evaluated
lookup n get (pos k) = cond (ltb k n) (bounded (get k)) no_value
lookup n get (negsuc k) = no_value

-- The element of a list with a stored number.
abbrev pub numbered : List ℤ → ℤ → Evaluated
numbered l z = lookup (length l) (λ k. get_or l k (pos 0)) z

-- The value of the stream with a stored number at the place p of a window.
abbrev pub stream_evaluated : List ℤ → ℕ → ℕ → ℤ → Evaluated
stream_evaluated window streams p z = lookup streams (λ k. get_or window (p * streams + k) (pos 0)) z

abbrev pub negated_result : Evaluated → Evaluated
negated_result a = cond a.ok (some_value (bit (not (nonzero a.value)))) no_value

-- "`if` takes its first branch where the condition is not 0." "`if` needs only its condition and chosen branch" (document 02, S-5).
abbrev pub chosen_result : Evaluated → Evaluated → Evaluated → Evaluated
chosen_result c a b = cond c.ok (cond (nonzero c.value) a b) no_value

abbrev pub operated : ℕ → Evaluated → Evaluated → Evaluated
operated k a b = cond (a.ok && b.ok) (applied_by_kind k a.value b.value) no_value

module _ (N : Nodes) (W : View) where
  -- "`a fby b` is a at 0, and b at i−1 later": from what ends at l and at i. In a window the value at the place 0 plays no part.
  abbrev pub followed : (ℕ → ℕ → Evaluated) → ℕ → ℕ → ℕ → Evaluated
  followed before l i zero = cond W.whole (before l 0) (some_value (pos 0))
  followed before l i (suc p) = before i p

  -- The value of node i, a node of this kind, at the place p, from those of the parts that end up to i.
  abbrev pub value_by_kind : Kind → (ℕ → ℕ → Evaluated) → ℕ → ℕ → Evaluated
  value_by_kind integer_node before i p = bounded (get_or N.values i (pos 0))
  value_by_kind name_node before i p = stream_evaluated W.window W.streams p (get_or N.values i (pos 0))
  value_by_kind first_node before i p = cond W.whole (before i 0) (numbered W.firsts (get_or N.values i (pos 0)))
  value_by_kind next_node before i p = cond (ltb (suc p) (places W)) (before i (suc p)) no_value
  value_by_kind negation_node before i p = negated_result (before i p)
  value_by_kind conditional_node before i p =
      chosen_result (before (left_end N.starts (left_end N.starts i)) p) (before (left_end N.starts i) p) (before i p)
  value_by_kind fby_node before i p = followed before (left_end N.starts i) i p
  value_by_kind operator_node before i p = operated (get_or N.kinds i 0) (before (left_end N.starts i) p) (before i p)

  unfoldable pub value_step : (ℕ → ℕ → Evaluated) → ℕ → ℕ → Evaluated
  value_step before i p = value_by_kind (kind_of (get_or N.kinds i 0)) before i p

  -- The value of the part that ends before the place e, at the place p.
  unfoldable pub part_value : ℕ → ℕ → Evaluated
  part_value e = answer_up_to (λ p. no_value) value_step e e

  -- The value of the node with the place `root`, at the place p of the window. No value where an operator gives none, a value that it is made of is
  -- beyond the magnitude bound, or a place, a stream or a part is not there.
  unfoldable pub node_value : ℕ → ℕ → Evaluated
  node_value root p = cond (has_node N root && ltb p (places W)) (part_value (suc root) p) no_value
