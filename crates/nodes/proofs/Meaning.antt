-- On stored expressions the value of a node is the expression's: in a whole record `value`, in a window `window_value`, wherever every value that
-- it is made of is none or within the magnitude bound and every place is one of the window's.
-- One relation, `Evaluates`, says how a value comes about from such values; the lists are met only in `evaluates_node`.
use Prim.Native.Nat.{ℕ, zero, suc, ◌+◌, ◌*◌, ◌≤◌, ◌<◌}
use native.Mathlib.Omega.{arith}
use mathlib.Core.Path.{◌≡◌, refl, sym, ◌∙◌, ap, ap₂, subst}
use mathlib.Core.Bool.{Bool, true, false, not, cond, ◌&&◌}
use mathlib.Core.List.{List, ◌++◌, map}
use lib.Dec.{leb, ltb}
use lib.IntN.{ℤ, pos, nat_abs}
use lib.ListN.{length, get_or, length-append, length-map}
use borrow.Author.Tests.{lt-ltb, le-leb}
use Rattle.basics.proofs.Lists.{get_d_map}
use Rattle.meaning.specs.Value.{Value, absent, number, nonzero, bit, less, at_most, equal, at_least, greater, different, Streams}
use Rattle.meaning.specs.Arithmetic.{Operator, add, subtract, multiply, divide, remainder, compare, and, or, floored_divide, floored_remainder, apply}
use Rattle.meaning.specs.Expression.{Expression, integer, name, first, next, negation, binary, conditional, fby, negated, chosen, value_from, value}
use Rattle.meaning.specs.Window.{reach, firsts}
use Rattle.meaning.specs.Interval.{NamesBelow}
use Rattle.meaning.specs.Evaluation.{window_value}
use Rattle.sheet.specs.Refusal.{magnitude_bound}
use Rattle.nodes.specs.Code.{operator_code}
use Rattle.nodes.specs.Postfix.{Node}
use Rattle.nodes.specs.Bounded.{in_bound, Small, some_value, bounded, evaluated, value_in, stored_value, SmallValue, operator_at}
use Rattle.nodes.specs.Evaluate.{Nodes, nodes_of, View, places, operator_node, kind_of, left_end, numbered, stream_evaluated, negated_result, chosen_result, operated, value_by_kind, part_value, node_value}
use Rattle.nodes.specs.declared.Evaluated.{Evaluated}
use Rattle.nodes.proofs.Evaluate.{value_before-node}
use Rattle.nodes.proofs.Postfix.{NodeAt, StoredAt, stored_integer, stored_name, stored_first, stored_next, stored_negation, stored_binary, stored_conditional, stored_fby, left_end-stored}

-- ---- operators by their numbers

-- The number of an operator is an operator's kind, and names that operator.
pub record Coded (o : Operator) (k : ℕ) : Type 0 where
  pub kind : kind_of k ≡ operator_node
  pub range : (leb 7 k && ltb k 22) ≡ true
  pub names : operator_at k ≡ o

abbrev coded : {o : Operator} {k : ℕ} → kind_of k ≡ operator_node → (leb 7 k && ltb k 22) ≡ true → operator_at k ≡ o → Coded o k
coded p q r = record { kind = p; range = q; names = r }

pub operator_code-coded : (o : Operator) → Coded o (operator_code o)
operator_code-coded add = coded refl refl refl
operator_code-coded subtract = coded refl refl refl
operator_code-coded multiply = coded refl refl refl
operator_code-coded divide = coded refl refl refl
operator_code-coded remainder = coded refl refl refl
operator_code-coded (compare less) = coded refl refl refl
operator_code-coded (compare at_most) = coded refl refl refl
operator_code-coded (compare equal) = coded refl refl refl
operator_code-coded (compare at_least) = coded refl refl refl
operator_code-coded (compare greater) = coded refl refl refl
operator_code-coded (compare different) = coded refl refl refl
operator_code-coded and = coded refl refl refl
operator_code-coded or = coded refl refl refl
operator_code-coded floored_divide = coded refl refl refl
operator_code-coded floored_remainder = coded refl refl refl

small-in_bound : (z : ℤ) → Small z → in_bound z ≡ true
small-in_bound z h = le-leb (nat_abs z) magnitude_bound h

pub bounded-small : (z : ℤ) → Small z → bounded z ≡ some_value z
bounded-small z h = simp (small-in_bound z h)

-- ---- values as results

pub value_in-evaluated : (x : Value) → SmallValue x → value_in (evaluated x) ≡ x
value_in-evaluated absent h = refl
value_in-evaluated (number z) h = simp (small-in_bound z h)

-- What is stored as a number, read as a result.
stored-evaluated : (z : ℤ) → bounded z ≡ evaluated (stored_value z)
stored-evaluated z = by (in_bound z) refl
  where
    by : (t : Bool) → in_bound z ≡ t → bounded z ≡ evaluated (stored_value z)
    by true e = simp e refl
    by false e = simp e refl

operated-evaluated : (o : Operator) (x y : Value) → SmallValue x → SmallValue y → operated (operator_code o) (evaluated x) (evaluated y) ≡ evaluated (apply o x y)
operated-evaluated o absent y hx hy = refl
operated-evaluated o (number x) absent hx hy = simp (small-in_bound x hx) refl
operated-evaluated o (number x) (number y) hx hy = let c = operator_code-coded o in simp (c.range, c.names, small-in_bound x hx, small-in_bound y hy)

negated-evaluated : (x : Value) → SmallValue x → negated_result (evaluated x) ≡ evaluated (negated x)
negated-evaluated absent h = refl
negated-evaluated (number z) h = simp (small-in_bound z h) (by (nonzero z))
  where
    by : (t : Bool) → some_value (bit (not t)) ≡ bounded (bit (not t))
    by true = refl
    by false = refl

chosen-evaluated : (c x y : Value) → SmallValue c → chosen_result (evaluated c) (evaluated x) (evaluated y) ≡ evaluated (chosen c x y)
chosen-evaluated absent x y h = refl
chosen-evaluated (number z) x y h = simp (small-in_bound z h) (by (nonzero z))
  where
    by : (t : Bool) → cond t (evaluated x) (evaluated y) ≡ evaluated (cond t x y)
    by true = refl
    by false = refl

-- ---- how a value comes about

-- The expression, its firsts numbered from f on, has the value z at the place p of the window, every value that it is made of is none or within
-- the bound, and every place that is looked at is one of the window's. w has the streams' values at the window's places.
module _ (W : View) (w : Streams) where
  pub data Evaluates : ℕ → Expression → ℕ → Value → Type 0 where
    integer_is : {f p : ℕ} {z : ℤ} → Evaluates f (integer z) p (number z)
    name_is : {f p k : ℕ} → k < W.streams → p < places W → Evaluates f (name k) p (number (w k p))
    first_is : {f p : ℕ} {e : Expression} {z : Value} → W.whole ≡ true → Evaluates (suc f) e 0 z → Evaluates f (first e) p z
    first_stored : {f p : ℕ} {e : Expression} → W.whole ≡ false → f < length W.firsts → Evaluates f (first e) p (stored_value (get_or W.firsts f (pos 0)))
    next_is : {f p : ℕ} {e : Expression} {z : Value} → suc p < places W → Evaluates f e (suc p) z → Evaluates f (next e) p z
    negation_is : {f p : ℕ} {e : Expression} {z : Value} → Evaluates f e p z → SmallValue z → Evaluates f (negation e) p (negated z)
    binary_is : {f p : ℕ} {o : Operator} {a b : Expression} {x y : Value} → Evaluates f a p x → SmallValue x → Evaluates (f + length (firsts a)) b p y → SmallValue y
        → Evaluates f (binary o a b) p (apply o x y)
    conditional_is : {f p : ℕ} {c a b : Expression} {t x y : Value} → Evaluates f c p t → SmallValue t → Evaluates (f + length (firsts c)) a p x
        → Evaluates (f + length (firsts c) + length (firsts a)) b p y → Evaluates f (conditional c a b) p (chosen t x y)
    fby_left : {f : ℕ} {a b : Expression} {x : Value} → W.whole ≡ true → Evaluates f a 0 x → Evaluates f (fby a b) 0 x
    fby_window : {f : ℕ} {a b : Expression} → W.whole ≡ false → Evaluates f (fby a b) 0 (number (pos 0))
    fby_right : {f p : ℕ} {a b : Expression} {x : Value} → Evaluates (f + length (firsts a)) b p x → Evaluates f (fby a b) (suc p) x

-- ---- the node's value

-- The window shows the streams: at each of its places, the value of each stream.
abbrev pub Shows : View → Streams → Type 0
Shows W w = (k p : ℕ) → k < W.streams → p < places W → get_or W.window (p * W.streams + k) (pos 0) ≡ w k p

module _ (N : Nodes) (W : View) (w : Streams) (shows : Shows W w) where
  -- The value by the kind of the last node.
  by-node : {m s k : ℕ} {v : ℤ} {x : Evaluated} (p : ℕ) → NodeAt N m k v s → value_by_kind N W (kind_of k) (part_value N W) m p ≡ x → part_value N W (suc m) p ≡ x
  by-node {m} {s} {k} {v} {x} p n e =
      value_before-node N W m p ∙ ap (λ j. value_by_kind N W (kind_of j) (part_value N W) m p) n.kind ∙ e

  pub evaluates_node : {n f m p : ℕ} {e : Expression} {z : Value} → StoredAt N n f e m → Evaluates W w f e p z → part_value N W m p ≡ evaluated z
  evaluates_node (stored_integer x) (integer_is {p = p} {z = z}) = by-node p x (ap bounded x.value)
  evaluates_node (stored_name {k = k} x) (name_is {p = p} b q) =
      by-node p x (ap (stream_evaluated W.window W.streams p) x.value ∙ simp (lt-ltb k W.streams b) (ap bounded (shows k p b q)))
  evaluates_node (stored_first s x) (first_is {p = p} t d) = by-node p x (simp t (evaluates_node s d))
  evaluates_node (stored_first {f = f} s x) (first_stored {p = p} t b) =
      by-node p x (simp t (ap (numbered W.firsts) x.value ∙ simp (lt-ltb f (length W.firsts) b) (stored-evaluated (get_or W.firsts f (pos 0)))))
  evaluates_node (stored_next s x) (next_is {p = p} b d) = by-node p x (simp (lt-ltb (suc p) (places W) b) (evaluates_node s d))
  evaluates_node (stored_negation s x) (negation_is {p = p} {z = z} d h) = by-node p x (ap negated_result (evaluates_node s d) ∙ negated-evaluated z h)
  evaluates_node (stored_binary {m = m} {o = o} s t x) (binary_is {p = p} {x = u} {y = v} d hd k hk) =
      by-node p x
      (ap (λ j. value_by_kind N W j (part_value N W) m p) (operator_code-coded o).kind
      ∙ ap (λ j. operated j (part_value N W (left_end N.starts m) p) (part_value N W m p)) x.kind
      ∙ ap₂ (operated (operator_code o)) (ap (λ l. part_value N W l p) (left_end-stored t) ∙ evaluates_node s d) (evaluates_node t k)
      ∙ operated-evaluated o u v hd hk)
  evaluates_node (stored_conditional {m = m} r s t x) (conditional_is {p = p} {t = u} {x = v} {y = z} d h k j) =
      let test = ap (λ l. part_value N W l p) (ap (left_end N.starts) (left_end-stored t) ∙ left_end-stored s) ∙ evaluates_node r d in
      let left = ap (λ l. part_value N W l p) (left_end-stored t) ∙ evaluates_node s k in
      let right = evaluates_node t j in
      by-node p x ((λ i. chosen_result (test i) (left i) (right i)) ∙ chosen-evaluated u v z h)
  evaluates_node (stored_fby s t x) (fby_left h d) = by-node 0 x (simp h (ap (λ l. part_value N W l 0) (left_end-stored t) ∙ evaluates_node s d))
  evaluates_node (stored_fby s t x) (fby_window h) = by-node 0 x (simp h refl)
  evaluates_node (stored_fby s t x) (fby_right {p = p} d) = by-node (suc p) x (evaluates_node t d)

  -- The same of the node itself.
  pub evaluates_root : {n f i p : ℕ} {e : Expression} {z : Value} → StoredAt N n f e (suc i) → Evaluates W w f e p z
      → i < length N.kinds → i < length N.values → i < length N.starts → p < places W → node_value N W i p ≡ evaluated z
  unfolding node_value
  evaluates_root {n} {f} {i} {p} {e} {z} s d hk hv hs hp =
      simp (lt-ltb i (length N.kinds) hk, lt-ltb i (length N.values) hv, lt-ltb i (length N.starts) hs, lt-ltb p (places W) hp) (evaluates_node s d)

-- ---- whole records

-- Every value that the expression's value at time i is made of is none or within the bound.
abbrev pub Met : Streams → Expression → ℕ → Type 0
Met w (integer z) i = Small z
Met w (name k) i = Small (w k i)
Met w (first e) i = Met w e 0
Met w (next e) i = Met w e (suc i)
Met w (negation e) i = Met w e i
Met w (binary o a b) i = Met w a i × Met w b i × SmallValue (value w (binary o a b) i)
Met w (conditional c a b) i = Met w c i × Met w a i × Met w b i
Met w (fby a b) zero = Met w a 0
Met w (fby a b) (suc i) = Met w b i

small-negated : (x : Value) → SmallValue (negated x)
small-negated absent = tt
small-negated (number z) = by (nonzero z)
  where
    by : (t : Bool) → Small (bit (not t))
    by true = omega arith
    by false = omega arith

small-chosen : (c x y : Value) → SmallValue x → SmallValue y → SmallValue (chosen c x y)
small-chosen absent x y h k = tt
small-chosen (number z) x y h k = by (nonzero z)
  where
    by : (t : Bool) → SmallValue (cond t x y)
    by true = h
    by false = k

-- A value whose parts are none or within the bound is none or within it.
met_small : (w : Streams) (e : Expression) (i : ℕ) → Met w e i → SmallValue (value w e i)
unfolding value value_from
met_small w (integer z) i h = h
met_small w (name k) i h = h
met_small w (first e) i h = met_small w e 0 h
met_small w (next e) i h = met_small w e (suc i) h
met_small w (negation e) i h = small-negated (value w e i)
met_small w (binary o a b) i h = h.2
met_small w (conditional c a b) i h = small-chosen (value w c i) (value w a i) (value w b i) (met_small w a i h.1) (met_small w b i h.2)
met_small w (fby a b) zero h = met_small w a 0 h
met_small w (fby a b) (suc i) h = met_small w b i h

module _ (W : View) (w : Streams) (whole : W.whole ≡ true) where
  pub value_evaluates : (e : Expression) (f i : ℕ) → NamesBelow W.streams e → i + reach e < places W → Met w e i → Evaluates W w f e i (value w e i)
  unfolding value value_from reach
  value_evaluates (integer z) f i n r h = integer_is
  value_evaluates (name k) f i n r h = name_is {p = i} n (omega arith)
  value_evaluates (first e) f i n r h = first_is whole (value_evaluates e (suc f) 0 n (omega arith) h)
  value_evaluates (next e) f i n r h = next_is {p = i} (omega arith) (value_evaluates e f (suc i) n (omega arith) h)
  value_evaluates (negation e) f i n r h = negation_is (value_evaluates e f i n r h) (met_small w e i h)
  value_evaluates (binary o a b) f i n r h =
      binary_is (value_evaluates a f i n.0 (omega arith) h.0) (met_small w a i h.0)
      (value_evaluates b (f + length (firsts a)) i n.1 (omega arith) h.1) (met_small w b i h.1)
  value_evaluates (conditional c a b) f i n r h =
      conditional_is (value_evaluates c f i n.0 (omega arith) h.0) (met_small w c i h.0) (value_evaluates a (f + length (firsts c)) i n.1 (omega arith) h.1)
      (value_evaluates b (f + length (firsts c) + length (firsts a)) i n.2 (omega arith) h.2)
  value_evaluates (fby a b) f zero n r h = fby_left whole (value_evaluates a f 0 n.0 (omega arith) h)
  value_evaluates (fby a b) f (suc i) n r h = fby_right (value_evaluates b (f + length (firsts a)) i n.1 (omega arith) h)

-- ---- windows

-- Every value that the expression's value at the place i of a window is made of is none or within the bound.
abbrev pub WindowMet : Streams → List Value → ℕ → Expression → ℕ → Type 0
WindowMet w stored n (integer z) i = Small z
WindowMet w stored n (name k) i = Small (w k i)
WindowMet w stored n (first e) i = SmallValue (get_or stored n absent)
WindowMet w stored n (next e) i = WindowMet w stored n e (suc i)
WindowMet w stored n (negation e) i = WindowMet w stored n e i
WindowMet w stored n (binary o a b) i =
    WindowMet w stored n a i × WindowMet w stored (n + length (firsts a)) b i × SmallValue (window_value w stored n (binary o a b) i)
WindowMet w stored n (conditional c a b) i =
    WindowMet w stored n c i × WindowMet w stored (n + length (firsts c)) a i × WindowMet w stored (n + length (firsts c) + length (firsts a)) b i
WindowMet w stored n (fby a b) zero = Unit
WindowMet w stored n (fby a b) (suc i) = WindowMet w stored (n + length (firsts a)) b i

window_met_small : (w : Streams) (stored : List Value) (n : ℕ) (e : Expression) (i : ℕ) → WindowMet w stored n e i → SmallValue (window_value w stored n e i)
unfolding window_value
window_met_small w stored n (integer z) i h = h
window_met_small w stored n (name k) i h = h
window_met_small w stored n (first e) i h = h
window_met_small w stored n (next e) i h = window_met_small w stored n e (suc i) h
window_met_small w stored n (negation e) i h = small-negated (window_value w stored n e i)
window_met_small w stored n (binary o a b) i h = h.2
window_met_small w stored n (conditional c a b) i h =
    small-chosen (window_value w stored n c i) (window_value w stored (n + length (firsts c)) a i) (window_value w stored (n + length (firsts c) + length (firsts a)) b i)
    (window_met_small w stored (n + length (firsts c)) a i h.1)
    (window_met_small w stored (n + length (firsts c) + length (firsts a)) b i h.2)
window_met_small w stored n (fby a b) zero h = omega arith
window_met_small w stored n (fby a b) (suc i) h = window_met_small w stored (n + length (firsts a)) b i h

-- The stored numbers of the firsts stand for their values.
module _ (W : View) (w : Streams) (whole : W.whole ≡ false) where
  abbrev stored_firsts : List Value
  stored_firsts = map stored_value W.firsts

  pub window_value_evaluates : (e : Expression) (f i : ℕ) → NamesBelow W.streams e → i + reach e < places W → f + length (firsts e) ≤ length W.firsts
      → WindowMet w stored_firsts f e i → Evaluates W w f e i (window_value w stored_firsts f e i)
  unfolding window_value reach firsts
  window_value_evaluates (integer z) f i n r s h = integer_is
  window_value_evaluates (name k) f i n r s h = name_is {p = i} n (omega arith)
  window_value_evaluates (first e) f i n r s h =
      subst (Evaluates W w f (first e) i) (sym (get_d_map stored_value W.firsts f (pos 0) absent (omega arith))) (first_stored {f = f} whole (omega arith))
  window_value_evaluates (next e) f i n r s h = next_is {p = i} (omega arith) (window_value_evaluates e f (suc i) n (omega arith) s h)
  window_value_evaluates (negation e) f i n r s h = negation_is (window_value_evaluates e f i n r s h) (window_met_small w stored_firsts f e i h)
  window_value_evaluates (binary o a b) f i n r s h =
      let l = length-append (firsts a) (firsts b) in
      binary_is (window_value_evaluates a f i n.0 (omega arith) (omega arith) h.0) (window_met_small w stored_firsts f a i h.0)
      (window_value_evaluates b (f + length (firsts a)) i n.1 (omega arith) (omega arith) h.1) (window_met_small w stored_firsts (f + length (firsts a)) b i h.1)
  window_value_evaluates (conditional c a b) f i n r s h =
      let l = length-append (firsts c) (firsts a ++ firsts b) in
      let k = length-append (firsts a) (firsts b) in
      conditional_is (window_value_evaluates c f i n.0 (omega arith) (omega arith) h.0) (window_met_small w stored_firsts f c i h.0)
      (window_value_evaluates a (f + length (firsts c)) i n.1 (omega arith) (omega arith) h.1)
      (window_value_evaluates b (f + length (firsts c) + length (firsts a)) i n.2 (omega arith) (omega arith) h.2)
  window_value_evaluates (fby a b) f zero n r s h = fby_window whole
  window_value_evaluates (fby a b) f (suc i) n r s h =
      let l = length-append (firsts a) (firsts b) in
      fby_right (window_value_evaluates b (f + length (firsts a)) i n.1 (omega arith) (omega arith) h)

-- ---- the nodes of a list

-- Where a list of nodes stores an expression, its last node has the expression's value.
module _ (l : List Node) (W : View) (w : Streams) (shows : Shows W w) where
  evaluates_in : {n f i p : ℕ} {e : Expression} {z : Value} → StoredAt (nodes_of l) n f e (suc i) → Evaluates W w f e p z → i < length l → p < places W → node_value (nodes_of l) W i p ≡ evaluated z
  evaluates_in s d h hp =
      evaluates_root (nodes_of l) W w shows s d (omega (arith, length-map l (λ (x : Node). x.kind))) (omega (arith, length-map l (λ (x : Node). x.value)))
      (omega (arith, length-map l (λ (x : Node). x.start))) hp

  pub node_value-value : {n f i : ℕ} (p : ℕ) (e : Expression) → StoredAt (nodes_of l) n f e (suc i) → i < length l → W.whole ≡ true → NamesBelow W.streams e → p + reach e < places W
      → Met w e p → value_in (node_value (nodes_of l) W i p) ≡ value w e p
  node_value-value p e s h whole n r m =
      ap value_in (evaluates_in s (value_evaluates W w whole e _ p n r m) h (omega arith)) ∙ value_in-evaluated (value w e p) (met_small w e p m)

  pub node_value-window_value : {n f i : ℕ} (p : ℕ) (e : Expression) → StoredAt (nodes_of l) n f e (suc i) → i < length l → W.whole ≡ false → NamesBelow W.streams e
      → p + reach e < places W → f + length (firsts e) ≤ length W.firsts → WindowMet w (map stored_value W.firsts) f e p
      → value_in (node_value (nodes_of l) W i p) ≡ window_value w (map stored_value W.firsts) f e p
  node_value-window_value {f = f} p e s h whole n r k m =
      let stored = map stored_value W.firsts in
      ap value_in (evaluates_in s (window_value_evaluates W w whole e f p n r k m) h (omega arith)) ∙ value_in-evaluated (window_value w stored f e p) (window_met_small w stored f e p m)
