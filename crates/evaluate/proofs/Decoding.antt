-- Every value of a part or a node can be read back from its number, since what each node answers is no value or within the bound.
use Prim.Native.Nat.{ℕ, zero, suc, ◌+◌, ◌*◌}
use mathlib.Core.Path.{◌≡◌, refl, sym, ◌∙◌, ap}
use mathlib.Core.Bool.{Bool, true, false, cond, not, ◌&&◌}
use lib.Dec.{leb, ltb, eqb}
use lib.IntN.{ℤ, pos, negsuc}
use lib.ListN.{get_or, length}
use mir.Syntax.{w64}
use mir.Val.{SFits}
use Rattle.meaning.specs.Value.{nonzero}
use Rattle.nodes.specs.Bounded.{in_bound, no_value, some_value, bounded, applied_by_kind}
use Rattle.nodes.specs.Evaluate.{Nodes, View, has_node, places, Kind, integer_node, name_node, first_node, next_node, negation_node, conditional_node, fby_node, operator_node, kind_of, left_end, answer_up_to, lookup, operated, value_by_kind, value_step, part_value, node_value}
use Rattle.nodes.specs.declared.Evaluated.{Evaluated}
use Rattle.arithmetic.specs.Coded.{coded}
use Rattle.arithmetic.proofs.Machine.{held}
use Rattle.arithmetic.proofs.Coded.{Decodes, decodes_none, decodes_bit, decodes_cond, decodes_bounded, decodes_applied, held_decoded}

-- ---- the values of parts

decodes_lookup : (n : ℕ) (get : ℕ → ℤ) (z : ℤ) → Decodes (lookup n get z)
decodes_lookup n get (pos k) = decodes_cond (ltb k n) (decodes_bounded (get k)) decodes_none
decodes_lookup n get (negsuc k) = decodes_none

module _ (N : Nodes) (W : View) where
  decodes_kind : (before : ℕ → ℕ → Evaluated) → ((e p : ℕ) → Decodes (before e p)) → (k : Kind) (i p : ℕ) → Decodes (value_by_kind N W k before i p)
  decodes_kind before d integer_node i p = decodes_bounded (get_or N.values i (pos 0))
  decodes_kind before d name_node i p = decodes_lookup W.streams (λ k. get_or W.window (p * W.streams + k) (pos 0)) (get_or N.values i (pos 0))
  decodes_kind before d first_node i p = decodes_cond W.whole (d i 0) (decodes_lookup (length W.firsts) (λ k. get_or W.firsts k (pos 0)) (get_or N.values i (pos 0)))
  decodes_kind before d next_node i p = decodes_cond (ltb (suc p) (places W)) (d i (suc p)) decodes_none
  decodes_kind before d negation_node i p = decodes_cond (before i p).ok (decodes_bit (not (nonzero (before i p).value))) decodes_none
  decodes_kind before d conditional_node i p =
      let m = left_end N.starts i in
      let c = before (left_end N.starts m) p in
      decodes_cond c.ok (decodes_cond (nonzero c.value) (d m p) (d i p)) decodes_none
  decodes_kind before d fby_node i zero = decodes_cond W.whole (d (left_end N.starts i) 0) refl
  decodes_kind before d fby_node i (suc p) = d i p
  decodes_kind before d operator_node i p =
      let a = before (left_end N.starts i) p in
      let b = before i p in
      decodes_cond (a.ok && b.ok) (decodes_applied (get_or N.kinds i 0) a.value b.value) decodes_none

  decodes_up_to : (n e p : ℕ) → Decodes (answer_up_to (λ p. no_value) (value_step N W) n e p)
  unfolding answer_up_to value_step
  decodes_up_to zero e p = decodes_none
  decodes_up_to (suc n) e p =
      by (answer_up_to (λ p. no_value) (value_step N W) n) (decodes_up_to n) (eqb e (suc n))
    where
      by : (before : ℕ → ℕ → Evaluated) → ((e p : ℕ) → Decodes (before e p)) → (t : Bool)
          → Decodes (cond t (value_step N W before n) (before e) p)
      by before d true = decodes_kind before d (kind_of (get_or N.kinds n 0)) n p
      by before d false = d e p

  pub decodes_before : (e p : ℕ) → Decodes (part_value N W e p)
  unfolding part_value
  decodes_before e p = decodes_up_to e e p

  pub decodes_node : (root p : ℕ) → Decodes (node_value N W root p)
  unfolding node_value
  decodes_node root p = decodes_cond (has_node N root && ltb p (places W)) (decodes_before (suc root) p) decodes_none

  -- The value of a part, read back from the number that a call gave.
  pub held-before : (e p : ℕ) {r : ℤ} → SFits w64 r → r ≡ coded (part_value N W e p) → bounded (held r) ≡ part_value N W e p
  held-before e p f h = held_decoded (part_value N W e p) f h (decodes_before e p)

  -- The same from a number that is already known to be its own, whether a leaf or a call gave it.
  pub read-before : (e p : ℕ) {z : ℤ} → z ≡ coded (part_value N W e p) → bounded z ≡ part_value N W e p
  read-before e p h = ap bounded h ∙ decodes_before e p

-- ---- a number that was tested against the bound

module _ (z : ℤ) {e : Evaluated} (h : bounded z ≡ e) where
  pub value_there : in_bound z ≡ true → some_value z ≡ e
  value_there t = sym (simp t) ∙ h

  pub value-missing : in_bound z ≡ false → no_value ≡ e
  value-missing t = sym (simp t) ∙ h

-- ---- operators

missing_operand : (t u : Bool) (x : Evaluated) → cond t (cond (u && false) x no_value) no_value ≡ no_value
missing_operand true true x = refl
missing_operand true false x = refl
missing_operand false u x = refl

-- An operand without value has a number beyond the bound, of which an operator gives no value.
pub applied_coded : (k : ℕ) (x y : Evaluated) → applied_by_kind k (coded x) (coded y) ≡ operated k x y
applied_coded k x y = by x.ok y.ok
  where
    by : (s t : Bool)
        → applied_by_kind k (cond s x.value (pos 2000000000)) (cond t y.value (pos 2000000000)) ≡ cond (s && t) (applied_by_kind k x.value y.value) no_value
    by true true = refl
    by true false = missing_operand (leb 7 k && ltb k 22) (in_bound x.value) _
    by false t = missing_operand (leb 7 k && ltb k 22) false no_value
