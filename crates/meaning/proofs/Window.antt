-- What the value of an expression at a time depends on: the letters up to its reach; and, from the time `back` on, a window of letters and
-- the values of its firsts, from which `window_value` computes it. By induction on the expression.
use Prim.Native.Nat.{ℕ, zero, suc, ◌+◌, ◌≤◌, ◌<◌}
use native.Mathlib.Omega.{arith}
use native.Mathlib.Nat.{add-suc, not-suc-le-zero}
use mathlib.Core.Path.{◌≡◌, refl, sym, ◌∙◌, ap, ap₂}
use mathlib.Core.List.{List, ◌++◌, map, Memᴰ}
use lib.ListN.{length}
use Rattle.meaning.specs.Value.{Value, absent, number, Streams}
use Rattle.meaning.specs.Arithmetic.{apply}
use Rattle.meaning.specs.Expression.{Expression, integer, name, first, next, negation, binary, conditional, fby, negated, value_from, value}
use Rattle.meaning.specs.Window.{reach, back, firsts}
use Rattle.meaning.specs.Evaluation.{window_value}
use Rattle.meaning.proofs.Scope.{chosen_cong}
use Rattle.meaning.proofs.Stored.{Stored, Stored-left, Stored-right, Stored-map, Stored-cong}

-- The value at time i reads only letters at times up to i + reach.
module _ (w v : Streams) (N : ℕ) (same : (k t : ℕ) → t < N → w k t ≡ v k t) where
  pub value-near : (e : Expression) (i : ℕ) → i + reach e < N → value w e i ≡ value v e i
  unfolding value value_from reach
  value-near (integer z) i h = refl
  value-near (name k) i h = ap number (same k i (omega arith))
  value-near (first e) i h = value-near e 0 (omega arith)
  value-near (next e) i h = value-near e (suc i) (omega arith)
  value-near (negation e) i h = ap negated (value-near e i h)
  value-near (binary o a b) i h = ap₂ (apply o) (value-near a i (omega arith)) (value-near b i (omega arith))
  value-near (conditional c a b) i h = chosen_cong (value-near c i (omega arith)) (value-near a i (omega arith)) (value-near b i (omega arith))
  value-near (fby a b) zero h = value-near a 0 (omega arith)
  value-near (fby a b) (suc i) h = value-near b i (omega arith)

-- From the time `back` on, the window v of the letters of w from time p on, and the stored values of the firsts, give the value.
module _ (w v : Streams) (stored : List Value) (p L : ℕ) (same : (k t : ℕ) → t ≤ L → v k t ≡ w k (p + t)) where
  pub window_value-value : (e : Expression) (n b : ℕ) → back e ≤ b → b + reach e ≤ L → Stored (λ f. value w f 0) absent stored n (firsts e)
      → window_value v stored n e b ≡ value w e (p + b)
  unfolding window_value value value_from back reach firsts
  window_value-value (integer z) n b hb hr f = refl
  window_value-value (name k) n b hb hr f = ap number (same k b (omega arith))
  window_value-value (first e) n b hb hr f = f.0
  window_value-value (next e) n b hb hr f = rw (← add-suc) (window_value-value e n (suc b) (omega arith) (omega arith) f)
  window_value-value (negation e) n b hb hr f = ap negated (window_value-value e n b hb hr f)
  window_value-value (binary o x y) n b hb hr f =
      ap₂ (apply o)
      (window_value-value x n b (omega arith) (omega arith) (Stored-left _ absent stored n (firsts x) (firsts y) f))
      (window_value-value y (n + length (firsts x)) b (omega arith) (omega arith) (Stored-right _ absent stored n (firsts x) (firsts y) f))
  window_value-value (conditional c x y) n b hb hr f =
      let m = n + length (firsts c) in
      let g = Stored-right (λ f. value w f 0) absent stored n (firsts c) (firsts x ++ firsts y) f in
      chosen_cong (window_value-value c n b (omega arith) (omega arith) (Stored-left _ absent stored n (firsts c) (firsts x ++ firsts y) f))
      (window_value-value x m b (omega arith) (omega arith) (Stored-left _ absent stored m (firsts x) (firsts y) g))
      (window_value-value y (m + length (firsts x)) b (omega arith) (omega arith) (Stored-right _ absent stored m (firsts x) (firsts y) g))
  window_value-value (fby x y) n zero hb hr f = absurd (not-suc-le-zero hb)
  window_value-value (fby x y) n (suc b) hb hr f =
      rw add-suc (window_value-value y (n + length (firsts x)) b (omega arith) (omega arith) (Stored-right _ absent stored n (firsts x) (firsts y) f))

-- Where the letters of w from time p on and those of v from time q on agree up to L, and the firsts have the same values, so has the expression.
pub value-window : (w v : Streams) (p q L : ℕ) → ((k t : ℕ) → t ≤ L → w k (p + t) ≡ v k (q + t)) → (e : Expression) (b : ℕ) → back e ≤ b → b + reach e ≤ L
    → ((f : Expression) → Memᴰ f (firsts e) → value w f 0 ≡ value v f 0) → value w e (p + b) ≡ value v e (q + b)
value-window w v p q L same e b hb hr firsts_same =
    let stored = map (λ f. value w f 0) (firsts e) in
    let s = Stored-map (λ f. value w f 0) absent (firsts e) in
    sym (window_value-value w (λ k t. w k (p + t)) stored p L (λ k t h. refl) e 0 b hb hr s)
    ∙ window_value-value v (λ k t. w k (p + t)) stored q L same e 0 b hb hr (Stored-cong _ _ absent stored 0 (firsts e) firsts_same s)

-- The expression with z for the left of each `fby` that stands under no `first`.
unfoldable pub replace_lefts : Expression → Expression → Expression
replace_lefts z (integer x) = integer x
replace_lefts z (name k) = name k
replace_lefts z (first e) = first e
replace_lefts z (next e) = next (replace_lefts z e)
replace_lefts z (negation e) = negation (replace_lefts z e)
replace_lefts z (binary o a b) = binary o (replace_lefts z a) (replace_lefts z b)
replace_lefts z (conditional c a b) = conditional (replace_lefts z c) (replace_lefts z a) (replace_lefts z b)
replace_lefts z (fby a b) = fby z (replace_lefts z b)

-- From the time `back` on the left of `fby` is not read.
pub value_replace_lefts : (w : Streams) (z e : Expression) (i : ℕ) → back e ≤ i → value w (replace_lefts z e) i ≡ value w e i
unfolding value value_from back replace_lefts
value_replace_lefts w z (integer x) i h = refl
value_replace_lefts w z (name k) i h = refl
value_replace_lefts w z (first e) i h = refl
value_replace_lefts w z (next e) i h = value_replace_lefts w z e (suc i) (omega arith)
value_replace_lefts w z (negation e) i h = ap negated (value_replace_lefts w z e i h)
value_replace_lefts w z (binary o a b) i h = ap₂ (apply o) (value_replace_lefts w z a i (omega arith)) (value_replace_lefts w z b i (omega arith))
value_replace_lefts w z (conditional c a b) i h =
    chosen_cong (value_replace_lefts w z c i (omega arith)) (value_replace_lefts w z a i (omega arith)) (value_replace_lefts w z b i (omega arith))
value_replace_lefts w z (fby a b) zero h = absurd (not-suc-le-zero h)
value_replace_lefts w z (fby a b) (suc i) h = value_replace_lefts w z b i (omega arith)
