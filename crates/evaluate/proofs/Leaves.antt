-- What the functions without recursion answer: a stored number is looked up, a value is negated, and a leaf is read.
use Prim.Native.Nat.{ℕ, ◌+◌, ◌-◌, ◌*◌, ◌/◌, ◌≤◌, ◌<◌}
use native.Mathlib.Omega.{arith}
use native.Mathlib.Nat.{le_trans, suc-mul, mul-le-mul_right, div-mul-le_self, div-zero}
use mathlib.Core.Path.{◌≡◌, sym, ◌∙◌, ap}
use mathlib.Core.Bool.{Bool, true, false, not}
use mathlib.Core.List.{List}
use lib.Dec.{leb}
use lib.IntN.{ℤ, pos, nat_abs}
use lib.ListN.{get_or}
use lib.Signed.{lt_z}
use borrow.Author.Tests.{leb-false, lt-ltb, le-ltb, eq-eqb, ne_eqb}
use mir.Syntax.{w64}
use mir.Val.{SFits}
use mir.ValLaws.{to_z-of_z}
use Rattle.meaning.specs.Value.{nonzero, bit}
use Rattle.nodes.specs.Bounded.{in_bound, no_value, bounded}
use Rattle.nodes.specs.Evaluate.{lookup, stream_evaluated, negated_result}
use Rattle.arithmetic.specs.Coded.{coded}
use Rattle.arithmetic.proofs.Machine.{held, number-natural, number-negative}
use Rattle.evaluate.specs.Leaf.{is_leaf, leaf_value}

-- ---- a stored number

module _ (z : ℤ) (f : SFits w64 z) where
  module _ (n : ℕ) (get : ℕ → ℤ) where
    pub lookup-negative : lt_z (held z) (pos 0) ≡ true → no_value ≡ lookup n get z
    lookup-negative e = let k = number-negative z f e in sym (ap (lookup n get) k.1)

    module _ (e : lt_z (held z) (pos 0) ≡ false) where
      pub lookup-there : nat_abs (held z) < n → SFits w64 (get (nat_abs (held z))) → bounded (held (get (nat_abs (held z)))) ≡ lookup n get z
      lookup-there h g =
          ap bounded (to_z-of_z w64 (get (nat_abs (held z))) g) ∙ sym (ap (lookup n get) (number-natural z f e) ∙ simp (lt-ltb (nat_abs (held z)) n h))

      pub lookup-beyond : n ≤ nat_abs (held z) → no_value ≡ lookup n get z
      lookup-beyond h = sym (ap (lookup n get) (number-natural z f e) ∙ simp (le-ltb (nat_abs (held z)) n h))

-- ---- the index of a stream's value

-- A place among the whole letters of a window, and a stream: the index is in the window.
pub index_within : (length streams place k : ℕ) → place < length / streams → k < streams → place * streams + k < length
index_within length streams place k p h =
    let m = le_trans (mul-le-mul_right streams p) (div-mul-le_self length streams) in
    omega (arith, suc-mul place streams)

pub zero-places : (length streams : ℕ) → streams ≡ 0 → 0 ≡ length / streams
zero-places length streams e = sym (ap (λ s. length / s) e ∙ div-zero length)

-- ---- negation

module _ (z : ℤ) (f : SFits w64 z) where
  pub negated-there : in_bound z ≡ true → {t : Bool} → t ≡ nonzero (held z) → bit (not t) ≡ coded (negated_result (bounded z))
  negated-there h e = ap (λ t. bit (not t)) (e ∙ ap nonzero (to_z-of_z w64 z f)) ∙ sym (simp h)

  pub negated-missing : in_bound z ≡ false → coded no_value ≡ coded (negated_result (bounded z))
  negated-missing h = sym (simp h)

-- ---- leaves

module _ (kinds : List ℕ) (e : ℕ) where
  pub leaf_empty : e ≡ 0 → true ≡ is_leaf kinds e
  leaf_empty z = sym (simp (eq-eqb e 0 z))

  pub leaf_last : (e ≡ 0 → ⊥) → leb (get_or kinds (e - 1) 0) 1 ≡ is_leaf kinds e
  leaf_last h = sym (simp (ne_eqb e 0 h))

  -- A part that is no leaf has a last node, whose kind is behind the leaves'.
  pub not_leaf : is_leaf kinds e ≡ false → (e ≡ 0 → ⊥) × (2 ≤ get_or kinds (e - 1) 0)
  not_leaf f =
      let some : e ≡ 0 → ⊥ = λ z. let y : ◌≡◌ {A = ℕ} 0 1 = cc (leaf_empty z) in omega arith in
      (some, leb-false (get_or kinds (e - 1) 0) 1 (leaf_last some ∙ f))

  module _ (values window : List ℤ) (streams p : ℕ) where
    pub leaf_none : e ≡ 0 → no_value ≡ leaf_value kinds values window streams e p
    leaf_none z = sym (simp (eq-eqb e 0 z))

    module _ (h : e ≡ 0 → ⊥) (f : SFits w64 (get_or values (e - 1) (pos 0))) where
      pub leaf_integer : get_or kinds (e - 1) 0 ≡ 0 → bounded (held (get_or values (e - 1) (pos 0))) ≡ leaf_value kinds values window streams e p
      leaf_integer q = ap bounded (to_z-of_z w64 _ f) ∙ sym (simp (ne_eqb e 0 h, eq-eqb (get_or kinds (e - 1) 0) 0 q))

      pub leaf_name : (get_or kinds (e - 1) 0 ≡ 0 → ⊥) → stream_evaluated window streams p (held (get_or values (e - 1) (pos 0))) ≡ leaf_value kinds values window streams e p
      leaf_name q = ap (stream_evaluated window streams p) (to_z-of_z w64 _ f) ∙ sym (simp (ne_eqb e 0 h, ne_eqb (get_or kinds (e - 1) 0) 0 q))
