-- Where the parts of stored nodes end: the laws of `left_end`, and of the answers that go from part to part (`answer_up_to`).
use Prim.Native.Nat.{ℕ, zero, suc, ◌-◌, ◌≤◌}
use native.Mathlib.Omega.{arith}
use native.Mathlib.Decide.{ℕ_discrete}
use mathlib.Core.Path.{◌≡◌, refl, sym, ◌∙◌, ap}
use mathlib.Core.Bool.{Bool, true, false, cond, ◌&&◌}
use mathlib.Core.List.{List, [], ◌∷◌}
use lib.Dec.{leb}
use lib.ListN.{get_or, get_or-eq_default}
use borrow.Author.Tests.{leb-true, le-leb, eq-eqb, ne_eqb}
use Rattle.nodes.specs.Evaluate.{Nodes, HoldsParts, integer_node, name_node, first_node, next_node, negation_node, conditional_node, fby_node, operator_node, kind_of, left_end, answer_up_to}

-- ---- the part to the left

module _ (starts : List ℕ) where
  pub left_end-at : (t : ℕ) → get_or starts t 0 ≤ t → left_end starts (suc t) ≡ get_or starts t 0
  left_end-at t h = simp (le-leb (get_or starts t 0) t h)

  pub left_end-≤ : (e : ℕ) → left_end starts e ≤ e - 1
  left_end-≤ zero = omega arith
  left_end-≤ (suc t) = bound (get_or starts t 0)
    where
      bound : (s : ℕ) → cond (leb s t) s 0 ≤ suc t - 1
      bound s = by (leb s t) refl
        where
          by : (b : Bool) → leb s t ≡ b → cond b s 0 ≤ suc t - 1
          by true e = omega (arith, leb-true s t e)
          by false e = omega arith

  pub left_within : (i e : ℕ) → e ≤ i → left_end starts e ≤ i
  left_within i e h = omega (arith, left_end-≤ e)

-- The part to the left of a part that ends up to e ends up to e.
pub left-before : (starts : List ℕ) {r : ℕ} (d e : ℕ) → r ≡ left_end starts d → d ≤ e → r ≤ e
left-before starts d e q h = omega (arith, left_end-≤ starts d)

-- A kind from 7 on is an operator's.
pub kind_of-operator : (k : ℕ) → 7 ≤ k → kind_of k ≡ operator_node
kind_of-operator k h = get_or-eq_default (integer_node ∷ name_node ∷ first_node ∷ next_node ∷ negation_node ∷ conditional_node ∷ fby_node ∷ []) operator_node {n = k} h

-- Where the parts up to e are stored, so are those up to an earlier place.
pub stores-part : {N : Nodes} {e : ℕ} (d : ℕ) → HoldsParts N e → d ≤ e → HoldsParts N d
stores-part d r h = record { kinds = omega (arith, r.kinds); values = omega (arith, r.values); starts = omega (arith, r.starts) }

-- ---- the parts of a conjunction

pub and_true_left : (a b : Bool) → (a && b) ≡ true → a ≡ true
and_true_left true b h = refl
and_true_left false b h = h

pub and_true_right : (a b : Bool) → (a && b) ≡ true → b ≡ true
and_true_right true b h = h
and_true_right false b h = let y : ◌≡◌ {A = ℕ} 0 1 = cc in absurd (omega arith)

-- ---- answers from part to part

module _ {X : Type 0} (none : X) (step : (ℕ → X) → ℕ → X) where
  answer_up_to-last : (n : ℕ) → answer_up_to none step (suc n) (suc n) ≡ step (answer_up_to none step n) n
  unfolding answer_up_to
  answer_up_to-last n = simp (eq-eqb (suc n) (suc n) refl)

  -- The answer for a part is the same among more nodes.
  pub answer_up_to-more : (n e : ℕ) → e ≤ n → answer_up_to none step n e ≡ answer_up_to none step e e
  unfolding answer_up_to
  answer_up_to-more zero e h = let z : 0 ≡ e = omega arith in ap (λ k. answer_up_to none step k e) z
  answer_up_to-more (suc n) e h = by (ℕ_discrete e (suc n)) (answer_up_to-more n e)
    where
      by : Dec (e ≡ suc n) → (e ≤ n → answer_up_to none step n e ≡ answer_up_to none step e e) → answer_up_to none step (suc n) e ≡ answer_up_to none step e e
      by (yes p) r = ap (λ k. answer_up_to none step k e) (sym p)
      by (no p) r = simp (ne_eqb e (suc n) p) (r (omega arith))

  -- Where `step` at n reads the answers for the parts that end up to n alone, it may read them all.
  pub answer-step : (n : ℕ) → ((f g : ℕ → X) → ((e : ℕ) → e ≤ n → f e ≡ g e) → step f n ≡ step g n)
      → answer_up_to none step (suc n) (suc n) ≡ step (λ e. answer_up_to none step e e) n
  answer-step n local = answer_up_to-last n ∙ local _ _ (λ e h. answer_up_to-more n e h)
