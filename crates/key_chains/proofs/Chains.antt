-- Chains of rows: what a step along a chain keeps, what a new row makes of the chains, and chains that are all empty. From the laws of lists alone.
use mathlib.Core.Path.{◌≡◌, sym, ap, ◌∙◌, subst}
use mathlib.Core.Logic.{◌≢◌}
use mathlib.Core.List.{List}
use Prim.Native.Nat.{ℕ, ◌+◌, ◌-◌, ◌≤◌, ◌<◌}
use native.Mathlib.Nat.{not-suc-le-zero}
use native.Mathlib.Omega.{arith}
use native.Mathlib.Decide.{ℕ_discrete}
use lib.ListN.{length, get_or, set}
use lib.Seq.{get_or-set_same, get_or-set_other}
use Rattle.key_chains.specs.Chains.{Chained, ChainLeft}

-- ---- a search along a chain

module _ {Key : Type 0} (bucket : Key → ℕ) (row : ℕ → Key) (heads links : List ℕ) (n : ℕ) (c : Chained heads links (λ i. bucket (row i)) n) (key : Key) where
  pub chain_first : ChainLeft bucket row n key (get_or heads (bucket key) 0)
  chain_first =
      record {
        at_most = c.head_le _;
        in_bucket = c.head_in _;
        all = λ i h e. subst (λ x. i < get_or heads (bucket x) 0) e (c.head_all i h);
      }

  pub chain_next : {j : ℕ} → ChainLeft bucket row n key j → 0 < j → (row (j - 1) ≡ key → ⊥) → ChainLeft bucket row n key (get_or links (j - 1) 0)
  chain_next {j} l pos no_row =
      let lt : j - 1 < n = omega (arith, l.at_most) in
      record {
        at_most = omega (arith, c.link_le (j - 1) lt, l.at_most);
        in_bucket = λ h. c.link_in (j - 1) lt h ∙ l.in_bucket pos;
        all = λ i h q.
            let other : i ≢ j - 1 = λ z. no_row (ap row (sym z) ∙ q) in
            let below : i < j - 1 = omega (arith, l.all i h q) in
            c.link_all i (j - 1) below lt (ap bucket q ∙ sym (l.in_bucket pos));
      }

-- ---- a new row

-- the chains with row n in bucket k
pub chain_more : (heads links : List ℕ) (b b' : ℕ → ℕ) (n k : ℕ) → k < length heads → n < length links → b' n ≡ k → ((i : ℕ) → i < n → b' i ≡ b i)
    → Chained heads links b n → Chained (set heads k (n + 1)) (set links n (get_or heads k 0)) b' (n + 1)
chain_more heads links b b' n k hk hn new old c =
    record {
      head_le = λ i. on_head (λ i x. x ≤ n + 1) (omega arith) (λ i q. omega (arith, c.head_le i)) i;
      link_le = λ j h. on_link (λ j x. x ≤ j) (c.head_le k) (λ j q. c.link_le j q) j h;
      head_in = λ i. on_head (λ i x. 0 < x → b' (x - 1) ≡ i) (λ h. ap b' (omega arith) ∙ new) (λ i q h. old _ (omega (arith, c.head_le i)) ∙ c.head_in i h) i;
      link_in = λ j h. on_link (λ j x. 0 < x → b' (x - 1) ≡ b' j) (λ h. old _ (omega (arith, c.head_le k)) ∙ c.head_in k h ∙ sym new) (λ j q h. old _ (omega (arith, c.link_le j q)) ∙ c.link_in j q h ∙ sym (old j q)) j h;
      head_all = λ i h. heads-all i h (ℕ_discrete i n);
      link_all = λ i j h l e. on_link (λ j x. i < j → b' i ≡ b' j → i < x)
          (λ h e. subst (λ (z : ℕ). i < get_or heads z 0) (sym (old i h) ∙ e ∙ new) (c.head_all i h))
          (λ j q h e. c.link_all i j h q (sym (old i (omega arith)) ∙ e ∙ old j q)) j l h e;
    }
  where
    on_head : (P : ℕ → ℕ → Type 0) → P k (n + 1) → ((i : ℕ) → i ≢ k → P i (get_or heads i 0)) → (i : ℕ) → P i (get_or (set heads k (n + 1)) i 0)
    on_head P here there i =
        elim (ℕ_discrete i k) [
          | yes q ↦ rw (q, get_or-set_same heads k (n + 1) 0 hk) here
          | no q ↦ rw (get_or-set_other heads k i (n + 1) 0 q) (there i q)
        ]

    on_link : (P : ℕ → ℕ → Type 0) → P n (get_or heads k 0) → ((j : ℕ) → j < n → P j (get_or links j 0)) → (j : ℕ) → j < n + 1 → P j (get_or (set links n (get_or heads k 0)) j 0)
    on_link P here there j h =
        elim (ℕ_discrete j n) [
          | yes q ↦ rw (q, get_or-set_same links n (get_or heads k 0) 0 hn) here
          | no q ↦ rw (get_or-set_other links n j (get_or heads k 0) 0 q) (there j (omega arith))
        ]

    heads-all : (i : ℕ) → i < n + 1 → Dec (i ≡ n) → i < get_or (set heads k (n + 1)) (b' i) 0
    heads-all i h (yes q) = rw (q, new, get_or-set_same heads k (n + 1) 0 hk) (omega arith)
    heads-all i h (no q) = on_head (λ z x. b i ≡ z → i < x) (λ e. omega arith) (λ z r e. rw (← e) (c.head_all i (omega arith))) (b' i) (sym (old i (omega arith)))

-- ---- empty chains

pub chain_none : (heads links : List ℕ) (b : ℕ → ℕ) → ((k : ℕ) → get_or heads k 0 ≡ 0) → Chained heads links b 0
chain_none heads links b empty =
    record {
      head_le = λ k. omega (arith, empty k);
      link_le = λ j h. omega arith;
      head_in = λ k h. absurd (not-suc-le-zero (let z : get_or heads k 0 < 0 = omega (arith, empty k) in z));
      link_in = λ j h l. absurd (not-suc-le-zero h);
      head_all = λ i h. omega arith;
      link_all = λ i j h l e. omega arith;
    }
