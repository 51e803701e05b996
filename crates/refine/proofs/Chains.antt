-- Chains of rows: a chain leads through earlier rows, and a row that is put into one leaves the others as they are.
use mathlib.Core.Path.{◌≡◌, refl, sym, ap, ap₂, subst}
use mathlib.Core.Logic.{◌⊎◌, inl, inr}
use mathlib.Core.List.{List}
use Rattle.std.proofs.Common.{None, Some}
use Prim.Native.Nat.{ℕ, suc, ◌+◌, ◌-◌, ◌<◌, ◌≤◌}
use native.Mathlib.Numerals.{add-one}
use native.Mathlib.Omega.{arith}
use native.Mathlib.Decide.{ℕ_discrete}
use lib.ListN.{length, get_or, set}
use lib.Seq.{get_or-set_same}
use Rattle.refine.specs.Signatures.{row_bucket}
use Rattle.refine.specs.Splitting.{OnChain, here, further, Falling, RowFound, Joins, BeginsClass}
use Rattle.basics.proofs.Lists.{set_other}

-- a row of a chain comes before its beginning
pub chain_below : (links : List ℕ) → Falling links → {j i : ℕ} → OnChain links j i → i < j
chain_below links f (here e) = omega arith
chain_below links f (further r e d) = omega (arith, chain_below links f d, f r)

pub chain_empty : (links : List ℕ) {j i : ℕ} → j ≡ 0 → OnChain links j i → ⊥
chain_empty links q (here e) = omega arith
chain_empty links q (further r e d) = omega arith

-- what is left of a chain after its first row
pub chain_rest : (links : List ℕ) (r : ℕ) {i : ℕ} → OnChain links (suc r) i → (i ≡ r) ⊎ OnChain links (get_or links r 0) i
chain_rest links r (here e) = inl (omega arith)
chain_rest links r {i} (further q e d) = let z : q ≡ r = omega arith in inr (rw z at d)

module _ (links : List ℕ) (f : Falling links) (n v : ℕ) where
  -- a link of a later row does not matter
  pub chain_set : {j i : ℕ} → j ≤ n → OnChain links j i → OnChain (set links n v) j i
  chain_set h (here e) = here e
  chain_set {j} {i} h (further r e d) = further {i = i} r e (rw (set_other links n v r (omega arith)) (chain_set (omega (arith, f r)) d))

  pub chain_unset : {j i : ℕ} → j ≤ n → OnChain (set links n v) j i → OnChain links j i
  chain_unset h (here e) = here e
  chain_unset {j} {i} h (further r e d) =
      let q : get_or (set links n v) r 0 ≡ get_or links r 0 = set_other links n v r (omega arith) in
      further r e (rw q at (chain_unset (omega (arith, f r, q)) d))

  pub falling-set : v ≤ n → n < length links → Falling (set links n v)
  falling-set h l r = go (ℕ_discrete r n)
    where
      go : Dec (r ≡ n) → get_or (set links n v) r 0 ≤ r
      go (yes q) = rw (q, get_or-set_same links n v 0 l) h
      go (no q) = rw (set_other links n v r q) (f r)

-- searching a chain for a row with P: the rows with P are on what is left of it
pub record Searching (links : List ℕ) (P : ℕ → Type 0) (head row j : ℕ) : Type 0 where
  pub most : j ≤ row
  pub part : (i : ℕ) → OnChain links j i → OnChain links head i
  pub left : (i : ℕ) → OnChain links head i → P i → OnChain links j i

module _ {links : List ℕ} {P : ℕ → Type 0} where
  pub searching_start : {head row : ℕ} → head ≤ row → Searching links P head row head
  searching_start h = record { most = h; part = λ i d. d; left = λ i d p. d }

  pub searching_next : Falling links → {head row : ℕ} (j r : ℕ) → j ≡ suc r → Searching links P head row j → ¬ P r → Searching links P head row (get_or links r 0)
  searching_next f {head} {row} j r e I n = record {
    most = omega (arith, f r, I.most);
    part = λ i d. I.part i (further r e d);
    left = λ i d p. go i p (chain_rest links r (rw e at (I.left i d p)));
  }
    where
      go : (i : ℕ) → P i → (i ≡ r) ⊎ OnChain links (get_or links r 0) i → OnChain links (get_or links r 0) i
      go i p (inl q) = absurd (n (rw q at p))
      go i p (inr d) = d

  pub searching_end : {head row j : ℕ} → j ≡ 0 → Searching links P head row j → (i : ℕ) → OnChain links head i → ¬ P i
  searching_end e I i d p = chain_empty links e (I.left i d p)

-- what a search of the chain of bucket b finds for row s, where b is the row's bucket
module _ (letters : ℕ) (entries class envelopes heads links : List ℕ) (s b : ℕ) (e : b ≡ row_bucket (length heads) letters entries class envelopes s) where
  pub joins_found : (r : ℕ) → RowFound letters entries class links (get_or heads b 0) s (Some r) → Joins letters entries class envelopes heads links heads links s (r + 1)
  joins_found r f = let q : r + 1 - 1 ≡ r = omega arith in record {
    some = omega arith;
    on_chain = rw q (subst (λ x. OnChain links (get_or heads x 0) r) e f.1);
    same = rw q f.2;
    heads_kept = refl;
    links_kept = refl;
  }

  pub begins_missed : RowFound letters entries class links (get_or heads b 0) s None
      → BeginsClass letters entries class envelopes heads links (set heads b (s + 1)) (set links s (get_or heads b 0)) s (s + 1)
  begins_missed f = record {
    own = add-one s;
    none = λ i d. f i (subst (λ x. OnChain links (get_or heads x 0) i) (sym e) d);
    heads_changed = ap₂ (set heads) e (add-one s);
    links_changed = ap (λ x. set links s (get_or heads x 0)) e;
  }
