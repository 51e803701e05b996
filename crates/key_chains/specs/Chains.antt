-- Rows in chains, one for each bucket: `heads` has one more than the last row of each bucket, `links` one more than the row before a row in its bucket, and
-- 0 stands for none. Keys are things of any type.
use Rattle.std.specs.Prelude.{◌≡◌, List, ℕ, ◌-◌, ◌≤◌, ◌<◌, get_or}

-- the chains of n rows, where b gives each row's bucket
pub record Chained (heads links : List ℕ) (b : ℕ → ℕ) (n : ℕ) : Type 0 where
  pub head_le : (k : ℕ) → get_or heads k 0 ≤ n
  pub link_le : (j : ℕ) → j < n → get_or links j 0 ≤ j
  pub head_in : (k : ℕ) → 0 < get_or heads k 0 → b (get_or heads k 0 - 1) ≡ k
  pub link_in : (j : ℕ) → j < n → 0 < get_or links j 0 → b (get_or links j 0 - 1) ≡ b j
  pub head_all : (i : ℕ) → i < n → i < get_or heads (b i) 0
  pub link_all : (i j : ℕ) → i < j → j < n → b i ≡ b j → i < get_or links j 0

-- What is left of a search along a chain for the row that holds a key: every row that holds it is below j, and the row before j is in the key's bucket.
pub record ChainLeft {Key : Type 0} (bucket : Key → ℕ) (row : ℕ → Key) (n : ℕ) (key : Key) (j : ℕ) : Type 0 where
  pub at_most : j ≤ n
  pub in_bucket : 0 < j → bucket (row (j - 1)) ≡ bucket key
  pub all : (i : ℕ) → i < n → row i ≡ key → i < j
