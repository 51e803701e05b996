-- Keys in rows, found again by chains of rows (key_chains, Chains).
use Rattle.std.specs.Prelude.{ℕ, ◌+◌, ◌*◌, ◌%◌, ◌≤◌, ◌<◌, ◌≡◌, Option, Some, None, List, [], ◌∷◌, length, take, drop}
use Rattle.key_chains.specs.Chains.{Chained}
use Rattle.sizes.specs.Room.{key_size}

abbrev pub row_at : List ℕ → ℕ → List ℕ
row_at keys i = take key_size (drop (i * key_size) keys)

-- Which bucket a key belongs to. No law depends on how the numbers are mixed.
abbrev pub mix_of : ℕ → ℕ → ℕ
mix_of h x = h % 4294967296 * 2654435761 + x

unfoldable pub hash_from : ℕ → List ℕ → ℕ
hash_from h [] = h
hash_from h (x ∷ xs) = hash_from (mix_of h x) xs

unfoldable pub bucket_of : ℕ → List ℕ → ℕ
bucket_of m key = hash_from 0 key % m

-- the tables hold n keys, in chains
pub record KeyTables (heads links keys : List ℕ) (n : ℕ) : Type 0 where
  pub buckets : 0 < length heads
  pub links_room : n ≤ length links
  pub keys_room : n * key_size ≤ length keys
  pub chained : Chained heads links (λ i. bucket_of (length heads) (row_at keys i)) n

-- a row that holds the key, or none where no row does
abbrev pub Finds : (keys : List ℕ) (n : ℕ) (key : List ℕ) → Option ℕ → Type 0
Finds keys n key (Some i) = (i < n) × (row_at keys i ≡ key)
Finds keys n key None = (i : ℕ) → i < n → row_at keys i ≡ key → ⊥

-- row n holds the key, and the rows before it hold what they held
pub record Inserts (keys keys' : List ℕ) (n : ℕ) (key : List ℕ) : Type 0 where
  pub new : row_at keys' n ≡ key
  pub old : (i : ℕ) → i < n → row_at keys' i ≡ row_at keys i
