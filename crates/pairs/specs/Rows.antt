-- The keys of pairs of states in rows that are found again by chains, and where the search of all pairs stands.
use Rattle.std.specs.Prelude.{ℕ, ◌+◌, ◌*◌, ◌/◌, ◌%◌, ◌≤◌, ◌<◌, ◌≡◌, true, false, cond, ◌&&◌, ◌⊎◌, Option, Some, None, List, [], eqb, ltb, length, set}
use Rattle.basics.specs.Lists.{at}
use Rattle.key_chains.specs.Chains.{Chained}
use Rattle.automaton.specs.Table.{no_state}
use Rattle.automaton.specs.Stored.{entry_at, final_at}
use Rattle.automaton.specs.WellFormed.{most_rows}
use Rattle.automaton.specs.Reachable.{System, byte_of, SearchTurn, SearchedKeys}
use Rattle.automaton.specs.Join.{TwoTables}
use Rattle.automaton.specs.PairSearch.{pair_system}

-- The key of a pair of entries, or none where one of them names no state: "over 4,096 rows".
abbrev pub key_of_entries : ℕ → ℕ → Option ℕ
key_of_entries p q = cond (ltb p most_rows && ltb q most_rows) (Some (p * most_rows + q)) None

-- The bucket of a key, of which there are m.
unfoldable pub pair_bucket : ℕ → ℕ → ℕ
pair_bucket m key = let h = key * 2654435761 % 4294967296 in (h / 32768 + h) % m

-- the tables hold n keys, in chains
pub record ChainedKeys (heads links keys : List ℕ) (n : ℕ) : Type 0 where
  pub buckets : 0 < length heads
  pub links_room : n ≤ length links
  pub keys_room : n ≤ length keys
  pub chained : Chained heads links (λ i. pair_bucket (length heads) (at keys i)) n

-- a row that holds the key, or none where no row does
abbrev pub FindsKey : (keys : List ℕ) (n key : ℕ) → Option ℕ → Type 0
FindsKey keys n key (Some i) = (i < n) × (at keys i ≡ key)
FindsKey keys n key None = (i : ℕ) → i < n → at keys i ≡ key → ⊥

-- The row of a key among n rows. A new key becomes row n if n is below the limit; otherwise the tables stay.
pub record KeySettled (limit n key : ℕ) (keys heads' links' keys' : List ℕ) (r : ℕ) : Type 0 where
  pub within : r ≤ n
  pub found : r < n → at keys r ≡ key
  pub absent : r ≡ n → (i : ℕ) → i < n → at keys i ≡ key → ⊥
  pub added : r ≡ n → n < limit → ChainedKeys heads' links' keys' (n + 1) × (keys' ≡ set keys n key)
  pub kept : ((r < n) ⊎ (limit ≤ n)) → ChainedKeys heads' links' keys' n × (keys' ≡ keys)

-- The entry for a key: none for no pair, else the key's row.
pub data KeyFollowed (limit n : ℕ) (key : Option ℕ) (keys heads' links' keys' : List ℕ) (r : ℕ) : Type 0 where
  no_pair : r ≡ no_state → key ≡ None → ChainedKeys heads' links' keys' n → keys' ≡ keys → KeyFollowed limit n key keys heads' links' keys' r
  pair : {k : ℕ} → key ≡ Some k → KeySettled limit n k keys heads' links' keys' r → KeyFollowed limit n key keys heads' links' keys' r

-- the two tables that these entries and final bytes are, with the numbers of cuts
abbrev pub tables_over : (left_entries left_finals right_entries right_finals left_cuts right_cuts : List ℕ) (left_letters right_letters letters : ℕ) → TwoTables
tables_over left_entries left_finals right_entries right_finals left_cuts right_cuts left_letters right_letters letters =
    record {
      letters = letters;
      left = at left_cuts;
      right = at right_cuts;
      left_entry = entry_at left_letters left_entries;
      right_entry = entry_at right_letters right_entries;
      left_final = final_at left_finals;
      right_final = final_at right_finals;
    }

-- More pairs than the limit are reached: a search that found as many as the limit met another.
pub record MorePairs (T : TwoTables) (limit : ℕ) : Type 0 where
  pub key : ℕ → ℕ
  pub entry : ℕ → ℕ → ℕ
  pub byte : ℕ → ℕ
  pub count : ℕ
  pub searched : SearchedKeys (pair_system T most_rows) limit key entry byte true count

-- the tables without their final bytes, which play no part in what is reached
abbrev pub entries_over : (left_entries right_entries left_cuts right_cuts : List ℕ) (left_letters right_letters letters : ℕ) → TwoTables
entries_over left_entries right_entries left_cuts right_cuts left_letters right_letters letters = tables_over left_entries [] right_entries [] left_cuts right_cuts left_letters right_letters letters

-- the search of the pairs
abbrev pub search_over : (left_entries right_entries left_cuts right_cuts : List ℕ) (left_letters right_letters letters : ℕ) → System
search_over left_entries right_entries left_cuts right_cuts left_letters right_letters letters = pair_system (entries_over left_entries right_entries left_cuts right_cuts left_letters right_letters letters) most_rows

-- a key's byte, whether or not it is stored yet
abbrev pub bytes_of : (S : System) → (ℕ → S.Key) → ℕ → ℕ
bytes_of S key i = byte_of S (key i)

module _ (left_entries right_entries left_cuts right_cuts : List ℕ) (left_letters right_letters letters limit : ℕ) where
  abbrev pub searched : System
  searched = search_over left_entries right_entries left_cuts right_cuts left_letters right_letters letters

  -- before row s at letter a
  pub record PairTurn (keys entries heads links : List ℕ) (n s a : ℕ) : Type 0 where
    pub tables : ChainedKeys heads links keys n
    pub turn : SearchTurn searched limit (at keys) (entry_at letters entries) (bytes_of searched (at keys)) n s a

  -- a row is done, or there are more pairs than the limit
  pub data RowSearched (s : ℕ) (keys entries heads links : List ℕ) : Option ℕ → Type 0 where
    row_done : {r : ℕ} → r ≤ limit → PairTurn keys entries heads links r (s + 1) 0 → RowSearched s keys entries heads links (Some r)
    row_full : MorePairs (entries_over left_entries right_entries left_cuts right_cuts left_letters right_letters letters) limit → RowSearched s keys entries heads links None

  -- all rows are done, or there are more pairs than the limit
  pub data RowsSearched (keys entries : List ℕ) : Option ℕ → Type 0 where
    rows_done : {r : ℕ} → r ≤ limit → SearchedKeys searched limit (at keys) (entry_at letters entries) (bytes_of searched (at keys)) false r → RowsSearched keys entries (Some r)
    rows_full : MorePairs (entries_over left_entries right_entries left_cuts right_cuts left_letters right_letters letters) limit → RowsSearched keys entries None

-- The letters keep the bound, each joined letter has its cuts, and the tables have room for as many rows as the limit.
pub record HasPairRoom (left_letters right_letters letters limit left_cuts right_cuts entries flags keys heads links : ℕ) : Type 0 where
  pub few_left : left_letters ≤ 1024
  pub few_right : right_letters ≤ 1024
  pub left_cut : letters ≤ left_cuts
  pub right_cut : letters ≤ right_cuts
  pub some_row : 0 < limit
  pub few_rows : limit ≤ most_rows
  pub flags_room : limit ≤ flags
  pub keys_room : limit ≤ keys
  pub heads_room : limit ≤ heads
  pub links_room : limit ≤ links
  pub entries_room : limit * letters ≤ entries

-- the first n flags say whether both states of the row's pair are final
pub record HasFlags (left_finals right_finals keys : List ℕ) (n : ℕ) (flags : List ℕ) : Type 0 where
  pub each : (i : ℕ) → i < n → at flags i ≡ cond (eqb (at left_finals (at keys i / most_rows)) 1 && eqb (at right_finals (at keys i % most_rows)) 1) 1 0
