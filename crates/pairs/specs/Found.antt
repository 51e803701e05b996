-- What the search of the pairs gives and leaves, for all tables, cuts, sizes and lent tables.
use Rattle.std.specs.Prelude.{ℕ, ◌*◌, ◌≤◌, ◌≡◌, false, List, length, replicate}
use Rattle.basics.specs.Lists.{at}
use Rattle.automaton.specs.Stored.{entry_at, final_at}
use Rattle.automaton.specs.WellFormed.{most_rows}
use Rattle.automaton.specs.Reachable.{SearchedKeys}
use Rattle.automaton.specs.Join.{TwoTables}
use Rattle.automaton.specs.PairSearch.{pair_system}
use Rattle.pairs.specs.Rows.{MorePairs, HasPairRoom}

-- the lent tables: the entries and flags of the rows, their keys, and the chains by which keys are found
pub record PairTables : Type 0 where
  pub entries : List ℕ
  pub flags : List ℕ
  pub keys : List ℕ
  pub heads : List ℕ
  pub links : List ℕ

abbrev pub pair_tables : (entries flags keys heads links : List ℕ) → PairTables
pair_tables entries flags keys heads links = record { entries = entries; flags = flags; keys = keys; heads = heads; links = links }

-- "work tables are zero after every call"
pub record PairWorkZero (before after : PairTables) : Type 0 where
  pub keys_zero : after.keys ≡ replicate (length before.keys) 0
  pub heads_zero : after.heads ≡ replicate (length before.heads) 0
  pub links_zero : after.links ≡ replicate (length before.links) 0

-- The rows stand for all pairs that are reached; behind the rows everything is 0.
pub record HoldsPairs (T : TwoTables) (limit : ℕ) (before after : PairTables) (n : ℕ) : Type 0 where
  pub key : ℕ → ℕ
  pub rows : SearchedKeys (pair_system T most_rows) limit key (entry_at T.letters after.entries) (final_at after.flags) false n
  pub entries_long : length after.entries ≡ length before.entries
  pub flags_long : length after.flags ≡ length before.flags
  pub entries_beyond : (i : ℕ) → n * T.letters ≤ i → at after.entries i ≡ 0
  pub flags_beyond : (i : ℕ) → n ≤ i → at after.flags i ≡ 0

abbrev pub IsPairRoom : (left_letters right_letters letters limit left_cuts right_cuts : ℕ) → PairTables → Type 0
IsPairRoom left_letters right_letters letters limit left_cuts right_cuts t = HasPairRoom left_letters right_letters letters limit left_cuts right_cuts (length t.entries) (length t.flags) (length t.keys) (length t.heads) (length t.links)

-- The rows before what stands behind them is cleared.
pub data RowsFilled (left_cuts right_cuts : ℕ) (T : TwoTables) (left_letters right_letters limit : ℕ) (before : PairTables) (entries flags : List ℕ) : ℕ → Type 0 where
  filled : {n : ℕ} (key : ℕ → ℕ) → n * T.letters ≤ length before.entries → SearchedKeys (pair_system T most_rows) limit key (entry_at T.letters entries) (final_at flags) false n
      → RowsFilled left_cuts right_cuts T left_letters right_letters limit before entries flags n
  unfilled : (IsPairRoom left_letters right_letters T.letters limit left_cuts right_cuts before → MorePairs T limit)
      → RowsFilled left_cuts right_cuts T left_letters right_letters limit before entries flags 0

pub data PairsOutcome (left_cuts right_cuts : ℕ) (T : TwoTables) (left_letters right_letters limit : ℕ) (before after : PairTables) : ℕ → Type 0 where
  -- the rows of all pairs
  found : {n : ℕ} → HoldsPairs T limit before after n → PairWorkZero before after → PairsOutcome left_cuts right_cuts T left_letters right_letters limit before after n
  -- there are more pairs than the limit, or the sizes are not right
  none : (IsPairRoom left_letters right_letters T.letters limit left_cuts right_cuts before → MorePairs T limit) → after.entries ≡ replicate (length before.entries) 0
      → after.flags ≡ replicate (length before.flags) 0 → PairWorkZero before after → PairsOutcome left_cuts right_cuts T left_letters right_letters limit before after 0
