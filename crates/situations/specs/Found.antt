-- What exploring a stored sheet gives, and the room that it needs.
use Rattle.std.specs.Prelude.{ℕ, ◌+◌, ◌*◌, ◌≤◌, ◌<◌, min, ◌≡◌, Result, cond, ◌⊎◌, List, leb, ℤ, pos, length, take, replicate}
use Rattle.meaning.specs.Expression.{Sheet}
use Rattle.meaning.specs.Letter.{letter_count}
use Rattle.meaning.specs.Situation.{SituationCount, MoreSituations}
use Rattle.sheet.specs.Accepted.{Accepted}
use Rattle.sheet.specs.Refusal.{stream_bound, constraint_bound, first_bound, window_bound}
use Rattle.letters.specs.Described.{described, with_letters}
use Rattle.reader.specs.declared.StoredSheet.{StoredSheet}
use Rattle.reader.specs.Stored.{stored_sheet}
use Rattle.extend.specs.Step.{Store, store_of}
use Rattle.explore.specs.Rows.{ExploredRows}
use Rattle.explore.specs.Search.{KeptBehind}
use Rattle.std.specs.Result.{result_unwrap_or}
use Rattle.explore.specs.declared.Unexplored.{Unexplored}
use Rattle.explore.specs.Exploration.{ExploreTables, WorkZero, GraphZero, ExploresStored}
use Rattle.outcome.specs.Compile.{situation_bound}

-- Exploring gives the number of situations and their rows, or 0 where there are more than the limit.
abbrev pub SituationsFound : (s : Sheet) (limit n : ℕ) (entries flags : List ℕ) → Type 0
SituationsFound s limit n entries flags = ((n ≡ 0) × MoreSituations s limit) ⊎ ((n ≤ limit) × SituationCount s n × ExploredRows s n entries flags)

-- The tables have room for as many rows as the limit, with so many letters.
pub record RoomFor (limit letters : ℕ) (t : ExploreTables) : Type 0 where
  pub few : limit ≤ situation_bound
  pub keys_fit : limit * 16 ≤ length t.keys
  pub heads_fit : limit ≤ length t.heads
  pub links_fit : limit ≤ length t.links
  pub entries_fit : limit * letters ≤ length t.entries
  pub finals_fit : limit ≤ length t.flags

-- Where the stored sheet is that of an accepted one, and the tables have room, its situations are found.
abbrev pub FindsSituations : (stored : StoredSheet) (limit : ℕ) (before after : ExploreTables) (n : ℕ) → Type 0
FindsSituations stored limit before after n =
    (s : Sheet) → Accepted s → stored ≡ stored_sheet s → RoomFor limit (letter_count s.streams) before → SituationsFound s limit n after.entries after.flags

-- What is left in the lent tables after exploring any stored sheet with so many letters: "work tables are zero after every call"; where no rows
-- are found, every table is zero, and where n are, what stands behind them is as it was.
pub record Leaves (letters limit : ℕ) (before after : ExploreTables) (n : ℕ) : Type 0 where
  pub within : n ≤ limit
  pub work_zero : WorkZero before after
  pub graph_zero : n ≡ 0 → GraphZero before after
  pub behind : 0 < n → KeptBehind letters n before.entries before.flags after.entries after.flags

-- A stored sheet as it is explored: its lists cut to their counts, what is more than the bounds allow cut off, and the values of its letters written over a
-- list.
unfoldable pub store_in : StoredSheet → List ℤ → Store
store_in x list =
    let constraints = min x.constraints constraint_bound in
    let streams = min x.streams stream_bound in
    let ahead = min x.ahead window_bound in
    store_of x.kinds x.values x.starts (take constraints x.relations) (take constraints x.lefts) (take constraints x.rights) (take (min x.firsts first_bound) x.first_nodes)
    (with_letters (described (take streams x.lows) (take streams x.highs)) list) streams ahead (ahead + min x.back window_bound)

-- What exploring any stored sheet gives: how many rows are found, or 0 where there are more than the limit. The values of its letters are written over a
-- list. So nothing is left open (`Rattle.situations.proofs.Found.explored_once`).
pub record ExploredSheet (x : StoredSheet) (list : List ℤ) (limit : ℕ) (before after : ExploreTables) (n : ℕ) : Type 0 where
  pub found : Result ℕ Unexplored
  pub explored : ExploresStored (store_in x list) x.letters limit before after found
  pub rows : n ≡ result_unwrap_or found 0

-- The list for the values of so many letters, all 0.
abbrev pub values_list : ℕ → List ℤ
values_list letters = replicate (cond (leb letters 64) 520 8200) (pos 0)
