-- What `explore_stored` makes of its arguments: the tables at the call and afterwards, and the answer.
use Rattle.std.specs.Prelude.{ℕ, ◌≡◌, Bool, true, false, Result, Ok, Err, List, length, replicate}
use Rattle.extend.specs.Step.{Store, IsReady}
use Rattle.explore.specs.declared.Unexplored.{Unexplored}
use Rattle.explore.specs.declared.Unexplored.TheVariants.{NotReady, Full}
use Rattle.explore.specs.Search.{every_mark, Searched, KeptBehind, IsLent}

-- the lent tables: the rows' keys, the chains by which keys are found, the entries and the flags
pub record ExploreTables : Type 0 where
  pub keys : List ℕ
  pub heads : List ℕ
  pub links : List ℕ
  pub entries : List ℕ
  pub flags : List ℕ

abbrev pub explore_tables : (keys heads links entries flags : List ℕ) → ExploreTables
explore_tables keys heads links entries flags = record { keys = keys; heads = heads; links = links; entries = entries; flags = flags }

-- the stored sheet keeps the bounds, and the tables have room
abbrev pub IsExplorable : Store → (letters limit : ℕ) → ExploreTables → Type 0
IsExplorable K letters limit t = IsReady K × IsLent K letters limit t.keys t.heads t.links t.entries t.flags

module _ (K : Store) (letters limit : ℕ) (before after : ExploreTables) where
  -- What the exploration leaves before anything is cleared; the tables are as they were if the sheet cannot be explored in them.
  abbrev pub Explores : Result ℕ Unexplored → Type 0
  Explores (Ok count) =
      IsExplorable K letters limit before × Searched K letters limit (every_mark 0 K.relations) after.keys after.entries after.flags false count
      × KeptBehind letters count before.entries before.flags after.entries after.flags
  Explores (Err Full) = IsExplorable K letters limit before × Searched K letters limit (every_mark 0 K.relations) after.keys after.entries after.flags true limit
  Explores (Err NotReady) = ¬ IsExplorable K letters limit before × (after ≡ before)

  -- The rows have the entries and flags of all keys that can be reached; what stands behind the rows is as it was.
  pub record FindsRows (count : ℕ) : Type 0 where
    pub keys : List ℕ
    pub searched : Searched K letters limit (every_mark 0 K.relations) keys after.entries after.flags false count
    pub behind : KeptBehind letters count before.entries before.flags after.entries after.flags

-- More keys than the limit can be reached: a search that found as many as the limit met another.
pub record FindsMore (K : Store) (letters limit : ℕ) : Type 0 where
  pub keys : List ℕ
  pub entries : List ℕ
  pub flags : List ℕ
  pub searched : Searched K letters limit (every_mark 0 K.relations) keys entries flags true limit

-- "work tables are zero after every call"
pub record WorkZero (before after : ExploreTables) : Type 0 where
  pub keys_zero : after.keys ≡ replicate (length before.keys) 0
  pub heads_zero : after.heads ≡ replicate (length before.heads) 0
  pub links_zero : after.links ≡ replicate (length before.links) 0

-- the entries and flags are zero if no rows were found, and else as they were
abbrev pub Discards : Bool → (entries flags entries' flags' : List ℕ) → Type 0
Discards true entries flags entries' flags' = (entries' ≡ replicate (length entries) 0) × (flags' ≡ replicate (length flags) 0)
Discards false entries flags entries' flags' = (entries' ≡ entries) × (flags' ≡ flags)

-- no graph is left
pub record GraphZero (before after : ExploreTables) : Type 0 where
  pub entries_zero : after.entries ≡ replicate (length before.entries) 0
  pub flags_zero : after.flags ≡ replicate (length before.flags) 0

-- What is found where the sheet can be explored in the tables: rows, whose entries and flags stand in the tables, or more of them than the limit. If no rows
-- are found, no graph is left.
abbrev pub FindsOrNone : (K : Store) (letters limit : ℕ) (before after : ExploreTables) → Result ℕ Unexplored → Type 0
FindsOrNone K letters limit before after (Ok count) = IsExplorable K letters limit before × FindsRows K letters limit before after count
FindsOrNone K letters limit before after (Err Full) = IsExplorable K letters limit before × FindsMore K letters limit × GraphZero before after
FindsOrNone K letters limit before after (Err NotReady) = ¬ IsExplorable K letters limit before × GraphZero before after

-- The keys and the chains are zero afterwards. If the rows are found, their entries and flags stand in the tables; if not, every table is zero. So nothing
-- is left open (`Rattle.explore.proofs.Unique`).
pub record ExploresStored (K : Store) (letters limit : ℕ) (before after : ExploreTables) (found : Result ℕ Unexplored) : Type 0 where
  pub work_zero : WorkZero before after
  pub outcome : FindsOrNone K letters limit before after found
