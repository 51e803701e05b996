-- The keys that are reached from the key of the empty record, letter by letter, in rows; and the table of their successors. "First met" is
-- document 01's term.
use Rattle.std.specs.Prelude.{ℕ, ◌+◌, ◌*◌, ◌≤◌, ◌<◌, ◌≡◌, Bool, true, false, cond, ◌⊎◌, List, [], ◌∷◌, eqb, ℤ, get_or, length, replicate, set, is_some, Option, Some, None}
use Rattle.sheet.specs.Refusal.{stream_bound}
use Rattle.automaton.specs.Table.{no_state}
use Rattle.automaton.specs.Stored.{entry_at, final_at}
use Rattle.automaton.specs.Reachable
use Rattle.automaton.specs.Reachable.{System}
use Rattle.sizes.specs.Room.{key_size}
use Rattle.explore.specs.Chains.{row_at, KeyTables, Inserts}
use Rattle.prepare.specs.Key.{digit, marks_in}
use Rattle.extend.specs.Step.{Store, judged_after, key_after, IsReady, HasValues, IsKey, PreparedFor}

abbrev pub start_key : List ℕ
start_key = replicate key_size 0

-- The marks of all untils, when each is done: a digit 1 for each constraint whose relation is `until`.
unfoldable pub every_mark : ℕ → List ℕ → ℕ
every_mark m [] = m
every_mark m (r ∷ l) = every_mark (cond (eqb r 7) (m * 2 + 1) m) l

-- 1 if every until is done, else 0
abbrev pub flag_of : ℕ → List ℕ → ℕ
flag_of every key = digit (eqb (marks_in key) every)

-- The row of a key among n rows. A new key becomes row n, with its flag, if n is below the limit; otherwise the tables stay.
pub record Settled (limit every n : ℕ) (key keys flags heads' links' keys' flags' : List ℕ) (r : ℕ) : Type 0 where
  pub within : r ≤ n
  pub found : r < n → row_at keys r ≡ key
  pub absent : r ≡ n → (i : ℕ) → i < n → row_at keys i ≡ key → ⊥
  pub added : r ≡ n → n < limit → KeyTables heads' links' keys' (n + 1) × Inserts keys keys' n key × (flags' ≡ set flags n (flag_of every key))
  pub kept : ((r < n) ⊎ (limit ≤ n)) → KeyTables heads' links' keys' n × (keys' ≡ keys) × (flags' ≡ flags)

module _ (K : Store) where
  -- One letter is followed from row s: the entry is none if the longer record is unlawful, else the row of its key.
  abbrev pub LetterFollowed : (limit every n s a : ℕ) (keys flags heads' links' keys' flags' : List ℕ) (r : ℕ) → Type 0
  LetterFollowed limit every n s a keys flags heads' links' keys' flags' r =
      ((r ≡ no_state) × (is_some (judged_after K (row_at keys s) a) ≡ false) × KeyTables heads' links' keys' n × (keys' ≡ keys) × (flags' ≡ flags))
      ⊎ ((is_some (judged_after K (row_at keys s) a) ≡ true) × Settled limit every n (key_after K (row_at keys s) a) keys flags heads' links' keys' flags' r)

  -- What following a letter from row s depends on: the row holds a key, the letter has values, the tables have room for as many rows as the limit, and what
  -- the letters after the row's key need is prepared.
  pub record CanFollow (limit n s a : ℕ) (keys heads links flags : List ℕ) (prepared : List ℤ) : Type 0 where
    pub ready : IsReady K
    pub key : IsKey K (row_at keys s)
    pub values : HasValues K a
    pub is_row : s < n
    pub tables : KeyTables heads links keys n
    pub few_rows : limit ≤ 4096
    pub links_room : limit ≤ length links
    pub keys_room : limit * key_size ≤ length keys
    pub flags_room : limit ≤ length flags
    pub is_prepared : PreparedFor K (row_at keys s) prepared

  -- The letter is followed, and what is prepared for the row stays so.
  pub record FollowsLetter (limit every n s a : ℕ) (keys flags heads' links' keys' flags' : List ℕ) (prepared' : List ℤ) (r : ℕ) : Type 0 where
    pub followed : LetterFollowed limit every n s a keys flags heads' links' keys' flags' r
    pub is_prepared : PreparedFor K (row_at keys' s) prepared'

-- The search of the keys of a stored sheet: from that of the empty record, by each letter after which the record is still lawful.
abbrev pub key_system : Store → (letters every : ℕ) → System
key_system K letters every =
    record { Key = List ℕ; letters = letters; start = start_key; ok = λ key a. is_some (judged_after K key a); after = key_after K; flag = λ key. eqb (marks_in key) every }

-- the first n rows hold different keys, all reached, the first that of the empty record; and each row's flag
pub record Known (K : Store) (letters every : ℕ) (keys flags : List ℕ) (n : ℕ) : Type 0 where
  pub known : Reachable.KnownKeys (key_system K letters every) (row_at keys) (final_at flags) n

-- what the search leaves in the tables
pub record Searched (K : Store) (letters limit every : ℕ) (keys entries flags : List ℕ) (full : Bool) (n : ℕ) : Type 0 where
  pub searched : Reachable.SearchedKeys (key_system K letters every) limit (row_at keys) (entry_at letters entries) (final_at flags) full n

module _ (K : Store) (letters limit every : ℕ) where
  -- Before row s at letter a, at the place `at` of the entries.
  pub record Turn (keys entries flags heads links : List ℕ) (n s a at : ℕ) : Type 0 where
    pub tables : KeyTables heads links keys n
    pub here : at ≡ s * letters + a
    pub turn : Reachable.SearchTurn (key_system K letters every) limit (row_at keys) (entry_at letters entries) (final_at flags) n s a

-- From the place `at` of the entries and the row n of the flags on, what stands there is as it was at an earlier place and row.
pub record Kept (entries₀ flags₀ : List ℕ) (at₀ n₀ : ℕ) (entries flags : List ℕ) (at n : ℕ) : Type 0 where
  pub at_le : at₀ ≤ at
  pub n_le : n₀ ≤ n
  pub entries_same : (i : ℕ) → at ≤ i → get_or entries i 0 ≡ get_or entries₀ i 0
  pub flags_same : (i : ℕ) → n ≤ i → get_or flags i 0 ≡ get_or flags₀ i 0

-- The entries and flags behind the first n rows are as they were.
pub record KeptBehind (letters n : ℕ) (entries₀ flags₀ entries flags : List ℕ) : Type 0 where
  pub entries_long : length entries ≡ length entries₀
  pub flags_long : length flags ≡ length flags₀
  pub entries_same : (i : ℕ) → n * letters ≤ i → get_or entries i 0 ≡ get_or entries₀ i 0
  pub flags_same : (i : ℕ) → n ≤ i → get_or flags i 0 ≡ get_or flags₀ i 0

-- What the search answers and leaves: how many rows there are, with the entries and flags of all keys that can be reached, and behind them what stood there;
-- or none, where as many rows as the limit are found, and another key is met.
abbrev pub SearchFinds : (K : Store) (letters limit every : ℕ) (entries₀ flags₀ keys entries flags : List ℕ) → Option ℕ → Type 0
SearchFinds K letters limit every entries₀ flags₀ keys entries flags (Some n) = Searched K letters limit every keys entries flags false n × KeptBehind letters n entries₀ flags₀ entries flags
SearchFinds K letters limit every entries₀ flags₀ keys entries flags None = Searched K letters limit every keys entries flags true limit

-- The lent tables have room for as many rows as the limit, and every letter's values are there, with room behind them.
pub record IsLent (K : Store) (letters limit : ℕ) (keys heads links entries flags : List ℕ) : Type 0 where
  pub few_letters : letters ≤ 1024
  pub values : letters * K.streams + stream_bound ≤ length K.letter_values
  pub some_row : 0 < limit
  pub few_rows : limit ≤ 4096
  pub keys_room : limit * key_size ≤ length keys
  pub heads_room : limit ≤ length heads
  pub links_room : limit ≤ length links
  pub entries_room : limit * letters ≤ length entries
  pub flags_room : limit ≤ length flags

-- What the search depends on: the stored sheet keeps the bounds, the tables have room, and their first row holds the key of the empty record.
pub record CanSearch (K : Store) (letters limit every : ℕ) (keys heads links entries flags : List ℕ) : Type 0 where
  pub ready : IsReady K
  pub lent : IsLent K letters limit keys heads links entries flags
  pub tables : KeyTables heads links keys 1
  pub known : Known K letters every keys flags 1
