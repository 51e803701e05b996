-- The search for all that is reached from a start, letter by letter: keys in rows, in the order in which they are first met, with the rows of
-- their successors. Keys are things of any type; rows, entries and bytes are functions, so nothing here knows how they are stored.
use Rattle.std.specs.Prelude.{ℕ, ◌≤◌, ◌<◌, ◌≡◌, Bool, true, false, cond, List, [], ◌∷◌, T}
use Rattle.automaton.specs.Table.{no_state, Before, FirstMet}

-- What is searched: a start, and for each key and letter whether there is a successor (`ok`), and which (`after`; any key where there is none).
pub record System : Type 1 where
  pub Key : Type 0
  pub letters : ℕ
  pub start : Key
  pub ok : Key → ℕ → Bool
  pub after : Key → ℕ → Key
  pub flag : Key → Bool

module _ (S : System) where
  pub data Reach : S.Key → Type 0 where
    start : Reach S.start
    step : {x : S.Key} (a : ℕ) → a < S.letters → Reach x → S.ok x a ≡ true → Reach (S.after x a)

  -- the byte of a key: 1 if its flag is set, else 0
  abbrev pub byte_of : S.Key → ℕ
  byte_of x = cond (S.flag x) 1 0

  -- v is the row of the successor of x by the letter a, or 65,535 where there is none
  pub data IsRow (key : ℕ → S.Key) (n : ℕ) (x : S.Key) (a v : ℕ) : Type 0 where
    no_row : v ≡ no_state → S.ok x a ≡ false → IsRow key n x a v
    row : v < n → S.ok x a ≡ true → key v ≡ S.after x a → IsRow key n x a v

  -- the first n rows hold different keys, all reached, the first that of the start; and each row's byte
  pub record KnownKeys (key : ℕ → S.Key) (byte : ℕ → ℕ) (n : ℕ) : Type 0 where
    pub some_row : 0 < n
    pub first : key 0 ≡ S.start
    pub distinct : (i j : ℕ) → i < j → j < n → key i ≡ key j → ⊥
    pub reached : (i : ℕ) → i < n → Reach (key i)
    pub flagged : (i : ℕ) → i < n → byte i ≡ byte_of (key i)

  -- no row holds x
  abbrev pub Absent : (key : ℕ → S.Key) (n : ℕ) (x : S.Key) → Type 0
  Absent key n x = (i : ℕ) → i < n → key i ≡ x → ⊥

  -- row n holds x and its byte, and the rows before it hold what they held
  pub record IsAdded (key key' : ℕ → S.Key) (byte byte' : ℕ → ℕ) (n : ℕ) (x : S.Key) : Type 0 where
    pub new : key' n ≡ x
    pub new_byte : byte' n ≡ byte_of x
    pub old : (i : ℕ) → i < n → key' i ≡ key i
    pub old_byte : (i : ℕ) → i < n → byte' i ≡ byte i

  -- before row s at letter a: n rows are known, every entry before this place is right, and every row was first met before it
  pub record SearchTurn (limit : ℕ) (key : ℕ → S.Key) (entry : ℕ → ℕ → ℕ) (byte : ℕ → ℕ) (n s a : ℕ) : Type 0 where
    pub known : KnownKeys key byte n
    pub within : n ≤ limit
    pub done : (i b : ℕ) → b < S.letters → Before i b s a → IsRow key n (key i) b (entry i b)
    pub order : (j : ℕ) → 0 < j → j < n → (m : FirstMet S.letters entry j) × Before m.state m.letter s a

  -- another key is reached than the first n, which are as many as the limit allows
  pub record Over (limit : ℕ) (key : ℕ → S.Key) (n : ℕ) : Type 0 where
    pub full : n ≡ limit
    pub other : S.Key
    pub reached : Reach other
    pub new : Absent key n other

  -- `full` says that there are more keys than the limit; otherwise every entry is the row of the successor, or none.
  abbrev pub SearchOutcome : Bool → (limit : ℕ) (key : ℕ → S.Key) (entry : ℕ → ℕ → ℕ) (n : ℕ) → Type 0
  SearchOutcome true limit key entry n = Over limit key n
  SearchOutcome false limit key entry n = (i a : ℕ) → i < n → a < S.letters → IsRow key n (key i) a (entry i a)

  -- what the search leaves
  pub record SearchedKeys (limit : ℕ) (key : ℕ → S.Key) (entry : ℕ → ℕ → ℕ) (byte : ℕ → ℕ) (full : Bool) (n : ℕ) : Type 0 where
    pub known : KnownKeys key byte n
    pub within : n ≤ limit
    pub first_met : (j : ℕ) → 0 < j → j < n → FirstMet S.letters entry j
    pub outcome : SearchOutcome full limit key entry n

  -- the flag of a reached key is not lost along an edge
  pub record FlagStays : Type 0 where
    pub stays : (x : S.Key) → Reach x → (a : ℕ) → a < S.letters → S.ok x a ≡ true → T (S.flag x) → T (S.flag (S.after x a))

  -- the key after a record from x on, and that each of its letters has a successor
  abbrev pub key_along : S.Key → List ℕ → S.Key
  key_along x [] = x
  key_along x (a ∷ r) = key_along (S.after x a) r

  abbrev pub GoesFrom : S.Key → List ℕ → Type 0
  GoesFrom x [] = Unit {0}
  GoesFrom x (a ∷ r) = (S.ok x a ≡ true) × GoesFrom (S.after x a) r

  -- the record can be followed from the start; it leads to a key with the flag; two records lead to one key
  pub record KeyFollowed (r : List ℕ) : Type 0 where
    pub goes : GoesFrom S.start r

  pub record Flagged (r : List ℕ) : Type 0 where
    pub is_flagged : T (S.flag (key_along S.start r))

  pub record SameKey (r t : List ℕ) : Type 0 where
    pub same : key_along S.start r ≡ key_along S.start t
