-- What a table of a set of endless words is (document 01, "Letters, situations, table"). "State", "entry", "final" and "path"
-- are document 01's terms. `entry i a` is the entry of state i for letter a, and `final i` is the final byte of state i.
use Rattle.std.specs.Prelude.{◌≡◌, ◌⊎◌, ◌≢◌, List, [], ◌∷◌, ◌++◌, ℕ, zero, suc, ◌<◌, ◌≤◌}
use Rattle.automaton.specs.Words.{Word, tail, InRange, AllBelow}
use Rattle.automaton.specs.Solutions.{Continuation, SameContinuations, Begins}

-- "65,535 for none"
abbrev pub no_state : ℕ
no_state = 65535

-- paths

-- the state reached from i by a record
abbrev pub walk : (ℕ → ℕ → ℕ) → ℕ → List ℕ → ℕ
walk entry i [] = i
walk entry i (a ∷ r) = walk entry (entry i a) r

-- the state reached from i by the first t letters of a word
abbrev pub run : (ℕ → ℕ → ℕ) → ℕ → Word → ℕ → ℕ
run entry i w zero = i
run entry i w (suc t) = run entry (entry i (w 0)) (tail w) t

-- "the entries for its letters can be followed one after the other and none is 65,535", from state i
abbrev pub PathFrom : (ℕ → ℕ → ℕ) → ℕ → List ℕ → Type 0
PathFrom entry i [] = Unit {0}
PathFrom entry i (a ∷ r) = (entry i a ≢ no_state) × PathFrom entry (entry i a) r

-- "A record of n letters is a path from the start if, from state 0, the entries for its letters can be followed one after the
-- other and none is 65,535."
abbrev pub IsPath : (ℕ → ℕ → ℕ) → List ℕ → Type 0
IsPath entry r = PathFrom entry 0 r

-- The word w is an "endless path" from i: its entries can be followed for ever, and each is one of the n states.
abbrev pub Follows : (n : ℕ) (entry : ℕ → ℕ → ℕ) (i : ℕ) (w : Word) → Type 0
Follows n entry i w = (t : ℕ) → run entry i w t < n

-- w is an endless path from the start that meets final states again and again
pub record AcceptedWord (n : ℕ) (entry : ℕ → ℕ → ℕ) (final : ℕ → ℕ) (w : Word) : Type 0 where
  pub follows : Follows n entry 0 w
  pub again : (t : ℕ) → (u : ℕ) × (t ≤ u) × (final (run entry 0 w u) ≡ 1)

-- the order of the states

-- the place of state i and letter a comes before that of state j and letter b, "state by state and letter by letter"
abbrev pub Before : (i a j b : ℕ) → Type 0
Before i a j b = (i < j) ⊎ ((i ≡ j) × (a < b))

-- "numbered in the order in which they are first met, state by state and letter by letter": state j is an entry of an earlier
-- state, and every place before that one holds a state before j, or none.
pub record FirstMet (k : ℕ) (entry : ℕ → ℕ → ℕ) (j : ℕ) : Type 0 where
  pub state : ℕ
  pub letter : ℕ
  pub earlier_state : state < j
  pub is_letter : letter < k
  pub holds : entry state letter ≡ j
  pub before : (i a : ℕ) → a < k → Before i a state letter → entry i a ≢ no_state → entry i a < j

-- entries and final bytes

-- "An entry is the next state, or 65,535 for none": v is the entry for the record r, where each of the n states has a
-- representative, a record that leads to it.
abbrev pub IsEntry : (Sol : Word → Type 0) (k n : ℕ) (representative : ℕ → List ℕ) (r : List ℕ) (v : ℕ) → Type 0
IsEntry Sol k n representative r v = ((v ≡ no_state) × (¬ Begins Sol k r)) ⊎ ((v < n) × SameContinuations Sol k r (representative v))

-- "every endless path from it completes a solution": of the state i, after the record r
abbrev pub Completes : (Sol : Word → Type 0) (k n : ℕ) (entry : ℕ → ℕ → ℕ) (r : List ℕ) (i : ℕ) → Type 0
Completes Sol k n entry r i = (w : Word) → InRange k w → Follows n entry i w → Continuation Sol r w

-- "final (1 or 0)": the byte v is 1 if P holds, and 0 if not
abbrev pub IsFlag : (P : Type 0) (v : ℕ) → Type 0
IsFlag P v = ((v ≡ 1) × P) ⊎ ((v ≡ 0) × (¬ P))

-- The table of the set Sol over k letters, with n states.
pub record IsTable (Sol : Word → Type 0) (k n : ℕ) (entry : ℕ → ℕ → ℕ) (final : ℕ → ℕ) : Type 0 where
  -- "The table has one state for each distinct set of endless continuations, not empty, that records leave over." Each state
  -- has a record that leaves its set over; the sets are not empty, and no two states have the same. That each such set has a
  -- state follows (`Rattle.automaton.proofs.Paths.begins-state`). No state has the number that stands for none.
  pub representative : ℕ → List ℕ
  pub letters : (i : ℕ) → i < n → AllBelow k (representative i)
  pub not_empty : (i : ℕ) → i < n → Begins Sol k (representative i)
  pub distinct : (i j : ℕ) → i < n → j < n → SameContinuations Sol k (representative i) (representative j) → i ≡ j
  pub room : n ≤ no_state
  -- "State 0 is the start;"
  pub some_state : 0 < n
  pub start : representative 0 ≡ []
  -- "others are numbered in the order in which they are first met, state by state and letter by letter."
  pub first_met : (j : ℕ) → 0 < j → j < n → FirstMet k entry j
  -- "An entry is the next state, or 65,535 for none."
  pub entries : (i a : ℕ) → i < n → a < k → IsEntry Sol k n representative (representative i ++ (a ∷ [])) (entry i a)
  -- "A state is final if every endless path from it completes a solution."
  pub finals : (i : ℕ) → i < n → IsFlag (Completes Sol k n entry (representative i) i) (final i)

-- "The used rows are the first rows, as many as the states reported, each with its entries and its final byte. Those of two
-- tables are equal if they are as many and agree in every entry and final byte."
pub record SameRows (k n : ℕ) (entry : ℕ → ℕ → ℕ) (final : ℕ → ℕ) (n' : ℕ) (entry' : ℕ → ℕ → ℕ) (final' : ℕ → ℕ) : Type 0 where
  pub states : n ≡ n'
  pub entries : (i a : ℕ) → i < n → a < k → entry i a ≡ entry' i a
  pub finals : (i : ℕ) → i < n → final i ≡ final' i
