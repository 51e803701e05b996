-- Games on a table, and play tables (document 02, S-7): "Say from which states the keeper can make every endless play a solution, and give a play table: for
-- each such state and each choice of the river, one letter with the values chosen."
use Rattle.std.specs.Prelude.{◌≡◌, ◌⊎◌, ◌≢◌, List, ℕ, suc, ◌<◌}
use Rattle.automaton.specs.Words.{Word, AllBelow}
use Rattle.automaton.specs.Table.{no_state, walk, IsPath}
use Rattle.automaton.specs.Strategies.{Forces, Prevents}

-- A table with so many states and letters, and the choice of each letter, of so many choices.
pub record Game : Type 0 where
  pub letters : ℕ
  pub choices : ℕ
  pub choice : ℕ → ℕ
  pub states : ℕ
  pub entry : ℕ → ℕ → ℕ
  pub final : ℕ → ℕ

-- the record r leads from the start to the state i
pub record LeadsTo (G : Game) (i : ℕ) (r : List ℕ) : Type 0 where
  pub letters : AllBelow G.letters r
  pub path : IsPath G.entry r
  pub ends : walk G.entry 0 r ≡ i

-- from the state i, whatever record leads there, the keeper can force a solution
abbrev pub ForcesFrom : (G : Game) (Sol : Word → Type 0) (i : ℕ) → Type 0
ForcesFrom G Sol i = (r : List ℕ) → LeadsTo G i r → Forces G.letters G.choices G.choice Sol r

-- or the river can prevent one
abbrev pub PreventsFrom : (G : Game) (Sol : Word → Type 0) (i : ℕ) → Type 0
PreventsFrom G Sol i = (r : List ℕ) → LeadsTo G i r → Prevents G.letters G.choices G.choice Sol r

-- ---- rows of a play table: `play i c` is the number in the row of state i for the choice c

-- the row of state i holds letters
abbrev pub KeepsRow : (choices : ℕ) (play : ℕ → ℕ → ℕ) (i : ℕ) → Type 0
KeepsRow choices play i = (c : ℕ) → c < choices → play i c ≢ no_state

-- "Rows of other states hold 65,535."
abbrev pub LacksRow : (choices : ℕ) (play : ℕ → ℕ → ℕ) (i : ℕ) → Type 0
LacksRow choices play i = (c : ℕ) → c < choices → play i c ≡ no_state

-- "for each such state and each choice of the river, one letter with the values chosen", which does not "meet a missing entry": its entry is a state, and
-- one whose row holds letters too, so that the play goes on.
pub record IsMove (G : Game) (play : ℕ → ℕ → ℕ) (i c : ℕ) : Type 0 where
  pub letter : play i c < G.letters
  pub has_choice : G.choice (play i c) ≡ c
  pub state : G.entry i (play i c) < G.states
  pub goes_on : KeepsRow G.choices play (G.entry i (play i c))

-- Followed from state i, "however the river plays", the play table reaches a final state within t letters.
pub data FinalWithin (G : Game) (play : ℕ → ℕ → ℕ) : (t i : ℕ) → Type 0 where
  here : {t i : ℕ} → G.final i ≡ 1 → FinalWithin G play t i
  later : {t i : ℕ} → ((c : ℕ) → c < G.choices → FinalWithin G play t (G.entry i (play i c))) → FinalWithin G play (suc t) i

-- The row of a state from which the keeper can force a solution. "Followed from such a state, the play table must reach a final state within as many letters
-- as there are states and never meet a missing entry, however the river plays. Which letter it holds is free beyond this": any letters that are moves and
-- reach a final state so soon.
pub record ForcedRow (G : Game) (Sol : Word → Type 0) (play : ℕ → ℕ → ℕ) (i : ℕ) : Type 0 where
  pub forces : ForcesFrom G Sol i
  pub moves : (c : ℕ) → c < G.choices → IsMove G play i c
  pub reaches_final : FinalWithin G play G.states i

-- the row of any other state
pub record PreventedRow (G : Game) (Sol : Word → Type 0) (play : ℕ → ℕ → ℕ) (i : ℕ) : Type 0 where
  pub prevents : PreventsFrom G Sol i
  pub lacks : LacksRow G.choices play i

pub record IsPlayTable (G : Game) (Sol : Word → Type 0) (play : ℕ → ℕ → ℕ) : Type 0 where
  pub row : (i : ℕ) → i < G.states → ForcedRow G Sol play i ⊎ PreventedRow G Sol play i
