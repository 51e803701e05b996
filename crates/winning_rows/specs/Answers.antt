-- The letters of one row that answer the choices, by the ranks of the rows that its entries name. The letter a has the choice `get_or choice a 0`.
use Rattle.std.specs.Prelude.{◌≡◌, ◌≢◌, List, ℕ, ◌<◌, ◌≤◌, length, get_or}
use Rattle.automaton.specs.Table.{no_state}
use Rattle.automaton.specs.Ranking.{rank_of, Ranked}

-- the letter a of the row has the choice c, and its entry names a row of the rank 1 to `highest`
pub record LetterAnswers (row choice ranks : List ℕ) (highest c a : ℕ) : Type 0 where
  pub is_letter : a < length row
  pub has_choice : get_or choice a 0 ≡ c
  pub ranked : Ranked ranks (get_or row a 0)
  pub low : rank_of ranks (get_or row a 0) ≤ highest

-- the first such letter from `from` on, or 65,535 for none
pub data FirstAnswer (row choice ranks : List ℕ) (highest from c : ℕ) : ℕ → Type 0 where
  found : {v : ℕ} → from ≤ v → LetterAnswers row choice ranks highest c v → ((a : ℕ) → from ≤ a → a < v → ¬ LetterAnswers row choice ranks highest c a) → FirstAnswer row choice ranks highest from c v
  lacking : ((a : ℕ) → from ≤ a → ¬ LetterAnswers row choice ranks highest c a) → FirstAnswer row choice ranks highest from c no_state

-- a number for each choice
pub record AreAnswers (row choice ranks : List ℕ) (highest from : ℕ) (answers : List ℕ) : Type 0 where
  pub at : (c : ℕ) → c < length answers → FirstAnswer row choice ranks highest from c (get_or answers c 0)

-- the choices of a row's letters have room, and no letter has the number that stands for none
pub record ChoicesFit (choice : List ℕ) (choices : ℕ) : Type 0 where
  pub few : length choice < no_state
  pub below : (a : ℕ) → a < length choice → get_or choice a 0 < choices

-- every choice has an answer
abbrev pub AllAnswered : List ℕ → Type 0
AllAnswered answers = (c : ℕ) → c < length answers → get_or answers c 0 ≢ no_state
