-- What it means that a play table is followed after a record of letters (document 02, S-7). Records are lists of letter numbers, as the entries of a table
-- count them.
use Rattle.std.specs.Prelude.{ℕ, ◌≤◌, ◌≡◌, List, ◌++◌}
use Rattle.automaton.specs.Words.{Word, prefix, append}
use Rattle.automaton.specs.Table.{walk, IsPath}
use Rattle.automaton.specs.Stored.{entry_at, final_at}
use Rattle.meaning.specs.Expression.{Sheet, Solution}
use Rattle.meaning.specs.Letter.{letter_count, spell}
use Rattle.meaning.specs.Choice.{choice_count, choice_of}
use Rattle.outcome.specs.Compile.{Tables}

module _ (s : Sheet) (t : Tables) where
  -- the state that a record leads to
  abbrev pub state_after : List ℕ → ℕ
  state_after r = walk (entry_at (letter_count s.streams) t.entries) 0 r

  -- After the record r each letter of w stands in the play table: in the row of the state met, for the letter's own choice. Nothing is said of the choices:
  -- the river may play as it likes.
  abbrev pub FollowsPlayTable : (play r : List ℕ) (w : Word) → Type 0
  FollowsPlayTable play r w = (n : ℕ) → w n ≡ entry_at (choice_count s.streams) play (state_after (r ++ prefix w n)) (choice_of s.streams (w n))

  -- "Followed from such a state, the play table must reach a final state within as many letters as there are states and never meet a missing entry": after
  -- the record r the letters of w do so, and the streams that r and then w spell are a solution.
  pub record PlaysOut (states : ℕ) (r : List ℕ) (w : Word) : Type 0 where
    pub never_missing : (n : ℕ) → IsPath (entry_at (letter_count s.streams) t.entries) (r ++ prefix w n)
    pub letters_to_final : ℕ
    pub within_states : letters_to_final ≤ states
    pub is_final : final_at t.finals (state_after (r ++ prefix w letters_to_final)) ≡ 1
    pub is_solution : Solution s (spell s.streams (append r w))
