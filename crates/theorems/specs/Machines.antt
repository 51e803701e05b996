-- Any machine that is followed as a table is (document 02, S-14: "no table with fewer states, numbered in any manner, with any choice of final states,
-- followed as ours is and met in final states for ever"): m states, any entries, any start, and any test of the states that it goes through for ever.
use Rattle.std.specs.Prelude.{ℕ, suc, ◌≤◌, ◌<◌, ◌≡◌, ◌↔◌, List, length}
use Rattle.automaton.specs.Words.{Word}
use Rattle.automaton.specs.Table.{run, Follows}
use Rattle.meaning.specs.Value.{Streams}
use Rattle.meaning.specs.Arithmetic.{Within}
use Rattle.meaning.specs.Expression.{Stream, range_of}
use Rattle.meaning.specs.Letter.{word_of}

-- ---- tests of the states that a machine goes through

-- "met in final states for ever": again and again
abbrev pub MetAgain : (final : ℕ → ℕ) → (ℕ → ℕ) → Type 0
MetAgain final q = (t : ℕ) → (u : ℕ) × (t ≤ u) × (final (q u) ≡ 1)

-- and the other reading: from some time on always
abbrev pub MetAlways : (final : ℕ → ℕ) → (ℕ → ℕ) → Type 0
MetAlways final q = (t : ℕ) × ((u : ℕ) → t ≤ u → final (q u) ≡ 1)

-- A final state met once would be another matter: with it fewer states can be enough.
abbrev pub MetOnce : (final : ℕ → ℕ) → (ℕ → ℕ) → Type 0
MetOnce final q = (t : ℕ) × (final (q t) ≡ 1)

-- The first state does not decide the test. This is so of the first two and not of the third.
pub record IsTailTest (meets : (ℕ → ℕ) → Type 0) : Type 0 where
  pub drops : (q : ℕ → ℕ) → meets q ↔ meets (λ t. q (suc t))

-- ---- machines

-- The machine is followed along a word from `start` for ever, each entry being one of its m states, and the states that it goes through pass the test.
pub record TakesWord (m : ℕ) (entry : ℕ → ℕ → ℕ) (meets : (ℕ → ℕ) → Type 0) (start : ℕ) (w : Word) : Type 0 where
  pub follows : Follows m entry start w
  pub met : meets (run entry start w)

-- The same along streams in their ranges, by the numbers of their letters.
pub record TakesStreams (ss : List Stream) (m : ℕ) (entry : ℕ → ℕ → ℕ) (meets : (ℕ → ℕ) → Type 0) (start : ℕ) (w : Streams) : Type 0 where
  pub ranged : (k i : ℕ) → k < length ss → Within (range_of ss k) (w k i)
  pub takes : TakesWord m entry meets start (word_of ss w)
