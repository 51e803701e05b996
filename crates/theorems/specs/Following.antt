-- What it means that streams of integers are followed along a stored table, that a record of letters begins a solution, and that streams solve exactly if
-- their words lie in a set.
use Rattle.std.specs.Prelude.{ℕ, ◌≤◌, ◌<◌, ◌≡◌, ◌↔◌, List, length}
use Rattle.automaton.specs.Words.{Word, prefix}
use Rattle.automaton.specs.Table.{walk, IsPath}
use Rattle.automaton.specs.Stored.{entry_at, final_at}
use Rattle.meaning.specs.Value.{Streams}
use Rattle.meaning.specs.Arithmetic.{Within}
use Rattle.meaning.specs.Expression.{Stream, Sheet, range_of, Solution}
use Rattle.meaning.specs.Letter.{Record, letter_count, streams_of, word_of}

-- "the table can be followed along them from its start without a missing entry and meets final states again and again" (demand 2): of streams in
-- their ranges, since other values have no letter.
pub record FollowedAlong (ss : List Stream) (entries finals : List ℕ) (w : Streams) : Type 0 where
  pub ranged : (k i : ℕ) → k < length ss → Within (range_of ss k) (w k i)
  pub path : (n : ℕ) → IsPath (entry_at (letter_count ss) entries) (prefix (word_of ss w) n)
  pub again : (n : ℕ) → (u : ℕ) × (n ≤ u) × (final_at finals (walk (entry_at (letter_count ss) entries) 0 (prefix (word_of ss w) u)) ≡ 1)

-- "It begins a solution if the solution's letters at times 0 to n−1 are its own."
pub record BeginsSolution (s : Sheet) (r : Record) : Type 0 where
  pub solution : Streams
  pub solves : Solution s solution
  pub letters : (k i : ℕ) → k < length s.streams → i < length r → solution k i ≡ streams_of r k i

-- "Two sheets over the same streams have the same solutions if each solution of either is a solution of the other."
pub record HaveSameSolutions (s t : Sheet) : Type 0 where
  pub to : (w : Streams) → Solution s w → Solution t w
  pub from : (w : Streams) → Solution t w → Solution s w

-- Streams solve exactly if they are in their ranges and the word of their letter numbers lies in the set. It is so of a sheet's solutions and of joined ones.
pub record SolvesByWord (ss : List Stream) (Sol : Word → Type 0) (Solves : Streams → Type 0) : Type 0 where
  pub ranged : (w : Streams) → Solves w → (k i : ℕ) → k < length ss → Within (range_of ss k) (w k i)
  pub word : (w : Streams) → ((k i : ℕ) → k < length ss → Within (range_of ss k) (w k i)) → Sol (word_of ss w) ↔ Solves w
