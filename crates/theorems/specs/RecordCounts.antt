-- What is counted of records (document 02, S-13: "the number of records of n letters, n from 0 to 64, that begin a solution [..] and how many of those records
-- end in a final state"), in the terms of letters and streams of integers.
use Rattle.std.specs.Prelude.{ℕ, ◌≡◌, ◌++◌, map, length}
use Rattle.automaton.specs.Words.{Word, append, prefix, InRange}
use Rattle.meaning.specs.Expression.{Sheet, Solution}
use Rattle.meaning.specs.Letter.{Record, OfLetters, letter_count, letter_number, record_of, spell}
use Rattle.theorems.specs.Following.{BeginsSolution}

-- "records of n letters [..] that begin a solution"
pub record IsCountedRecord (s : Sheet) (n : ℕ) (r : Record) : Type 0 where
  pub letters : OfLetters s.streams r
  pub long : length r ≡ n
  pub begins : BeginsSolution s r

-- "end in a final state": "A state is final if every endless path from it completes a solution." An endless way on after the record, its letters by their
-- numbers, of which every part begins a solution behind the record, completes one with it.
pub record EndsFinal (s : Sheet) (r : Record) : Type 0 where
  pub completes : (w : Word) → InRange (letter_count s.streams) w → ((t : ℕ) → BeginsSolution s (r ++ record_of s.streams (prefix w t)))
      → Solution s (spell s.streams (append (map (letter_number s.streams) r) w))

-- "how many of those records end in a final state"
pub record IsCountedFinal (s : Sheet) (n : ℕ) (r : Record) : Type 0 where
  pub counted : IsCountedRecord s n r
  pub final : EndsFinal s r
