-- How many lines hold a value of a stream, from how many lines each letter has. A letter's number counts with the last stream fastest, so the letters
-- that hold a value stand in blocks: one for each choice of values of the streams before, with a letter for each choice of those behind.
use Rattle.std.specs.Prelude.{ℕ, zero, suc, ◌+◌, ◌*◌, min, cond, List, ltb, length, get_or, set, take, drop}
use Rattle.meaning.specs.Expression.{Stream}
use Rattle.meaning.specs.Letter.{letter_count}
use Rattle.letters.specs.Described.{cut_count}
use Rattle.records.specs.Machine.{stream_at}
use Rattle.record_lines.specs.Runs.{highest_number, one_more}

-- One more line for a letter; a letter without a place is not counted.
abbrev pub raised_count : List ℕ → ℕ → List ℕ
raised_count counts letter = set counts letter (one_more (get_or counts letter 0))

-- A number of lines, which stays at the highest number of the machine.
abbrev pub cut_lines : ℕ → ℕ
cut_lines n = min n highest_number

-- The sum over the numbers below n.
unfoldable pub sum_below : (ℕ → ℕ) → ℕ → ℕ
sum_below f zero = 0
sum_below f (suc n) = sum_below f n + f n

-- The lines of so many letters from one on; a letter without a place has none.
abbrev pub block_lines : List ℕ → (from size : ℕ) → ℕ
block_lines counts from size = sum_below (λ j. get_or counts (from + j) 0) size

-- The lines of the letters whose value is so far above the stream's lowest, where the stream has so many values, and those before and behind it so many
-- letters.
abbrev pub blocks_lines : List ℕ → (before size behind digit : ℕ) → ℕ
blocks_lines counts before size behind digit = sum_below (λ i. block_lines counts ((i * size + digit) * behind) behind) before

-- The same for a stream by its place. Numbers of letters are cut at 1,025, so that with more than the 1,024 letters that a sheet may have the blocks are those of
-- the cut numbers.
abbrev pub stream_lines : List ℕ → List Stream → (stream digit : ℕ) → ℕ
stream_lines counts ss stream digit =
    cut_lines (blocks_lines counts (cut_count (letter_count (take stream ss))) (cut_count (letter_count (stream_at ss stream))) (cut_count (letter_count (drop (suc stream) ss))) digit)

-- None where the stream has no such value, or where it is not among the first 1,025 of its range.
abbrev pub digit_lines : List ℕ → List Stream → (stream digit : ℕ) → ℕ
digit_lines counts ss stream digit = cond (ltb digit (cut_count (letter_count (stream_at ss stream)))) (stream_lines counts ss stream digit) 0

-- None where there is no such stream.
unfoldable pub held_lines : List ℕ → List Stream → (stream digit : ℕ) → ℕ
held_lines counts ss stream digit = cond (ltb stream (length ss)) (digit_lines counts ss stream digit) 0
