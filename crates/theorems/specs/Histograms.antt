-- What the numbers that `histogram` prints are numbers of, and which records are bad (document 02, S-12): over the streams of a sheet and the lines of a
-- record. "Record" is document 02's term.
use Rattle.std.specs.Prelude.{ℕ, ◌<◌, ◌≡◌, true, false, List, [], ◌∷◌, ◌++◌, ℤ, pos, length, get_or}
use Rattle.std.proofs.Math.Option.{some}
use Rattle.meaning.specs.Expression.{Stream, range_of}
use Rattle.meaning.specs.Letter.{size}
use Rattle.sheet.specs.Form.{names_of}
use Rattle.print.specs.Lines.{lines_from}
use Rattle.records.specs.Line.{line_values, value_line, AreLetters}
use Rattle.record_names.specs.Line.{is_names_line}
use Rattle.held_lines.specs.Counts.{lines_holding}
use Rattle.tally.specs.Faults.{line_fault}
use Rattle.held_lines.specs.Held.{sum_below}
use Rattle.histogram_text.specs.Histogram.{histogram_heading, count_line, total_line, range_value}

-- "value lines hold it": the value line with this number, counted from 0, has the value for the stream at a place of the sheet.
pub record LineHolds (stream : ℕ) (value : ℤ) (ls : List (List ℕ)) (number : ℕ) : Type 0 where
  pub there : number < length ls
  pub written : stream < length (line_values (get_or ls number []))
  pub same : get_or (line_values (get_or ls number [])) stream (pos 0) ≡ value

module _ (ss : List Stream) where
  -- "Each stream's counts", added up over the values of its range.
  abbrev pub summed_counts : List (List ℕ) → (stream : ℕ) → ℕ
  summed_counts ls stream = sum_below (λ digit. lines_holding stream (range_value ss stream digit) ls) (size (range_of ss stream))

  -- "Values at which no line stands are printed with 0": what is printed for no lines at all.
  abbrev pub zeros_text : List ℕ
  zeros_text =
      histogram_heading
      ++ (lines_from (λ stream. lines_from (λ digit. count_line (get_or (names_of ss) stream []) (range_value ss stream digit) 0) 0 (size (range_of ss stream))) 0 (length ss) ++ total_line 0)

  -- "its first line with a fault": the value lines before it are letters.
  pub record FirstFaultyLine (ls : List (List ℕ)) (n : ℕ) : Type 0 where
    pub before : List (List ℕ)
    pub line : List ℕ
    pub after : List (List ℕ)
    pub split : ls ≡ before ++ (line ∷ after)
    pub letters : AreLetters ss before
    pub fault : line_fault (value_line ss line) ≡ some n

  -- "a bad record", with the number of its first line with a fault.
  pub data BadRecord : List (List ℕ) → ℕ → Type 0 where
    -- A record without lines has no names.
    no_names : BadRecord [] 13
    -- "13, names that differ"
    other_names : {l : List ℕ} {ls : List (List ℕ)} → is_names_line (names_of ss) l ≡ false → BadRecord (l ∷ ls) 13
    -- "the 13 or 14 of its first line with a fault"
    faulty_line : {l : List ℕ} {ls : List (List ℕ)} {n : ℕ} → is_names_line (names_of ss) l ≡ true → FirstFaultyLine ls n → BadRecord (l ∷ ls) n

  -- Any other record: the names, and value lines that are letters.
  pub record GoodRecord (ls : List (List ℕ)) : Type 0 where
    pub names : List ℕ
    pub values : List (List ℕ)
    pub split : ls ≡ names ∷ values
    pub named : is_names_line (names_of ss) names ≡ true
    pub letters : AreLetters ss values
