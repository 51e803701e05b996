-- What a line of values of a record is (document 02, S-1: "lines of values, with lines, tokens and integers as in a sheet").
use Rattle.std.specs.Prelude.{ℕ, ◌≡◌, Bool, cond, ◌&&◌, List, map, eqb, length}
use Rattle.basics.specs.Lists.{All}
use Rattle.text.specs.Bytes.{Token, tokens}
use Rattle.text.specs.Token.{all_bytes, is_integer, integer_value}
use Rattle.meaning.specs.Expression.{Stream}
use Rattle.meaning.specs.Letter.{Letter, Record, letter_number}
use Rattle.meaning.specs.Situation.{all}
use Rattle.letters.specs.Described.{is_letter}
use Rattle.record_names.specs.Line.{is_plain}

pub data ValueLine : Type 0 where
  -- "13 [..] a line that is not one integer per stream (a byte refusal 1 bars makes either so)"
  malformed : ValueLine
  -- "14, a value outside its range"
  outside : ValueLine
  -- A letter, by its number.
  letter : ℕ → ValueLine

-- The values that the tokens of a line write, where they are integers.
abbrev pub line_values : List ℕ → Letter
line_values l = map integer_value (tokens l)

-- "one integer per stream"
abbrev pub is_one_per_stream : List Stream → List Token → Bool
is_one_per_stream ss ts = all is_integer ts && eqb (length ts) (length ss)

-- "a value outside its range", or the letter.
abbrev pub values_read : List Stream → Letter → ValueLine
values_read ss v = cond (is_letter ss v) (letter (letter_number ss v)) outside

-- "the first line with a fault decides, in the order 13, 14"
unfoldable pub value_line : List Stream → List ℕ → ValueLine
value_line ss l = cond (all_bytes is_plain l && is_one_per_stream ss (tokens l)) (values_read ss (line_values l)) malformed

-- ---- lines as letters

abbrev pub record_of_lines : List (List ℕ) → Record
record_of_lines ls = map line_values ls

module _ (ss : List Stream) where
  -- The line is a letter: neither 13 nor 14 applies.
  abbrev pub IsLetterLine : List ℕ → Type 0
  IsLetterLine l = value_line ss l ≡ letter (letter_number ss (line_values l))

  abbrev pub AreLetters : List (List ℕ) → Type 0
  AreLetters ls = All IsLetterLine ls

  -- The numbers of the letters that the lines are.
  abbrev pub letters_of : List (List ℕ) → List ℕ
  letters_of ls = map (letter_number ss) (record_of_lines ls)
