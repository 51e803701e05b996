-- What is kept of a line of values whose bytes come one after the other: scalars, whatever the line's length.
use Rattle.std.specs.Prelude.{ℕ, ◌+◌, ◌*◌, Bool, true, false, not, cond, ◌&&◌, ◌||◌, List, [], ◌∷◌, ltb, eqb, length, take, drop, ℤ}
use Rattle.text.specs.Bytes.{class_of}
use Rattle.text.specs.Fold.{TokenReading, end_token, class_byte}
use Rattle.meaning.specs.Expression.{Stream}
use Rattle.meaning.specs.Letter.{letter_count}
use Rattle.sheet.specs.Refusal.{letter_bound}
use Rattle.letters.specs.Described.{cut_count, number_of}
use Rattle.integer_bytes.specs.declared.Phase.{Phase}
use Rattle.integer_bytes.specs.declared.Phase.TheVariants.{Empty}
use Rattle.integer_bytes.specs.Phases.{next_phase, ends_integer, next_magnitude, value_of}
use Rattle.record_names.specs.Line.{is_plain}
use Rattle.record_names.specs.Machine.{next_count}
use Rattle.records.specs.Line.{ValueLine, malformed, outside, letter}
use Rattle.records.specs.declared.ValuesState.{ValuesState}
use Rattle.records.specs.declared.LineState.{LineState}
use Rattle.records.specs.declared.LineEnd.{LineEnd}

-- Stream k, or none.
abbrev pub stream_at : List Stream → ℕ → List Stream
stream_at ss k = take 1 (drop k ss)

-- The number of the letter so far with the value of one more stream; the bound, which no letter has, once a value is outside its range.
abbrev pub next_number : List Stream → ℕ → ℤ → ℕ
next_number s n v = cond (ltb n letter_bound && ltb (number_of s (v ∷ [])) letter_bound) (n * cut_count (letter_count s) + number_of s (v ∷ [])) letter_bound

-- The state with another token that is begun.
abbrev pub with_phase : ValuesState → Phase → ℕ → ValuesState
with_phase s p m = record { phase = p; magnitude = m; count = s.count; integers = s.integers; number = s.number }

abbrev pub value_byte : ValuesState → ℕ → ValuesState
value_byte s b = with_phase s (next_phase s.phase b) (next_magnitude s.magnitude b)

-- The state between tokens.
abbrev pub ended_from : ℕ → Bool → ℕ → ValuesState
ended_from count integers number = record { phase = Empty; magnitude = 0; count = count; integers = integers; number = number }

abbrev pub value_end : List Stream → ValuesState → ValuesState
value_end ss s =
    ended_from (next_count s.count) (s.integers && ends_integer s.phase) (next_number (stream_at ss s.count) s.number (value_of s.phase s.magnitude))

abbrev pub line_start : LineState
line_start = record { barred = false; begun = false; values = ended_from 0 true 0 }

abbrev pub value_reading : LineState → TokenReading ValuesState
value_reading s = record { begun = s.begun; state = s.values }

abbrev pub line_from : Bool → TokenReading ValuesState → LineState
line_from barred r = record { barred = barred; begun = r.begun; values = r.state }

unfoldable pub line_byte : List Stream → LineState → ℕ → LineState
line_byte ss s b = line_from (s.barred || not (is_plain b)) (class_byte value_byte (value_end ss) (class_of b) (value_reading s) b)

abbrev pub refused_end : ℕ → LineEnd
refused_end n = record { refusal = n; letter = 0 }

-- The refusal's number, or 0 and the letter's number.
abbrev pub end_of : ValueLine → LineEnd
end_of malformed = refused_end 13
end_of outside = refused_end 14
end_of (letter n) = record { refusal = 0; letter = n }

abbrev pub number_read : ℕ → ValueLine
number_read n = cond (ltb n letter_bound) (letter n) outside

-- What n streams' values come to.
abbrev pub values_end : ℕ → Bool → ValuesState → ValueLine
values_end n barred s = cond (not barred && (s.integers && eqb s.count n)) (number_read s.number) malformed

unfoldable pub line_end : List Stream → LineState → LineEnd
line_end ss s = end_of (values_end (length ss) s.barred (end_token value_byte (value_end ss) s.begun s.values))
