-- Worked examples: lines of a record to a sheet with streams `x` and `y`, each 0 or 1, by computation.
use mathlib.Core.Path.{◌≡◌, refl}
use mathlib.Core.Bool.{true, false}
use mathlib.Core.List.{List, [], ◌∷◌, ◌++◌}
use lib.IntN.{pos}
use Rattle.text.specs.Bytes.{bytes_of, tokens}
use Rattle.text.specs.Token.{is_natural, natural_from, is_integer, integer_value}
use Rattle.meaning.specs.Expression.{set_kind, Stream}
use Rattle.meaning.specs.Letter.{letter_count, letter_number}
use Rattle.sheet.specs.Form.{names_of}
use Rattle.letters.specs.Described.{is_letter}
use Rattle.records.specs.Line.{malformed, outside, letter, value_line}
use Rattle.record_names.specs.Line.{is_names_line}

abbrev streams : List Stream
streams =
    record { name = bytes_of "x"; kind = set_kind; range = record { low = pos 0; high = pos 1 } }
    ∷ record { name = bytes_of "y"; kind = set_kind; range = record { low = pos 0; high = pos 1 } }
    ∷ []

-- A letter's number counts with the last stream fastest.
letter-line : value_line streams (bytes_of " 1  0 ") ≡ letter 2
unfolding value_line tokens is_integer is_natural integer_value natural_from is_letter letter_number letter_count
letter-line = refl

-- An integer of any length is an integer, so the value is outside its range.
long-line : value_line streams (bytes_of "4294967296 1") ≡ outside
unfolding value_line tokens is_integer is_natural integer_value natural_from is_letter
long-line = refl

-- A value outside its range does not hide a later token that is no integer.
order-line : value_line streams (bytes_of "2 (") ≡ malformed
unfolding value_line tokens is_integer is_natural
order-line = refl

-- "a leading zero stands only in `0`, and `-0` is no integer"
zeros-line : value_line streams (bytes_of "01 0") ≡ malformed
unfolding value_line tokens is_integer is_natural
zeros-line = refl

minus-zero-line : value_line streams (bytes_of "-0 0") ≡ malformed
unfolding value_line tokens is_integer is_natural
minus-zero-line = refl

-- A line without bytes has no integers; a tab parts tokens, but it is barred.
blank-line : value_line streams [] ≡ malformed
unfolding value_line tokens
blank-line = refl

tab_line : value_line streams (bytes_of "1" ++ (9 ∷ bytes_of "0")) ≡ malformed
unfolding value_line tokens is_integer is_natural
tab_line = refl

-- "the sheet's names in its order"
names-line : is_names_line (names_of streams) (bytes_of "x  y") ≡ true
unfolding is_names_line tokens
names-line = refl

swapped_line : is_names_line (names_of streams) (bytes_of "y x") ≡ false
unfolding is_names_line tokens
swapped_line = refl
