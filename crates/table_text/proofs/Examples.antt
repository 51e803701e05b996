-- The texts that document 01 prints ("Sheets with their answers", P1 and P2), by computation.
use mathlib.Core.Path.{◌≡◌, refl}
use mathlib.Core.List.{List, [], ◌∷◌}
use lib.IntN.{pos, negsuc}
use Rattle.text.specs.Bytes.{bytes_of}
use Rattle.meaning.specs.Expression.{set_kind, Stream}
use Rattle.meaning.specs.Letter.{letter_count, letter_of}
use Rattle.print.specs.Text.{digits_within, decimal, refusal_line}
use Rattle.table_text.specs.Table.{row_text, table_text, printed}

-- "level gate|0 0|2 1"
abbrev level_and_gate : List Stream
level_and_gate =
    record { name = bytes_of "level"; kind = set_kind; range = record { low = pos 0; high = pos 2 } }
    ∷ record { name = bytes_of "gate"; kind = set_kind; range = record { low = pos 0; high = pos 1 } }
    ∷ []

-- "Here, whole"
pub p1_printed : printed level_and_gate 1 (0 ∷ 0 ∷ 0 ∷ 0 ∷ 65535 ∷ 0 ∷ []) (1 ∷ [])
    ≡ bytes_of "state final level gate next\n0 1 0 0 0\n0 1 0 1 0\n0 1 1 0 0\n0 1 1 1 0\n0 1 2 1 0\n"
unfolding digits_within printed table_text row_text letter_count letter_of
p1_printed = refl

-- "printed as the one line `refused 9`"
pub p2-printed : refusal_line 9 ≡ bytes_of "refused 9\n"
unfolding digits_within
p2-printed = refl

pub negative-printed : decimal (negsuc 1029) ≡ bytes_of "-1030"
unfolding digits_within
negative-printed = refl
