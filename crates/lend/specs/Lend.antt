-- The rows in which programs compile a sheet, and what such a compile gives (document 02, "Programs that read a sheet lend rows as `sluice` does").
use Rattle.std.specs.Prelude.{ℕ, ◌-◌, ◌*◌, ◌/◌, ◌<◌, min, ◌≡◌, List, [], ◌∷◌, take, drop}
use Rattle.meaning.specs.Expression.{Sheet}
use Rattle.meaning.specs.Letter.{letter_count}
use Rattle.sheet.specs.Refusal.{refused, sheet, AnswerTo}
use Rattle.outcome.specs.Room.{LentTable, zeros, zero_tables}
use Rattle.outcome.specs.Compile.{CompileAnswer, Room, Tables, CompileCall}

-- "`sluice` lends 256 rows, or 32,768 divided by the letters, cut to a whole number, if that is fewer." For 0 letters, which no sheet has, the
-- quotient is 0.
abbrev pub rows_lent : ℕ → ℕ
rows_lent letters = min 256 (32768 / letters)

-- Tables with room for so many entries and final bytes, and work tables for so many rows: the keys take 16 numbers a row, and each of the other six
-- takes one.
abbrev pub room_of_rows : (entries finals rows : ℕ) → Room
room_of_rows entries finals rows =
    let one : LentTable = record { per_row = 1; size = rows } in
    record {
      entries = entries;
      finals = finals;
      work = record { per_row = 16; size = rows * 16 } ∷ (one ∷ (one ∷ (one ∷ (one ∷ (one ∷ (one ∷ []))))));
    }

-- The room of the rows lent.
abbrev pub lent_room : ℕ → Room
lent_room letters = room_of_rows (rows_lent letters * letters) (rows_lent letters) (rows_lent letters)

-- ---- what a compile in the rows lent gives for a text

-- The text is a sheet, and its compile in the rows lent gave this answer and left these tables.
pub record CompiledLent (text : List ℕ) (s : Sheet) (a : CompileAnswer) (t : Tables) : Type 0 where
  pub reads : AnswerTo text (sheet s)
  pub call : CompileCall text (lent_room (letter_count s.streams)) a t

-- The text is refused with this number.
pub data RefusedLent (text : List ℕ) : ℕ → Type 0 where
  -- a refusal 1 to 7
  unread : {n : ℕ} → AnswerTo text (refused n) → RefusedLent text n
  -- a refusal of the compile in the rows lent
  not_compiled : {s : Sheet} {a : CompileAnswer} {t : Tables} → CompiledLent text s a t → 0 < a.refusal → RefusedLent text a.refusal

-- There is an outcome.
pub data HasOutcome (text : List ℕ) : Type 0 where
  is_refused : {n : ℕ} → RefusedLent text n → HasOutcome text
  is_compiled : {s : Sheet} {a : CompileAnswer} {t : Tables} → CompiledLent text s a t → a.refusal ≡ 0 → HasOutcome text

-- ---- what a call leaves in arrays for all rows

-- Entries and final bytes, with the work tables of so many rows: "work tables are zero after every call".
abbrev pub tables_of_rows : ℕ → (entries finals : List ℕ) → Tables
tables_of_rows rows entries finals = record { entries = entries; finals = finals; work = zero_tables (room_of_rows 0 0 rows).work }

-- The first parts of the arrays, as many rows as are lent.
abbrev pub lent_tables : ℕ → (entries finals : List ℕ) → Tables
lent_tables letters entries finals = tables_of_rows (rows_lent letters) (take (rows_lent letters * letters) entries) (take (rows_lent letters) finals)

-- A compile of the text in the rows lent for so many letters gave this answer; its tables are the first parts of the arrays, and the rest is zero.
pub record LentCall (text : List ℕ) (letters : ℕ) (a : CompileAnswer) (entries finals : List ℕ) : Type 0 where
  pub call : CompileCall text (lent_room letters) a (lent_tables letters entries finals)
  pub entries_behind : drop (rows_lent letters * letters) entries ≡ zeros (32768 - rows_lent letters * letters)
  pub finals_behind : drop (rows_lent letters) finals ≡ zeros (256 - rows_lent letters)
