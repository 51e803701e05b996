-- The C header that `export` prints of a table (docs/exports.md gives it by an example).
use Rattle.std.specs.Prelude.{ℕ, ◌*◌, List, ◌++◌, ℤ, length, take, drop}
use Rattle.meaning.specs.Window.{join_over}
use Rattle.text.specs.Bytes.{Token, bytes_of}
use Rattle.stored.specs.Number.{table_bytes}
use Rattle.step.specs.Step.{entry_width}
use Rattle.print.specs.Text.{digits, decimal}
use Rattle.print.specs.Lines.{lines_from}

-- What the header holds: the streams by their names, ranges and kinds, the numbers of letters and states, the checksum of the sheet's text, and the used
-- rows with their final bytes.
pub record ExportedTable : Type 0 where
  pub names : List Token
  pub lows : List ℤ
  pub highs : List ℤ
  pub kinds : List ℕ
  pub letters : ℕ
  pub states : ℕ
  pub checksum : ℕ
  pub entries : List ℕ
  pub finals : List ℕ

-- ---- arrays

-- "Each element has a space before it and a comma behind it"
abbrev pub element : Token → List ℕ
element e = bytes_of " " ++ (e ++ bytes_of ",")

-- The elements that a list has, one after the other.
abbrev pub elements : {X : Type 0} → (X → Token) → List X → List ℕ
elements text xs = join_over (λ x. element (text x)) xs

-- A line of elements, with three spaces more at its beginning.
abbrev pub elements_line : List ℕ → List ℕ
elements_line row = bytes_of "   " ++ (row ++ bytes_of "\n")

-- "each array its beginning and its end on lines of their own"
abbrev pub array_text : (kind name count : Token) (lines : List ℕ) → List ℕ
array_text kind name count lines = bytes_of "static const " ++ (kind ++ (bytes_of " " ++ (name ++ (bytes_of "[" ++ (count ++ (bytes_of "] = {\n" ++ (lines ++ bytes_of "};\n")))))))

-- A name between quotation marks.
abbrev pub quoted : Token → Token
quoted name = bytes_of "\"" ++ (name ++ bytes_of "\"")

-- ---- the parts of the header

-- What stands before the numbers: the table's bytes are those that `include/step.h` takes.
abbrev pub beginning : List ℕ
beginning =
    bytes_of "/* The table of a sheet for step.h, written by export. */\n"
    ++ (bytes_of "#ifndef SHEET_TABLE_H\n" ++ (bytes_of "#define SHEET_TABLE_H\n" ++ (bytes_of "\n" ++ (bytes_of "#include <stdint.h>\n" ++ bytes_of "\n"))))

-- "the numbers of streams, letters and states"
abbrev pub counts_line : (streams letters states : ℕ) → List ℕ
counts_line streams letters states =
    bytes_of "enum { SHEET_STREAMS = " ++ (digits streams ++ (bytes_of ", SHEET_LETTERS = " ++ (digits letters ++ (bytes_of ", SHEET_STATES = " ++ (digits states ++ bytes_of " };\n")))))

-- "the CRC-32 of the sheet's text"
abbrev pub checksum_line : ℕ → List ℕ
checksum_line checksum = bytes_of "#define SHEET_CRC32 UINT32_C(" ++ (digits checksum ++ bytes_of ")\n")

-- "The names, lowest and highest values and kinds stand in the order of the sheet"
abbrev pub stream_arrays : (names : List Token) (lows highs : List ℤ) (kinds : List ℕ) → List ℕ
stream_arrays names lows highs kinds =
    array_text (bytes_of "char *const") (bytes_of "sheet_names") (bytes_of "SHEET_STREAMS") (elements_line (elements quoted names))
    ++ (array_text (bytes_of "int32_t") (bytes_of "sheet_lows") (bytes_of "SHEET_STREAMS") (elements_line (elements decimal lows))
    ++ (array_text (bytes_of "int32_t") (bytes_of "sheet_highs") (bytes_of "SHEET_STREAMS") (elements_line (elements decimal highs))
    ++ array_text (bytes_of "uint8_t") (bytes_of "sheet_kinds") (bytes_of "SHEET_STREAMS") (elements_line (elements digits kinds))))

-- The entries of a state's row.
abbrev pub row_entries : (letters : ℕ) (entries : List ℕ) (state : ℕ) → List ℕ
row_entries letters entries state = take letters (drop (state * letters) entries)

-- "two bytes an entry, low first, a line for each state"
abbrev pub row_line : (letters : ℕ) (entries : List ℕ) (state : ℕ) → List ℕ
row_line letters entries state = elements_line (elements digits (table_bytes entry_width (row_entries letters entries state)))

abbrev pub table_array : (letters states : ℕ) (entries : List ℕ) → List ℕ
table_array letters states entries = array_text (bytes_of "uint8_t") (bytes_of "sheet_table") (bytes_of "2 * SHEET_STATES * SHEET_LETTERS") (lines_from (row_line letters entries) 0 states)

-- "one byte for each state"
abbrev pub finals_array : List ℕ → List ℕ
finals_array finals = array_text (bytes_of "uint8_t") (bytes_of "sheet_finals") (bytes_of "SHEET_STATES") (elements_line (elements digits finals))

abbrev pub ending : List ℕ
ending = bytes_of "\n#endif\n"

-- ---- all of it

unfoldable pub export_text : ExportedTable → List ℕ
export_text x =
    beginning
    ++ (counts_line (length x.names) x.letters x.states
    ++ (checksum_line x.checksum
    ++ (bytes_of "\n"
    ++ (stream_arrays x.names x.lows x.highs x.kinds
    ++ (table_array x.letters x.states x.entries
    ++ (finals_array x.finals
    ++ ending))))))
