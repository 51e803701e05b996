-- How long the header can be: at most 344,064 bytes for eight streams, 256 states and 32,768 entries. From the lengths of decimal numbers (print) and the
-- definitions.
use Prim.Native.Nat.{ℕ, zero, suc, ◌+◌, ◌-◌, ◌*◌, ◌≤◌, ◌<◌, min}
use native.Mathlib.Nat.{add-mul}
use native.Mathlib.Omega.{arith}
use mathlib.Core.Path.{◌≡◌, ap}
use mathlib.Core.List.{List, [], ◌∷◌, ◌++◌}
use lib.IntN.{ℤ}
use lib.ListN.{length, get_or, take, drop, length-append, length-take, length-drop}
use Rattle.text.specs.Bytes.{Token, bytes_of}
use Rattle.sheet.specs.Names.{name_in}
use Rattle.stored.specs.Number.{table_bytes}
use Rattle.stored.proofs.Table.{length-table_bytes, table_bytes-bytes}
use Rattle.step.specs.Step.{entry_width}
use Rattle.streams.specs.declared.StreamsDescription.{StreamsDescription}
use Rattle.print.specs.Text.{digits, decimal}
use Rattle.print.specs.Lines.{lines_from, stored_names, AllFit}
use Rattle.print.proofs.Lengths.{digits-length, natural-length, integer-length}
use Rattle.export_text.specs.Export.{ExportedTable, element, elements, elements_line, array_text, quoted, row_entries, row_line, beginning, counts_line, checksum_line, stream_arrays, table_array, finals_array, ending, export_text}
use Rattle.export_text.specs.Described.{described_export}
use Rattle.export_text.proofs.Elements.{element-more}
use Rattle.export_text.proofs.Parts.{stored-count}

element-length : (e : Token) → length (element e) ≡ length e + 2
element-length e = omega (arith, length-append e (44 ∷ []))

bytes-length : (bytes : List ℕ) → ((i : ℕ) → get_or bytes i 0 < 256) → length (elements digits bytes) ≤ 5 * length bytes
bytes-length [] small = omega arith
bytes-length (b ∷ bytes) small =
    omega (arith, length-append (element (digits b)) (elements digits bytes), element-length (digits b), digits-length 2 b (omega (arith, small 0)), bytes-length bytes (λ i. small (suc i)))

integers_length : (values : List ℤ) → AllFit values → length (elements decimal values) ≤ 22 * length values
integers_length [] f = omega arith
integers_length (v ∷ values) f =
    omega (arith, length-append (element (decimal v)) (elements decimal values), element-length (decimal v), integer-length v f.0, integers_length values f.1)

names-length : (names lengths : List ℕ) (k : ℕ) → length (elements quoted (stored_names names lengths k)) ≤ 12 * k
unfolding stored_names
names-length names lengths zero = omega arith
names-length names lengths (suc k) =
    let name = name_in names lengths k in
    omega (arith, ap length (element-more quoted (stored_names names lengths k) name), length-append (elements quoted (stored_names names lengths k)) (element (quoted name)), element-length (quoted name), length-append name (34 ∷ []), length-take (min (get_or lengths k 0) 8) (drop (k * 8) names), names-length names lengths k)

-- The lines of rows have ten bytes for each entry, and four more each.
module _ (letters : ℕ) (entries : List ℕ) where
  row-length : (state : ℕ) → length (row_line letters entries state) ≤ 10 * min letters (length entries - state * letters) + 4
  row-length state =
      let row = row_entries letters entries state in
      let bytes = table_bytes entry_width row in
      omega (arith, length-append (elements digits bytes) (10 ∷ []), bytes-length bytes (table_bytes-bytes entry_width row), length-table_bytes entry_width row, length-take letters (drop (state * letters) entries), length-drop (state * letters) entries)

  rows-length : (states : ℕ) → length (lines_from (row_line letters entries) 0 states) ≤ 10 * min (states * letters) (length entries) + 4 * states
  unfolding lines_from
  rows-length zero = omega arith
  rows-length (suc n) =
      omega (arith, length-append (lines_from (row_line letters entries) 0 n) (row_line letters entries (0 + n)), row-length (0 + n), rows-length n, add-mul n 1 letters)

-- ---- the parts of the header

counts-length : (streams letters states : ℕ) → streams < 18446744073709551616 → letters < 18446744073709551616 → states < 18446744073709551616 → length (counts_line streams letters states) ≤ 128
counts-length streams letters states s l t =
    let a = natural-length streams s in
    let b = natural-length letters l in
    let c = natural-length states t in
    let x = digits states ++ bytes_of " };\n" in
    let y = digits letters ++ (bytes_of ", SHEET_STATES = " ++ x) in
    omega (arith, length-append (digits streams) (bytes_of ", SHEET_LETTERS = " ++ y), length-append (digits letters) (bytes_of ", SHEET_STATES = " ++ x), length-append (digits states) (bytes_of " };\n"))

checksum-length : (checksum : ℕ) → checksum < 18446744073709551616 → length (checksum_line checksum) ≤ 64
checksum-length checksum h = omega (arith, natural-length checksum h, length-append (digits checksum) (bytes_of ")\n"))

-- An array has 24 bytes more than its kind, its name, the text of its length and its lines.
array_length : (kind name count : Token) (lines : List ℕ) → length (array_text kind name count lines) ≡ length kind + length name + length count + length lines + 24
array_length kind name count lines =
    let d = lines ++ bytes_of "};\n" in
    let c = count ++ (bytes_of "] = {\n" ++ d) in
    let b = name ++ (bytes_of "[" ++ c) in
    omega (arith, length-append kind (bytes_of " " ++ b), length-append name (bytes_of "[" ++ c), length-append count (bytes_of "] = {\n" ++ d), length-append lines (bytes_of "};\n"))

line-length : (row : List ℕ) → length (elements_line row) ≡ length row + 4
line-length row = omega (arith, length-append row (bytes_of "\n"))

-- An array of one line.
row_array : (kind name count : Token) (row : List ℕ) → length (array_text kind name count (elements_line row)) ≡ length kind + length name + length count + length row + 28
row_array kind name count row = omega (arith, array_length kind name count (elements_line row), line-length row)

-- Four lists one after the other.
four : (a b c d : List ℕ) → length (a ++ (b ++ (c ++ d))) ≡ length a + length b + length c + length d
four a b c d = omega (arith, length-append a (b ++ (c ++ d)), length-append b (c ++ d), length-append c d)

streams-length : (names : List Token) (lows highs : List ℤ) (kinds : List ℕ)
    → length (stream_arrays names lows highs kinds) ≤ length (elements quoted names) + length (elements decimal lows) + length (elements decimal highs) + length (elements digits kinds) + 256
streams-length names lows highs kinds =
    let a = row_array (bytes_of "char *const") (bytes_of "sheet_names") (bytes_of "SHEET_STREAMS") (elements quoted names) in
    let b = row_array (bytes_of "int32_t") (bytes_of "sheet_lows") (bytes_of "SHEET_STREAMS") (elements decimal lows) in
    let c = row_array (bytes_of "int32_t") (bytes_of "sheet_highs") (bytes_of "SHEET_STREAMS") (elements decimal highs) in
    let d = row_array (bytes_of "uint8_t") (bytes_of "sheet_kinds") (bytes_of "SHEET_STREAMS") (elements digits kinds) in
    omega (
      arith,
      four (array_text (bytes_of "char *const") (bytes_of "sheet_names") (bytes_of "SHEET_STREAMS") (elements_line (elements quoted names))) (array_text (bytes_of "int32_t") (bytes_of "sheet_lows") (bytes_of "SHEET_STREAMS") (elements_line (elements decimal lows)))
          (array_text (bytes_of "int32_t") (bytes_of "sheet_highs") (bytes_of "SHEET_STREAMS") (elements_line (elements decimal highs))) (array_text (bytes_of "uint8_t") (bytes_of "sheet_kinds") (bytes_of "SHEET_STREAMS") (elements_line (elements digits kinds))),
    )

table-length : (letters states : ℕ) (entries : List ℕ) → length (table_array letters states entries) ≤ 10 * length entries + 4 * states + 128
table-length letters states entries =
    omega (arith, array_length (bytes_of "uint8_t") (bytes_of "sheet_table") (bytes_of "2 * SHEET_STATES * SHEET_LETTERS") (lines_from (row_line letters entries) 0 states), rows-length letters entries states)

finals_length : (finals : List ℕ) → length (finals_array finals) ≤ length (elements digits finals) + 128
finals_length finals = omega (arith, row_array (bytes_of "uint8_t") (bytes_of "sheet_finals") (bytes_of "SHEET_STATES") (elements digits finals))

-- ---- all of it

module _ (x : ExportedTable) where
  text-length : length (export_text x)
      ≤ length (counts_line (length x.names) x.letters x.states) + length (checksum_line x.checksum) + length (stream_arrays x.names x.lows x.highs x.kinds) + length (table_array x.letters x.states x.entries)
      + length (finals_array x.finals) + 256
  unfolding export_text
  text-length =
      let a = finals_array x.finals ++ ending in
      let b = table_array x.letters x.states x.entries ++ a in
      let c = stream_arrays x.names x.lows x.highs x.kinds ++ b in
      let d = checksum_line x.checksum ++ (bytes_of "\n" ++ c) in
      let e = counts_line (length x.names) x.letters x.states ++ d in
      omega (arith, length-append beginning e, length-append (counts_line (length x.names) x.letters x.states) d, length-append (checksum_line x.checksum) (bytes_of "\n" ++ c), length-append (stream_arrays x.names x.lows x.highs x.kinds) b, length-append (table_array x.letters x.states x.entries) a, length-append (finals_array x.finals) ending)

-- The header of a table whose streams are described.
module _ (d : StreamsDescription) (letters checksum : ℕ) (entries finals : List ℕ) where
  abbrev count : ℕ
  count = min d.count 8

  pub export_short : AllFit (take count d.lows) → AllFit (take count d.highs) → ((i : ℕ) → get_or (take count d.kinds) i 0 < 256) → ((i : ℕ) → get_or finals i 0 < 256)
      → letters < 4294967296 → checksum < 4294967296 → length entries ≤ 32768 → length finals ≤ 256 → length (export_text (described_export d letters checksum entries finals)) ≤ 344064
  export_short lows highs kinds bytes few small rows states =
      let x = described_export d letters checksum entries finals in
      let n = stored-count d.names d.lengths count in
      omega
      (arith, text-length x, counts-length (length x.names) letters (length finals) (omega arith) (omega arith) (omega arith), checksum-length checksum (omega arith), streams-length x.names x.lows x.highs x.kinds, table-length letters (length finals) entries, finals_length finals, names-length d.names d.lengths count, integers_length x.lows lows, integers_length x.highs highs, bytes-length x.kinds kinds, bytes-length finals bytes, length-take count d.lows, length-take count d.highs, length-take count d.kinds)
