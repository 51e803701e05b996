-- The parts of the header, as the code appends them, make the header. All from the definitions.
use Prim.Native.Nat.{ℕ, zero, suc, ◌+◌, min}
use native.Mathlib.Numerals.{add-one}
use mathlib.Core.Path.{◌≡◌, refl, sym, ◌∙◌, ap}
use mathlib.Core.List.{List, [], ◌∷◌, ◌++◌, append_assoc}
use lib.IntN.{ℤ}
use lib.ListN.{length, take, length-append}
use Rattle.text.specs.Bytes.{Token, bytes_of}
use Rattle.sheet.specs.Names.{name_in}
use Rattle.streams.specs.declared.StreamsDescription.{StreamsDescription}
use Rattle.print.specs.Text.{digits, decimal}
use Rattle.print.specs.Lines.{lines_from, stored_names}
use Rattle.export_text.specs.Export.{element, elements, elements_line, array_text, quoted, row_line, beginning, counts_line, checksum_line, stream_arrays, table_array, finals_array, ending, export_text}
use Rattle.export_text.specs.Described.{described_export}

-- An element, from its text.
pub element-parts : (e : Token) → (bytes_of " " ++ e) ++ bytes_of "," ≡ element e
element-parts e = refl

pub counts-parts : (streams letters states checksum : ℕ)
    → ((((((((beginning ++ bytes_of "enum { SHEET_STREAMS = ") ++ digits streams) ++ bytes_of ", SHEET_LETTERS = ") ++ digits letters) ++ bytes_of ", SHEET_STATES = ") ++ digits states) ++ bytes_of " };\n#define SHEET_CRC32 UINT32_C(") ++ digits checksum) ++ bytes_of ")\n\n"
    ≡ beginning ++ (counts_line streams letters states ++ (checksum_line checksum ++ bytes_of "\n"))
counts-parts streams letters states checksum = simp append_assoc

-- The arrays of the streams, by the texts of their elements.
arrays-parts : (n l h k : List ℕ)
    → (((((((bytes_of "static const char *const sheet_names[SHEET_STREAMS] = {\n   " ++ n) ++ bytes_of "\n};\nstatic const int32_t sheet_lows[SHEET_STREAMS] = {\n   ") ++ l)
    ++ bytes_of "\n};\nstatic const int32_t sheet_highs[SHEET_STREAMS] = {\n   ") ++ h) ++ bytes_of "\n};\nstatic const uint8_t sheet_kinds[SHEET_STREAMS] = {\n   ") ++ k) ++ bytes_of "\n};\n"
    ≡ array_text (bytes_of "char *const") (bytes_of "sheet_names") (bytes_of "SHEET_STREAMS") (elements_line n)
    ++ (array_text (bytes_of "int32_t") (bytes_of "sheet_lows") (bytes_of "SHEET_STREAMS") (elements_line l)
    ++ (array_text (bytes_of "int32_t") (bytes_of "sheet_highs") (bytes_of "SHEET_STREAMS") (elements_line h)
    ++ array_text (bytes_of "uint8_t") (bytes_of "sheet_kinds") (bytes_of "SHEET_STREAMS") (elements_line k)))
arrays-parts n l h k = simp append_assoc

pub streams-parts : (names : List Token) (lows highs : List ℤ) (kinds : List ℕ)
    → (((((((bytes_of "static const char *const sheet_names[SHEET_STREAMS] = {\n   " ++ elements quoted names) ++ bytes_of "\n};\nstatic const int32_t sheet_lows[SHEET_STREAMS] = {\n   ") ++ elements decimal lows)
    ++ bytes_of "\n};\nstatic const int32_t sheet_highs[SHEET_STREAMS] = {\n   ") ++ elements decimal highs) ++ bytes_of "\n};\nstatic const uint8_t sheet_kinds[SHEET_STREAMS] = {\n   ") ++ elements digits kinds)
    ++ bytes_of "\n};\n"
    ≡ stream_arrays names lows highs kinds
streams-parts names lows highs kinds = arrays-parts (elements quoted names) (elements decimal lows) (elements decimal highs) (elements digits kinds)

pub table-parts : (letters states : ℕ) (entries finals : List ℕ)
    → (((bytes_of "static const uint8_t sheet_table[2 * SHEET_STATES * SHEET_LETTERS] = {\n" ++ lines_from (row_line letters entries) 0 states) ++ bytes_of "};\nstatic const uint8_t sheet_finals[SHEET_STATES] = {\n   ")
    ++ elements digits finals) ++ bytes_of "\n};\n\n#endif\n"
    ≡ table_array letters states entries ++ (finals_array finals ++ ending)
table-parts letters states entries finals = simp append_assoc

-- ---- all of it

pub stored-count : (names lengths : List ℕ) (k : ℕ) → length (stored_names names lengths k) ≡ k
unfolding stored_names
stored-count names lengths zero = refl
stored-count names lengths (suc k) = length-append (stored_names names lengths k) (name_in names lengths k ∷ []) ∙ ap (◌+ 1) (stored-count names lengths k) ∙ add-one k

joined : (a b c d e f : List ℕ) → ((a ++ (b ++ (c ++ d))) ++ e) ++ f ≡ a ++ (b ++ (c ++ (d ++ (e ++ f))))
joined a b c d e f = simp append_assoc

-- The header of a table whose streams are described.
pub export_parts : (d : StreamsDescription) (letters checksum : ℕ) (entries finals : List ℕ) {count : ℕ} → count ≡ min d.count 8
    → ((beginning ++ (counts_line count letters (length finals) ++ (checksum_line checksum ++ bytes_of "\n")))
    ++ stream_arrays (stored_names d.names d.lengths (min d.count 8)) (take (min d.count 8) d.lows) (take (min d.count 8) d.highs) (take (min d.count 8) d.kinds))
    ++ (table_array letters (length finals) entries ++ (finals_array finals ++ ending))
    ≡ export_text (described_export d letters checksum entries finals)
unfolding export_text
export_parts d letters checksum entries finals {count} e =
    let x = described_export d letters checksum entries finals in
    let n = e ∙ sym (stored-count d.names d.lengths (min d.count 8)) in
    joined beginning (counts_line count letters (length finals)) (checksum_line checksum) (bytes_of "\n") (stream_arrays x.names x.lows x.highs x.kinds) (table_array letters (length finals) entries ++ (finals_array finals ++ ending))
    ∙ ap (λ k. beginning ++ (counts_line k letters (length finals) ++ (checksum_line checksum ++ (bytes_of "\n" ++ (stream_arrays x.names x.lows x.highs x.kinds ++ (table_array letters (length finals) entries ++ (finals_array finals ++ ending))))))) n
