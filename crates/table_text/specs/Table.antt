-- The text of a table (document 01, "Sheets with their answers", P1).
use Rattle.std.specs.Prelude.{ℕ, zero, suc, ◌+◌, ◌*◌, ◌/◌, ◌%◌, cond, List, [], ◌++◌, map, eqb, ℤ, get_or}
use Rattle.meaning.specs.Expression.{Stream}
use Rattle.meaning.specs.Letter.{letter_count, letter_of}
use Rattle.automaton.specs.Table.{no_state}
use Rattle.letters.specs.Described.{described, has_letter}
use Rattle.print.specs.Text.{heading_line, entry_line}

-- "a line for each entry that is not 65,535": the line of a letter's entry, or nothing. No table has a row beyond its entries.
abbrev pub entry_text : List Stream → List ℕ → List ℕ → ℕ → ℕ → List ℕ
entry_text ss entries finals state letter =
    let next = get_or entries (state * letter_count ss + letter) no_state in
    cond (eqb next no_state) [] (entry_line state (get_or finals state 0) (letter_of ss letter) next)

-- "by state and letter": the lines of a state's first letters, and of the first states.
unfoldable pub row_text : List Stream → List ℕ → List ℕ → ℕ → ℕ → List ℕ
row_text ss entries finals state zero = []
row_text ss entries finals state (suc letter) = row_text ss entries finals state letter ++ entry_text ss entries finals state letter

unfoldable pub table_text : List Stream → ℕ → List ℕ → List ℕ → List ℕ
table_text ss zero entries finals = []
table_text ss (suc state) entries finals = table_text ss state entries finals ++ row_text ss entries finals state (letter_count ss)

-- What `sluice` prints of a table: "a heading with the names, then a line for each entry that is not 65,535, by state and letter".
unfoldable pub printed : List Stream → ℕ → List ℕ → List ℕ → List ℕ
printed ss states entries finals = heading_line (map (λ s. s.name) ss) ++ table_text ss states entries finals

-- The text of the entry at a place, counted by state and letter, from the streams' lowest and highest values; nothing where the streams are more
-- than eight, or have no letters, or more than a sheet can have.
unfoldable pub place_text : List ℤ → List ℤ → List ℕ → List ℕ → ℕ → List ℕ
place_text lows highs entries finals place =
    let ss = described lows highs in
    let state = place / letter_count ss in
    let letter = place % letter_count ss in
    cond (has_letter ss letter 8) (entry_text ss entries finals state letter) []
