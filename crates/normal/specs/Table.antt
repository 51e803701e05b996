-- Rows put into tables of numbers, and the ends of their ranges (`normal_entries/specs/Entries` has where they stand).
use Rattle.std.specs.Prelude.{Option, unwrap_or, ℕ, zero, suc, ◌+◌, ◌-◌, ◌*◌, ◌≤◌, ◌<◌, ◌≡◌, cond, List, [], ◌∷◌, ◌++◌, ltb, ℤ, pos, length, get_or, replicate}
use Rattle.std.proofs.lemmas.List.Edits.{sets}
use Rattle.meaning.specs.Window.{join_over}
use Rattle.nodes.specs.declared.Range.{Range}
use Rattle.normal_entries.specs.Row.{Row}
use Rattle.normal.specs.Rows.{Rewriting, Line, own_rows, added_rows, all_rows, streams_after}
use Rattle.normal_entries.specs.Entries.{row_bound, with_spans, refused_made}
use Rattle.normal_entries.specs.declared.Made.{Made}
use Rattle.normal.specs.declared.RowsWritten.{RowsWritten}

-- A bound that no sheet's streams exceed. It is not the largest number that a sheet has.
abbrev pub stream_limit : ℕ
stream_limit = 4095

abbrev pub numbers_of : Row → List ℕ
numbers_of r = r.kind ∷ r.relation ∷ r.left ∷ r.left_added ∷ r.right ∷ r.right_added ∷ r.source ∷ []

abbrev pub flat : List Row → List ℕ
flat rows = join_over numbers_of rows

-- Row number n has the numbers from 7 * n on.
abbrev pub put_rows : List ℕ → ℕ → List Row → List ℕ
put_rows table n rows = sets table (n * 7) (flat rows)

-- There is room for what is added in rows from a row on and in streams from a number on.
pub record RewritingFits (a : Rewriting) (row stream : ℕ) : Type 0 where
  pub rows : row + length (a.rows stream) ≤ row_bound
  pub streams : stream + a.added ≤ stream_limit

-- What is added stands in the table from a row on, and the answer has the row and the stream behind the last.
pub record Wrote (a : Rewriting) (row stream : ℕ) (old new : List ℕ) (r : RowsWritten) : Type 0 where
  pub rows : r.row ≡ row + length (a.rows stream)
  pub streams : r.stream ≡ stream + a.added
  pub table : new ≡ put_rows old row (a.rows stream)

-- A line's own entry stands in row `own`, and what it adds from `row` on.
pub record WroteLine (l : Line) (own row stream : ℕ) (old new : List ℕ) (r : RowsWritten) : Type 0 where
  pub rows : r.row ≡ row + length (l.adds.rows stream)
  pub streams : r.stream ≡ stream + l.adds.added
  pub table : new ≡ put_rows (put_rows old own (l.own stream ∷ [])) row (l.adds.rows stream)

-- All entries stand in the table: the lines' own from row `own` on, and what they add from `row` on.
pub record WroteLines (ls : List Line) (own row stream : ℕ) (old new : List ℕ) (r : RowsWritten) : Type 0 where
  pub rows : r.row ≡ row + length (added_rows stream ls)
  pub streams : r.stream ≡ streams_after stream ls
  pub table : new ≡ put_rows (put_rows old own (own_rows stream ls)) row (added_rows stream ls)

pub record LinesHaveRoom (ls : List Line) (row stream : ℕ) : Type 0 where
  pub rows : row + length (added_rows stream ls) ≤ row_bound
  pub streams : streams_after stream ls ≤ stream_limit

-- The stored lines name nodes.
pub record HasLines (kinds relations lefts rights : List ℕ) : Type 0 where
  pub nodes : length kinds ≤ 1024
  pub left_count : length lefts ≡ length relations
  pub right_count : length rights ≡ length relations
  pub left : (j : ℕ) → j < length relations → get_or lefts j 0 < length kinds
  pub right : (j : ℕ) → j < length relations → get_or rights j 0 < length kinds

-- The ends of the ranges of the first n rows, where `range` gives the range of a source.
abbrev pub source_at : List ℕ → ℕ → ℕ
source_at numbers i = get_or numbers (i * 7 + 6) 0

-- The range, or that from 0 to 0 where there is none.
abbrev pub range_or_zeros : Option Range → Range
range_or_zeros r = unwrap_or r (record { low = pos 0; high = pos 0 })

abbrev pub ends_of : Option Range → List ℤ
ends_of r = (range_or_zeros r).low ∷ (range_or_zeros r).high ∷ []

unfoldable pub ends_up_to : (ℕ → Option Range) → List ℕ → ℕ → List ℤ
ends_up_to range numbers zero = []
ends_up_to range numbers (suc n) = ends_up_to range numbers n ++ ends_of (range (source_at numbers n))

abbrev pub numbers_with : List Row → List ℕ
numbers_with rows = put_rows (replicate 30944 0) 0 rows

abbrev pub ends_with : (ℕ → Option Range) → List Row → List ℤ
ends_with range rows = sets (replicate 8256 (pos 0)) 0 (ends_up_to range (numbers_with rows) (length rows))

-- The tables with the entries of lines in them, or a refusal with tables of zeros.
unfoldable pub made_tables : List Line → ℕ → (ℕ → Option Range) → List ℕ → ℕ → Made
made_tables ls streams range spans room =
    let rows = all_rows streams ls in
    cond (ltb room (length rows))
    (refused_made 10)
    (record {
      answer = record { refusal = 0; entries = length rows; added = streams_after streams ls - streams };
      numbers = with_spans (numbers_with rows) spans;
      ends = ends_with range rows;
    })
